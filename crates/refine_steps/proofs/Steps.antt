-- Fills, filter fills and pushes on a sound screen's words. Assumes nothing.
use Rattle.std.proofs.Common.{◌≡◌, refl, ap, ◌∙◌, Bool, true, false, ◌||◌, cond, List, [], ◌∷◌, ◌++◌, map, append-nil, Option, None, Some, ℕ, suc, ◌*◌, ◌%◌, ◌≤◌, ◌<◌, arith, ltb, eqb, pos, length}
use Rattle.std.proofs.Common.{drop, set, length-append, eqb-true, eq-eqb, ltb-false}
use Rattle.refine_layers.proofs.Laws.{filter-plans}
use lib.Seq.{set-append_left}
use lib.Ieee.{Float, binary32, of_bits}
use Rattle.sizes.specs.Sizes.{open-layer-size, open-layer-table, opacity-count, paint-attr-size, paint-attr-table, filter-paint-size, filter-paint-table}
use Rattle.rules.specs.Lists.{join, is-empty}
use Rattle.rules.specs.Answers.{answer, settle, Done}
use Rattle.rules.specs.Segments.{Segment}
use Rattle.rules.specs.Inputs.{Paint, Draw, draw-segments, Clip, Props, Filter}
use Rattle.screen.specs.Depths.{Depths}
use Rattle.screen.specs.Attributes.{paint-attr-words}
use Rattle.rules.specs.Words.{paint-words, segment-words}
use Rattle.rules.specs.Rows.{Row, row-ops}
use Rattle.rules.specs.Plans.{Layer, State, a-fill, a-push, a-filter, Plan, box_of, plan-fill, layer-box, plan-push, plan-filter-in, plan-filter, plan}
use Rattle.rules.specs.Steps as rule
use Rattle.rules.specs.Steps.{done, refusal, perform, call}
use Rattle.rules.proofs.All.{All, neither}
use Rattle.rules.proofs.laws.Bounds.{BoundedSpan, plan-ok}
use Rattle.rules.proofs.laws.Maps.{PutOk}
use Rattle.cmd.specs.Attrs.{words-at}
use Rattle.screen.specs.Screens.{state-of}
use Rattle.screen.specs.Tables.{ScreenLent, float-0}
use Rattle.layers.specs.Filter as filter
use Rattle.layers.specs.Filter.{given, filter-number, filter-paint-words, filtered}
use Rattle.fill.specs.Fills as fills
use Rattle.layers.specs.Push as push
use Rattle.screen.specs.Layers.{props-of, clip-of, layer-words}
use Rattle.screen.proofs.LayersLaws.{words-length}
use Rattle.walk.specs.Reading.{pattern_of, draw_in, clip_in, props_in}
use Rattle.walk.proofs.Given.{pattern-good}
use Rattle.walk.specs.Steps.{filter_in, fill-part, fill-into, push-part, push-into, filter-part, filter-into, with_value, call_at}
use Rattle.walk.proofs.Lists.{paints-words-length, segments-words-length, paints-said, segments-said}
use Rattle.refine_steps.specs.Sound.{Sound}
use Rattle.refine_steps.specs.Lent.{table, open-words, layers-words, layers-opacities, attr-opacity, screen-of, lent_of, answer-of}
use Rattle.refine_steps.proofs.Tables.{table-length, table_more, table-set, join-append, join-length}
use Rattle.refine_steps.proofs.Kept.{passing}
use Rattle.refine_steps.proofs.Judged.{judged-done}
use Rattle.refine_steps.proofs.Alike.{box-same, Grown, grown-new, Alike, rows_is, plan-screen, step_is}
use Rattle.refine_steps.proofs.Planned.{painted, filter_alike, fill-alike, push-alike}

-- an answer at the words, from its number and what stands afterwards
pub settled : {X : Type 0} (f : X → ScreenLent) (k n : ℕ) (x y : X) (s t : rule.Screen Row) (b : Bool) (de : Depths) (pa : List ℕ)
    → k ≡ n → f x ≡ lent_of s b de pa → (n ≡ Done → f y ≡ lent_of t false de pa) → with_value f (settle k x y) ≡ answer-of (settle n s t) b de pa
settled f k n x y s t b de pa e p q = rw e (go (eqb n Done) refl)
  where
    go : (c : Bool) → eqb n Done ≡ c → with_value f (cond c (answer Done y) (answer n x)) ≡ answer-of (cond c (answer Done t) (answer n s)) b de pa
    go true z = rw (q (eqb-true n Done z))
    go false z = rw (z, p)

-- the words of what is new, written after the others
pub grown-table : {A B : Type 0} (z : B) (n k : ℕ) (f : A → List B) → ((x : A) → length (f x) ≡ k) → {d : A} {old xs ys : List A} → Grown d old xs ys
    → words-at (table z n (join f old)) (k * length old) (join f (drop (length old) xs)) ≡ table z n (join f ys)
grown-table z n k f e {d} {old} {xs} {ys} g =
    rw (grown-new g, g.ours, join-append f old g.new) (table_more z n (k * length old) (join f old) (join f g.new) (join-length f k e old))

-- the open layers' words and opacities, by their number
pub layers-length : (ls : List Layer) → length (layers-words ls) ≡ open-layer-size * length ls
unfolding layers-words
layers-length [] = refl
layers-length (l ∷ ls) = length-append (layers-words ls) (open-words l) ∙ omega (arith, words-length l (pattern_of l.props.opacity), layers-length ls)

pub layers-long : (ls : List Layer) → length ls ≤ 16 → length (table 0 open-layer-table (layers-words ls)) ≡ open-layer-table
layers-long ls d = table-length 0 open-layer-table (layers-words ls) (omega (arith, layers-length ls))

pub opacities-count : (ls : List Layer) → length (layers-opacities ls) ≡ length ls
unfolding layers-opacities
opacities-count [] = refl
opacities-count (l ∷ ls) = length-append (layers-opacities ls) (of_bits binary32 l.props.opacity ∷ []) ∙ omega (arith, opacities-count ls)

pub opacities-length : (ls : List Layer) → length ls ≤ 16 → length (table float-0 16 (layers-opacities ls)) ≡ 16
opacities-length ls d = table-length float-0 16 (layers-opacities ls) (omega (arith, opacities-count ls))

pub map-length : {A B : Type 0} (f : A → B) (xs : List A) → length (map f xs) ≡ length xs
map-length f [] = refl
map-length f (x ∷ xs) = ap suc (map-length f xs)

module _ (s : rule.Screen Row) (h : Sound s) (b : Bool) (de : Depths) (pa : List ℕ) where
  abbrev st : State
  st = s.state

  pub few-attrs : (length st.attrs.paints ≤ 1024) × (length st.attrs.layers ≤ 1024) × (length st.attrs.filters ≤ 256)
  few-attrs =
      let f1 = ltb 1024 (length st.attrs.paints) in
      let f2 = ltb 1024 (length st.attrs.layers) in
      let f3 = ltb 256 (length st.attrs.filters) in
      let k = neither (f1 || f2) f3 h.attrs in
      let j = neither f1 f2 k.0 in
      (ltb-false 1024 (length st.attrs.paints) j.0, ltb-false 1024 (length st.attrs.layers) j.1, ltb-false 256 (length st.attrs.filters) k.1)

  paints-long : length (table 0 paint-attr-table (join paint-attr-words st.attrs.paints)) ≡ paint-attr-table
  paints-long = table-length 0 paint-attr-table (join paint-attr-words st.attrs.paints) (omega (arith, join-length paint-attr-words paint-attr-size (λ a. refl) st.attrs.paints, few-attrs.0))

  filters-long : length (table (pos 0) filter-paint-table (join filter-paint-words st.attrs.filters)) ≡ filter-paint-table
  filters-long = table-length (pos 0) filter-paint-table (join filter-paint-words st.attrs.filters) (omega (arith, join-length filter-paint-words filter-paint-size (λ a. refl) st.attrs.filters, few-attrs.2))

  pub opacities-long : length (table float-0 16 (layers-opacities st.layers) ++ table float-0 1024 (map attr-opacity st.attrs.layers)) ≡ opacity-count
  opacities-long =
      let k : length (map attr-opacity st.attrs.layers) ≤ 1024 = rw map-length few-attrs.1 in
      length-append (table float-0 16 (layers-opacities st.layers)) (table float-0 1024 (map attr-opacity st.attrs.layers))
      ∙ omega (arith, opacities-length st.layers h.deep, table-length float-0 1024 (map attr-opacity st.attrs.layers) k)

  -- a filter fill
  module _ (count : ℕ) (f : Filter) (q : ℕ) where
    abbrev filter-plan : Plan
    filter-plan = plan-filter count f q st

    filter-ok : filter-plan.refused ≡ Done → All (PutOk BoundedSpan) filter-plan.puts
    unfolding plan
    filter-ok e = plan-ok st h.built.framed (a-filter count f q) [] e

    filter-keeps : ((plan-filter count f q st).layers ≡ st.layers) × ((plan-filter count f q st).attrs.layers ≡ st.attrs.layers)
    unfolding plan-filter plan-filter-in
    filter-keeps = filter-plans (λ p. (p.layers ≡ st.layers) × (p.attrs.layers ≡ st.attrs.layers)) count f q st (refl, refl) (refl, refl) (λ e. (refl, refl))

    filter-first : filter.first-number (filter-part (lent_of s b de pa)) ≡ 0
    unfolding lent_of
    filter-first = rw (judged-done s h b, eq-eqb _ _ paints-long, eq-eqb _ _ filters-long)

    filter-is : filter-number (given (filter_in f) count q) (filter-part (lent_of s b de pa)) ≡ refusal Row row-ops filter-plan (done Row row-ops filter-plan s)
    unfolding filter-number lent_of
    filter-is =
        step_is s h b (plan-filter count f q (state-of (screen-of st b))) filter-plan (filter_alike st b count f q) filter-ok
        (filter.first-number (filter-part (lent_of s b de pa))) filter-first

    filter-after : refusal Row row-ops filter-plan (done Row row-ops filter-plan s) ≡ Done
        → filter-into (lent_of s b de pa).tables (filter.after (given (filter_in f) count q) (filter-part (lent_of s b de pa))) ≡ lent_of (done Row row-ops filter-plan s) false de pa
    unfolding filter.after lent_of done
    filter-after e =
        let a = filter_alike st b count f q in
        let p = plan-filter count f q (state-of (screen-of st b)) in
        rw (
          plan-screen s h b p filter-plan a filter-ok,
          rows_is s h b p filter-plan a filter-ok e,
          grown-table 0 paint-attr-table paint-attr-size paint-attr-words (λ x. refl) a.paints,
          grown-table (pos 0) filter-paint-table filter-paint-size filter-paint-words (λ x. refl) a.filters,
          filter-keeps.0,
          filter-keeps.1,
        )

    pub filter-stepped : call_at (a-filter count f q) (lent_of s b de pa) ≡ answer-of (call Row row-ops (a-filter count f q) s) b de pa
    unfolding call_at filtered call perform plan
    filter-stepped =
        settled (filter-into (lent_of s b de pa).tables) (filter-number (given (filter_in f) count q) (filter-part (lent_of s b de pa))) (refusal Row row-ops filter-plan (done Row row-ops filter-plan s))
        (filter-part (lent_of s b de pa)) (filter.after (given (filter_in f) count q) (filter-part (lent_of s b de pa))) s (done Row row-ops filter-plan s) b de pa filter-is refl filter-after

  -- a fill
  module _ (ps : List Paint) (ss : List Segment) (d : Draw) where
    abbrev the-fill : Plan
    the-fill = plan-fill ps ss d st

    fill-ok : the-fill.refused ≡ Done → All (PutOk BoundedSpan) the-fill.puts
    unfolding plan
    fill-ok e = plan-ok st h.built.framed (a-fill ps ss d) [] e

    fill-keeps : (the-fill.layers ≡ st.layers) × (the-fill.attrs.layers ≡ st.attrs.layers) × (the-fill.attrs.filters ≡ st.attrs.filters)
    unfolding plan-fill
    fill-keeps = let k = go (is-empty (draw-segments ss d)) in (refl, k.0, k.1)
      where
        go : (t : Bool)
            → ((cond t st.attrs (painted st d)).layers ≡ st.attrs.layers)
            × ((cond t st.attrs (painted st d)).filters ≡ st.attrs.filters)
        go true = (refl, refl)
        go false = (refl, append-nil st.attrs.filters)

    fill-first : fills.first-of-lent (fill-part (lent_of s b de pa)) (join paint-words ps) (join segment-words ss) ≡ 0
    unfolding lent_of fills.first_number
    fill-first =
        let p : length (join paint-words ps) % 4 ≡ 0 = omega (arith, paints-words-length ps) in
        let q : length (join segment-words ss) % 5 ≡ 0 = omega (arith, segments-words-length ss) in
        rw (judged-done s h b, eq-eqb _ _ paints-long, eq-eqb _ _ p, eq-eqb _ _ q)

    fill_is : fills.fill_number (fill-part (lent_of s b de pa)) (join paint-words ps) (join segment-words ss) (draw_in d) ≡ refusal Row row-ops the-fill (done Row row-ops the-fill s)
    unfolding fills.fill_number lent_of state-of
    fill_is =
        rw (paints-said ps, segments-said ss)
        (step_is s h b (plan-fill ps ss d (state-of (screen-of st b))) the-fill (fill-alike st b ps ss d) fill-ok
        (fills.first-of-lent (fill-part (lent_of s b de pa)) (join paint-words ps) (join segment-words ss)) fill-first)

    fill-after : refusal Row row-ops the-fill (done Row row-ops the-fill s) ≡ Done
        → fill-into (lent_of s b de pa).tables (fills.fill_done (fill-part (lent_of s b de pa)) (join paint-words ps) (join segment-words ss) (draw_in d)) ≡ lent_of (done Row row-ops the-fill s) false de pa
    unfolding fills.fill_done lent_of done
    fill-after e =
        let a = fill-alike st b ps ss d in
        let p = plan-fill ps ss d (state-of (screen-of st b)) in
        rw (
          paints-said ps,
          segments-said ss,
          plan-screen s h b p the-fill a fill-ok,
          rows_is s h b p the-fill a fill-ok e,
          grown-table 0 paint-attr-table paint-attr-size paint-attr-words (λ x. refl) a.paints,
          fill-keeps.0,
          fill-keeps.1,
          fill-keeps.2,
        )

    pub fill-stepped : call_at (a-fill ps ss d) (lent_of s b de pa) ≡ answer-of (call Row row-ops (a-fill ps ss d) s) b de pa
    unfolding call_at call perform plan
    fill-stepped =
        settled (fill-into (lent_of s b de pa).tables) (fills.fill_number (fill-part (lent_of s b de pa)) (join paint-words ps) (join segment-words ss) (draw_in d)) (refusal Row row-ops the-fill (done Row row-ops the-fill s))
        (fill-part (lent_of s b de pa)) (fills.fill_done (fill-part (lent_of s b de pa)) (join paint-words ps) (join segment-words ss) (draw_in d)) s (done Row row-ops the-fill s) b de pa fill_is refl fill-after

  -- a push
  module _ (p : Props) where
    abbrev the-push : Plan
    the-push = plan-push p st

    abbrev the_layer : Layer
    the_layer = record { props = p; bounds = layer-box st.frame.viewport (box_of st) p.clip }

    push_ok : the-push.refused ≡ Done → All (PutOk BoundedSpan) the-push.puts
    unfolding plan
    push_ok e = plan-ok st h.built.framed (a-push p) [] e

    clip-back : (c : Option Clip) → clip-of (clip_in c) ≡ c
    clip-back None = refl
    clip-back (Some c) = refl

    push-same : Alike st (push.plan-of (props_in p) (screen-of st b)) the-push
    push-same = push-alike st b (props-of (props_in p)) p (rw (clip-back p.clip)) refl (clip-back p.clip)

    push-layers : (the-push.layers ≡ the_layer ∷ st.layers) × (the-push.attrs ≡ st.attrs)
    unfolding plan-push
    push-layers = (refl, refl)

    top-is : (n : ℕ) → push.top-words (push.plan-of (props_in p) (screen-of st b)).layers n ≡ layer-words the_layer n
    unfolding plan-push state-of
    top-is n = rw (clip-back p.clip, box-same st b)

    push-first : push.first-number (props_in p) (push-part (lent_of s b de pa)) ≡ 0
    unfolding lent_of
    push-first = rw (judged-done s h b, eq-eqb _ _ (layers-long st.layers h.deep), eq-eqb _ _ opacities-long, pattern-good p.opacity)

    push-is : push.push-number (props_in p) (push-part (lent_of s b de pa)) ≡ refusal Row row-ops the-push (done Row row-ops the-push s)
    unfolding push.push-number lent_of
    push-is =
        step_is s h b (push.plan-of (props_in p) (screen-of st b)) the-push push-same push_ok
        (push.first-number (props_in p) (push-part (lent_of s b de pa))) push-first

    new-layers : words-at (table 0 open-layer-table (layers-words st.layers)) (open-layer-size * length st.layers) (push.top-words (push.plan-of (props_in p) (screen-of st b)).layers (pattern_of p.opacity))
        ≡ table 0 open-layer-table (layers-words the-push.layers)
    unfolding layers-words
    new-layers = rw (top-is (pattern_of p.opacity), push-layers.0) (table_more 0 open-layer-table (open-layer-size * length st.layers) (layers-words st.layers) (open-words the_layer) (layers-length st.layers))

    new-opacities : length st.layers < 16 → (ys : List Float)
        → set (table float-0 16 (layers-opacities st.layers) ++ ys) (length st.layers) (of_bits binary32 p.opacity) ≡ table float-0 16 (layers-opacities the-push.layers) ++ ys
    unfolding layers-opacities
    new-opacities l ys =
        let k : length st.layers < length (table float-0 16 (layers-opacities st.layers)) = rw (opacities-length st.layers h.deep) l in
        rw push-layers.0
        (set-append_left (table float-0 16 (layers-opacities st.layers)) ys (length st.layers) (of_bits binary32 p.opacity) k
        ∙ ap (λ (t : List Float). t ++ ys) (table-set float-0 16 (length st.layers) (layers-opacities st.layers) (of_bits binary32 p.opacity) (opacities-count st.layers) l))

    deep-enough : refusal Row row-ops the-push (done Row row-ops the-push s) ≡ Done → length st.layers < 16
    deep-enough e = rw push-layers.0 at (passing the-push (done Row row-ops the-push s) e).deep

    push-after : refusal Row row-ops the-push (done Row row-ops the-push s) ≡ Done
        → push-into (lent_of s b de pa).tables (push.after (props_in p) (push-part (lent_of s b de pa))) ≡ lent_of (done Row row-ops the-push s) false de pa
    unfolding push.after lent_of done
    push-after e =
        rw (
          plan-screen s h b (push.plan-of (props_in p) (screen-of st b)) the-push push-same push_ok,
          rows_is s h b (push.plan-of (props_in p) (screen-of st b)) the-push push-same push_ok e,
          new-layers,
          new-opacities (deep-enough e) (table float-0 1024 (map attr-opacity st.attrs.layers)),
          push-layers.1,
        )

    pub push-stepped : call_at (a-push p) (lent_of s b de pa) ≡ answer-of (call Row row-ops (a-push p) s) b de pa
    unfolding call_at call perform plan push.pushed
    push-stepped =
        settled (push-into (lent_of s b de pa).tables) (push.push-number (props_in p) (push-part (lent_of s b de pa))) (refusal Row row-ops the-push (done Row row-ops the-push s))
        (push-part (lent_of s b de pa)) (push.after (props_in p) (push-part (lent_of s b de pa))) s (done Row row-ops the-push s) b de pa push-is refl push-after
