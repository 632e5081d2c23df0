-- A pop on a sound screen's words. Assumes nothing.
use Rattle.std.proofs.Common.{◌≡◌, refl, sym, ap, ◌∙◌, Bool, true, false, ◌||◌, cond, List, [], ◌∷◌, ◌++◌, map, ℕ, suc, ◌+◌, ◌-◌, ◌*◌, ◌%◌, ◌<◌, arith, ltb, eqb, length, get_or, drop, set, replicate}
use Rattle.std.proofs.Common.{length-append, drop_at, eqb-true, eq-eqb, ltb-false}
use lib.ListN.{length-replicate}
use lib.Ieee.{Float, binary32, of_bits, nan}
use lib.Seq.{set-append_left}
use Rattle.sizes.specs.Sizes.{open-layer-size, open-layer-table, layer-attr-size, layer-attr-table}
use Rattle.rules.specs.Lists.{join}
use Rattle.rules.specs.Answers.{answer, settle, Done, NoLayer}
use Rattle.rules.specs.Boxes.{rows_in}
use Rattle.rules.specs.Segments.{Segment}
use Rattle.rules.specs.Inputs.{Props}
use Rattle.rules.specs.Attributes.{LayerAttr, Attrs, attrs-full, no-paint, no-layer}
use Rattle.screen.specs.Depths.{Depths}
use Rattle.screen.specs.Attributes.{layer-attr-words}
use Rattle.rules.specs.Words.{segment-words}
use Rattle.rules.specs.Rows.{Row, row-ops}
use Rattle.rules.specs.Plans.{Frame, Layer, State, a-pop, Plan, clip-thread, plan-pop, plan}
use Rattle.rules.specs.Steps as rule
use Rattle.rules.specs.Steps.{done, refusal, perform, touched, call}
use Rattle.rules.proofs.All.{All, neither}
use Rattle.rules.proofs.laws.Bounds.{BoundedSpan, plan-ok}
use Rattle.rules.proofs.laws.Maps.{PutOk, follows-touched}
use Rattle.cmd.specs.Attrs.{words-at}
use Rattle.row.specs.Building.{rows_at}
use Rattle.pop.specs.Closing.{touched-in, good-pops}
use Rattle.refine_row.proofs.Refines.{refines}
use Rattle.screen.specs.declared.Screen.{Screen}
use Rattle.screen.specs.Screens.{some-filter, state-of, screen-after}
use Rattle.screen.specs.Tables.{Tables, ScreenLent, float-0}
use Rattle.screen.specs.Layers.{no_words, open_at}
use Rattle.screen.proofs.LayersLaws.{words-length}
use Rattle.pop.specs.Pop as pop
use Rattle.pop.specs.Pop.{layers-in, own-rows, good-open, good_lengths, popped}
use Rattle.walk.specs.Reading.{pattern_of}
use Rattle.walk.specs.Steps.{pop-part, pop-into, call_at}
use Rattle.walk.proofs.Lists.{segments-words-length, segments-said}
use Rattle.refine_layers.proofs.Rows.{touched-own}
use Rattle.refine_steps.specs.Sound.{Sound}
use Rattle.refine_steps.specs.Lent.{table, open-words, layers-words, layers-opacities, attr-words, attr-opacity, screen-of, rows_of, lent_of, answer-of}
use Rattle.refine_steps.proofs.Tables.{table-length, table_more, table-set, table-clear, table-unset, table-last, set_after, join-append, join-length}
use Rattle.refine_steps.proofs.Kept.{passing}
use Rattle.refine_steps.proofs.Judged.{rows_cut, judged-done}
use Rattle.refine_steps.proofs.Alike.{Alike, plan-rows, plan-screen, number_is}
use Rattle.refine_steps.proofs.Planned.{same-grown}
use Rattle.refine_steps.proofs.Steps.{map-length, layers-length, layers-long, opacities-count, opacities-length, few-attrs, opacities-long}
use Rattle.refine_steps.proofs.Layers.{bare, bare-clip, bare-length, layers-read, layers-good, nan-there}
use Rattle.refine_steps.proofs.Pops.{pops-good}

abbrev screen : Frame → ℕ → Attrs → List Layer → List Row → rule.Screen Row
screen f n a ls rows = record { state = record { frame = f; next = n; attrs = a; layers = ls }; rows = rows }

-- the attribute of a layer that closes with the id n
abbrev attr-of : ℕ → Props → LayerAttr
attr-of n p = record { blend = p.blend; opacity = p.opacity; mask = p.mask; id = n; thread = clip-thread p.clip; panel = p.panel }

map_more : {A B : Type 0} (g : A → B) (xs : List A) (x : A) → map g (xs ++ (x ∷ [])) ≡ map g xs ++ (g x ∷ [])
map_more g [] x = refl
map_more g (y ∷ ys) x = ap (λ t. g y ∷ t) (map_more g ys x)

module _ (f : Frame) (n : ℕ) (a : Attrs) (rows : List Row) (b : Bool) (de : Depths) (pa : List ℕ) (ss : List Segment) where
  -- the words that are lent, and the rows' words
  abbrev at : List Layer → ScreenLent
  at ls = lent_of (screen f n a ls rows) b de pa

  abbrev layers-table : List Layer → List ℕ
  layers-table ls = table 0 open-layer-table (layers-words ls)

  read : (ls : List Layer) → layers-in (layers-table ls) (length ls) ≡ map bare ls
  unfolding table
  read ls = layers-read ls (replicate (open-layer-table - length (layers-words ls)) 0)

  -- the state that a pop reads
  abbrev inner : List Layer → State
  inner ls =
      record {
        frame = f;
        next = (state-of (screen-of (screen f n a ls rows).state b)).next;
        attrs = (state-of (screen-of (screen f n a ls rows).state b)).attrs;
        layers = map bare ls;
      }

  abbrev ours : List Layer → Plan
  ours ls = plan-pop (map bare ls) ss (touched-in (length ls) (rows_at f (rows_of (screen f n a ls rows))) (own-rows (map bare ls))) (inner ls)

  abbrev theirs : List Layer → Plan
  theirs ls = plan-pop ls ss (touched Row row-ops (length ls) 0 rows) (screen f n a ls rows).state

  module _ (ls : List Layer) (h : Sound (screen f n a ls rows)) where
    theirs-ok : (theirs ls).refused ≡ Done → All (PutOk BoundedSpan) (theirs ls).puts
    unfolding plan
    theirs-ok e = plan-ok (screen f n a ls rows).state h.built.framed (a-pop ss) (touched Row row-ops (length ls) 0 rows) e

    attrs-long : length (table 0 layer-attr-table (join attr-words a.layers)) ≡ layer-attr-table
    attrs-long = table-length 0 layer-attr-table (join attr-words a.layers) (omega (arith, join-length attr-words layer-attr-size (λ x. refl) a.layers, (few-attrs (screen f n a ls rows) h b de pa).1))

    open-good : good-open f.viewport (layers-table ls) (length ls) ≡ true
    unfolding table
    open-good = layers-good f.viewport ls h.viewport h.layers (replicate (open-layer-table - length (layers-words ls)) 0)

    first-none : pop.first (screen-of (screen f n a ls rows).state b) (pop-part (at ls)) (join segment-words ss) ≡ 0
    unfolding pop.first lent_of good_lengths
    first-none =
        let q : length (join segment-words ss) % 5 ≡ 0 = omega (arith, segments-words-length ss) in
        rw (
          judged-done (screen f n a ls rows) h b,
          eq-eqb _ _ (layers-long ls h.deep),
          eq-eqb _ _ (opacities-long (screen f n a ls rows) h b de pa),
          eq-eqb _ _ attrs-long,
          eq-eqb _ _ q,
          open-good,
        )

    rows-fine : (ks : List Layer) → length ks ≡ length ls → good-pops f.c f.d (length ls) (rows_at f (rows_of (screen f n a ls rows))) (own-rows (map bare ks)) ≡ true
    unfolding own-rows good-pops
    rows-fine [] e = refl
    rows-fine (l ∷ ks) e =
        rw (rows_cut (screen f n a ls rows) h)
        (pops-good f.c f.d (length ls) (omega arith) rows (λ j. (h.rows j, (h.reaching.rows j).few)) h.built.fine (rows_in l.bounds))

  -- the touched rows
  touched-same : (l : Layer) (ls : List Layer) (h : Sound (screen f n a (l ∷ ls) rows))
      → touched-in (suc (length ls)) (rows_at f (rows_of (screen f n a (l ∷ ls) rows))) (rows_in l.bounds) ≡ touched Row row-ops (suc (length ls)) 0 rows
  touched-same l ls h =
      rw (rows_cut (screen f n a (l ∷ ls) rows) h)
      (sym (touched-own f.c f.d (screen f n a (l ∷ ls) rows) l ls h.reaching refl)
      ∙ follows-touched (refines f.c f.d) (suc (length ls)) 0 h.built.fine)

  alike : (ls : List Layer) → Sound (screen f n a ls rows) → Alike (screen f n a ls rows).state (ours ls) (theirs ls)
  unfolding plan-pop state-of own-rows
  alike [] h =
      record {
        refused = refl;
        next = refl;
        puts = refl;
        deep = refl;
        clip = refl;
        paints = same-grown no-paint a.paints;
        layers = length-replicate (length a.layers) no-layer;
        filters = same-grown some-filter a.filters;
      }
  alike (l ∷ ls) h =
      record {
        refused = refl;
        next = refl;
        puts = rw (touched-same l ls h, bare-clip f.viewport ls, length-replicate (length a.layers) no-layer);
        deep = bare-length ls;
        clip = bare-clip f.viewport ls;
        paints = same-grown no-paint a.paints;
        layers = simp (length-append, length-replicate) refl;
        filters = same-grown some-filter a.filters;
      }

  module _ (ls : List Layer) (h : Sound (screen f n a ls rows)) where
    plan-is : pop.pop-plan (screen-of (screen f n a ls rows).state b) (pop-part (at ls)) (join segment-words ss) ≡ ours ls
    unfolding lent_of
    plan-is = rw (read ls, segments-said ss)

    pop-number : pop.number (screen-of (screen f n a ls rows).state b) (pop-part (at ls)) (join segment-words ss) ≡ refusal Row row-ops (theirs ls) (done Row row-ops (theirs ls) (screen f n a ls rows))
    unfolding pop.number-after lent_of
    pop-number =
        rw (read ls, segments-said ss)
        (number_is (screen f n a ls rows) h (inner ls) refl (ours ls) (theirs ls) (alike ls h) (theirs-ok ls h)
        (pop.first (screen-of (screen f n a ls rows).state b) (pop-part (at ls)) (join segment-words ss))
        (good-pops f.c f.d (length ls) (rows_at f (rows_of (screen f n a ls rows))) (own-rows (map bare ls)))
        (first-none ls h) (rows-fine ls h ls refl))

    pop-rows : refusal Row row-ops (theirs ls) (done Row row-ops (theirs ls) (screen f n a ls rows)) ≡ Done
        → (pop.lent-after (screen-of (screen f n a ls rows).state b) (pop-part (at ls)) (join segment-words ss)).words ≡ rows_of (done Row row-ops (theirs ls) (screen f n a ls rows))
    unfolding lent_of
    pop-rows e =
        rw (read ls, segments-said ss)
        (plan-rows (screen f n a ls rows) h (inner ls) refl (ours ls) (theirs ls) (alike ls h) (theirs-ok ls h) e)

    pop-screen : screen-after (screen-of (screen f n a ls rows).state b) (pop.pop-plan (screen-of (screen f n a ls rows).state b) (pop-part (at ls)) (join segment-words ss))
        ≡ screen-of (done Row row-ops (theirs ls) (screen f n a ls rows)).state false
    pop-screen = rw plan-is (plan-screen (screen f n a ls rows) h b (ours ls) (theirs ls) (alike ls h) (theirs-ok ls h))

  -- the innermost of the layers
  module _ (l : Layer) (ls : List Layer) (h : Sound (screen f n a (l ∷ ls) rows)) where
    abbrev before : rule.Screen Row
    before = screen f n a (l ∷ ls) rows

    abbrev the-attr : LayerAttr
    the-attr = attr-of n l.props

    last-place : suc (length ls) - 1 ≡ length ls
    last-place = omega arith

    few : length ls < 16
    few = h.deep

    theirs-leave : ((theirs (l ∷ ls)).layers ≡ ls) × ((theirs (l ∷ ls)).attrs ≡ record { paints = a.paints; layers = a.layers ++ (the-attr ∷ []); filters = a.filters })
    unfolding plan-pop
    theirs-leave = (refl, refl)

    layers-left : words-at (layers-table (l ∷ ls)) (open-layer-size * (suc (length ls) - 1)) no_words ≡ layers-table ls
    unfolding layers-words
    layers-left =
        rw last-place
        (table-clear 0 open-layer-table (open-layer-size * length ls) open-layer-size (layers-words ls) (open-words l) (layers-length ls) (words-length l (pattern_of l.props.opacity)) (omega (arith, few)))

    abbrev its-opacity : Float
    its-opacity = of_bits binary32 l.props.opacity

    abbrev attr-table : List Float
    attr-table = table float-0 1024 (map attr-opacity a.layers)

    opacities-left : length a.layers < 1024
        → set (set (table float-0 16 (layers-opacities (l ∷ ls)) ++ attr-table) (16 + length a.layers) (get_or (table float-0 16 (layers-opacities (l ∷ ls)) ++ attr-table) (suc (length ls) - 1) nan)) (suc (length ls) - 1) float-0
        ≡ table float-0 16 (layers-opacities ls) ++ table float-0 1024 (map attr-opacity (a.layers ++ (the-attr ∷ [])))
    unfolding layers-opacities
    opacities-left m =
        let o : List Float = table float-0 16 (layers-opacities ls ++ (its-opacity ∷ [])) in
        let c : length (layers-opacities ls) ≡ length ls = opacities-count ls in
        let k : length (table float-0 16 (layers-opacities ls ++ (its-opacity ∷ []))) ≡ 16 = opacities-length (l ∷ ls) h.deep in
        let t1 : set (table float-0 16 (layers-opacities ls ++ (its-opacity ∷ [])) ++ attr-table) (16 + length a.layers) its-opacity
        ≡ table float-0 16 (layers-opacities ls ++ (its-opacity ∷ [])) ++ table float-0 1024 (map attr-opacity a.layers ++ (its-opacity ∷ []))
        = ap (λ (i : ℕ). set (table float-0 16 (layers-opacities ls ++ (its-opacity ∷ [])) ++ attr-table) (i + length a.layers) its-opacity) (sym k)
        ∙ set_after (table float-0 16 (layers-opacities ls ++ (its-opacity ∷ []))) attr-table (length a.layers) its-opacity
        ∙ ap (λ (t : List Float). table float-0 16 (layers-opacities ls ++ (its-opacity ∷ [])) ++ t) (table-set float-0 1024 (length a.layers) (map attr-opacity a.layers) its-opacity (map-length attr-opacity a.layers) m) in
        rw (last-place, table-last float-0 nan 16 (length ls) (layers-opacities ls) its-opacity attr-table c, t1)
        (set-append_left (table float-0 16 (layers-opacities ls ++ (its-opacity ∷ []))) (table float-0 1024 (map attr-opacity a.layers ++ (its-opacity ∷ []))) (length ls) float-0 (rw k few)
        ∙ rw (table-unset float-0 16 (length ls) (layers-opacities ls) its-opacity c few, map_more attr-opacity a.layers the-attr))

    drop-is : drop (length a.layers) (ours (l ∷ ls)).attrs.layers
        ≡ attr-of n (bare l).props ∷ []
    unfolding plan-pop state-of
    drop-is = drop_at (replicate (length a.layers) no-layer) _ (length a.layers) (length-replicate (length a.layers) no-layer)

    nan_is : (open_at (at (l ∷ ls)).tables.layers (suc (length ls) - 1)).nan ≡ pattern_of l.props.opacity
    unfolding lent_of table
    nan_is = rw last-place (nan-there l ls (replicate (open-layer-table - length (layers-words (l ∷ ls))) 0))

    new_is : pop.new-words (screen-of before.state b) (pop-part (at (l ∷ ls))) (join segment-words ss) ≡ attr-words the-attr
    new_is =
        let pattern = (open_at (at (l ∷ ls)).tables.layers (suc (length ls) - 1)).nan in
        ap (λ (p : Plan). join (λ (x : LayerAttr). layer-attr-words x pattern) (drop (length a.layers) p.attrs.layers)) (plan-is (l ∷ ls) h)
        ∙ ap (λ (xs : List LayerAttr). join (λ (x : LayerAttr). layer-attr-words x pattern) xs) drop-is
        ∙ ap (layer-attr-words the-attr) nan_is

    attrs-left : words-at (table 0 layer-attr-table (join attr-words a.layers)) (layer-attr-size * length a.layers) (attr-words the-attr) ≡ table 0 layer-attr-table (join attr-words (a.layers ++ (the-attr ∷ [])))
    attrs-left =
        rw (join-append attr-words a.layers (the-attr ∷ []))
        (table_more 0 layer-attr-table (layer-attr-size * length a.layers) (join attr-words a.layers) (attr-words the-attr) (join-length attr-words layer-attr-size (λ x. refl) a.layers))

    room-left : refusal Row row-ops (theirs (l ∷ ls)) (done Row row-ops (theirs (l ∷ ls)) before) ≡ Done → length a.layers < 1024
    room-left e =
        let k : attrs-full (record { paints = a.paints; layers = a.layers ++ (the-attr ∷ []); filters = a.filters }) ≡ false = rw theirs-leave.1 at (passing (theirs (l ∷ ls)) (done Row row-ops (theirs (l ∷ ls)) before) e).attrs in
        let f1 = ltb 1024 (length a.paints) in
        let f2 = ltb 1024 (length (a.layers ++ (the-attr ∷ []))) in
        let f3 = ltb 256 (length a.filters) in
        let j = neither f1 f2 (neither (f1 || f2) f3 k).0 in
        omega (arith, ltb-false 1024 (length (a.layers ++ (the-attr ∷ []))) j.1, length-append a.layers (the-attr ∷ []))

    pop-after : refusal Row row-ops (theirs (l ∷ ls)) (done Row row-ops (theirs (l ∷ ls)) before) ≡ Done
        → pop-into (at (l ∷ ls)).tables
        (pop.out Done (screen-after (screen-of before.state b) (pop.pop-plan (screen-of before.state b) (pop-part (at (l ∷ ls))) (join segment-words ss)))
        (pop.lent-after (screen-of before.state b) (pop-part (at (l ∷ ls))) (join segment-words ss)))
        ≡ answer Done (lent_of (done Row row-ops (theirs (l ∷ ls)) before) false de pa)
    unfolding lent_of done
    pop-after e = rw (pop-screen (l ∷ ls) h, pop-rows (l ∷ ls) h e, new_is, layers-left, opacities-left (room-left e), attrs-left, theirs-leave.0, theirs-leave.1)

-- an answer at the words, from its number and what stands afterwards
pop-settled : (t : Tables) (k n : ℕ) (x y : Screen) (u v : pop.PopLent) (s s' : rule.Screen Row) (b : Bool) (de : Depths) (pa : List ℕ) → k ≡ n
    → pop-into t (pop.out n x u) ≡ answer n (lent_of s b de pa) → (n ≡ Done → pop-into t (pop.out Done y v) ≡ answer Done (lent_of s' false de pa))
    → pop-into t (cond (eqb k Done) (pop.out Done y v) (pop.out k x u)) ≡ answer-of (settle n s s') b de pa
pop-settled t k n x y u v s s' b de pa e p q = rw e (go (eqb n Done) refl)
  where
    go : (c : Bool) → eqb n Done ≡ c → pop-into t (cond c (pop.out Done y v) (pop.out n x u)) ≡ answer-of (cond c (answer Done s') (answer n s)) b de pa
    go true z = q (eqb-true n Done z)
    go false z = rw z p

module _ (f : Frame) (n : ℕ) (a : Attrs) (rows : List Row) (b : Bool) (de : Depths) (pa : List ℕ) (ss : List Segment) where
  none_open : Sound (screen f n a [] rows) → refusal Row row-ops (theirs f n a rows b de pa ss []) (done Row row-ops (theirs f n a rows b de pa ss []) (screen f n a [] rows)) ≡ Done → ⊥
  unfolding plan-pop
  none_open h e = let z : NoLayer ≡ Done = (passing (theirs f n a rows b de pa ss []) (done Row row-ops (theirs f n a rows b de pa ss []) (screen f n a [] rows)) e).own in omega arith

  afterwards : (ls : List Layer) → Sound (screen f n a ls rows) → refusal Row row-ops (theirs f n a rows b de pa ss ls) (done Row row-ops (theirs f n a rows b de pa ss ls) (screen f n a ls rows)) ≡ Done
      → pop-into (lent_of (screen f n a ls rows) b de pa).tables
      (pop.out Done (screen-after (screen-of (screen f n a ls rows).state b) (pop.pop-plan (screen-of (screen f n a ls rows).state b) (pop-part (lent_of (screen f n a ls rows) b de pa)) (join segment-words ss)))
      (pop.lent-after (screen-of (screen f n a ls rows).state b) (pop-part (lent_of (screen f n a ls rows) b de pa)) (join segment-words ss)))
      ≡ answer Done (lent_of (done Row row-ops (theirs f n a rows b de pa ss ls) (screen f n a ls rows)) false de pa)
  afterwards [] h e = absurd (none_open h e)
  afterwards (l ∷ ls) h e = pop-after f n a rows b de pa ss l ls h e

  same-screen : (ls : List Layer) → (lent_of (screen f n a ls rows) b de pa).screen ≡ screen-of (screen f n a ls rows).state b
  unfolding lent_of
  same-screen ls = refl

  same-lent : (k : ℕ) (ls : List Layer)
      → pop-into (lent_of (screen f n a ls rows) b de pa).tables (pop.out k (screen-of (screen f n a ls rows).state b) (pop-part (lent_of (screen f n a ls rows) b de pa))) ≡ answer k (lent_of (screen f n a ls rows) b de pa)
  unfolding lent_of
  same-lent k ls = refl

  pop-as : (ls : List Layer) → Sound (screen f n a ls rows) → call_at (a-pop ss) (lent_of (screen f n a ls rows) b de pa) ≡ answer-of (call Row row-ops (a-pop ss) (screen f n a ls rows)) b de pa
  unfolding call_at call perform plan popped
  pop-as ls h =
      rw (same-screen ls)
      (pop-settled (lent_of (screen f n a ls rows) b de pa).tables
      (pop.number (screen-of (screen f n a ls rows).state b) (pop-part (lent_of (screen f n a ls rows) b de pa)) (join segment-words ss))
      (refusal Row row-ops (theirs f n a rows b de pa ss ls) (done Row row-ops (theirs f n a rows b de pa ss ls) (screen f n a ls rows)))
      (screen-of (screen f n a ls rows).state b)
      (screen-after (screen-of (screen f n a ls rows).state b) (pop.pop-plan (screen-of (screen f n a ls rows).state b) (pop-part (lent_of (screen f n a ls rows) b de pa)) (join segment-words ss)))
      (pop-part (lent_of (screen f n a ls rows) b de pa))
      (pop.lent-after (screen-of (screen f n a ls rows).state b) (pop-part (lent_of (screen f n a ls rows) b de pa)) (join segment-words ss))
      (screen f n a ls rows) (done Row row-ops (theirs f n a rows b de pa ss ls) (screen f n a ls rows)) b de pa
      (pop-number f n a rows b de pa ss ls h) (same-lent _ ls) (afterwards ls h))

pub pop-stepped : (s : rule.Screen Row) → Sound s → (b : Bool) (de : Depths) (pa : List ℕ) (ss : List Segment) → call_at (a-pop ss) (lent_of s b de pa) ≡ answer-of (call Row row-ops (a-pop ss) s) b de pa
pop-stepped s h b de pa ss = pop-as s.state.frame s.state.next s.state.attrs s.rows b de pa ss s.state.layers h
