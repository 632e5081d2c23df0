-- A pop's number, way by way, and what stands when it is 0. Assumes nothing.
use Rattle.std.proofs.Common.{◌≡◌, refl, sym, ap, ◌∙◌, Bool, true, false, ◌&&◌, ◌||◌, not, cond, List, [], ◌∷◌, ◌++◌, map, None, Some, ℕ, zero, suc, ◌+◌, ◌-◌, ◌/◌, ◌≤◌, ◌<◌, arith, leb, ltb, eqb}
use Rattle.std.proofs.Common.{length, length-append, eqb-true, le-ltb, le-leb}
use borrow.Author.Tests.{lt-leb}
use Rattle.sizes.specs.Widths.{bucket-tiles}
use Rattle.rules.specs.Lists.{some_of, join, slice}
use Rattle.rules.specs.Answers.{first_of}
use Rattle.rules.specs.Boxes.{Box, rows_of, rows_in, span_of, scene-tiles}
use Rattle.rules.specs.Spans.{Span}
use Rattle.rules.specs.Segments.{Segment, ordered, judge-segments, Cut, cut_in, cuts}
use Rattle.rules.specs.Inputs.{Clip}
use Rattle.sizes.specs.Sizes.{open-layer-table, opacity-count, layer-attr-table}
use Rattle.rules.specs.Attributes.{attrs-full}
use Rattle.rules.specs.Plans.{bucket, Layer, close, pop, Put, on, Plan, clip-box, clip-segments, clip-fits, close-puts, closing, with-layer, plan-pop}
use Rattle.rules.specs.Steps.{Screen, done, passes, refusal}
use Rattle.rules.proofs.All.{All, all-over}
use Rattle.row.specs.Words.{Words, word, word-ops}
use Rattle.rect.specs.Rects.{box_of}
use Rattle.screen.specs.declared.Screen as code
use Rattle.screen.specs.Screens.{frame-of, state-of}
use Rattle.screen.specs.Judging.{judged}
use Rattle.screen.proofs.ScreenLaws.{bounds, paint-count, layer-attr-count, filter-count}
use Rattle.layers.proofs.Passing.{PassedOn, passed-whole}
use Rattle.segments.specs.declared.Scene.{Scene}
use Rattle.segments.specs.Segs.{segs, segs-of, origin, bounds as scene-bounds, SceneOf}
use Rattle.segments.proofs.Laws.{segs-slice, segs-count, cut-in-scene, judged as judged-list}
use Rattle.row.specs.Building.{rows_at, screen-at, step_number}
use Rattle.screen.specs.Layers.{layer-at, open_at, good_layer, good_own_box}
use Rattle.pop.specs.Closing.{touched-in, good-pops, full_by, runs-full, done-puts}
use Rattle.pop.proofs.Closed.{Close, closing as a-closing, members}
use Rattle.pop.proofs.Running.{cuts-sorted}
use Rattle.pop.proofs.Rooms.{touched-inside}
use Rattle.pop.proofs.Clipping.{close-all, close-in}
use Rattle.pop.specs.Pop.{PopLent, pop_lent, layers-in, own-rows, good-open, good_lengths, late, first, state-in, pop-plan, number-after, number, Judged}
use Rattle.std.proofs.lemmas.Bool.Decides.{nat_tests}
use Rattle.pop.proofs.Ready.{Closeable, all-fine, full_is, deep_is, full-plain, full-clip}

-- the innermost of n open layers
module _ (t : List ℕ) where
  pub layers-first : (n : ℕ) → 1 ≤ n → layers-in t n ≡ layer-at t (n - 1) ∷ layers-in t (n - 1)
  unfolding layers-in
  layers-first zero h = absurd (omega arith)
  layers-first (suc n) h = let e : suc n - 1 ≡ n = omega arith in rw e

  pub layers-length : (n : ℕ) → length (layers-in t n) ≡ n
  unfolding layers-in
  layers-length zero = refl
  layers-length (suc n) = ap suc (layers-length n)

  pub own_first : (n : ℕ) → 1 ≤ n → own-rows (layers-in t n) ≡ rows_in (layer-at t (n - 1)).bounds
  unfolding own-rows
  own_first n h = rw (layers-first n h)

  pub open-first : (v : Box) (n : ℕ) → 1 ≤ n
      → good-open v t n ≡ (good_layer (open_at t (n - 1)) && good_own_box v (layer-at t (n - 1)).bounds && good_own_box v (clip-box v (layers-in t (n - 1))))
  unfolding good-open
  open-first v zero h = absurd (omega arith)
  open-first v (suc n) h = let e : suc n - 1 ≡ n = omega arith in rw e

-- the tests before the rows, first to last
in_order : (n : ℕ) (a b g : Bool) (r : ℕ) → let f : ℕ = first_of ((not (eqb n 0), n) ∷ (not a, 4) ∷ (not b, 4) ∷ []) in
    cond (eqb f 0) (cond g r 4) f ≡ cond (eqb n 0) (cond a (cond b (cond g r 4) 4) 4) n
in_order n a b g r = grind (arith, nat_tests)

all-right : (n : ℕ) (a b : Bool) (r : ℕ) → cond (eqb n 0) (cond a (cond b r 4) 4) n ≡ 0 → (n ≡ 0) × (a ≡ true) × (b ≡ true) × (r ≡ 0)
all-right n a b r e = (grind (arith, nat_tests), grind (arith, nat_tests), grind (arith, nat_tests), grind (arith, nat_tests))

-- opacities and attributes are not read after them
module _ (s : code.Screen) (l : PopLent) (ws : List ℕ) where
  abbrev lens : Bool
  lens = good_lengths (length l.layers) (length l.opacities) (length l.attrs) (length ws)

  abbrev opened : Bool
  opened = good-open (box_of s.viewport) l.layers s.layers

  abbrev numbered : ℕ
  numbered = judged s (length l.words.state) (length l.words.render) (length l.words.fills)

  pub tests : number s l ws ≡ cond (eqb numbered 0) (cond lens (cond opened (number-after s (pop_lent l.words l.layers [] []) ws 0) 4) 4) numbered
  unfolding number-after step_number first
  tests =
      in_order numbered lens opened (good-pops s.c s.d s.layers (rows_at (frame-of s) l.words) (own-rows (layers-in l.layers s.layers)))
      (refusal Words word-ops (pop-plan s l ws) (done Words word-ops (pop-plan s l ws) (screen-at (state-in s l.layers) l.words)))

  pub none-left : s.layers ≡ 0 → (opened ≡ true) × (number-after s (pop_lent l.words l.layers [] []) ws 0 ≡ 7)
  unfolding good-open number-after step_number own-rows layers-in plan-pop refusal good-pops
  none-left h = (rw h, rw h)

-- the tests after it
shift : (m : ℕ) → ltb 1048577 (m + 1) ≡ ltb 1048576 m
shift m = grind (arith, nat_tests)

one-attr : (m : ℕ) → ltb 1024 (m + 1) ≡ leb 1024 m
one-attr m = grind (arith, nat_tests)

or-end : (b : Bool) → (b || false) ≡ b
or-end true = refl
or-end false = refl

module _ (p : Plan) (scr : Screen Words) (next a : ℕ) (few : length p.layers ≤ 16) (e : p.next ≡ next + 1) (q : attrs-full p.attrs ≡ leb 1024 a) where
  abbrev rows-after : List Words
  rows-after = done-puts (bucket scr.state.frame) (length p.layers) p.puts scr.rows

  late_of : (good full : Bool)
      → (good ≡ true → p.refused ≡ 0 → passes Words word-ops (word 0) scr.state.frame.c p.puts rows-after ≡ full)
      → (good ≡ true → p.refused ≡ 0 → passes Words word-ops (word 1) scr.state.frame.d p.puts rows-after ≡ false)
      → step_number 0 good p scr ≡ late good p.refused next a full
  unfolding step_number refusal done late
  late_of false full f g = refl
  late_of true full f g = go (eqb p.refused 0) refl
    where
      go : (b : Bool) → eqb p.refused 0 ≡ b
          → cond b (first_of ((ltb 16 (length p.layers), 6) ∷ (ltb 1048577 p.next, 8) ∷ (attrs-full p.attrs, 9)
          ∷ (passes Words word-ops (word 0) scr.state.frame.c p.puts rows-after, 10)
          ∷ (passes Words word-ops (word 1) scr.state.frame.d p.puts rows-after, 11) ∷ [])) p.refused
          ≡ cond b (first_of ((ltb 1048576 next, 8) ∷ (leb 1024 a, 9) ∷ (full, 10) ∷ [])) p.refused
      go true i =
          let z = eqb-true p.refused 0 i in
          rw (le-ltb 16 (length p.layers) few, e, shift next, q, f refl z, g refl z)
      go false i = refl

-- a pop's plan, with a layer open
module _ (s : code.Screen) (l : PopLent) (ws : List ℕ) (low : 1 ≤ s.layers) (o : PassedOn s l.words) where
  abbrev layer : Layer
  layer = layer-at l.layers (s.layers - 1)

  abbrev view : Box
  view = box_of s.viewport

  abbrev parent : Box
  parent = clip-box (box_of s.viewport) (layers-in l.layers (s.layers - 1))

  abbrev rs : List Words
  rs = rows_at (frame-of s) l.words

  abbrev xs : List ℕ
  xs = touched-in s.layers (rows_at (frame-of s) l.words) (rows_in (layer-at l.layers (s.layers - 1)).bounds)

  abbrev listed : ℕ
  listed = judge-segments (not (clip-fits layer.props.clip (segs-of ws))) (clip-segments layer.props.clip (segs-of ws))

  abbrev puts : List Put
  puts = closing layer.props.clip view layer.bounds parent s.layer_attrs (segs-of ws) xs ++ map (on pop) xs

  pub plan-is : pop-plan s l ws
      ≡ record { refused = listed; next = (state-of s).next + 1; attrs = with-layer (state-in s l.layers) layer.props; layers = layers-in l.layers (s.layers - 1); puts = puts }
  unfolding plan-pop
  plan-is = rw (own_first l.layers s.layers low, layers-first l.layers s.layers low, layer-attr-count s)

  abbrev good : Bool
  good = good-pops s.c s.d s.layers rs (rows_in layer.bounds)

  next-is : (state-of s).next ≡ s.next_draw_id
  unfolding state-of
  next-is = refl

  attrs-is : attrs-full (with-layer (state-in s l.layers) layer.props) ≡ leb 1024 s.layer_attrs
  attrs-is =
      rw (paint-count s, filter-count s, length-append, layer-attr-count s, le-ltb 1024 s.paint_attrs (bounds s o.screen).paints, le-ltb 256 s.filter_paints (bounds s o.screen).filters)
      (or-end (ltb 1024 (s.layer_attrs + 1)) ∙ one-attr s.layer_attrs)

  few-left : length (layers-in l.layers (s.layers - 1)) ≤ 16
  few-left = rw (layers-length l.layers (s.layers - 1)) (omega (arith, (bounds s o.screen).deep))

  number-late : (full : Bool)
      → (good ≡ true → listed ≡ 0 → passes Words word-ops (word 0) s.c puts (done-puts (bucket-tiles s.width) (length (layers-in l.layers (s.layers - 1))) puts rs) ≡ full)
      → (good ≡ true → listed ≡ 0 → passes Words word-ops (word 1) s.d puts (done-puts (bucket-tiles s.width) (length (layers-in l.layers (s.layers - 1))) puts rs) ≡ false)
      → late good listed s.next_draw_id s.layer_attrs full ≡ number-after s l ws 0
  unfolding number-after
  number-late full f h =
      rw (plan-is, own_first l.layers s.layers low)
      (sym
      (late_of (record { refused = listed; next = (state-of s).next + 1; attrs = with-layer (state-in s l.layers) layer.props; layers = layers-in l.layers (s.layers - 1); puts = puts })
      (screen-at (state-in s l.layers) l.words) s.next_draw_id s.layer_attrs few-left (ap (λ (k : ℕ). k + 1) next-is) attrs-is good full f h))

  module _ (bottom : (layer.bounds.y1 + 3) / 4 ≤ rows_of (box_of s.viewport)) where
    abbrev top : ℕ
    top = (layer-at l.layers (s.layers - 1)).bounds.y0 / 4

    abbrev end_row : ℕ
    end_row = ((layer-at l.layers (s.layers - 1)).bounds.y1 + 3) / 4

    low_rows : All (λ (x : ℕ). x < length rs) xs
    low_rows = touched-inside (passed-whole s l.words o) top end_row s.layers bottom

    module _ (y : good ≡ true) where
      -- without a clip
      pub plain-closeable : (t : Span) (i : ℕ) → Closeable (frame-of s) s.layers top end_row (map (on (close t None i)) xs) l.words
      plain-closeable t i =
          record {
            whole = passed-whole s l.words o;
            low = low;
            deep = (bounds s o.screen).deep;
            bottom = bottom;
            fine = all-fine s.c s.d s.layers low rs (rows_in layer.bounds) y;
            closes = all-over (on (close t None i)) (λ (x : ℕ) (h : x < length rs). one x h) low_rows;
            found = all-over (on (close t None i)) (λ (x : ℕ) (h : some_of (eqb x) xs ≡ true). h) (members xs);
          }
        where
          one : (x : ℕ) → x < length rs → Close (length rs) (on (close t None i) x)
          one x h = record { row = h; act = a-closing }

      -- with one
      pub clip-closeable : (i : ℕ) (ks : List Cut) → Closeable (frame-of s) s.layers top end_row (close-puts i xs ks) l.words
      clip-closeable i ks =
          record {
            whole = passed-whole s l.words o;
            low = low;
            deep = (bounds s o.screen).deep;
            bottom = bottom;
            fine = all-fine s.c s.d s.layers low rs (rows_in layer.bounds) y;
            closes = close-all i xs (length rs) low_rows ks;
            found = close-in i xs ks;
          }

    pub puts_plain : layer.props.clip ≡ None → puts ≡ map (on (close (span_of layer.bounds) None s.layer_attrs)) xs ++ map (on pop) xs
    unfolding closing
    puts_plain c = rw c

    no-list : layer.props.clip ≡ None → listed ≡ 0
    unfolding judge-segments ordered
    no-list c = rw c

    pub number-plain : layer.props.clip ≡ None → late good 0 s.next_draw_id s.layer_attrs (full_by s.c 2 rs xs) ≡ number-after s l ws 0
    number-plain c =
        ap (λ (k : ℕ). late good k s.next_draw_id s.layer_attrs (full_by s.c 2 rs xs)) (sym (no-list c))
        ∙ number-late (full_by s.c 2 rs xs)
        (λ y z. let v = plain-closeable y (span_of layer.bounds) s.layer_attrs in
        rw (puts_plain c) (full_is v (length (layers-in l.layers (s.layers - 1))) ∙ full-plain v (span_of layer.bounds) s.layer_attrs refl))
        (λ y z. let v = plain-closeable y (span_of layer.bounds) s.layer_attrs in
        rw (puts_plain c) (deep_is v (length (layers-in l.layers (s.layers - 1)))))

    module _ (c : Clip) (e : layer.props.clip ≡ Some c) where
      pub puts-clip : puts ≡ close-puts s.layer_attrs xs (cuts view parent (slice c.start c.end (segs-of ws))) ++ map (on pop) xs
      unfolding closing
      puts-clip = rw e

      -- a range that passes the list
      pub number-long : c.start ≤ c.end → length ws / 5 < c.end → 4 ≡ number-after s l ws 0
      unfolding judge-segments late
      number-long h i =
          let z : listed ≡ 4 = rw (e, le-leb c.start c.end h, lt-leb c.end (length (segs-of ws)) (rw (segs-count ws) i)) in
          let four : 4 ≡ late good 4 s.next_draw_id s.layer_attrs false = grind (arith, nat_tests) in
          four ∙ ap (λ (k : ℕ). late good k s.next_draw_id s.layer_attrs false) (sym z)
          ∙ number-late false (λ y q. absurd (omega arith)) (λ y q. absurd (omega arith))

      module _ (h : c.start ≤ c.end) (i : c.end ≤ length ws / 5) where
        pub the-list : segs ws c.start (c.end - c.start) ≡ slice c.start c.end (segs-of ws)
        the-list = segs-slice ws c.start c.end h i

        pub listed-is : listed ≡ judge-segments false (segs ws c.start (c.end - c.start))
        listed-is = rw (e, le-leb c.start c.end h, le-leb c.end (length (segs-of ws)) (rw (segs-count ws) i), the-list)

        module _ (d : Scene) (w : SceneOf view parent d) where
          same-join : (ss : List Segment) → join (cut_in (origin d) (scene-bounds d)) ss ≡ join (cut_in view (scene-tiles view parent)) ss
          same-join [] = refl
          same-join (x ∷ ss) = rw (cut-in-scene w x, same-join ss)

          pub cuts-is : join (cut_in (origin d) (scene-bounds d)) (segs ws c.start (c.end - c.start)) ≡ cuts view parent (slice c.start c.end (segs-of ws))
          unfolding cuts
          cuts-is = same-join (segs ws c.start (c.end - c.start)) ∙ ap (join (cut_in view (scene-tiles view parent))) the-list

          abbrev ks : List Cut
          ks = join (cut_in (origin d) (scene-bounds d)) (segs ws c.start (c.end - c.start))

          puts-scene : puts ≡ close-puts s.layer_attrs xs ks ++ map (on pop) xs
          puts-scene = puts-clip ∙ ap (λ (q : List Cut). close-puts s.layer_attrs xs q ++ map (on pop) xs) (sym cuts-is)

          pub number-clip : late good (judge-segments false (segs ws c.start (c.end - c.start))) s.next_draw_id s.layer_attrs (full_by s.c 1 rs xs || runs-full s.c xs rs 0 0 ks) ≡ number-after s l ws 0
          number-clip =
              ap (λ (k : ℕ). late good k s.next_draw_id s.layer_attrs (full_by s.c 1 rs xs || runs-full s.c xs rs 0 0 ks)) (sym listed-is)
              ∙ number-late (full_by s.c 1 rs xs || runs-full s.c xs rs 0 0 ks)
              (λ y z. let v = clip-closeable y s.layer_attrs ks in
              rw puts-scene
              (full_is v (length (layers-in l.layers (s.layers - 1)))
              ∙ full-clip v s.layer_attrs ks (cuts-sorted (origin d) (scene-bounds d) (segs ws c.start (c.end - c.start)) (judged-list (segs ws c.start (c.end - c.start)) (sym listed-is ∙ z)).order) refl))
              (λ y z. let v = clip-closeable y s.layer_attrs ks in
              rw puts-scene (deep_is v (length (layers-in l.layers (s.layers - 1)))))

-- what a number 0 says
pub record Cleared (g : Bool) (r n a : ℕ) (f : Bool) : Type 0 where
  pub good : g ≡ true
  pub listed : r ≡ 0
  pub ids : n ≤ 1048576
  pub attrs : a < 1024
  pub room : f ≡ false

pub late-zero : (good : Bool) (listed next attrs : ℕ) (full : Bool) → late good listed next attrs full ≡ 0 → Cleared good listed next attrs full
unfolding late
late-zero g r n a f z = record { good = grind (arith, nat_tests); listed = grind (arith, nat_tests); ids = grind (arith, nat_tests); attrs = grind (arith, nat_tests); room = grind (arith, nat_tests) }

pub lengths-facts : (t o a w : ℕ) → good_lengths t o a w ≡ true → (t ≡ open-layer-table) × (o ≡ opacity-count) × (a ≡ layer-attr-table)
unfolding good_lengths
lengths-facts t o a w g = (grind (arith, nat_tests), grind (arith, nat_tests), grind (arith, nat_tests))

module _ (s : code.Screen) (l : PopLent) (ws : List ℕ) (e : number s l ws ≡ 0) where
  all-zero : (numbered s l ws ≡ 0) × (lens s l ws ≡ true) × (opened s l ws ≡ true) × (number-after s (pop_lent l.words l.layers [] []) ws 0 ≡ 0)
  all-zero = all-right (numbered s l ws) (lens s l ws) (opened s l ws) _ (sym (tests s l ws) ∙ e)

  pub zero-lengths : (length l.layers ≡ open-layer-table) × (length l.opacities ≡ opacity-count) × (length l.attrs ≡ layer-attr-table)
  zero-lengths = lengths-facts (length l.layers) (length l.opacities) (length l.attrs) (length ws) all-zero.1

  -- a number 0 is what the doing half requires
  pub zero-judged : Judged s l.layers ws l.words
  zero-judged =
      let z : s.layers ≡ 0 → ⊥ = λ h. omega (arith, (none-left s l ws h).1, all-zero.3) in
      record { screen = all-zero.0; table = zero-lengths.0; some = omega (arith, z); layer = all-zero.2; rows = all-zero.3 }
