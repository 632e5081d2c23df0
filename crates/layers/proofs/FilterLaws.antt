-- A filter fill's number and what it leaves, way by way through the code. Assumes nothing.
use Rattle.std.proofs.Common.{◌≡◌, refl, sym, ap, ◌∙◌, Bool, true, false, ◌&&◌, ◌||◌, cond, List, [], ◌∷◌, map, append-nil, Option, None, Some, ℕ, ◌+◌, ◌-◌, ◌*◌, ◌/◌, ◌≤◌, ◌<◌, arith, eqb, ltb, leb, ℤ}
use Rattle.std.proofs.Common.{pos, length, drop, length-append, take-append-drop, drop_at, eqb-true, ne_eqb, le-ltb, leb-true, leb-false, ltb-true}
use Rattle.std.specs.Prelude.{unwrap_or}
use native.Mathlib.Nat.{min-le_right}
use lib.IntN.{sub_ℕ}
use lib.Seq.{drop-length}
use Rattle.sizes.specs.Sizes.{paint-attr-size, paint-attr-table, filter-paint-size, filter-paint-table}
use Rattle.rules.specs.Lists.{range, join, is_none}
use Rattle.rules.specs.Inputs.{good-pixmap, good-filter, few-paints, good-panel}
use Rattle.rules.specs.Answers.{answer}
use Rattle.rules.specs.Boxes.{Box, width, height, rows_of, empty-box, span_of, good-dest, good_viewport}
use Rattle.rules.specs.Spans.{Span}
use Rattle.rules.specs.Attributes.{attrs-full}
use Rattle.screen.specs.Attributes.{paint-attr-words}
use Rattle.rules.specs.Plans as plans
use Rattle.rules.specs.Plans.{Act, paint, on, Plan, still, plan-filter, plan-filter-in, filter-puts, draws-nothing}
use Rattle.rules.specs.Steps.{do-puts, done, refusal}
use Rattle.rules.proofs.All.{both, neither}
use Rattle.rules.proofs.laws.Bounds.{dest-facts}
use Rattle.cmd.specs.Attrs.{words-at, paint-words, put-paint, put-filter}
use Rattle.row.specs.Words.{Words, word-ops}
use Rattle.row.specs.Cmds.{Short}
use Rattle.row.specs.Arena.{sizes, lay}
use Rattle.row.proofs.RowsLaws.{lay-cut}
use Rattle.sizes.specs.Widths.{bucket-tiles}
use Rattle.row.specs.Acts.{acted}
use Rattle.row.specs.Building.{Whole, rows_at, screen-at, good_rows, step_number}
use Rattle.rect.specs.declared.Rect.{Rect}
use Rattle.rect.specs.Rects.{box_of}
use Rattle.screen.specs.declared.Screen.{Screen}
use Rattle.screen.specs.Screens.{frame-of, state-of, screen-after, good_screen, counted}
use Rattle.screen.specs.Judging.{judged}
use Rattle.rect.proofs.Boxes.{view}
use Rattle.screen.proofs.ScreenLaws.{bounds, clip, good-clip-of, clip-of, same-layers, paint-count, layer-attr-count, filter-count, layer-count}
use Rattle.screen.proofs.Passed.{passed}
use Rattle.row.specs.Room.{rows_told}
use Rattle.layers.specs.Band.{band_number, each, OnRows}
use Rattle.layers.proofs.RowsLaws.{puts-each}
use Rattle.layers.proofs.Numbers.{band-answer, band-step, band-room, paint-adds, run-told}
use Rattle.std.proofs.lemmas.Bool.Decides.{nat_tests}
use Rattle.layers.proofs.Passing.{PassedOn, passed-whole, rows-within, either}
use Rattle.layers.specs.Filter.{FilterGiven, filter-of, good-given, paint-from, attrs-of, FilterLent, filter_lent, plan-of, first-number, filter-number, filter-paint-words, after, filtered, own-box}

frame_is : (s : Screen) → (state-of s).frame ≡ frame-of s
unfolding state-of
frame_is s = refl

next-is : (s : Screen) → (state-of s).next ≡ s.next_draw_id
unfolding state-of
next-is s = refl

-- the plan, by what the code finds
module _ (g : FilterGiven) (s : Screen) where
  plan-bad : good-given g ≡ false → plan-of g s ≡ still 4 (state-of s)
  unfolding plan-filter
  plan-bad h = rw h

  module _ (k : good_screen s ≡ true) (h : good-given g ≡ true) where
    box-is : plans.filter-box (state-of s).frame.viewport (plans.box_of (state-of s)) (filter-of g) ≡ own-box g s
    box-is = rw (clip-of s k, frame_is s)

    abbrev made : Box → Plan
    made b = cond (draws-nothing (filter-of g) b) (still 0 (state-of s)) (plan-filter-in b g.count (filter-of g) g.panel (state-of s))

    plan-made : plan-of g s ≡ made (own-box g s)
    unfolding plan-filter
    plan-made = rw h (ap made box-is)

    plan-nothing : draws-nothing (filter-of g) (own-box g s) ≡ true → plan-of g s ≡ still 0 (state-of s)
    plan-nothing e = plan-made ∙ rw e

    plan-drawn : draws-nothing (filter-of g) (own-box g s) ≡ false → plan-of g s ≡ plan-filter-in (own-box g s) g.count (filter-of g) g.panel (state-of s)
    plan-drawn e = plan-made ∙ rw e

-- what a fill puts on a row of its box
abbrev pub own-act : FilterGiven → Screen → Act
own-act g s = paint (span_of (own-box g s)) None s.paint_attrs

-- the counts of a plan that draws nothing, and of one that draws
module _ (s : Screen) (k : good_screen s ≡ true) where
  same_full : attrs-full (state-of s).attrs ≡ false
  same_full =
      let b = bounds s k in
      rw (paint-count s, layer-attr-count s, filter-count s, le-ltb _ _ b.paints, le-ltb _ _ b.layer-attrs, le-ltb _ _ b.filters)

  module _ (g : FilterGiven) where
    abbrev drawn-plan : Plan
    drawn-plan = plan-filter-in (own-box g s) g.count (filter-of g) g.panel (state-of s)

    drawn-paints : length drawn-plan.attrs.paints ≡ s.paint_attrs + 1
    unfolding plan-filter-in
    drawn-paints = rw (length-append, paint-count s)

    drawn-layers : length drawn-plan.attrs.layers ≡ s.layer_attrs
    unfolding plan-filter-in
    drawn-layers = layer-attr-count s

    drawn-filters : length drawn-plan.attrs.filters ≡ s.filter_paints + 1
    unfolding plan-filter-in
    drawn-filters = rw (length-append, filter-count s)

    drawn-next : drawn-plan.next ≡ s.next_draw_id + 1
    unfolding plan-filter-in
    drawn-next = rw (next-is s)

    drawn-open : length drawn-plan.layers ≡ s.layers
    unfolding plan-filter-in
    drawn-open = layer-count s

    drawn-puts : drawn-plan.puts ≡ map (on (own-act g s)) (range ((own-box g s).y0 / 4) (((own-box g s).y1 + 3) / 4))
    unfolding plan-filter-in filter-puts
    drawn-puts = rw (paint-count s)

    drawn-fine : drawn-plan.refused ≡ 0
    unfolding plan-filter-in
    drawn-fine = refl

-- the box lies on the screen
module _ (g : FilterGiven) (s : Screen) (k : good_screen s ≡ true) (v : good_viewport (box_of s.viewport) ≡ true) where
  pub box-bottom : (own-box g s).y1 ≤ height (box_of s.viewport)
  box-bottom = omega (arith, min-le_right (g.filter.dest.y1 - s.viewport.y0) s.clip_bbox.y1, (clip (box_of s.viewport) (box_of s.clip_bbox) s.layers v (good-clip-of s k)).bottom)

  box-right : (own-box g s).x1 ≤ width (box_of s.viewport)
  box-right = omega (arith, min-le_right (g.filter.dest.x1 - s.viewport.x0) s.clip_bbox.x1, (clip (box_of s.viewport) (box_of s.clip_bbox) s.layers v (good-clip-of s k)).right)

  pub run-within : ((own-box g s).y1 + 3) / 4 ≤ rows_of (box_of s.viewport)
  run-within = rows-within (box_of s.viewport) v (own-box g s).y1 box-bottom

-- the number
abbrev pub judged-at : Screen → Words → ℕ
judged-at s w = judged s (length w.state) (length w.render) (length w.fills)

-- once the screen's own numbers are good, a step's number is k unless what is lent or given is wrong
right : (n : ℕ) (a b g : Bool) (r k : ℕ) → n ≡ 0 → cond g r 4 ≡ k
    → cond (eqb (cond (eqb n 0) (cond (a && b) 0 4) n) 0) (cond g r 4) (cond (eqb n 0) (cond (a && b) 0 4) n) ≡ cond (a && b && true) k 4
right n a b g r k z e = grind (arith, nat_tests)

wrong : (n : ℕ) (a b g : Bool) (r k : ℕ) → n ≡ 0 → r ≡ 4
    → cond (eqb (cond (eqb n 0) (cond (a && b) 0 4) n) 0) (cond g r 4) (cond (eqb n 0) (cond (a && b) 0 4) n) ≡ cond (a && b && false) k 4
wrong n a b g r k z e = grind (arith, nat_tests)

-- the tests of a fill that draws, in the code's numbers
as-coded : (k n a l f : ℕ) → l ≤ 1024 → ((k ≡ 4 → ⊥) → cond (eqb k 10) 10 0 ≡ k)
    → cond (eqb k 4) 4 (cond (ltb 1048577 (n + 1)) 8 (cond (ltb 1024 (a + 1) || ltb 1024 l || ltb 256 (f + 1)) 9 (cond (eqb k 10) 10 0)))
    ≡ cond (eqb k 4) 4 (cond (ltb 1048576 n) 8 (cond (leb 1024 a || leb 256 f) 9 k))
as-coded k n a l f h t = grind (arith, nat_tests)

-- a number 0, taken apart
all-right : (a b c : Bool) (k : ℕ) → cond (a && b && c) k 4 ≡ 0 → (a ≡ true) × (b ≡ true) × (c ≡ true) × (k ≡ 0)
all-right a b c k e = (grind (arith, nat_tests), grind (arith, nat_tests), grind (arith, nat_tests), grind (arith, nat_tests))

all-free : (k n a f : ℕ) → cond (eqb k 4) 4 (cond (ltb 1048576 n) 8 (cond (leb 1024 a || leb 256 f) 9 k)) ≡ 0 → (n < 1048577) × (a < 1024) × (f < 256) × (k ≡ 0)
all-free k n a f e = (grind (arith, nat_tests), grind (arith, nat_tests), grind (arith, nat_tests), grind (arith, nat_tests))

-- what a number 0 of all that is lent says
module _ (s : Screen) (w : Words) (ps : List ℕ) (fs : List ℤ) where
  pub lent-well : first-number (filter_lent s w ps fs) ≡ 0
      → (judged-at s w ≡ 0) × (eqb (length ps) paint-attr-table ≡ true) × (eqb (length fs) filter-paint-table ≡ true)
  lent-well h = (grind (arith, nat_tests), grind (arith, nat_tests), grind (arith, nat_tests))

module _ (g : FilterGiven) (s : Screen) (w : Words) (ps : List ℕ) (fs : List ℤ) where
  -- a number of what is lent that is not 0 is the filter fill's
  pub lent-first : {n : ℕ} → n ≡ first-number (filter_lent s w ps fs) → (n ≡ 0 → ⊥) → n ≡ filter-number g (filter_lent s w ps fs)
  unfolding filter-number step_number
  lent-first {n} e h = rw (← e, ne_eqb n 0 h)

  -- what the rows of a box say
  abbrev pub rows-in : Box → ℕ
  rows-in b = band_number s.c s.d s.layers w.state (range (b.y0 / 4) ((b.y1 + 3) / 4))

  abbrev drawing : Box → ℕ
  drawing b = cond (eqb (rows-in b) 4) 4 (cond (ltb 1048576 s.next_draw_id) 8 (cond (leb 1024 s.paint_attrs || leb 256 s.filter_paints) 9 (rows-in b)))

  -- what is told of a box once the screen's own numbers are good
  abbrev pub told : Box → ℕ
  told b =
      cond (eqb (length ps) paint-attr-table && eqb (length fs) filter-paint-table && good-given g)
      (cond (draws-nothing (filter-of g) b) 0 (drawing b)) 4

  module _ (z : judged-at s w ≡ 0) where
    -- the screen's own facts
    pub fit : PassedOn s w
    fit = passed s (length w.state) (length w.render) (length w.fills) z

    pub whole : Whole (frame-of s) w
    whole = passed-whole s w fit

    abbrev stepped : ℕ
    stepped = step_number 0 (good_rows (frame-of s) s.layers (plan-of g s).puts (rows_at (frame-of s) w)) (plan-of g s) (screen-at (state-of s) w)

    refused-4 : good-given g ≡ false → refusal Words word-ops (plan-of g s) (done Words word-ops (plan-of g s) (screen-at (state-of s) w)) ≡ 4
    unfolding refusal
    refused-4 h = rw (plan-bad g s h)

    -- of the rows x to b
    number_is : (x b : ℕ) → b ≤ rows_of (box_of s.viewport) → (plan-of g s).refused ≡ 0 → (plan-of g s).puts ≡ map (on (own-act g s)) (range x b) → length (plan-of g s).layers ≡ s.layers
        → stepped ≡ band-answer (band_number s.c s.d s.layers w.state (range x b)) (plan-of g s)
    number_is x b m r q n =
        band-step s w whole (own-act g s) x b m (plan-of g s) r q
        (λ t. rw n (paint-adds _ s.layers (span_of (own-box g s)) s.paint_attrs (bounds s fit.screen).deep))

    nothing-is : good-given g ≡ true → draws-nothing (filter-of g) (own-box g s) ≡ true → stepped ≡ 0
    unfolding band-answer band_number rows_told
    nothing-is h d =
        let q = plan-nothing g s fit.screen h d in
        let b = bounds s fit.screen in
        number_is 0 0 (omega arith) (ap (λ (p : Plan). p.refused) q) (ap (λ (p : Plan). p.puts) q) (ap (λ (p : Plan). length p.layers) q ∙ layer-count s)
        ∙ rw (q, layer-count s, le-ltb 16 s.layers b.deep, next-is s, le-ltb 1048577 s.next_draw_id b.ids, same_full s fit.screen)

    drawing-is : good-given g ≡ true → draws-nothing (filter-of g) (own-box g s) ≡ false → stepped ≡ drawing (own-box g s)
    unfolding band-answer
    drawing-is h d =
        let q = plan-drawn g s fit.screen h d in
        let b = bounds s fit.screen in
        number_is ((own-box g s).y0 / 4) (((own-box g s).y1 + 3) / 4) (run-within g s fit.screen fit.view)
        (ap (λ (p : Plan). p.refused) q ∙ drawn-fine s fit.screen g) (ap (λ (p : Plan). p.puts) q ∙ drawn-puts s fit.screen g)
        (ap (λ (p : Plan). length p.layers) q ∙ drawn-open s fit.screen g)
        ∙ ap (band-answer (rows-in (own-box g s))) q
        ∙ rw (
          drawn-open s fit.screen g,
          le-ltb 16 s.layers b.deep,
          drawn-next s fit.screen g,
          drawn-paints s fit.screen g,
          drawn-layers s fit.screen g,
          drawn-filters s fit.screen g,
        )
        (as-coded (rows-in (own-box g s)) s.next_draw_id s.paint_attrs s.layer_attrs s.filter_paints b.layer-attrs
        (run-told s.c s.d s.layers w.state (range ((own-box g s).y0 / 4) (((own-box g s).y1 + 3) / 4))))

    abbrev lens-p : Bool
    lens-p = eqb (length ps) paint-attr-table

    abbrev lens-f : Bool
    lens-f = eqb (length fs) filter-paint-table

    bad-way : good-given g ≡ false → filter-number g (filter_lent s w ps fs) ≡ told (own-box g s)
    unfolding filter-number step_number
    bad-way h =
        rw h
        (wrong (judged-at s w) lens-p lens-f (good_rows (frame-of s) s.layers (plan-of g s).puts (rows_at (frame-of s) w)) _
        (cond (draws-nothing (filter-of g) (own-box g s)) 0 (drawing (own-box g s))) z (refused-4 h))

    good-way : good-given g ≡ true → (k : ℕ) → stepped ≡ k → cond (draws-nothing (filter-of g) (own-box g s)) 0 (drawing (own-box g s)) ≡ k
        → filter-number g (filter_lent s w ps fs) ≡ told (own-box g s)
    unfolding filter-number step_number
    good-way h k e q =
        rw (h, q) (right (judged-at s w) lens-p lens-f (good_rows (frame-of s) s.layers (plan-of g s).puts (rows_at (frame-of s) w)) _ k z e)

    pub own-tests : filter-number g (filter_lent s w ps fs) ≡ told (own-box g s)
    own-tests =
        either (good-given g)
        (λ h.
        either (draws-nothing (filter-of g) (own-box g s))
        (λ d. good-way h 0 (nothing-is h d) (rw d))
        (λ d. good-way h (drawing (own-box g s)) (drawing-is h d) (rw d)))
        bad-way

    pub tests : (b : Rect) → box_of b ≡ own-box g s → filter-number g (filter_lent s w ps fs) ≡ told (box_of b)
    tests b x = own-tests ∙ ap told (sym x)

-- the box and the rows that the code finds
module _ (g : FilterGiven) (s : Screen) (w : Words) (z : judged-at s w ≡ 0) (b : Rect) (e : box_of b ≡ own-box g s) where
  ok : PassedOn s w
  ok = passed s (length w.state) (length w.render) (length w.fills) z

  top-is : b.y0 ≡ (own-box g s).y0
  top-is = ap (λ (x : Box). x.y0) e

  bottom-is : b.y1 ≡ (own-box g s).y1
  bottom-is = ap (λ (x : Box). x.y1) e

  pub rows-asked : (s.layers ≤ 16) × (s.c ≤ 1024) × ((b.y1 + 3) / 4 ≤ 512) × ((b.y1 + 3) / 4 * 54 ≤ length w.state)
  rows-asked =
      let h : (b.y1 + 3) / 4 ≤ rows_of (box_of s.viewport) = rw bottom-is (run-within g s ok.screen ok.view) in
      let o = passed-whole s w ok in
      ((bounds s ok.screen).deep, o.c, omega (arith, o.rows), omega (arith, ok.row_words))

handle-small : (o : Option ℕ) → good-pixmap o ≡ true → unwrap_or o 0 < 2147483648
handle-small None q = omega arith
handle-small (Some h) q = ltb-true _ _ q

-- what was given, judged good
pub record Sound (g : FilterGiven) : Type 0 where
  pub pixmap : unwrap_or g.filter.pixmap 0 < 2147483648
  pub left : g.filter.dest.x0 ≤ 32768
  pub top : g.filter.dest.y0 ≤ 32768
  pub across : g.filter.source_x ≤ 32768
  pub down : g.filter.source_y ≤ 32768
  pub count : g.count ≤ 4096

pub sound : (g : FilterGiven) → good-given g ≡ true → Sound g
sound g h =
    let f = filter-of g in
    let a = good-pixmap g.filter.pixmap in
    let b = good-dest f.dest in
    let c = leb f.source-x 32768 in
    let d = leb f.source-y 32768 in
    let h0 = both (good-filter f && few-paints g.count) (good-panel g.panel) h in
    let h1 = both (good-filter f) (few-paints g.count) h0.0 in
    let h2 = both (a && b && c) d h1.0 in
    let h3 = both (a && b) c h2.0 in
    let h4 = both a b h3.0 in
    let k = dest-facts f h1.0 in
    record {
      pixmap = handle-small g.filter.pixmap h4.0;
      left = omega (arith, k.across, k.right);
      top = omega (arith, k.down, k.bottom);
      across = leb-true _ _ h3.1;
      down = leb-true _ _ h2.1;
      count = leb-true _ _ h1.1;
    }

-- what a filter fill judged 0 may rely on
pub record FilterReady (g : FilterGiven) (s : Screen) (w : Words) (ps : List ℕ) (fs : List ℤ) : Type 0 where
  pub zero : judged-at s w ≡ 0
  pub attrs : length ps ≡ paint-attr-table
  pub paints : length fs ≡ filter-paint-table
  pub good : good-given g ≡ true

-- .. and that draws something
pub record Free (g : FilterGiven) (s : Screen) (w : Words) : Type 0 where
  pub id : s.next_draw_id < 1048577
  pub attr : s.paint_attrs < 1024
  pub paint : s.filter_paints < 256
  pub on : OnRows s (acted (bucket-tiles s.width) s.layers (own-act g s)) ((own-box g s).y0 / 4) (((own-box g s).y1 + 3) / 4) w

module _ (g : FilterGiven) (s : Screen) (w : Words) (ps : List ℕ) (fs : List ℤ) (q : filter-number g (filter_lent s w ps fs) ≡ 0) where
  zero : judged-at s w ≡ 0
  unfolding filter-number step_number
  zero = grind (arith, nat_tests)

  facts : (eqb (length ps) paint-attr-table ≡ true) × (eqb (length fs) filter-paint-table ≡ true) × (good-given g ≡ true)
      × (cond (draws-nothing (filter-of g) (own-box g s)) 0 (drawing g s w ps fs (own-box g s)) ≡ 0)
  facts = all-right _ _ (good-given g) _ (sym (own-tests g s w ps fs zero) ∙ q)

  pub ready : FilterReady g s w ps fs
  ready = record { zero = zero; attrs = eqb-true _ _ facts.0; paints = eqb-true _ _ facts.1; good = facts.2 }

  module _ (d : draws-nothing (filter-of g) (own-box g s) ≡ false) where
    pub free : Free g s w
    free =
        let t = all-free (rows-in g s w ps fs (own-box g s)) s.next_draw_id s.paint_attrs s.filter_paints (rw d at facts.3) in
        let f = fit g s w ps fs zero in
        let c : s.layers ≤ 16 = (bounds s f.screen).deep in
        record {
          id = t.0;
          attr = t.1;
          paint = t.2;
          on =
              band-room s w (passed-whole s w f) (own-act g s) ((own-box g s).y0 / 4) (((own-box g s).y1 + 3) / 4) (run-within g s f.screen f.view) s.layers c
              c (paint-adds _ s.layers (span_of (own-box g s)) s.paint_attrs c) t.3;
        }

    -- the box's tiles
    pub short : Short (span_of (own-box g s))
    unfolding span_of
    short =
        let f = fit g s w ps fs ready.zero in
        let b = own-box g s in
        let e = (neither (is_none g.filter.pixmap) (empty-box b) d).1 in
        let l = leb-false b.x1 b.x0 (neither (leb b.x1 b.x0) (leb b.y1 b.y0) e).0 in
        let r = box-right g s f.screen f.view in
        let v = (view (box_of s.viewport) f.view).wide in
        rw e (omega arith, omega arith)

-- what it leaves
nothing-at : {A : Type 0} (xs : List A) (at : ℕ) → words-at xs at [] ≡ xs
nothing-at xs at = let e : at + 0 ≡ at = omega arith in rw (e, append-nil) (take-append-drop at xs)

module _ (g : FilterGiven) (s : Screen) (w : Words) (ps : List ℕ) (fs : List ℤ) (y : FilterReady g s w ps fs) where
  ok-screen : good_screen s ≡ true
  ok-screen = (fit g s w ps fs y.zero).screen

  no-paints-more : drop s.paint_attrs (state-of s).attrs.paints ≡ []
  no-paints-more = ap (λ (n : ℕ). drop n (state-of s).attrs.paints) (sym (paint-count s)) ∙ drop-length (state-of s).attrs.paints

  no-filters-more : drop s.filter_paints (state-of s).attrs.filters ≡ []
  no-filters-more = ap (λ (n : ℕ). drop n (state-of s).attrs.filters) (sym (filter-count s)) ∙ drop-length (state-of s).attrs.filters

  still-screen : screen-after s (still 0 (state-of s)) ≡ counted s s.next_draw_id s.paint_attrs s.layer_attrs s.filter_paints
  still-screen = same-layers s ok-screen (still 0 (state-of s)) refl ∙ rw (next-is s, paint-count s, layer-attr-count s, filter-count s)

  still-rows : (done Words word-ops (still 0 (state-of s)) (screen-at (state-of s) w)).rows ≡ rows_at (frame-of s) w
  unfolding done do-puts
  still-rows = rw (frame_is s)

  pub after_nothing : (x : Screen) → draws-nothing (filter-of g) (own-box g s) ≡ true
      → x ≡ counted s s.next_draw_id s.paint_attrs s.layer_attrs s.filter_paints → filter_lent x w ps fs ≡ after g (filter_lent s w ps fs)
  unfolding after
  after_nothing x d e =
      rw (
        plan-nothing g s ok-screen y.good d,
        still-screen,
        still-rows,
        no-paints-more,
        no-filters-more,
        nothing-at ps (paint-attr-size * s.paint_attrs),
        nothing-at fs (filter-paint-size * s.filter_paints),
        lay-cut (sizes s.c s.d) (rows_of (box_of s.viewport)) w (whole g s w ps fs y.zero).long,
        e,
      )

  module _ (d : draws-nothing (filter-of g) (own-box g s) ≡ false) where
    abbrev drawn : Plan
    drawn = drawn-plan s ok-screen g

    same-open : drawn.layers ≡ (state-of s).layers
    unfolding plan-filter-in
    same-open = refl

    drawn-screen : screen-after s drawn ≡ counted s (s.next_draw_id + 1) (s.paint_attrs + 1) s.layer_attrs (s.filter_paints + 1)
    drawn-screen = same-layers s ok-screen drawn same-open ∙ rw (drawn-next s ok-screen g, drawn-paints s ok-screen g, drawn-layers s ok-screen g, drawn-filters s ok-screen g)

    drawn-rows : (done Words word-ops drawn (screen-at (state-of s) w)).rows
        ≡ each (acted (bucket-tiles s.width) s.layers (own-act g s)) (range ((own-box g s).y0 / 4) (((own-box g s).y1 + 3) / 4)) (rows_at (frame-of s) w)
    unfolding done
    drawn-rows =
        rw (drawn-open s ok-screen g, drawn-puts s ok-screen g, frame_is s)
        (puts-each _ s.layers (own-act g s) (range ((own-box g s).y0 / 4) (((own-box g s).y1 + 3) / 4)) (rows_at (frame-of s) w))

    drawn-attr : join paint-attr-words (drop s.paint_attrs drawn.attrs.paints)
        ≡ paint-words (attrs-of s g.count g.panel)
    unfolding plan-filter-in
    drawn-attr = rw (drop_at (state-of s).attrs.paints _ s.paint_attrs (paint-count s), filter-count s, next-is s, frame_is s)

    drawn-paint : join filter-paint-words (drop s.filter_paints drawn.attrs.filters)
        ≡ pos 0 ∷ pos (unwrap_or g.filter.pixmap 0) ∷ sub_ℕ g.filter.source_x g.filter.dest.x0 ∷ sub_ℕ g.filter.source_y g.filter.dest.y0 ∷ []
    unfolding plan-filter-in
    drawn-paint = rw (drop_at (state-of s).attrs.filters _ s.filter_paints (filter-count s))

    pub after-drawn : (x : Screen) (ws : Words) (t : Span) (b : Rect) → box_of b ≡ own-box g s → t ≡ span_of (box_of b)
        → x ≡ counted s (s.next_draw_id + 1) (s.paint_attrs + 1) s.layer_attrs (s.filter_paints + 1)
        → ws ≡ lay (each (acted (bucket-tiles s.width) s.layers (paint t None s.paint_attrs)) (range (b.y0 / 4) ((b.y1 + 3) / 4)) (rows_at (frame-of s) w))
        → filter_lent x ws (put-paint ps s.paint_attrs (attrs-of s g.count g.panel)) (put-filter fs s.filter_paints (paint-from g.filter.dest g.filter.source_x g.filter.source_y (unwrap_or g.filter.pixmap 0))) ≡ after g (filter_lent s w ps fs)
    unfolding after
    after-drawn x ws t b e f h i =
        rw (
          plan-drawn g s ok-screen y.good d,
          drawn-screen,
          drawn-rows,
          drawn-attr,
          drawn-paint,
          h,
          i,
          f ∙ ap span_of e,
          top-is g s w y.zero b e,
          bottom-is g s w y.zero b e,
        )

-- a box that the code finds draws what the rules' box does
pub told-by : (g : FilterGiven) (s : Screen) (b : Rect) (t : Bool) → box_of b ≡ own-box g s → draws-nothing (filter-of g) (box_of b) ≡ t → draws-nothing (filter-of g) (own-box g s) ≡ t
told-by g s b t e h = sym (ap (λ (x : Box). draws-nothing (filter-of g) x) e) ∙ h

-- what painting its rows asks
pub paint-asked : (g : FilterGiven) (s : Screen) (w : Words) (ps : List ℕ) (fs : List ℤ) (q : filter-number g (filter_lent s w ps fs) ≡ 0) (d : draws-nothing (filter-of g) (own-box g s) ≡ false)
    (b : Rect) (t : Span) → box_of b ≡ own-box g s → t ≡ span_of (box_of b)
    → Short t × OnRows s (acted (bucket-tiles s.width) s.layers (paint t None s.paint_attrs)) (b.y0 / 4) ((b.y1 + 3) / 4) w
paint-asked g s w ps fs q d b t e f =
    let z = (ready g s w ps fs q).zero in
    rw (f ∙ ap span_of e, top-is g s w z b e, bottom-is g s w z b e) (short g s w ps fs q d, (free g s w ps fs q d).on)

-- the call
module _ (g : FilterGiven) (l : FilterLent) where
  pub refused-is : (n : ℕ) → n ≡ filter-number g l → (n ≡ 0 → ⊥) → answer n l ≡ filtered g l
  unfolding filtered
  refused-is n e h = rw (← e, ne_eqb n 0 h)

  pub done-is : (t : FilterLent) → filter-number g l ≡ 0 → t ≡ after g l → answer 0 t ≡ filtered g l
  unfolding filtered
  done-is t q e = rw (e, q)
