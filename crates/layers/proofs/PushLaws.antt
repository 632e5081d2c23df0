-- A push's number and what it leaves, way by way through the code. Assumes nothing.
use Rattle.std.proofs.Common.{◌≡◌, refl, sym, ap, ◌∙◌, Bool, true, false, ◌&&◌, not, cond, List, [], ◌∷◌, map, Option, None, Some, ℕ, ◌+◌, ◌-◌, ◌*◌, ◌≤◌, ◌<◌, arith, eqb, ltb, length, set, eqb-true, ne_eqb, le-ltb}
use native.Mathlib.Nat.{min-le_right}
use lib.Ieee.{Float}
use Rattle.sizes.specs.Sizes.{open-layer-size, open-layer-table, opacity-count}
use Rattle.rules.specs.Lists.{range}
use Rattle.rules.specs.Answers.{answer}
use Rattle.rules.specs.Boxes.{Box, height, rows_of, rows_in, empty-box, good_viewport}
use Rattle.rules.specs.Blends.{destructive}
use Rattle.rules.specs.Inputs as rule
use Rattle.rules.specs.Inputs.{good-props}
use Rattle.rules.specs.Attributes.{attrs-full}
use Rattle.rules.specs.Plans.{touch, on, Layer, layer-box, plan-push}
use Rattle.rules.specs.Steps.{done, refusal}
use Rattle.cmd.specs.Attrs.{words-at}
use Rattle.row.specs.Words.{Words, word-ops}
use Rattle.row.specs.Arena.{lay}
use Rattle.sizes.specs.Widths.{bucket-tiles}
use Rattle.row.specs.Acts.{acted}
use Rattle.row.specs.Building.{Whole, rows_at, screen-at, good_rows, step_number}
use Rattle.rect.specs.declared.Rect.{Rect}
use Rattle.rect.specs.Rects.{box_of}
use Rattle.screen.specs.declared.Screen.{Screen}
use Rattle.screen.specs.Screens.{frame-of, state-of, screen-after, opened, good_screen}
use Rattle.screen.specs.Judging.{judged}
use Rattle.screen.proofs.ScreenLaws.{bounds, clip, good-clip-of, clip-of, paint-count, layer-attr-count, filter-count, layer-count}
use Rattle.screen.proofs.Passed.{passed}
use Rattle.screen.specs.declared.layers.LayerProps.{LayerProps}
use Rattle.screen.specs.Layers.{clip-of as clip-in, props-of, good-pattern, good-given, layer-of, layer-words}
use Rattle.layers.specs.Band.{band_number, each, OnRows}
use Rattle.layers.proofs.RowsLaws.{puts-each}
use Rattle.layers.proofs.Numbers.{Adding, band-answer, band-step, band-room, touch-adds, run-told}
use Rattle.std.proofs.lemmas.Bool.Decides.{nat_tests}
use Rattle.layers.proofs.Passing.{PassedOn, passed-whole, rows-within, either}
use Rattle.std.specs.declared.ops.Range.{Range}
use Rattle.layers.specs.Push.{PushLent, push_lent, plan-of, lent-number, push-number, after, pushed, no_rows, box-rows, touch_rows}

-- the new layer's box, and the rows that it touches at once
abbrev pub own-box : LayerProps → Screen → Box
own-box p s = layer-box (box_of s.viewport) (box_of s.clip_bbox) (clip-in p.clip)

abbrev pub own-rows : LayerProps → Screen → Range ℕ
own-rows p s = touch_rows p.blend.compose (own-box p s)

frame_is : (s : Screen) → (state-of s).frame ≡ frame-of s
unfolding state-of
frame_is s = refl

next-is : (s : Screen) → (state-of s).next ≡ s.next_draw_id
unfolding state-of
next-is s = refl

-- the plan of a push on a good screen
module _ (p : LayerProps) (s : Screen) (g : good_screen s ≡ true) where
  plan-layers : (plan-of p s).layers ≡ record { props = props-of p; bounds = own-box p s } ∷ (state-of s).layers
  unfolding plan-push
  plan-layers = rw (clip-of s g, frame_is s)

  plan-deep : length (plan-of p s).layers ≡ s.layers + 1
  plan-deep = ap (λ (ls : List Layer). length ls) plan-layers ∙ omega (arith, layer-count s)

  plan-next : (plan-of p s).next ≡ s.next_draw_id
  unfolding plan-push
  plan-next = next-is s

  plan-attrs : attrs-full (plan-of p s).attrs ≡ false
  unfolding plan-push
  plan-attrs =
      let b = bounds s g in
      rw (paint-count s, layer-attr-count s, filter-count s, le-ltb _ _ b.paints, le-ltb _ _ b.layer-attrs, le-ltb _ _ b.filters)

  run-puts : (t : Bool) (b : Box) → cond t (map (on touch) (rows_in b)) [] ≡ map (on touch) (range (cond t (box-rows b) no_rows).start (cond t (box-rows b) no_rows).end)
  run-puts true b = refl
  run-puts false b = refl

  plan-puts : (plan-of p s).puts ≡ map (on touch) (range (own-rows p s).start (own-rows p s).end)
  unfolding plan-push touch_rows
  plan-puts = rw (clip-of s g, frame_is s) (run-puts (destructive p.blend.compose && not (empty-box (own-box p s))) (own-box p s))

  plan-fine : good-props (props-of p) ≡ true → (plan-of p s).refused ≡ 0
  unfolding plan-push
  plan-fine h = rw h

  plan-adds : length (plan-of p s).layers ≤ 16 → Adding s.layers (acted (bucket-tiles s.width) (length (plan-of p s).layers) touch)
  plan-adds h = rw plan-deep (touch-adds _ s.layers (omega (arith, plan-deep)))

-- the box lies on the screen, and so do the rows
own-bottom : (v b : Box) (o : Option rule.Clip) (h : ℕ) → b.y1 ≤ h → (layer-box v b o).y1 ≤ h
own-bottom v b None h e = e
own-bottom v b (Some c) h e = omega (arith, min-le_right (c.bounds.y1 - v.y0) b.y1)

module _ (p : LayerProps) (s : Screen) (g : good_screen s ≡ true) (v : good_viewport (box_of s.viewport) ≡ true) where
  pub box-bottom : (own-box p s).y1 ≤ height (box_of s.viewport)
  box-bottom = own-bottom (box_of s.viewport) (box_of s.clip_bbox) (clip-in p.clip) (height (box_of s.viewport)) (clip (box_of s.viewport) (box_of s.clip_bbox) s.layers v (good-clip-of s g)).bottom

  run-bottom : (t : Bool) (b : Box) → b.y1 ≤ height (box_of s.viewport) → (cond t (box-rows b) no_rows).end ≤ rows_of (box_of s.viewport)
  run-bottom true b h = rows-within (box_of s.viewport) v b.y1 h
  run-bottom false b h = omega arith

  pub run-within : (own-rows p s).end ≤ rows_of (box_of s.viewport)
  unfolding touch_rows
  run-within = run-bottom (destructive p.blend.compose && not (empty-box (own-box p s))) (own-box p s) box-bottom

-- the number
abbrev pub judged-at : Screen → Words → ℕ
judged-at s w = judged s (length w.state) (length w.render) (length w.fills)

-- refused by 4 for what is given
wrong : (n : ℕ) (a b c g : Bool) (r k : ℕ) → n ≡ 0 → r ≡ 4
    → cond (eqb (cond (eqb n 0) (cond (a && b && c) 0 4) n) 0) (cond g r 4) (cond (eqb n 0) (cond (a && b && c) 0 4) n) ≡ cond (a && b && (c && false)) k 4
wrong n a b c g r k z e = grind (arith, nat_tests)

-- a number 0, taken apart
all-right : (a b c : Bool) (k n : ℕ) → cond (a && b && c) (cond (eqb k 4) 4 (cond (ltb 16 n) 6 k)) 4 ≡ 0 → (a ≡ true) × (b ≡ true) × (n ≤ 16) × (k ≡ 0)
all-right a b c k n e = (grind (arith, nat_tests), grind (arith, nat_tests), grind (arith, nat_tests), grind (arith, nat_tests))

-- what a number 0 of all that is lent says
module _ (s : Screen) (w : Words) (ls : List ℕ) (os : List Float) where
  pub lent-well : lent-number (push_lent s w ls os) ≡ 0
      → (judged-at s w ≡ 0) × (eqb (length ls) open-layer-table ≡ true) × (eqb (length os) opacity-count ≡ true)
  lent-well h = (grind (arith, nat_tests), grind (arith, nat_tests), grind (arith, nat_tests))

module _ (p : LayerProps) (s : Screen) (w : Words) (ls : List ℕ) (os : List Float) where
  -- a number of what is lent that is not 0 is the push's
  pub lent-first : {n : ℕ} → n ≡ lent-number (push_lent s w ls os) → (n ≡ 0 → ⊥) → n ≡ push-number p (push_lent s w ls os)
  unfolding push-number step_number
  lent-first {n} e h = grind (arith, nat_tests, e, h)

  abbrev pub rows-number : ℕ
  rows-number = band_number s.c s.d s.layers w.state (range (own-rows p s).start (own-rows p s).end)

  -- what is told once the screen's own numbers are good
  abbrev pub told : ℕ
  told =
      cond (eqb (length ls) open-layer-table && eqb (length os) opacity-count && good-given p)
      (cond (eqb rows-number 4) 4 (cond (ltb 16 (s.layers + 1)) 6 rows-number)) 4

  module _ (z : judged-at s w ≡ 0) where
    -- the screen's own facts
    pub fit : PassedOn s w
    fit = passed s (length w.state) (length w.render) (length w.fills) z

    pub whole : Whole (frame-of s) w
    whole = passed-whole s w fit

    plan-bad : good-props (props-of p) ≡ false → refusal Words word-ops (plan-of p s) (done Words word-ops (plan-of p s) (screen-at (state-of s) w)) ≡ 4
    unfolding refusal plan-push
    plan-bad h = rw h

    band-is : good-props (props-of p) ≡ true
        → step_number 0 (good_rows (frame-of s) s.layers (plan-of p s).puts (rows_at (frame-of s) w)) (plan-of p s) (screen-at (state-of s) w)
        ≡ cond (eqb rows-number 4) 4 (cond (ltb 16 (s.layers + 1)) 6 (cond (eqb rows-number 10) 10 0))
    unfolding band-answer
    band-is h =
        let b = bounds s fit.screen in
        band-step s w whole touch (own-rows p s).start (own-rows p s).end (run-within p s fit.screen fit.view) (plan-of p s)
        (plan-fine p s fit.screen h) (plan-puts p s fit.screen) (plan-adds p s fit.screen)
        ∙ rw (plan-deep p s fit.screen, plan-next p s fit.screen, le-ltb 1048577 s.next_draw_id b.ids, plan-attrs p s fit.screen)

    bad-way : good-props (props-of p) ≡ false → push-number p (push_lent s w ls os) ≡ told
    unfolding push-number step_number
    bad-way h =
        rw h
        (wrong (judged-at s w) (eqb (length ls) open-layer-table) (eqb (length os) opacity-count) (good-pattern p.opacity p.nan)
        (good_rows (frame-of s) s.layers (plan-of p s).puts (rows_at (frame-of s) w)) _
        (cond (eqb rows-number 4) 4 (cond (ltb 16 (s.layers + 1)) 6 rows-number)) z (plan-bad h))

    good-way : good-props (props-of p) ≡ true → push-number p (push_lent s w ls os) ≡ told
    unfolding push-number step_number
    good-way h =
        let b = band-is h in
        let t = run-told s.c s.d s.layers w.state (range (own-rows p s).start (own-rows p s).end) in
        grind (arith, nat_tests)

    pub tests : push-number p (push_lent s w ls os) ≡ told
    tests = either (good-props (props-of p)) good-way bad-way

-- the box and the rows that the code finds
module _ (p : LayerProps) (s : Screen) (w : Words) (z : judged-at s w ≡ 0) (b : Rect) (e : box_of b ≡ own-box p s) where
  ok : PassedOn s w
  ok = passed s (length w.state) (length w.render) (length w.fills) z

  module _ (r : Range ℕ) (f : r ≡ touch_rows p.blend.compose (box_of b)) where
    pub rows_is : r ≡ own-rows p s
    rows_is = f ∙ ap (touch_rows p.blend.compose) e

    pub rows-asked : (s.layers ≤ 16) × (s.c ≤ 1024) × (r.end ≤ 512) × (r.end * 54 ≤ length w.state)
    rows-asked =
        let h : r.end ≤ rows_of (box_of s.viewport) = rw rows_is (run-within p s ok.screen ok.view) in
        let o = passed-whole s w ok in
        ((bounds s ok.screen).deep, o.c, omega (arith, o.rows), omega (arith, ok.row_words))

    pub number-of-rows : (k : ℕ) → k ≡ band_number s.c s.d s.layers w.state (range r.start r.end) → k ≡ band_number s.c s.d s.layers w.state (range (own-rows p s).start (own-rows p s).end)
    number-of-rows k h = rw rows_is at h

-- what a push judged 0 may rely on
pub record PushReady (p : LayerProps) (s : Screen) (w : Words) (ls : List ℕ) (os : List Float) : Type 0 where
  pub zero : judged-at s w ≡ 0
  pub layers : length ls ≡ open-layer-table
  pub opacities : length os ≡ opacity-count
  pub free : s.layers < 16
  pub on : OnRows s (acted (bucket-tiles s.width) (s.layers + 1) touch) (own-rows p s).start (own-rows p s).end w

module _ (p : LayerProps) (s : Screen) (w : Words) (ls : List ℕ) (os : List Float) (q : push-number p (push_lent s w ls os) ≡ 0) where
  zero : judged-at s w ≡ 0
  unfolding push-number step_number
  zero = grind (arith, nat_tests)

  pub ready : PushReady p s w ls os
  ready =
      let t = all-right (eqb (length ls) open-layer-table) (eqb (length os) opacity-count) (good-given p) (rows-number p s w ls os) (s.layers + 1) (sym (tests p s w ls os zero) ∙ q) in
      let f = fit p s w ls os zero in
      record {
        zero = zero;
        layers = eqb-true _ _ t.0;
        opacities = eqb-true _ _ t.1;
        free = omega (arith, t.2);
        on =
            band-room s w (passed-whole s w f) touch (own-rows p s).start (own-rows p s).end (run-within p s f.screen f.view) (s.layers + 1) (omega (arith, t.2))
            (omega (arith, t.2)) (touch-adds _ s.layers (omega (arith, t.2))) t.3;
      }

-- what it leaves
module _ (p : LayerProps) (s : Screen) (w : Words) (ls : List ℕ) (os : List Float) (y : PushReady p s w ls os) (b : Rect) (e : box_of b ≡ own-box p s) where
  ok-screen : good_screen s ≡ true
  ok-screen = (passed s (length w.state) (length w.render) (length w.fills) y.zero).screen

  plan-counts : (length (plan-of p s).attrs.paints ≡ s.paint_attrs) × (length (plan-of p s).attrs.layers ≡ s.layer_attrs) × (length (plan-of p s).attrs.filters ≡ s.filter_paints)
  unfolding plan-push
  plan-counts = (paint-count s, layer-attr-count s, filter-count s)

  screen-is : screen-after s (plan-of p s) ≡ opened s b
  unfolding screen-after
  screen-is = rw (plan-deep p s ok-screen, plan-layers p s ok-screen, ← e, plan-next p s ok-screen, plan-counts.0, plan-counts.1, plan-counts.2)

  rows_are : (done Words word-ops (plan-of p s) (screen-at (state-of s) w)).rows ≡ each (acted (bucket-tiles s.width) (s.layers + 1) touch) (range (own-rows p s).start (own-rows p s).end) (rows_at (frame-of s) w)
  unfolding done
  rows_are = rw (plan-deep p s ok-screen, plan-puts p s ok-screen, frame_is s) (puts-each _ (s.layers + 1) touch (range (own-rows p s).start (own-rows p s).end) (rows_at (frame-of s) w))

  pub after_is : (x : Screen) (ws : Words) (r : Range ℕ) → x ≡ opened s b → r ≡ touch_rows p.blend.compose (box_of b)
      → ws ≡ lay (each (acted (bucket-tiles s.width) (s.layers + 1) touch) (range r.start r.end) (rows_at (frame-of s) w))
      → push_lent x ws (words-at ls (open-layer-size * s.layers) (layer-words (layer-of p b) p.nan)) (set os s.layers p.opacity) ≡ after p (push_lent s w ls os)
  unfolding after
  after_is x ws r f g h =
      rw (screen-is, rows_are, plan-layers p s ok-screen, f, h, rows_is p s w y.zero b e r g, ← e)

-- the call
module _ (p : LayerProps) (l : PushLent) where
  pub refused-is : (n : ℕ) → n ≡ push-number p l → (n ≡ 0 → ⊥) → answer n l ≡ pushed p l
  unfolding pushed
  refused-is n e h = rw (← e, ne_eqb n 0 h)

  pub done-is : (t : PushLent) → push-number p l ≡ 0 → t ≡ after p l → answer 0 t ≡ pushed p l
  unfolding pushed
  done-is t q e = rw (e, q)
