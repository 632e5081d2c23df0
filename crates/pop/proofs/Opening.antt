-- The innermost layer as the code reads it: its box, its parent's, its clip. Assumes nothing.
use Rattle.std.proofs.Common.{◌≡◌, sym, ap, ◌∙◌, Bool, true, false, ◌&&◌, ◌||◌, not, cond, List, [], ℕ, ◌+◌, ◌-◌, ◌/◌, ◌%◌, ◌≤◌, ◌<◌, arith, length}
use Rattle.std.proofs.lemmas.Bool.Decides.{nat_tests}
use Rattle.rules.specs.Lists.{join, range}
use Rattle.rules.specs.Boxes.{Box, width, height, empty-box, rows_of, span_of, whole}
use Rattle.rules.specs.Segments.{judge-segments, cut_in}
use Rattle.rules.specs.Plans.{clip-box}
use Rattle.row.specs.Words.{Words}
use Rattle.row.specs.Cmds.{Short}
use Rattle.rect.specs.declared.Rect.{Rect}
use Rattle.rect.specs.Rects.{box_of, Small}
use Rattle.rect.proofs.Boxes as boxes
use Rattle.rect.proofs.Boxes.{small-viewport}
use Rattle.screen.specs.declared.Screen as code
use Rattle.screen.specs.Screens.{frame-of}
use Rattle.segments.specs.declared.Scene.{Scene}
use Rattle.segments.specs.Segs.{segs, origin, bounds, SceneOf, Starts}
use Rattle.segments.proofs.Laws.{scene-starts}
use Rattle.row.specs.Building.{rows_at}
use Rattle.screen.specs.declared.layers.OpenLayer.{OpenLayer}
use Rattle.screen.specs.Layers.{layer-at, box_in, clip-in, open_at, good_layer, good_own_box}
use Rattle.screen.proofs.LayersLaws.{without-clip, has-clip}
use Rattle.pop.specs.Closing.{touched-in, good-pops, full_by, runs-full}
use Rattle.pop.proofs.Judging.{not-true, not-false}
use Rattle.pop.specs.Pop.{pop_lent, layers-in, good-open, late, number-after}
use Rattle.layers.proofs.Passing.{PassedOn}
use Rattle.pop.proofs.Numbers.{layers-first, open-first, number-plain, number-long, number-clip}

-- an open layer's box, as facts
pub record OwnBox (v b : Box) : Type 0 where
  pub tiles : b.y1 % 4 ≡ 0
  pub left : b.x0 ≤ 32768
  pub top : b.y0 ≤ 32768
  pub right : b.x1 ≤ width v
  pub bottom : b.y1 ≤ height v

pub own-facts : (v b : Box) → good_own_box v b ≡ true → OwnBox v b
unfolding good_own_box
own-facts v b g = record { tiles = grind (arith, nat_tests); left = grind (arith, nat_tests); top = grind (arith, nat_tests); right = grind (arith, nat_tests); bottom = grind (arith, nat_tests) }

pub record Ranged (l : OpenLayer) : Type 0 where
  pub flag : l.flag ≤ 1
  pub range : l.start ≤ l.«end»

pub layer-facts : (l : OpenLayer) → good_layer l ≡ true → Ranged l
unfolding good_layer
layer-facts l g = record { flag = grind (arith, nat_tests); range = grind (arith, nat_tests) }

module _ {v b : Box} (o : OwnBox v b) where
  pub last_row : (b.y1 + 3) / 4 ≤ rows_of v
  last_row = omega (arith, o.tiles, o.bottom)

  span-end : (t : Bool) → width v ≤ 4096 → cond t (b.x0 / 4) (b.x1 / 4) ≤ 8192
  span-end true h = omega (arith, o.left)
  span-end false h = omega (arith, o.right)

  pub own-span : width v ≤ 4096 → Short (span_of b)
  unfolding span_of
  own-span h = (omega (arith, o.left), span-end (empty-box b) h)

  pub own-small : width v ≤ 4096 → height v ≤ 2048 → Small b
  own-small h g = record { left = o.left; top = o.top; right = omega (arith, o.right); bottom = omega (arith, o.bottom) }

-- the parent's box
module _ (v : Box) (t : List ℕ) (n : ℕ) where
  pub parent-none : n ≡ 1 → (q : Rect) → box_of q ≡ whole v → box_of q ≡ clip-box v (layers-in t (n - 1))
  unfolding layers-in
  parent-none e q h = let z : n - 1 ≡ 0 = omega arith in rw z h

  pub parent-some : (n ≡ 1 → ⊥) → 1 ≤ n → (q : Rect) → q ≡ box_in t (n - 2) → box_of q ≡ clip-box v (layers-in t (n - 1))
  parent-some h low q e =
      let z : n - 2 ≡ n - 1 - 1 = omega arith in
      rw (layers-first t (n - 1) (omega arith)) (ap box_of (e ∙ ap (box_in t) z))

-- the layer y and the parent's box q as the code has read them
module _ (s : code.Screen) (w : Words) (t ws : List ℕ) (low : 1 ≤ s.layers) (o : PassedOn s w) (y : OpenLayer) (e : y ≡ open_at t (s.layers - 1)) (q : Rect)
    (p : box_of q ≡ clip-box (box_of s.viewport) (layers-in t (s.layers - 1))) where
  abbrev view : Box
  view = box_of s.viewport

  abbrev test : Bool
  test = good_layer y && good_own_box (box_of s.viewport) (box_of y.bbox) && good_own_box (box_of s.viewport) (box_of q)

  abbrev all : ℕ
  all = cond (good-open (box_of s.viewport) t s.layers) (number-after s (pop_lent w t [] []) ws 0) 4

  test-is : test ≡ good-open view t s.layers
  test-is = rw (e, p) (sym (open-first t view s.layers low))

  pub open-bad : {r : Bool} → r ≡ test → not r ≡ true → 4 ≡ all
  open-bad {r} i j = let z : good-open view t s.layers ≡ false = sym test-is ∙ sym i ∙ not-true r j in rw z

  module _ {r : Bool} (i : r ≡ test) (j : not r ≡ false) where
    opened : good-open view t s.layers ≡ true
    opened = sym test-is ∙ sym i ∙ not-false r j

    tests : (good_layer y ≡ true) × (good_own_box view (box_of y.bbox) ≡ true) × (good_own_box view (box_of q) ≡ true)
    tests = (grind (arith, nat_tests), grind (arith, nat_tests), grind (arith, nat_tests))

    is_all : number-after s (pop_lent w t [] []) ws 0 ≡ all
    is_all = rw opened

    own-box : OwnBox view (box_of y.bbox)
    own-box = own-facts view (box_of y.bbox) tests.1

    pub open-range : y.start ≤ y.«end»
    open-range = (layer-facts y tests.0).range

    pub open-small : Small (box_of s.viewport) × Small (box_of q)
    open-small =
        let f = boxes.view view o.view in
        (small-viewport view o.view, own-small (own-facts view (box_of q) tests.2) f.wide f.high)

    pub open-scene : (d : Scene) → SceneOf (box_of s.viewport) (box_of q) d → Starts (origin d) (bounds d)
    open-scene d k = scene-starts k

    module _ {a b : ℕ} (ea : a ≡ y.bbox.y0 / 4) (eb : b ≡ (y.bbox.y1 + 3) / 4) where
      pub open-bottom : b ≤ rows_of (box_of s.viewport)
      open-bottom = rw eb (last_row own-box)

      a-is : a ≡ (layer-at t (s.layers - 1)).bounds.y0 / 4
      a-is = ea ∙ ap (λ (z : OpenLayer). z.bbox.y0 / 4) e

      b-is : b ≡ ((layer-at t (s.layers - 1)).bounds.y1 + 3) / 4
      b-is = eb ∙ ap (λ (z : OpenLayer). (z.bbox.y1 + 3) / 4) e

      bottom-is : ((layer-at t (s.layers - 1)).bounds.y1 + 3) / 4 ≤ rows_of (box_of s.viewport)
      bottom-is = rw (← b-is) open-bottom

      abbrev rs : List Words
      rs = rows_at (frame-of s) w

      pub open_plain : y.flag ≡ 0 → {k : ℕ}
          → k ≡ late (good-pops s.c s.d s.layers rs (range a b)) 0 s.next_draw_id s.layer_attrs (full_by s.c 2 rs (touched-in s.layers rs (range a b)))
          → k ≡ all
      open_plain f h =
          h
          ∙ rw (a-is, b-is) (number-plain s (pop_lent w t [] []) ws low o bottom-is (without-clip t (s.layers - 1) (ap (λ (z : OpenLayer). z.flag) (sym e) ∙ f)))
          ∙ is_all

      flagged : (y.flag ≡ 0 → ⊥) → (open_at t (s.layers - 1)).flag ≡ 1
      flagged f = ap (λ (z : OpenLayer). z.flag) (sym e) ∙ omega (arith, (layer-facts y tests.0).flag)

      module _ (f : y.flag ≡ 0 → ⊥) {x z : ℕ} (ex : x ≡ y.start) (ez : z ≡ y.«end») where
        start_is : x ≡ (clip-in t (s.layers - 1)).start
        start_is = ex ∙ ap (λ (k : OpenLayer). k.start) e

        end_is : z ≡ (clip-in t (s.layers - 1)).end
        end_is = ez ∙ ap (λ (k : OpenLayer). k.«end») e

        ranged : (clip-in t (s.layers - 1)).start ≤ (clip-in t (s.layers - 1)).end
        ranged = rw (← start_is, ← end_is) (rw (ex, ez) open-range)

        pub open-long : length ws / 5 < z → 4 ≡ all
        open-long h =
            number-long s (pop_lent w t [] []) ws low o bottom-is (clip-in t (s.layers - 1)) (has-clip t (s.layers - 1) (flagged f)) ranged (rw (← end_is) h)
            ∙ is_all

        pub open-clip : z ≤ length ws / 5 → (d : Scene) → SceneOf (box_of s.viewport) (box_of q) d → {k : ℕ}
            → k ≡ late (good-pops s.c s.d s.layers rs (range a b)) (judge-segments false (segs ws x (z - x))) s.next_draw_id s.layer_attrs
            (full_by s.c 1 rs (touched-in s.layers rs (range a b)) || runs-full s.c (touched-in s.layers rs (range a b)) rs 0 0 (join (cut_in (origin d) (bounds d)) (segs ws x (z - x))))
            → k ≡ all
        open-clip h d c i =
            i
            ∙ rw (a-is, b-is, start_is, end_is)
            (number-clip s (pop_lent w t [] []) ws low o bottom-is (clip-in t (s.layers - 1)) (has-clip t (s.layers - 1) (flagged f)) ranged (rw (← end_is) h) d (rw p at c))
            ∙ is_all
