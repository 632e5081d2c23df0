-- The inputs of a fill: paints as words, and the scene of a judged screen. Assumes nothing.
use Rattle.std.proofs.Common.{◌≡◌, refl, sym, ap, ◌∙◌, Bool, true, false, ◌&&◌, List, ℕ, zero, suc, ◌+◌, ◌*◌, ◌/◌, ◌≤◌, ◌<◌, arith, ltb, eqb, length, get_or, ltb-true}
use Rattle.std.proofs.lemmas.Bool.Decides.{nat_tests}
use Rattle.rules.specs.Boxes.{Box, good_viewport}
use Rattle.rules.specs.Spans.{good-range}
use Rattle.rules.specs.Blends.{good-blend, is-default}
use Rattle.rules.specs.Plans.{eligible}
use Rattle.rules.specs.Inputs.{Paint, good-paint, good-handle, good-thread, good-panel, few-paints, good-fill, draw-paint}
use Rattle.rect.specs.Rects.{box_of, Small}
use Rattle.rect.proofs.Boxes.{small-viewport, view}
use Rattle.screen.specs.declared.Screen.{Screen}
use Rattle.screen.specs.Screens.{good_screen}
use Rattle.screen.proofs.ScreenLaws.{clip, good-clip-of}
use Rattle.segments.specs.declared.Scene.{Scene}
use Rattle.segments.specs.Segs.{segs-of, SceneOf}
use Rattle.segments.proofs.Laws.{segs-count}
use Rattle.inputs.specs.declared.Draw.{Draw}
use Rattle.inputs.specs.Inputs.{draw-of, draw_fields}
use Rattle.fill.specs.Fills.{paint-at, paints, paints-of, good-fill-at, scene-at}

module _ (ws : List ℕ) where
  paints-length : (i k : ℕ) → length (paints ws i k) ≡ k
  unfolding paints
  paints-length i zero = refl
  paints-length i (suc k) = ap suc (paints-length (i + 1) k)

  pub paints-count : length (paints-of ws) ≡ length ws / 4
  paints-count = paints-length 0 (length ws / 4)

  there : (z : Paint) (i k x y : ℕ) → x < k → y ≡ i + x → get_or (paints ws i k) x z ≡ paint-at ws y
  unfolding paints
  there z i zero x y h e = absurd (omega arith)
  there z i (suc k) zero y h e = let q : y ≡ i = omega arith in rw q
  there z i (suc k) (suc x) y h e = there z (i + 1) k x y (omega arith) (omega arith)

  pub paint-there : (z : Paint) (x : ℕ) → x < length ws / 4 → get_or (paints-of ws) x z ≡ paint-at ws x
  paint-there z x h = there z 0 (length ws / 4) x x h (omega arith)

-- a test that stands last may stand second
moved : (a g y z w : Bool) → (a && y && z && w && g) ≡ (a && g && y && z && w)
moved false g y z w = refl
moved true true true true true = refl
moved true true true true false = refl
moved true true true false w = refl
moved true true false z w = refl
moved true false true true true = refl
moved true false true true false = refl
moved true false true false w = refl
moved true false false z w = refl

-- what a fill is told, at the words
module _ (ps ss : List ℕ) (d : Draw) where
  -- the paint's own test stands last at the words, and after the paint's place in the rule
  paint_at : (x y z w b : Bool) → ltb d.paint (length ps / 4) ≡ b
      → (x && b && y && z && w && good-paint (paint-at ps d.paint)) ≡ (x && b && good-paint (draw-paint (paints-of ps) (draw-of d)) && y && z && w)
  paint_at x y z w true e = rw (paint-there ps (record { opaque = 0; handle = 0 }) d.paint (ltb-true _ _ e)) (moved (x && true) _ y z w)
  paint_at true y z w false e = refl
  paint_at false y z w false e = refl

  pub fill_at : good-fill-at ps ss d ≡ good-fill (paints-of ps) (segs-of ss) (draw-of d)
  unfolding draw_fields
  fill_at =
      rw (paints-count ps, segs-count ss)
      (ap (λ (t : Bool). few-paints (length ps / 4) && t)
      (paint_at (good-thread d.thread && good-range d.start d.end (length ss / 5)) (good-blend (draw-of d).blend) (good-handle d.mask) (good-panel d.panel)
      (ltb d.paint (length ps / 4)) refl))

  pub fill-told : {r b : Bool} → r ≡ good-fill-at ps ss d → r ≡ b → good-fill (paints-of ps) (segs-of ss) (draw-of d) ≡ b
  fill-told p q = sym fill_at ∙ sym p ∙ q

  -- rule 6, at the words
  pub eligible_at : d.paint < length ps / 4 → (o : Bool) → (o && is-default (draw-of d).blend && eqb d.mask 0 && eqb (get_or ps (4 * d.paint) 0) 1) ≡ eligible o (draw-paint (paints-of ps) (draw-of d)) (draw-of d)
  eligible_at h o = rw (paint-there ps (record { opaque = 0; handle = 0 }) d.paint h)

-- a good draw's range and paint
pub record GoodDraw (ps ss : List ℕ) (d : Draw) : Type 0 where
  pub range : d.start ≤ d.end
  pub ends : d.end ≤ length ss / 5
  pub paint : d.paint < length ps / 4

pub draw-facts : (ps ss : List ℕ) (d : Draw) → good-fill (paints-of ps) (segs-of ss) (draw-of d) ≡ true → GoodDraw ps ss d
draw-facts ps ss d g =
    let y : d.end ≤ length (segs-of ss) = grind (arith, nat_tests) in
    let z : d.paint < length (paints-of ps) = grind (arith, nat_tests) in
    record { range = grind (arith, nat_tests); ends = rw (segs-count ss) at y; paint = rw (paints-count ps) at z }

-- the scene
pub scene-is : (v c : Box) (s : Scene) → SceneOf v c s → s ≡ scene-at v c
scene-is v c s o =
    let x : s.x ≡ v.x0 = ap (λ (b : Box). b.x0) o.corner in
    let y : s.y ≡ v.y0 = ap (λ (b : Box). b.y0) o.corner in
    rw (← o.area, ← x, ← y)

pub scene-of-it : (v c : Box) → SceneOf v c (scene-at v c)
scene-of-it v c = record { corner = refl; area = refl }

pub small-both : (s : Screen) → good_viewport (box_of s.viewport) ≡ true → good_screen s ≡ true → Small (box_of s.viewport) × Small (box_of s.clip_bbox)
small-both s g n =
    let v = view (box_of s.viewport) g in
    let k = clip (box_of s.viewport) (box_of s.clip_bbox) s.layers g (good-clip-of s n) in (
      small-viewport (box_of s.viewport) g,
      record { left = k.left; top = k.top; right = omega (arith, k.right, v.wide); bottom = omega (arith, k.bottom, v.high) },
    )
