-- The viewport of a box in each mode. Assumes nothing.
use Rattle.std.proofs.Common.{◌≡◌, refl, Bool, true, false, cond, ℕ, ◌<◌, arith, Ok, Err}
use Rattle.rules.specs.Boxes.{Box, good_viewport}
use Rattle.rules.specs.Setups.{snapped}
use Rattle.rules.proofs.laws.Snapping.{far-refused}
use Rattle.rect.specs.declared.Rect.{Rect}
use Rattle.sizes.specs.declared.answers.Refusal.{Refusal}
use Rattle.sizes.specs.declared.answers.Refusal.TheVariants.{BadViewport}
use Rattle.rect.specs.Rects.{rect-of, seen}

pub seen-bad : (b : Box) → good_viewport b ≡ false → Err BadViewport ≡ seen b
unfolding seen
seen-bad b g = rw g

-- an end past 32,768 stays past it
pub too-far-right : (b : Box) → 32768 < b.x1 → Err BadViewport ≡ seen (snapped b)
too-far-right b h = seen-bad (snapped b) ((far-refused b).right h)

pub too-far-down : (b : Box) → 32768 < b.y1 → Err BadViewport ≡ seen (snapped b)
too-far-down b h = seen-bad (snapped b) ((far-refused b).down h)

-- what an answer of `viewport_in` says
by-test : (t : Bool) {r : Rect} (s : Rect) → Ok r ≡ cond t (Ok s) (Err BadViewport) → (t ≡ true) × (r ≡ s)
by-test true s e = (refl, cc)
by-test false s e = let z : ◌≡◌ {A = ℕ} 0 1 = cc in absurd (omega arith)

not-by-test : (t : Bool) (s : Rect) (r : Refusal) → Err r ≡ cond t (Ok s) (Err BadViewport) → (t ≡ false) × (r ≡ BadViewport)
not-by-test true s r e = let z : ◌≡◌ {A = ℕ} 0 1 = cc in absurd (omega arith)
not-by-test false s r e = (refl, cc)

pub good-seen : (b : Box) (r : Rect) → Ok r ≡ seen b → (good_viewport b ≡ true) × (r ≡ rect-of b)
unfolding seen
good-seen b r e = by-test (good_viewport b) _ e

pub bad-seen : (b : Box) (r : Refusal) → Err r ≡ seen b → (good_viewport b ≡ false) × (r ≡ BadViewport)
unfolding seen
bad-seen b r e = not-by-test (good_viewport b) _ r e
