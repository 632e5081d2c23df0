-- The viewport that a file says, read in a mode: what the code has of it. Assumes nothing.
use Rattle.std.proofs.Common.{◌≡◌, sym, ap, ◌∙◌, true, false, Ok, Err}
use Rattle.sizes.specs.declared.answers.Refusal.{Refusal}
use Rattle.rules.specs.Boxes.{Box, good_viewport}
use Rattle.rules.specs.Setups.{Mode, viewport-in}
use Rattle.rect.specs.declared.Rect.{Rect}
use Rattle.rect.specs.Rects.{box_of, seen}
use Rattle.rect.proofs.Snapping.{good-seen, bad-seen}

module _ (b : Box) (m : Mode) (r : Rect) (e : box_of r ≡ b) where
  same-view : viewport-in m (box_of r) ≡ viewport-in m b
  same-view = rw e

  pub box-seen : (v : Rect) → Ok v ≡ seen (viewport-in m (box_of r)) → viewport-in m b ≡ box_of v
  box-seen v h = sym same-view ∙ sym (ap box_of (good-seen _ v h).1)

  pub box-good : (v : Rect) → Ok v ≡ seen (viewport-in m (box_of r)) → good_viewport (viewport-in m b) ≡ true
  box-good v h = rw (← same-view) (good-seen _ v h).0

  pub own-good : (v : Rect) → Ok v ≡ seen (viewport-in m (box_of r)) → good_viewport (box_of v) ≡ true
  own-good v h = rw (box-seen v h) at (box-good v h)

  pub box-unseen : {x : Refusal} → Err x ≡ seen (viewport-in m (box_of r)) → good_viewport (viewport-in m b) ≡ false
  box-unseen h = rw (← same-view) (bad-seen _ _ h).0
