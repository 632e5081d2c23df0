-- What a good viewport is, as facts. Assumes nothing.
use Rattle.std.proofs.Common.{◌≡◌, true, arith}
use Rattle.rules.specs.Boxes.{Box, good_viewport}
use Rattle.rect.specs.Rects.{Small}
pub use Rattle.rules.proofs.laws.Viewports.{View, view}

pub small-viewport : (v : Box) → good_viewport v ≡ true → Small v
small-viewport v g =
    let f = view v g in
    record { left = omega (arith, f.in_order, f.right); top = omega (arith, f.in-order-y, f.bottom); right = f.right; bottom = f.bottom }
