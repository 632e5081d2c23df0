-- What a screen is asked to be, and the frame that a reset makes of it (rule 1). A tile is 4 x 4 pixels.
use Rattle.std.specs.Prelude.{ℕ, ◌+◌, ◌*◌, ◌/◌}
use Rattle.sizes.specs.declared.width.Width.{Width}
use Rattle.rules.specs.Boxes.{Box, box}
use Rattle.rules.specs.Plans.{Frame}

-- the viewport as it is given, or carried outward to tile edges
pub data Mode : Type 0 where
  exact : Mode
  snapping : Mode

-- C and D, how the viewport is read, and how wide a bucket is
pub record Setup : Type 0 where
  pub c : ℕ
  pub d : ℕ
  pub mode : Mode
  pub width : Width

-- the tile edge at n or before it, and the one at n or after it
abbrev pub lowered : ℕ → ℕ
lowered n = 4 * (n / 4)

abbrev pub raised : ℕ → ℕ
raised n = 4 * ((n + 3) / 4)

-- vello_common's snap_to_tile_coordinates
abbrev pub snapped : Box → Box
snapped b = box (lowered b.x0) (lowered b.y0) (raised b.x1) (raised b.y1)

abbrev pub viewport-in : Mode → Box → Box
viewport-in exact b = b
viewport-in snapping b = snapped b

-- the screen holds the snapped box and no mode
abbrev pub frame : Setup → Box → Frame
frame q b = record { viewport = viewport-in q.mode b; c = q.c; d = q.d; width = q.width }
