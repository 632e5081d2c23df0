-- What the programs' text buffers have room for.
use Rattle.std.specs.Prelude.{ℕ, ◌+◌, ◌*◌}
use Rattle.sizes.specs.Sizes.{program-rows, program-room}
use Rattle.text.specs.Listed.{row_room}

-- the longest text of a screen's rows, or of a tile's reasons
abbrev pub text-room : ℕ
text-room = 64 + program-rows * row_room program-room program-room
