-- What the programs' buffer has room for.
use Rattle.std.specs.Prelude.{ℕ, ◌+◌}
use Rattle.sizes.specs.Sizes.{file-bytes}

-- the longest file, and one byte more, by which a longer one is known
abbrev pub file-room : ℕ
file-room = file-bytes + 1
