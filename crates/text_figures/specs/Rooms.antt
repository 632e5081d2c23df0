-- What a line's buffer has room for.
use Rattle.std.specs.Prelude.{ℕ}

abbrev pub line-room : ℕ
line-room = 208
