-- A bucket's width as a shift.
use Rattle.std.specs.Prelude.{ℕ, ◌^◌}
use Rattle.paint.specs.declared.whole.scale.Scale.{Scale}

-- how many tiles a bucket has
abbrev pub tiles_in : Scale → ℕ
tiles_in s = 2 ^ s.shift
