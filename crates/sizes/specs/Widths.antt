-- A depth bucket's widths: how many tiles each has, and which number of pixels asks for it (rule 1). A tile is 4 pixels wide.
use Rattle.std.specs.Prelude.{ℕ, cond, eqb, Result, Ok, Err}
use Rattle.sizes.specs.declared.width.Width.{Width}
use Rattle.sizes.specs.declared.width.Width.TheVariants.{W64, W128, W256}
use Rattle.sizes.specs.declared.answers.Refusal.{Refusal}
use Rattle.sizes.specs.declared.answers.Refusal.TheVariants.{BadViewport}

abbrev pub bucket-tiles : Width → ℕ
bucket-tiles W64 = 16
bucket-tiles W128 = 32
bucket-tiles W256 = 64

-- the width of so many pixels; no other number is one, which is answer 2
abbrev pub width_of : ℕ → Result Width Refusal
width_of n = cond (eqb n 64) (Ok W64) (cond (eqb n 128) (Ok W128) (cond (eqb n 256) (Ok W256) (Err BadViewport)))
