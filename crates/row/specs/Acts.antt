-- The rules' acts at rows of words. The first number is that of a bucket's tiles, where it matters.
use Rattle.std.specs.Prelude.{ℕ, Bool, true, not}
use mathlib.Core.List.{foldl}
use Rattle.std.specs.Prelude.{Option, None, Some}
use Rattle.rules.specs.Spans.{Span}
use Rattle.rules.specs.Split.{split}
use Rattle.rules.specs.Commands.{paint-fill}
use Rattle.rules.specs.Plans.{Act, draw-act}
use Rattle.rules.specs.Steps.{ensure, put-part, do-act}
use Rattle.span.specs.declared.TileSpan.{TileSpan}
use Rattle.span.specs.Spans.{tiles}
use Rattle.row.specs.Words.{Words, put_command, word-ops}
use Rattle.row.specs.Cmds.{Short}

-- rule 5, with n layers open: no depth fill, so that it is the same at each width
abbrev pub ensured : ℕ → Words → Words
ensured n w = ensure Words word-ops n w

-- any act, with n layers open
abbrev pub acted : ℕ → ℕ → Act → Words → Words
acted v n a w = do-act Words word-ops v n a w

-- rule 7, all the parts
abbrev pub parted : ℕ → ℕ → ℕ → Span → Words → Words
parted v i id s w = foldl (put-part Words word-ops v i id) w (split v s)

-- the regular piece on one side of a depth fill, where there is one
abbrev pub edged : Option TileSpan → ℕ → Words → Words
edged None i w = w
edged (Some s) i w = put_command (paint-fill (tiles s) None i) w

abbrev pub ShortEdge : Option TileSpan → Type 0
ShortEdge None = Unit
ShortEdge (Some s) = Short (tiles s)

-- rule 6: a stretch with alpha index a becomes one command; e says that the draw is eligible
abbrev pub unsplit : Bool → Option ℕ → Bool
unsplit e None = not e
unsplit e (Some a) = true

-- rules 5 to 7: what is left of a segment; `e` says that the draw is eligible
abbrev pub drawn : ℕ → ℕ → Bool → Span → Option ℕ → ℕ → ℕ → Words → Words
drawn v n e s a i id w = acted v n (draw-act e i id s a) w
