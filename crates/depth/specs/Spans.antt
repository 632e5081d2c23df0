-- Runs given as tile numbers, as spans.
use Rattle.std.specs.Prelude.{ℕ, zero, suc, ◌+◌, ◌*◌, List, get_or, set}
use Rattle.rules.specs.Spans.{Span}
use Rattle.span.specs.declared.TileSpan.{TileSpan}

-- the run at place n of a list of tile numbers, two words a run
abbrev pub span-at : List ℕ → ℕ → TileSpan
span-at ws n = record { first = get_or ws (n * 2) 0; end = get_or ws (n * 2 + 1) 0 }

abbrev pub no_span : TileSpan
no_span = record { first = 0; end = 0 }

-- the first n runs, each at its place; the other entries as they were
unfoldable pub with-spans : List ℕ → ℕ → List TileSpan → List TileSpan
with-spans ws zero l = l
with-spans ws (suc n) l = set (with-spans ws n l) n (span-at ws n)

-- the rules' spans as the code's
abbrev pub as-span : Span → TileSpan
as-span s = record { first = s.first; end = s.end }
