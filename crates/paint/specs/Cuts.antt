-- A fill that is put in pieces.
use Rattle.std.specs.Prelude.{ℕ, ◌/◌, ◌%◌, ◌≤◌, ◌<◌, List, length}
use Rattle.rules.specs.Spans.{Span}
use Rattle.paint.specs.declared.whole.pieces.Cut.{Cut}
use Rattle.paint.specs.Scales.{tiles_in}
use Rattle.paint.specs.Kinds.{Fills, high-met, runs-met, run-words}

abbrev pub FillsCut : Cut → Type 0
FillsCut c = Fills c.words

-- the end of the buckets that it meets
abbrev pub end_met : Cut → ℕ
end_met c = high-met (tiles_in c.scale) c.words.span.0

-- it has a tile, and its buckets are the row's
pub record MeetsCut (c : Cut) (D : List ℕ) : Type 0 where
  pub some : c.words.span.0 / 65536 < c.words.span.0 % 65536
  pub within : end_met c ≤ length D

-- a run's words
abbrev pub cut_words : Cut → Span → List ℕ
cut_words c r = run-words (tiles_in c.scale) c.words c.nesting c.mark.panel r

-- the runs that are shown
abbrev pub met : Cut → List ℕ → List Span
met c D = runs-met (tiles_in c.scale) D c.mark.id c.words.span.0
