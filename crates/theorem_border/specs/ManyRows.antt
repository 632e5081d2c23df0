-- Rows by one call on a host's words, by the definition that the contract of `coarse_paint_rows` cites.
use Rattle.std.specs.Prelude.{ℕ, Bool, List}
use Rattle.rules.specs.Answers.{Answer}
use Rattle.rules.specs.Plans.{Frame, Step}
use Rattle.paint.specs.declared.rows.RowRange.{RowRange}
use Rattle.host.specs.PaintRows.{RowsLeft, paint_rows_call}
use Rattle.theorem_border.specs.Hosted.{Host, host, with-painting, own-attributes, own-words, HostedBy}

-- any range, list and ends: its number; the depth words with their minima, the painting words, the list, the ends, and how far the rows came
unfoldable pub rows-out : RowRange → List ℕ → List ℕ → Host → Answer RowsLeft
rows-out r list ends h = paint_rows_call r (own-attributes h) h.state (own-words list h) ends

abbrev pub rows-at : RowRange → List ℕ → List ℕ → Host → Host
rows-at r list ends h = let v = (rows-out r list ends h).value in host h.state (with-painting h.tables v.0 v.1)

-- Done or stopped, it is painting calls of the host's history, which goes on.
abbrev pub RowsHosted : Type 0
RowsHosted =
    (c : Bool) (f : Frame) (xs : List Step) (h : Host) (r : RowRange) (list ends : List ℕ) → HostedBy c f xs h → HostedBy c f xs (rows-at r list ends h)
