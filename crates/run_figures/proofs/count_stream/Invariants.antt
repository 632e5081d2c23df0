use Rattle.std.proofs.Common.{◌≡◌, length}
use Rattle.rules.proofs.All.{All}
use Rattle.rules_figures.specs.Accounted.{most-recordings}
use Rattle.text_programs.specs.Rooms.{file-room}
use Rattle.text_programs.specs.Arguments.{reading_of}
use Rattle.tally.specs.Counts.{Within, screen-most}
use Rattle.run_figures.specs.Counting.{first-figures}
use Rattle.run_figures.proofs.Counting.{Counted}
use Rattle.run_figures.proofs.count_stream.Given as goal

abbrev pub invariant-loop-i : goal.invariant-loop-i
invariant-loop-i g l =
    (length l.buffer ≡ file-room)
    × (length l.counted ≡ most-recordings)
    × All (Within screen-most) (first-figures l.i l.counted)
    × Counted (reading_of l.reading) l.i (g.R.Read.remaining l.initial.input) (g.R.Read.remaining l.input) (first-figures l.i l.counted)
