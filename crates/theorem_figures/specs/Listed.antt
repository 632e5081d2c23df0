-- The figures of a list of recordings, each bucketed on the screen and into the words that the one before has left.
use Rattle.std.specs.Prelude.{◌≡◌, ◌≤◌, List, [], ◌∷◌, ◌++◌, length}
use Rattle.rules.specs.Recording.{File}
use Rattle.rules.specs.Setups.{Setup}
use Rattle.rules.proofs.All.{All}
use Rattle.rules_figures.specs.Figures.{Figures, total}
use Rattle.rules_figures.specs.Accounted.{Accounted, Small, Small-total, most-recordings}
use Rattle.screen.specs.Tables.{ScreenLent}
use Rattle.tally.specs.Recordings.{recorded-left}
use Rattle.tally.specs.Listed.{counted-from}

-- the lines of the table
abbrev pub lines : Setup → List File → ScreenLent → List Figures
lines q fs l = (counted-from q fs l).figures

-- the screen and the words that are left afterwards
abbrev pub left-by : Setup → List File → ScreenLent → ScreenLent
left-by q fs l = (counted-from q fs l).left

-- a line for each
abbrev pub One-each : Type 0
One-each = (q : Setup) (fs : List File) (l : ScreenLent) → length (lines q fs l) ≡ length fs

-- every tile that is asked for is painted or hidden, in each line and in the totals
abbrev pub Lines-accounted : Type 0
Lines-accounted = (q : Setup) (fs : List File) (l : ScreenLent) → All Accounted (lines q fs l) × Accounted (total (lines q fs l))

-- each number of a line is below 2^31, ..
abbrev pub Lines-small : Type 0
Lines-small = (q : Setup) (fs : List File) (l : ScreenLent) → All Small (lines q fs l)

-- .. and each total of at most 65,536 recordings below 2^47
abbrev pub Sums-small : Type 0
Sums-small = (q : Setup) (fs : List File) (l : ScreenLent) → length fs ≤ most-recordings → Small-total (total (lines q fs l))

-- with no recording the screen and the words are as they were, ..
abbrev pub None-left : Type 0
None-left = (q : Setup) (l : ScreenLent) → left-by q [] l ≡ l

-- .. and else as the last one leaves them
abbrev pub Last-left : Type 0
Last-left = (q : Setup) (fs : List File) (f : File) (l : ScreenLent) → left-by q (fs ++ (f ∷ [])) l ≡ recorded-left f q (left-by q fs l)
