-- The minima above the depth words, at reached words.
use Rattle.std.specs.Prelude.{ℕ, ◌<◌, ◌≡◌, List, ltb}
use Rattle.rules.specs.Lists.{every, slice}
use Rattle.rules.specs.Answers.{Done}
use Rattle.rules.specs.Spans.{Span}
use Rattle.rules.specs.Minima.{minima-room, summary}
use Rattle.rules.specs.Plans.{Frame, Step}
use Rattle.screen.specs.Tables.{ScreenLent}
use Rattle.paint.specs.Judging.{count, wide}
use Rattle.paint.specs.Stepping.{part}
use Rattle.paint.specs.DirectRuns.{hidden-of-row}
use Rattle.theorem_picture.specs.Reached.{Reached}

-- each row's minima are the summary of its depth words
abbrev pub Summed : ScreenLent → Type 0
Summed l =
    (r : ℕ) → r < count l.screen
    → part (minima-room (wide l.screen)) r l.tables.depth.minima ≡ summary (part (wide l.screen) r l.tables.depth.words)

-- Whatever calls were made, the minima are that.
abbrev pub ReachedSummed : Type 0
ReachedSummed = (f : Frame) (xs : List Step) (l : ScreenLent) → Reached f xs l → Summed l

-- So `is_hidden` of a range t of a row's buckets, where it is not refused, says yes exactly if every bucket of the range holds an id greater than the asked one.
abbrev pub HiddenExact : ScreenLent → Type 0
HiddenExact l =
    (r id : ℕ) (t : Span)
    → (hidden-of-row l.screen r l.tables.depth.minima t id).number ≡ Done
    → (hidden-of-row l.screen r l.tables.depth.minima t id).value
    ≡ every (λ (w : ℕ). ltb id w) (slice t.first t.end (part (wide l.screen) r l.tables.depth.words))

abbrev pub ReachedHidden : Type 0
ReachedHidden = (f : Frame) (xs : List Step) (l : ScreenLent) → Reached f xs l → HiddenExact l
