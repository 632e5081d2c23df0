-- What is refused alters nothing, whatever it was lent: a reset and the calls of painting. Of the building calls `Kept` of `specs/Said` says so.
use Rattle.std.specs.Prelude.{ℕ, ◌≡◌, List}
use Rattle.rules.specs.Answers.{Answer, Done}
use Rattle.rules.specs.Spans.{Span}
use Rattle.rules.specs.Plans.{Frame, Step}
use Rattle.screen.specs.declared.Screen.{Screen}
use Rattle.screen.specs.Depths.{Depths}
use Rattle.screen.specs.Tables.{ScreenLent, reset_to}
use Rattle.reuse.specs.Used.{used_reset}
use Rattle.paint.specs.Painting.{RowLent}
use Rattle.paint.specs.Beginning.{Canvas, beginning}
use Rattle.paint.specs.Stepping.{Attributes, stepped}
use Rattle.paint.specs.Running.{row-painted}
use Rattle.paint.specs.DirectRuns.{unset-of, visible-of, write-of}
use Rattle.compact.specs.Call.{Stored, compacting}
use Rattle.theorem_picture.specs.Reached.{Reached}

abbrev pub Refused : {A : Type 0} → Answer A → Type 0
Refused a = a.number ≡ Done → ⊥

-- `reset`: the screen's numbers and all ten tables
abbrev pub ResetKept : Type 0
ResetKept = (f : Frame) (l : ScreenLent) → Refused (reset_to f l) → (reset_to f l).value ≡ l

-- `reset_used`, likewise; ..
abbrev pub UsedKept : Type 0
UsedKept = (l : ScreenLent) → Refused (used_reset l) → (used_reset l).value ≡ l

-- .. and whatever calls the words have come from, it is a reset to the screen's frame.
abbrev pub UsedResets : Type 0
UsedResets = (f : Frame) (xs : List Step) (l : ScreenLent) → Reached f xs l → used_reset l ≡ reset_to f l

-- `begin_painting`: the screen, the depth words with their minima, and the painting words
abbrev pub BeginKept : Type 0
BeginKept = (k : Canvas) → Refused (beginning k) → (beginning k).value ≡ k

-- `paint_step`: the depth words with their minima, the painting words and the list
abbrev pub StepKept : Type 0
StepKept =
    (s : Screen) (r : ℕ) (a : Attributes) (l : RowLent) → ((stepped s r a l).answer.number ≡ Done → ⊥)
    → ((stepped s r a l).depth ≡ l.depth) × ((stepped s r a l).painting ≡ l.painting) × ((stepped s r a l).list ≡ l.list)

-- `paint_row`
abbrev pub RowKept : Type 0
RowKept =
    (s : Screen) (r : ℕ) (a : Attributes) (l : RowLent) → ((row-painted s r a l).answer.number ≡ Done → ⊥)
    → ((row-painted s r a l).depth ≡ l.depth) × ((row-painted s r a l).painting ≡ l.painting) × ((row-painted s r a l).list ≡ l.list)

-- `compact_row`: the screen, which goes on painting if it did, and the words of the rows
abbrev pub CompactKept : Type 0
CompactKept = (r : ℕ) (a : Attributes) (k : Stored) → Refused (compacting r a k) → (compacting r a k).value ≡ k

-- `unset_runs` and `visible_runs`: the list, which is all that they write
abbrev pub UnsetKept : Type 0
UnsetKept = (s : Screen) (r : ℕ) (depth : List ℕ) (t : Span) (l : List ℕ) → ((unset-of s r depth t l).number ≡ Done → ⊥) → (unset-of s r depth t l).list ≡ l

abbrev pub VisibleKept : Type 0
VisibleKept =
    (s : Screen) (r : ℕ) (depth : List ℕ) (t : Span) (id : ℕ) (l : List ℕ) → ((visible-of s r depth t id l).number ≡ Done → ⊥)
    → (visible-of s r depth t id l).list ≡ l

-- `unset_runs_and_write`: the list, the screen, which goes on painting if it did, and the depth words with their minima
abbrev pub WriteKept : Type 0
WriteKept =
    (s : Screen) (r : ℕ) (depth : Depths) (t : Span) (id : ℕ) (l : List ℕ) → ((write-of s r depth id t l).listed.number ≡ Done → ⊥)
    → ((write-of s r depth id t l).listed.list ≡ l) × ((write-of s r depth id t l).screen ≡ s) × ((write-of s r depth id t l).depth ≡ depth)
