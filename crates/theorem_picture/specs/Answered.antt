-- Every call at reached words is the rules' call.
use Rattle.std.specs.Prelude.{ℕ, ◌/◌, ◌%◌, ◌≡◌, Bool, List, length}
use Rattle.sizes.specs.Sizes.{piece-size}
use Rattle.rules.specs.Answers.{answer, Done}
use Rattle.rules.specs.Spans.{Span}
use Rattle.rules.specs.Inputs.{Props}
use Rattle.rules.specs.Plans.{Frame, Step, a-push}
use Rattle.rules.specs.Calls.{Canvas, step_call, begin-call, paint-call, unset-call, visible-call, write-call, hidden-call, can-skip-call}
use Rattle.rules.specs.Compacted.{compact-call}
use Rattle.screen.specs.Tables.{ScreenLent}
use Rattle.screen.specs.declared.layers.LayerProps.{LayerProps}
use Rattle.inputs.specs.declared.Draw.{Draw}
use Rattle.layers.specs.Filter.{FilterGiven}
use Rattle.walk.specs.Reading.{props_in}
use Rattle.walk.specs.Steps.{call_at}
use Rattle.compact.specs.Lent.{compact-at}
use Rattle.depth.specs.Listing.{listing}
use Rattle.paint.specs.DirectRuns.{unset-of, visible-of, hidden-of-row, skip-of-row}
use Rattle.refine_paint.specs.Canvases.{given_out, wrote_of, WholeCanvas}
use Rattle.theorem_picture.specs.Calls.{fill-at, push_at, pop-at, filter-at, fill-said, pop-said, filter-said}
use Rattle.theorem_picture.specs.Reached.{ReachedBy, begin-at, paint-out, write-out}
use Rattle.theorem_picture.specs.Standing.{canvas-words, StandsBy, Stands}

-- Whatever calls were made, the words are those of a whole canvas of the rules, and its screen is built from the reset by the same done steps: by these
-- alone, where no row was compacted.
abbrev pub ReachedStands : Type 0
ReachedStands = (c : Bool) (f : Frame) (xs : List Step) (l : ScreenLent) → ReachedBy c f xs l → StandsBy c f xs l

-- What each call answers at the words l is what the rules answer at the canvas k, and what it leaves are the words of the rules' canvas afterwards.
-- The building calls are lent whole records; a refused step alters no word.
pub record Answers (k : Canvas) (l : ScreenLent) : Type 0 where
  pub steps : (x : Step) → call_at x l ≡ answer (step_call x k).number (canvas-words (step_call x k).value)
  pub kept : (x : Step) → ((call_at x l).number ≡ Done → ⊥) → (call_at x l).value ≡ l
  pub fills : (ps ss : List ℕ) (d : Draw) → length ps % 4 ≡ 0 → length ss % 5 ≡ 0
      → fill-at ps ss d l ≡ answer (step_call (fill-said ps ss d) k).number (canvas-words (step_call (fill-said ps ss d) k).value)
  pub pushes : (p : LayerProps) (q : Props) → p ≡ props_in q
      → push_at p l ≡ answer (step_call (a-push q) k).number (canvas-words (step_call (a-push q) k).value)
  pub pops : (ss : List ℕ) → length ss % 5 ≡ 0
      → pop-at ss l ≡ answer (step_call (pop-said ss) k).number (canvas-words (step_call (pop-said ss) k).value)
  pub filters : (g : FilterGiven)
      → filter-at g l ≡ answer (step_call (filter-said g) k).number (canvas-words (step_call (filter-said g) k).value)
  pub begins : begin-at l ≡ answer (begin-call k).number (canvas-words (begin-call k).value)
  pub paints : (i : ℕ) (list : List ℕ) → paint-out i list l ≡ given_out (paint-call i (length list / piece-size) k) list
  pub unset : (i : ℕ) (t : Span) (list : List ℕ) → unset-of l.screen i l.tables.depth.words t list ≡ listing (unset-call i (length list / 2) t k) list
  pub visible : (i id : ℕ) (t : Span) (list : List ℕ)
      → visible-of l.screen i l.tables.depth.words t id list ≡ listing (visible-call id i (length list / 2) t k) list
  pub writes : (i id : ℕ) (t : Span) (list : List ℕ) → write-out i id t list l ≡ wrote_of (write-call id i (length list / 2) t k) list
  pub compacts : (i : ℕ) → compact-at i l ≡ answer (compact-call i k).number (canvas-words (compact-call i k).value)
  pub hides : (i : ℕ) (t : Span) (id : ℕ) → hidden-of-row l.screen i l.tables.depth.minima t id ≡ hidden-call i t id k
  pub skips : (i : ℕ) (t : Span) (id : ℕ) → skip-of-row l.screen i l.tables.rows t id ≡ can-skip-call i t id k

-- So it is at the words of every whole canvas of the rules, ..
abbrev pub CanvasAnswered : Type 0
CanvasAnswered = (k : Canvas) → WholeCanvas k → Answers k (canvas-words k)

-- .. and at all reached words, for the canvas that stands there.
abbrev pub StandsAnswered : Type 0
StandsAnswered = (f : Frame) (xs : List Step) (l : ScreenLent) (s : Stands f xs l) → Answers s.canvas l
