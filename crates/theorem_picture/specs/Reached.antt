-- Calls on a screen and all its lent words, each on the words that the last one left: every call by the definition that its contract cites.
use Rattle.std.specs.Prelude.{ℕ, ◌≡◌, Bool, true, false, List, [], ◌∷◌, ◌++◌}
use Rattle.rules.specs.Answers.{Answer, answer, Done}
use Rattle.rules.specs.Spans.{Span}
use Rattle.rules.specs.Inputs.{Props}
use Rattle.rules.specs.Plans.{Frame, Step, a-push}
use Rattle.screen.specs.declared.Screen.{Screen}
use Rattle.screen.specs.Depths.{Depths}
use Rattle.screen.specs.Tables.{tables, ScreenLent, screen_lent, reset_to}
use Rattle.screen.specs.declared.layers.LayerProps.{LayerProps}
use Rattle.inputs.specs.declared.Draw.{Draw}
use Rattle.layers.specs.Filter.{FilterGiven}
use Rattle.walk.specs.Reading.{props_in}
use Rattle.paint.specs.Painting as paint
use Rattle.paint.specs.Beginning.{canvas, beginning}
use Rattle.paint.specs.Stepping.{attributes, stepped}
use Rattle.paint.specs.DirectRuns.{Wrote, write-of}
use Rattle.compact.specs.Lent.{compact-at}
use Rattle.theorem_picture.specs.Calls.{fill-at, push_at, pop-at, filter-at, fill-said, pop-said, filter-said}

-- the words with another screen, other depth words with their minima, and other painting words
abbrev pub with-canvas : ScreenLent → Screen → Depths → List ℕ → ScreenLent
with-canvas l s depth painting =
    screen_lent s
    (tables l.tables.render l.tables.fills depth l.tables.rows painting l.tables.layers l.tables.opacities l.tables.paint-attrs l.tables.layer-attrs l.tables.filter-paints)

-- `begin_painting`
unfoldable pub begin-at : ScreenLent → Answer ScreenLent
begin-at l =
    let a = beginning (canvas l.screen l.tables.depth l.tables.painting) in
    answer a.number (with-canvas l a.value.screen a.value.depth a.value.painting)

-- `paint_step` of row i into a list: what it gives, and the words afterwards
unfoldable pub paint-out : ℕ → List ℕ → ScreenLent → paint.StepOut
paint-out i list l =
    stepped l.screen i (attributes l.tables.paint-attrs l.tables.layer-attrs)
    (paint.words_lent l.tables.rows l.tables.render l.tables.fills l.tables.depth l.tables.painting list)

abbrev pub paint-at : ℕ → List ℕ → ScreenLent → ScreenLent
paint-at i list l = let o = paint-out i list l in with-canvas l l.screen o.depth o.painting

-- `unset_runs_and_write` over the buckets t of row i with an id: what it gives, and the words afterwards
unfoldable pub write-out : ℕ → ℕ → Span → List ℕ → ScreenLent → Wrote
write-out i id t list l = write-of l.screen i l.tables.depth id t list

abbrev pub write-at : ℕ → ℕ → Span → List ℕ → ScreenLent → ScreenLent
write-at i id t list l = let o = write-out i id t list l in with-canvas l o.screen o.depth l.tables.painting

-- The words l of a screen after a done reset to the frame f and calls on it; xs are the steps that its done building calls say, in order.
-- `reset` makes the frame of what it is asked: in snapping mode it has the snapped box, and everything said of f speaks of that box.
-- The picture calls such a screen *built*: nothing but its own calls has written its words, each given what the last one left. A building call
-- is lent any paints and segments, any properties that are a step's (those of every done push are: `push-says`), any placement. Painting
-- calls and writing runs may come between, done or refused, and so may `compact_row` of any row if c is true. A done recording is a reset and steps
-- (`recorded-reached`), a row painted by one call is painting steps (`row-reached`). The other calls, and refused building calls (`fill-kept`, ..),
-- leave every lent word as it was: they need no case.
pub data ReachedBy : Bool → Frame → List Step → ScreenLent → Type 0 where
  by-reset : {c : Bool} (f : Frame) (l : ScreenLent) → (reset_to f l).number ≡ Done → ReachedBy c f [] (reset_to f l).value
  by-fill : {c : Bool} {f : Frame} {xs : List Step} {l : ScreenLent} (ps ss : List ℕ) (d : Draw) → ReachedBy c f xs l → (fill-at ps ss d l).number ≡ Done
      → ReachedBy c f (xs ++ (fill-said ps ss d ∷ [])) (fill-at ps ss d l).value
  by-push : {c : Bool} {f : Frame} {xs : List Step} {l : ScreenLent} (p : LayerProps) (q : Props) → p ≡ props_in q → ReachedBy c f xs l → (push_at p l).number ≡ Done
      → ReachedBy c f (xs ++ (a-push q ∷ [])) (push_at p l).value
  by-pop : {c : Bool} {f : Frame} {xs : List Step} {l : ScreenLent} (ss : List ℕ) → ReachedBy c f xs l → (pop-at ss l).number ≡ Done
      → ReachedBy c f (xs ++ (pop-said ss ∷ [])) (pop-at ss l).value
  by-filter : {c : Bool} {f : Frame} {xs : List Step} {l : ScreenLent} (g : FilterGiven) → ReachedBy c f xs l → (filter-at g l).number ≡ Done
      → ReachedBy c f (xs ++ (filter-said g ∷ [])) (filter-at g l).value
  by-begin : {c : Bool} {f : Frame} {xs : List Step} {l : ScreenLent} → ReachedBy c f xs l → ReachedBy c f xs (begin-at l).value
  by-paint : {c : Bool} {f : Frame} {xs : List Step} {l : ScreenLent} (i : ℕ) (list : List ℕ) → ReachedBy c f xs l → ReachedBy c f xs (paint-at i list l)
  by-write : {c : Bool} {f : Frame} {xs : List Step} {l : ScreenLent} (i id : ℕ) (t : Span) (list : List ℕ) → ReachedBy c f xs l → ReachedBy c f xs (write-at i id t list l)
  by-compact : {f : Frame} {xs : List Step} {l : ScreenLent} (i : ℕ) → ReachedBy true f xs l → ReachedBy true f xs (compact-at i l).value

-- by any of these calls
abbrev pub Reached : Frame → List Step → ScreenLent → Type 0
Reached = ReachedBy true

-- By all but `compact_row`: what a row's words are goes by the steps alone only here, for what a row is compacted of is not among the steps.
abbrev pub ReachedAlone : Frame → List Step → ScreenLent → Type 0
ReachedAlone = ReachedBy false

-- The second is a case of the first.
abbrev pub AloneReached : Type 0
AloneReached = (f : Frame) (xs : List Step) (l : ScreenLent) → ReachedAlone f xs l → Reached f xs l
