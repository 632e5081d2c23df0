-- The building calls and the steps of the rules are the same: a done call, whatever words it was lent, is the step that its words say, and each
-- step is such a call.
use Rattle.std.specs.Prelude.{ℕ, ◌+◌, ◌*◌, ◌%◌, ◌≡◌, Bool, true, T, List, [], ◌∷◌, ◌++◌, length, get_or}
use lib.Ieee.{binary32, fits}
use Rattle.rules.specs.Answers.{Done}
use Rattle.rules.specs.Inputs.{Props, good-props}
use Rattle.rules.specs.Plans.{Frame, Step, a-push}
use Rattle.screen.specs.Tables.{ScreenLent}
use Rattle.screen.specs.declared.layers.LayerProps.{LayerProps}
use Rattle.screen.specs.Layers.{good-given}
use Rattle.inputs.specs.declared.Draw.{Draw}
use Rattle.layers.specs.Filter.{FilterGiven}
use Rattle.walk.specs.Reading.{props_in, props_said}
use Rattle.walk.specs.Steps.{call_at}
use Rattle.theorem_picture.specs.Calls.{fill-at, push_at, pop-at, filter-at, fill-said, pop-said, filter-said, fills-out, fills-left, fills-said}
use Rattle.theorem_picture.specs.Reached.{ReachedBy}

-- Done, or lent whole records, a building call is the step that its words say. The properties of a done push are a step's: its opacity is an f32.
pub record Said (l : ScreenLent) : Type 0 where
  pub fills : (ps ss : List ℕ) (d : Draw) → (fill-at ps ss d l).number ≡ Done → fill-at ps ss d l ≡ call_at (fill-said ps ss d) l
  pub fills-whole : (ps ss : List ℕ) (d : Draw) → length ps % 4 ≡ 0 → length ss % 5 ≡ 0 → fill-at ps ss d l ≡ call_at (fill-said ps ss d) l
  pub pushes : (p : LayerProps) (q : Props) → p ≡ props_in q → push_at p l ≡ call_at (a-push q) l
  pub properties : (p : LayerProps) → T (fits binary32 p.opacity) → (push_at p l).number ≡ Done → p ≡ props_in (props_said p)
  pub pops : (ss : List ℕ) → (pop-at ss l).number ≡ Done → pop-at ss l ≡ call_at (pop-said ss) l
  pub pops-whole : (ss : List ℕ) → length ss % 5 ≡ 0 → pop-at ss l ≡ call_at (pop-said ss) l
  pub filters : (g : FilterGiven) → filter-at g l ≡ call_at (filter-said g) l

abbrev pub CallsSaid : Type 0
CallsSaid = (l : ScreenLent) → Said l

-- Given properties that a push accepts, their opacity an f32, are those of a layer of the rules; those of a layer of the rules are accepted exactly
-- if the rules accept them.
pub record PropertiesGood : Type 0 where
  pub said : (p : LayerProps) → T (fits binary32 p.opacity) → good-given p ≡ true → (props_in (props_said p) ≡ p) × (good-props (props_said p) ≡ true)
  pub given : (p : Props) → good-given (props_in p) ≡ good-props p

-- A refused building call leaves every word as it was, whatever it was lent.
pub record Kept (l : ScreenLent) : Type 0 where
  pub fills : (ps ss : List ℕ) (d : Draw) → ((fill-at ps ss d l).number ≡ Done → ⊥) → (fill-at ps ss d l).value ≡ l
  pub pushes : (p : LayerProps) → ((push_at p l).number ≡ Done → ⊥) → (push_at p l).value ≡ l
  pub pops : (ss : List ℕ) → ((pop-at ss l).number ≡ Done → ⊥) → (pop-at ss l).value ≡ l
  pub filters : (g : FilterGiven) → ((filter-at g l).number ≡ Done → ⊥) → (filter-at g l).value ≡ l

abbrev pub RefusedKept : Type 0
RefusedKept = (l : ScreenLent) → Kept l

-- Every done step of the rules is a call: it leaves reached words reached, by the history and it; c says whether rows were compacted.
abbrev pub StepReached : Type 0
StepReached =
    (c : Bool) (f : Frame) (xs : List Step) (l : ScreenLent) (x : Step) → ReachedBy c f xs l → (call_at x l).number ≡ Done
    → ReachedBy c f (xs ++ (x ∷ [])) (call_at x l).value

-- Any done push extends the history by the step that its properties say; its opacity is an f32.
abbrev pub PushReached : Type 0
PushReached =
    (c : Bool) (f : Frame) (xs : List Step) (l : ScreenLent) (p : LayerProps) → T (fits binary32 p.opacity) → ReachedBy c f xs l → (push_at p l).number ≡ Done
    → ReachedBy c f (xs ++ (a-push (props_said p) ∷ [])) (push_at p l).value

-- A list of fills, done or stopped, extends the history by the steps that its done fills say.
abbrev pub FillsReached : Type 0
FillsReached =
    (c : Bool) (f : Frame) (xs : List Step) (l : ScreenLent) (ps ss ws : List ℕ) (a b : ℕ) → ReachedBy c f xs l
    → ReachedBy c f (xs ++ fills-said ps ss ws a (fills-out ps ss ws a b l).done) (fills-left ps ss ws a b l)

-- What no rule reads is free: lists of paints that differ in their shift words alone say the same step.
abbrev pub ShiftsFree : Type 0
ShiftsFree =
    (ps qs : List ℕ) → length ps ≡ length qs → ((i : ℕ) → get_or ps (4 * i) 0 ≡ get_or qs (4 * i) 0)
    → ((i : ℕ) → get_or ps (4 * i + 1) 0 ≡ get_or qs (4 * i + 1) 0) → (ss : List ℕ) (d : Draw) → fill-said ps ss d ≡ fill-said qs ss d
