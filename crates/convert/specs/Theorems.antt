-- What conversions keep, each of a file of edition d to one of edition e. The two public calls are those from one to two and from two to one.
use Rattle.std.specs.Prelude.{ℕ, ◌≤◌, ◌≡◌, ◌↔◌, Bool, true, ◌&&◌, List, length, eqb, option_map, Some}
use Rattle.sizes.specs.declared.edition.Edition.{Edition}
use Rattle.sizes.specs.declared.edition.Edition.TheVariants.{One, Two}
use Rattle.rules.specs.Lists.{every}
use Rattle.rules.specs.Answers.{answer, Done}
use Rattle.rules.specs.Boxes.{good_viewport}
use Rattle.rules.specs.Inputs.{Draw}
use Rattle.rules.specs.Setups.{Setup, Mode, viewport-in}
use Rattle.rules.specs.Recording.{Recording, File, LayerRec, in-edition, parsed, recording, good-records, good-order}
use Rattle.rules.specs.Rows.{Row, row-ops, fresh-row}
use Rattle.rules.specs.Steps.{Screen, reset, call}
use Rattle.rules.specs.Walk.{Arenas, Place, play}
use Rattle.rules.specs.Calls.{Canvas, record-call}
use Rattle.rules.specs.Conversions.{conversion, convert-call}

-- the recording of a file is not refused by 3, 2, 4 or 5, its viewport read in a mode, with no limit of rows
pub record Valid (m : Mode) (f : File) : Type 0 where
  pub sections : List (List (List ℕ))
  pub form : parsed f ≡ Some sections
  pub viewport : good_viewport (viewport-in m (recording sections).viewport) ≡ true
  pub records : good-records (recording sections) ≡ true
  pub order : good-order (recording sections) ≡ true

-- every panel is 0, also of a draw or a layer that no walk reaches
abbrev pub no-panels : Recording → Bool
no-panels r = every (λ (d : Draw). eqb d.panel 0) r.draws && every (λ (l : LayerRec). eqb l.panel 0) r.layers

-- a valid file, every panel of which is 0
pub record ValidNoPanels (m : Mode) (f : File) : Type 0 where
  pub valid : Valid m f
  pub panels : no-panels (recording valid.sections) ≡ true

-- a file of edition d is done as one of edition e, whose words are vs
abbrev pub Becomes : Mode → Edition → Edition → List ℕ → List ℕ → Type 0
Becomes m d e ws vs = conversion m e (in-edition d ws) ≡ answer Done vs

-- room for the words that a conversion gives
abbrev pub Room : Mode → Edition → File → ℕ → Type 0
Room m e f n = length (conversion m e f).value ≤ n

-- Given room, to edition two is done exactly for valid files, ..
abbrev pub ExactToTwo : Type 0
ExactToTwo = (m : Mode) (ws : List ℕ) (n : ℕ) → let f = in-edition One ws in Room m Two f n → ((convert-call m Two n f).number ≡ Done) ↔ Valid m f

-- .. and to edition one exactly for those where also every panel is 0.
abbrev pub ExactToOne : Type 0
ExactToOne = (m : Mode) (ws : List ℕ) (n : ℕ) → let f = in-edition Two ws in Room m One f n → ((convert-call m One n f).number ≡ Done) ↔ ValidNoPanels m f

-- The other conversion of the result, in any mode in which it is done, gives the words that were there at first, ..
abbrev pub ThereAndBack : Type 0
ThereAndBack = (d e : Edition) (m n : Mode) (ws vs : List ℕ) → Becomes m d e ws vs → (conversion n d (in-edition e vs)).number ≡ Done → Becomes n e d vs ws

-- .. and in the mode of the first it is always done.
abbrev pub AlwaysBack : Type 0
AlwaysBack = (d e : Edition) (m : Mode) (ws vs : List ℕ) → Becomes m d e ws vs → Becomes m e d vs ws

-- The converted file says the same recording, ..
abbrev pub SameRecording : Type 0
SameRecording = (d e : Edition) (m : Mode) (ws vs : List ℕ) → Becomes m d e ws vs
    → option_map recording (parsed (in-edition e vs)) ≡ option_map recording (parsed (in-edition d ws))

-- .. so that it is played alike: the rules' recording call leaves the same number, screen, rows and painting, ..
abbrev pub SamePlayed : Type 0
SamePlayed = (d e : Edition) (m : Mode) (ws vs : List ℕ) → Becomes m d e ws vs
    → (q : Setup) (a : Arenas) (k : Canvas) → record-call q a (in-edition e vs) k ≡ record-call q a (in-edition d ws) k

-- .. and a screen by itself, of at most so many rows, is left the same.
abbrev pub SameScreen : Type 0
SameScreen = (d e : Edition) (m : Mode) (ws vs : List ℕ) → Becomes m d e ws vs
    → (p : Place) (old : Screen Row) → play (Screen Row) (call Row row-ops) (reset fresh-row) p old (in-edition e vs)
    ≡ play (Screen Row) (call Row row-ops) (reset fresh-row) p old (in-edition d ws)
