-- What it is for a told tile to be the rules' account of it: a line for each account, one after the other over the lent words.
use Rattle.std.specs.Prelude.{ℕ, ◌+◌, ◌*◌, ◌≤◌, ◌≡◌, Bool, ◌&&◌, List, [], ◌∷◌, ◌++◌, length, drop}
use Rattle.sizes.specs.Sizes.{most-attrs}
use Rattle.rules.specs.Lists.{keep, join}
use Rattle.rules.specs.Boxes.{Box}
use Rattle.rules.specs.Plans.{Step}
use Rattle.rules.specs.Plain.{untold, tell-steps}
use Rattle.rules_reason.specs.Reasons.{Account, accounts}
use Rattle.sizes.specs.Sizes.{line-size}
use Rattle.tile.specs.Telling.{Telling, Line, standing-of, line-words}
use Rattle.tile.specs.Listed.{entry_of}

-- what covers the tile, after the cut too, in a touched row, is told
abbrev pub tells : Account → Bool
tells k = k.covered && k.kept && k.touched

-- A line says what an account says: its attribute, its standing and its panel; and the account tells the line's entry exactly if it is covered, kept and
-- touched. (A line that tells nothing may have an alpha index.)
pub record Says (k : Account) (l : Line) : Type 0 where
  pub id : ℕ
  pub hides : Bool
  pub layer : l.layer ≡ k.layer
  pub attribute : l.attribute ≡ k.attribute
  pub standing : l.standing ≡ standing-of k.covered k.kept k.touched hides
  pub panel : l.panel ≡ k.panel
  pub told : k.told ≡ keep (tells k) (record { entry = entry_of l; id = id; hides = hides }) []

-- one after the other
pub data Say : List Account → List Line → Type 0 where
  said : Say [] []
  says : {k : Account} {l : Line} {ks : List Account} {ls : List Line} → Says k l → Say ks ls → Say (k ∷ ks) (l ∷ ls)

-- lines as words
abbrev pub flat : List Line → List ℕ
flat ls = join line-words ls

-- after the steps xs the engine knows as many attributes as the story, at most 1,024 of a kind; and the words that were ws are now a line for
-- each account, then what ws had after them
pub record Retold (w : ℕ) (v : Box) (row tile : ℕ) (xs : List Step) (ws : List ℕ) (t : Telling) : Type 0 where
  pub paints : t.paints ≡ (tell-steps w v row tile xs untold).paints
  pub layers : t.layers ≡ (tell-steps w v row tile xs untold).layers
  pub few-paints : t.paints ≤ most-attrs
  pub few-layers : t.layers ≤ most-attrs
  pub count : t.paints + t.layers ≡ length (accounts w v row tile xs untold)
  pub all_said : List Line
  pub say : Say (accounts w v row tile xs untold) all_said
  pub lines : t.lines ≡ flat all_said ++ drop (line-size * length all_said) ws
