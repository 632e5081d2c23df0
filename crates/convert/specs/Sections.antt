-- A file's sections, and the file that they become in another edition.
use Rattle.std.specs.Prelude.{ℕ, ◌≡◌, Bool, List, [], map, Option, None, Some}
use Rattle.sizes.specs.declared.edition.Edition.{Edition}
use Rattle.rules.specs.Recording.{File, in-edition, shape, parsed}
use Rattle.rules.specs.Conversions.{file-of, converted}

abbrev pub sections-or : Option (List (List (List ℕ))) → List (List (List ℕ))
sections-or None = []
sections-or (Some ss) = ss

-- the sections of a file; of one whose form is bad, none
abbrev pub sections_of : File → List (List (List ℕ))
sections_of f = sections-or (parsed f)

-- words that have the form of an edition
pub record Formed (e : Edition) (ws : List ℕ) : Type 0 where
  pub parsed : parsed (in-edition e ws) ≡ Some (sections_of (in-edition e ws))

-- the words that a file of edition e becomes in edition f
abbrev pub file-in : Edition → Edition → List ℕ → List ℕ
file-in e f ws = file-of f (converted (shape f) (sections_of (in-edition e ws)))

-- the words of a record of each section
abbrev pub sizes-of : List (ℕ × Bool) → List ℕ
sizes-of ss = map (λ (s : ℕ × Bool). s.0) ss
