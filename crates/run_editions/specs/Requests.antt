-- What a program's arguments ask: options first, of which there is one, then which way files are converted.
use Rattle.std.specs.Prelude.{◌≡◌, ℕ, if◌then◌else◌, List, [], ◌∷◌, codes, ⊤, Option, Some, None, bytes_eq, option_map}
use Rattle.rules.specs.Setups.{Mode, exact, snapping}
use Rattle.run_editions.specs.declared.conversion.Way.{Way}
use Rattle.run_editions.specs.declared.conversion.Way.TheVariants.{New, Old}
use Rattle.run_editions.specs.declared.arguments.Ask.{Ask}
use Rattle.run_editions.specs.declared.arguments.Ask.TheVariants.{File, Stream}

-- the mode that is chosen, and the arguments from the first on that is no option
pub record Arguments : Type 0 where
  pub mode : Mode
  pub others : List (List ℕ)

abbrev pub arguments : Mode → List (List ℕ) → Arguments
arguments m ws = record { mode = m; others = ws }

abbrev pub arguments_after : Mode → List (List ℕ) → Arguments
arguments_after m [] = arguments m []
arguments_after m (w ∷ ws) = if bytes_eq w (codes "--snap") then arguments_after snapping ws else arguments m (w ∷ ws)

abbrev pub read_arguments : List (List ℕ) → Arguments
read_arguments ws = arguments_after exact ws

-- no option stands first in the arguments ws; one does, and vs stand after it
abbrev pub NoSnap : List (List ℕ) → Type 0
NoSnap ws = (m : Mode) → arguments_after m ws ≡ arguments m ws

abbrev pub OneSnap : List (List ℕ) → List (List ℕ) → Type 0
OneSnap ws vs = (m : Mode) → arguments_after m ws ≡ arguments_after snapping vs

abbrev pub way_of : List ℕ → Option Way
way_of w = if bytes_eq w (codes "new") then Some New else (if bytes_eq w (codes "old") then Some Old else None)

-- what the arguments after the options ask
abbrev pub ask_of : List (List ℕ) → Option Ask
ask_of [] = None
ask_of (w ∷ []) = option_map File (way_of w)
ask_of (w ∷ v ∷ []) = if bytes_eq w (codes "--stream") then option_map Stream (way_of v) else None
ask_of (w ∷ v ∷ u ∷ ws) = None

-- one file is asked for, or nothing is asked
abbrev pub IsOfFile : Ask → Type 0
IsOfFile (File y) = ⊤
IsOfFile (Stream y) = ⊥

abbrev pub IsOfStream : Ask → Type 0
IsOfStream (File y) = ⊥
IsOfStream (Stream y) = ⊤

-- .. of the arguments; a stream is asked for
abbrev pub AsksOfFile : List (List ℕ) → Type 0
AsksOfFile args = elim (ask_of (read_arguments args).others) [ Some a ↦ IsOfFile a | None ↦ ⊤ ]

abbrev pub AsksOfStream : List (List ℕ) → Type 0
AsksOfStream args = elim (ask_of (read_arguments args).others) [ Some a ↦ IsOfStream a | None ↦ ⊥ ]
