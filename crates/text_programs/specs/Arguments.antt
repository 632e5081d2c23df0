-- What a program's arguments say, each a text: the options stand first, in any order, and of a repeated one the last counts.
use Rattle.std.specs.Prelude.{◌≡◌, ℕ, ◌^◌, Bool, true, false, ◌&&◌, ◌||◌, if◌then◌else◌, List, [], ◌∷◌, length, codes, Option, Some, None, Result, Ok, Err, nat_lt, bytes_eq, option_map}
use Rattle.std.specs.Str.{all_ascii_digits}
use Rattle.std.specs.Str.Parse.{digits_value}
use Rattle.sizes.specs.declared.answers.Refusal.{Refusal}
use Rattle.sizes.specs.declared.edition.Edition.{Edition}
use Rattle.sizes.specs.declared.width.Width.{Width}
use Rattle.sizes.specs.Editions.{edition_of}
use Rattle.sizes.specs.Widths.{width_of}
use Rattle.rules.specs.Setups.{Mode, exact, snapping}
use Rattle.rect.specs.Rects.{mode_of}
use Rattle.text_programs.specs.declared.about.About.{About}
use Rattle.text_programs.specs.declared.about.About.TheVariants.{Usage, Version}
use Rattle.text_programs.specs.declared.options.ReadSoFar.{ReadSoFar}
use Rattle.text_programs.specs.declared.options.Reading.{Reading}
use Rattle.text_programs.specs.declared.options.Reading.TheVariants.{Screen, NoWidth, NoEdition}
use Rattle.text_programs.specs.declared.options.Want.{Want}

-- a number: decimal digits alone, at most 4,294,967,295
abbrev pub is_number : List ℕ → Bool
is_number ds = nat_lt 0 (length ds) && (all_ascii_digits ds && nat_lt (digits_value 10 ds) (2 ^ 32))

abbrev pub number_of : List ℕ → Option ℕ
number_of ds = if is_number ds then Some (digits_value 10 ds) else None

-- what options choose; edition and pixels are what is typed
pub record Choice : Type 0 where
  pub edition : ℕ
  pub mode : Mode
  pub pixels : ℕ
  pub panels : Bool

abbrev pub choice : ℕ → Mode → ℕ → Bool → Choice
choice e m n v = record { edition = e; mode = m; pixels = n; panels = v }

abbrev pub no_options : Choice
no_options = choice 1 exact 128 false

-- an option of one word, after the choice c; known: `--panels` is an option
abbrev pub with_word : Bool → Choice → List ℕ → Option Choice
with_word known c w =
    if bytes_eq w (codes "--snap") then Some (record c { mode = snapping })
    else (if known && bytes_eq w (codes "--panels") then Some (record c { panels = true }) else None)

-- `--width` or `--edition`, and its number
abbrev pub with_number : Choice → List ℕ → List ℕ → Option Choice
with_number c w n =
    if bytes_eq w (codes "--width") then option_map (λ p. record c { pixels = p }) (number_of n)
    else (if bytes_eq w (codes "--edition") then option_map (λ k. record c { edition = k }) (number_of n) else None)

-- what the options choose, and the arguments from the first on that is none
pub record Arguments : Type 0 where
  pub choice : Choice
  pub others : List (List ℕ)

abbrev pub arguments : Choice → List (List ℕ) → Arguments
arguments c ws = record { choice = c; others = ws }

abbrev pub arguments_after : Bool → Choice → List (List ℕ) → Arguments
arguments_after known c [] = arguments c []
arguments_after known c (w ∷ []) = elim (with_word known c w) [ Some d ↦ arguments d [] | None ↦ arguments c (w ∷ []) ]
arguments_after known c (w ∷ n ∷ ws) =
    elim (with_word known c w) [
      | Some d ↦ arguments_after known d (n ∷ ws)
      | None ↦ elim (with_number c w n) [ Some d ↦ arguments_after known d ws | None ↦ arguments c (w ∷ n ∷ ws) ]
    ]

-- no option stands first in the arguments ws, after the choice c
abbrev pub NoOption : Bool → Choice → List (List ℕ) → Type 0
NoOption known c ws = arguments_after known c ws ≡ arguments c ws

-- one does: what it makes of the choice is d, and vs are left
abbrev pub OneOption : Bool → Choice → List (List ℕ) → Choice → List (List ℕ) → Type 0
OneOption known c ws d vs = arguments_after known c ws ≡ arguments_after known d vs

abbrev pub read_arguments : Bool → List (List ℕ) → Arguments
read_arguments known ws = arguments_after known no_options ws

-- what a program is asked to say of itself
abbrev pub asked_about : List (List ℕ) → Option About
asked_about [] = None
asked_about (w ∷ []) =
    if bytes_eq w (codes "--help") || bytes_eq w (codes "-h") then Some Usage else (if bytes_eq w (codes "--version") then Some Version else None)
asked_about (w ∷ n ∷ ws) = None

-- a choice, as the code has it
abbrev pub chosen_of : ReadSoFar → Choice
chosen_of c = choice c.edition (mode_of c.mode) c.pixels c.panels

-- how each file is read: for a screen, in an edition and a mode, with buckets of a width; or a width is asked for that is none, or an edition
pub data ReadAs : Type 0 where
  as-screen : Edition → Mode → Width → ReadAs
  as-no-width : Edition → ReadAs
  as-no-edition : ReadAs

-- an edition that is none comes first
abbrev pub reading-by : Result Edition Refusal → Mode → Result Width Refusal → ReadAs
reading-by (Err _) m w = as-no-edition
reading-by (Ok e) m (Err _) = as-no-width e
reading-by (Ok e) m (Ok w) = as-screen e m w

-- what options want: how each file is read, and whether panels are shown
pub record Wanted : Type 0 where
  pub reading : ReadAs
  pub panels : Bool

abbrev pub wanted_by : Choice → Wanted
wanted_by c = record { reading = reading-by (edition_of c.edition) c.mode (width_of c.pixels); panels = c.panels }

-- .. as the code has it
abbrev pub reading_of : Reading → ReadAs
reading_of (Screen v) = as-screen v.edition (mode_of v.mode) v.width
reading_of (NoWidth e) = as-no-width e
reading_of NoEdition = as-no-edition

abbrev pub wanted_of : Want → Wanted
wanted_of w = record { reading = reading_of w.reading; panels = w.panels }
