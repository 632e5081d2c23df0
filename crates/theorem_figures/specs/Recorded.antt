-- The figures of one recording: from any screen and words, and in any setup, so at every width and in both modes.
use Rattle.std.specs.Prelude.{◌≡◌, List}
use Rattle.rules.specs.Answers.{Done}
use Rattle.rules.specs.Rows.{Row}
use Rattle.rules.specs.Plans.{Frame, Step}
use Rattle.rules.specs.Recording.{File}
use Rattle.rules.specs.Setups.{Setup, frame}
use Rattle.rules.specs.Steps.{Screen}
use Rattle.rules_picture.specs.Recorded.{history, Readable, said}
use Rattle.rules_figures.specs.Figures.{asked, hidden, painted, commands-held, fills-held, one-refused}
use Rattle.rules_figures.specs.Recordings.{of-file}
use Rattle.rules_figures.specs.Accounted.{Left}
use Rattle.screen.specs.Tables.{lengths, ScreenLent, screen_lent}
use Rattle.refine_file.specs.Played.{place}
use Rattle.tally.specs.Parts.{needed-words, cut}
use Rattle.tally.specs.Recordings.{bucketed, recorded-figures}
use Rattle.refine_tally.specs.Left.{Leaves}
use Rattle.refine_tally.specs.Lent.{lent-figures, Enough, own-place}

-- it is accepted, bucketed into the first words of each table
abbrev pub Accepted : File → Setup → ScreenLent → Type 0
Accepted f q l = (bucketed f q l).number ≡ Done

abbrev pub first-words : File → Setup → ScreenLent → ScreenLent
first-words f q l = screen_lent l.screen (cut (needed-words f q) l.tables)

-- the frame of its screen, and the steps of its walk
module _ (q : Setup) (l : ScreenLent) {f : File} (r : Readable f) where
  abbrev pub its-frame : Frame
  its-frame = frame q (said r).viewport

  abbrev pub its-steps : List Step
  its-steps = history (place q l) (said r)

  -- u is the screen that they build from its reset
  abbrev pub Its : Screen Row → Type 0
  Its u = Left its-frame its-steps u

-- there is such a screen, whose words are left there
abbrev pub Screen-left : Type 0
Screen-left = (f : File) (q : Setup) (l : ScreenLent) → Accepted f q l → (r : Readable f) × Leaves f q (first-words f q l) r

-- asked: the entries of plain draw order, at every tile
abbrev pub Asked-plain : Type 0
Asked-plain = (f : File) (q : Setup) (l : ScreenLent) → Accepted f q l → (r : Readable f) → (recorded-figures f q l).asked ≡ asked (its-frame q l r) (its-steps q l r)

-- painted: the tiles of all pieces, each row painted to its end
abbrev pub Painted-pieces : Type 0
Painted-pieces =
    (f : File) (q : Setup) (l : ScreenLent) → Accepted f q l → (r : Readable f) (u : Screen Row) → Its q l r u → (recorded-figures f q l).painted ≡ painted u

-- hidden: the entries that the picture leaves out
abbrev pub Hidden-dropped : Type 0
Hidden-dropped = (f : File) (q : Setup) (l : ScreenLent) → Accepted f q l → (r : Readable f) → (recorded-figures f q l).hidden ≡ hidden (its-frame q l r) (its-steps q l r)

-- what the rows hold after the last step
abbrev pub Rows-hold : Type 0
Rows-hold =
    (f : File) (q : Setup) (l : ScreenLent) → Accepted f q l → (r : Readable f) (u : Screen Row) → Its q l r u
    → ((recorded-figures f q l).commands ≡ commands-held u) × ((recorded-figures f q l).fills ≡ fills-held u) × ((recorded-figures f q l).refused ≡ 0)

-- a refused one counts as that alone
abbrev pub Refused-alone : Type 0
Refused-alone = (f : File) (q : Setup) (l : ScreenLent) → (Accepted f q l → ⊥) → recorded-figures f q l ≡ one-refused

-- The screen and the words before do not matter, but for how many there are; ..
abbrev pub Figures-lent : Type 0
Figures-lent = (f : File) (q : Setup) (l : ScreenLent) → recorded-figures f q l ≡ lent-figures f q (lengths l.tables)

-- .. and where there are as many as its screen needs they are the file's own.
abbrev pub Figures-own : Type 0
Figures-own = (f : File) (q : Setup) (l : ScreenLent) → Enough (needed-words f q) (lengths l.tables) → recorded-figures f q l ≡ of-file (own-place q f) f
