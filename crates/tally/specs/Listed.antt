-- A list of recordings, one after the other in one list of words: judged, bucketed and counted, and the table that is filled.
use Rattle.std.specs.Prelude.{ℕ, ◌+◌, ◌*◌, Bool, true, ◌&&◌, ◌||◌, not, cond, List, [], ◌∷◌, ◌++◌, length, drop, leb, ltb, eqb}
use Rattle.sizes.specs.declared.edition.Edition.{Edition}
use Rattle.rules.specs.Answers.{Answer, answer, first_of, Done, BadRecord, NoRoom}
use Rattle.rules.specs.Lists.{slice}
use Rattle.rules.specs.Recording.{File, in-edition}
use Rattle.rules.specs.Setups.{Setup}
use Rattle.rules_figures.specs.Figures.{Figures, table}
use Rattle.rules_figures.specs.Accounted.{most-recordings}
use Rattle.screen.specs.Tables.{ScreenLent}
use Rattle.tally.specs.declared.list.Recordings.{Recordings}
use Rattle.tally.specs.Recordings.{recorded-figures, recorded-left}

-- words in an edition, and where each recording ends
pub record Listed : Type 0 where
  pub edition : Edition
  pub words : List ℕ
  pub ends : List ℕ

abbrev pub listed_of : Recordings → Listed
listed_of l = record { edition = l.edition; words = l.words.now; ends = l.ends.now }

-- from place `at` on: no end falls, and none passes the n words
unfoldable pub good-ends : ℕ → ℕ → List ℕ → Bool
good-ends at n [] = true
good-ends at n (e ∷ es) = leb at e && leb e n && good-ends e n es

-- the files from place `at` on
unfoldable pub files-from : Edition → List ℕ → ℕ → List ℕ → List File
files-from e ws at [] = []
files-from e ws at (n ∷ ns) = in-edition e (slice at n ws) ∷ files-from e ws n ns

abbrev pub files-in : Listed → List File
files-in l = files-from l.edition l.words 0 l.ends

-- 4 for too many, or for an end that falls or passes the words; then 14 for a table of m numbers that has no room
unfoldable pub figures-number : Listed → ℕ → ℕ
figures-number l m =
    first_of
    ((ltb most-recordings (length l.ends) || not (good-ends 0 (length l.words) l.ends), BadRecord)
    ∷ (ltb m (6 * (length l.ends + 1)), NoRoom)
    ∷ [])

-- the figures of each recording, and what the last has left
pub record Counted : Type 0 where
  pub figures : List Figures
  pub left : ScreenLent

unfoldable pub counted-from : Setup → List File → ScreenLent → Counted
counted-from q [] l = record { figures = []; left = l }
counted-from q (f ∷ fs) l =
    let more = counted-from q fs (recorded-left f q l) in
    record { figures = recorded-figures f q l ∷ more.figures; left = more.left }

-- a screen with its words, and the table
pub record Desk : Type 0 where
  pub left : ScreenLent
  pub table : List ℕ

abbrev pub desk : ScreenLent → List ℕ → Desk
desk l t = record { left = l; table = t }

-- six numbers a recording and six totals; the numbers after them stay
abbrev pub filled : Counted → List ℕ → Desk
filled c t = let ns = table c.figures in desk c.left (ns ++ drop (length ns) t)

-- the screen with its words, and the table before the call: refused, nothing changes
unfoldable pub figured : Listed → Setup → ScreenLent → List ℕ → Answer Desk
figured l q k t =
    let n = figures-number l (length t) in
    cond (eqb n Done) (answer Done (filled (counted-from q (files-in l) k) t)) (answer n (desk k t))
