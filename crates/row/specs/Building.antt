-- A building step at a screen's words: what is judged of the rows that it puts on (answer 4), and its number.
use Rattle.std.specs.Prelude.{ℕ, zero, suc, ◌+◌, Bool, true, ◌&&◌, cond, List, [], ◌∷◌, get_or, leb, ltb, eqb}
use Rattle.sizes.specs.Sizes.{tile-end, last-id, renders-at, depths-at, first-at, end-at, largest-at, levels-at, level-at}
use Rattle.rules.specs.Lists.{every}
use Rattle.rules.specs.Answers.{Done, BadRecord}
use Rattle.rules.specs.Boxes.{rows_of}
use Rattle.cmd.specs.Reading.{good-span-word}
use Rattle.rules.specs.Plans.{Frame, State, Put, Plan}
use Rattle.rules.specs.Steps.{Screen, done, refusal}
use Rattle.row.specs.Words.{Words, word-ops}
use Rattle.row.specs.Arena.{sizes, cut, Arenas}

-- the rows of a whole screen's words
abbrev pub rows_at : Frame → Words → List Words
rows_at f w = cut (sizes f.c f.d) (rows_of f.viewport) w

-- as many words as the frame's numbers say
abbrev pub Whole : Frame → Words → Type 0
Whole f w = Arenas f.c f.d (rows_of f.viewport) w

-- the rules' screen of a state and a whole screen's words
abbrev pub screen-at : State → Words → Screen Words
screen-at s w = record { state = s; rows = rows_at s.frame w }

-- a level's union: tag 5 without a span yet, 6 with one
abbrev pub good-union : ℕ → ℕ → Bool
good-union tag s = cond (eqb tag 5) (eqb s 0) (eqb tag 6 && good-span-word tile-end s)

-- the words of level k of a row's record: its PushBuf stands on the row
abbrev pub good-level : ℕ → List ℕ → Bool
good-level k s = let a = level-at k in ltb (get_or s a 0) (get_or s renders-at 0) && good-union (get_or s (a + 1) 0) (get_or s (a + 2) 0)

abbrev pub good-top : ℕ → List ℕ → Bool
good-top k s = cond (eqb k 0) true (good-level k s)

abbrev pub good-summary : List ℕ → Bool
good-summary s = leb (get_or s first-at 0) (get_or s end-at 0) && leb (get_or s end-at 0) tile-end && leb (get_or s largest-at 0) last-id

-- a row's record with room for c commands and d depth fills, n layers being open: counts, levels, the top level, the summary
unfoldable pub good_row : ℕ → ℕ → ℕ → List ℕ → Bool
good_row c d n s =
    leb (get_or s renders-at 0) c && leb (get_or s depths-at 0) d && leb (get_or s levels-at 0) n && good-summary s && good-top (get_or s levels-at 0) s

-- row i, if it is there
abbrev pub good-at : Frame → ℕ → ℕ → List Words → Bool
good-at f n i [] = true
good-at f n zero (w ∷ ws) = good_row f.c f.d n w.state
good-at f n (suc i) (w ∷ ws) = good-at f n i ws

-- every row that is put on, n layers being open before the step
unfoldable pub good_rows : Frame → ℕ → List Put → List Words → Bool
good_rows f n ps rs = every (λ (p : Put). good-at f n p.row rs) ps

-- a step's number: what the screen and the lent words say (2, 1, 4), then 4 for a row's record, then the rules' own refusal
unfoldable pub step_number : ℕ → Bool → Plan → Screen Words → ℕ
step_number first good p s =
    cond (eqb first Done) (cond good (refusal Words word-ops p (done Words word-ops p s)) BadRecord) first
