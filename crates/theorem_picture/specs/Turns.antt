-- Painting steps by turns at the lent words, and what their lists hold.
use Rattle.std.specs.Prelude.{ℕ, zero, suc, ◌/◌, Bool, ◌||◌, cond, List, [], ◌∷◌, length, get_or, drop, leb, eqb, None, Some}
use Rattle.sizes.specs.Sizes.{piece-size}
use Rattle.rules.specs.Spans.{span}
use Rattle.rules.specs.Painting.{Piece}
use Rattle.screen.specs.Tables.{ScreenLent}
use Rattle.paint.specs.Painting.{StepOut}
use Rattle.rules_picture.specs.Turns as rule
use Rattle.rules_picture.specs.Turns.{Gave}
use Rattle.theorem_picture.specs.Reached.{paint-out, paint-at}

-- the piece at a list's start: tag, attribute, first tile, end tile, alpha index, nesting, panel; tags 3 and 4 are layers, 2 and 4 have alpha
abbrev pub piece-in : List ℕ → Piece
piece-in l =
    record {
      layer = leb 3 (get_or l 0 0);
      attribute = get_or l 1 0;
      tiles = span (get_or l 2 0) (get_or l 3 0);
      alpha = cond (eqb (get_or l 0 0) 2 || eqb (get_or l 0 0) 4) (Some (get_or l 4 0)) None;
      nesting = get_or l 5 0;
      panel = get_or l 6 0;
    }

-- the first n pieces
unfoldable pub pieces-in : ℕ → List ℕ → List Piece
pieces-in zero l = []
pieces-in (suc n) l = piece-in l ∷ pieces-in n (drop piece-size l)

-- one call of a painting step: any row, there or not, and the words of any list
pub record Turn : Type 0 where
  pub row : ℕ
  pub list : List ℕ

-- .. as the rules' turn: room for so many pieces
abbrev pub turn-of : Turn → rule.Turn
turn-of t = record { row = t.row; room = length t.list / piece-size }

-- what a call gave: its row, its answer's number, whether it said finished, and the pieces that its list holds afterwards
abbrev pub gave-out : ℕ → StepOut → Gave
gave-out r o = record { row = r; number = o.answer.number; finished = o.answer.finished; pieces = pieces-in o.answer.pieces o.list }

-- the words after the calls, one after the other, each done or refused
unfoldable pub turned : List Turn → ScreenLent → ScreenLent
turned [] l = l
turned (t ∷ ts) l = turned ts (paint-at t.row t.list l)

-- .. and what each call gave, in the order of the calls
unfoldable pub log : List Turn → ScreenLent → List Gave
log [] l = []
log (t ∷ ts) l = gave-out t.row (paint-out t.row t.list l) ∷ log ts (paint-at t.row t.list l)

-- nothing is left of row r: a further step, with no room for a piece, says finished
abbrev pub finished-at : ScreenLent → ℕ → Bool
finished-at l r = (paint-out r [] l).answer.finished
