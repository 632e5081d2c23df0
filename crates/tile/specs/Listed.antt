-- A tile's list: what is read of it off the lines that were told of the tile, and what the call leaves in the list that is lent.
use Rattle.std.specs.Prelude.{ℕ, zero, suc, ◌+◌, ◌*◌, ◌/◌, Bool, cond, List, [], ◌∷◌, map, length, get_or, leb, ltb, eqb}
use Rattle.std.specs.Prelude.{Option, None, Some, Result, Ok, Err}
use Rattle.sizes.specs.Sizes.{piece-size, line-size}
use Rattle.sizes.specs.declared.answers.Refusal.{Refusal}
use Rattle.sizes.specs.Refusals.{number_of}
use Rattle.sizes.specs.declared.width.Width.{Width}
use Rattle.rules.specs.Lists.{some_of, such}
use Rattle.rules.specs.Answers.{Answer, answer, settle, Done, BadForm, NoRoom}
use Rattle.rules.specs.Spans.{span}
use Rattle.rules.specs.Plans.{Frame, bucket}
use Rattle.rules.specs.Setups.{Mode}
use Rattle.rules.specs.Recording.{Recording, File, parsed, recording}
use Rattle.rules.specs.Painting.{Piece, Entry}
use Rattle.rules_reason.specs.Answers.{off-screen}
use Rattle.rules_reason.specs.TileList.{roomless-frame, judge-roomless, or-else, judge-list}
use Rattle.cmd.specs.Pieces.{laid}
use Rattle.tile.specs.Telling.{Telling, Line}
use Rattle.tile.specs.Standings.{plain_standing}
use Rattle.tile.specs.Explained.{told_of}

-- an alpha index, of the words that a line has for it
abbrev pub alpha-read : ℕ → ℕ → Option ℕ
alpha-read flag index = cond (eqb flag 0) None (Some index)

-- line i, read back
unfoldable pub line_at : List ℕ → ℕ → Line
line_at ws i =
    record {
      layer = eqb (get_or ws (line-size * i) 0) 1;
      attribute = get_or ws (line-size * i + 1) 0;
      standing = plain_standing (get_or ws (line-size * i + 2) 0);
      alpha = alpha-read (get_or ws (line-size * i + 3) 0) (get_or ws (line-size * i + 4) 0);
      nesting = get_or ws (line-size * i + 5) 0;
      panel = get_or ws (line-size * i + 6) 0;
    }

-- n lines from line i on
unfoldable pub lines-from : List ℕ → ℕ → ℕ → List Line
lines-from ws i zero = []
lines-from ws i (suc n) = line_at ws i ∷ lines-from ws (i + 1) n

-- its attribute has an entry in the tile's list; what came before that is hidden
abbrev pub was-told : Line → Bool
was-told l = leb 3 l.standing

abbrev pub line-hides : Line → Bool
line-hides l = eqb l.standing 4

-- those that are told, from the newest that hides on
unfoldable pub listed-lines : List Line → List Line
listed-lines [] = []
listed-lines (l ∷ ls) = cond (some_of line-hides ls) (listed-lines ls) (such was-told (l ∷ ls))

-- the entry that a line tells
abbrev pub entry_of : Line → Entry
entry_of l = record { layer = l.layer; attribute = l.attribute; alpha = l.alpha; nesting = l.nesting; panel = l.panel }

-- the tile's list, of the first n lines
abbrev pub entries-read : List ℕ → ℕ → List Entry
entries-read ws n = map entry_of (listed-lines (lines-from ws 0 n))

-- an entry as a piece of its tile alone
abbrev pub piece-of : ℕ → Entry → Piece
piece-of t e =
    record {
      layer = e.layer;
      attribute = e.attribute;
      tiles = span t (suc t);
      alpha = e.alpha;
      nesting = e.nesting;
      panel = e.panel;
    }

-- entries at a list's start, a piece's words each; what stands after them stays
abbrev pub entries-laid : ℕ → List Entry → List ℕ → List ℕ
entries-laid t es list = laid (map (piece-of t) es) list

-- entries, where a list has room for so many
abbrev pub in-room : ℕ → List Entry → Answer (List Entry)
in-room room es = cond (ltb room (length es)) (answer NoRoom []) (answer Done es)

-- The story of a tile; off the screen that of the first tile, since a step's refusals do not go by the tile
abbrev pub told-somewhere : Frame → Recording → ℕ → ℕ → Answer Telling
told-somewhere f r row tile =
    let off = off-screen f.viewport row tile in
    told_of (bucket f) f.viewport r (cond off 0 row) (cond off 0 tile)

-- a recording's tile, its list with room for so many entries, as the rules have it but for the story that stands for the walk
unfoldable pub tile-told : Frame → Recording → ℕ → ℕ → ℕ → Answer (List Entry)
tile-told f r row tile room =
    let a = told-somewhere f r row tile in
    let es = entries-read a.value.lines (a.value.paints + a.value.layers) in
    settle (or-else (judge-roomless f r) (or-else a.number (judge-list f row tile room es))) [] es

abbrev pub told-in : Mode → Width → Option (List (List (List ℕ))) → ℕ → ℕ → ℕ → Answer (List Entry)
told-in m w None row tile room = answer BadForm []
told-in m w (Some ss) row tile room = let r = recording ss in tile-told (roomless-frame m w r.viewport) r row tile room

-- a file; 3 before all
unfoldable pub list-told : Mode → Width → File → ℕ → ℕ → ℕ → Answer (List Entry)
list-told m w f row tile room = told-in m w (parsed f) row tile room

-- what the call gives: its number, how many entries, the list's words
pub record Listed : Type 0 where
  pub number : ℕ
  pub count : ℕ
  pub list : List ℕ

-- .. the code's
abbrev pub listed-as : Result ℕ Refusal → List ℕ → Listed
listed-as (Ok n) list = record { number = Done; count = n; list = list }
listed-as (Err r) list = record { number = number_of r; count = 0; list = list }

-- .. and an answer's, over a list: refused, no entry is laid, so that every word stays
abbrev pub listed-over : ℕ → Answer (List Entry) → List ℕ → Listed
listed-over tile a list = record { number = a.number; count = length a.value; list = entries-laid tile a.value list }

-- how many entries a list has room for
abbrev pub room-in : List ℕ → ℕ
room-in list = length list / piece-size
