-- A tile's list without rows, at the words: what the call `list_tile` answers and leaves is the rules' list, and of a recording that is accepted it is what the
-- tile receives by painting.
use Rattle.std.specs.Prelude.{ℕ, ◌*◌, ◌/◌, ◌≤◌, ◌<◌, ◌≡◌, true, List, [], ◌∷◌, map, length, take, drop, eqb}
use Rattle.sizes.specs.Sizes.{piece-size}
use Rattle.sizes.specs.declared.width.Width.{Width}
use Rattle.rules.specs.Lists.{some_of, join}
use Rattle.rules.specs.Answers.{Answer, Done, BadViewport, BadForm, BadRecord, BadOrder, Deep, Ids, FullAttrs, BadRun, NoRoom}
use Rattle.rules.specs.Boxes.{width, rows_of}
use Rattle.rules.specs.Plans.{Frame}
use Rattle.rules.specs.Setups.{Mode, Setup, frame}
use Rattle.rules.specs.Recording.{Recording, File}
use Rattle.rules.specs.Roomless.{roomless}
use Rattle.rules.specs.Painting.{Entry, received}
use Rattle.rules_reason.specs.TileList.{roomless-frame, tile-list, most-entries}
use Rattle.rules_picture.specs.Recorded.{history, Readable, said}
use Rattle.rules_picture.specs.Turns.{from}
use Rattle.cmd.specs.Pieces.{piece-words}
use Rattle.screen.specs.Tables.{ScreenLent}
use Rattle.walk.specs.Recorded.{recorded}
use Rattle.refine_file.specs.Played.{place}
use Rattle.tile.specs.Listed.{piece-of, in-room, list-told, Listed, listed-over, room-in}
use Rattle.theorem_picture.specs.Reached.{begin-at}
use Rattle.theorem_picture.specs.Turns.{pieces-in, Turn, log}
use Rattle.theorem_picture.specs.Picture.{finished}

-- What is left of the words `old` where a tile's list was answered by a: the words of as many pieces as there are entries, and read back they are the entries as
-- pieces of the tile alone, oldest first; the words after them stay. Refused, there is no entry and every word is as it was.
pub record ListLeft (tile : ℕ) (a : Answer (List Entry)) (old : List ℕ) (o : Listed) : Type 0 where
  pub number : o.number ≡ a.number
  pub count : o.count ≡ length a.value
  pub words : take (piece-size * o.count) o.list ≡ join piece-words (map (piece-of tile) a.value)
  pub entries : pieces-in o.count o.list ≡ map (piece-of tile) a.value
  pub rest : drop (piece-size * o.count) o.list ≡ drop (piece-size * o.count) old
  pub long : length o.list ≡ length old
  pub refused : (a.number ≡ Done → ⊥) → (o.count ≡ 0) × (o.list ≡ old)

-- the call at any input
abbrev pub call-left : Mode → Width → File → ℕ → ℕ → List ℕ → Listed
call-left m w f row tile list = listed-over tile (list-told m w f row tile (room-in list)) list

-- At every input the call answers the rules' list, and leaves its entries.
abbrev pub List-is-plain : Type 0
List-is-plain =
    (m : Mode) (w : Width) (f : File) (row tile : ℕ) (list : List ℕ)
    → (list-told m w f row tile (room-in list) ≡ tile-list m w f row tile (room-in list))
    × ListLeft tile (tile-list m w f row tile (room-in list)) list (call-left m w f row tile list)

-- Where the recording call accepts a recording, for whatever C, D and tables, its walk with room for everything is done, by the same steps.
abbrev pub Recorded-roomless : Type 0
Recorded-roomless =
    (ws : File) (q : Setup) (l : ScreenLent) → (recorded ws q l).number ≡ Done → (r : Readable ws)
    → let a = roomless (roomless-frame q.mode q.width (said r).viewport) (said r) in
    (a.number ≡ Done) × (a.value.log ≡ history (place q l) (said r))

-- The tile's list is es, wherever there is room for it; and what the tile receives of the pieces that the call leaves is es.
pub record ListIs (m : Mode) (w : Width) (f : File) (row tile : ℕ) (es : List Entry) : Type 0 where
  pub answer : (room : ℕ) → tile-list m w f row tile room ≡ in-room room es
  pub pieces : (list : List ℕ) → (call-left m w f row tile list).number ≡ Done
      → received tile (pieces-in (call-left m w f row tile list).count (call-left m w f row tile list).list) ≡ es

-- Of a recording that is accepted, and of any painting calls after which the row has finished, the tile has received exactly the list's entries.
abbrev pub List-received : Type 0
List-received =
    (ws : File) (q : Setup) (l : ScreenLent) → (recorded ws q l).number ≡ Done → (r : Readable ws)
    → (row tile : ℕ) → row < rows_of (frame q (said r).viewport).viewport → tile < width (frame q (said r).viewport).viewport / 4
    → (ts : List Turn) → finished row ts (begin-at (recorded ws q l).value).value ≡ true
    → ListIs q.mode q.width ws row tile (received tile (from row (log ts (begin-at (recorded ws q l).value).value)))

-- the numbers of a list's answer: no 1, 7, 10, 11, 13 or 15
abbrev pub list-numbers : List ℕ
list-numbers =
    Done ∷ BadViewport ∷ BadForm ∷ BadRecord ∷ BadOrder ∷ Deep ∷ Ids ∷ FullAttrs ∷ BadRun ∷ NoRoom ∷ []

-- On screens that differ in C and D alone a recording is walked alike with room for everything: by the same number and, where that is done, by the same steps. Every
-- answer of a list has one of its numbers, and 14 is none where the list has room for an entry of each attribute that there can be.
pub record List-without-room : Type 0 where
  pub frames : (f g : Frame) → f.viewport ≡ g.viewport → f.width ≡ g.width → (r : Recording)
      → ((roomless f r).number ≡ (roomless g r).number) × ((roomless f r).number ≡ Done → (roomless f r).value.log ≡ (roomless g r).value.log)
  pub numbers : (m : Mode) (w : Width) (f : File) (row tile room : ℕ) → some_of (eqb (list-told m w f row tile room).number) list-numbers ≡ true
  pub roomy : (m : Mode) (w : Width) (f : File) (row tile room : ℕ) → most-entries ≤ room → (list-told m w f row tile room).number ≡ NoRoom → ⊥
