-- A tile's list, which a host has of a recording alone, and what the tile receives by painting.
use Rattle.std.specs.Prelude.{ℕ, ◌/◌, ◌<◌, ◌≡◌, true, cond, List, map, length, get_or, ltb, eqb}
use Rattle.rules.specs.Lists.{some_of}
use Rattle.rules.specs.Answers.{Done, NoRoom}
use Rattle.rules.specs.Boxes.{width, rows_of}
use Rattle.rules.specs.Walk.{frame-of}
use Rattle.rules.specs.Painting.{received}
use Rattle.rules_picture.specs.Recorded.{said}
use Rattle.rules_picture.specs.Turns.{from}
use Rattle.tile.specs.Listed.{piece-of, room-in}
use Rattle.theorem_picture.specs.Turns.{pieces-in}
use Rattle.theorem_reason.specs.Lists.{list-numbers}
use Rattle.host.specs.declared.state.SetupWords.{SetupWords}
use Rattle.host.specs.Asked.{FileWords}
use Rattle.host.specs.TileList.{tile_list_call}
use Rattle.theorem_border.specs.Hosted.{Host, Call, place, recording-at, begin-at}
use Rattle.theorem_border.specs.Border.{log, finished, Accepted}

-- A recording is accepted, and painted by any calls until row r has finished. Where `coarse_list_tile` lists tile t of that row, asked for the same mode and
-- width, the pieces in its list are what the tile has received, each as a piece of the tile alone.
abbrev pub ListReceived : Type 0
ListReceived =
    (f : FileWords) (w : SetupWords) (h : Host) → (recording-at f w h).number ≡ Done
    → (cs : List Call) (r t : ℕ) → finished r cs (begin-at (recording-at f w h).value).value ≡ true
    → (list n : List ℕ) → let a = tile_list_call f w.mode w.width r t list n in a.number ≡ Done
    → pieces-in (get_or a.value.1 0 0) a.value.0 ≡ map (piece-of t) (received t (from r (log cs (begin-at (recording-at f w h).value).value)))

-- .. and a tile of its screen is listed wherever the list has room for what the tile has received.
abbrev pub ListRoom : Type 0
ListRoom =
    (f : FileWords) (w : SetupWords) (h : Host) → (recording-at f w h).number ≡ Done → (m : Accepted f w h)
    → let v = (frame-of (place m.setup h) (said m.words)).viewport in
    (cs : List Call) (r t : ℕ) → r < rows_of v → t < width v / 4 → finished r cs (begin-at (recording-at f w h).value).value ≡ true
    → let es = received t (from r (log cs (begin-at (recording-at f w h).value).value)) in
    (list n : List ℕ) → (tile_list_call f w.mode w.width r t list n).number ≡ cond (ltb (room-in list) (length es)) NoRoom Done

-- Whatever a host asks for, its answer is one of a list's numbers: no 1, 7, 10, 11, 13 or 15.
abbrev pub ListNumbers : Type 0
ListNumbers =
    (f : FileWords) (mode width row tile : ℕ) (list n : List ℕ)
    → some_of (eqb (tile_list_call f mode width row tile list n).number) list-numbers ≡ true
