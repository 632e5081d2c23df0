-- A tile's list on a host's words: the list, and one word for how many entries stand in it.
use Rattle.std.specs.Prelude.{ℕ, List, [], ◌∷◌}
use Rattle.sizes.specs.Refusals.{number_of}
use Rattle.rules.specs.Answers.{Answer, answer}
use Rattle.rules.specs.Setups.{Setup}
use Rattle.rules.specs.Recording.{File}
use Rattle.tile.specs.Listed.{Listed, list-told, listed-over, room-in}
use Rattle.host.specs.declared.state.SetupWords.{SetupWords}
use Rattle.host.specs.Asked.{FileWords, asked_setup, told_file, granted}
use Rattle.host.specs.Border.{unasked_number}
use Rattle.host.specs.Results.{result}

-- a mode and a width, and no room for a row
abbrev pub list_setup : ℕ → ℕ → SetupWords
list_setup mode width = record { c = 0; d = 0; mode = mode; width = width }

-- the list, and how many entries, where the list is done; else what stood there
abbrev pub tile-list-left : List ℕ → Listed → Answer (List ℕ × List ℕ)
tile-list-left n l = answer l.number (l.list, result l.number (l.count ∷ []) n)

-- in a mode, with buckets of a width
unfoldable pub tile_list_in : File → Setup → ℕ → ℕ → List ℕ → List ℕ → Answer (List ℕ × List ℕ)
tile_list_in file q row tile list n =
    tile-list-left n (listed-over tile (list-told q.mode q.width file row tile (room-in list)) list)

-- .. as a host's words ask: 3 for the file's form comes first, then 2 for a width that is none, and 4 for a mode
unfoldable pub tile_list_asked : File → SetupWords → ℕ → ℕ → List ℕ → List ℕ → Answer (List ℕ × List ℕ)
tile_list_asked file w row tile list n =
    granted (asked_setup w) (unasked_number file) (list, n) (λ q. tile_list_in file q row tile list n)

-- .. and in the edition that their number says
unfoldable pub tile_list_call : FileWords → ℕ → ℕ → ℕ → ℕ → List ℕ → List ℕ → Answer (List ℕ × List ℕ)
tile_list_call f mode width row tile list n =
    granted (told_file f) number_of (list, n) (λ file. tile_list_asked file (list_setup mode width) row tile list n)
