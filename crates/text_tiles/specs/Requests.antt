-- What is asked about a tile, by the arguments after the options.
use Rattle.std.specs.Prelude.{ℕ, if◌then◌else◌, List, [], ◌∷◌, codes, ⊤, Option, Some, None, bytes_eq, option_map}
use Rattle.text_programs.specs.Arguments.{number_of}
use Rattle.text_tiles.specs.declared.arguments.TilePlace.{TilePlace}
use Rattle.text_tiles.specs.declared.arguments.Request.{Request}
use Rattle.text_tiles.specs.declared.arguments.Request.TheVariants.{Stream, File}

-- a tile, by its row and its place there
abbrev pub place_of : List ℕ → List ℕ → Option TilePlace
place_of row tile = elim (number_of row) [ Some r ↦ option_map (λ t. record { row = r; tile = t }) (number_of tile) | None ↦ None ]

abbrev pub request_of : List (List ℕ) → Option Request
request_of [] = None
request_of (w ∷ []) = if bytes_eq w (codes "--stream") then Some Stream else None
request_of (row ∷ tile ∷ []) = option_map File (place_of row tile)
request_of (row ∷ tile ∷ w ∷ ws) = None

-- one file is asked about; a stream is
abbrev pub IsOfFile : Request → Type 0
IsOfFile Stream = ⊥
IsOfFile (File p) = ⊤

abbrev pub IsOfStream : Request → Type 0
IsOfStream Stream = ⊤
IsOfStream (File p) = ⊥
