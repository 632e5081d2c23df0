-- What is printed about tiles, given the text of a file at a tile, and the line before that of item i of a stream.
use Rattle.std.specs.Prelude.{◌≡◌, ℕ, List, ◌++◌, take}
use Rattle.text_programs.specs.Streams.{Item, word_at, stream_printed}
use Rattle.text_tiles.specs.declared.arguments.TilePlace.{TilePlace}
use Rattle.text_tiles.specs.declared.arguments.Request.{Request}
use Rattle.text_tiles.specs.declared.arguments.Request.TheVariants.{Stream, File}

-- the tile that the head of a stream's item names: the row and the tile stand after the file's length
abbrev pub place_in : List ℕ → TilePlace
place_in head = record { row = word_at head 4; tile = word_at head 8 }

-- .. of item i of a stream
abbrev pub item_text : (ℕ → List ℕ) → (TilePlace → List ℕ → List ℕ) → ℕ → Item → List ℕ
item_text line text i x = line i ++ text (place_in x.head) x.file

-- .. of the bytes on standard input
abbrev pub reply : (ℕ → List ℕ) → (TilePlace → List ℕ → List ℕ) → Request → List ℕ → List ℕ
reply line text Stream bytes = stream_printed (item_text line text) 12 bytes
reply line text (File p) bytes = text p bytes

-- no text depends on what a file has after its first n bytes
abbrev pub ReadsTo : ℕ → (TilePlace → List ℕ → List ℕ) → Type 0
ReadsTo n text = (p : TilePlace) (fs : List ℕ) → text p (take n fs) ≡ text p fs
