-- What `tilelist` prints.
use Rattle.std.specs.Prelude.{ℕ, false, List, [], codes, ⊤, Some, None}
use Rattle.rules.specs.Answers.{BadForm}
use Rattle.rules_reason.specs.Answers.{refused-bytes}
use Rattle.rules_reason.specs.TileList.{list-text, no-width-text, list-line}
use Rattle.text_programs.specs.Arguments.{Wanted, Arguments, ReadAs, as-screen, as-no-width, as-no-edition, asked_about, read_arguments, wanted_by}
use Rattle.text_programs.specs.Streams.{Item}
use Rattle.text_programs.specs.declared.about.About.{About}
use Rattle.text_programs.specs.Abouts.{about_text, said_or}
use Rattle.text_programs.specs.Usages.{screen_lines}
use Rattle.text_tiles.specs.declared.arguments.TilePlace.{TilePlace}
use Rattle.text_tiles.specs.declared.arguments.Request.{Request}
use Rattle.text_tiles.specs.Requests.{request_of, IsOfFile, IsOfStream}
use Rattle.text_tiles.specs.Printed as tiles

-- .. where it is asked about itself
abbrev pub about : About → List ℕ
about =
    about_text
    (codes "tilelist")
    (codes "usage: tilelist [--snap] [--width N] [--edition N] ROW TILE < FILE\n       tilelist [--snap] [--width N] [--edition N] --stream < STREAM\nROW and TILE count from 0 on the screen\noptions, before the other arguments, in any order; the last of a repeated one counts:\n")
    []
    screen_lines

-- .. of a tile of a file's bytes, read as the options ask
abbrev pub text_read : ReadAs → TilePlace → List ℕ → List ℕ
text_read (as-screen e m w) p bs = list-text e m w bs p.row p.tile
text_read (as-no-width e) p bs = no-width-text e bs
text_read as-no-edition p bs = refused-bytes BadForm

abbrev pub answer : Wanted → TilePlace → List ℕ → List ℕ
answer want p bs = text_read want.reading p bs

-- .. of item i of a stream
abbrev pub item_answer : Wanted → ℕ → Item → List ℕ
item_answer want = tiles.item_text list-line (answer want)

-- .. of the bytes on standard input, at a request
abbrev pub reply : Wanted → Request → List ℕ → List ℕ
reply want r bytes = tiles.reply list-line (answer want) r bytes

-- .. of item i of a stream, given the program's arguments
abbrev pub item_of : List (List ℕ) → ℕ → Item → List ℕ
item_of args = item_answer (wanted_by (read_arguments false args).choice)

-- .. of the bytes on standard input; where the arguments ask for nothing, nothing
abbrev pub reply_to : Arguments → List ℕ → List ℕ
reply_to a bytes = elim (request_of a.others) [ Some r ↦ reply (wanted_by a.choice) r bytes | None ↦ [] ]

abbrev pub printed : List (List ℕ) → List ℕ → List ℕ
printed args bytes = said_or (asked_about args) about (reply_to (read_arguments false args) bytes)

-- one file is asked about, or nothing is asked; a stream is asked about
abbrev pub AsksOfFile : List (List ℕ) → Type 0
AsksOfFile args = elim (request_of (read_arguments false args).others) [ Some r ↦ IsOfFile r | None ↦ ⊤ ]

abbrev pub AsksOfStream : List (List ℕ) → Type 0
AsksOfStream args = elim (request_of (read_arguments false args).others) [ Some r ↦ IsOfStream r | None ↦ ⊥ ]
