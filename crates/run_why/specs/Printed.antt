-- What `why` prints.
use Rattle.std.specs.Prelude.{ℕ, false, List, [], codes, Some, None}
use Rattle.rules_reason.specs.Answers.{why-text, question-line}
use Rattle.text_programs.specs.Arguments.{Wanted, Arguments, asked_about, read_arguments, wanted_by}
use Rattle.text_programs.specs.Streams.{Item}
use Rattle.text_programs.specs.declared.about.About.{About}
use Rattle.text_programs.specs.Abouts.{about_text, said_or}
use Rattle.text_programs.specs.Usages.{screen_lines}
use Rattle.text_files.specs.Programs.{by_reading}
use Rattle.text_tiles.specs.declared.arguments.TilePlace.{TilePlace}
use Rattle.text_tiles.specs.Printed as tiles
use Rattle.text_why.specs.declared.Question.{Question}
use Rattle.text_why.specs.Questions.{question-of}
use Rattle.run_why.specs.declared.arguments.Ask.{Ask}
use Rattle.run_why.specs.Requests.{ask_of}

-- .. where it is asked about itself
abbrev pub about : About → List ℕ
about =
    about_text
    (codes "why")
    (codes "usage: why [--snap] [--width N] [--edition N] ROW TILE [draw N | layer N] < FILE\n       why [--snap] [--width N] [--edition N] --stream < STREAM\nROW and TILE count from 0 on the screen; draw N, layer N: the attribute asked about, every one without it\noptions, before the other arguments, in any order; the last of a repeated one counts:\n")
    []
    screen_lines

-- .. of a question at a tile of a file's bytes
abbrev pub answer : Wanted → Question → TilePlace → List ℕ → List ℕ
answer want q p file = by_reading (λ e u fs. why-text e u fs p.row p.tile (question-of q)) want.reading file

-- .. of item i of a stream
abbrev pub item_answer : Wanted → Question → ℕ → Item → List ℕ
item_answer want q = tiles.item_text question-line (answer want q)

-- .. of the bytes on standard input
abbrev pub reply : Wanted → Ask → List ℕ → List ℕ
reply want a bytes = tiles.reply question-line (answer want a.question) a.request bytes

-- .. of item i of a stream, given the program's arguments
abbrev pub item_to : Arguments → ℕ → Item → List ℕ
item_to a i x = elim (ask_of a.others) [ Some k ↦ item_answer (wanted_by a.choice) k.question i x | None ↦ [] ]

abbrev pub item_of : List (List ℕ) → ℕ → Item → List ℕ
item_of args = item_to (read_arguments false args)

-- .. of the bytes on standard input; where the arguments ask for nothing, nothing
abbrev pub reply_to : Arguments → List ℕ → List ℕ
reply_to a bytes = elim (ask_of a.others) [ Some k ↦ reply (wanted_by a.choice) k bytes | None ↦ [] ]

abbrev pub printed : List (List ℕ) → List ℕ → List ℕ
printed args bytes = said_or (asked_about args) about (reply_to (read_arguments false args) bytes)
