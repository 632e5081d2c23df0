-- What `rowdump` prints.
use Rattle.std.specs.Prelude.{ℕ, true, List, ◌++◌, codes}
use Rattle.text_programs.specs.Arguments.{Wanted, asked_about, read_arguments, wanted_by}
use Rattle.text_programs.specs.Streams.{Item, stream_printed}
use Rattle.text_programs.specs.declared.about.About.{About}
use Rattle.text_programs.specs.Abouts.{about_text, said_or}
use Rattle.text_programs.specs.Usages.{screen_lines}
use Rattle.text_files.specs.Programs.{by_reading}
use Rattle.text_dump.specs.Rowdump.{recording-line, file-lines-text}

-- .. where it is asked about itself
abbrev pub about : About → List ℕ
about = about_text (codes "rowdump") (codes "usage: rowdump [--snap] [--width N] [--edition N] [--panels] < STREAM\noptions, in any order; the last of a repeated one counts:\n") (codes "  --panels     end each line that has a panel with it\n") screen_lines

-- .. of recording i, a file's bytes
abbrev pub recording_printed : Wanted → ℕ → List ℕ → List ℕ
recording_printed want i file = recording-line i ++ by_reading (file-lines-text want.panels) want.reading file

-- .. of a stream's file i
abbrev pub item_printed : Wanted → ℕ → Item → List ℕ
item_printed want i x = recording_printed want i x.file

-- .. given the program's arguments
abbrev pub item_of : List (List ℕ) → ℕ → Item → List ℕ
item_of args = item_printed (wanted_by (read_arguments true args).choice)

-- .. of the stream on standard input
abbrev pub printed : List (List ℕ) → List ℕ → List ℕ
printed args stream = said_or (asked_about args) about (stream_printed (item_of args) 4 stream)
