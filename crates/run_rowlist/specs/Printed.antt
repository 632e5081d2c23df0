-- What `rowlist` prints.
use Rattle.std.specs.Prelude.{ℕ, false, List, [], codes}
use Rattle.text_programs.specs.Arguments.{Wanted, asked_about, read_arguments, wanted_by}
use Rattle.text_programs.specs.declared.about.About.{About}
use Rattle.text_programs.specs.Abouts.{about_text, said_or}
use Rattle.text_programs.specs.Usages.{screen_lines}
use Rattle.text_files.specs.Programs.{rowlist-text, by_reading}

-- .. where it is asked about itself
abbrev pub about : About → List ℕ
about = about_text (codes "rowlist") (codes "usage: rowlist [--snap] [--width N] [--edition N] < FILE\noptions, in any order; the last of a repeated one counts:\n") [] screen_lines

-- .. of a file's bytes
abbrev pub listed : Wanted → List ℕ → List ℕ
listed want file = by_reading rowlist-text want.reading file

-- .. of the bytes on standard input, given the program's arguments
abbrev pub printed : List (List ℕ) → List ℕ → List ℕ
printed args file = said_or (asked_about args) about (listed (wanted_by (read_arguments false args).choice) file)
