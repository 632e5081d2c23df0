-- What `figures` prints.
use Rattle.std.specs.Prelude.{ℕ, ◌-◌, ◌^◌, false, List, [], map, codes}
use Rattle.rules.specs.Lines.{usual}
use Rattle.rules_figures.specs.Figures.{Figures, one-refused}
use Rattle.rules_figures.specs.Lines.{of-bytes, list-text}
use Rattle.text_programs.specs.Arguments.{ReadAs, as-screen, as-no-width, as-no-edition, asked_about, read_arguments, wanted_by}
use Rattle.text_programs.specs.Streams.{Item, items}
use Rattle.text_programs.specs.declared.about.About.{About}
use Rattle.text_programs.specs.Abouts.{about_text, said_or}
use Rattle.text_programs.specs.Usages.{screen_lines}

-- .. where it is asked about itself
abbrev pub about : About → List ℕ
about = about_text (codes "figures") (codes "usage: figures [--snap] [--width N] [--edition N] < STREAM\noptions, in any order; the last of a repeated one counts:\n") [] screen_lines

-- the figures of a file's bytes, read as the options ask: refused where they ask for a width or an edition that is none
abbrev pub figures_read : ReadAs → List ℕ → Figures
figures_read (as-screen e m w) fs = of-bytes e (usual m w) fs
figures_read (as-no-width e) fs = one-refused
figures_read as-no-edition fs = one-refused

abbrev pub item_figures : ReadAs → Item → Figures
item_figures r x = figures_read r x.file

-- a stream's recordings, and what is printed of them
abbrev pub recordings : List ℕ → List Item
recordings stream = items 4 (2 ^ 64 - 1) stream

abbrev pub stream_text : ReadAs → List ℕ → List ℕ
stream_text r stream = list-text (map (item_figures r) (recordings stream))

-- .. given the program's arguments, of the stream on standard input
abbrev pub printed : List (List ℕ) → List ℕ → List ℕ
printed args stream = said_or (asked_about args) about (stream_text (wanted_by (read_arguments false args).choice).reading stream)
