-- A list of recordings, counted on a host's words: the number, the words of the screen and of all tables afterwards, and the numbers.
use Rattle.std.specs.Prelude.{ℕ, true, List}
use Rattle.sizes.specs.Refusals.{number_of}
use Rattle.rules.specs.Answers.{Answer, answer}
use Rattle.rules.specs.Recording.{File}
use Rattle.rules.specs.Setups.{Setup}
use Rattle.screen.specs.Tables.{Tables, screen_lent}
use Rattle.tally.specs.Listed.{Listed, Desk, figured}
use Rattle.host.specs.declared.state.SetupWords.{SetupWords}
use Rattle.host.specs.State.{screen-words, on}
use Rattle.host.specs.Asked.{FileWords, asked_setup, told_file, granted}

abbrev pub figures-left : Answer Desk → Answer (List ℕ × Tables × List ℕ)
figures-left a = answer a.number (screen-words a.value.left.screen, a.value.left.tables, a.value.table)

-- in a setup
unfoldable pub figures_in : Listed → Setup → List ℕ → Tables → List ℕ → Answer (List ℕ × Tables × List ℕ)
figures_in l q st t ns = on true st (st, t, ns) (λ s. figures-left (figured l q (screen_lent s t) ns))

-- .. as a host's words ask
unfoldable pub figures_asked : Listed → SetupWords → List ℕ → Tables → List ℕ → Answer (List ℕ × Tables × List ℕ)
figures_asked l w st t ns = granted (asked_setup w) number_of (st, t, ns) (λ q. figures_in l q st t ns)

-- .. of recordings of the edition that their number says; es: where each ends
abbrev pub listed-in : File → List ℕ → Listed
listed-in f es = record { edition = f.edition; words = f.words; ends = es }

unfoldable pub figures_call : FileWords → List ℕ → SetupWords → List ℕ → Tables → List ℕ → Answer (List ℕ × Tables × List ℕ)
figures_call f es w st t ns = granted (told_file f) number_of (st, t, ns) (λ file. figures_asked (listed-in file es) w st t ns)
