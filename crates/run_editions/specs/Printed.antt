-- What `editions` writes.
use Rattle.std.specs.Prelude.{ℕ, List, [], codes, Some, None}
use Rattle.sizes.specs.Refusals.{number_of}
use Rattle.rules.specs.Answers.{Answer, answer, Done}
use Rattle.rules.specs.Setups.{Mode}
use Rattle.rules.specs.Conversions.{converted-bytes, stream-item}
use Rattle.rect.specs.Rects.{mode_of}
use Rattle.text_programs.specs.Arguments.{asked_about}
use Rattle.text_programs.specs.Streams.{Item, stream_printed}
use Rattle.text_programs.specs.declared.about.About.{About}
use Rattle.text_programs.specs.Abouts.{about_text, said_or}
use Rattle.run_editions.specs.declared.conversion.Way.{Way}
use Rattle.run_editions.specs.declared.conversion.Job.{Job}
use Rattle.run_editions.specs.declared.arguments.Ask.{Ask}
use Rattle.run_editions.specs.declared.arguments.Ask.TheVariants.{File, Stream}
use Rattle.run_editions.specs.declared.Outcome.{Outcome}
use Rattle.run_editions.specs.declared.Outcome.TheVariants as outcome
use Rattle.run_editions.specs.Conversions.{source, target}
use Rattle.run_editions.specs.Requests.{Arguments, ask_of, read_arguments}

-- .. where it is asked about itself
abbrev pub about : About → List ℕ
about =
    about_text
    (codes "editions")
    (codes "usage: editions [--snap] new|old < FILE > CONVERTED\n       editions [--snap] --stream new|old < STREAM > CONVERTED\nnew: a file of edition one becomes one of edition two; old: one of edition two becomes one of edition one\noptions, before the other arguments:\n")
    (codes "  --snap       judge the viewport as snapping mode reads it\n")
    []

-- what a file's bytes become, in a mode and one way
abbrev pub becomes : Mode → Way → List ℕ → Answer (List ℕ)
becomes m y bs = converted-bytes m (target y) (source y) bs

-- .. of item i of a stream
abbrev pub item_becomes : Mode → Way → ℕ → Item → List ℕ
item_becomes m y i x = stream-item (becomes m y x.file)

-- what the bytes on standard input become: a file's bytes and its number, of which a refused one has no bytes; a stream's, whose number is 0
abbrev pub answered : Mode → Ask → List ℕ → Answer (List ℕ)
answered m (File y) bytes = becomes m y bytes
answered m (Stream y) bytes = answer Done (stream_printed (item_becomes m y) 4 bytes)

-- .. given the program's arguments; where they ask for nothing, nothing
abbrev pub answered_to : Arguments → List ℕ → Answer (List ℕ)
answered_to a bytes = elim (ask_of a.others) [ Some k ↦ answered a.mode k bytes | None ↦ answer Done [] ]

abbrev pub printed : List (List ℕ) → List ℕ → List ℕ
printed args bytes = said_or (asked_about args) about (answered_to (read_arguments args) bytes).value

-- the number that the program ends by: 0 where it is asked about itself
abbrev pub number_asked : List (List ℕ) → List ℕ → ℕ
number_asked args bytes = elim (asked_about args) [ Some _ ↦ Done | None ↦ (answered_to (read_arguments args) bytes).number ]

-- .. as the code has it
abbrev pub outcome_number : Outcome → ℕ
outcome_number outcome.Done = Done
outcome_number (outcome.Refused r) = number_of r

-- what is written of item i of a stream that is asked for
abbrev pub item_asked : Mode → Ask → ℕ → Item → List ℕ
item_asked m (File y) i x = []
item_asked m (Stream y) i x = item_becomes m y i x

-- .. given the program's arguments
abbrev pub item_to : Arguments → ℕ → Item → List ℕ
item_to a i x = elim (ask_of a.others) [ Some k ↦ item_asked a.mode k i x | None ↦ [] ]

abbrev pub item_of : List (List ℕ) → ℕ → Item → List ℕ
item_of args = item_to (read_arguments args)

-- of a job, as the code has it
abbrev pub job_becomes : Job → List ℕ → Answer (List ℕ)
job_becomes j bs = becomes (mode_of j.mode) j.way bs
