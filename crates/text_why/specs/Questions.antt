-- The code's questions as the rules', and the reasons that words tell.
use Rattle.std.specs.Prelude.{ℕ, ◌+◌, ◌*◌, ◌≡◌, List, Result, Ok, Err}
use Rattle.sizes.specs.Sizes.{most-attrs}
use Rattle.sizes.specs.declared.answers.Refusal.{Refusal}
use Rattle.sizes.specs.Refusals.{number_of}
use Rattle.rules.specs.Setups.{Setup}
use Rattle.rules.specs.Recording.{File}
use Rattle.rules_reason.specs.Reasons.{Reason, Asked}
use Rattle.rules_reason.specs.Answers as rule
use Rattle.tile.specs.declared.steps.Tale.{Tale}
use Rattle.tile.specs.Places.{Low}
use Rattle.tile.specs.Reading.{reason-read}
use Rattle.tile.specs.Reasons.{asked_of}
use Rattle.text_why.specs.declared.Question.{Question}
use Rattle.text_why.specs.declared.Question.TheVariants as asks

abbrev pub question-of : Question → rule.Question
question-of asks.Every = rule.every
question-of (asks.One a) = rule.one (asked_of a)

-- the reasons that the first n lines ws give
abbrev pub read_by : List ℕ → ℕ → Asked → Reason
read_by ws n a = reason-read a ws n

-- what is told of an accepted recording's tile, its counts and lines, answers every question about it; or a refusal does
abbrev pub ToldOf : Setup → File → ℕ → ℕ → Result Tale Refusal → List ℕ → Type 0
ToldOf u f row tile (Ok t) lines =
    Low t × ((q : rule.Question) → rule.why-words u f row tile q ≡ rule.answer-lines (read_by lines (t.paints + t.layers)) t.paints t.layers q)
ToldOf u f row tile (Err r) lines = (q : rule.Question) → rule.why-words u f row tile q ≡ rule.refused-bytes (number_of r)

-- The bytes at most: of a reason, of an attribute's line, and of an answer's lines
abbrev pub reason-most : ℕ
reason-most = 89

abbrev pub line-most : ℕ
line-most = 107

abbrev pub answer-most : ℕ
answer-most = line-most * (most-attrs + most-attrs)
