-- What a file's bytes become, and what that is made in.
use Rattle.std.specs.Prelude.{ℕ, ◌+◌, ◌*◌, ◌≡◌, List, [], length, take, Result, Ok, Err}
use Rattle.sizes.specs.Sizes.{most-records}
use Rattle.sizes.specs.Refusals.{number_of}
use Rattle.sizes.specs.declared.answers.Refusal.{Refusal}
use Rattle.sizes.specs.declared.edition.Edition.{Edition}
use Rattle.sizes.specs.declared.edition.Edition.TheVariants.{One, Two}
use Rattle.rules.specs.Answers.{Answer, answer, Done}
use Rattle.rules.specs.Lines.{bytes-of}
use Rattle.rules.specs.Conversions.{converted-bytes}
use Rattle.rect.specs.Rects.{mode_of}
use Rattle.text_long.specs.Long.{long-words}
use Rattle.run_editions.specs.declared.conversion.Way.{Way}
use Rattle.run_editions.specs.declared.conversion.Way.TheVariants.{New, Old}
use Rattle.run_editions.specs.declared.conversion.Job.{Job}
use Rattle.run_editions.specs.declared.conversion.Desk.{Desk}

-- the edition that a file is of, and the one that it becomes a file of
abbrev pub source : Way → Edition
source New = One
source Old = Two

abbrev pub target : Way → Edition
target New = Two
target Old = One

-- the rules' bytes of the file that a file's bytes become, or their refusal
abbrev pub file_converted : Job → List ℕ → Answer (List ℕ)
file_converted j bs = converted-bytes (mode_of j.mode) (target j.way) (source j.way) bs

-- words of any converted file, and bytes of an item
abbrev pub converted-words : ℕ
converted-words = 9 + most-records * 49

abbrev pub item-room : ℕ
item-room = 4 + 4 * converted-words

-- a result and the words that stand first in a list are the rules' answer
abbrev pub ConvertedAs : Answer (List ℕ) → Result ℕ Refusal → List ℕ → Type 0
ConvertedAs a (Ok n) ws = a ≡ answer Done (bytes-of (take n ws))
ConvertedAs a (Err r) ws = a ≡ answer (number_of r) []

-- .. and the bytes that do
abbrev pub FileAs : Answer (List ℕ) → Result ℕ Refusal → List ℕ → Type 0
FileAs a (Ok n) bs = a ≡ answer Done (take n bs)
FileAs a (Err r) bs = a ≡ answer (number_of r) []

-- a desk has room for the longest file and for the longest item
pub record Ready (d : Desk) : Type 0 where
  pub words : length d.words.now ≡ long-words
  pub converted : length d.converted.now ≡ converted-words
  pub text : length d.text.now ≡ item-room
