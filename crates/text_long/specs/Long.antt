-- Long files: their words, and what is lent for them.
use Rattle.std.specs.Prelude.{◌≡◌, ℕ, ◌+◌, ◌/◌, ◌%◌, Bool, ◌&&◌, cond, List, length, take, leb, ltb, eqb, Option, Some, None, Result, Ok, Err}
use Rattle.sizes.specs.Sizes.{long-file-bytes}
use Rattle.sizes.specs.declared.answers.Refusal.{Refusal}
use Rattle.sizes.specs.declared.answers.Refusal.TheVariants.{BadForm}
use Rattle.rules.specs.Lines.{words_of}

-- words of the longest file, and bytes of the buffer that a file is read to
abbrev pub long-words : ℕ
long-words = long-file-bytes / 4

abbrev pub long-room : ℕ
long-room = long-file-bytes + 1

abbrev pub good-long : ℕ → Bool
good-long n = leb n long-file-bytes && eqb (n % 4) 0

-- the words of a file's bytes; none of too many bytes, or of no whole words
abbrev pub words-of-long : List ℕ → Option (List ℕ)
words-of-long bs = cond (ltb long-file-bytes (length bs)) None (words_of bs)

-- they were read, so many of them, and stand first; or 3, and there are none
abbrev pub WordsRead : List ℕ → Result ℕ Refusal → List ℕ → Type 0
WordsRead bs (Ok n) ws = words-of-long bs ≡ Some (take n ws)
WordsRead bs (Err r) ws = (r ≡ BadForm) × (words-of-long bs ≡ None)
