-- A file's bytes as little-endian words.
use Rattle.std.specs.Prelude.{ℕ, ◌+◌, ◌/◌, List, ◌++◌, length, get_or, drop}
use Rattle.rules.specs.Lines.{word_of}
use Rattle.file.specs.Each.{each}

unfoldable pub word_from : List ℕ → ℕ → ℕ
word_from bs p = word_of (get_or bs p 0) (get_or bs (p + 1) 0) (get_or bs (p + 2) 0) (get_or bs (p + 3) 0)

-- the whole words of the bytes; up to three bytes that are left over make none
abbrev pub words-in : List ℕ → List ℕ
words-in bs = each word_from 4 bs 0 (length bs / 4)

pub record Filled : Type 0 where
  pub count : ℕ
  pub words : List ℕ

abbrev pub filled : ℕ → List ℕ → Filled
filled n ws = record { count = n; words = ws }

-- the words of the bytes stand first, what was after them stays
abbrev pub filled-with : List ℕ → List ℕ → Filled
filled-with bs ws = filled (length bs / 4) (words-in bs ++ drop (length bs / 4) ws)
