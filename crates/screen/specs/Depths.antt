-- Depth words and the minima above them, lent as one value: one row's, or a screen's, row by row.
use Rattle.std.specs.Prelude.{ℕ, List, length, replicate}
use Rattle.rules.specs.Lists.{join}
use Rattle.rules.specs.Minima.{summary}
use Rattle.depth.specs.declared.minima.Depth.{Depth}

pub record Depths : Type 0 where
  pub words : List ℕ
  pub minima : List ℕ

abbrev pub depths : List ℕ → List ℕ → Depths
depths ws ms = record { words = ws; minima = ms }

-- what both slices hold
abbrev pub depths_in : Depth → Depths
depths_in d = depths d.words.now d.minima.now

-- the minima of n rows of b buckets whose words are 0
unfoldable pub blank-minima : ℕ → ℕ → List ℕ
blank-minima n b = join summary (replicate n (replicate b 0))

-- n rows of b buckets whose words are 0, and the minima above them
abbrev pub blank : ℕ → ℕ → Depths → Depths
blank n b d = depths (replicate (length d.words) 0) (blank-minima n b)
