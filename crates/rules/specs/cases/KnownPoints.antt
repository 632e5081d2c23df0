-- The rules at known points (docs/RULES.md).
use Rattle.std.specs.Prelude.{ℕ, ◌≡◌, true, false, List, [], ◌∷◌}
use Rattle.rules.specs.Spans.{span}
use Rattle.rules.specs.Split.{regular, buckets, split}
use Rattle.rules.specs.Depth.{unset-runs, visible-runs}
use Rattle.rules.specs.Blends.{destructive}

-- four buckets, of which the second holds the id 7
abbrev pub four-buckets : List ℕ
four-buckets = 0 ∷ 7 ∷ 0 ∷ 0 ∷ []

-- buckets of 32 tiles
pub record KnownPoints : Type 0 where
  pub around : split 32 (span 10 100) ≡ regular (span 10 32) ∷ buckets (span 1 3) ∷ regular (span 96 100) ∷ []
  pub within : split 32 (span 10 40) ≡ regular (span 10 40) ∷ []
  pub whole : split 32 (span 0 64) ≡ buckets (span 0 2) ∷ []
  pub one : split 32 (span 32 64) ≡ buckets (span 1 2) ∷ []
  pub none : split 32 (span 5 5) ≡ regular (span 5 5) ∷ []
  pub unset : unset-runs 32 four-buckets (span 10 100) ≡ span 10 32 ∷ span 64 100 ∷ []
  pub visible : visible-runs 32 four-buckets 7 (span 10 100) ≡ span 10 100 ∷ []
  pub hidden : visible-runs 32 four-buckets 6 (span 10 100) ≡ span 10 32 ∷ span 64 100 ∷ []
  pub spared : destructive 9 ≡ false
  pub destroyed : destructive 10 ≡ true
