-- What judging a step needs of a row: three numbers (answers 10 and 11, rule 10).
use Rattle.std.specs.Prelude.{ℕ, ◌+◌, ◌-◌, cond, eqb}
use Rattle.sizes.specs.Sizes.{renders-at, depths-at, levels-at}
use Rattle.rules.specs.Rows.{RowOps}
use Rattle.row.specs.Words.{Words, word}

pub record Counts : Type 0 where
  pub renders : ℕ
  pub depths : ℕ
  pub levels : ℕ

abbrev pub counts : ℕ → ℕ → ℕ → Counts
counts r d l = record { renders = r; depths = d; levels = l }

-- the rules' operations at rows of three numbers
abbrev pub count-ops : RowOps Counts
count-ops =
    record {
      renders = λ k. k.renders;
      depths = λ k. k.depths;
      levels-of = λ k. k.levels;
      put = λ c k. counts (k.renders + 1) k.depths k.levels;
      put-push = λ k. counts (k.renders + 1) k.depths (k.levels + 1);
      put-pop = λ k. cond (eqb k.levels 0) k (counts (k.renders + 1) k.depths (k.levels - 1));
      put-depth = λ v f id k. counts k.renders (k.depths + 1) k.levels;
    }

-- those of a row of words
abbrev pub count : Words → Counts
count w = counts (word renders-at w) (word depths-at w) (word levels-at w)
