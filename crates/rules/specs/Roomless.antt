-- A recording walked with room for everything in every row: rows that hold no commands and no depth fills, and count their open buffers alone.
-- No such row is ever full, whatever C and D are, so that the walk is never refused by 10 or 11.
use Rattle.std.specs.Prelude.{ℕ, suc, ◌-◌}
use Rattle.rules.specs.Answers.{Answer}
use Rattle.rules.specs.Rows.{RowOps}
use Rattle.rules.specs.Plans.{Frame}
use Rattle.rules.specs.Recording.{Recording}
use Rattle.rules.specs.Logged.{Logged, walk-logged}

-- a row that is no more than how many buffers are open on it
abbrev pub buffers-alone : RowOps ℕ
buffers-alone =
    record {
      renders = λ n. 0;
      depths = λ n. 0;
      levels-of = λ n. n;
      put = λ c n. n;
      put-push = λ n. suc n;
      put-pop = λ n. n - 1;
      put-depth = λ w f id n. n;
    }

-- the walk, with the steps called
abbrev pub roomless : Frame → Recording → Answer (Logged ℕ)
roomless f r = walk-logged ℕ buffers-alone 0 f r
