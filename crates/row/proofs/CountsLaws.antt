-- The counts of a row of words follow every step, so a step can be judged by counts alone. Assumes nothing.
use Rattle.std.proofs.Common.{◌≡◌, refl, ◌∙◌, Bool, true, false, cond, ℕ, ◌+◌, ◌-◌, ◌≤◌, arith, eqb, length}
use Rattle.rules.specs.Spans.{Span}
use Rattle.rules.specs.Split.{Part, regular, buckets, split}
use Rattle.rules.specs.Commands.{Command, paint-fill, layer-fill, DepthFill}
use Rattle.rules.proofs.All.{all_any}
use Rattle.rules.proofs.laws.Maps.{PartOk, of-tiles, of-buckets, Follows}
use Rattle.row.specs.Words.{Words, word, put_command, ended, end_buf, put_depth, word-ops}
use Rattle.row.proofs.WordsLaws.{cmd-renders, cmd-depths, cmd-levels, cmd-grown, buf-renders, buf-depths, buf-levels, buf-grown, fill-renders, fill-depths, fill-levels, fill-grown, end-grown, end-levels, ended-renders, ended-depths, ended-level}
use Rattle.row.specs.Counts.{Counts, counts, count, count-ops}

-- a row's record: its words, and at most 16 levels
pub record Sane (w : Words) : Type 0 where
  pub state : length w.state ≡ 54
  pub levels : word 5 w ≤ 16

-- no span matters here
abbrev pub any : Span → Type 0
any s = Unit {0}

any_part : (p : Part) → PartOk any p
any_part (regular s) = of-tiles tt
any_part (buckets s) = of-buckets tt

module _ (w : Words) (o : Sane w) where
  cmd-counts : (c : Command) → (count (put_command c w) ≡ counts (word 0 w + 1) (word 1 w) (word 5 w)) × Sane (put_command c w)
  cmd-counts c = (
    rw (cmd-renders w o.state c, cmd-depths w o.state c, cmd-levels w o.state c),
    record { state = (cmd-grown w o.state c).state ∙ o.state; levels = omega (arith, cmd-levels w o.state c, o.levels) },
  )

  fill-counts : (v : ℕ) (f : DepthFill) (id : ℕ) → (count (put_depth v f id w) ≡ counts (word 0 w) (word 1 w + 1) (word 5 w)) × Sane (put_depth v f id w)
  fill-counts v f id = (
    rw (fill-renders w o.state v f id, fill-depths w o.state v f id, fill-levels w o.state v f id),
    record { state = (fill-grown w o.state v f id).state ∙ o.state; levels = omega (arith, fill-levels w o.state v f id, o.levels) },
  )

  either : (b : Bool) → count (cond b w (ended w)) ≡ cond b (count w) (counts (word 0 w + 1) (word 1 w) (word 5 w - 1))
  either true = refl
  either false = rw (ended-renders w o.state, ended-depths w o.state, ended-level w o.state)

  pop-counts : count (end_buf w) ≡ cond (eqb (word 5 w) 0) (count w) (counts (word 0 w + 1) (word 1 w) (word 5 w - 1))
  unfolding end_buf
  pop-counts = either (eqb (word 5 w) 0)

pub counted : Follows Words Counts word-ops count-ops count Sane any
counted =
    record {
      renders = λ w o. refl;
      depths = λ w o. refl;
      levels = λ w o. refl;
      few = λ w o. o.levels;
      deeper = λ w o h. buf-levels w o.state (omega arith);
      paints = λ s i a g w o. cmd-counts w o (paint-fill s i a);
      closes = λ s i a g w o. cmd-counts w o (layer-fill s i a);
      pushes = λ w o h. (
        rw (buf-renders w o.state (omega arith), buf-depths w o.state (omega arith), buf-levels w o.state (omega arith)),
        record { state = (buf-grown w o.state (omega arith)).state ∙ o.state; levels = omega (arith, buf-levels w o.state (omega arith), h) },
      );
      pops = λ w o. (pop-counts w o, record { state = (end-grown w o.state).state ∙ o.state; levels = omega (arith, end-levels w o.state, o.levels) });
      fills = λ v s a id g w o. fill-counts w o v (record { buckets = s; attribute = a }) id;
      parts = λ v s g. all_any any_part (split v s);
    }
