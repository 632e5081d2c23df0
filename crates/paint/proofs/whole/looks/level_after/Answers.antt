use Rattle.std.proofs.Common.{sym, ◌∙◌, arith}
use Rattle.paint.proofs.Saying.{push-bare, push-tiles, pop-bare}
use Rattle.paint.proofs.whole.looks.level_after.Goals as goal
use Rattle.paint.proofs.whole.looks.level_after.Goals.{then-words-eq6+else-not-is_good, else-words-eq6+else-words-ne5+else-words-ne0-4}

pub returns-then-words-eq7 : goal.returns-then-words-eq7
returns-then-words-eq7 c =
    λ v a u D. (
      omega (arith, c.requires),
      pop-bare v a u D _ _ c.if-words-ne0.false c.if-words-ne0-2.false c.if-words-eq7.true c.if-words-ne0-3.false (omega (arith, c.if-nesting-eq0.false)),
    )

pub returns : goal.returns
returns c =
    let few = c.if-nesting-ge-MOST_LAYERS.false in
    λ v a u D. (
      omega (arith, few),
      elim c.if-words-eq6.branch [
        | then-words-eq6+else-not-is_good w ↦
            let good = sym w.is_good.ensures ∙ w.if-not-is_good.false in
            push-tiles v a u D _ _ c.if-words-ne0.false c.if-words-ne0-2.false w.if-words-eq6.true good (omega (arith, few))
        | else-words-eq6+else-words-ne5+else-words-ne0-4 w ↦
            push-bare v a u D _ _ c.if-words-ne0.false c.if-words-ne0-2.false w.if-words-ne5.false w.if-words-ne0-4.false (omega (arith, few))
      ],
    )
