use Rattle.std.proofs.Common.{ap, ◌∙◌, arith, length}
use Rattle.paint.proofs.WholeParts.{part-of-length}
use Rattle.paint.proofs.whole.row_of.Goals as goal

pub invariant_of-result-2 : goal.invariant_of-result-2
invariant_of-result-2 c =
    let stored = c.requires in
    record {
      state_len = ap length c.part.ensures ∙ part-of-length _ _ _ stored.state;
      render_len = omega (arith, ap length c.part-2.ensures ∙ part-of-length _ _ _ stored.render, stored.few-commands);
      fills_len = omega (arith, ap length c.part-3.ensures ∙ part-of-length _ _ _ stored.fills, stored.few-fills);
    }
