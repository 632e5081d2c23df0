-- The most segments of a row have room on each touched row.
use Rattle.std.proofs.Common.{sym}
use Rattle.segments.proofs.Laws.{judged}
use Rattle.pop.proofs.Few.{pops-none, few-fit}
use Rattle.pop.proofs.judge.is_roomy.Goals as goal

pub returns-in-Ok-Nothing : goal.returns-in-Ok-Nothing
returns-in-Ok-Nothing c =
    let told = rw (c.in-Ok-Nothing.is, c.in-Ok-Nothing.field-0-is) at c.judge_pop_rows.ensures in
    let z = pops-none _ _ _ _ _ _ (sym told) in
    let m = c.requires.few in
    λ e. record { rows = z.0; listed = m.judged; room = few-fit _ _ _ _ _ _ _ c.requires.starts (judged _ m.judged).order m.most z.1 }
