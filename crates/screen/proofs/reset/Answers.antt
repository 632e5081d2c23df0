-- The viewport first, then what is lent; refused, nothing changes. Done, every table is cleared and the screen's numbers are those of the frame.
use Rattle.std.proofs.Common.{rules}
use Rattle.std.proofs.lemmas.Result.{err_from_is_err_and}
use Rattle.screen.specs.Screens.{frame}
use Rattle.screen.specs.Lent.{tables_in}
use Rattle.screen.proofs.Resets.{refused, done, bad-box, begun, begun-good, begun-judged, begun-cleared}
use Rattle.screen.proofs.reset.Goals as goal

pub returns-in_err-seen-clause-reset : goal.returns-in_err-seen-clause-reset
returns-in_err-seen-clause-reset c = λ s.
    let p = err_from_is_err_and c.from_residual.result c.from_residual.ensures.1 in
    rw (p.1, p.2) (bad-box c.args.setup c.args.viewport _ _ c.in_err-seen.ensures)

pub judge_reset-requires : goal.judge_reset-requires
judge_reset-requires c = search (rules, begun-good)

pub returns-in_err-judge_reset-clause-reset : goal.returns-in_err-judge_reset-clause-reset
returns-in_err-judge_reset-clause-reset c = λ s.
    let q = c.args.setup in
    let v = c.args.viewport in
    let p = err_from_is_err_and c.from_residual-in_err-judge_reset.result c.from_residual-in_err-judge_reset.ensures.1 in
    rw (p.1, p.2)
    (refused (frame q v) _ _ (begun-judged q v _ c.in_ok-seen.ensures _ c.fresh-screen.ensures _ (rw c.lengths.ensures at c.in_err-judge_reset.ensures)))

pub returns-clause-reset : goal.returns-clause-reset
returns-clause-reset c = λ s.
    let q = c.args.setup in
    let v = c.args.viewport in
    let judged = begun-judged q v _ c.in_ok-seen.ensures _ c.fresh-screen.ensures _ (rw c.lengths.ensures at c.in_ok-judge_reset.ensures) in
    done (frame q v) _ judged _ _ (begun q v _ c.in_ok-seen.ensures _ c.fresh-screen.ensures) (begun-cleared q v _ c.in_ok-seen.ensures _ c.fresh-screen.ensures (tables_in c.args.lent.now) _ c.clear.ensures.cleared)
