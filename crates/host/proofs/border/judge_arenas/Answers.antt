-- The viewport first, then the arenas of the screen that a reset makes.
use Rattle.std.proofs.Common.{ap, ◌∙◌, rules}
use Rattle.std.proofs.lemmas.Result.{err_from_is_err_and}
use Rattle.rect.proofs.Snapping.{bad-seen}
use Rattle.screen.specs.declared.Screen.{Screen}
use Rattle.screen.specs.Screens.{frame, frame-of}
use Rattle.screen.proofs.Resets.{begun, begun-good}
use Rattle.host.specs.Border.{arenas-in, arenas_number}
use Rattle.host.proofs.Ways.{bad-view}
use Rattle.host.proofs.border.judge_arenas.Goals as goal

pub returns-in_err-seen : goal.returns-in_err-seen
returns-in_err-seen c =
    let p = err_from_is_err_and c.from_residual.result c.from_residual.ensures.1 in
    rw (p.1, p.2) (bad-view (frame c.args.setup c.args.viewport) _ _ (bad-seen _ _ c.in_err-seen.ensures))

pub judge_lent-requires : goal.judge_lent-requires
judge_lent-requires c = search (rules, begun-good)

pub returns : goal.returns
returns c =
    c.judge_lent.ensures
    ∙ ap (λ (s : Screen). arenas_number (frame-of s) (arenas-in c.args.lent.now)) (begun c.args.setup c.args.viewport _ c.in_ok-seen.ensures _ c.fresh.ensures)
