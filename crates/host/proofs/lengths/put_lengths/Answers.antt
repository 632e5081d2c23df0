-- The viewport first, then the lengths for the screen that a reset makes.
use Rattle.std.proofs.Common.{ap, ◌∙◌, rules}
use Rattle.std.proofs.lemmas.Result.{err_from_is_err_and}
use Rattle.rect.proofs.Snapping.{bad-seen}
use Rattle.screen.specs.declared.Screen.{Screen}
use Rattle.screen.specs.Screens.{frame, frame-of}
use Rattle.screen.proofs.Resets.{begun, begun-good}
use Rattle.host.specs.Sizes.{length-words, sizes-of}
use Rattle.host.proofs.Sized.{no-view}
use Rattle.host.proofs.lengths.put_lengths.Goals as goal

pub returns-in_err-seen : goal.returns-in_err-seen
returns-in_err-seen c =
    let p = err_from_is_err_and c.from_residual.result c.from_residual.ensures.1 in
    rw (p.1, p.2) (no-view (frame c.args.setup c.args.viewport) (length-words c.args.sizes.now) _ (bad-seen _ _ c.in_err-seen.ensures))

pub put_lengths_of-requires : goal.put_lengths_of-requires
put_lengths_of-requires c = search (rules, begun-good)

pub returns : goal.returns
returns c =
    c.put_lengths_of.ensures
    ∙ ap (λ (s : Screen). sizes-of (frame-of s) (length-words c.args.sizes.now)) (begun c.args.setup c.args.viewport _ c.in_ok-seen.ensures _ c.fresh.ensures)
