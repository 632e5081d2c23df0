-- A form that cannot be read comes first, then a tile off the screen. What is left is a recording that the call accepted: its frame's viewport is
-- good, and so is every record.
use Rattle.std.proofs.Common.{◌≡◌, sym, ◌∙◌, true, false}
use Rattle.std.proofs.lemmas.Result.{err_from_is_err_and}
use Rattle.screen.specs.Screens.{setup-of}
use Rattle.file.specs.Held.{held}
use Rattle.tile.proofs.Accepted.{given-view, given-ready}
use Rattle.tile.proofs.Explaining.{view-seen, view-unseen, formless, off, reasoned}
use Rattle.tile.proofs.call.explain.Goals as goal

pub returns-in_err-file : goal.returns-in_err-file
returns-in_err-file c =
    let p = err_from_is_err_and c.from_residual.result c.from_residual.ensures.1 in
    rw (p.1, p.2, c.in_err-file.ensures.0) (λ old l e. formless _ _ _ _ _ _ l e c.in_err-file.ensures.1)

pub returns-in_err-viewport : goal.returns-in_err-viewport
returns-in_err-viewport c =
    let q = setup-of c.args.setup in
    let r = c.in_ok-file.file in
    let good = given-view r _ c.in_ok-file.ensures q c.requires in
    let bad = view-unseen (held r) q _ c.viewport.ensures c.in_err-viewport.ensures in
    let z : true ≡ false = sym good ∙ bad in
    λ old n e. cc

pub returns-then-is_off_screen : goal.returns-then-is_off_screen
returns-then-is_off_screen c =
    let r = c.in_ok-file.file in
    let same = view-seen (held r) (setup-of c.args.setup) _ c.viewport.ensures _ c.in_ok-viewport.ensures in
    λ old n e. off _ _ _ _ _ _ n e (held r) c.in_ok-file.ensures.1 _ same (sym c.is_off_screen.ensures ∙ c.if-is_off_screen.true)

pub reason_at-requires : goal.reason_at-requires
reason_at-requires c =
    let q = setup-of c.args.setup in
    let r = c.in_ok-file.file in
    let same = view-seen (held r) q _ c.viewport.ensures _ c.in_ok-viewport.ensures in
    record {
      ready = given-ready r _ c.in_ok-file.ensures q c.requires;
      good = rw same at (given-view r _ c.in_ok-file.ensures q c.requires);
      on_screen = sym c.is_off_screen.ensures ∙ c.if-is_off_screen.false;
    }

pub returns : goal.returns
returns c =
    let r = c.in_ok-file.file in
    let same = view-seen (held r) (setup-of c.args.setup) _ c.viewport.ensures _ c.in_ok-viewport.ensures in
    λ old n e.
    reasoned _ _ _ _ _ _ n e (held r) c.in_ok-file.ensures.1 _ same (sym c.is_off_screen.ensures ∙ c.if-is_off_screen.false) _ (c.reason_at.ensures n)
