-- A judged screen's text has at most what `screen_room` says.
use Rattle.std.proofs.Common.{sym, ◌∙◌}
use Rattle.std.proofs.lemmas.Result.{err_from_is_err_and}
use Rattle.sizes.proofs.Refusals.{not_done}
use Rattle.row.specs.Rows.{all-held}
use Rattle.text.proofs.Judging.{listable}
use Rattle.text.proofs.ScreenLengths.{screen-few}
use Rattle.text.proofs.Leaving.{listed-done, listed-refused}
use Rattle.text.proofs.listing.list_screen.Goals as goal

pub returns-in_err-judge : goal.returns-in_err-judge
returns-in_err-judge c =
    let p = err_from_is_err_and c.from_residual.result c.from_residual.ensures.1 in
    rw (p.1, p.2) (listed-refused _ (all-held c.args.rows.now) _ _ c.in_err-judge.ensures (not_done _))

pub screen_room-requires : goal.screen_room-requires
screen_room-requires c =
    let o = listable _ (all-held c.args.rows.now) (sym c.in_ok-judge.ensures) in
    rw c.rows.ensures (o.whole.rows, o.whole.c, o.whole.d)

pub try_print_first-requires-clause-within : goal.try_print_first-requires-clause-within
try_print_first-requires-clause-within c = rw (c.screen_room.ensures, c.rows.ensures) (screen-few _ (all-held c.args.rows.now) (sym c.in_ok-judge.ensures))

pub returns : goal.returns
returns c = c.try_print_first.ensures ∙ listed-done _ (all-held c.args.rows.now) _ (sym c.in_ok-judge.ensures)
