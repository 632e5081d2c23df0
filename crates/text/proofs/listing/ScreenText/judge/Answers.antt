-- 2, 1 or 4 of the screen and the lengths comes first, then 4 of a row.
use Rattle.std.proofs.Common.{sym, ◌∙◌, arith}
use Rattle.std.proofs.lemmas.Result.{err_from_is_err_and}
use Rattle.sizes.proofs.Refusals.{not_done}
use Rattle.text.specs.Printed.{screen_words}
use Rattle.screen.proofs.ScreenLaws.{few-buckets}
use Rattle.screen.proofs.Passed.{passed}
use Rattle.text.proofs.Judging.{by-screen, by_rows, by-none, whole}
use Rattle.text.proofs.listing.ScreenText.judge.Goals as goal

pub returns-in_err-judge_screen : goal.returns-in_err-judge_screen
returns-in_err-judge_screen c =
    let p = err_from_is_err_and c.from_residual.result c.from_residual.ensures.1 in
    rw (p.1, p.2) (by-screen _ (screen_words c.args.self.now) _ c.in_err-judge_screen.ensures (not_done _))

pub overflow_cast-buckets : goal.overflow_cast-buckets
overflow_cast-buckets c =
    let o = passed _ _ _ _ (sym c.in_ok-judge_screen.ensures) in
    record { fits = omega (arith, few-buckets _ o.view c.args.self.now.screen.width, c.buckets.ensures) }

pub are_good_rows-requires : goal.are_good_rows-requires
are_good_rows-requires c = (whole _ (screen_words c.args.self.now) (sym c.in_ok-judge_screen.ensures) c.rows.ensures, c.rows.ensures)

pub returns-then-not-are_good_rows : goal.returns-then-not-are_good_rows
returns-then-not-are_good_rows c =
    by_rows _ (screen_words c.args.self.now) (sym c.in_ok-judge_screen.ensures) c.rows.ensures c.buckets.ensures
    (sym c.are_good_rows.ensures ∙ c.if-not-are_good_rows.true)

pub returns : goal.returns
returns c =
    by-none _ (screen_words c.args.self.now) (sym c.in_ok-judge_screen.ensures) c.rows.ensures c.buckets.ensures
    (sym c.are_good_rows.ensures ∙ c.if-not-are_good_rows.false)
