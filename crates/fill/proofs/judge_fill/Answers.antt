-- The tests in the rules' order; the list is judged in one pass together with the rows that it comes to.
use Rattle.std.proofs.Common.{◌≡◌, ◌∙◌, Bool, ℕ}
use Rattle.std.proofs.lemmas.Result.{err_from_is_err_and}
use Rattle.row.specs.Rows.{all-held}
use Rattle.fill.specs.Fills.{fill_lent}
use Rattle.fill.proofs.Inputs.{draw-facts, fill-told}
use Rattle.fill.proofs.Numbers.{bad-draw, passing, list-asked, list-first, list-no-id, list-empty, list-no-attr, list-rows}
use Rattle.fill.specs.Tallies.{early}
use Rattle.fill.proofs.judge_fill.Goals as goal

early-at : {k n : ℕ} {b : Bool} → k ≡ n → early n ≡ b → early k ≡ b
early-at e h = rw e h

pub returns-then-not-is_good_by-clause-number : goal.returns-then-not-is_good_by-clause-number
returns-then-not-is_good_by-clause-number g c = bad-draw _ _ _ _ c.requires.judged (fill-told c.args.paints.now c.args.segments.now c.args.draw c.is_good_by.ensures c.if-not-is_good_by.true)

pub job_of-job-requires : goal.job_of-job-requires
job_of-job-requires g c =
    let p = passing _ _ _ c.args.draw c.requires.judged in
    record { viewport = p.view; numbers = p.screen; paint = (draw-facts c.args.paints.now c.args.segments.now c.args.draw (fill-told c.args.paints.now c.args.segments.now c.args.draw c.is_good_by.ensures c.if-not-is_good_by.false)).paint }

pub judge_list-requires : goal.judge_list-requires
judge_list-requires g c =
    let l = fill_lent c.args.screen (all-held c.args.rows.now) c.args.paint_attrs.now in
    let asked = list-asked l c.args.paints.now c.args.segments.now c.args.draw c.requires.judged (fill-told c.args.paints.now c.args.segments.now c.args.draw c.is_good_by.ensures c.if-not-is_good_by.false) in
    rw c.job_of-job.ensures (record { rows = asked.0; range = asked.1; list = asked.2; known = λ e. (c.requires.known e).list })

pub returns-in_err-fault-clause-number : goal.returns-in_err-fault-clause-number
returns-in_err-fault-clause-number g c =
    let p = err_from_is_err_and c.from_residual.result c.from_residual.ensures.1 in
    rw (p.1, p.2)
    (list-first _ _ _ _ c.requires.judged (fill-told c.args.paints.now c.args.segments.now c.args.draw c.is_good_by.ensures c.if-not-is_good_by.false) (rw c.job_of-job.ensures at c.in_err-fault.ensures.0) (early-at c.in_err-fault.ensures.0 c.in_err-fault.ensures.1))

pub returns-then-screen-gt-LAST_ID-clause-number : goal.returns-then-screen-gt-LAST_ID-clause-number
returns-then-screen-gt-LAST_ID-clause-number g c = list-no-id _ _ _ _ c.requires.judged (fill-told c.args.paints.now c.args.segments.now c.args.draw c.is_good_by.ensures c.if-not-is_good_by.false) (rw c.job_of-job.ensures at c.in_ok-fault.ensures.0) (early-at (c.in_ok-fault.ensures.0) c.in_ok-fault.ensures.1) c.if-screen-gt-LAST_ID.true

pub returns-then-draw-clause-number : goal.returns-then-draw-clause-number
returns-then-draw-clause-number g c = list-empty _ _ _ _ c.requires.judged (fill-told c.args.paints.now c.args.segments.now c.args.draw c.is_good_by.ensures c.if-not-is_good_by.false) (rw c.job_of-job.ensures at c.in_ok-fault.ensures.0) (early-at (c.in_ok-fault.ensures.0) c.in_ok-fault.ensures.1) c.if-screen-gt-LAST_ID.false c.if-draw.true

pub returns-then-screen-ge-MOST_ATTRS-clause-number : goal.returns-then-screen-ge-MOST_ATTRS-clause-number
returns-then-screen-ge-MOST_ATTRS-clause-number g c = list-no-attr _ _ _ _ c.requires.judged (fill-told c.args.paints.now c.args.segments.now c.args.draw c.is_good_by.ensures c.if-not-is_good_by.false) (rw c.job_of-job.ensures at c.in_ok-fault.ensures.0) (early-at (c.in_ok-fault.ensures.0) c.in_ok-fault.ensures.1) c.if-screen-gt-LAST_ID.false c.if-draw.false c.if-screen-ge-MOST_ATTRS.true

pub returns-in_err-answer-clause-number : goal.returns-in_err-answer-clause-number
returns-in_err-answer-clause-number g c =
    let p = err_from_is_err_and c.from_residual-in_err-answer.result c.from_residual-in_err-answer.ensures.1 in
    rw (p.1, p.2)
    (c.in_err-answer.ensures ∙ list-rows _ _ _ _ c.requires.judged (fill-told c.args.paints.now c.args.segments.now c.args.draw c.is_good_by.ensures c.if-not-is_good_by.false) (rw c.job_of-job.ensures at c.in_ok-fault.ensures.0) (early-at (c.in_ok-fault.ensures.0) c.in_ok-fault.ensures.1) c.if-screen-gt-LAST_ID.false c.if-draw.false c.if-screen-ge-MOST_ATTRS.false)

pub returns-clause-number : goal.returns-clause-number
returns-clause-number g c =
    c.in_ok-answer.ensures ∙ list-rows _ _ _ _ c.requires.judged (fill-told c.args.paints.now c.args.segments.now c.args.draw c.is_good_by.ensures c.if-not-is_good_by.false) (rw c.job_of-job.ensures at c.in_ok-fault.ensures.0) (early-at (c.in_ok-fault.ensures.0) c.in_ok-fault.ensures.1) c.if-screen-gt-LAST_ID.false c.if-draw.false c.if-screen-ge-MOST_ATTRS.false
