use Rattle.std.proofs.Common.{◌*◌, arith, length, []}
use Rattle.std.proofs.lemmas.Result.{err_from_is_err_and}
use Rattle.screen.specs.Screens.{setup-of}
use Rattle.screen.specs.Lent.{whole}
use Rattle.tally.specs.Counts.{screen-most}
use Rattle.tally.specs.Listed.{listed_of}
use Rattle.tally.proofs.Adding.{none-within, within-more}
use Rattle.tally.proofs.OneScreen.{within-plus}
use Rattle.tally.proofs.InList.{passed, at-start, end-in, one-more, at-end, table-long, refused, done, same-self, same-again}
use Rattle.tally.proofs.list.figures.Goals as goal

pub returns-in_err-judge-clause-figured : goal.returns-in_err-judge-clause-figured
returns-in_err-judge-clause-figured c =
    let p = err_from_is_err_and c.from_residual.result c.from_residual.ensures.1 in
    let a = c.args in
    rw (p.1, p.2)
    (refused (listed_of a.list) (setup-of a.setup) (whole a.screen.now a.lent.now) a.table.now _ c.in_err-judge.ensures)

pub loop-k-init : goal.loop-k-init
loop-k-init c =
    let a = c.args in
    let p = passed (listed_of a.list) (length a.table.now) c.in_ok-judge.ensures in (
      (
        [],
        at-start a.list.edition a.list.words.now a.list.ends.now (setup-of a.setup) (whole a.screen.now a.lent.now) a.table.now p.good _
            c.nothing-total.ensures,
      ),
      rw c.nothing-total.ensures none-within,
      same-self a.lent.now,
    )

pub file_in-requires : goal.file_in-requires
file_in-requires c =
    let (gs, i) = c.loop-k.invariant.0 in
    let e = end-in (length c.args.list.words.now) c.args.list.ends.now c.loop-k.k c.loop-k.at c.loop-k-test.true i.good in
    (e.0, e.1)

pub put-requires : goal.put-requires
put-requires c =
    let (gs, i) = c.loop-k.invariant.0 in
    let p = passed (listed_of c.args.list) (length c.args.table.now) c.in_ok-judge.ensures in
    let t = table-long i p.room in
    let r = p.room in
    let k = c.loop-k-test.true in
    omega arith

pub plus-total-requires : goal.plus-total-requires
plus-total-requires c =
    let p = passed (listed_of c.args.list) (length c.args.table.now) c.in_ok-judge.ensures in
    let few = p.few in
    let k = c.loop-k-test.true in
    (c.loop-k.k * screen-most, screen-most, omega arith, c.loop-k.invariant.1, c.recording_figures-own.ensures.small)

pub loop-k-preserved : goal.loop-k-preserved
loop-k-preserved c =
    let a = c.args in
    let (gs, i) = c.loop-k.invariant.0 in
    let p = passed (listed_of a.list) (length a.table.now) c.in_ok-judge.ensures in
    let own = rw c.file_in.ensures at c.recording_figures-own.ensures.figures in
    let left = rw c.file_in.ensures at c.recording_figures-own.ensures.left in (
      (
        _,
        one-more a.list.edition a.list.words.now a.list.ends.now (setup-of a.setup) (whole a.screen.now a.lent.now) a.table.now i c.loop-k-test.true p.room _
            own
            _
            left
            _
            c.plus-total.ensures
            _
            c.put.ensures,
      ),
      rw c.plus-total.ensures (within-more (omega arith) (within-plus c.loop-k.invariant.1 c.recording_figures-own.ensures.small)),
      same-again c.loop-k.invariant.2 c.recording_figures-own.ensures.same,
    )

pub put-requires-2 : goal.put-requires-2
put-requires-2 c =
    let (gs, i) = c.loop-k.invariant.0 in
    let p = passed (listed_of c.args.list) (length c.args.table.now) c.in_ok-judge.ensures in
    let t = table-long i p.room in
    let r = p.room in
    omega arith

pub returns-clause-figured : goal.returns-clause-figured
returns-clause-figured c =
    let a = c.args in
    let (gs, i) = c.loop-k.invariant.0 in
    let p = passed (listed_of a.list) (length a.table.now) c.in_ok-judge.ensures in
    done (listed_of a.list) (setup-of a.setup) (whole a.screen.now a.lent.now) a.table.now _ c.in_ok-judge.ensures
    (at-end a.list.edition a.list.words.now a.list.ends.now (setup-of a.setup) (whole a.screen.now a.lent.now) a.table.now i c.loop-k-test.false p.room _
    c.put-2.ensures)
