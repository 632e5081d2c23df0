use Rattle.std.proofs.Common.{arith}
use Rattle.paint.specs.Reading.{attrs_of}
use Rattle.compact.proofs.Passing.{at-first, not-none, kind-is-good, at-next, at-last}
use Rattle.compact.proofs.commands.close_up.Goals as goal

pub loop-k-init : goal.loop-k-init
loop-k-init c = λ cs e. at-first _ (attrs_of c.args.attrs.now) _ cs _ _ e

pub unreachable-requires : goal.unreachable-requires
unreachable-requires c =
    let (cs, good) = c.requires.good in
    not-none _ (attrs_of c.args.attrs.now) _ cs _ _ _ _ (c.loop-k.invariant cs good) c.loop-k-test.true _ (rw c.at-words.ensures at c.look.ensures) c.in_default.is

pub take-left-requires-clause-room : goal.take-left-requires-clause-room
take-left-requires-clause-room c =
    let (cs, good) = c.requires.good in
    let p = c.loop-k.invariant cs good in
    omega (arith, p.behind, c.requires.room, c.loop-k.auto.render_cmds, c.loop-k-test.true)

pub take-left-requires-clause-good : goal.take-left-requires-clause-good
take-left-requires-clause-good c =
    let (cs, good) = c.requires.good in
    kind-is-good _ (attrs_of c.args.attrs.now) _ cs _ _ _ _ (c.loop-k.invariant cs good) c.loop-k-test.true _ (rw c.at-words.ensures at c.look.ensures) _ c.in-Some.is

pub loop-k-preserved : goal.loop-k-preserved
loop-k-preserved c = λ cs e.
    at-next _ (attrs_of c.args.attrs.now) _ cs _ _ _ _ (c.loop-k.invariant cs e) c.loop-k-test.true _ (rw c.at-words.ensures at c.look.ensures) _ c.in-Some.is
    (omega (arith, c.requires.room, c.loop-k.auto.render_cmds)) _ _ (rw c.at-words.ensures at c.take-left.ensures)

pub clear_behind-requires : goal.clear_behind-requires
clear_behind-requires c =
    let (cs, good) = c.requires.good in
    let p = c.loop-k.invariant cs good in
    omega (arith, p.behind, p.within, c.requires.room, c.loop-k.auto.render_cmds, c.loop-k-test.false)

pub returns-clause-few : goal.returns-clause-few
returns-clause-few c =
    let (cs, good) = c.requires.good in
    let p = c.loop-k.invariant cs good in
    omega (arith, p.behind, p.within)

pub returns-clause-closed : goal.returns-clause-closed
returns-clause-closed c = λ cs e.
    at-last _ (attrs_of c.args.attrs.now) _ cs _ _ _ _ _ _ (c.loop-k.invariant cs e) c.loop-k-test.false c.loop-k.auto.render_cmds
    (omega (arith, c.requires.room, c.loop-k.auto.render_cmds)) c.clear_behind.ensures
