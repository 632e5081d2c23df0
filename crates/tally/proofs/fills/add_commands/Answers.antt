use Rattle.std.proofs.Common.{sym, ◌∙◌, ◌+◌, ◌*◌, arith}
use Rattle.sizes.specs.Sizes.{tile-end, most-room}
use Rattle.cmd.proofs.BothWays.{reads-good}
use Rattle.paint.specs.Painting.{command-at}
use Rattle.paint.specs.Reading.{attrs_of}
use Rattle.tally.proofs.Adding.{look-good, within-more, added-none, added-next, added-nothing, added-all, commands-added}
use Rattle.tally.proofs.fills.add_commands.Goals.{in-Some, in_default}
use Rattle.tally.proofs.fills.add_commands.Goals as goal

pub loop-k-init : goal.loop-k-init
loop-k-init c = added-none _ _ _ _ _ _ _ c.requires.small

pub add_kind-requires-clause-good : goal.add_kind-requires-clause-good
add_kind-requires-clause-good c =
    look-good (attrs_of c.args.attrs.now) (command-at c.args.render_cmds.now c.loop-k.k) _ (sym (rw c.at.ensures at c.look.ensures) ∙ c.in-Some.is)
    (λ x e. reads-good _ _ _ _ x e)

pub add_kind-requires-clause-small : goal.add_kind-requires-clause-small
add_kind-requires-clause-small c =
    let far = c.loop-k.invariant.far in
    let h = c.requires.room.1 in
    (most-room + most-room * tile-end + c.loop-k.k * tile-end, omega arith, c.loop-k.invariant.few)

pub loop-k-preserved : goal.loop-k-preserved
loop-k-preserved c =
    let i = c.loop-k.invariant in
    let look = rw c.at.ensures at c.look.ensures in
    let a = attrs_of c.args.attrs.now in
    elim c.match-look.branch [
      | in-Some w ↦
          rw (w.figures-is, w.add_kind.ensures)
          (added-next _ _ _ _ _ _ i c.loop-k-test.true look _ w.in-Some.is
          (look-good a (command-at c.args.render_cmds.now c.loop-k.k) _ (sym look ∙ w.in-Some.is) (λ x e. reads-good _ _ _ _ x e)))
      | in_default w ↦ rw w.figures-is (added-nothing _ _ _ _ _ _ i c.loop-k-test.true look w.in_default.is)
    ]

pub returns-clause-added : goal.returns-clause-added
returns-clause-added c = λ cs e.
    added-all _ _ _ _ _ _ c.loop-k.invariant c.loop-k-test.false cs e ∙ commands-added c.args.width c.args.ids.now (attrs_of c.args.attrs.now) cs _

pub returns-clause-small : goal.returns-clause-small
returns-clause-small c =
    let far = c.loop-k.invariant.far in
    let h = c.requires.room.1 in
    within-more (omega arith) c.loop-k.invariant.few
