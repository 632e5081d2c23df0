use Rattle.std.proofs.Common.{sym, ◌∙◌, ◌+◌, ◌*◌, arith, length}
use Rattle.sizes.specs.Sizes.{tile-end, most-room}
use Rattle.cmd.proofs.BothWays.{depth-reads-good}
use Rattle.paint.specs.Painting.{depth-fill-at}
use Rattle.paint.specs.Reading.{attrs_of}
use Rattle.tally.proofs.Adding.{depth-good, within-more, added-none, added-next, added-nothing, added-all, depths-added}
use Rattle.tally.proofs.fills.add_depth_fills.Goals.{in-Some, in_default}
use Rattle.tally.proofs.fills.add_depth_fills.Goals as goal

pub loop-k-init : goal.loop-k-init
loop-k-init c = added-none _ _ _ _ _ _ _ c.requires.small

pub add_kind-requires-clause-good : goal.add_kind-requires-clause-good
add_kind-requires-clause-good c =
    depth-good c.args.width (attrs_of c.args.attrs.now) _ (depth-fill-at (length c.args.ids.now) c.args.depth_cmds.now c.loop-k.k) _ c.requires.buckets
    (sym (rw c.at.ensures at c.look_depth.ensures) ∙ c.in-Some.is)
    (λ x e. depth-reads-good _ _ _ x e)

pub add_kind-requires-clause-small : goal.add_kind-requires-clause-small
add_kind-requires-clause-small c =
    let far = c.loop-k.invariant.far in
    let h = c.requires.room.1 in
    (most-room + c.loop-k.k * tile-end, omega arith, c.loop-k.invariant.few)

pub loop-k-preserved : goal.loop-k-preserved
loop-k-preserved c =
    let i = c.loop-k.invariant in
    let look = rw c.at.ensures at c.look_depth.ensures in
    let a = attrs_of c.args.attrs.now in
    let o = depth-fill-at (length c.args.ids.now) c.args.depth_cmds.now c.loop-k.k in
    elim c.match-look_depth.branch [
      | in-Some w ↦
          rw (w.figures-is, w.add_kind.ensures)
          (added-next _ _ _ _ _ _ i c.loop-k-test.true look _ w.in-Some.is
          (depth-good c.args.width a _ o _ c.requires.buckets (sym look ∙ w.in-Some.is) (λ x e. depth-reads-good _ _ _ x e)))
      | in_default w ↦ rw w.figures-is (added-nothing _ _ _ _ _ _ i c.loop-k-test.true look w.in_default.is)
    ]

pub returns-clause-added : goal.returns-clause-added
returns-clause-added c = λ fs e.
    added-all _ _ _ _ _ _ c.loop-k.invariant c.loop-k-test.false fs e ∙ depths-added c.args.width c.args.ids.now (attrs_of c.args.attrs.now) fs _

pub returns-clause-small : goal.returns-clause-small
returns-clause-small c =
    let far = c.loop-k.invariant.far in
    let h = c.requires.room.1 in
    within-more (omega arith) c.loop-k.invariant.few
