-- Each turn clears what is used of one row.
use Rattle.std.proofs.Common.{refl, ◌*◌, ◌<◌, arith}
use Rattle.sizes.specs.Sizes.{renders-at, depths-at}
use Rattle.reuse.proofs.Using.{none-cleared, row-cleared}
use Rattle.reuse.proofs.clear_rows.Goals as goal

pub loop-r-init : goal.loop-r-init
loop-r-init c =
    (none-cleared (4 * c.args.c) 4 renders-at c.args.records.now c.args.render_cmds.now, none-cleared (2 * c.args.d) 2 depths-at c.args.records.now c.args.depth_cmds.now)

pub loop-r-preserved : goal.loop-r-preserved
loop-r-preserved c =
    let q = c.requires.long in
    let r = c.loop-r.r in
    let h : r < q.0 = omega (arith, c.loop-r-test.true, q.2) in (
      row-cleared (4 * c.args.c) 4 renders-at q.0 r _ _ c.args.records.now c.args.render_cmds.now _ _ h q.3 (omega arith) refl c.loop-r.invariant.0 c.clear_first.ensures,
      row-cleared (2 * c.args.d) 2 depths-at q.0 r _ _ c.args.records.now c.args.depth_cmds.now _ _ h q.4 (omega arith) refl c.loop-r.invariant.1 c.clear_first-in-loop-r.ensures,
    )
