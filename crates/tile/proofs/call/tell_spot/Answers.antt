-- No layer is open and nothing is told; the walk from the root is the walk of the whole recording.
use Rattle.std.proofs.Common.{[], arith}
use Rattle.std.proofs.lemmas.Result.{err_from_is_err_and}
use Rattle.file.specs.Held.{held}
use Rattle.file.proofs.Laws.{root-range}
use Rattle.tile.proofs.Spots.{ready_at, holds-nothing, all_told}
use Rattle.tile.proofs.call.tell_spot.Goals as goal

pub tell_nodes-requires : goal.tell_nodes-requires
tell_nodes-requires c =
    let s = c.args in
    let from = root-range (held s.file.now) c.requires.ready.good in
    rw c.root-first.ensures
    (record {
      ready = ready_at s.spot c.requires.spot _ c.whole.ensures s.file.now s.lines.now c.requires.ready c.requires.room;
      levels = omega arith;
      order = from.0;
      ends = from.1;
    })

pub returns-in_err-tell_nodes : goal.returns-in_err-tell_nodes
returns-in_err-tell_nodes c =
    let s = c.args in
    let p = err_from_is_err_and c.from_residual.result c.from_residual.ensures.1 in
    rw (p.1, p.2)
    (all_told (held s.file.now) _ _ _ _ _ _ _
    (rw c.root-first.ensures at (c.in_err-tell_nodes.ensures.told [] (holds-nothing s.spot c.requires.spot _ c.whole.ensures)))).number

pub returns : goal.returns
returns c =
    let s = c.args in (
      all_told (held s.file.now) _ _ _ _ _ _ _
          (rw c.root-first.ensures at (c.in_ok-tell_nodes.ensures.told [] (holds-nothing s.spot c.requires.spot _ c.whole.ensures))),
      c.in_ok-tell_nodes.ensures.low,
    )
