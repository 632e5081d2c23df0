-- The records are judged, then the nodes from the root are walked.
use Rattle.std.proofs.Common.{refl}
use Rattle.std.proofs.lemmas.Result.{err_from_is_err_and}
use Rattle.sizes.proofs.Refusals.{not_done}
use Rattle.file.specs.Held.{held}
use Rattle.walk.specs.Ready.{JudgedIn}
use Rattle.walk.proofs.Recordings.{bad-records, good, in-order, root, good-walk}
use Rattle.walk.proofs.call.play.Goals as goal

pub returns-in_err-judge-clause-played : goal.returns-in_err-judge-clause-played
returns-in_err-judge-clause-played c =
    let p = err_from_is_err_and c.from_residual.result c.from_residual.ensures.1 in
    rw (p.1, p.2) (bad-records (held c.args.file.now) _ c.in_err-judge.ensures (not_done _) _)

pub walk_nodes-requires : goal.walk_nodes-requires
walk_nodes-requires c =
    let e = root (held c.args.file.now) _ c.in_ok-judge.ensures refl in
    let y : JudgedIn c.args.file.now = record { fits = c.requires; good = good (held c.args.file.now) _ c.in_ok-judge.ensures refl; order = in-order (held c.args.file.now) _ c.in_ok-judge.ensures refl } in
    rw c.root-first.ensures (record { ready = y; order = e.0; ends = e.1 })

pub returns-clause-played : goal.returns-clause-played
returns-clause-played c =
    good-walk (held c.args.file.now) _ c.in_ok-judge.ensures refl _ _ (rw c.root-first.ensures at c.walk_nodes.ensures.walked)
