use Rattle.std.proofs.Common.{◌≡◌, sym, ◌∙◌, ◌+◌, ◌*◌, arith, get_or}
use Rattle.row.specs.Arena.{count-rows}
use Rattle.fill.proofs.Sure.{split_off, Walking, set_out, turns-over, all-sure, one-solid, one-alpha}
use Rattle.fill.proofs.judge.is_sure.Given.{Over}
use Rattle.fill.proofs.judge.is_sure.Goals as goal
use Rattle.fill.proofs.judge.is_sure.Goals.{
  Joined-here-row,
  then-job,
  else-job,
  then-here-row+else-here-row-2+else-not-has_room_at,
  else-here-row,
  then-kind-eq0+else-list-at-ne0,
  else-kind-eq0+else-kind-ne1+else-edge-first-2,
}

-- the segment's row is at hand
walks : {g : Over} (c : Joined-here-row g)
    → Walking c.args.job (count-rows c.args.rows.now) c.args.rows.now c.args.list.now c.args.start c.args.end c.if-here-row.row c.if-here-row.from c.if-here-row.edge c.if-here-row.split c.loop-i.i
    × (get_or c.args.list.now (5 * c.loop-i.i + 1) 0 ≡ c.if-here-row.row)
walks c =
    let v = c.loop-i.invariant.1 in
    elim c.if-here-row.branch [
      | then-here-row+else-here-row-2+else-not-has_room_at w ↦
          (rw (w.row-is, w.from-is, w.edge-is, w.split-is) (turns-over v _ (omega arith) (w.has_room_at.ensures w.if-not-has_room_at.false)), sym w.row-is)
      | else-here-row w ↦ (rw (w.row-is, w.from-is, w.edge-is, w.split-is) v, w.if-here-row.false ∙ sym w.row-is)
    ]

pub loop-i-init : goal.loop-i-init
loop-i-init g c =
    let weighed : c.if-job.weight ≡ split_off c.args.job.eligible 1 =
    elim c.if-job.branch [ then-job w ↦ rw w.if-job.true w.weight-is | else-job w ↦ rw w.if-job.false w.weight-is ] in
    (weighed, set_out _ c.requires.rows c.requires.range c.requires.list)

pub loop-i-preserved : goal.loop-i-preserved
loop-i-preserved g c =
    let l = c.loop-i-test.true in
    let v = walks (goal.at.loop-i-preserved g c).Joined-here-row in (
      c.loop-i.invariant.0,
      elim c.if-kind-eq0.branch [
        | then-kind-eq0+else-list-at-ne0 w ↦
            one-solid v.0 l v.1 c.if-first-edge.false c.if-edge-first.false c.if-edge-gt-TILE_END.false c.loop-i.invariant.0 w.split-is w.if-kind-eq0.true w.if-list-at-ne0.false
        | else-kind-eq0+else-kind-ne1+else-edge-first-2 w ↦
            one-alpha v.0 l v.1 c.if-first-edge.false c.if-edge-first.false c.if-edge-gt-TILE_END.false w.split-is w.if-kind-ne1.false w.if-edge-first-2.false
      ],
    )

pub returns-then-row-lt-TILE_END : goal.returns-then-row-lt-TILE_END
returns-then-row-lt-TILE_END g c = λ e. all-sure c.loop-i.invariant.1 c.loop-i-test.false c.if-row-lt-TILE_END.true (c.has_room_at-then-row-lt-TILE_END.ensures e)
