use Rattle.std.proofs.Common.{rules, sym, ap, ◌∙◌, arith}
use Rattle.rules.specs.Segments.{Segment}
use Rattle.fill.proofs.Runs.{layers-room, set-off, row-left, solid-met, runs_past, paint-asks, runs_on, run-done}
use Rattle.fill.proofs.rows.push_run.Goals as goal
use Rattle.fill.proofs.rows.push_run.Goals.{in-Some, in_default}

pub ensure_row_layers-requires : goal.ensure_row_layers-requires
ensure_row_layers-requires g c = (c.requires.layers, layers-room c.requires)

pub loop-next-init : goal.loop-next-init
loop-next-init g c = (search rules, set-off c.requires c.ensure_row_layers.ensures.row)

pub returns-then-segment-run : goal.returns-then-segment-run
returns-then-segment-run g c =
    let e = run-done c.requires c.ensure_row_layers.ensures.row c.loop-next.invariant.1
    (row-left c.loop-next.invariant.1 (λ e. c.if-segment-run.true (ap (λ (s : Segment). s.row) c.segment_at-segment.ensures ∙ e))) in
    record { after = (e.0, e.1); on = e.2; row = search (rules, e.3) }

pub returns-then-segment-eq0 : goal.returns-then-segment-eq0
returns-then-segment-eq0 g c =
    let e = run-done c.requires c.ensure_row_layers.ensures.row c.loop-next.invariant.1
    (solid-met c.loop-next.invariant.1 (sym (ap (λ (s : Segment). s.kind) c.segment_at-segment.ensures) ∙ c.if-segment-eq0.true)) in
    record { after = (e.0, e.1); on = e.2; row = search (rules, e.3) }

pub push_paint-requires : goal.push_paint-requires
push_paint-requires g c =
    paint-asks c.loop-next.invariant.1 c.loop-next-test.true (sym (ap (λ (s : Segment). s.row) c.segment_at-segment.ensures) ∙ c.if-segment-run.false)
    (λ e. c.if-segment-eq0.false (ap (λ (s : Segment). s.kind) c.segment_at-segment.ensures ∙ e)) _
    (rw c.segment_at-segment.ensures at c.in-Some.ensures)

pub returns : goal.returns
returns g c =
    let e = run-done c.requires c.ensure_row_layers.ensures.row c.loop-next.invariant.1 (omega (arith, c.loop-next.invariant.1.ready.before)) in
    record { after = (e.0, e.1); on = e.2; row = search (rules, e.3) }

pub loop-next-preserved : goal.loop-next-preserved
loop-next-preserved g c =
    let row = sym (ap (λ (s : Segment). s.row) c.segment_at-segment.ensures) ∙ c.if-segment-run.false in
    elim c.match-place.branch [
      | in_default w ↦
          rw w.lent-is
          (search rules, runs_past c.loop-next.invariant.1 c.loop-next-test.true row (rw c.segment_at-segment.ensures at w.in_default.ensures))
      | in-Some w ↦
          rw w.lent-is (
            search rules,
            runs_on c.loop-next.invariant.1 c.loop-next-test.true row (λ e. c.if-segment-eq0.false (ap (λ (s : Segment). s.kind) c.segment_at-segment.ensures ∙ e)) _
                (rw c.segment_at-segment.ensures at w.in-Some.ensures) w.push_paint.ensures.row,
          )
    ]
