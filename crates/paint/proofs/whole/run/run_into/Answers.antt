-- The row's depth fills are done first, then its commands, from where the painting stands.
use Rattle.std.proofs.Common.{◌≡◌, refl, ◌∙◌, ◌+◌, ◌-◌, ◌≤◌, [], arith, length, length-set, ltb-true}
use Rattle.std.proofs.lemmas.Bool.{eqb-true}
use Rattle.screen.specs.Depths.{depths}
use Rattle.paint.specs.Painting.{word, out, listed}
use Rattle.paint.specs.Kinds.{Onward, place, stands}
use Rattle.paint.specs.Rows.{steps_of, count_of}
use Rattle.paint.proofs.Two.{two_set, two_same, two_both}
use Rattle.paint.proofs.Leading.{fills-far, sure-fills, sure-all}
use Rattle.paint.proofs.WholeRuns.{onward-none}
use Rattle.paint.proofs.whole.run.run_into.Goals as goal
use Rattle.paint.proofs.whole.run.run_into.Goals.{Joined-done-depths, then-done-depths+else-limit-steps+else-steps-left, else-done-depths}

pub returns-then-limit-steps-clause-sure : goal.returns-then-limit-steps-clause-sure
returns-then-limit-steps-clause-sure c =
    let fills = c.run_depths-steps.ensures in
    let p = c.args.painting.now in
    let pieces = c.run_depths-steps.new.pieces in
    let w = fills-far c.args.row.now p _ _ _ _ _ _ _ _ _ (count_of pieces) c.requires.lens.2 (omega (arith, c.if-done-depths.true)) (omega (arith, c.requires.none))
    (fills.onward (word p 1) (c.is_calm.ensures c.if-not-is_calm.false).2) in
    sure-fills c.args.row.now c.args.limit _ p _ _ _ _ _ w fills.few.1 (omega (arith, pieces.few, pieces.whole)) _ _ _
    (rw (c.count.ensures, two_set p (word p 0 + c.run_depths-steps.result) c.requires.lens.2) refl)

-- the steps before the commands, which begin at a place
led : (c : Joined-done-depths)
    → let at = word c.args.painting.now 0 + c.if-done-depths.steps - word c.args.row.now.state.now 1 in
    (word c.args.row.now.state.now 1 ≤ word c.args.painting.now 0 + c.if-done-depths.steps)
    × (c.if-done-depths.steps ≤ c.args.limit)
    × Onward (steps_of c.args.row.now) c.if-done-depths.steps (out (listed 0) (depths c.args.depth.now c.args.minima.now) c.args.painting.now c.args.pieces.now.list.now)
    (stands (depths c.if-done-depths.depth c.if-done-depths.minima) (word c.args.row.now.state.now 1)
    (place at (count_of c.if-done-depths.pieces) (word c.args.painting.now 1) c.if-done-depths.pieces.list.now))
led c =
    let p = c.args.painting.now in
    let m = (c.is_calm.ensures c.if-not-is_calm.false).2 in
    elim c.if-done-depths.branch [
      | then-done-depths+else-limit-steps+else-steps-left w ↦
          let fills = w.run_depths-steps.ensures in
          let all : word p 0 + w.run_depths-steps.result ≡ word c.args.row.now.state.now 1 = omega (arith, fills.few.0, w.if-steps-left.false, w.if-done-depths.true) in
          let at : word c.args.row.now.state.now 1 + (word p 0 + w.run_depths-steps.result - word c.args.row.now.state.now 1) ≡ word p 0 + w.run_depths-steps.result = omega (arith, all) in
          rw (w.depth-is, w.minima-is, w.pieces-is, w.steps-is, at) (
            omega (arith, all),
            fills.few.1,
            fills-far c.args.row.now p _ _ _ _ _ _ _ _ _ (count_of w.run_depths-steps.new.pieces) c.requires.lens.2 (omega (arith, w.if-done-depths.true)) (omega (arith, c.requires.none))
                (fills.onward (word p 1) m),
          )
      | else-done-depths w ↦
          let here : word c.args.row.now.state.now 1 + (word p 0 + 0 - word c.args.row.now.state.now 1) ≡ word p 0 = omega (arith, w.if-done-depths.false) in
          let none : count_of c.args.pieces.now ≡ 0 = omega (arith, c.requires.none) in
          rw (w.depth-is, w.minima-is, w.pieces-is, w.steps-is, here, none) (omega (arith, w.if-done-depths.false), omega arith, rw (← two_same p c.requires.lens.2) (onward-none _ _))
    ]

pub returns-then-reached-renders-clause-sure : goal.returns-then-reached-renders-clause-sure
returns-then-reached-renders-clause-sure c =
    let at = (goal.at.returns-then-reached-renders-clause-sure c).Joined-done-depths in
    let o = led at in
    let go = c.run_commands-reached.ensures in
    sure-all c.args.row.now (c.is_calm.ensures c.if-not-is_calm.false).0 c.args.limit _ c.args.painting.now _ _ _ _ _ _ o.2 (go.reaches c.if-done-depths.minima) _ _ _
    refl (omega (arith, go.at_le_stop, c.min-stop.ensures, o.0, o.1)) c.count-2.ensures (two_both _ _ _ (c.if-done-depths.auto.painting ∙ c.requires.lens.2))
    _ (λ e. (c.if-reached-renders.true, ltb-true _ _ e))

pub returns-else-reached-renders-clause-sure : goal.returns-else-reached-renders-clause-sure
returns-else-reached-renders-clause-sure c =
    let at = (goal.at.returns-else-reached-renders-clause-sure c).Joined-done-depths in
    let o = led at in
    let go = c.run_commands-reached.ensures in
    sure-all c.args.row.now (c.is_calm.ensures c.if-not-is_calm.false).0 c.args.limit _ c.args.painting.now _ _ _ _ _ _ o.2 (go.reaches c.if-done-depths.minima) _ _ _
    refl (omega (arith, go.at_le_stop, c.min-stop.ensures, o.0, o.1)) c.count-2.ensures (two_both _ _ _ (c.if-done-depths.auto.painting ∙ c.requires.lens.2))
    _ (λ e. absurd (c.if-reached-renders.false (eqb-true _ _ e)))

-- the lists stay as long as they are
long : (c : Joined-done-depths) → (length c.if-done-depths.minima ≡ length c.args.minima.now) × (length c.if-done-depths.pieces.list.now ≡ length c.args.pieces.now.list.now)
long c =
    elim c.if-done-depths.branch [
      | then-done-depths+else-limit-steps+else-steps-left w ↦ rw (w.minima-is, w.pieces-is) (w.run_depths-steps.ensures.long.1, w.run_depths-steps.ensures.long.2)
      | else-done-depths w ↦ rw (w.minima-is, w.pieces-is) (refl, refl)
    ]

pub returns-then-reached-renders-clause-long : goal.returns-then-reached-renders-clause-long
returns-then-reached-renders-clause-long c =
    let at = (goal.at.returns-then-reached-renders-clause-long c).Joined-done-depths in (
      c.if-done-depths.auto.depth,
      (long at).0,
      simp length-set (c.if-done-depths.auto.painting ∙ c.requires.lens.2),
      (c.run_commands-reached.ensures.reaches []).long ∙ (long at).1,
    )

pub returns-else-reached-renders-clause-long : goal.returns-else-reached-renders-clause-long
returns-else-reached-renders-clause-long c =
    let at = (goal.at.returns-else-reached-renders-clause-long c).Joined-done-depths in (
      c.if-done-depths.auto.depth,
      (long at).0,
      simp length-set (c.if-done-depths.auto.painting ∙ c.requires.lens.2),
      (c.run_commands-reached.ensures.reaches []).long ∙ (long at).1,
    )

pub overflow_sub-all : goal.overflow_sub-all
overflow_sub-all c = (c.run_commands-reached.ensures.reaches []).after
