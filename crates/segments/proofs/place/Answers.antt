-- The segment's row is tested against the scene's rows, its tiles are cut to the scene's, and what is left is made local.
use Rattle.std.proofs.Common.{◌≡◌, Some, arith}
use Rattle.rules.specs.Spans.{cut_to}
use Rattle.rules.specs.Segments.{stretch-of}
use Rattle.span.specs.Spans.{tiles, stretch}
use Rattle.segments.specs.Segs.{segment-of, origin, bounds}
use Rattle.segments.proofs.Cutting.{Left, left_in, above, below, beside, across}
use Rattle.segments.proofs.place.Goals as goal
use Rattle.segments.proofs.place.Goals.{then-segment-scene-via-then-segment-scene, then-segment-scene-via-else-segment-scene+then-scene-segment}

pub returns-then-segment-scene : goal.returns-then-segment-scene
returns-then-segment-scene c = elim c.then-segment-scene.branch [
  | then-segment-scene-via-then-segment-scene w ↦ above (origin c.args.scene) (bounds c.args.scene) (segment-of c.args.segment) w.if-segment-scene.true
  | then-segment-scene-via-else-segment-scene+then-scene-segment w ↦ below (origin c.args.scene) (bounds c.args.scene) (segment-of c.args.segment) w.if-segment-scene.false w.if-scene-segment.true
]

pub returns-in_err-left : goal.returns-in_err-left
returns-in_err-left c = rw c.from_residual.ensures (beside (origin c.args.scene) (bounds c.args.scene) (segment-of c.args.segment) c.if-segment-scene.false c.if-scene-segment.false (rw c.alpha.ensures at c.in_err-left.ensures))

pub overflow_sub-result-2 : goal.overflow_sub-result-2
overflow_sub-result-2 c =
    let some_left : Some (stretch c.in_ok-left.left) ≡ cut_to (tiles c.args.scene.columns) (stretch-of (segment-of c.args.segment)) = rw c.alpha.ensures at c.in_ok-left.ensures in
    let h : Left (tiles c.args.scene.columns) (stretch-of (segment-of c.args.segment)) (stretch c.in_ok-left.left) = left_in _ _ _ some_left in
    omega (arith, c.requires.1.left, h.inside)

pub overflow_sub-result-3 : goal.overflow_sub-result-3
overflow_sub-result-3 c =
    let some_left : Some (stretch c.in_ok-left.left) ≡ cut_to (tiles c.args.scene.columns) (stretch-of (segment-of c.args.segment)) = rw c.alpha.ensures at c.in_ok-left.ensures in
    let h : Left (tiles c.args.scene.columns) (stretch-of (segment-of c.args.segment)) (stretch c.in_ok-left.left) = left_in _ _ _ some_left in
    omega (arith, c.requires.1.left, h.inside, h.wide)

pub returns : goal.returns
returns c =
    across (origin c.args.scene) (bounds c.args.scene) (segment-of c.args.segment) c.if-segment-scene.false c.if-scene-segment.false
    (stretch c.in_ok-left.left) (rw c.alpha.ensures at c.in_ok-left.ensures)
