-- Each turn works out the group above from its halves' tops: the one that it comes from, and the one beside.
use Rattle.std.proofs.Common.{sym, ◌∙◌, arith}
use Rattle.depth.specs.Minima.{beside-place}
use Rattle.depth.proofs.Places.{half-same}
use Rattle.depth.proofs.Lifting.{Step, lift-first, lift-last, not-whole, fit, step-up, can-raise}
use Rattle.depth.proofs.minima.lift.Goals.{After-raise}
use Rattle.depth.proofs.minima.lift.Goals as goal

pub loop-at-init : goal.loop-at-init
loop-at-init c = λ k e h p. lift-first k _ _ _ _ e h p c.requires.holds

pub raise-requires : goal.raise-requires
raise-requires c =
    let g = c.requires.group in
    let m = c.loop-at.invariant g.0 g.1 g.2 g.3 in
    can-raise g.0 _ _ _ _ _ _ _ g.2 m (not-whole g.0 _ _ _ _ _ _ _ g.2 m c.loop-at-test.true)

pub overflow_mul-size : goal.overflow_mul-size
overflow_mul-size c =
    let g = c.requires.group in
    let m = c.loop-at.invariant g.0 g.1 g.2 g.3 in
    let f = fit g.0 _ _ _ _ _ _ _ g.2 m (not-whole g.0 _ _ _ _ _ _ _ g.2 m c.loop-at-test.true) in
    omega (arith, f.few, g.1)

-- the turn
step-of : (c : After-raise)
    → Step c.requires.group.0 c.args.minima.now c.args.bucket c.loop-at.at c.loop-at.number c.loop-at.size c.loop-at.least c.loop-at.minima c.raise.result.0
    (beside-place c.loop-at.at c.loop-at.number c.loop-at.size)
step-of c =
    let g = c.requires.group in
    let m = c.loop-at.invariant g.0 g.1 g.2 g.3 in
    rw c.raise.ensures.above (step-up g.0 _ _ _ _ _ _ _ g.2 m (not-whole g.0 _ _ _ _ _ _ _ g.2 m c.loop-at-test.true))

pub loop-at-smaller : goal.loop-at-smaller
loop-at-smaller c = (step-of (goal.at.loop-at-smaller c).After-raise).smaller

pub loop-at-preserved : goal.loop-at-preserved
loop-at-preserved c = λ k e h p.
    let g = c.requires.group in
    let q = half-same g.0 k (sym g.1 ∙ e) in
    rw c.raise.ensures.minima (rw q at ((step-of (goal.at.loop-at-preserved c).After-raise).next _ c.raise.ensures.least))

pub returns : goal.returns
returns c = λ k e.
    let g = c.requires.group in
    let q = half-same g.0 k (sym g.1 ∙ e) in
    rw q at (lift-last g.0 _ _ _ _ _ _ _ g.2 (c.loop-at.invariant g.0 g.1 g.2 g.3) c.loop-at-test.false)
