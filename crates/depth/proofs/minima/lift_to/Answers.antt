-- Each turn works out one group more, while it has few enough buckets.
use Rattle.std.proofs.Common.{sym, ◌∙◌, arith}
use Rattle.depth.specs.Minima.{beside-place}
use Rattle.depth.proofs.Places.{half-same}
use Rattle.depth.proofs.Lifting.{Step, lift-first, lift-up-to, not-large, fit, step-up, can-raise}
use Rattle.depth.proofs.minima.lift_to.Goals.{After-raise}
use Rattle.depth.proofs.minima.lift_to.Goals as goal

pub loop-size-init : goal.loop-size-init
loop-size-init c = λ k e h p. lift-first k _ _ _ _ e h p c.requires.holds

pub raise-requires : goal.raise-requires
raise-requires c =
    let g = c.requires.group in
    let m = c.loop-size.invariant g.0 g.1 g.2 g.3 in
    can-raise g.0 _ _ _ _ _ _ _ g.2 m (not-large g.0 _ _ _ _ _ _ _ g.2 m _ g.4 c.loop-size-test.true)

pub overflow_mul-size : goal.overflow_mul-size
overflow_mul-size c =
    let g = c.requires.group in
    let m = c.loop-size.invariant g.0 g.1 g.2 g.3 in
    let f = fit g.0 _ _ _ _ _ _ _ g.2 m (not-large g.0 _ _ _ _ _ _ _ g.2 m _ g.4 c.loop-size-test.true) in
    omega (arith, f.few, g.1)

-- the turn
step-of : (c : After-raise)
    → Step c.requires.group.0 c.args.minima.now c.args.bucket c.loop-size.at c.loop-size.number c.loop-size.size c.loop-size.least c.loop-size.minima c.raise.result.0
    (beside-place c.loop-size.at c.loop-size.number c.loop-size.size)
step-of c =
    let g = c.requires.group in
    let m = c.loop-size.invariant g.0 g.1 g.2 g.3 in
    rw c.raise.ensures.above (step-up g.0 _ _ _ _ _ _ _ g.2 m (not-large g.0 _ _ _ _ _ _ _ g.2 m _ g.4 c.loop-size-test.true))

pub loop-size-smaller : goal.loop-size-smaller
loop-size-smaller c = (step-of (goal.at.loop-size-smaller c).After-raise).smaller

pub loop-size-preserved : goal.loop-size-preserved
loop-size-preserved c = λ k e h p.
    let g = c.requires.group in
    let q = half-same g.0 k (sym g.1 ∙ e) in
    rw c.raise.ensures.minima (rw q at ((step-of (goal.at.loop-size-preserved c).After-raise).next _ c.raise.ensures.least))

pub returns : goal.returns
returns c = λ k e.
    let g = c.requires.group in
    let q = half-same g.0 k (sym g.1 ∙ e) in
    rw q at (lift-up-to g.0 _ _ _ _ _ _ _ g.2 (c.loop-size.invariant g.0 g.1 g.2 g.3) _ c.loop-size-test.false)
