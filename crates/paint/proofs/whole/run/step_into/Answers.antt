-- The step is a depth fill's, a command's, or there is none.
use Rattle.std.proofs.Common.{◌≡◌, refl, ◌∙◌, ◌+◌, ◌-◌, true, false, [], ◌∷◌, arith, length-set}
use Rattle.std.proofs.lemmas.Bool.{false≢true}
use Rattle.screen.specs.Depths.{depths}
use Rattle.paint.specs.Painting.{word, out, listed}
use Rattle.paint.specs.Kinds.{Onward, place, stands}
use Rattle.paint.specs.Rows.{steps_of, count_of}
use Rattle.paint.proofs.Two.{two_set, two_same, two_both}
use Rattle.paint.proofs.Along.{reach-none}
use Rattle.paint.proofs.Leading.{fills-far, sure-fills, sure-all}
use Rattle.paint.proofs.WholeRuns.{onward-none}
use Rattle.paint.proofs.whole.run.step_into.Goals as goal

pub returns-then-done-depths-clause-sure : goal.returns-then-done-depths-clause-sure
returns-then-done-depths-clause-sure c =
    let row = c.args.row.now in
    let p = c.args.painting.now in
    let d = word row.state.now 1 in
    let k = d - word p 0 - 1 in
    let pieces = c.settle_depth.new.pieces in
    let next : d - k ≡ d - (k + 1) + 1 = omega (arith, c.if-done-depths.true) in
    let step = (rw next at (c.if-not-settle_depth.ensures.settled (word p 1) (c.is_calm.ensures c.if-not-is_calm.false).2)) in
    let w = fills-far row p _ _ _ _ _ _ (k + 1) 1 _ (count_of pieces) c.requires.lens.2 (omega (arith, c.if-done-depths.true)) (omega (arith, c.requires.none)) step in
    sure-fills row 1 _ p _ _ _ _ _ w (omega arith) (omega (arith, pieces.few, pieces.whole)) _ _ _
    (rw (c.count.ensures, two_set p (word p 0 + 1) c.requires.lens.2) refl)

pub returns-then-row-at-clause-sure : goal.returns-then-row-at-clause-sure
returns-then-row-at-clause-sure c =
    let row = c.args.row.now in
    let p = c.args.painting.now in
    let d = word row.state.now 1 in
    let calm = c.is_calm.ensures c.if-not-is_calm.false in
    let at = word p 0 - d in
    let here : d + at ≡ word p 0 = omega (arith, c.if-done-depths.false) in
    let D = depths c.args.depth.now c.args.minima.now in
    let l = c.args.pieces.now.list.now in
    let there : p ≡ (d + at) ∷ word p 1 ∷ [] = rw here (two_same p c.requires.lens.2) in
    let w : Onward (steps_of row) 0 (out (listed 0) D p l) (stands D d (place at 0 (word p 1) l)) =
    rw (← there) (onward-none (steps_of row) (out (listed 0) D p l))
    in
    sure-all row calm.0 1 D p l _ _ 0 (place at 0 (word p 1) l) (place at 0 (word p 1) l) w (reach-none _ _ _ _ calm.2 (omega arith)) 0 0 p (omega arith) (omega arith) refl there
    true (λ e. (omega (arith, calm.1, c.if-row-at.true), omega arith))

pub returns-clause-sure : goal.returns-clause-sure
returns-clause-sure c =
    let row = c.args.row.now in
    let p = c.args.painting.now in
    let d = word row.state.now 1 in
    let calm = c.is_calm.ensures c.if-not-is_calm.false in
    let at = word p 0 - d in
    let here : d + at ≡ word p 0 = omega (arith, c.if-done-depths.false) in
    let up : word p 0 + 1 ≡ d + (at + 1) = omega (arith, c.if-done-depths.false) in
    let D = depths c.args.depth.now c.args.minima.now in
    let l = c.args.pieces.now.list.now in
    let there : p ≡ (d + at) ∷ word p 1 ∷ [] = rw here (two_same p c.requires.lens.2) in
    let w : Onward (steps_of row) 0 (out (listed 0) D p l) (stands D d (place at 0 (word p 1) l)) =
    rw (← there) (onward-none (steps_of row) (out (listed 0) D p l))
    in
    let none : count_of c.args.pieces.now ≡ 0 = omega (arith, c.requires.none) in
    let step = (rw (c.of-seen.ensures.same, none) at c.in-Some.ensures.settled) in
    sure-all row calm.0 1 D p l _ _ 0 (place at 0 (word p 1) l) _ w (step c.args.minima.now) 1 _ _ (omega arith) (omega arith) c.count-2.ensures
    (two_both p (word p 0 + 1) _ c.requires.lens.2 ∙ rw up refl) false (λ e. absurd (false≢true e))

pub returns-clause-long : goal.returns-clause-long
returns-clause-long c = (refl, refl, simp length-set c.requires.lens.2, (c.in-Some.ensures.settled []).long)
