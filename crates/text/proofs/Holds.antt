-- The list that a row was painted into holds its pieces. Assumes nothing.
use Rattle.std.proofs.Common.{Bool, true, false, cond, List, Option, None, Some, ℕ, zero, suc, ◌+◌, ◌*◌, ◌/◌, ◌≤◌, arith, ltb, eqb, length, drop, length-append, length-take-le}
use Rattle.sizes.specs.Sizes.{piece-size}
use Rattle.rules.specs.Answers.{Done}
use Rattle.rules.specs.Painting as rules
use Rattle.screen.specs.declared.Screen.{Screen}
use Rattle.screen.specs.Depths.{Depths}
use Rattle.paint.specs.Painting.{RowLent, words_lent, StepOut, out, refused, left, settled, painted-row}
use Rattle.paint.proofs.Spreading.{length-pieces}
use Rattle.paint.specs.Stepping.{Attributes, number, row_step, stepped}
use Rattle.paint.specs.Running.{goes_on, ended, one_more, run, most, standing, call_step, row-painted}

abbrev Holds : StepOut → Type 0
Holds o = piece-size * o.answer.pieces ≤ length o.list

settled-holds : (x : Option rules.Painted) (ms : List ℕ) (d : Depths) (p l : List ℕ) → Holds (settled x ms d p l)
unfolding settled
settled-holds None ms d p l = omega arith
settled-holds (Some o) ms d p l = go (ltb (length l / piece-size) (length o.pieces))
  where
    go : (b : Bool) → Holds (cond b (out (refused 14) d p l) (left o ms l))
    go true = omega arith
    go false = rw (length-append, length-pieces o.pieces) (omega arith)

step-holds : (s : Screen) (r : ℕ) (a : Attributes) (l : RowLent) → Holds (stepped s r a l)
unfolding stepped row_step painted-row
step-holds s r a l = go (eqb (number s r a l) Done)
  where
    go : (b : Bool) → Holds (cond b (row_step s r a l) (out (refused (number s r a l)) l.depth l.painting l.list))
    go true = settled-holds _ _ _ _ _
    go false = omega arith

module _ (step : Depths → List ℕ → List ℕ → StepOut) (h : (d : Depths) (p l : List ℕ) → Holds (step d p l)) where
  one_holds : (g : StepOut) → Holds g → Holds (one_more step g)
  unfolding one_more
  one_holds g i =
      rw (length-append, length-take-le (piece-size * g.answer.pieces) g.list i) (omega (arith, h g.depth g.painting (drop (piece-size * g.answer.pieces) g.list)))

  run_holds : (f k : ℕ) (g : StepOut) → Holds g → Holds (run step f k g)
  unfolding run
  run_holds zero k g i = i
  run_holds (suc f) k g i = go (goes_on (one_more step g).answer) (run_holds f (k + 1) (one_more step g) (one_holds g i))
    where
      go : (b : Bool) → Holds (run step f (k + 1) (one_more step g)) → Holds (cond b (run step f (k + 1) (one_more step g)) (ended k (one_more step g)))
      go true j = j
      go false j = one_holds g i

pub row-holds : (s : Screen) (r : ℕ) (a : Attributes) (l : RowLent) → piece-size * (row-painted s r a l).answer.pieces ≤ length (row-painted s r a l).list
unfolding row-painted
row-holds s r a l =
    run_holds (call_step s r a l.state l.render l.fills) (λ d p ws. step-holds s r a (words_lent l.state l.render l.fills d p ws)) most 0
    (standing l.depth l.painting l.list)
    (omega arith)
