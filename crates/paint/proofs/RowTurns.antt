-- Rows by one call are rows by calls one after the other. Assumes nothing.
use Rattle.std.proofs.Common.{◌≡◌, refl, ap, ◌∙◌, Bool, true, false, cond, List, ℕ, zero, suc, ◌+◌, arith, slice_set, eqb}
use borrow.Author.Tests.{eqb-false}
use Rattle.screen.specs.Depths.{Depths}
use Rattle.paint.specs.Painting.{StepOut}
use Rattle.paint.specs.Running.{one_more}
use Rattle.paint.specs.InOrder.{RowsOut, rows_out, turn, rows_in_order}
use Rattle.paint.specs.RowTurns.{rows_so_far, OneRow}
use Rattle.paint.proofs.InOrder.{from-listed}

module _ (row : ℕ → Depths → List ℕ → List ℕ → StepOut) (m : ℕ) where
  abbrev Both : ℕ → ℕ → ℕ → List ℕ → StepOut → RowsOut → Type 0
  Both f r k e g o = (o.done ≡ k + f) × (rows_in_order row (f + m) r k e g ≡ rows_in_order row m (r + f) (k + f) o.ends (rows_so_far o))

  pub in-parts : (f r k : ℕ) (e : List ℕ) (g : StepOut) → (rows_in_order row f r k e g).number ≡ 0 → Both f r k e g (rows_in_order row f r k e g)
  unfolding rows_in_order
  in-parts zero r k e g h =
      let a : 0 + m ≡ m = omega arith in
      let b : r + 0 ≡ r = omega arith in
      let c : k + 0 ≡ k = omega arith in
      (omega arith, rw (a, b, c) (from-listed row m r k e g.answer g.depth g.painting g.list))
  in-parts (suc f) r k e g h = go (eqb (turn row r g).answer.number 0) refl h (in-parts f (r + 1) (k + 1) (slice_set e k (turn row r g).answer.pieces) (turn row r g))
    where
      o : StepOut
      o = turn row r g

      next : RowsOut
      next = rows_in_order row f (r + 1) (k + 1) (slice_set e k o.answer.pieces) o

      all : suc f + m ≡ suc (f + m)
      all = omega arith

      go : (b : Bool) → eqb o.answer.number 0 ≡ b → (cond b next (rows_out o.answer.number k e o)).number ≡ 0 → (next.number ≡ 0 → Both f (r + 1) (k + 1) (slice_set e k o.answer.pieces) o next)
          → Both (suc f) r k e g (cond b next (rows_out o.answer.number k e o))
      go true y n rest =
          let i = rest n in
          let a : r + 1 + f ≡ r + suc f = omega arith in
          let b : k + 1 + f ≡ k + suc f = omega arith in
          (i.0 ∙ b, rw all (ap (λ (t : Bool). cond t (rows_in_order row (f + m) (r + 1) (k + 1) (slice_set e k o.answer.pieces) o) (rows_out o.answer.number k e o)) y ∙ (rw (a, b) at i.1)))
      go false y n rest = absurd (eqb-false _ _ y n)

pub one-row : OneRow
unfolding rows_in_order one_more
one-row row r e d p l h g = let z : 0 + (row r d p l).answer.pieces ≡ (row r d p l).answer.pieces = omega arith in rw (h, g) (rw z refl)
