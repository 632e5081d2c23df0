use Rattle.std.proofs.Common.{◌≡◌, refl, sym, ◌∙◌, ℕ, zero, suc, ◌<◌, le_refl, arith}
use Rattle.depth.proofs.Marking.{mark-first, mark-done, mark-open, mark-closed}
use Rattle.compact.proofs.newest.write_unset.Goals as goal
use Rattle.compact.proofs.newest.write_unset.Goals.{then-ids-at-eq0, else-ids-at-eq0}

above_zero : (n : ℕ) → (n ≡ 0 → ⊥) → 0 < n
above_zero zero h = absurd (h refl)
above_zero (suc n) h = omega arith

pub loop-at-init : goal.loop-at-init
loop-at-init c = mark-first _ _ _ _

pub loop-at-preserved : goal.loop-at-preserved
loop-at-preserved c =
    let m = c.loop-at.invariant in
    let same = m.same _ (le_refl _) in
    elim c.if-ids-at-eq0.branch [
      | then-ids-at-eq0 w ↦ rw w.ids-is (mark-open _ _ _ _ _ _ m c.requires c.loop-at-test.true (sym same ∙ w.if-ids-at-eq0.true))
      | else-ids-at-eq0 w ↦ rw w.ids-is (mark-closed _ _ _ _ _ _ m c.requires c.loop-at-test.true (above_zero _ (λ e. w.if-ids-at-eq0.false (same ∙ e))))
    ]

pub returns : goal.returns
returns c = mark-done _ _ _ _ _ _ c.loop-at.invariant c.loop-at-test.false
