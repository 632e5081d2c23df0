-- Fills in order, one more at a time.
use Rattle.std.proofs.Common.{◌≡◌, refl, sym, ap, ◌∙◌, List, ℕ, suc, ◌+◌, ◌-◌, ◌*◌, ◌≤◌, ◌<◌, arith, eq-eqb, ne_eqb}
use Rattle.rules.specs.Answers.{answer}
use Rattle.sizes.specs.declared.edition.Edition.{Edition}
use Rattle.sizes.specs.Editions.{draw-size}
use Rattle.inputs.specs.Draws.{draw_at}
use Rattle.fill.specs.Fills.{FillLent, filled}
use Rattle.fill.specs.Lists.{FillsOut, draws_in, fills_out, after_done, go_on, fills_in_order}

-- the draws from i to b
abbrev pub rest : List ℕ → List ℕ → Edition → List ℕ → ℕ → ℕ → FillLent → FillsOut
rest ps ss e ws i b l = fills_in_order ps ss (draws_in e ws i (b - i)) l

module _ (ps ss : List ℕ) (e : Edition) (ws : List ℕ) (a i b : ℕ) (l : FillLent) (t : FillsOut) (so : after_done (i - a) (rest ps ss e ws i b l) ≡ t) where
  pub all_done : b ≤ i → i ≤ b → fills_out 0 (b - a) l ≡ t
  unfolding draws_in fills_in_order
  all_done h k =
      let z : b - i ≡ 0 = omega arith in
      let n : i - a + 0 ≡ b - a = omega arith in
      rw (← n) (rw z at so)

  module _ (h : i < b) (n : ℕ) (v : FillLent) (q : answer n v ≡ filled l ps ss (draw_at e ws (draw-size e * i))) where
    one : rest ps ss e ws i b l ≡ go_on (answer n v) (fills_in_order ps ss (draws_in e ws (i + 1) (b - (i + 1))))
    unfolding draws_in fills_in_order
    one = let z : b - i ≡ suc (b - (i + 1)) = omega arith in rw (z, ← q)

    -- the fill of draw i is refused
    pub stopped : (n ≡ 0 → ⊥) → fills_out n (i - a) v ≡ t
    stopped z = let k : i - a + 0 ≡ i - a = omega arith in rw (← k) (rw (one, ne_eqb n 0 z) at so)

    -- .. or done
    pub turned : a ≤ i → n ≡ 0 → after_done (i + 1 - a) (rest ps ss e ws (i + 1) b v) ≡ t
    turned r z =
        let o = rest ps ss e ws (i + 1) b v in
        let k : i + 1 - a + o.done ≡ i - a + (1 + o.done) = omega arith in
        rw k (rw (one, eq-eqb n 0 z) at so)

module _ (ps ss : List ℕ) (e : Edition) (ws : List ℕ) (a b : ℕ) (l : FillLent) where
  pub none_asked : a ≡ b → fills_out 0 (b - a) l ≡ rest ps ss e ws a b l
  unfolding draws_in fills_in_order
  none_asked h = let z : b - a ≡ 0 = omega arith in rw z refl

  -- the first is refused
  pub stopped_first : a < b → (n : ℕ) (v : FillLent) → answer n v ≡ filled l ps ss (draw_at e ws (draw-size e * a)) → (n ≡ 0 → ⊥) → fills_out n 0 v ≡ rest ps ss e ws a b l
  stopped_first h n v q k =
      let z : a - a ≡ 0 = omega arith in
      let o = rest ps ss e ws a b l in
      let y : a - a + o.done ≡ o.done = omega arith in
      ap (λ (x : ℕ). fills_out n x v) (sym z) ∙ stopped ps ss e ws a a b l o (ap (λ (x : ℕ). fills_out o.number x o.value) y) h n v q k
