-- A recording's draws as a list of their own: the part of its words where they stand.
use Rattle.std.proofs.Common.{ℕ, suc, ◌+◌, ◌-◌, ◌*◌, ◌<◌, ◌≤◌, ◌≡◌, sym, ap, ◌∙◌, arith, add_assoc, List, length, get_or, take, drop, length-take, length-drop, get_or-take, get_or-drop, mul-suc, mul-le-mul_right}
use Rattle.std.proofs.Math.Nat.{mul_comm}
use Rattle.sizes.specs.declared.edition.Edition.{Edition}
use Rattle.sizes.specs.declared.edition.Edition.TheVariants.{One, Two}
use Rattle.sizes.specs.Editions.{draw-size}
use Rattle.rules.specs.Inputs as rules
use Rattle.inputs.specs.Inputs.{draw-of}
use Rattle.inputs.specs.Draws.{draw_at}
use Rattle.file.specs.declared.form.Layout.{Layout}
use Rattle.file.specs.Layouts.{Fits}
use Rattle.file.specs.Places.{draw_from, recorded}
use Rattle.file.proofs.Eaches.{each_at}
use Rattle.file.proofs.Heldness.{draw_few, draw_count}

-- a word of the part of m words from a on
near : (ws : List ℕ) (a m j : ℕ) → j < m → get_or (take m (drop a ws)) j 0 ≡ get_or ws (a + j) 0
near ws a m j h = get_or-take m (drop a ws) j 0 h ∙ get_or-drop a ws j 0

near-draw : (e : Edition) (ws : List ℕ) (a m p : ℕ) → p + draw-size e ≤ m → draw_at e (take m (drop a ws)) p ≡ draw_at e ws (a + p)
near-draw One ws a m p h =
    rw (add_assoc a p 1, add_assoc a p 2, add_assoc a p 3, add_assoc a p 4, add_assoc a p 5, add_assoc a p 6)
    (rw (near ws a m p (omega arith), near ws a m (p + 1) (omega arith), near ws a m (p + 2) (omega arith), near ws a m (p + 3) (omega arith), near ws a m (p + 4) (omega arith), near ws a m (p + 5) (omega arith), near ws a m (p + 6) (omega arith)))
near-draw Two ws a m p h =
    rw (add_assoc a p 1, add_assoc a p 2, add_assoc a p 3, add_assoc a p 4, add_assoc a p 5, add_assoc a p 6, add_assoc a p 7)
    (rw (near ws a m p (omega arith), near ws a m (p + 1) (omega arith), near ws a m (p + 2) (omega arith), near ws a m (p + 3) (omega arith), near ws a m (p + 4) (omega arith), near ws a m (p + 5) (omega arith), near ws a m (p + 6) (omega arith), near ws a m (p + 7) (omega arith)))

module _ (l : Layout) (ws : List ℕ) (f : Fits ws l) where
  abbrev part : List ℕ
  part = take (l.draws.at + draw-size l.edition * l.draws.count - l.draws.at) (drop l.draws.at ws)

  pub draws-width : length part ≡ draw-size l.edition * length (recorded l ws).draws
  draws-width =
      let h = f.draws.ends in
      let e = mul_comm (draw-size l.edition) l.draws.count in
      rw (draw_count l ws) (simp (length-take, length-drop) (omega arith))

  pub draws-there : (i : ℕ) (d : rules.Draw) → i < length (recorded l ws).draws
      → draw-of (draw_at l.edition part (draw-size l.edition * i)) ≡ get_or (recorded l ws).draws i d
  unfolding recorded draw_from
  draws-there i d h =
      let few = draw_few l ws f i h in
      let k = draw-size l.edition in
      let e : suc i * k ≤ l.draws.count * k = mul-le-mul_right k (omega arith) in
      let g = mul_comm (suc i) k ∙ mul-suc k i in
      let q = mul_comm k l.draws.count in
      ap draw-of (near-draw l.edition ws l.draws.at (l.draws.at + k * l.draws.count - l.draws.at) (k * i) (omega (arith, e, g, q)))
      ∙ sym (each_at (draw_from l.edition) k ws l.draws.at l.draws.count i d few)
