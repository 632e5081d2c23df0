-- Totals: a figure of a total is the sum of that figure, every tile is accounted for in it, and it stays small.
use Rattle.std.proofs.Common.{ℕ, ◌+◌, ◌*◌, ◌≤◌, arith, ◌≡◌, refl, ◌∙◌, ap, List, [], ◌∷◌, ◌++◌, map, length, get_or}
use Rattle.std.proofs.Math.Nat.{add_assoc, add-zero, zero-add}
use Rattle.rules.proofs.All.{All, nil, cons}
use Rattle.rules_figures.specs.Figures.{sum-to, sum-of, Figures, nothing, plus, total}
use Rattle.rules_figures.specs.Accounted.{Totals-accounted, Small, Totals-small}
use Rattle.rules_figures.proofs.Tallies.{sum-listed}

-- of a figure that is 0 of nothing and adds up
module _ (p : Figures → ℕ) (none : p nothing ≡ 0) (adds : (a b : Figures) → p (plus a b) ≡ p a + p b) where
  pub total-of : {A : Type 0} (h : A → Figures) (xs : List A) → p (total (map h xs)) ≡ sum-of (map (λ (x : A). p (h x)) xs)
  unfolding total sum-of
  total-of h [] = none
  total-of h (x ∷ xs) = adds (h x) (total (map h xs)) ∙ ap (λ (n : ℕ). p (h x) + n) (total-of h xs)

  pub total-listed : {A : Type 0} (h : A → Figures) (d : A) (xs : List A) → p (total (map h xs)) ≡ sum-to (length xs) (λ i. p (h (get_or xs i d)))
  total-listed {A} h d xs = total-of h xs ∙ sum-listed (λ (x : A). p (h x)) d xs

pub totals-accounted : Totals-accounted
unfolding total
totals-accounted [] nil = refl
totals-accounted (g ∷ gs) (cons e a) = let h = totals-accounted gs a in omega arith

-- n figures of less than 2^31 each
record Most (n : ℕ) (a : Figures) : Type 0 where
  asked : a.asked ≤ n * 2147483647
  painted : a.painted ≤ n * 2147483647
  hidden : a.hidden ≤ n * 2147483647
  commands : a.commands ≤ n * 2147483647
  fills : a.fills ≤ n * 2147483647
  refused : a.refused ≤ n

total-most : (gs : List Figures) → All Small gs → Most (length gs) (total gs)
unfolding total
total-most [] nil = record { asked = omega arith; painted = omega arith; hidden = omega arith; commands = omega arith; fills = omega arith; refused = omega arith }
total-most (g ∷ gs) (cons s a) =
    let h = total-most gs a in
    let sa = s.asked in let sp = s.painted in let sh = s.hidden in let sc = s.commands in let sf = s.fills in let sr = s.refused in
    let ha = h.asked in let hp = h.painted in let hh = h.hidden in let hc = h.commands in let hf = h.fills in let hr = h.refused in
    record { asked = omega arith; painted = omega arith; hidden = omega arith; commands = omega arith; fills = omega arith; refused = omega arith }

pub totals-small : Totals-small
totals-small gs n a =
    let h = total-most gs a in
    let ha = h.asked in let hp = h.painted in let hh = h.hidden in let hc = h.commands in let hf = h.fills in let hr = h.refused in
    record { asked = omega arith; painted = omega arith; hidden = omega arith; commands = omega arith; fills = omega arith; refused = omega arith }

-- a total and one more
pub total-more : (gs : List Figures) (g : Figures) → total (gs ++ (g ∷ [])) ≡ plus (total gs) g
unfolding total
total-more [] g =
    rw (
      add-zero g.asked,
      add-zero g.painted,
      add-zero g.hidden,
      add-zero g.commands,
      add-zero g.fills,
      add-zero g.refused,
      zero-add g.asked,
      zero-add g.painted,
      zero-add g.hidden,
      zero-add g.commands,
      zero-add g.fills,
      zero-add g.refused,
    )
    refl
total-more (x ∷ gs) g =
    let t = total gs in
    rw (
      total-more gs g,
      add_assoc x.asked t.asked g.asked,
      add_assoc x.painted t.painted g.painted,
      add_assoc x.hidden t.hidden g.hidden,
      add_assoc x.commands t.commands g.commands,
      add_assoc x.fills t.fills g.fills,
      add_assoc x.refused t.refused g.refused,
    )
    refl
