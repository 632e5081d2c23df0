-- A loop over the rows from a to b that acts on the touched ones. Assumes nothing.
use Rattle.std.proofs.Common.{◌≡◌, ap, ◌∙◌, Bool, true, false, List, [], ◌∷◌, map, ℕ, ◌+◌, ◌-◌, ◌≤◌, ◌<◌, arith, eqb}
use Rattle.rules.specs.Lists.{keep, change, range}
use Rattle.rules.specs.Plans.{Act, on}
use Rattle.rules.specs.Steps.{do-puts}
use Rattle.rules.proofs.All.{All, nil, cons, head, tail}
use Rattle.rules.proofs.laws.Changes.{change-else}
use Rattle.row.specs.Words.{Words, word}
use Rattle.row.specs.Arena.{nowhere}
use Rattle.row.specs.Acts.{acted}
use Rattle.pop.specs.Closing.{row_of, touched-in, done-puts}
use Rattle.pop.proofs.Touched.{range-first, range-end, all-range, all-touched, touched_none, touched-cons, touched-later}

-- the loop at row r, on its way from the rows `start`; P is what the act asks of a row
pub record Going (t : Act) (P : Words → Type 0) (v m n a b : ℕ) (start : List Words) (r : ℕ) (now : List Words) : Type 0 where
  pub ready : All (λ (x : ℕ). P (row_of now x)) (touched-in n now (range r b))
  pub rest : done-puts v m (map (on t) (touched-in n now (range r b))) now ≡ done-puts v m (map (on t) (touched-in n start (range a b))) start

module _ {t : Act} {P : Words → Type 0} {v m n a b : ℕ} {start : List Words} {r : ℕ} {now : List Words} (g : Going t P v m n a b start r now) where
  pub going_done : b ≤ r → now ≡ done-puts v m (map (on t) (touched-in n start (range a b))) start
  unfolding do-puts
  going_done h = rw (range-end r b h, touched_none) at g.rest

  module _ (h : r < b) where
    next : touched-in n now (range r b) ≡ keep (eqb (word 5 (row_of now r)) n) r (touched-in n now (range (r + 1) b))
    next = ap (touched-in n now) (range-first r b h) ∙ touched-cons n now r (range (r + 1) b)

    one : touched-in n now (r ∷ []) ≡ keep (eqb (word 5 (row_of now r)) n) r []
    one = touched-cons n now r [] ∙ ap (keep (eqb (word 5 (row_of now r)) n) r) (touched_none n now)

    ready-next : All (λ (x : ℕ). P (row_of now x)) (keep (eqb (word 5 (row_of now r)) n) r (touched-in n now (range (r + 1) b)))
    ready-next = rw next at g.ready

    pub going-here : All (λ (x : ℕ). P (row_of now x)) (touched-in n now (r ∷ []))
    going-here = rw one (go (eqb (word 5 (row_of now r)) n) ready-next)
      where
        go : (k : Bool) → All (λ (x : ℕ). P (row_of now x)) (keep k r (touched-in n now (range (r + 1) b))) → All (λ (x : ℕ). P (row_of now x)) (keep k r [])
        go true p = cons (head p) nil
        go false p = nil

    later : All (λ (x : ℕ). (r + 1 ≤ x) × (x < b)) (range (r + 1) b)
    later = all-range (r + 1) b

    -- a row that is not r stays as it was
    kept : {xs : List ℕ} → All (λ (x : ℕ). P (row_of now x)) xs → All (λ (x : ℕ). ((r + 1 ≤ x) × (x < b)) × (word 5 (row_of now x) ≡ n)) xs
        → All (λ (x : ℕ). P (row_of (change (acted v m t) r now) x)) xs
    kept nil q = nil
    kept (cons {x} p ps) (cons q qs) =
        let k : P (row_of (change (acted v m t) r now) x) = rw (change-else (acted v m t) r x now nowhere (λ (z : r ≡ x). omega (arith, q.0.0))) p in
        cons k (kept ps qs)

    pub going_on : {u : List Words} → u ≡ done-puts v m (map (on t) (touched-in n now (r ∷ []))) now → Going t P v m n a b start (r + 1) u
    unfolding do-puts
    going_on {u} e = go (eqb (word 5 (row_of now r)) n) ready-next (rw next at g.rest) (rw one at e)
      where
        go : (k : Bool) → All (λ (x : ℕ). P (row_of now x)) (keep k r (touched-in n now (range (r + 1) b)))
            → done-puts v m (map (on t) (keep k r (touched-in n now (range (r + 1) b)))) now ≡ done-puts v m (map (on t) (touched-in n start (range a b))) start
            → u ≡ done-puts v m (map (on t) (keep k r [])) now
            → Going t P v m n a b start (r + 1) u
        go false p q i = rw i (record { ready = p; rest = q })
        go true p q i =
            let same : touched-in n (change (acted v m t) r now) (range (r + 1) b) ≡ touched-in n now (range (r + 1) b) = touched-later n now (acted v m t) r (b - (r + 1)) (r + 1) (omega arith) in
            rw i
            (record {
              ready = rw same (kept (tail p) (all-touched n now later));
              rest = rw same q;
            })
