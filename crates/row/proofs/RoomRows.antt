-- A run of rows, judged one by one: 4 for one that is not good, then 10 for one that is full. Assumes nothing.
use Rattle.std.proofs.Common.{◌≡◌, refl, sym, ◌∙◌, Bool, true, false, cond, ◌∷◌, ℕ, suc, ◌+◌, ◌-◌, ◌≤◌, ◌<◌, arith}
use Rattle.rules.specs.Lists.{range}
use Rattle.row.specs.Room.{rows_told, Found}

one_less : (b r : ℕ) → r < b → b - r ≡ suc (b - (r + 1))
one_less b r h = omega arith

none_left : (b r : ℕ) → b ≤ r → b - r ≡ 0
none_left b r h = omega arith

next : (r : ℕ) → suc r ≡ r + 1
next r = omega arith

same-either : (g : Bool) (x : ℕ) → cond g x x ≡ x
same-either true x = refl
same-either false x = refl

-- the loop over the rows a to b, at row r, n being the number so far
pub record Going (good full : ℕ → Bool) (a b n r : ℕ) : Type 0 where
  pub found : Found n
  pub rest : rows_told good full n (range r b) ≡ rows_told good full 0 (range a b)

module _ {good full : ℕ → Bool} {a b n r : ℕ} (v : Going good full a b n r) where
  pub going_end : b ≤ r → n ≡ rows_told good full 0 (range a b)
  unfolding rows_told
  going_end h = rw (none_left b r h) at v.rest

  module _ (h : r < b) where
    first : range r b ≡ r ∷ range (r + 1) b
    first = rw (one_less b r h, next r)

    bad : good r ≡ false → rows_told good full n (r ∷ range (r + 1) b) ≡ 4
    unfolding rows_told
    bad e = rw e

    pub going-bad : good r ≡ false → 4 ≡ rows_told good full 0 (range a b)
    going-bad e = sym (bad e) ∙ (rw first at v.rest)

    -- m is the number with row r
    module _ {m : ℕ} (e : good r ≡ true) (k : m ≡ cond (full r) 10 n) where
      still : (f : Bool) → Found (cond f 10 n)
      still true = record { yet = true; is = refl }
      still false = v.found

      on : (f : Bool) → full r ≡ f → rows_told good full (cond f 10 n) (range (r + 1) b) ≡ rows_told good full n (r ∷ range (r + 1) b)
      unfolding rows_told
      on true p = rw (e, p, same-either)
      on false p = rw (e, p)

      pub going_on : Going good full a b m (r + 1)
      going_on = rw k (record { found = still (full r); rest = on (full r) refl ∙ (rw first at v.rest) })
