-- The rows that a pop looks at are all the touched ones: `pop`'s own definition is the rules'. Assumes nothing.
use Rattle.std.proofs.Common.{◌≡◌, refl, sym, ap, ◌∙◌, Bool, true, false, cond, List, [], ◌∷◌, ◌++◌, map, append-nil, ℕ, zero, suc, ◌+◌, ◌-◌, ◌/◌, ◌≤◌, ◌<◌, arith, ltb, leb, eqb, length, get_or}
use Rattle.std.proofs.Common.{leb-true, leb-false, ltb-true, ltb-false, ne_eqb}
use Rattle.rules.specs.Lists.{keep, count-from, range}
use Rattle.rules.specs.Boxes.{rows_in}
use Rattle.rules.specs.Rows.{Row}
use Rattle.rules.specs.Plans.{Layer}
use Rattle.rules.specs.Steps.{Screen, touched}
use Rattle.row.specs.Words.{Words, word, word-ops}
use Rattle.row.specs.Arena.{nowhere}
use Rattle.pop.specs.Closing.{row_of, touched-in}
use Rattle.refine_row.specs.Encode.{encode}
use Rattle.refine_layers.specs.Touched.{levels-at, Reached, Reaching}
use Rattle.refine_layers.proofs.Levels.{past-levels}

module _ (n : ℕ) (rs : List Words) where
  -- no row from a on, k of them, has n levels
  abbrev None : ℕ → ℕ → Type 0
  None a k = (i : ℕ) → a ≤ i → i < a + k → word 5 (row_of rs i) ≡ n → ⊥

  none-there : (a k : ℕ) → None a k → touched-in n rs (count-from a k) ≡ []
  unfolding touched-in
  none-there a zero h = refl
  none-there a (suc k) h = rw (ne_eqb (word 5 (row_of rs a)) n (h a (omega arith) (omega arith))) (none-there (suc a) k (λ i l g. h i (omega arith) (omega arith)))

  split_at : (a k j : ℕ) → touched-in n rs (count-from a (k + j)) ≡ touched-in n rs (count-from a k) ++ touched-in n rs (count-from (a + k) j)
  unfolding touched-in
  split_at a zero j =
      let p : 0 + j ≡ j = omega arith in
      let q : a + 0 ≡ a = omega arith in
      rw (p, q)
  split_at a (suc k) j =
      let p : suc k + j ≡ suc (k + j) = omega arith in
      let q : a + suc k ≡ suc a + k = omega arith in
      rw (p, q) (go (eqb (word 5 (row_of rs a)) n) (touched-in n rs (count-from (suc a) (k + j))) (touched-in n rs (count-from (suc a) k)) (touched-in n rs (count-from (suc a + k) j)) (split_at (suc a) k j))
    where
      go : (t : Bool) (xs ys zs : List ℕ) → xs ≡ ys ++ zs → keep t a xs ≡ keep t a ys ++ zs
      go true xs ys zs e = ap (λ (l : List ℕ). a ∷ l) e
      go false xs ys zs e = e

  module _ (m a b : ℕ) (h : (i : ℕ) → word 5 (row_of rs i) ≡ n → (i < m) × (a ≤ i) × (i < b)) where
    first_part : touched-in n rs (count-from 0 (m + b)) ≡ touched-in n rs (count-from 0 m)
    first_part = split_at 0 m b ∙ rw (none-there (0 + m) b (λ i l g e. omega (arith, (h i e).0))) (append-nil (touched-in n rs (count-from 0 m)))

    second-part : a ≤ b → touched-in n rs (count-from 0 (m + b)) ≡ touched-in n rs (count-from a (b - a))
    second-part l =
        let p : m + b ≡ a + ((b - a) + m) = omega arith in
        let q : 0 + a ≡ a = omega arith in
        rw (p, split_at 0 a ((b - a) + m), none-there 0 a (λ i l g e. omega (arith, (h i e).1)), q, split_at a (b - a) m, none-there (a + (b - a)) m (λ i l g e. omega (arith, (h i e).2)))
        (append-nil (touched-in n rs (count-from a (b - a))))

    -- the rows from a to b have all that have n levels
    window : touched-in n rs (count-from 0 m) ≡ touched-in n rs (range a b)
    unfolding touched-in
    window = go (leb a b) refl
      where
        go : (t : Bool) → leb a b ≡ t → touched-in n rs (count-from 0 m) ≡ touched-in n rs (range a b)
        go true e = sym first_part ∙ second-part (leb-true a b e)
        go false e =
            let l : b < a = leb-false a b e in
            let z : b - a ≡ 0 = omega arith in
            rw (z, none-there 0 m (λ i l g q. omega (arith, (h i q).1, (h i q).2)))

-- every row of a list is looked at
as-in : (n : ℕ) (rs : List Words) (i : ℕ) (us : List Words) → ((k : ℕ) → get_or rs (i + k) nowhere ≡ get_or us k nowhere) → touched Words word-ops n i us ≡ touched-in n rs (count-from i (length us))
unfolding touched touched-in
as-in n rs i [] h = refl
as-in n rs i (u ∷ us) h =
    let z : i + 0 ≡ i = omega arith in
    let e : get_or rs i nowhere ≡ u = rw z at (h 0) in
    rw (e, as-in n rs (suc i) us (λ k. let y : suc i + k ≡ i + suc k = omega arith in rw y (h (suc k)))) (go (eqb (word 5 u) n) (touched-in n rs (count-from (suc i) (length us))))
  where
    go : (t : Bool) (xs : List ℕ) → cond t (i ∷ xs) xs ≡ keep t i xs
    go true xs = refl
    go false xs = refl

-- the levels of a row, in its words
row-levels : (c d : ℕ) (rows : List Row) (i : ℕ) → word 5 (row_of (map (encode c d) rows) i) ≡ levels-at rows i
unfolding encode
row-levels c d [] i = refl
row-levels c d (r ∷ rs) zero = refl
row-levels c d (r ∷ rs) (suc i) = row-levels c d rs i

rows-count : (c d : ℕ) (rows : List Row) → length (map (encode c d) rows) ≡ length rows
rows-count c d [] = refl
rows-count c d (r ∷ rs) = ap suc (rows-count c d rs)

-- reading 38: of the words of a screen that steps make, the touched rows are those among the rows of the innermost layer's box
pub touched-own : (c d : ℕ) (s : Screen Row) (l : Layer) (ls : List Layer) → Reaching s → s.state.layers ≡ l ∷ ls
    → touched Words word-ops (suc (length ls)) 0 (map (encode c d) s.rows) ≡ touched-in (suc (length ls)) (map (encode c d) s.rows) (rows_in l.bounds)
touched-own c d s l ls r e =
    let n = suc (length ls) in
    let rs = map (encode c d) s.rows in
    as-in n rs 0 rs (λ k. let z : 0 + k ≡ k = omega arith in rw z)
    ∙ window n rs (length rs) (l.bounds.y0 / 4) ((l.bounds.y1 + 3) / 4) inside
  where
    inside : (i : ℕ) → word 5 (row_of (map (encode c d) s.rows) i) ≡ suc (length ls)
        → (i < length (map (encode c d) s.rows)) × (l.bounds.y0 / 4 ≤ i) × (i < (l.bounds.y1 + 3) / 4)
    inside i q =
        let q' : levels-at s.rows i ≡ suc (length ls) = sym (row-levels c d s.rows i) ∙ q in
        let b : Reached (l ∷ ls) i (levels-at s.rows i) = rw e at (r.rows i) in
        let p = b.boxed.0 (omega arith) in
        (there (ltb i (length s.rows)) refl q', p.from, p.to)
      where
        there : (t : Bool) → ltb i (length s.rows) ≡ t → levels-at s.rows i ≡ suc (length ls) → i < length (map (encode c d) s.rows)
        there true g x = rw rows-count (ltb-true i (length s.rows) g)
        there false g x = absurd (omega (arith, past-levels s.rows i (ltb-false i (length s.rows) g)))
