-- A record in another size: its length, its words, and back.
use Rattle.std.proofs.Common.{ℕ, zero, suc, ◌≤◌, arith, ◌≡◌, refl, sym, ap, Bool, true, false, ◌&&◌, List, [], ◌∷◌, length, get_or, eqb, eqb-true}
use Rattle.rules.specs.Lists.{every}
use Rattle.rules.specs.Conversions.{resized, is_zero, keeps}
use Rattle.rules.proofs.All.{both}

and-true : (b : Bool) → (b && true) ≡ b
and-true true = refl
and-true false = refl

pub resized-length : (k : ℕ) (r : List ℕ) → length (resized k r) ≡ k
unfolding resized
resized-length zero r = refl
resized-length (suc k) [] = ap suc (resized-length k [])
resized-length (suc k) (w ∷ ws) = ap suc (resized-length k ws)

-- a record of the size itself stays
pub resized-same : (r : List ℕ) → resized (length r) r ≡ r
unfolding resized
resized-same [] = refl
resized-same (w ∷ ws) = rw (resized-same ws)

nothing-lost : (k : ℕ) → keeps k [] ≡ true
unfolding keeps
nothing-lost zero = refl
nothing-lost (suc k) = refl

-- nothing is cut away of a record that is no longer
pub short : (k : ℕ) (r : List ℕ) → length r ≤ k → keeps k r ≡ true
unfolding keeps
short zero [] h = refl
short zero (w ∷ ws) h = absurd (omega arith)
short (suc k) [] h = refl
short (suc k) (w ∷ ws) h = short k ws (omega arith)

all-zero : (r : List ℕ) → every is_zero r ≡ true → (i : ℕ) → 0 ≡ get_or r i 0
all-zero [] h i = refl
all-zero (w ∷ ws) h zero = sym (eqb-true w 0 (both (is_zero w) (every is_zero ws) h).0)
all-zero (w ∷ ws) h (suc i) = all-zero ws (both (is_zero w) (every is_zero ws) h).1 i

-- where nothing but 0 is cut away every word is read as before, words that are not there as 0
pub words-read : (k i : ℕ) (r : List ℕ) → keeps k r ≡ true → get_or (resized k r) i 0 ≡ get_or r i 0
unfolding resized keeps
words-read zero i r h = all-zero r h i
words-read (suc k) zero [] h = refl
words-read (suc k) (suc i) [] h = words-read k i [] (nothing-lost k)
words-read (suc k) zero (w ∷ ws) h = refl
words-read (suc k) (suc i) (w ∷ ws) h = words-read k i ws h

zeros-back : (r : List ℕ) → every is_zero r ≡ true → resized (length r) [] ≡ r
unfolding resized
zeros-back [] h = refl
zeros-back (w ∷ ws) h =
    let b = both (is_zero w) (every is_zero ws) h in
    rw (zeros-back ws b.1, eqb-true w 0 b.0)

-- .. and the record goes back to what it was, ..
pub resized-back : (k : ℕ) (r : List ℕ) → keeps k r ≡ true → resized (length r) (resized k r) ≡ r
unfolding resized keeps
resized-back zero r h = zeros-back r h
resized-back (suc k) [] h = refl
resized-back (suc k) (w ∷ ws) h = rw (resized-back k ws h)

only-zeros : (k : ℕ) → every is_zero (resized k []) ≡ true
unfolding resized
only-zeros zero = refl
only-zeros (suc k) = only-zeros k

-- .. with nothing but 0 cut away
pub keeps-back : (k : ℕ) (r : List ℕ) → keeps (length r) (resized k r) ≡ true
unfolding resized keeps
keeps-back zero [] = refl
keeps-back zero (w ∷ ws) = refl
keeps-back (suc k) [] = only-zeros (suc k)
keeps-back (suc k) (w ∷ ws) = keeps-back k ws

-- the one word that is cut away
pub last-kept : (k : ℕ) (r : List ℕ) → length r ≡ suc k → keeps k r ≡ eqb (get_or r k 0) 0
unfolding keeps
last-kept zero (w ∷ []) h = and-true (eqb w 0)
last-kept zero (w ∷ v ∷ ws) h = absurd (omega arith)
last-kept zero [] h = absurd (omega arith)
last-kept (suc k) [] h = absurd (omega arith)
last-kept (suc k) (w ∷ ws) h = last-kept k ws (omega arith)
