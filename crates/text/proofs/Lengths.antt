-- How long lines are at most. Assumes nothing.
use Rattle.std.proofs.Common.{Bool, true, false, cond, List, [], ◌∷◌, ◌++◌, Option, None, Some, ℕ, zero, suc, ◌+◌, ◌*◌, ◌/◌, ◌%◌, ◌≤◌, arith, ltb, length, length-append}
use Rattle.rules.specs.Lists.{join}
use Rattle.rules.specs.Spans.{Span}
use Rattle.rules.specs.Lines.{Line, header, row, D, P, L, B, E, refused, digits, number, alpha-bytes, fill-bytes, span-bytes, buckets-text, ids-text, depth-text, render-text, line-text, line-bytes}

-- one text after the other
pub plus : {a b : ℕ} (xs ys : List ℕ) → length xs ≤ a → length ys ≤ b → length (xs ++ ys) ≤ a + b
plus xs ys h g = rw (length-append xs ys) (omega (arith, h, g))

pub digits-few : (k n : ℕ) → length (digits k n) ≤ k
digits-few zero n = omega arith
digits-few (suc k) n = go (ltb n 10) (digits-few k (n / 10))
  where
    go : (b : Bool) → length (digits k (n / 10)) ≤ k → length (cond b [] (digits k (n / 10)) ++ ((48 + n % 10) ∷ [])) ≤ suc k
    go true h = omega arith
    go false h = rw (length-append (digits k (n / 10)) ((48 + n % 10) ∷ [])) (omega (arith, h))

pub number-few : (n : ℕ) → length (number n) ≤ 11
number-few n = omega (arith, digits-few 10 n)

pub alpha-few : (x : Option ℕ) → length (alpha-bytes x) ≤ 11
alpha-few None = omega arith
alpha-few (Some a) = number-few a

span-few : (s : Option Span) → length (span-bytes s) ≤ 22
span-few None = omega arith
span-few (Some s) = plus {a = 11} {b = 11} (number s.first) (number s.end) (number-few s.first) (number-few s.end)

fill-few : (a b : ℕ) (x : Option ℕ) (i : ℕ) → length (fill-bytes a b x i) ≤ 44
fill-few a b x i =
    plus {a = 11} {b = 33} (number a) (number b ++ (alpha-bytes x ++ number i)) (number-few a)
    (plus {a = 11} {b = 22} (number b) (alpha-bytes x ++ number i) (number-few b) (plus {a = 11} {b = 11} (alpha-bytes x) (number i) (alpha-few x) (number-few i)))

text-few : (l : Line) → length (line-text l) ≤ 49
text-few (header r b n) =
    let h = plus {a = 11} {b = 15} (number b) (ids-text ++ number n) (number-few b) (omega (arith, number-few n)) in
    let g = plus {a = 11} {b = 34} (number r) (buckets-text ++ (number b ++ (ids-text ++ number n))) (number-few r) (omega (arith, h)) in
    omega (arith, g)
text-few (row i d r) =
    let h = plus {a = 11} {b = 18} (number d) (render-text ++ number r) (number-few d) (omega (arith, number-few r)) in
    let g = plus {a = 11} {b = 35} (number i) (depth-text ++ (number d ++ (render-text ++ number r))) (number-few i) (omega (arith, h)) in
    omega (arith, g)
text-few (D a b i) =
    let h = plus {a = 11} {b = 22} (number a) (number b ++ number i) (number-few a) (plus {a = 11} {b = 11} (number b) (number i) (number-few b) (number-few i)) in
    omega (arith, h)
text-few (P a b x i) = omega (arith, fill-few a b x i)
text-few (L a b x i) = omega (arith, fill-few a b x i)
text-few (B s) = omega (arith, span-few s)
text-few E = omega arith
text-few (refused n) = omega (arith, number-few n)

pub line-few : (l : Line) → length (line-bytes l) ≤ 64
unfolding line-bytes
line-few l = rw (length-append (line-text l) (10 ∷ [])) (omega (arith, text-few l))

-- lines of at most m bytes
pub join-few : {A : Type 0} (f : A → List ℕ) (m : ℕ) → ((x : A) → length (f x) ≤ m) → (xs : List A) → length (join f xs) ≤ length xs * m
join-few f m h [] = omega arith
join-few f m h (x ∷ xs) = rw (length-append (f x) (join f xs)) (omega (arith, h x, join-few f m h xs))
