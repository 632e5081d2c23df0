-- Lines read in order, the newest last: those that are told, and those that are listed. Assumes nothing.
use Rattle.std.proofs.Common.{◌≡◌, refl, ap, ◌∙◌, Bool, true, false, ◌||◌, cond, List, [], ◌∷◌, ◌++◌, ℕ, zero, suc, ◌+◌, ◌-◌, ◌≤◌, arith, length, length-append}
use Rattle.rules.specs.Lists.{some_of, keep, such}
use Rattle.tile.specs.Telling.{Line}
use Rattle.tile.specs.Listed.{line_at, lines-from, was-told, line-hides, listed-lines}

module _ {A : Type 0} (p : A → Bool) where
  pub such-append : (xs ys : List A) → such p (xs ++ ys) ≡ such p xs ++ such p ys
  such-append [] ys = refl
  such-append (x ∷ xs) ys = ap (keep (p x) x) (such-append xs ys) ∙ kept (p x)
    where
      kept : (b : Bool) → keep b x (such p xs ++ such p ys) ≡ keep b x (such p xs) ++ such p ys
      kept true = refl
      kept false = refl

  some-last : (xs : List A) (y : A) → some_of p (xs ++ y ∷ []) ≡ (some_of p xs || p y)
  some-last [] y = or_false (p y)
    where
      or_false : (b : Bool) → (b || false) ≡ b
      or_false true = refl
      or_false false = refl
  some-last (x ∷ xs) y = ap (λ (b : Bool). p x || b) (some-last xs y) ∙ assoc (p x)
    where
      assoc : (b : Bool) → (b || (some_of p xs || p y)) ≡ ((b || some_of p xs) || p y)
      assoc true = refl
      assoc false = refl

-- one more line, after the others: if it hides, it alone is listed
pub listed-last : (ls : List Line) (l : Line)
    → listed-lines (ls ++ l ∷ []) ≡ cond (line-hides l) (such was-told (l ∷ [])) (listed-lines ls ++ such was-told (l ∷ []))
unfolding listed-lines
listed-last [] l = both (line-hides l)
  where
    both : (h : Bool) → such was-told (l ∷ []) ≡ cond h (such was-told (l ∷ [])) (such was-told (l ∷ []))
    both true = refl
    both false = refl
listed-last (x ∷ xs) l = rw (some-last line-hides xs l, listed-last xs l, such-append was-told (x ∷ xs) (l ∷ [])) (go (some_of line-hides xs) (line-hides l))
  where
    go : (s h : Bool)
        → cond (s || h) (cond h (such was-told (l ∷ [])) (listed-lines xs ++ such was-told (l ∷ []))) (such was-told (x ∷ xs) ++ such was-told (l ∷ []))
        ≡ cond h (such was-told (l ∷ [])) (cond s (listed-lines xs) (such was-told (x ∷ xs)) ++ such was-told (l ∷ []))
    go true true = refl
    go true false = refl
    go false true = refl
    go false false = refl

module _ (ws : List ℕ) where
  pub lines-append : (i m k : ℕ) → lines-from ws i (m + k) ≡ lines-from ws i m ++ lines-from ws (i + m) k
  unfolding lines-from
  lines-append i zero k =
      let e : 0 + k ≡ k = omega arith in
      let f : i + 0 ≡ i = omega arith in
      rw (e, f) refl
  lines-append i (suc m) k =
      let e : (suc m) + k ≡ suc (m + k) = omega arith in
      let f : i + suc m ≡ i + 1 + m = omega arith in
      rw (e, f) (ap (λ (ls : List Line). line_at ws i ∷ ls) (lines-append (i + 1) m k))

  -- the lines from a to i that are told
  abbrev pub told-from : ℕ → ℕ → List Line
  told-from a i = such was-told (lines-from ws a (i - a))

  module _ (a i : ℕ) (h : a ≤ i) where
    pub lines_next : lines-from ws a (i + 1 - a) ≡ lines-from ws a (i - a) ++ line_at ws i ∷ []
    unfolding lines-from
    lines_next =
        let e : i + 1 - a ≡ i - a + 1 = omega arith in
        let f : a + (i - a) ≡ i = omega arith in
        rw e (lines-append a (i - a) 1 ∙ rw f)

    pub told_next : told-from a (i + 1) ≡ told-from a i ++ such was-told (line_at ws i ∷ [])
    told_next = ap (such was-told) lines_next ∙ such-append was-told (lines-from ws a (i - a)) (line_at ws i ∷ [])

    pub told-fewer : (n : ℕ) → i ≤ n → length (told-from a i) ≤ length (told-from a n)
    told-fewer n g =
        let e : n - a ≡ i - a + (n - i) = omega arith in
        let all = ap (such was-told) (ap (lines-from ws a) e ∙ lines-append a (i - a) (n - i)) ∙ such-append was-told (lines-from ws a (i - a)) (lines-from ws (a + (i - a)) (n - i)) in
        omega (arith, ap length all, length-append (told-from a i) (such was-told (lines-from ws (a + (i - a)) (n - i))))
