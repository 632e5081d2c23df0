-- One entry more: what it does to the shown list, to the newest that hides, and to the place of an attribute.
use Rattle.std.proofs.Common.{ℕ, suc, ◌+◌, add-zero, arith, ◌≡◌, refl, sym, ◌∙◌, ap, Bool, true, false, ◌&&◌, ◌||◌, Option, None, Some, List, [], ◌∷◌, ◌++◌, length, eqb}
use mathlib.Core.Bool.{beq}
use Rattle.rules.specs.Lists.{some_of}
use Rattle.rules.specs.Plain.{Told, shown}
use Rattle.rules.proofs.All.{All, cons, never}
use Rattle.rules_picture.proofs.Cases.{by}
use Rattle.rules_picture.proofs.Shown.{hides-of}
use Rattle.rules_reason.specs.Reasons.{Asked, place_of, hider-of, newest-hider}

-- some entry hides
abbrev pub hiding : List Told → Bool
hiding ts = some_of hides-of ts

or-true : (b : Bool) → (b || true) ≡ true
or-true true = refl
or-true false = refl

pub hiding-yes : (ts : List Told) (u : Told) → u.hides ≡ true → hiding (ts ++ (u ∷ [])) ≡ true
hiding-yes [] u h = ap (λ (b : Bool). b || false) h
hiding-yes (t ∷ ts) u h = ap (λ (b : Bool). t.hides || b) (hiding-yes ts u h) ∙ or-true t.hides

pub hiding-same : (ts : List Told) (u : Told) → u.hides ≡ false → hiding (ts ++ (u ∷ [])) ≡ hiding ts
hiding-same [] u h = ap (λ (b : Bool). b || false) h
hiding-same (t ∷ ts) u h = ap (λ (b : Bool). t.hides || b) (hiding-same ts u h)

-- an entry that hides is shown alone, another after those before it
pub shown-anew : (ts : List Told) (u : Told) → u.hides ≡ true → shown (ts ++ (u ∷ [])) ≡ u ∷ []
unfolding shown
shown-anew [] u h = refl
shown-anew (t ∷ ts) u h = rw (hiding-yes ts u h) (shown-anew ts u h)

pub shown-more : (ts : List Told) (u : Told) → u.hides ≡ false → shown (ts ++ (u ∷ [])) ≡ shown ts ++ (u ∷ [])
unfolding shown
shown-more [] u h = refl
shown-more (t ∷ ts) u h = rw (hiding-same ts u h, shown-more ts u h) (by (hiding ts) (λ y. rw y) (λ n. rw n))

-- the newest that hides
pub hider-anew : (ts : List Told) (u : Told) → u.hides ≡ true → newest-hider (ts ++ (u ∷ [])) ≡ hider-of u
unfolding newest-hider
hider-anew [] u h = refl
hider-anew (t ∷ ts) u h = rw (hiding-yes ts u h) (hider-anew ts u h)

pub hider-more : (ts : List Told) (u : Told) → u.hides ≡ false → hiding ts ≡ true → newest-hider (ts ++ (u ∷ [])) ≡ newest-hider ts
unfolding newest-hider
hider-more [] u h e = never (sym e)
hider-more (t ∷ ts) u h e = rw (hiding-same ts u h) (by (hiding ts) (λ y. rw y (hider-more ts u h y)) (λ n. rw n))

-- the entries that are shown are the last
pub shown-all : {P : Told → Type 0} (ts : List Told) → All P ts → All P (shown ts)
unfolding shown
shown-all [] a = a
shown-all (t ∷ ts) (cons p a) = by (hiding ts) (λ y. rw y (shown-all ts a)) (λ n. rw n (cons p a))

module _ (a : Asked) where
  -- an entry of the asked attribute
  abbrev pub names : Told → Bool
  names t = beq t.entry.layer a.layer && eqb t.entry.attribute a.attribute

  -- no entry of the asked attribute
  abbrev pub Unnamed : List Told → Type 0
  Unnamed ts = All (λ (t : Told). names t ≡ false) ts

  pub place-first : (n p : ℕ) (ts : List Told) (u : Told) → place_of a n ts ≡ Some p → place_of a n (ts ++ (u ∷ [])) ≡ Some p
  unfolding place_of
  place-first n p [] u e = let z : ◌≡◌ {A = ℕ} 0 1 = cc in absurd (omega arith)
  place-first n p (t ∷ ts) u e = by (names t)
      (λ y. rw y (rw y at e))
      (λ m. rw m (place-first (suc n) p ts u (rw m at e)))

  pub place_none : (n : ℕ) (ts : List Told) (u : Told) → place_of a n ts ≡ None → names u ≡ false → place_of a n (ts ++ (u ∷ [])) ≡ None
  unfolding place_of
  place_none n [] u e h = rw h
  place_none n (t ∷ ts) u e h = by (names t)
      (λ y. let k : ◌≡◌ {A = Option ℕ} (Some n) None = rw y at e in let z : ◌≡◌ {A = ℕ} 0 1 = cc in absurd (omega arith))
      (λ m. rw m (place_none (suc n) ts u (rw m at e) h))

  pub place-last : (n : ℕ) (ts : List Told) (u : Told) → Unnamed ts → names u ≡ true → place_of a n (ts ++ (u ∷ [])) ≡ Some (n + length ts)
  unfolding place_of
  place-last n [] u m h = rw (h, add-zero n)
  place-last n (t ∷ ts) u (cons e m) h =
      let k : suc n + length ts ≡ n + suc (length ts) = omega arith in
      rw e (place-last (suc n) ts u m h ∙ ap (λ (i : ℕ). Some i) k)
