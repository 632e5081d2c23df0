-- Proofs by the two values of a test, and the laws of `covers`.
use Rattle.std.proofs.Common.{ℕ, ◌≤◌, ◌<◌, ◌≡◌, refl, sym, Bool, true, false, ◌&&◌, leb, leb-true, ltb-true, le-leb, lt-ltb}
use Rattle.rules.specs.Spans.{Span, covers}
use Rattle.rules.proofs.All.{and_left, and_right}

pub by : {C : Type 0} (b : Bool) → (b ≡ true → C) → (b ≡ false → C) → C
by true y n = y refl
by false y n = n refl

-- two tests that pass together are one
pub same_test : (a b : Bool) → (a ≡ true → b ≡ true) → (b ≡ true → a ≡ true) → a ≡ b
same_test true b f g = sym (f refl)
same_test false true f g = g refl
same_test false false f g = refl

pub not-passed : (a : Bool) → (a ≡ true → ⊥) → a ≡ false
not-passed true f = absurd (f refl)
not-passed false f = refl

pub and-missed : (a b : Bool) → a ≡ true → (a && b) ≡ false → b ≡ false
and-missed a b p n = rw p at n

module _ (s : Span) (t : ℕ) where
  pub covers-yes : s.first ≤ t → t < s.end → covers s t ≡ true
  covers-yes p q = rw (le-leb s.first t p, lt-ltb t s.end q)

  pub covers_low : covers s t ≡ true → s.first ≤ t
  covers_low e = leb-true s.first t (and_left _ _ e)

  pub covers_high : covers s t ≡ true → t < s.end
  covers_high e = ltb-true t s.end (and_right (leb s.first t) _ e)

  -- missed by either end
  pub covers-no : (s.first ≤ t → t < s.end → ⊥) → covers s t ≡ false
  covers-no f = not-passed _ (λ e. f (covers_low e) (covers_high e))
