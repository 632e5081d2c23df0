-- Laws of steps one after another.
use Rattle.std.proofs.Common.{ℕ, suc, ◌+◌, ◌-◌, ◌≤◌, ◌<◌, add-one, arith, ◌≡◌, refl, Bool, true, false, List, [], ◌∷◌, length, get_or, drop-cons, eqb, eq-eqb, ne_eqb, eqb-true}
use Rattle.rules.specs.Lists.{slice}
use Rattle.rules.specs.Answers.{Answer, answer}
use Rattle.rules.specs.Walk.{◌then◌, when, each, go_on}

module _ {S : Type 0} where
  -- what a first step gave: the number n and the state v
  module _ (f g : S → Answer S) (s : S) (n : ℕ) (v : S) (e : answer n v ≡ f s) where
    pub stopped : (n ≡ 0 → ⊥) → answer n v ≡ (f then g) s
    unfolding ◌then◌
    stopped h = rw (← e, ne_eqb n 0 h)

    pub onward : n ≡ 0 → (f then g) s ≡ g v
    unfolding ◌then◌
    onward h = rw (← e, eq-eqb n 0 h)

  idle : (t : Bool) (a : Answer S) → eqb a.number 0 ≡ t → go_on t a (λ (s : S). answer 0 s) ≡ a
  idle true a h = let e = eqb-true a.number 0 h in rw (← e)
  idle false a h = refl

  -- a step that is left out
  pub then-none : (f g : S → Answer S) (s : S) → (f then when false g) s ≡ f s
  unfolding ◌then◌ when
  then-none f g s = idle _ (f s) refl

  pub none_then : (f g : S → Answer S) (s : S) → (when false f then g) s ≡ g s
  unfolding ◌then◌ when
  none_then f g s = refl

  module _ {A : Type 0} (f : A → S → Answer S) (xs : List A) (i b : ℕ) (s : S) where
    no_more : b ≤ i → slice i b xs ≡ []
    no_more h = let e : b - i ≡ 0 = omega arith in rw e

    pub ended : b ≤ i → each f (slice i b xs) s ≡ answer 0 s
    unfolding each
    ended h = rw (no_more h)

    module _ (d : A) (h : i < b) (k : b ≤ length xs) where
      one_more : slice i b xs ≡ get_or xs i d ∷ slice (i + 1) b xs
      one_more =
          let e : b - i ≡ suc (b - (i + 1)) = omega arith in
          rw (e, drop-cons xs i d (omega arith), add-one i)

      module _ (n : ℕ) (v : S) (e : answer n v ≡ f (get_or xs i d) s) where
        pub refused : (n ≡ 0 → ⊥) → answer n v ≡ each f (slice i b xs) s
        unfolding each
        refused z = rw one_more (stopped (f (get_or xs i d)) (each f (slice (i + 1) b xs)) s n v e z)

        pub turned : n ≡ 0 → each f (slice i b xs) s ≡ each f (slice (i + 1) b xs) v
        unfolding each
        turned z = rw one_more (onward (f (get_or xs i d)) (each f (slice (i + 1) b xs)) s n v e z)
