-- What f gives of each element, one after the other.
use Rattle.std.proofs.Common.{◌≡◌, refl, List, [], ◌∷◌, ◌++◌, append_assoc, append-nil, ℕ, ◌+◌, ◌≤◌, add-one, arith}
use Rattle.rules.specs.Lists.{join}
use Rattle.text.specs.declared.Out.{Out}
use Rattle.text.specs.Texts.{Writes}
use Rattle.text.proofs.Laws.{then, nothing}
use Rattle.text.specs.Places.{joined}

module _ {A : Type 0} (f : A → List ℕ) where
  pub join-append : (a b : List A) → join f (a ++ b) ≡ join f a ++ join f b
  join-append [] b = refl
  join-append (x ∷ a) b = rw (join-append a b, append_assoc (f x))

  module _ {t u : Out} where
    pub one_of : (x : A) → Writes (f x) t u → Writes (join f (x ∷ [])) t u
    one_of x w = rw (append-nil (f x)) w

    module _ {v : Out} where
      pub both_of : (a b : List A) → Writes (join f a) t u → Writes (join f b) u v → Writes (join f (a ++ b)) t v
      both_of a b w x = rw (join-append a b) (then w x)

  -- place by place, the first to the last
  module _ (g : ℕ → List A) where
    pub places-none : (t : Out) → Writes (join f (joined g 0)) t t
    unfolding joined
    places-none t = nothing t

    pub places-more : (k : ℕ) {t u v : Out} → Writes (join f (joined g k)) t u → Writes (join f (g k)) u v → Writes (join f (joined g (k + 1))) t v
    unfolding joined
    places-more k w x = rw add-one (both_of (joined g k) (g k) w x)

    pub places-all : (i k : ℕ) {t u : Out} → k ≤ i → i ≤ k → Writes (join f (joined g i)) t u → Writes (join f (joined g k)) t u
    places-all i k p q w = let e : i ≡ k = omega arith in rw e at w
