-- Records of a fixed size in a list of numbers.
use Rattle.std.specs.Prelude.{ℕ, zero, suc, ◌+◌, List, [], ◌∷◌}

-- n records of k numbers each from place p on, each read by f
unfoldable pub each : {A : Type 0} → (List ℕ → ℕ → A) → ℕ → List ℕ → ℕ → ℕ → List A
each f k ws p zero = []
each f k ws p (suc n) = f ws p ∷ each f k ws (p + k) n
