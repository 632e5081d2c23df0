-- Runs of places.
use Rattle.std.specs.Prelude.{ℕ, zero, suc, Bool, true, false, ◌&&◌, List, [], ◌++◌}
use Rattle.std.specs.Prelude.{Option, None, Some}

-- the test says yes at each place below n
unfoldable pub all-below : (ℕ → Bool) → ℕ → Bool
all-below p zero = true
all-below p (suc n) = p n && all-below p n

-- what f gives at the places below n, in order
unfoldable pub joined : {A : Type 0} → (ℕ → List A) → ℕ → List A
joined f zero = []
joined f (suc n) = joined f n ++ f n

abbrev pub is_some : {A : Type 0} → Option A → Bool
is_some None = false
is_some (Some x) = true
