-- What the summary's definitions say of each way through the code. Assumes nothing.
use Rattle.std.proofs.Common.{◌≡◌, refl, Bool, true, false, ◌||◌}

pub or-true : (a : Bool) → (a || true) ≡ true
or-true true = refl
or-true false = refl
