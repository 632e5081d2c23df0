-- What is cut away of a record, as the code looks for it.
use Rattle.std.proofs.Common.{ℕ, zero, suc, ◌+◌, ◌-◌, ◌*◌, ◌≤◌, ◌<◌, mul-zero, mul-suc, mul-le-mul_right, arith, ◌≡◌, refl, ap, ◌∙◌, Bool, true, List, [], ◌∷◌, length, take, drop, drop-drop, length-take}
use Rattle.std.specs.Prelude.{◌==◌}
use Rattle.std.proofs.lemmas.Slice.{between_to_end}
use Rattle.std.proofs.Math.Nat.{mul_comm}
use Rattle.std.specs.List.{list_all, range_with_len}
use Rattle.rules.specs.Lists.{every}
use Rattle.rules.specs.Recording.{records}
use Rattle.rules.specs.Conversions.{keeps, is_zero}
use Rattle.convert.proofs.Resized.{short}

-- a test of every word, as a chain has it
pub zeros : (r : List ℕ) → list_all (λ (w : ℕ). w == 0) r ≡ every is_zero r
zeros [] = refl
zeros (w ∷ ws) = rw (zeros ws)

-- the words past the first k are 0
pub keeps-zeros : (k : ℕ) (r : List ℕ) → every is_zero (drop k r) ≡ keeps k r
unfolding keeps
keeps-zeros zero r = refl
keeps-zeros (suc k) [] = refl
keeps-zeros (suc k) (w ∷ ws) = keeps-zeros k ws

-- .. as they are cut out
pub part-zeros : (k : ℕ) (ws : List ℕ) → k ≤ length ws → list_all (λ (w : ℕ). w == 0) (take (length ws - k) (drop k ws)) ≡ keeps k ws
part-zeros k ws h = zeros (take (length ws - k) (drop k ws)) ∙ ap (every is_zero) (between_to_end ws k (length ws) (omega arith)) ∙ keeps-zeros k ws

-- nothing is cut away of records that are no longer
pub all-short : (k m n : ℕ) (ws : List ℕ) → k ≤ m → every (keeps m) (records k n ws) ≡ true
all-short k m zero ws h = refl
all-short k m (suc n) ws h = rw (short m (take k ws) (simp length-take (omega arith)), all-short k m n (drop k ws) h)

-- a test of every place is a test of every record
module _ (test : List ℕ → Bool) (k : ℕ) (ws : List ℕ) where
  by_places : (a n : ℕ) → list_all (λ (i : ℕ). test (take (k * i + k - k * i) (drop (k * i) ws))) (range_with_len a n) ≡ every test (records k n (drop (k * a) ws))
  by_places a zero = refl
  by_places a (suc n) =
      let e : k * a + k ≡ k * (a + 1) = omega arith in
      let g : k * a + k - k * a ≡ k = omega arith in
      rw (by_places (a + 1) n, g, drop-drop k (k * a) ws, e)

  pub every-place : (n : ℕ) → list_all (λ (i : ℕ). test (take (k * i + k - k * i) (drop (k * i) ws))) (range_with_len 0 n) ≡ every test (records k n ws)
  every-place n = rw (mul-zero) at (by_places 0 n)

-- record i of n ends within the words
pub record-within : (k i n : ℕ) → i < n → k * i + k ≤ n * k
record-within k i n h =
    let e : suc i * k ≤ n * k = mul-le-mul_right k (omega arith) in
    let g = mul_comm (suc i) k ∙ mul-suc k i in
    omega (arith, e, g)
