-- An opacity's word and its f32.
use Rattle.std.proofs.Common.{ℕ, suc, ◌<◌, ◌≤◌, ◌*◌, ◌/◌, ◌%◌, ◌^◌, mul-one, one-mul, arith, ◌≡◌, refl, sym, subst, ◌∙◌, Bool, true, false, ◌||◌, not, Option, None, Some, T, eqb, pow_pos, ℤ, pos}
use Rattle.std.proofs.Common.{negsuc, le-ltb, lt-ltb, eq-eqb, ne_eqb, eqb-true}
use native.Mathlib.Nat.{mul-div_cancel_left}
use mathlib.Core.Bool.{beq}
use lib.Count.{count_trailing_zeros}
use lib.Ieee.{Float, nan, inf, fin, binary32, of_bits, to_bits, of_fields, odd, span, climb, size, div, is_nan, nan_bits, eq, ne, up, down, low}
use lib.Ieee.Bits.{nan_bits_is, nan_bits_above, to_bits-of_bits}
use Rattle.rules.proofs.All.{both}
use Rattle.rules.specs.Inputs as rule
use Rattle.rules.specs.Inputs.{needs-buffer}
use Rattle.rules.specs.Lists.{is_none}
use Rattle.walk.specs.Reading.{float_1, clip_in, present, props_in, buffered}

pub zero_by_zero : div binary32 (of_bits binary32 0) (of_bits binary32 0) ≡ nan
unfolding div of_bits of_fields odd span climb
zero_by_zero = refl

pub only_nan : (v : Float) → is_nan v ≡ true → v ≡ nan
unfolding is_nan
only_nan nan h = refl
only_nan (inf s) h = absurd (subst (λ (b : Bool). T (not b)) h tt)
only_nan (fin s m e) h = absurd (subst (λ (b : Bool). T (not b)) h tt)

-- a pattern is a NaN's, or not
module _ (n : ℕ) where
  pub no_nan : n % 2147483648 ≤ 2139095040 → nan_bits binary32 n ≡ false
  no_nan h = rw (nan_bits_above binary32 n, le-ltb 2139095040 (n % 2147483648) h)

  pub a_nan : 2139095040 < n % 2147483648 → nan_bits binary32 n ≡ true
  a_nan h = rw (nan_bits_above binary32 n, lt-ltb 2139095040 (n % 2147483648) h)

  pub by_division : nan_bits binary32 n ≡ true → nan ≡ of_bits binary32 n
  by_division h = sym (only_nan (of_bits binary32 n) (sym (nan_bits_is binary32 n) ∙ h))

is_one : float_1 ≡ fin false 1 (pos 0)
unfolding of_bits of_fields odd span climb count_trailing_zeros
is_one = refl

down_pos : (e : ℤ) → 0 < down e
down_pos (pos k) = omega arith
down_pos (negsuc k) = pow_pos (suc k)

one-bits : to_bits binary32 (fin false 1 (pos 0)) ≡ 1065353216
unfolding to_bits size span climb
one-bits = refl

-- what equals 1.0 has its pattern
one-units : (m : ℕ) (e : ℤ) → m * up e * 1 ≡ 1 * down e → m * up e * 2 ^ low binary32 / down e ≡ 1 * 2 ^ low binary32 / 1
one-units m e h =
    let a : m * up e ≡ down e = sym (mul-one (m * up e)) ∙ h ∙ one-mul (down e) in
    rw a (mul-div_cancel_left (2 ^ low binary32) (down_pos e))

by_sign : (s : Bool) (m : ℕ) (e : ℤ) → m * up e * 1 ≡ 1 * down e → (beq s false || eqb (m * up e * 1) 0) ≡ true → s ≡ false
by_sign false m e h q = refl
by_sign true m e h q = let z = eqb-true (m * up e * 1) 0 q in let p = down_pos e in absurd (omega arith)

other : {n : ℕ} → n ≡ 1065353216 → eq (of_bits binary32 n) (fin false 1 (pos 0)) ≡ false → ⊥
unfolding eq
other {n} e h =
    let z : ◌≡◌ {A = Bool} true false = sym (rw (e, is_one)) ∙ h in
    let y : ◌≡◌ {A = ℕ} 0 1 = cc in omega arith

module _ (m : ℕ) (e : ℤ) (s : Bool) (h : eq (fin s m e) (fin false 1 (pos 0)) ≡ true) where
  same_size : m * up e * 1 ≡ 1 * down e
  unfolding eq
  same_size = eqb-true (m * up e * 1) (1 * down e) (both (eqb (m * up e * 1) (1 * down e)) _ h).0

  same_sign : s ≡ false
  unfolding eq
  same_sign =
      let q = both (eqb (m * up e * 1) (1 * down e)) _ h in
      by_sign s m e same_size q.1

  one-pattern : to_bits binary32 (fin s m e) ≡ 1065353216
  unfolding to_bits
  one-pattern = rw (same_sign, one-units m e same_size) one-bits

by_value : (v : Float) → eq v (fin false 1 (pos 0)) ≡ true → to_bits binary32 v ≡ 1065353216
unfolding eq
by_value nan h = let z : ◌≡◌ {A = ℕ} 0 1 = cc in absurd (omega arith)
by_value (inf s) h = let z : ◌≡◌ {A = ℕ} 0 1 = cc in absurd (omega arith)
by_value (fin s m e) h = one-pattern m e s h

not-nan : (v : Float) → eq v (fin false 1 (pos 0)) ≡ true → T (not (is_nan v))
unfolding eq is_nan
not-nan nan h = let z : ◌≡◌ {A = ℕ} 0 1 = cc in absurd (omega arith)
not-nan (inf s) h = tt
not-nan (fin s m e) h = tt

-- no other pattern of an f32 is equal to 1.0
module _ (n : ℕ) (small : n < 4294967296) where
  by-test : (t : Bool) → eq (of_bits binary32 n) (fin false 1 (pos 0)) ≡ t → not t ≡ not (eqb n 1065353216)
  by-test true h =
      let e : n ≡ 1065353216 = sym (to_bits-of_bits binary32 n small (not-nan (of_bits binary32 n) h)) ∙ by_value (of_bits binary32 n) h in
      rw (eq-eqb n 1065353216 e)
  by-test false h = rw (ne_eqb n 1065353216 (λ e. other e h))

  pub one_only : ne (of_bits binary32 n) float_1 ≡ not (eqb n 1065353216)
  unfolding ne
  one_only = rw is_one (by-test _ refl)

without : (c : Option rule.Clip) → present (clip_in c) ≡ not (is_none c)
without None = refl
without (Some c) = refl

-- rule 2, by the file's bits
pub buffered-by-bits : (p : rule.Props) → p.opacity < 4294967296 → buffered (props_in p) ≡ needs-buffer p
buffered-by-bits p h = rw (one_only p.opacity h, without p.clip)
