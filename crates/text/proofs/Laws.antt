-- Text written piece by piece. Assumes nothing.
use Rattle.std.proofs.Common.{◌≡◌, refl, sym, ap, ◌∙◌, List, [], ◌∷◌, ◌++◌, append_assoc, ℕ, zero, suc, ◌+◌, ◌-◌, ◌^◌, min, ◌<◌, ◌≤◌, ◌/◌, ◌%◌, arith, add-one, ltb, ℤ, pos, negsuc, length, take, drop}
use Rattle.std.proofs.Common.{set, get_or, length-append, take_all, take-suc, true, false, w32, SFits, to_z, of_z, to_z-of_z, lt-ltb, le-ltb}
use Rattle.std.proofs.Math.Nat.{min-eq_left}
use Rattle.std.proofs.Math.Seq.{set-append_seam}
use lib.Signed.{lt_z}
use Rattle.rules.proofs.All.{never}
use Rattle.rules.specs.Lines.{digits, dash}
use Rattle.text.specs.declared.Out.{Out}
use Rattle.text.specs.Texts.{Text, text, with_byte, put, shown, Writes, sign}

put_append : (a b : List ℕ) (t : Text) → put (a ++ b) t ≡ put b (put a t)
unfolding put
put_append [] b t = refl
put_append (x ∷ a) b t = put_append a b (with_byte x t)

-- nothing, and one text after the other
pub nothing : (o : Out) → Writes [] o o
unfolding put
nothing o = record { same = refl; text = refl }

pub then : {a b : List ℕ} {t u v : Out} → Writes a t u → Writes b u v → Writes (a ++ b) t v
then {a} {b} {t} w x = record { same = x.same ∙ w.same; text = x.text ∙ ap (put b) w.text ∙ sym (put_append a b (shown t)) }

-- a text byte by byte
module _ (s : List ℕ) (i : ℕ) {t u : Out} (w : Writes (take i s) t u) where
  pub one_more : {v : Out} → i < length s → Writes (get_or s i 0 ∷ []) u v → Writes (take (i + 1) s) t v
  one_more h x = rw (add-one, take-suc s i 0 h) (then w x)

  pub all-taken : length s ≤ i → Writes s t u
  all-taken h = rw (take_all i s h) at w

-- a number digit by digit
pub no-digits : (k n : ℕ) (t : Out) → k ≡ 0 → Writes (digits k n) t t
no-digits k n t e = rw e (nothing t)

module _ (k n : ℕ) {t u : Out} (d : k ≡ 0 → ⊥) where
  pub one-digit : n < 10 → Writes ((48 + n % 10) ∷ []) t u → Writes (digits k n) t u
  one-digit h w = go k d
    where
      go : (k : ℕ) → (k ≡ 0 → ⊥) → Writes (digits k n) t u
      go zero d = absurd (d refl)
      go (suc k) d = rw (lt-ltb n 10 h) w

  pub more-digits : {v : Out} → 10 ≤ n → Writes (digits (k - 1) (n / 10)) t v → Writes ((48 + n % 10) ∷ []) v u → Writes (digits k n) t u
  more-digits {v} h x w = go k d x
    where
      go : (k : ℕ) → (k ≡ 0 → ⊥) → Writes (digits (k - 1) (n / 10)) t v → Writes (digits k n) t u
      go zero d x = absurd (d refl)
      go (suc k) d x = let e : suc k - 1 ≡ k = omega arith in rw (le-ltb n 10 h) (then (rw e at x) w)

-- a small number
module _ (n : ℕ) {t u : Out} where
  pub one_figure : n < 10 → Writes ((48 + n) ∷ []) t u → Writes (digits 10 n) t u
  one_figure h w = let e : n % 10 ≡ n = omega arith in one-digit 10 n (λ d. omega arith) h (rw e w)

  pub two_figures : {v : Out} → 10 ≤ n → n < 100 → Writes ((48 + n / 10) ∷ []) t v → Writes ((48 + n % 10) ∷ []) v u → Writes (digits 10 n) t u
  two_figures g h w x =
      let e : n / 10 % 10 ≡ n / 10 = omega arith in
      more-digits 10 n (λ d. omega arith) g (one-digit 9 (n / 10) (λ d. omega arith) (omega arith) (rw e w)) x

-- a number's sign
module _ {t u : Out} where
  pub minus : (z : ℤ) → lt_z z (pos 0) ≡ true → Writes dash t u → Writes (sign z) t u
  minus (pos n) h w = let e : ltb n 0 ≡ true = h in never (sym e ∙ le-ltb n 0 (omega arith))
  minus (negsuc n) h w = w

  pub blank : (z : ℤ) → lt_z z (pos 0) ≡ false → Writes (32 ∷ []) t u → Writes (sign z) t u
  blank (pos n) h w = w
  blank (negsuc n) h w = never h

-- a number of 32 bits as code reads it
pub read_back : {z : ℤ} → SFits w32 z → to_z w32 (of_z w32 z) ≡ z
read_back f = to_z-of_z f

-- a text after xs, where ys have room for it
filled : (ws xs ys : List ℕ) (p : ℕ) → length xs ≡ p → length ws ≤ length ys → p + length ws < 2 ^ 64
    → put ws (text (xs ++ ys) p) ≡ text (xs ++ (ws ++ drop (length ws) ys)) (p + length ws)
unfolding put
filled [] xs ys p e h g = let z : p + 0 ≡ p = omega arith in rw z
filled (w ∷ ws) xs [] p e h g = absurd (omega arith)
filled (w ∷ ws) xs (y ∷ ys) p e h g =
    let s : set (xs ++ (y ∷ ys)) p w ≡ (xs ++ (w ∷ [])) ++ ys = rw (← e, set-append_seam xs y ys w) (sym (append_assoc xs (w ∷ []) ys)) in
    let n : min (p + 1) 18446744073709551615 ≡ p + 1 = min-eq_left (omega arith) in
    let k : length (xs ++ (w ∷ [])) ≡ p + 1 = omega (arith, length-append xs (w ∷ []), e) in
    let m : p + 1 + length ws ≡ p + suc (length ws) = omega arith in
    rw (s, n) (filled ws (xs ++ (w ∷ [])) ys (p + 1) k (omega arith) (omega arith) ∙ rw (append_assoc xs (w ∷ []), m))

-- a text at the start of bytes with room for it
pub first_filled : (ws ys : List ℕ) → length ws ≤ length ys → length ws < 2 ^ 64 → put ws (text ys 0) ≡ text (ws ++ drop (length ws) ys) (length ws)
first_filled ws ys h g = let z : 0 + length ws ≡ length ws = omega arith in rw z at (filled ws [] ys 0 refl h (omega arith))

-- and how long one is that is put on no bytes
measured : (ws : List ℕ) (p : ℕ) → p + length ws < 2 ^ 64 → put ws (text [] p) ≡ text [] (p + length ws)
unfolding put
measured [] p g = let z : p + 0 ≡ p = omega arith in rw z
measured (w ∷ ws) p g =
    let n : min (p + 1) 18446744073709551615 ≡ p + 1 = min-eq_left (omega arith) in
    let m : p + 1 + length ws ≡ p + suc (length ws) = omega arith in
    rw n (measured ws (p + 1) (omega arith) ∙ rw m)

pub first_measured : (ws : List ℕ) → length ws < 2 ^ 64 → put ws (text [] 0) ≡ text [] (length ws)
first_measured ws g = let z : 0 + length ws ≡ length ws = omega arith in rw z at (measured ws 0 (omega arith))
