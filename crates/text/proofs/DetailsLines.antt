-- Details line by line. Assumes nothing.
use Rattle.std.proofs.Common.{◌≡◌, refl, sym, subst, ap, ◌∙◌, Bool, true, false, not, List, [], ◌∷◌, ◌++◌, ℕ, zero, suc, ◌+◌, ◌*◌, ◌^◌, ◌<◌, ◌≤◌, T, get_or-drop, add-zero, ℤ, nat_abs, w32, to_z, of_z}
use lib.Ieee.{Float, nan, inf, fin, is_nan, ne, binary32, to_bits}
use lib.Ieee.Compare.{nan_differs}
use Rattle.rules.specs.Lines.{number}
use Rattle.text.specs.declared.Out.{Out}
use Rattle.text.specs.Texts.{Writes, signed}
use Rattle.text.proofs.Laws.{then, nothing, read_back}
use Rattle.sizes.specs.Sizes.{filter-paint-size}
use lib.Signed.{mag}
use mir.Val.{hbits}
use Rattle.text.specs.Details.{filter-paints, paint-attr-line, layer-attr-line}
use Rattle.text.specs.Places.{joined}
use Rattle.text.proofs.Joins.{join-append, places-all}
use Rattle.text.specs.Bytes.{paint-text, layer-text, filter-text, panel-bytes, detail-bytes, details-text}
use Rattle.text.specs.Tables.{signed_word, opacity-bits, paint-attr-at, layer-attr-at, filter-at, paint-lines, layer-lines, filter-lines}

pub no_nan : (x : Float) → ne x x ≡ false → T (not (is_nan x))
unfolding is_nan
no_nan nan h = subst T (sym nan_differs ∙ h) tt
no_nan (inf s) h = tt
no_nan (fin s m e) h = tt

module _ (o : Float) (k : ℕ) where
  pub kept : ne o o ≡ true → k ≡ opacity-bits o k
  unfolding opacity-bits
  kept h = rw h

  pub plain : ne o o ≡ false → to_bits binary32 o ≡ opacity-bits o k
  unfolding opacity-bits
  plain h = rw h

-- a panel that is not shown
pub panel-left : (v : Bool) (q : ℕ) (t : Out) → v ≡ false → Writes (panel-bytes v q) t t
panel-left v q t e = rw e (nothing t)

-- a table's heading, then its lines
module _ (v : Bool) (n i : ℕ) (g : n ≤ i) (h : i ≤ n) {t u x : Out} where
  pub paint-lines-written : (ws : List ℕ) → Writes ((paint-text ++ number n) ++ (10 ∷ [])) t u
      → Writes (details-text v (joined (λ (k : ℕ). paint-attr-line (paint-attr-at ws k) ∷ []) i)) u x → Writes (details-text v (paint-lines ws n)) t x
  unfolding detail-bytes paint-lines
  paint-lines-written ws a b = then a (places-all (detail-bytes v) (λ (k : ℕ). paint-attr-line (paint-attr-at ws k) ∷ []) i n g h b)

  pub layer-lines-written : (ws : List ℕ) (os : List Float) → Writes ((layer-text ++ number n) ++ (10 ∷ [])) t u
      → Writes (details-text v (joined (λ (k : ℕ). layer-attr-line (layer-attr-at ws os k) ∷ []) i)) u x → Writes (details-text v (layer-lines ws os n)) t x
  unfolding detail-bytes layer-lines
  layer-lines-written ws os a b = then a (places-all (detail-bytes v) (λ (k : ℕ). layer-attr-line (layer-attr-at ws os k) ∷ []) i n g h b)

  pub filter-lines-written : (ws : List ℤ) → Writes ((filter-text ++ number n) ++ (10 ∷ [])) t u
      → Writes (details-text v (joined (λ (k : ℕ). filter-at ws k ∷ []) i)) u x → Writes (details-text v (filter-lines ws n)) t x
  unfolding detail-bytes filter-lines
  filter-lines-written ws a b = then a (places-all (detail-bytes v) (λ (k : ℕ). filter-at ws k ∷ []) i n g h b)

-- a filter paint's line, off its table's words, each as code reads it
abbrev pub read : List ℤ → ℕ → ℤ
read ws i = to_z w32 (of_z w32 (signed_word ws i))

module _ (ws : List ℤ) (i : ℕ) where
  abbrev k : ℕ
  k = filter-paint-size * i

  read_is : (j : ℕ) → mag (signed_word ws j) < 2 ^ hbits w32 → read ws j ≡ signed_word ws j
  read_is j h = read_back (record { sfits = h })

  pub filter-written : mag (signed_word ws k) < 2 ^ hbits w32 → mag (signed_word ws (k + 1)) < 2 ^ hbits w32 → mag (signed_word ws (k + 2)) < 2 ^ hbits w32 → mag (signed_word ws (k + 3)) < 2 ^ hbits w32
      → {a b : ℕ} {t u v x y z q : Out} → a ≡ nat_abs (read ws k) → b ≡ nat_abs (read ws (k + 1)) → Writes (70 ∷ []) t u → Writes (number a) u v → Writes (number b) v x
      → Writes (signed (read ws (k + 2))) x y → Writes (signed (read ws (k + 3))) y z → Writes (10 ∷ []) z q → Writes (detail-bytes false (filter-at ws i)) t q
  unfolding detail-bytes filter-at
  filter-written f g h j d e l m n o p r =
      simp (get_or-drop, add-zero)
      (then (then l (then (rw (d, read_is k f) at m) (then (rw (e, read_is (k + 1) g) at n) (then (rw (read_is (k + 2) h) at o) (rw (read_is (k + 3) j) at p))))) r)

-- no line of filter paints has a panel
module _ (v : Bool) (ws : List ℤ) where
  filter_alike : (i : ℕ) → detail-bytes v (filter-at ws i) ≡ detail-bytes false (filter-at ws i)
  unfolding detail-bytes filter-at
  filter_alike i = refl

  each-alike : (n : ℕ) → details-text v (joined (λ (i : ℕ). filter-at ws i ∷ []) n) ≡ details-text false (joined (λ (i : ℕ). filter-at ws i ∷ []) n)
  unfolding joined
  each-alike zero = refl
  each-alike (suc n) =
      let fs = joined (λ (i : ℕ). filter-at ws i ∷ []) n in
      rw (join-append (detail-bytes v) fs (filter-at ws n ∷ []), join-append (detail-bytes false) fs (filter-at ws n ∷ []), each-alike n, filter_alike n)

  pub filters-alike : (n : ℕ) → details-text v (filter-lines ws n) ≡ details-text false (filter-lines ws n)
  unfolding detail-bytes filter-lines
  filters-alike n = ap (λ (ts : List ℕ). detail-bytes false (filter-paints n) ++ ts) (each-alike n)
