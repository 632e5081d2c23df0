-- Sums over the tiles of a span, bucket by bucket.
use Rattle.std.proofs.Common.{◌≡◌, refl, ℕ, zero, suc, ◌+◌, ◌-◌, ◌*◌, ◌/◌, ◌≤◌, ◌<◌, min, arith, Bool, true, false, cond, List, get_or, ltb}
use Rattle.sizes.specs.declared.width.Width.{Width}
use Rattle.sizes.specs.Widths.{bucket-tiles}
use Rattle.rules.specs.Spans.{Span}
use Rattle.rules.proofs.laws.Widths.{each}
use Rattle.rules_figures.specs.Figures.{sum-to}
use Rattle.rules_figures.specs.RowFigures.{newer, over-tiles}

-- a run of equal figures
pub sum-run : (n m c : ℕ) (g : ℕ → ℕ) → ((i : ℕ) → n ≤ i → i < n + m → g i ≡ c) → sum-to (n + m) g ≡ sum-to n g + m * c
unfolding sum-to
sum-run n zero c g h = let e : n + zero ≡ n = omega arith in rw e (omega arith)
sum-run n (suc m) c g h =
    let e : n + suc m ≡ suc (n + m) = omega arith in
    let a = sum-run n m c g (λ i p q. h i p (omega arith)) in
    let z = h (n + m) (omega arith) (omega arith) in
    rw e (omega arith)

-- figures of 0 and 1 come to no more than how many they are
pub sum-few : (n : ℕ) (g : ℕ → ℕ) → ((i : ℕ) → g i ≤ 1) → sum-to n g ≤ n
unfolding sum-to
sum-few zero g h = omega arith
sum-few (suc n) g h = let a = sum-few n g h in let b = h n in omega arith

-- the tiles up to the end of a tile's bucket lie in it
pub same-bucket : (w : Width) (t i : ℕ) → t ≤ i → i < (t / bucket-tiles w + 1) * bucket-tiles w → i / bucket-tiles w ≡ t / bucket-tiles w
same-bucket w =
    each (λ m. (t i : ℕ) → t ≤ i → i < (t / m + 1) * m → i / m ≡ t / m)
    (λ t i a b. omega arith) (λ t i a b. omega arith) (λ t i a b. omega arith) w

pub further : (w : Width) (t : ℕ) → t < (t / bucket-tiles w + 1) * bucket-tiles w
further w = each (λ m. (t : ℕ) → t < (t / m + 1) * m) (λ t. omega arith) (λ t. omega arith) (λ t. omega arith) w

-- how many of a fill's tiles before the tile t are painted, and how many are hidden
module _ (w : Width) (bs : List ℕ) (id : ℕ) (s : Span) where
  abbrev pub paint-one : ℕ → ℕ
  paint-one t = cond (newer (bucket-tiles w) bs id t) 0 1

  abbrev pub hide-one : ℕ → ℕ
  hide-one t = cond (newer (bucket-tiles w) bs id t) 1 0

  pub record UpTo (t painted hidden : ℕ) : Type 0 where
    pub from : s.first ≤ t
    pub to : t ≤ s.end
    pub painted-is : painted ≡ sum-to (t - s.first) (λ k. paint-one (s.first + k))
    pub hidden-is : hidden ≡ sum-to (t - s.first) (λ k. hide-one (s.first + k))

  pub none-yet : s.first ≤ s.end → UpTo s.first 0 0
  unfolding sum-to
  none-yet h =
      let e : s.first - s.first ≡ 0 = omega arith in
      record { from = omega arith; to = h; painted-is = rw e refl; hidden-is = rw e refl }

  -- the tiles of one bucket
  module _ (t next painted hidden : ℕ) (u : UpTo t painted hidden) (below : t < s.end) (n : next ≡ min ((t / bucket-tiles w + 1) * bucket-tiles w) s.end) where
    pub on : t < next
    on = let f = further w t in omega arith

    one-bucket : (i : ℕ) → t - s.first ≤ i → i < t - s.first + (next - t) → (s.first + i) / bucket-tiles w ≡ t / bucket-tiles w
    one-bucket i a b = let f = u.from in let h = on in same-bucket w t (s.first + i) (omega arith) (omega arith)

    split : next - s.first ≡ t - s.first + (next - t)
    split = let f = u.from in let h = on in omega arith

    pub hidden-on : ltb id (get_or bs (t / bucket-tiles w) 0) ≡ true → UpTo next painted (hidden + (next - t))
    hidden-on y =
        let h = on in
        let ones = sum-run (t - s.first) (next - t) 1 (λ k. hide-one (s.first + k)) (λ i a b. rw (one-bucket i a b, y) refl) in
        let zeros = sum-run (t - s.first) (next - t) 0 (λ k. paint-one (s.first + k)) (λ i a b. rw (one-bucket i a b, y) refl) in
        let p = u.painted-is in
        let q = u.hidden-is in
        let f = u.from in
        record { from = omega arith; to = omega arith; painted-is = rw split (omega arith); hidden-is = rw split (omega arith) }

    pub painted-on : ltb id (get_or bs (t / bucket-tiles w) 0) ≡ false → UpTo next (painted + (next - t)) hidden
    painted-on y =
        let h = on in
        let zeros = sum-run (t - s.first) (next - t) 0 (λ k. hide-one (s.first + k)) (λ i a b. rw (one-bucket i a b, y) refl) in
        let ones = sum-run (t - s.first) (next - t) 1 (λ k. paint-one (s.first + k)) (λ i a b. rw (one-bucket i a b, y) refl) in
        let p = u.painted-is in
        let q = u.hidden-is in
        let f = u.from in
        record { from = omega arith; to = omega arith; painted-is = rw split (omega arith); hidden-is = rw split (omega arith) }

  one-most : (b : Bool) → cond b 0 1 ≤ 1
  one-most true = omega arith
  one-most false = omega arith

  other-most : (b : Bool) → cond b 1 0 ≤ 1
  other-most true = omega arith
  other-most false = omega arith

  pub painted-few : (n : ℕ) → sum-to n (λ k. paint-one (s.first + k)) ≤ n
  painted-few n = sum-few n (λ k. paint-one (s.first + k)) (λ i. one-most (newer (bucket-tiles w) bs id (s.first + i)))

  pub hidden-few : (n : ℕ) → sum-to n (λ k. hide-one (s.first + k)) ≤ n
  hidden-few n = sum-few n (λ k. hide-one (s.first + k)) (λ i. other-most (newer (bucket-tiles w) bs id (s.first + i)))

  pub painted-short : {t painted hidden : ℕ} → UpTo t painted hidden → painted ≤ t - s.first
  painted-short {t} u = rw u.painted-is (painted-few (t - s.first))

  pub hidden-short : {t painted hidden : ℕ} → UpTo t painted hidden → hidden ≤ t - s.first
  hidden-short {t} u = rw u.hidden-is (hidden-few (t - s.first))

  -- with no tile left all are counted
  pub at-end : {t painted hidden : ℕ} → UpTo t painted hidden → s.end ≤ t
      → (painted ≡ over-tiles s paint-one) × (hidden ≡ over-tiles s hide-one)
  at-end {t} u h =
      let a = u.to in
      let e : t ≡ s.end = omega arith in
      (rw e at u.painted-is, rw e at u.hidden-is)
