-- Laws of a bucket's width: what holds at 16, 32 and 64 tiles holds at each width. Assumes nothing.
use Rattle.std.proofs.Common.{◌≡◌, refl, ℕ, zero, suc, ◌+◌, ◌-◌, ◌*◌, ◌/◌, ◌%◌, ◌≤◌, ◌<◌, arith, ltb, lt-ltb, le-ltb}
use Rattle.sizes.specs.Sizes.{tile-end}
use Rattle.sizes.specs.declared.width.Width.{Width}
use Rattle.sizes.specs.declared.width.Width.TheVariants.{W64, W128, W256}
use Rattle.sizes.specs.Widths.{bucket-tiles}
use Rattle.rules.specs.Split.{raised, lowered}

-- by cases, so that `omega` sees a number of tiles
pub each : (P : ℕ → Type 0) → P 16 → P 32 → P 64 → (w : Width) → P (bucket-tiles w)
each P a b c W64 = a
each P a b c W128 = b
each P a b c W256 = c

same_test : (a b n : ℕ) → (0 < n → a < b) → (n ≡ 0 → b ≤ a) → ltb a b ≡ ltb 0 n
same_test a b zero h g = rw (le-ltb a b (g refl))
same_test a b (suc n) h g = rw (lt-ltb a b (h (omega arith)), lt-ltb 0 (suc n) (omega arith))

module _ (w : Width) where
  -- a bucket has a tile, and at most 64
  pub bucket-some : 0 < bucket-tiles w
  bucket-some = each (λ w. 0 < w) (omega arith) (omega arith) (omega arith) w

  pub bucket-most : bucket-tiles w ≤ 64
  bucket-most = each (λ w. w ≤ 64) (omega arith) (omega arith) (omega arith) w

  -- a tile's bucket is no greater than the tile
  pub below-small : (x : ℕ) → x / bucket-tiles w ≤ x
  below-small x = each (λ w. x / w ≤ x) (omega arith) (omega arith) (omega arith) w

  -- the last tile's end is a multiple of each width, so that no tile is raised past it
  pub raised-short : (x : ℕ) → x ≤ tile-end → raised (bucket-tiles w) x ≤ tile-end
  raised-short x h = each (λ w. raised w x ≤ tile-end) (omega arith) (omega arith) (omega arith) w

  -- raising goes up, lowering goes down
  pub raised-least : (x : ℕ) → x ≤ raised (bucket-tiles w) x
  raised-least x = each (λ w. x ≤ raised w x) (omega arith) (omega arith) (omega arith) w

  pub lowered-most : (x : ℕ) → lowered (bucket-tiles w) x ≤ x
  lowered-most x = each (λ w. lowered w x ≤ x) (omega arith) (omega arith) (omega arith) w

  -- .. each exactly where a tile is not a bucket's first
  pub raised-off : (x : ℕ) → ltb x (raised (bucket-tiles w) x) ≡ ltb 0 (x % bucket-tiles w)
  raised-off x =
      same_test x (raised (bucket-tiles w) x) (x % bucket-tiles w)
      (each (λ w. 0 < x % w → x < raised w x) (λ h. omega arith) (λ h. omega arith) (λ h. omega arith) w)
      (each (λ w. x % w ≡ 0 → raised w x ≤ x) (λ h. omega arith) (λ h. omega arith) (λ h. omega arith) w)

  pub lowered-off : (x : ℕ) → ltb (lowered (bucket-tiles w) x) x ≡ ltb 0 (x % bucket-tiles w)
  lowered-off x =
      same_test (lowered (bucket-tiles w) x) x (x % bucket-tiles w)
      (each (λ w. 0 < x % w → lowered w x < x) (λ h. omega arith) (λ h. omega arith) (λ h. omega arith) w)
      (each (λ w. x % w ≡ 0 → x ≤ lowered w x) (λ h. omega arith) (λ h. omega arith) (λ h. omega arith) w)

  -- tiles that are there meet a bucket
  pub meets : (f g : ℕ) → f < g → f / bucket-tiles w < (g + (bucket-tiles w - 1)) / bucket-tiles w
  meets f g h = each (λ w. f / w < (g + (w - 1)) / w) (omega arith) (omega arith) (omega arith) w

  -- the buckets that tiles meet are there if the tiles are
  pub met-in : (g n : ℕ) → g ≤ bucket-tiles w * n → (g + (bucket-tiles w - 1)) / bucket-tiles w ≤ n
  met-in g n h = each (λ w. g ≤ w * n → (g + (w - 1)) / w ≤ n) (λ h. omega arith) (λ h. omega arith) (λ h. omega arith) w h

  -- a bucket that tiles up to x meet starts before x
  pub starts-before : (k x : ℕ) → k < (x + (bucket-tiles w - 1)) / bucket-tiles w → k * bucket-tiles w < x
  starts-before k x h = each (λ w. k < (x + (w - 1)) / w → k * w < x) (λ h. omega arith) (λ h. omega arith) (λ h. omega arith) w h
