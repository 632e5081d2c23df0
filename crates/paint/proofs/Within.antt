-- Where the rules' runs lie. Assumes nothing.
use Rattle.std.proofs.Common.{◌≡◌, refl, Bool, true, false, cond, List, [], ◌∷◌, map, ℕ, zero, suc, ◌≤◌, ◌<◌, ◌+◌, ◌-◌, ◌*◌, ◌/◌, not-suc-le-zero, le_of_suc-le-suc, mul-le-mul, arith, length, get_or}
use Rattle.std.proofs.Common.{length-take, length-drop, ltb, eqb, ltb-true, Option, None, Some}
use Rattle.rules.specs.Lists.{slice}
use Rattle.rules.specs.Spans.{Span, span, common}
use Rattle.rules.specs.Depth.{Summary, join-run, bucket-runs, runs-in, runs, tiles-of, is-unset, is-visible, visible-runs, write-runs}
use Rattle.sizes.specs.declared.width.Width.{Width}
use Rattle.span.specs.Spans.{Moves}
use Rattle.sizes.specs.Widths.{bucket-tiles}
use Rattle.rules.proofs.laws.Widths.{meets, starts-before}
use Rattle.paint.specs.declared.pieces.Brush.{Brush}
use Rattle.paint.specs.Pieces.{Fits}
use Rattle.paint.specs.Summaries.{whole_run, is_clear, shown_runs}

-- what holds of each run
module _ (P : Span → Type 0) where
  abbrev pub Each : List Span → Type 0
  Each [] = Unit
  Each (r ∷ rs) = P r × Each rs

  pub each_at : (rs : List Span) (k : ℕ) (d : Span) → Each rs → k < length rs → P (get_or rs k d)
  each_at [] k d e h = absurd (not-suc-le-zero h)
  each_at (r ∷ rs) zero d e h = e.0
  each_at (r ∷ rs) (suc k) d e h = each_at rs k d e.1 (le_of_suc-le-suc h)

each_map : (P Q : Span → Type 0) (f : Span → Span) → ((r : Span) → P r → Q (f r)) → (rs : List Span) → Each P rs → Each Q (map f rs)
each_map P Q f g [] e = tt
each_map P Q f g (r ∷ rs) e = (g r e.0, each_map P Q f g rs e.1)

each_of : (P Q : Span → Type 0) → ((r : Span) → P r → Q r) → (rs : List Span) → Each P rs → Each Q rs
each_of P Q g [] e = tt
each_of P Q g (r ∷ rs) e = (g r e.0, each_of P Q g rs e.1)

-- a run that is not empty, between lo and hi
pub record In (lo hi : ℕ) (r : Span) : Type 0 where
  pub low : lo ≤ r.first
  pub some-bucket : r.first < r.end
  pub high : r.end ≤ hi

wider : (lo lo' hi hi' : ℕ) → lo' ≤ lo → hi ≤ hi' → (r : Span) → In lo hi r → In lo' hi' r
wider lo lo' hi hi' h g r e = record { low = omega (arith, e.low); some-bucket = e.some-bucket; high = omega (arith, e.high) }

join-in : (i hi : ℕ) (rs : List Span) → i < hi → Each (In (suc i) hi) rs → Each (In i hi) (join-run i rs)
join-in i hi [] h e = (record { low = omega arith; some-bucket = omega arith; high = omega arith }, tt)
join-in i hi (r ∷ rs) h e = go (eqb r.first (suc i))
  where
    later : Each (In i hi) rs
    later = each_of (In (suc i) hi) (In i hi) (wider (suc i) i hi hi (omega arith) (omega arith)) rs e.1

    go : (t : Bool) → Each (In i hi) (cond t (span i r.end ∷ rs) (span i (suc i) ∷ r ∷ rs))
    go true = (record { low = omega arith; some-bucket = omega (arith, e.0.low, e.0.some-bucket); high = e.0.high }, later)
    go false = (
      record { low = omega arith; some-bucket = omega arith; high = omega arith },
      (wider (suc i) i hi hi (omega arith) (omega arith) r e.0, later),
    )

buckets-in : (p : ℕ → Bool) (i hi : ℕ) (bs : List ℕ) → i + length bs ≤ hi → Each (In i hi) (bucket-runs p i bs)
unfolding bucket-runs
buckets-in p i hi [] h = tt
buckets-in p i hi (b ∷ bs) h = go (p b) (bucket-runs p (suc i) bs) (buckets-in p (suc i) hi bs (omega arith))
  where
    go : (t : Bool) (rs : List Span) → Each (In (suc i) hi) rs → Each (In i hi) (cond t (join-run i rs) rs)
    go true rs e = join-in i hi rs (omega arith) e
    go false rs e = each_of (In (suc i) hi) (In i hi) (wider (suc i) i hi hi (omega arith) (omega arith)) rs e

runs-are-in : (p : ℕ → Bool) (bs : List ℕ) (lo hi : ℕ) → lo ≤ hi → Each (In lo hi) (runs-in p bs (span lo hi))
unfolding runs-in
runs-are-in p bs lo hi h = buckets-in p lo hi (slice lo hi bs) (rw (length-take, length-drop) (omega arith))

-- the pieces of a depth fill are u32's
pub depth-fits : (v : ℕ) → v ≤ 64 → (bs : List ℕ) (r : Span) (b : Brush) → r.first ≤ r.end → r.end ≤ 65535 → b.first ≡ 0 → b.alpha ≡ None → Each (Fits v b) (write-runs bs r)
unfolding write-runs
depth-fits v n bs r b h g e q =
    each_of (In r.first r.end) (Fits v b) fits (runs-in is-unset bs r) (runs-are-in is-unset bs r.first r.end h)
  where
    small : (x : ℕ) → x ≤ 65535 → x * v < 4294967296
    small x l = omega (arith, mul-le-mul {n₁ = x} {m₁ = v} {n₂ = 65535} {m₂ = 64} l n)

    fits : (t : Span) → In r.first r.end t → Fits v b t
    fits t i =
        record {
          small-first = small t.first (omega (arith, i.some-bucket, i.high));
          small-end = small t.end (omega (arith, i.high));
          begun = omega arith;
          moves = rw q tt;
        }

moved-less : (a : Option ℕ) (m n : ℕ) → m ≤ n → Moves a n → Moves a m
moved-less None m n h g = tt
moved-less (Some a) m n h g = omega arith

-- .. and those of a fill
module _ (width : Width) (bs : List ℕ) (id : ℕ) (s : Span) (b : Brush) (h : s.first ≤ s.end) (g : s.end ≤ 8192)
    (e : b.first ≡ s.first) (m : Moves b.alpha (s.end - s.first)) where
  abbrev v : ℕ
  v = bucket-tiles width

  cut_fits : s.first < s.end → (t : Span) → In (s.first / v) ((s.end + (v - 1)) / v) t → Fits 1 b (common s (tiles-of v t))
  cut_fits l t i =
      let early : t.first * v < s.end = starts-before width t.first s.end (omega (arith, i.some-bucket, i.high)) in
      record {
        small-first = omega arith;
        small-end = omega arith;
        begun = omega arith;
        moves = moved-less b.alpha _ (s.end - s.first) (omega arith) m;
      }

  pub fill-fits : Each (Fits 1 b) (visible-runs v bs id s)
  unfolding visible-runs runs
  fill-fits = go (ltb s.first s.end) refl
    where
      cut : Span → Span
      cut r = common s (tiles-of v r)

      go : (t : Bool) → ltb s.first s.end ≡ t
          → Each (Fits 1 b) (cond t (map cut (runs-in (is-visible id) bs (span (s.first / v) ((s.end + (v - 1)) / v)))) [])
      go true q =
          let l = ltb-true s.first s.end q in
          each_map (In (s.first / v) ((s.end + (v - 1)) / v)) (Fits 1 b) cut (cut_fits l)
          (runs-in (is-visible id) bs (span (s.first / v) ((s.end + (v - 1)) / v)))
          (runs-are-in (is-visible id) bs (s.first / v) ((s.end + (v - 1)) / v) (omega (arith, meets width s.first s.end l)))
      go false q = tt

  whole-fits : s.first < s.end → Fits 1 b s
  whole-fits l =
      record {
        small-first = omega arith;
        small-end = omega arith;
        begun = omega arith;
        moves = moved-less b.alpha _ (s.end - s.first) (omega arith) m;
      }

  -- also by the summary
  pub shown-fits : (u : Summary) → Each (Fits 1 b) (shown_runs v u bs id s)
  unfolding shown_runs
  shown-fits u = go (is_clear v u (length bs) id s)
    where
      one : (t : Bool) → ltb s.first s.end ≡ t → Each (Fits 1 b) (cond t (s ∷ []) [])
      one true q = (whole-fits (ltb-true _ _ q), tt)
      one false q = tt

      go : (t : Bool) → Each (Fits 1 b) (cond t (whole_run s) (visible-runs v bs id s))
      go true = one (ltb s.first s.end) refl
      go false = fill-fits
