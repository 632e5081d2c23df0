-- What the rules' answers say of each way through the calls over runs. Assumes nothing.
use Rattle.std.proofs.Common.{◌≡◌, refl, sym, ap, ◌∙◌, Bool, true, false, ◌&&◌, ◌||◌, not, cond, List, [], map, ℕ, ◌≤◌, ◌<◌, ◌+◌, ◌-◌, ◌*◌, ◌/◌, min, arith, length, leb, ltb, eqb, le-leb, le-ltb, ne_eqb, eq-eqb, ltb-false}
use lib.ListN.{length-map}
use borrow.Author.Tests.{lt-leb}
use Rattle.rules.specs.Answers.{Answer, answer}
use Rattle.rules.specs.Spans.{Span, span, common, bad-range}
use Rattle.rules.specs.Depth.{runs-in, runs, tiles-of, is-visible, listed, unset-runs, visible-runs, unset_answer, visible_answer, write-runs, write_answer, write-after, written}
use Rattle.rules.specs.Minima.{minima-room, halvings, mended-runs, minima-after}
use Rattle.depth.specs.Listing.{RunsOut, numbers, over, listing, done, cut-runs, open-runs, met-end, OutWrite, writing}
use Rattle.depth.proofs.Skipping.{or-true}
use Rattle.depth.proofs.Searching.{runs-few, runs-shorter, runs-end, unset-visible}

-- the list's room, seen at a glance
pub roomy : (p : ℕ → Bool) (bs : List ℕ) (lo hi n : ℕ) → (hi - lo + 1) / 2 ≤ n → false ≡ ltb n (length (runs-in p bs (span lo hi)))
roomy p bs lo hi n h = sym (le-ltb n _ (omega (arith, runs-few p bs lo hi)))

pub empty : (p : ℕ → Bool) (bs : List ℕ) (lo hi n : ℕ) → hi ≤ lo → false ≡ ltb n (length (runs-in p bs (span lo hi)))
empty p bs lo hi n h = sym (le-ltb n _ (omega (arith, ap length (runs-end p bs hi lo h))))

-- a refusal leaves the list
abbrev pub refused : ℕ → List ℕ → RunsOut
refused n l = record { number = n; count = 0; list = l }

module _ (n : ℕ) (rs : List Span) (l : List ℕ) where
  listed-bad : (bad : Bool) → bad ≡ true → refused 12 l ≡ listing (listed bad n rs) l
  unfolding listing numbers
  listed-bad bad e = rw e

  listed-short : (bad : Bool) → bad ≡ false → ltb n (length rs) ≡ true → refused 14 l ≡ listing (listed bad n rs) l
  unfolding listing numbers
  listed-short bad e f = rw (e, f)

listed-done : (n : ℕ) (rs : List Span) (bad : Bool) → bad ≡ false → ltb n (length rs) ≡ false → answer 0 rs ≡ listed bad n rs
listed-done n rs bad e f = rw (e, f)

pub backward : (n : ℕ) (s : Span) → s.end < s.first → bad-range n s ≡ true
backward n s h = rw (lt-leb _ _ h)

pub past : (n : ℕ) (s : Span) → n < s.end → bad-range n s ≡ true
past n s h = rw (lt-leb _ _ h) (go (leb s.first s.end))
  where
    go : (t : Bool) → not (t && false) ≡ true
    go true = refl
    go false = refl

pub good : (n : ℕ) (s : Span) → s.first ≤ s.end → s.end ≤ n → bad-range n s ≡ false
good n s h g = rw (le-leb _ _ h, le-leb _ _ g)

-- a span of tiles, at w tiles a bucket
module _ (w : ℕ) (bs : List ℕ) (id : ℕ) (s : Span) (l : List ℕ) where
  cut_all : cut-runs s w id bs (s.first / w) (met-end w s (length bs)) ≡ answer 0 (visible-runs w bs id s)
  unfolding visible-runs runs
  cut_all = go (ltb s.first s.end)
    where
      f : Span → Span
      f r = common s (tiles-of w r)

      go : (t : Bool) → answer 0 (map f (runs-in (is-visible id) bs (span (s.first / w) (cond t (min ((s.end + (w - 1)) / w) (length bs)) 0))))
          ≡ answer 0 (cond t (map f (runs-in (is-visible id) bs (span (s.first / w) ((s.end + (w - 1)) / w)))) [])
      go true = rw (runs-shorter (is-visible id) bs (s.first / w) ((s.end + (w - 1)) / w))
      go false = rw (runs-end (is-visible id) bs 0 (s.first / w) (omega arith))

  pub tiles-backward : s.end < s.first → refused 12 l ≡ listing (visible_answer w bs id s (length l / 2)) l
  unfolding visible_answer
  tiles-backward h = listed-bad (length l / 2) (visible-runs w bs id s) l _ (backward 8192 s h)

  pub tiles-past : 8192 < s.end → refused 12 l ≡ listing (visible_answer w bs id s (length l / 2)) l
  unfolding visible_answer
  tiles-past h = listed-bad (length l / 2) (visible-runs w bs id s) l _ (past 8192 s h)

  module _ (h : s.first ≤ s.end) (g : s.end ≤ 8192) (lo hi : ℕ) (d : lo ≡ s.first / w) (e : hi ≡ met-end w s (length bs)) where
    many : length (runs-in (is-visible id) bs (span lo hi)) ≡ length (visible-runs w bs id s)
    many = rw (d, e) (sym (length-map (runs-in (is-visible id) bs (span (s.first / w) (met-end w s (length bs)))) _) ∙ ap (λ (a : Answer (List Span)). length a.value) cut_all)

    pub tiles-short : true ≡ ltb (length l / 2) (length (runs-in (is-visible id) bs (span lo hi))) → refused 14 l ≡ listing (visible_answer w bs id s (length l / 2)) l
    unfolding visible_answer
    tiles-short q = listed-short (length l / 2) (visible-runs w bs id s) l _ (good 8192 s h g) (rw (← many) (sym q))

    pub tiles-done : (n : ℕ) (l' : List ℕ) (k : ℕ) → k ≡ w → false ≡ ltb (length l / 2) (length (runs-in (is-visible id) bs (span lo hi)))
        → done n l' ≡ listing (cut-runs s k id bs lo hi) l → done n l' ≡ listing (visible_answer w bs id s (length l / 2)) l
    unfolding visible_answer
    tiles-done n l' k f q m =
        m ∙ rw (f, d, e) (ap (λ (a : Answer (List Span)). listing a l) (cut_all ∙ listed-done (length l / 2) (visible-runs w bs id s) _ (good 8192 s h g) (rw (← many) (sym q))))

pub unset-same : (w : ℕ) (bs : List ℕ) (s : Span) (n : ℕ) → visible_answer w bs 0 s n ≡ unset_answer w bs s n
unfolding visible_answer unset_answer visible-runs unset-runs
unset-same w bs s n = rw unset-visible

-- a range of buckets
module _ (bs ws : List ℕ) (id : ℕ) (r : Span) (l : List ℕ) where
  abbrev pub refused-write : ℕ → OutWrite
  refused-write n = record { listed = refused n l; depth = bs; minima = ws }

  pub write-unfit : eqb (length ws) (minima-room (length bs)) ≡ false → refused-write 1 ≡ writing bs ws id r l
  unfolding listing numbers
  write-unfit e = rw e

  module _ (fit : eqb (length ws) (minima-room (length bs)) ≡ true) where
    bad-write : (bad-range (length bs) r || eqb id 0) ≡ true → refused-write 12 ≡ writing bs ws id r l
    unfolding write_answer write-after minima-after listing numbers
    bad-write e = rw (fit, e)

    pub write-backward : r.end < r.first → refused-write 12 ≡ writing bs ws id r l
    write-backward h = bad-write (rw (backward (length bs) r h))

    pub write-past : length bs < r.end → refused-write 12 ≡ writing bs ws id r l
    write-past h = bad-write (rw (past (length bs) r h))

    pub write-no-id : id ≡ 0 → refused-write 12 ≡ writing bs ws id r l
    write-no-id h = bad-write (rw (eq-eqb id 0 h) (or-true (bad-range (length bs) r)))

    module _ (h : r.first ≤ r.end) (g : r.end ≤ length bs) (k : id ≡ 0 → ⊥) where
      fine : (bad-range (length bs) r || eqb id 0) ≡ false
      fine = rw (good (length bs) r h g, ne_eqb id 0 k)

      pub write-short : true ≡ ltb (length l / 2) (length (runs-in (is-visible 0) bs r)) → refused-write 14 ≡ writing bs ws id r l
      unfolding write_answer write-after minima-after write-runs listing numbers
      write-short q = rw (fit, fine, unset-visible, ← q)

      pub write_done : (n : ℕ) (l' bs' ws' : List ℕ) → false ≡ ltb (length l / 2) (length (runs-in (is-visible 0) bs r))
          → done n l' ≡ listing (open-runs bs r.first r.end) l → bs' ≡ written bs id r → ws' ≡ mended-runs (halvings (length bs)) ws bs' (runs-in (is-visible 0) bs r)
          → record { listed = done n l'; depth = bs'; minima = ws' } ≡ writing bs ws id r l
      unfolding write_answer write-after minima-after write-runs
      write_done n l' bs' ws' q d m w = rw (fit, fine, unset-visible, ← q, d, w, m)

-- what is listed of the unset runs: their number, and the list
module _ (n : ℕ) (l' bs l : List ℕ) (lo hi : ℕ) (e : done n l' ≡ listing (open-runs bs lo hi) l) where
  pub listed-count : n ≡ length (runs-in (is-visible 0) bs (span lo hi))
  unfolding listing
  listed-count = ap (λ (o : RunsOut). o.count) e

  pub listed-list : l' ≡ over (numbers (runs-in (is-visible 0) bs (span lo hi))) l
  unfolding listing
  listed-list = ap (λ (o : RunsOut). o.list) e

  -- no more runs than buckets
  pub listed-few : hi ≤ length bs → n ≤ length bs
  listed-few h = let c = listed-count in let f = runs-few (is-visible 0) bs lo hi in fewer (length (runs-in (is-visible 0) bs (span lo hi))) f c
    where
      fewer : (m : ℕ) → m * 2 ≤ hi - lo + 1 → n ≡ m → n ≤ length bs
      fewer m f c = omega arith

-- room for the runs, where the list is not short
pub list-room : (rs : List Span) (l : List ℕ) → false ≡ ltb (length l / 2) (length rs) → length rs * 2 ≤ length l
list-room rs l e = let h = ltb-false (length l / 2) (length rs) (sym e) in omega arith
