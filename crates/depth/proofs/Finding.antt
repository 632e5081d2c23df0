-- Runs found in words of the call's own: there is always room for them there, so that the lent list's room alone decides. Assumes nothing.
use Rattle.std.proofs.Common.{◌≡◌, refl, ap, Bool, true, false, cond, List, [], ◌∷◌, map, ℕ, ◌+◌, ◌-◌, ◌*◌, ◌/◌, ◌<◌, ◌≤◌, min, arith, length, leb, ltb, leb-true, lt-ltb, le-ltb, ltb-true, ltb-false, Ok, Err}
use lib.ListN.{length-map}
use borrow.Author.Tests.{not-false}
use Rattle.sizes.specs.declared.answers.Refusal.{Refusal}
use Rattle.sizes.specs.declared.answers.Refusal.TheVariants.{NoRoom}
use Rattle.sizes.specs.Refusals.{number_of}
use Rattle.sizes.proofs.Refusals.{not_done}
use Rattle.sizes.specs.declared.width.Width.{Width}
use Rattle.sizes.specs.Widths.{bucket-tiles}
use Rattle.rules.specs.Answers as rules
use Rattle.rules.specs.Spans.{Span, span, common, bad-range}
use Rattle.rules.proofs.All.{both}
use Rattle.rules.proofs.laws.Widths.{each}
use Rattle.rules.specs.Depth.{runs-in, runs, tiles-of, is-visible, listed, visible-runs, visible_answer}
use Rattle.span.specs.declared.TileSpan.{TileSpan}
use Rattle.depth.specs.Listing as words
use Rattle.depth.proofs.Searching.{runs-few}
use Rattle.depth.specs.Spans.{with-spans}
use Rattle.depth.specs.SpanLists.{out, listing}
use Rattle.depth.proofs.Laws.{seen, listed-fits}

-- tiles end at 8,192, in at most 512 buckets, and two runs have a bucket between them
few : (width : Width) (bs : List ℕ) (id : ℕ) (s : Span) → bad-range 8192 s ≡ false → length (visible-runs (bucket-tiles width) bs id s) ≤ 256
unfolding visible-runs runs
few width bs id s e = go (ltb s.first s.end)
  where
    w : ℕ
    w = bucket-tiles width

    go : (t : Bool) → length (cond t (map (λ (r : Span). common s (tiles-of w r)) (runs-in (is-visible id) bs (span (s.first / w) ((s.end + (w - 1)) / w)))) []) ≤ 256
    go true =
        let last : s.end ≤ 8192 = leb-true s.end 8192 (both (leb s.first s.end) (leb s.end 8192) (not-false _ e)).1 in
        let met : (s.end + (w - 1)) / w ≤ 512 = each (λ w. (s.end + (w - 1)) / w ≤ 512) (omega (arith, last)) (omega (arith, last)) (omega (arith, last)) width in
        rw length-map (omega (arith, met, runs-few (is-visible id) bs (s.first / w) ((s.end + (w - 1)) / w)))
    go false = omega arith

same_test : (n m : ℕ) → m ≤ 256 → ltb (min n 256) m ≡ ltb n m
same_test n m h = go (ltb n m) refl
  where
    go : (t : Bool) → ltb n m ≡ t → ltb (min n 256) m ≡ t
    go true e = let l : n < m = ltb-true n m e in lt-ltb (min n 256) m (omega arith)
    go false e = let l : m ≤ n = ltb-false n m e in le-ltb (min n 256) m (omega arith)

-- so that more room than for 256 runs changes no answer
pub roomy : (width : Width) (bs : List ℕ) (id : ℕ) (s : Span) (n : ℕ) → visible_answer (bucket-tiles width) bs id s (min n 256) ≡ visible_answer (bucket-tiles width) bs id s n
unfolding visible_answer
roomy width bs id s n = go (bad-range 8192 s) refl
  where
    rs : List Span
    rs = visible-runs (bucket-tiles width) bs id s

    go : (bad : Bool) → bad-range 8192 s ≡ bad → listed bad (min n 256) rs ≡ listed bad n rs
    go true e = refl
    go false e =
        ap (λ (short : Bool). rules.settle (rules.first_of ((false, rules.BadRun) ∷ (short, rules.NoRoom) ∷ [])) [] rs)
        (same_test n (length rs) (few width bs id s e))

-- an answer lists no more than there is room for
pub in-room : (w : ℕ) (bs : List ℕ) (id : ℕ) (s : Span) (n : ℕ) → length (visible_answer w bs id s n).value ≤ n
unfolding visible_answer
in-room w bs id s n = go (bad-range 8192 s) (ltb n (length (visible-runs w bs id s))) refl
  where
    rs : List Span
    rs = visible-runs w bs id s

    go : (bad short : Bool) → ltb n (length rs) ≡ short → length (rules.settle (rules.first_of ((bad, rules.BadRun) ∷ (short, rules.NoRoom) ∷ [])) [] rs).value ≤ n
    go true short e = omega arith
    go false true e = omega arith
    go false false e = ltb-false n (length rs) e

-- from words with room for 256 runs to a list with room for n
module _ (width : Width) (bs : List ℕ) (id : ℕ) (s : Span) (n : ℕ) (ws m : List ℕ) where
  abbrev rs : List Span
  rs = visible-runs (bucket-tiles width) bs id s

  all : bad-range 8192 s ≡ false → visible_answer (bucket-tiles width) bs id s 256 ≡ rules.answer 0 rs
  unfolding visible_answer
  all e = rw (e, le-ltb 256 (length rs) (few width bs id s e))

  -- k runs are found
  module _ (k : ℕ) (h : words.out (Ok k) m ≡ words.listing (visible_answer (bucket-tiles width) bs id s 256) ws) where
    many : bad-range 8192 s ≡ false → k ≡ length rs
    unfolding words.listing
    many e = ap (λ (o : words.RunsOut). o.count) (rw (all e) at h)

    pub found-short : n < k → words.out (Err NoRoom) ws ≡ words.listing (visible_answer (bucket-tiles width) bs id s n) ws
    unfolding visible_answer words.listing words.numbers
    found-short g = go (bad-range 8192 s) refl
      where
        go : (bad : Bool) → bad-range 8192 s ≡ bad → words.out (Err NoRoom) ws ≡ words.listing (listed bad n rs) ws
        go true e = absurd (omega (arith, ap (λ (o : words.RunsOut). o.number) (rw e at h)))
        go false e = rw (lt-ltb n (length rs) (omega (arith, many e)))

    pub found-kept : k ≤ n → words.out (Ok k) m ≡ words.listing (visible_answer (bucket-tiles width) bs id s n) ws
    unfolding visible_answer
    found-kept g = go (bad-range 8192 s) refl
      where
        go : (bad : Bool) → bad-range 8192 s ≡ bad → words.out (Ok k) m ≡ words.listing (listed bad n rs) ws
        go true e = rw e at h
        go false e = rw (le-ltb n (length rs) (omega (arith, many e))) (rw (all e) at h)

  -- a bad range alone is refused there
  pub found-refused : (r : Refusal) → words.out (Err r) m ≡ words.listing (visible_answer (bucket-tiles width) bs id s 256) ws
      → words.out (Err r) ws ≡ words.listing (visible_answer (bucket-tiles width) bs id s n) ws
  unfolding visible_answer words.listing words.numbers
  found-refused r h = go (bad-range 8192 s) refl
    where
      go : (bad : Bool) → bad-range 8192 s ≡ bad → words.out (Err r) ws ≡ words.listing (listed bad n rs) ws
      go true e =
          let d : number_of r ≡ 12 = ap (λ (o : words.RunsOut). o.number) (rw e at h) in
          rw d
      go false e = absurd (not_done r (ap (λ (o : words.RunsOut). o.number) (rw (all e) at h)))

-- What is found is written: k runs, the words m, the lent list b.
module _ (m ws : List ℕ) (x : rules.Answer (List Span)) (b : List TileSpan) (room : length x.value ≤ length b) (k : ℕ)
    (e : words.out (Ok k) m ≡ words.listing x ws) where
  in_list : k ≤ length b
  unfolding words.listing
  in_list = let l : k ≡ length x.value = ap (λ (o : words.RunsOut). o.count) e in omega (arith, l)

  pub found-fits : (k ≤ length b) × (k * 2 ≤ length m)
  found-fits = (in_list, listed-fits k m ws x e)

  pub found-written : out (Ok k) (with-spans m k b) ≡ listing x b
  found-written = seen k m ws x e b in_list
