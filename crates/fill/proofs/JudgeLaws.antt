-- What a stretch adds to the counts of a row, and the tally's turns. Assumes nothing.
use Rattle.std.proofs.Common.{◌≡◌, refl, sym, ap, ◌∙◌, Bool, true, false, ◌||◌, cond, List, [], ◌∷◌, ◌++◌, Option, None, Some, ℕ, zero, suc, ◌+◌, ◌-◌, ◌*◌, ◌/◌, ◌%◌, ◌≤◌, ◌<◌, mul-le-mul_right}
use Rattle.std.proofs.Common.{mul-lt-mul_of_pos_right, arith, leb, ltb, eqb, length, le-leb, leb-true, leb-false}
use mathlib.Core.List.{foldl}
use Rattle.std.proofs.lemmas.Bool.Decides.{nat_tests}
use borrow.Author.Tests.{lt-leb}
use Rattle.rules.specs.Lists.{times, keep}
use Rattle.rules.specs.Spans.{Span, span}
use Rattle.rules.specs.Split.{Part, regular, buckets, split, raised, lowered}
use Rattle.rules.specs.Segments.{Segment, good-segment, Cut, cut_in}
use Rattle.rules.specs.Plans.{draw-act}
use Rattle.rules.specs.Steps.{do-act, put-part, ensure}
use Rattle.rules.proofs.laws.Widths.{bucket-some, raised-off, lowered-off}
use Rattle.sizes.specs.declared.width.Width.{Width}
use Rattle.sizes.specs.Widths.{bucket-tiles}
use Rattle.rules.proofs.All.{never}
use Rattle.row.specs.Acts.{unsplit}
use Rattle.row.specs.Counts.{Counts, counts, count-ops}
use Rattle.fill.specs.declared.rows.FillJob.{FillJob}
use Rattle.row.specs.Building.{good_row}
use Rattle.segments.specs.Segs.{origin, bounds}
use Rattle.segments.proofs.Laws.{landed}
use Rattle.row.specs.Room.{record-at}
use Rattle.row.proofs.RoomLaws.{good-small}
use Rattle.fill.specs.Tallies.{Tally, edge_count, added, job-adds, stored, known, tallied, tally_cuts, Rowed}

-- the parts of a split span: how many are regular, and how many are depth fills
abbrev regulars : List Part → ℕ
regulars [] = 0
regulars (regular s ∷ ps) = suc (regulars ps)
regulars (buckets s ∷ ps) = regulars ps

abbrev deeps : List Part → ℕ
deeps [] = 0
deeps (regular s ∷ ps) = deeps ps
deeps (buckets s ∷ ps) = suc (deeps ps)

sums : (a b x y : ℕ) (l : ℕ) → a ≡ x → b ≡ y → counts a b l ≡ counts x y l
sums a b x y l p q = rw (p, q)

parts_add : (v i id : ℕ) (ps : List Part) (k : Counts) → foldl (put-part Counts count-ops v i id) k ps ≡ counts (k.renders + regulars ps) (k.depths + deeps ps) k.levels
parts_add v i id [] k = sums k.renders k.depths (k.renders + 0) (k.depths + 0) k.levels (omega arith) (omega arith)
parts_add v i id (regular s ∷ ps) k = parts_add v i id ps (counts (k.renders + 1) k.depths k.levels) ∙ sums (k.renders + 1 + regulars ps) (k.depths + deeps ps) (k.renders + suc (regulars ps)) (k.depths + deeps ps) k.levels (omega arith) refl
parts_add v i id (buckets s ∷ ps) k = parts_add v i id ps (counts k.renders (k.depths + 1) k.levels) ∙ sums (k.renders + regulars ps) (k.depths + 1 + deeps ps) (k.renders + regulars ps) (k.depths + suc (deeps ps)) k.levels refl (omega arith)

-- rule 5 on counts
pushes-add : (j : ℕ) (k : Counts) → times j (λ (c : Counts). counts (c.renders + 1) c.depths (c.levels + 1)) k ≡ counts (k.renders + j) k.depths (k.levels + j)
pushes-add zero k = ap (λ (x : ℕ × ℕ). counts x.0 k.depths x.1) (pairs k.renders k.levels)
  where
    pairs : (a b : ℕ) → ◌≡◌ {A = ℕ × ℕ} (a, b) (a + 0, b + 0)
    pairs a b = let p : a + 0 ≡ a = omega arith in let q : b + 0 ≡ b = omega arith in rw (p, q)
pushes-add (suc j) k =
    let p : k.renders + 1 + j ≡ k.renders + suc j = omega arith in
    let q : k.levels + 1 + j ≡ k.levels + suc j = omega arith in
    pushes-add j (counts (k.renders + 1) k.depths (k.levels + 1)) ∙ rw (p, q)

-- one act on counts: the layers that are lacking, and what the stretch adds
module _ (v n i id : ℕ) (s : Span) (k : Counts) where
  layered : ensure Counts count-ops n k ≡ counts (k.renders + (n - k.levels)) k.depths (k.levels + (n - k.levels))
  layered = pushes-add (n - k.levels) k

  one-command : (a : Option ℕ) → counts ((ensure Counts count-ops n k).renders + 1) (ensure Counts count-ops n k).depths (ensure Counts count-ops n k).levels
      ≡ counts (k.renders + (n - k.levels) + 1) (k.depths + 0) (k.levels + (n - k.levels))
  one-command a = let z : k.depths ≡ k.depths + 0 = omega arith in rw layered (ap (λ (d : ℕ). counts (k.renders + (n - k.levels) + 1) d (k.levels + (n - k.levels))) z)

  split_parts : foldl (put-part Counts count-ops v i id) (ensure Counts count-ops n k) (split v s)
      ≡ counts (k.renders + (n - k.levels) + regulars (split v s)) (k.depths + deeps (split v s)) (k.levels + (n - k.levels))
  split_parts = rw layered (parts_add v i id (split v s) (counts (k.renders + (n - k.levels)) k.depths (k.levels + (n - k.levels))))

  pub counts-drawn : (e : Bool) (a : Option ℕ) → do-act Counts count-ops v n (draw-act e i id s a) k
      ≡ counts (k.renders + (n - k.levels) + (added v e s a).renders) (k.depths + (added v e s a).depths) (k.levels + (n - k.levels))
  unfolding do-act draw-act added
  counts-drawn true None = split_parts ∙ rw (parts_add v 0 0 (split v s) (counts 0 0 0)) (sums _ _ _ _ (k.levels + (n - k.levels)) (omega arith) (omega arith))
  counts-drawn true (Some x) = one-command (Some x)
  counts-drawn false None = one-command None
  counts-drawn false (Some x) = one-command (Some x)

-- what a stretch adds, by cases
module _ (v : ℕ) (s : Span) where
  pub added-alpha : (e : Bool) (a : ℕ) → added v e s (Some a) ≡ counts 1 0 0
  unfolding do-act draw-act added
  added-alpha true a = refl
  added-alpha false a = refl

  pub added-plain : added v false s None ≡ counts 1 0 0
  unfolding do-act draw-act added
  added-plain = refl

  pub added-one : lowered v s.end ≤ raised v s.first → added v true s None ≡ counts 1 0 0
  unfolding do-act draw-act added split
  added-one h = rw (le-leb _ _ h)

  sides : (c d : Bool) (a b x y : ℕ)
      → foldl (put-part Counts count-ops v 0 0) (counts 0 0 0) (keep c (regular (span s.first a)) (buckets (span x y) ∷ keep d (regular (span b s.end)) []))
      ≡ counts (cond c 1 0 + cond d 1 0) 1 0
  sides true true a b x y = refl
  sides true false a b x y = refl
  sides false true a b x y = refl
  sides false false a b x y = refl

  pub added_more : raised v s.first < lowered v s.end
      → added v true s None ≡ counts (edge_count s.first (raised v s.first) + edge_count (lowered v s.end) s.end) 1 0
  unfolding do-act draw-act added split
  added_more h =
      let a = raised v s.first in
      let b = lowered v s.end in
      rw (lt-leb (lowered v s.end) (raised v s.first) h) (sides (ltb s.first a) (ltb b s.end) a b (a / v) (b / v))

  -- .. by the span's whole buckets, from a to b
  module _ (a b : ℕ) (e₁ : a ≡ (s.first + (v - 1)) / v) (e₂ : b ≡ s.end / v) where
    found-one : b ≤ a → added v true s None ≡ counts 1 0 0
    found-one h = added-one (rw (← e₁, ← e₂) (mul-le-mul_right v h))

found-more : (w : Width) (s : Span) (a b : ℕ) → a ≡ (s.first + (bucket-tiles w - 1)) / bucket-tiles w → b ≡ s.end / bucket-tiles w → a < b
    → added (bucket-tiles w) true s None ≡ counts (edge_count 0 (s.first % bucket-tiles w) + edge_count 0 (s.end % bucket-tiles w)) 1 0
found-more w s a b e₁ e₂ h =
    added_more (bucket-tiles w) s (rw (← e₁, ← e₂) (mul-lt-mul_of_pos_right h (bucket-some w))) ∙ rw (raised-off w s.first, lowered-off w s.end)

-- .. as the code finds it
module _ (w : Width) (s : Span) (e : Bool) (a : Option ℕ) where
  pub found-unsplit : unsplit e a ≡ true → counts 1 0 0 ≡ added (bucket-tiles w) e s a
  found-unsplit t = go e a t
    where
      go : (e : Bool) (a : Option ℕ) → unsplit e a ≡ true → counts 1 0 0 ≡ added (bucket-tiles w) e s a
      go e (Some a) t = sym (added-alpha (bucket-tiles w) s e a)
      go false None t = sym (added-plain (bucket-tiles w) s)
      go true None t = never (sym t)

  is-split : unsplit e a ≡ false → added (bucket-tiles w) true s None ≡ added (bucket-tiles w) e s a
  is-split t = go e a t
    where
      go : (e : Bool) (a : Option ℕ) → unsplit e a ≡ false → added (bucket-tiles w) true s None ≡ added (bucket-tiles w) e s a
      go e (Some a) t = never t
      go false None t = never t
      go true None t = refl

  module _ (t : unsplit e a ≡ false) {x y : ℕ} (p : x ≡ (s.first + (bucket-tiles w - 1)) / bucket-tiles w) (q : y ≡ s.end / bucket-tiles w) where
    pub found-whole : y ≤ x → counts 1 0 0 ≡ added (bucket-tiles w) e s a
    found-whole h = sym (found-one (bucket-tiles w) s x y p q h) ∙ is-split t

    pub found-pieces : x < y → counts (edge_count 0 (s.first % bucket-tiles w) + edge_count 0 (s.end % bucket-tiles w)) 1 0 ≡ added (bucket-tiles w) e s a
    found-pieces h = sym (found-more w s x y p q h) ∙ is-split t

pub edge-small : (a b : ℕ) → edge_count a b ≤ 1
edge-small a b = grind (arith, nat_tests)

-- .. which is little
few-added : (v : ℕ) (e : Bool) (s : Span) (a : Option ℕ) → ((added v e s a).renders ≤ 2) × ((added v e s a).depths ≤ 1)
few-added v e s (Some a) = rw (added-alpha v s e a) (omega arith, omega arith)
few-added v false s None = rw (added-plain v s) (omega arith, omega arith)
few-added v true s None = go (leb (lowered v s.end) (raised v s.first)) refl
  where
    go : (t : Bool) → leb (lowered v s.end) (raised v s.first) ≡ t → ((added v true s None).renders ≤ 2) × ((added v true s None).depths ≤ 1)
    go true h = rw (added-one v s (leb-true _ _ h)) (omega arith, omega arith)
    go false h = rw (added_more v s (leb-false _ _ h)) (omega (arith, edge-small s.first (raised v s.first), edge-small (lowered v s.end) s.end), omega arith)

pub few-commands : (v : ℕ) (e : Bool) (s : Span) (a : Option ℕ) → (added v e s a).renders ≤ 2
few-commands v e s a = (few-added v e s a).0

pub few-depths : (v : ℕ) (e : Bool) (s : Span) (a : Option ℕ) → (added v e s a).depths ≤ 1
few-depths v e s a = (few-added v e s a).1

pub few-more : (v : ℕ) (e : Bool) (s : Span) (a : Option ℕ) {x y : ℕ} → counts x y 0 ≡ added v e s a → (x ≤ 1024) × (y ≤ 1024)
few-more v e s a q = (
  omega (arith, ap (λ (k : Counts). k.renders) q, few-commands v e s a),
  omega (arith, ap (λ (k : Counts). k.depths) q, few-depths v e s a),
)

-- the counts at hand are small before segment i
pub record Fits (j : FillJob) (i : ℕ) (t : Tally) : Type 0 where
  pub levels : t.levels ≤ j.layers
  pub renders : t.renders + (j.layers - t.levels) ≤ 1040 + 2 * i
  pub depths : t.depths ≤ 1024 + i

-- one turn
module _ (j : FillJob) (s : List ℕ) (t : Tally) where
  module _ (i r : ℕ) (f : Fits j i t) (c : j.c ≤ 1024) (d : j.d ≤ 1024) (l : j.layers ≤ 16) (g : good_row j.c j.d j.layers s ≡ true) where
    near : ((known t s r).levels ≤ j.layers) × ((known t s r).renders + (j.layers - (known t s r).levels) ≤ 1040 + 2 * i) × ((known t s r).depths ≤ 1024 + i)
    unfolding known
    near = go (eqb t.row r)
      where
        go : (b : Bool) → ((cond b (counts t.renders t.depths t.levels) (stored s)).levels ≤ j.layers)
            × ((cond b (counts t.renders t.depths t.levels) (stored s)).renders + (j.layers - (cond b (counts t.renders t.depths t.levels) (stored s)).levels) ≤ 1040 + 2 * i)
            × ((cond b (counts t.renders t.depths t.levels) (stored s)).depths ≤ 1024 + i)
        go true = (f.levels, f.renders, f.depths)
        go false = let o = good-small j.c j.d j.layers s g in (o.levels, omega (arith, o.renders, c, l), omega (arith, o.depths, d))

  module _ (k : Cut) (c : Counts) (e : c ≡ known t s k.row) (h : c.levels ≤ j.layers) where
    pub turned : record {
      row = k.row;
      renders = c.renders + (j.layers - c.levels) + (job-adds j k.stretch.tiles k.stretch.alpha).renders;
      depths = c.depths + (job-adds j k.stretch.tiles k.stretch.alpha).depths;
      levels = j.layers;
      full = t.full || ltb j.c (c.renders + (j.layers - c.levels) + (job-adds j k.stretch.tiles k.stretch.alpha).renders);
      deep = t.deep || ltb j.d (c.depths + (job-adds j k.stretch.tiles k.stretch.alpha).depths);
    } ≡ tallied j s t k
    unfolding tallied
    turned =
        let l : c.levels + (j.layers - c.levels) ≡ j.layers = omega arith in
        rw (← e, counts-drawn (bucket-tiles j.width) j.layers j.attr j.id k.stretch.tiles c j.eligible k.stretch.alpha, l)

  -- the counts at hand stay small
  fits-turned : (k : Cut) (i : ℕ) → Fits j i t → j.c ≤ 1024 → j.d ≤ 1024 → j.layers ≤ 16 → good_row j.c j.d j.layers s ≡ true → Fits j (i + 1) (tallied j s t k)
  fits-turned k i f c d l g =
      let o = near i k.row f c d l g in
      rw (← turned k (known t s k.row) refl o.0)
      (record {
        levels = omega arith;
        renders = omega (arith, o.1, few-commands (bucket-tiles j.width) j.eligible k.stretch.tiles k.stretch.alpha);
        depths = omega (arith, o.2, few-depths (bucket-tiles j.width) j.eligible k.stretch.tiles k.stretch.alpha);
      })

-- one cut segment, and then more
after : {A B : Type 0} → Option A → (A → Option B) → Option B
after None f = None
after (Some x) f = f x

after-if : {A B : Type 0} (g : Bool) (m : Option A) (f : A → Option B) → cond g (after m f) None ≡ after (cond g m None) f
unfolding after
after-if true m f = refl
after-if false m f = refl

module _ (j : FillJob) (rows : List ℕ) where
  tally-append : (t : Tally) (ks ls : List Cut) → tally_cuts j rows t (ks ++ ls) ≡ after (tally_cuts j rows t ks) (λ (u : Tally). tally_cuts j rows u ls)
  unfolding tally_cuts after
  tally-append t [] ls = refl
  tally-append t (k ∷ ks) ls =
      rw (tally-append (tallied j (record-at rows k.row) t k) ks ls)
      (after-if (good_row j.c j.d j.layers (record-at rows k.row)) (tally_cuts j rows (tallied j (record-at rows k.row) t k) ks) (λ (u : Tally). tally_cuts j rows u ls))

  pub tally-more : (t u : Tally) (ks ls : List Cut) → Some u ≡ tally_cuts j rows t ks → tally_cuts j rows t (ks ++ ls) ≡ tally_cuts j rows u ls
  unfolding after
  tally-more t u ks ls e = rw (tally-append t ks ls, ← e)

  pub tally-stop : (t : Tally) (ks ls : List Cut) → None ≡ tally_cuts j rows t ks → tally_cuts j rows t (ks ++ ls) ≡ None
  unfolding after
  tally-stop t ks ls e = rw (tally-append t ks ls, ← e)

-- a cut segment as the code takes it
module _ (j : FillJob) (rows : List ℕ) (t : Tally) (ks : List Cut) where
  pub took-none : [] ≡ ks → Some t ≡ tally_cuts j rows t ks
  unfolding tally_cuts
  took-none e = rw (← e)

  module _ (k : Cut) (e : k ∷ [] ≡ ks) where
    pub took-bad : good_row j.c j.d j.layers (record-at rows k.row) ≡ false → None ≡ tally_cuts j rows t ks
    unfolding tally_cuts
    took-bad g = rw (← e, g)

    pub took-good : (u : Tally) → good_row j.c j.d j.layers (record-at rows k.row) ≡ true → u ≡ tallied j (record-at rows k.row) t k → Some u ≡ tally_cuts j rows t ks
    unfolding tally_cuts
    took-good u g h = rw (← e, g, h)

module _ (j : FillJob) (rows : List ℕ) (t u : Tally) (i : ℕ) (f : Fits j i t) (c : j.c ≤ 1024) (d : j.d ≤ 1024) (l : j.layers ≤ 16) where
  later : t ≡ u → Fits j (i + 1) u
  later e = rw (← e) (record { levels = f.levels; renders = omega (arith, f.renders); depths = omega (arith, f.depths) })

  told : (k : Cut) (g : Bool) → good_row j.c j.d j.layers (record-at rows k.row) ≡ g
      → Some u ≡ cond g (Some (tallied j (record-at rows k.row) t k)) None → Fits j (i + 1) u
  told k true q e =
      let p : u ≡ tallied j (record-at rows k.row) t k = cc in
      rw p (fits-turned j (record-at rows k.row) t k i f c d l q)
  told k false q e = let z : ◌≡◌ {A = ℕ} 0 1 = cc in absurd (omega arith)

  pub fits_after : (ks : List Cut) → length ks ≤ 1 → Some u ≡ tally_cuts j rows t ks → Fits j (i + 1) u
  unfolding tally_cuts
  fits_after [] h e = later (cc)
  fits_after (k ∷ []) h e = told k (good_row j.c j.d j.layers (record-at rows k.row)) refl e
  fits_after (k ∷ m ∷ ks) h e = absurd (omega arith)

-- what is left of a good segment lies on a row
pub lands : (j : FillJob) (n : ℕ) (rows : List ℕ) (g : Segment) (k : Cut) → Rowed j n rows → good-segment g ≡ true → k ∷ [] ≡ cut_in (origin j.scene) (bounds j.scene) g
    → (k.row < n) × (k.stretch.tiles.first ≤ 8192) × (k.stretch.tiles.end ≤ 8192)
lands j n rows g k o t e =
    let l = landed (origin j.scene) (bounds j.scene) g k t o.starts e in
    (omega (arith, l.row, o.bottom), omega (arith, l.order, l.ends), l.ends)

-- .. whose record is there
pub row-there : (j : FillJob) (n : ℕ) (rows : List ℕ) (r : ℕ) → Rowed j n rows → r < n → r * 54 + 54 ≤ length rows
row-there j n rows r o h = omega (arith, o.long)
