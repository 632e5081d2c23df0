-- What the one pass holds is the tally so far, and its number that of the list and its rows. Assumes nothing.
use Rattle.std.proofs.Common.{◌≡◌, refl, sym, ap, ◌∙◌, Bool, true, false, ◌&&◌, ◌||◌, cond, List, [], ◌∷◌, ◌++◌, Option, None, Some, ℕ, ◌+◌, ◌-◌, ◌*◌, ◌≤◌, ◌<◌, arith, eqb, length}
use Rattle.std.proofs.Common.{eqb-true, eq-eqb, ne_eqb}
use Rattle.std.proofs.lemmas.Bool.Decides.{nat_tests}
use borrow.Author.Tests.{eqb-false}
use Rattle.rules.specs.Spans.{Span}
use Rattle.rules.specs.Segments.{Segment, good-segment, follows, judge-segments, Cut, cut_in}
use Rattle.row.specs.Counts.{Counts, counts}
use Rattle.row.specs.Building.{good_row}
use Rattle.segments.specs.Segs.{seg-at, segs, origin, bounds}
use Rattle.segments.proofs.Laws.{segs-end, segs-first}
use Rattle.segments.proofs.Judging as list
use Rattle.segments.proofs.Judging.{AtPlace, judging, nowhere, none_before}
use Rattle.fill.specs.declared.rows.FillJob.{FillJob}
use Rattle.fill.proofs.Runs.{at_most_one}
use Rattle.row.specs.declared.room.Limits.{Limits}
use Rattle.row.specs.Room.{record-at, Counted, hand_of, loaded, noted, added_to}
use Rattle.row.proofs.RoomLaws.{good-small}
use Rattle.fill.specs.Filling.{cuts-of}
use Rattle.fill.specs.Sure.{number_in}
use Rattle.fill.specs.Tallies.{Tally, job-adds, known, tallied, tally_cuts, verdict, none_yet, Rowed, list-number, marked_by, limits_of, stretched, counted_cut, hand_cuts}
use Rattle.fill.proofs.JudgeLaws.{turned, Fits, took-none, took-bad, took-good, tally-more, tally-stop, fits_after, lands}

-- the number for an order that is kept if ok, and for rows that are full or deep
abbrev code_of : Bool → Bool → Bool → ℕ
code_of ok full deep = cond ok (cond full 10 (cond deep 11 0)) 5

never-four : (ok full deep : Bool) → code_of ok full deep ≡ 4 → ⊥
never-four ok full deep e = grind (arith, nat_tests)

code-kept : (ok full deep : Bool) → code_of ok full deep ≡ code_of (ok && true) full deep
code-kept ok full deep = grind (arith, nat_tests)

code-broken : (ok full deep : Bool) → 5 ≡ code_of (ok && false) full deep
code-broken ok full deep = grind (arith, nat_tests)

noted-is : (ok full deep f g : Bool) → noted (code_of ok full deep) f g ≡ code_of ok (full || f) (deep || g)
noted-is ok full deep f g = grind (arith, nat_tests)

-- the hand h has the tally t, and an order that is kept if ok
pub record Holds (j : FillJob) (rows : List ℕ) (h : Counted) (ok : Bool) (t : Tally) : Type 0 where
  pub row : h.row ≡ t.row
  pub renders : h.renders ≡ t.renders
  pub depths : h.depths ≡ t.depths
  pub code : h.code ≡ code_of ok t.full t.deep
  pub levels : t.row ≤ 8191 → t.levels ≡ j.layers
  pub good : t.row ≤ 8191 → good_row j.c j.d j.layers (record-at rows t.row) ≡ true

-- row r is at hand, with all its layers
record Turned (j : FillJob) (u : Counted) (n r : ℕ) (k : Counts) : Type 0 where
  row : u.row ≡ r
  renders : u.renders ≡ k.renders + (j.layers - k.levels)
  depths : u.depths ≡ k.depths
  code : u.code ≡ n
  levels : k.levels ≤ j.layers

module _ (j : FillJob) (rows : List ℕ) (h : Counted) (ok : Bool) (t : Tally) (o : Holds j rows h ok t) where
  pub marks : (f : Bool) → Holds j rows (marked_by h f) (ok && f) t
  marks true = record { row = o.row; renders = o.renders; depths = o.depths; code = o.code ∙ code-kept ok t.full t.deep; levels = o.levels; good = o.good }
  marks false = record { row = o.row; renders = o.renders; depths = o.depths; code = code-broken ok t.full t.deep; levels = o.levels; good = o.good }

  not-four : h.code ≡ 4 → ⊥
  not-four e = never-four ok t.full t.deep (sym o.code ∙ e)

  -- what the row of a cut segment has before it: at hand, or by its record
  module _ (r : ℕ) (b : r ≤ 8191) where
    good-held : h.row ≡ r → good_row j.c j.d j.layers (record-at rows r) ≡ true
    good-held p = let e : t.row ≡ r = sym o.row ∙ p in rw e at (o.good (omega arith))

    held-is : h.row ≡ r → Turned j h h.code r (known t (record-at rows r) r)
    unfolding known
    held-is p =
        let e : t.row ≡ r = sym o.row ∙ p in
        let l : t.levels ≡ j.layers = o.levels (omega arith) in
        rw (eq-eqb t.row r e) (record { row = p; renders = omega (arith, o.renders); depths = o.depths; code = refl; levels = omega arith })

    loaded-is : (h.row ≡ r → ⊥) → good_row j.c j.d j.layers (record-at rows r) ≡ true → Turned j (loaded (limits_of j) (record-at rows r) h.code r) h.code r (known t (record-at rows r) r)
    unfolding known
    loaded-is p g =
        rw (ne_eqb t.row r (λ e. p (o.row ∙ e)))
        (record { row = refl; renders = omega arith; depths = refl; code = refl; levels = (good-small j.c j.d j.layers (record-at rows r) g).levels })

  -- one more cut segment, on a row whose record is good
  module _ (k : Cut) (g : good_row j.c j.d j.layers (record-at rows k.row) ≡ true) {u : Counted} (v : Turned j u h.code k.row (known t (record-at rows k.row) k.row)) where
    more-held : Holds j rows (stretched j u k.stretch.tiles k.stretch.alpha) ok (tallied j (record-at rows k.row) t k)
    unfolding stretched added_to
    more-held =
        rw (← turned j (record-at rows k.row) t k (known t (record-at rows k.row) k.row) refl v.levels)
        (record {
          row = v.row;
          renders = ap (λ (x : ℕ). x + (job-adds j k.stretch.tiles k.stretch.alpha).renders) v.renders;
          depths = ap (λ (x : ℕ). x + (job-adds j k.stretch.tiles k.stretch.alpha).depths) v.depths;
          code = rw (v.renders, v.depths, v.code, o.code) (noted-is ok t.full t.deep _ _);
          levels = λ z. refl;
          good = λ z. g;
        })

-- a cut segment was counted in the hand u, or its row's record is bad
data Told : FillJob → List ℕ → Bool → Tally → Cut → Counted → Type 0 where
  bad : {j : FillJob} {rows : List ℕ} {ok : Bool} {t : Tally} {k : Cut} {u : Counted}
      → good_row j.c j.d j.layers (record-at rows k.row) ≡ false → u.code ≡ 4 → Told j rows ok t k u
  fine : {j : FillJob} {rows : List ℕ} {ok : Bool} {t : Tally} {k : Cut} {u : Counted}
      → good_row j.c j.d j.layers (record-at rows k.row) ≡ true → Holds j rows u ok (tallied j (record-at rows k.row) t k) → Told j rows ok t k u

module _ (j : FillJob) (rows : List ℕ) (h : Counted) (ok : Bool) (t : Tally) (o : Holds j rows h ok t) where
  told-cut : (k : Cut) → k.row ≤ 8191 → Told j rows ok t k (counted_cut j rows h k)
  unfolding counted_cut
  told-cut k b = go (eqb h.row k.row) refl (good_row j.c j.d j.layers (record-at rows k.row)) refl
    where
      own : Counted
      own = loaded (limits_of j) (record-at rows k.row) h.code k.row

      go : (x : Bool) → eqb h.row k.row ≡ x → (g : Bool) → good_row j.c j.d j.layers (record-at rows k.row) ≡ g
          → Told j rows ok t k (cond x (stretched j h k.stretch.tiles k.stretch.alpha)
          (cond g (stretched j own k.stretch.tiles k.stretch.alpha) (hand_of 0 0 k.row 4)))
      go true p g q =
          let e = eqb-true h.row k.row p in
          let y = good-held j rows h ok t o k.row b e in
          fine y (more-held j rows h ok t o k y (held-is j rows h ok t o k.row b e))
      go false p true q =
          fine q (more-held j rows h ok t o k q (loaded-is j rows h ok t o k.row b (eqb-false h.row k.row p) q))
      go false p false q = bad q refl

  -- what is left of a segment: nothing or one
  bad-cuts : (ks : List Cut) → length ks ≤ 1 → ((k : Cut) → k ∷ [] ≡ ks → k.row ≤ 8191) → (hand_cuts j rows h ks).code ≡ 4 → None ≡ tally_cuts j rows t ks
  unfolding hand_cuts
  bad-cuts [] l b e = absurd (not-four j rows h ok t o e)
  bad-cuts (k ∷ []) l b e = by (told-cut k (b k refl)) e
    where
      by : {u : Counted} → Told j rows ok t k u → u.code ≡ 4 → None ≡ tally_cuts j rows t (k ∷ [])
      by (bad g q) e = took-bad j rows t (k ∷ []) k refl g
      by (fine g m) e = absurd (never-four ok (tallied j (record-at rows k.row) t k).full (tallied j (record-at rows k.row) t k).deep (sym m.code ∙ e))
  bad-cuts (k ∷ m ∷ ks) l b e = absurd (omega arith)

as-hand : {j : FillJob} {rows : List ℕ} {u w : Counted} {ok : Bool} {t : Tally} → u ≡ w → Holds j rows w ok t → Holds j rows u ok t
as-hand e o = rw e o

-- the tally after the cut segments ks, in the hand u
pub record Held (j : FillJob) (rows : List ℕ) (ok : Bool) (t : Tally) (ks : List Cut) (u : Counted) : Type 0 where
  pub tally : Tally
  pub taken : Some tally ≡ tally_cuts j rows t ks
  pub holds : Holds j rows u ok tally

module _ (j : FillJob) (rows : List ℕ) (h : Counted) (ok : Bool) (t : Tally) (o : Holds j rows h ok t) where
  held-cuts : (ks : List Cut) → length ks ≤ 1 → ((k : Cut) → k ∷ [] ≡ ks → k.row ≤ 8191) → ((hand_cuts j rows h ks).code ≡ 4 → ⊥) → Held j rows ok t ks (hand_cuts j rows h ks)
  unfolding hand_cuts
  held-cuts [] l b n = record { tally = t; taken = took-none j rows t [] refl; holds = o }
  held-cuts (k ∷ []) l b n = by (told-cut j rows h ok t o k (b k refl)) n
    where
      by : {u : Counted} → Told j rows ok t k u → (u.code ≡ 4 → ⊥) → Held j rows ok t (k ∷ []) u
      by (bad g q) n = absurd (n q)
      by (fine g m) n = record { tally = tallied j (record-at rows k.row) t k; taken = took-good j rows t (k ∷ []) k refl (tallied j (record-at rows k.row) t k) g refl; holds = m }
  held-cuts (k ∷ m ∷ ks) l b n = absurd (omega arith)

-- a stretch, as the code adds it
pub stretch-is : (j : FillJob) (h : Counted) (s : Span) (a : Option ℕ) {l : Limits} {x y : ℕ} {w : Counted} → l ≡ limits_of j → counts x y 0 ≡ job-adds j s a → w ≡ added_to l h x y → w ≡ stretched j h s a
unfolding stretched
stretch-is j h s a p q e = rw (← q, ← p) e

-- what is left of a segment, as the code takes it
module _ (j : FillJob) (rows : List ℕ) (h : Counted) {ks : List Cut} where
  pub took-nothing : [] ≡ ks → h ≡ hand_cuts j rows h ks
  unfolding hand_cuts
  took-nothing e = rw (← e)

  module _ (k : Cut) (e : k ∷ [] ≡ ks) where
    pub took-held : {w : Counted} → h.row ≡ k.row → w ≡ stretched j h k.stretch.tiles k.stretch.alpha → w ≡ hand_cuts j rows h ks
    unfolding hand_cuts counted_cut
    took-held p q = rw (← e, eq-eqb h.row k.row p, q)

    module _ (n : h.row ≡ k.row → ⊥) where
      pub took-four : good_row j.c j.d j.layers (record-at rows k.row) ≡ false → (hand_cuts j rows h ks).code ≡ 4
      unfolding hand_cuts counted_cut
      took-four g = rw (← e, ne_eqb h.row k.row n, g)

      module _ (g : good_row j.c j.d j.layers (record-at rows k.row) ≡ true) {u : Counted} (p : u ≡ loaded (limits_of j) (record-at rows k.row) h.code k.row) where
        pub took_one : {w : Counted} → w ≡ stretched j u k.stretch.tiles k.stretch.alpha → w ≡ hand_cuts j rows h ks
        unfolding hand_cuts counted_cut
        took_one q = rw (← e, ne_eqb h.row k.row n, g, q, p)

-- numbers of the whole list
pub bad-either : (a : ℕ) → 4 ≡ list-number a 4
bad-either a = go (eqb a 4)
  where
    go : (x : Bool) → ◌≡◌ {A = ℕ} 4 (cond x 4 4)
    go true = refl
    go false = refl

all_told : (ok full deep : Bool) → code_of ok full deep ≡ list-number (cond ok 0 5) (cond full 10 (cond deep 11 0))
all_told ok full deep = grind (arith, nat_tests)

-- the pass over the segments from a to b, at segment i, after the segment s
pub record Passing (j : FillJob) (n : ℕ) (rows ws : List ℕ) (a b : ℕ) (s : Segment) (h : Counted) (i : ℕ) : Type 0 where
  pub rowed : Rowed j n rows
  pub within : 5 * b ≤ length ws
  pub ok : Bool
  pub tally : Tally
  pub place : AtPlace ws a b s ok i
  pub holds : Holds j rows h ok tally
  pub fits : Fits j i tally
  pub rest : verdict (tally_cuts j rows tally (cuts-of j ws i b)) ≡ verdict (tally_cuts j rows none_yet (cuts-of j ws a b))

pub begun : {j : FillJob} {n : ℕ} {rows ws : List ℕ} {a b : ℕ} → Rowed j n rows → a ≤ b → 5 * b ≤ length ws
    → Passing j n rows ws a b nowhere (record { row = 8192; renders = 0; depths = 0; code = 0 }) a
begun {ws = ws} {a = a} {b = b} o h l =
    record {
      rowed = o;
      within = l;
      ok = true;
      tally = none_yet;
      place = record { before = h; rest = none_before (segs ws a (b - a)) };
      holds = record { row = refl; renders = refl; depths = refl; code = refl; levels = λ z. absurd (omega arith); good = λ z. absurd (omega arith) };
      fits = record { levels = omega arith; renders = omega (arith, o.layers); depths = omega arith };
      rest = refl;
    }

module _ {j : FillJob} {n : ℕ} {rows ws : List ℕ} {a b : ℕ} {s : Segment} {h : Counted} {i : ℕ} (v : Passing j n rows ws a b s h i) where
  module _ (l : b ≤ i) where
    order-told : (x : Bool) → v.ok ≡ x → cond x 0 5 ≡ judge-segments false (segs ws a (b - a))
    order-told true e = list.all-ordered v.place l e
    order-told false e = list.some-broken v.place l e

    rows_told : cond v.tally.full 10 (cond v.tally.deep 11 0) ≡ verdict (tally_cuts j rows none_yet (cuts-of j ws a b))
    unfolding tally_cuts
    rows_told = rw (segs-end ws i b l) at v.rest

    pub told-at-last : h.code ≡ number_in j rows ws a b
    told-at-last =
        v.holds.code ∙ all_told v.ok v.tally.full v.tally.deep
        ∙ ap (λ (x : ℕ). list-number x (cond v.tally.full 10 (cond v.tally.deep 11 0))) (order-told v.ok refl)
        ∙ ap (λ (y : ℕ). list-number (judge-segments false (segs ws a (b - a))) y) rows_told

  module _ {g : Segment} (l : i < b) (e : g ≡ seg-at ws i) where
    pub bad-here : good-segment g ≡ false → 4 ≡ number_in j rows ws a b
    bad-here q = ap (λ (x : ℕ). list-number x (verdict (tally_cuts j rows none_yet (cuts-of j ws a b)))) (list.bad-here v.place l e q)

    split-cuts : cuts-of j ws i b ≡ cut_in (origin j.scene) (bounds j.scene) g ++ cuts-of j ws (i + 1) b
    split-cuts = rw (segs-first ws i b l, ← e)

    on-a-row : good-segment g ≡ true → (k : Cut) → k ∷ [] ≡ cut_in (origin j.scene) (bounds j.scene) g → k.row ≤ 8191
    on-a-row q k p = omega (arith, (lands j n rows g k v.rowed q p).0, v.rowed.few)

    module _ (q : good-segment g ≡ true) (f : Bool) {u : Counted} (m : u ≡ hand_cuts j rows (marked_by h f) (cut_in (origin j.scene) (bounds j.scene) g)) where
      pub bad-record : u.code ≡ 4 → 4 ≡ number_in j rows ws a b
      bad-record c =
          let o = marks j rows h v.ok v.tally v.holds f in
          let z = bad-cuts j rows (marked_by h f) (v.ok && f) v.tally o (cut_in (origin j.scene) (bounds j.scene) g) (at_most_one _ _ g) (on-a-row q) (rw m at c) in
          bad-either (judge-segments false (segs ws a (b - a)))
          ∙ ap (λ (y : ℕ). list-number (judge-segments false (segs ws a (b - a))) y)
          (rw (split-cuts, tally-stop j rows v.tally (cut_in (origin j.scene) (bounds j.scene) g) (cuts-of j ws (i + 1) b) z) at v.rest)

      pub again : f ≡ follows s g → (u.code ≡ 4 → ⊥) → Passing j n rows ws a b g u (i + 1)
      again p c =
          let o = marks j rows h v.ok v.tally v.holds f in
          let z = held-cuts j rows (marked_by h f) (v.ok && f) v.tally o (cut_in (origin j.scene) (bounds j.scene) g) (at_most_one _ _ g) (on-a-row q) (rw m at c) in
          record {
            rowed = v.rowed;
            within = v.within;
            ok = v.ok && f;
            tally = z.tally;
            place = list.again v.place l e q (ap (λ (x : Bool). v.ok && x) p);
            holds = as-hand m z.holds;
            fits = fits_after j rows v.tally z.tally i v.fits v.rowed.c v.rowed.d v.rowed.layers (cut_in (origin j.scene) (bounds j.scene) g) (at_most_one _ _ g) z.taken;
            rest = rw (split-cuts, tally-more j rows v.tally z.tally (cut_in (origin j.scene) (bounds j.scene) g) (cuts-of j ws (i + 1) b) z.taken) at v.rest;
          }
