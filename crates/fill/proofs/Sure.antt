-- A sure look: upper bounds of a row's counts that stay within its limits keep the tally's flags down. Assumes nothing.
use Rattle.std.proofs.Common.{◌≡◌, refl, sym, ap, ◌∙◌, Bool, true, false, ◌||◌, cond, List, [], ◌∷◌, ◌++◌, None, Some, ℕ, ◌+◌, ◌-◌, ◌*◌, ◌/◌, ◌≤◌, ◌<◌, arith, eqb, leb, length, get_or, eqb-true, eq-eqb, ne_eqb, lt-ltb, le-ltb, le-leb}
use Rattle.std.proofs.lemmas.Bool.Decides.{nat_tests}
use Rattle.rules.specs.Spans.{Span, moved}
use Rattle.rules.specs.Segments.{Segment, good-segment, follows, judge-segments, Cut, cut_in}
use Rattle.sizes.specs.Widths.{bucket-tiles}
use Rattle.row.specs.Counts.{Counts, counts}
use Rattle.row.specs.Building.{good_row}
use Rattle.row.specs.Room.{record-at}
use Rattle.row.proofs.RoomLaws.{good-small}
use Rattle.segments.specs.Segs.{seg-at, segs, origin, bounds}
use Rattle.segments.proofs.Laws.{segs-end, segs-first}
use Rattle.segments.proofs.Judging as list
use Rattle.segments.proofs.Judging.{AtPlace, nowhere, first-follows, none_before}
use Rattle.fill.specs.declared.rows.FillJob.{FillJob}
use Rattle.fill.proofs.Runs.{piece, at_most_one}
use Rattle.fill.specs.Filling.{cuts-of}
use Rattle.fill.specs.Tallies.{Tally, added, job-adds, known, stored, tallied, tally_cuts, verdict, none_yet, Rowed}
use Rattle.fill.specs.Sure.{Roomed, RoomAt, number_in}
use Rattle.fill.proofs.JudgeLaws.{few-commands, few-depths, added-alpha, added-plain, turned, took-none, took-good, tally-more}

module _ (s : Segment) (k : s.kind ≤ 1) (r : s.row < 8192) (o : s.first < s.end) (e : s.end ≤ 8192) where
  solid-good : s.kind ≡ 0 → eqb s.alpha 0 ≡ good-segment s
  solid-good z = grind (arith, nat_tests)

  alpha-good : (s.kind ≡ 0 → ⊥) → leb s.alpha (4294967295 - 16 * (s.end - s.first)) ≡ good-segment s
  alpha-good z = grind (arith, nat_tests)

-- n, where solids may be split
abbrev pub split_off : Bool → ℕ → ℕ
split_off e n = cond e n 0

pub split-none : (e : Bool) → 0 ≡ split_off e 0
split-none e = grind (arith, nat_tests)

pub split_one : (e : Bool) → split_off e 1 ≤ 1
split_one e = grind (arith, nat_tests)

-- the segments from a to i are good, on one row and in order; the last ends at x, and n may be split
pub data Ran (e : Bool) (ws : List ℕ) (row a : ℕ) : ℕ → ℕ → ℕ → Type 0 where
  not_yet : Ran e ws row a a 0 0
  one_more : {i x n : ℕ} → Ran e ws row a i x n → (seg-at ws i).row ≡ row → good-segment (seg-at ws i) ≡ true → x ≤ (seg-at ws i).first
      → Ran e ws row a (i + 1) (seg-at ws i).end (n + split_off e (1 - (seg-at ws i).kind))

-- at most one command, and for a solid that may be split one more and a depth fill
module _ (v : ℕ) (s : Span) (n a x : ℕ) where
  at_most : (e t : Bool) → eqb n 0 ≡ t
      → ((added v e s (moved (cond t None (Some a)) x)).renders ≤ 1 + split_off e (1 - n)) × ((added v e s (moved (cond t None (Some a)) x)).depths ≤ split_off e (1 - n))
  at_most e false q = rw (added-alpha v s e (a + 16 * x)) (omega arith, omega arith)
  at_most false true q = rw (added-plain v s) (omega arith, omega arith)
  at_most true true q = let z = eqb-true n 0 q in (omega (arith, few-commands v true s None), omega (arith, few-depths v true s None))

known_same : (t : Tally) (s : List ℕ) (r : ℕ) → t.row ≡ r → known t s r ≡ counts t.renders t.depths t.levels
unfolding known
known_same t s r e = rw (eq-eqb t.row r e)

known-else : (t : Tally) (s : List ℕ) (r : ℕ) → (t.row ≡ r → ⊥) → known t s r ≡ stored s
unfolding known
known-else t s r e = rw (ne_eqb t.row r e)

-- counts, with the layers that are lacking, within bounds
record Near (j : FillJob) (c : Counts) (x y : ℕ) : Type 0 where
  levels : c.levels ≤ j.layers
  renders : c.renders + (j.layers - c.levels) ≤ x
  depths : c.depths ≤ y

near_same : (j : FillJob) (u : Tally) (s : List ℕ) (r x y : ℕ) → u.row ≡ r → Near j (counts u.renders u.depths u.levels) x y → Near j (known u s r) x y
near_same j u s r x y e n = rw (known_same u s r e) n

near-row : (j : FillJob) (rows : List ℕ) (u : Tally) (x y : ℕ) {m n : ℕ} → m ≡ n → Near j (known u (record-at rows m) m) x y → Near j (known u (record-at rows n) n) x y
near-row j rows u x y e n = rw e at n

record After (j : FillJob) (s : List ℕ) (u : Tally) (r x y : ℕ) : Type 0 where
  row : u.row ≡ r
  full : u.full ≡ false
  deep : u.deep ≡ false
  near : Near j (known u s r) x y

both-down : (a b : Bool) → a ≡ false → b ≡ false → (a || b) ≡ false
both-down a b p q = rw (p, q)

after : (j : FillJob) (s : List ℕ) (t : Tally) (k : Cut) (x y x' y' z : ℕ) → Near j (known t s k.row) x y → t.full ≡ false → t.deep ≡ false
    → (job-adds j k.stretch.tiles k.stretch.alpha).renders ≤ 1 + z → (job-adds j k.stretch.tiles k.stretch.alpha).depths ≤ z
    → x + 1 + z ≤ x' → y + z ≤ y' → x' ≤ j.c → y' ≤ j.d → After j s (tallied j s t k) k.row x' y'
after j s t k x y x' y' z o f d p q a b l m =
    rw (← turned j s t k (known t s k.row) refl o.levels)
    (record {
      row = refl;
      full = both-down _ _ f (le-ltb j.c ((known t s k.row).renders + (j.layers - (known t s k.row).levels) + (job-adds j k.stretch.tiles k.stretch.alpha).renders) (omega (arith, o.renders)));
      deep = both-down _ _ d (le-ltb j.d ((known t s k.row).depths + (job-adds j k.stretch.tiles k.stretch.alpha).depths) (omega (arith, o.depths)));
      near = near_same j _ s k.row x' y' refl (record { levels = omega arith; renders = omega (arith, o.renders); depths = omega (arith, o.depths) });
    })

-- in a run on row r, at segment i: the last one ended at e, and the row's counts are at most x and y
record On (j : FillJob) (rows ws : List ℕ) (a b r i e x y : ℕ) : Type 0 where
  tally : Tally
  last : Segment
  place : AtPlace ws a b last true i
  below : last.row ≤ r
  follow : (g : Segment) → g.row ≡ r → e ≤ g.first → follows last g ≡ true
  full : tally.full ≡ false
  deep : tally.deep ≡ false
  top : tally.row ≤ 8191 → tally.row + j.scene.y / 4 ≤ r
  near : j.scene.rows.first ≤ r → r < j.scene.rows.end → Near j (known tally (record-at rows (r - j.scene.y / 4)) (r - j.scene.y / 4)) x y
  rest : verdict (tally_cuts j rows tally (cuts-of j ws i b)) ≡ verdict (tally_cuts j rows none_yet (cuts-of j ws a b))

same_row : (s g : Segment) (r : ℕ) → s.row ≡ r → g.row ≡ r → s.end ≤ g.first → follows s g ≡ true
same_row s g r p q h = rw (le-ltb s.row g.row (omega arith), eq-eqb s.row g.row (omega arith), le-leb s.end g.first h)

-- one more segment of the run
module _ {j : FillJob} {n : ℕ} {rows ws : List ℕ} {a b r i e x y : ℕ} (w : Rowed j n rows) (o : On j rows ws a b r i e x y) (l : i < b)
    (p : (seg-at ws i).row ≡ r) (g : good-segment (seg-at ws i) ≡ true) (f : e ≤ (seg-at ws i).first) where
  split-cuts : cuts-of j ws i b ≡ cut_in (origin j.scene) (bounds j.scene) (seg-at ws i) ++ cuts-of j ws (i + 1) b
  split-cuts = rw (segs-first ws i b l)

  next_place : AtPlace ws a b (seg-at ws i) true (i + 1)
  next_place = list.again o.place l refl g (sym (o.follow (seg-at ws i) p f))

  next-rest : (u : Tally) → Some u ≡ tally_cuts j rows o.tally (cut_in (origin j.scene) (bounds j.scene) (seg-at ws i))
      → verdict (tally_cuts j rows u (cuts-of j ws (i + 1) b)) ≡ verdict (tally_cuts j rows none_yet (cuts-of j ws a b))
  next-rest u z = rw (split-cuts, tally-more j rows o.tally u (cut_in (origin j.scene) (bounds j.scene) (seg-at ws i)) (cuts-of j ws (i + 1) b) z) at o.rest

  module _ (x' y' : ℕ) (h : x + 1 + split_off j.eligible (1 - (seg-at ws i).kind) ≤ x') (k : y + split_off j.eligible (1 - (seg-at ws i).kind) ≤ y')
      (m : j.scene.rows.first ≤ r → r < j.scene.rows.end → (good_row j.c j.d j.layers (record-at rows (r - j.scene.y / 4)) ≡ true) × (x' ≤ j.c) × (y' ≤ j.d)) where
    by-cuts : (ks : List Cut) → ks ≡ cut_in (origin j.scene) (bounds j.scene) (seg-at ws i) → length ks ≤ 1 → On j rows ws a b r (i + 1) (seg-at ws i).end x' y'
    by-cuts [] q v =
        record {
          tally = o.tally;
          last = seg-at ws i;
          place = next_place;
          below = omega arith;
          follow = λ t c d. same_row (seg-at ws i) t r p c d;
          full = o.full;
          deep = o.deep;
          top = o.top;
          near = λ c d. let t = o.near c d in record { levels = t.levels; renders = omega (arith, t.renders); depths = omega (arith, t.depths) };
          rest = next-rest o.tally (took-none j rows o.tally (cut_in (origin j.scene) (bounds j.scene) (seg-at ws i)) q);
        }
    by-cuts (c ∷ []) q v =
        let t = piece (origin j.scene) (bounds j.scene) (seg-at ws i) c q in
        let at : c.row ≡ r - j.scene.y / 4 = t.row ∙ ap (λ (z : ℕ). z - j.scene.y / 4) p in
        let low : j.scene.rows.first ≤ r = omega (arith, t.low) in
        let high : r < j.scene.rows.end = omega (arith, t.high) in
        let room = m low high in
        let most = at_most (bucket-tiles j.width) c.stretch.tiles (seg-at ws i).kind (seg-at ws i).alpha t.shift j.eligible (eqb (seg-at ws i).kind 0) refl in
        let u = after j (record-at rows c.row) o.tally c x y x' y' (split_off j.eligible (1 - (seg-at ws i).kind)) (rw at (o.near low high)) o.full o.deep
        (rw t.alpha most.0) (rw t.alpha most.1) h k room.1 room.2 in
        record {
          tally = tallied j (record-at rows c.row) o.tally c;
          last = seg-at ws i;
          place = next_place;
          below = omega arith;
          follow = λ t c d. same_row (seg-at ws i) t r p c d;
          full = u.full;
          deep = u.deep;
          top = λ z. omega (arith, u.row, w.starts.top);
          near = λ z v. near-row j rows (tallied j (record-at rows c.row) o.tally c) x' y' at u.near;
          rest = next-rest (tallied j (record-at rows c.row) o.tally c)
              (took-good j rows o.tally (cut_in (origin j.scene) (bounds j.scene) (seg-at ws i)) c q _ (rw at room.0) refl);
        }
    by-cuts (c ∷ d ∷ ks) q v = absurd (omega arith)

    step : On j rows ws a b r (i + 1) (seg-at ws i).end x' y'
    step = by-cuts (cut_in (origin j.scene) (bounds j.scene) (seg-at ws i)) refl (at_most_one _ _ (seg-at ws i))

-- between the runs, at segment i: rows from q on are to come
pub record Sure (j : FillJob) (n : ℕ) (rows ws : List ℕ) (a b q i : ℕ) : Type 0 where
  pub rowed : Rowed j n rows
  pub tally : Tally
  pub last : Segment
  pub place : AtPlace ws a b last true i
  pub below : last.row ≤ q
  pub follow : (g : Segment) → q ≤ g.row → follows last g ≡ true
  pub full : tally.full ≡ false
  pub deep : tally.deep ≡ false
  pub fresh : tally.row ≤ 8191 → tally.row + j.scene.y / 4 < q
  pub rest : verdict (tally_cuts j rows tally (cuts-of j ws i b)) ≡ verdict (tally_cuts j rows none_yet (cuts-of j ws a b))

sure-so-far : {j : FillJob} {n : ℕ} {rows ws : List ℕ} {a b : ℕ} → Rowed j n rows → a ≤ b → Sure j n rows ws a b 0 a
sure-so-far {ws = ws} {a = a} {b = b} o h =
    record {
      rowed = o;
      tally = none_yet;
      last = nowhere;
      place = record { before = h; rest = none_before (segs ws a (b - a)) };
      below = omega arith;
      follow = λ g p. first-follows g.row g.first;
      full = refl;
      deep = refl;
      fresh = λ z. absurd (omega arith);
      rest = refl;
    }

module _ {j : FillJob} {n : ℕ} {rows ws : List ℕ} {a b q i : ℕ} (v : Sure j n rows ws a b q i) where
  surely : b ≤ i → number_in j rows ws a b ≡ 0
  unfolding tally_cuts
  surely l =
      let e : 0 ≡ judge-segments false (segs ws a (b - a)) = list.all-ordered v.place l refl in
      let f : 0 ≡ verdict (tally_cuts j rows none_yet (cuts-of j ws a b)) = rw (segs-end ws i b l, v.full, v.deep) at v.rest in
      rw (← e, ← f)

  module _ (r : ℕ) (h : q ≤ r) where
    enter : (m k : ℕ) → RoomAt j rows r m k
        → On j rows ws a b r i 0 (get_or (record-at rows (r - j.scene.y / 4)) 0 0 + (j.layers - get_or (record-at rows (r - j.scene.y / 4)) 5 0) + (i - i) + 0) (get_or (record-at rows (r - j.scene.y / 4)) 1 0 + 0)
    enter m k o =
        record {
          tally = v.tally;
          last = v.last;
          place = v.place;
          below = omega (arith, v.below);
          follow = λ g p z. v.follow g (omega arith);
          full = v.full;
          deep = v.deep;
          top = λ z. omega (arith, v.fresh z);
          near = λ c d. rw (known-else v.tally (record-at rows (r - j.scene.y / 4)) (r - j.scene.y / 4)
              (λ e. let z : v.tally.row ≤ 8191 = omega (arith, v.rowed.bottom, v.rowed.few) in omega (arith, v.fresh z, v.rowed.starts.top)))
              (record { levels = (good-small _ _ _ _ (o c d).good).levels; renders = omega arith; depths = omega arith });
          rest = v.rest;
        }

    runs : {t e k : ℕ} → Ran j.eligible ws r i t e k → t ≤ b → RoomAt j rows r (t - i) k
        → (i ≤ t) × On j rows ws a b r t e (get_or (record-at rows (r - j.scene.y / 4)) 0 0 + (j.layers - get_or (record-at rows (r - j.scene.y / 4)) 5 0) + (t - i) + k) (get_or (record-at rows (r - j.scene.y / 4)) 1 0 + k)
    runs not_yet l o = (omega arith, enter (i - i) 0 o)
    runs (one_more {i = t} {x = e} {n = k} w p g f) l o =
        let u = runs w (omega arith) (λ c d. let s = o c d in record { good = s.good; renders = omega (arith, s.renders); depths = omega (arith, s.depths) }) in
        (omega (arith, u.0), step v.rowed u.1 (omega arith) p g f _ _ (omega (arith, u.0)) (omega arith) (λ c d. let s = o c d in (s.good, s.renders, s.depths)))

    -- after a run with room
    still-sure : {t e k : ℕ} → Ran j.eligible ws r i t e k → t ≤ b → RoomAt j rows r (t - i) k → Sure j n rows ws a b (r + 1) t
    still-sure w l o =
        let u = (runs w l o).1 in
        record {
          rowed = v.rowed;
          tally = u.tally;
          last = u.last;
          place = u.place;
          below = omega (arith, u.below);
          follow = λ g p. rw (lt-ltb u.last.row g.row (omega (arith, u.below)));
          full = u.full;
          deep = u.deep;
          fresh = λ z. omega (arith, u.top z);
          rest = u.rest;
        }

-- sure up to the run that began at segment f on the row r; it has come to segment i, to tile e, and m of it may be split
pub record Walk (j : FillJob) (n : ℕ) (rows ws : List ℕ) (a b r f e m i : ℕ) : Type 0 where
  pub next : ℕ
  pub sure : Sure j n rows ws a b next f
  pub rises : next ≤ r
  pub ran : Ran j.eligible ws r f i e m

-- .. if r is a row: rows rise, so the last one tells it of all
pub record Walking (j : FillJob) (n : ℕ) (rows ws : List ℕ) (a b r f e m i : ℕ) : Type 0 where
  pub rowed : Rowed j n rows
  pub within : 5 * b ≤ length ws
  pub before : i ≤ b
  pub few : m + f ≤ i
  pub walk : r < 8192 → Walk j n rows ws a b r f e m i

pub set_out : {j : FillJob} {n : ℕ} {rows ws : List ℕ} {a b : ℕ} (r : ℕ) → Rowed j n rows → a < b → 5 * b ≤ length ws → Walking j n rows ws a b r a 0 0 a
set_out r o h l =
    record { rowed = o; within = l; before = omega arith; few = omega arith; walk = λ z. record { next = 0; sure = sure-so-far o (omega arith); rises = omega arith; ran = not_yet } }

module _ {j : FillJob} {n : ℕ} {rows ws : List ℕ} {a b r f e m i : ℕ} (v : Walking j n rows ws a b r f e m i) where
  -- the run has room, and the next row begins
  pub turns-over : (q : ℕ) → r < q → RoomAt j rows r (i - f) m → Walking j n rows ws a b q i 0 0 i
  turns-over q h o =
      record {
        rowed = v.rowed;
        within = v.within;
        before = v.before;
        few = omega arith;
        walk = λ z. let w = v.walk (omega arith) in record { next = r + 1; sure = still-sure w.sure r w.rises w.ran v.before o; rises = omega arith; ran = not_yet };
      }

  -- the last run has room
  pub all-sure : b ≤ i → r < 8192 → RoomAt j rows r (i - f) m → number_in j rows ws a b ≡ 0
  all-sure l h o = let w = v.walk h in surely (still-sure w.sure r w.rises w.ran v.before o) l

  -- one more segment
  pub goes_on : (k : ℕ) → i < b → (seg-at ws i).row ≡ r → (r < 8192 → good-segment (seg-at ws i) ≡ true) → e ≤ (seg-at ws i).first
      → k ≡ split_off j.eligible (1 - (seg-at ws i).kind) → k ≤ 1 → Walking j n rows ws a b r f (seg-at ws i).end (m + k) (i + 1)
  goes_on k l p g o q s =
      record {
        rowed = v.rowed;
        within = v.within;
        before = omega arith;
        few = omega (arith, v.few);
        walk = λ z. let w = v.walk z in record { next = w.next; sure = w.sure; rises = w.rises; ran = rw q (one_more w.ran p (g z) o) };
      }

  module _ (l : i < b) (p : get_or ws (5 * i + 1) 0 ≡ r) (o : e ≤ get_or ws (5 * i + 2) 0) (q : get_or ws (5 * i + 2) 0 < get_or ws (5 * i + 3) 0) (s : get_or ws (5 * i + 3) 0 ≤ 8192) where
    pub one-solid : {w k : ℕ} → w ≡ split_off j.eligible 1 → k ≡ m + w → get_or ws (5 * i) 0 ≡ 0 → get_or ws (5 * i + 4) 0 ≡ 0
        → Walking j n rows ws a b r f (get_or ws (5 * i + 3) 0) k (i + 1)
    unfolding seg-at
    one-solid {w} y x k z =
        rw x
        (goes_on w l p (λ h. sym (solid-good (seg-at ws i) (omega arith) (omega arith) q s k) ∙ eq-eqb (get_or ws (5 * i + 4) 0) 0 z) o (rw k y)
        (omega (arith, split_one j.eligible)))

    pub one-alpha : {k : ℕ} → k ≡ m → get_or ws (5 * i) 0 ≡ 1 → get_or ws (5 * i + 4) 0 ≤ 4294967295 - 16 * (get_or ws (5 * i + 3) 0 - get_or ws (5 * i + 2) 0)
        → Walking j n rows ws a b r f (get_or ws (5 * i + 3) 0) k (i + 1)
    unfolding seg-at
    one-alpha {k} x t z =
        let y : k ≡ m + 0 = omega arith in
        rw y
        (goes_on 0 l p
        (λ h. sym (alpha-good (seg-at ws i) (omega arith) (omega arith) q s (λ u. omega arith)) ∙ le-leb (get_or ws (5 * i + 4) 0) (4294967295 - 16 * (get_or ws (5 * i + 3) 0 - get_or ws (5 * i + 2) 0)) z)
        o (rw t (split-none j.eligible)) (omega arith))

-- one segment by itself, whose row has room
module _ {j : FillJob} {n : ℕ} {rows : List ℕ} (ws : List ℕ) (i : ℕ) (o : Rowed j n rows) (l : 5 * (i + 1) ≤ length ws) (r : get_or ws (5 * i + 1) 0 < 8192)
    (q : get_or ws (5 * i + 2) 0 < get_or ws (5 * i + 3) 0) (s : get_or ws (5 * i + 3) 0 ≤ 8192) where
  begins : Walking j n rows ws i (i + 1) (get_or ws (5 * i + 1) 0) i 0 0 i
  begins = set_out (get_or ws (5 * i + 1) 0) o (omega arith) l

  by-one : {e k m : ℕ} → Walking j n rows ws i (i + 1) (get_or ws (5 * i + 1) 0) i e m (i + 1) → k ≡ m → RoomAt j rows (get_or ws (5 * i + 1) 0) 1 k
      → number_in j rows ws i (i + 1) ≡ 0
  by-one w h p = let e : (i + 1) - i ≡ 1 = omega arith in all-sure w (omega arith) r (rw (e, ← h) p)

  pub solid_alone : {k : ℕ} → k ≡ split_off j.eligible 1 → get_or ws (5 * i) 0 ≡ 0 → get_or ws (5 * i + 4) 0 ≡ 0 → RoomAt j rows (get_or ws (5 * i + 1) 0) 1 k
      → number_in j rows ws i (i + 1) ≡ 0
  solid_alone {k} y t z p = by-one (one-solid begins (omega arith) refl (omega arith) q s {w = k} {k = k} y (omega arith) t z) refl p

  pub alpha-alone : get_or ws (5 * i) 0 ≡ 1 → get_or ws (5 * i + 4) 0 ≤ 4294967295 - 16 * (get_or ws (5 * i + 3) 0 - get_or ws (5 * i + 2) 0)
      → RoomAt j rows (get_or ws (5 * i + 1) 0) 1 0 → number_in j rows ws i (i + 1) ≡ 0
  alpha-alone t z p = by-one (one-alpha begins (omega arith) refl (omega arith) q s {k = 0} refl t z) refl p

-- a record with room, as the code tests it
pub room-found : (j : FillJob) (s : List ℕ) (m n : ℕ) → good_row j.c j.d j.layers s ≡ true → get_or s 1 0 + n ≤ j.d → get_or s 0 0 + j.layers + m + n ≤ j.c + get_or s 5 0 → Roomed j s m n
room-found j s m n g d h = record { good = g; renders = omega (arith, (good-small _ _ _ _ g).levels); depths = d }
