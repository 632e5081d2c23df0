-- The look at a list that is good and in order: its rows rise, so each run of segments is looked at once, for the most that it can come to. Assumes nothing.
use Rattle.std.proofs.Common.{◌≡◌, refl, sym, ◌∙◌, Bool, true, false, ◌&&◌, cond, List, ℕ, zero, suc, ◌+◌, ◌-◌, ◌*◌, ◌≤◌, ◌<◌, arith, eqb, length, get_or, eqb-true}
use Rattle.std.proofs.lemmas.Bool.Decides.{nat_tests}
use borrow.Author.Tests.{eqb-false}
use Rattle.rules.specs.Segments.{Segment, good-segment, follows, ordered, judge-segments}
use Rattle.rules.proofs.All.{both}
use Rattle.segments.specs.Segs.{seg-at, segs}
use Rattle.segments.proofs.Laws.{judged, good-facts, segs-first}
use Rattle.fill.specs.declared.rows.FillJob.{FillJob}
use Rattle.fill.specs.Tallies.{Rowed}
use Rattle.fill.specs.Sure.{RoomAt, number_in}
use Rattle.fill.proofs.Runs.{good-each}
use Rattle.fill.proofs.Sure.{split_off, Walking, set_out, turns-over, all-sure, goes_on}

-- room for more is room for fewer that may be split
fewer : (j : FillJob) (rows : List ℕ) (r m n k : ℕ) → k ≤ n → RoomAt j rows r m n → RoomAt j rows r m k
fewer j rows r m n k h o = λ c d. let s = o c d in record { good = s.good; renders = omega (arith, s.renders); depths = omega (arith, s.depths) }

-- of a run of n segments no more may be split
more_split : (e : Bool) (m n q : ℕ) → m ≤ cond e n 0 → m + split_off e (1 - q) ≤ cond e (n + 1) 0
more_split true m n q h = omega arith
more_split false m n q h = omega arith

-- on the same row, or on one below
after-one : (s t : Segment) → follows s t ≡ true → (t.row ≡ s.row → s.end ≤ t.first) × ((t.row ≡ s.row → ⊥) → s.row < t.row)
after-one s t h = (λ e. grind (arith, nat_tests), λ e. grind (arith, nat_tests))

module _ (ws : List ℕ) where
  two-first : (a b : ℕ) → a + 1 < b → ordered (segs ws a (b - a)) ≡ (follows (seg-at ws a) (seg-at ws (a + 1)) && ordered (segs ws (a + 1) (b - (a + 1))))
  unfolding ordered
  two-first a b h = rw (segs-first ws a b (omega arith), segs-first ws (a + 1) b h) refl

  follow-each : (k a b : ℕ) → b ≤ a + k → ordered (segs ws a (b - a)) ≡ true → (i : ℕ) → a ≤ i → i + 1 < b → follows (seg-at ws i) (seg-at ws (i + 1)) ≡ true
  follow-each zero a b h g i p q = absurd (omega arith)
  follow-each (suc k) a b h g i p q =
      let y = both (follows (seg-at ws a) (seg-at ws (a + 1))) (ordered (segs ws (a + 1) (b - (a + 1)))) (sym (two-first a b (omega arith)) ∙ g) in
      go (eqb a i) refl y.0 (λ z. follow-each k (a + 1) b (omega arith) y.1 i (omega (arith, z)) q)
    where
      go : (t : Bool) → eqb a i ≡ t → follows (seg-at ws a) (seg-at ws (a + 1)) ≡ true → ((a ≡ i → ⊥) → follows (seg-at ws i) (seg-at ws (i + 1)) ≡ true)
          → follows (seg-at ws i) (seg-at ws (i + 1)) ≡ true
      go true e f m = rw (eqb-true a i e) at f
      go false e f m = m (eqb-false a i e)

-- the run that began at segment f on the row r has come to segment i, which goes on with it or begins a row below
pub record Rooms (j : FillJob) (n : ℕ) (rows ws : List ℕ) (a b r f i : ℕ) : Type 0 where
  pub edge : ℕ
  pub split : ℕ
  pub after : a ≤ i
  pub low : r < 8192
  pub walking : Walking j n rows ws a b r f edge split i
  pub few : split ≤ cond j.eligible (i - f) 0
  pub beyond : i < b → ((seg-at ws i).row ≡ r → edge ≤ (seg-at ws i).first) × (((seg-at ws i).row ≡ r → ⊥) → r < (seg-at ws i).row)

good-in : (ws : List ℕ) (a b : ℕ) → judge-segments false (segs ws a (b - a)) ≡ 0 → (i : ℕ) → a ≤ i → i < b → good-segment (seg-at ws i) ≡ true
good-in ws a b y i p q = good-each ws b a b (omega arith) (judged (segs ws a (b - a)) y).good i p q

module _ {j : FillJob} {n : ℕ} {rows ws : List ℕ} {a b : ℕ} (y : judge-segments false (segs ws a (b - a)) ≡ 0) where
  next : {r f e m i : ℕ} → Walking j n rows ws a b r f e m i → m ≤ cond j.eligible (i - f) 0 → a ≤ i → i < b → (seg-at ws i).row ≡ r → e ≤ (seg-at ws i).first
      → Rooms j n rows ws a b r f (i + 1)
  next {r} {f} {e} {m} {i} w q p l s o =
      let c : i + 1 - f ≡ (i - f) + 1 = omega (arith, w.few) in
      record {
        edge = (seg-at ws i).end;
        split = m + split_off j.eligible (1 - (seg-at ws i).kind);
        after = omega arith;
        low = omega (arith, (good-facts (seg-at ws i) (good-in ws a b y i p l)).row);
        walking = goes_on w (split_off j.eligible (1 - (seg-at ws i).kind)) l s (λ h. good-in ws a b y i p l) o refl (split_small (seg-at ws i).kind);
        few = rw c (more_split j.eligible m (i - f) (seg-at ws i).kind q);
        beyond = λ h. rw s at (after-one (seg-at ws i) (seg-at ws (i + 1)) (follow-each ws b a b (omega arith) (judged (segs ws a (b - a)) y).order i p h));
      }
    where
      split_small : (k : ℕ) → split_off j.eligible (1 - k) ≤ 1
      split_small k = grind (arith, nat_tests)

  -- the first segment
  pub starts : Rowed j n rows → a < b → 5 * b ≤ length ws → Rooms j n rows ws a b (get_or ws (5 * a + 1) 0) a (a + 1)
  unfolding seg-at
  starts o h l = next (set_out (get_or ws (5 * a + 1) 0) o h l) (omega arith) (omega arith) h refl (omega arith)

  module _ {r f i : ℕ} (v : Rooms j n rows ws a b r f i) where
    -- one more on the row
    pub stays : i < b → get_or ws (5 * i + 1) 0 ≡ r → Rooms j n rows ws a b r f (i + 1)
    unfolding seg-at
    stays h e = next v.walking v.few v.after h e ((v.beyond h).0 e)

    -- the run has room, and the next begins
    pub turns : i < b → (get_or ws (5 * i + 1) 0 ≡ r → ⊥) → RoomAt j rows r (i - f) (cond j.eligible (i - f) 0) → Rooms j n rows ws a b (get_or ws (5 * i + 1) 0) i (i + 1)
    unfolding seg-at
    turns h e o =
        next (turns-over v.walking (get_or ws (5 * i + 1) 0) ((v.beyond h).1 e) (fewer j rows r (i - f) (cond j.eligible (i - f) 0) v.split v.few o)) (omega arith) v.after h refl (omega arith)

    -- the last has room
    pub all-roomy : b ≤ i → RoomAt j rows r (i - f) (cond j.eligible (i - f) 0) → number_in j rows ws a b ≡ 0
    all-roomy h o = all-sure v.walking h v.low (fewer j rows r (i - f) (cond j.eligible (i - f) 0) v.split v.few o)
