-- A row's depth fills in one loop: what each writes and lists. Assumes nothing.
use Rattle.std.proofs.Common.{◌≡◌, refl, sym, ap, ◌∙◌, Bool, true, false, List, [], ◌∷◌, ℕ, zero, suc, ◌+◌, ◌-◌, ◌*◌, ◌≤◌, ◌<◌, add-zero, zero-add, not-suc-le-zero, le_of_suc-le-suc, arith, le_refl, length, get_or, set, ltb, ltb-true, ltb-false, le-leb, lt-ltb}
use Rattle.std.proofs.lemmas.Bool.{eqb-true, eqb-false}
use Rattle.std.proofs.Common.{eqb}
use borrow.Author.Tests.{lt-leb}
use Rattle.sizes.specs.Sizes.{piece-size}
use Rattle.rules.specs.Lists.{join}
use Rattle.rules.specs.Spans.{Span, span}
use Rattle.rules.specs.Depth.{is-unset, is-visible, runs-in, write-runs, written_from, written}
use Rattle.rules.specs.Minima.{mended, mended-runs}
use Rattle.cmd.specs.Attrs.{words-at}
use Rattle.cmd.proofs.Tables.{length_at}
use Rattle.depth.proofs.Searching.{runs-few, unset-visible, Reached, Ended, reach-first, reach-more, reach-closed, reach-end, runs_closed, runs-end}
use Rattle.depth.specs.Minima.{Holds}
use Rattle.depth.proofs.Marking.{Marked, mark-first, mark-done, mark-open, mark-closed}
use Rattle.paint.specs.DepthFills.{MarksRun, depth-words}
use Rattle.paint.proofs.Putting.{words-on, words-none}

-- one bucket more is unset
pub one-more-unset : (D : List ℕ) (a b : ℕ) → ((n : ℕ) → a ≤ n → n < b → get_or D n 0 ≡ 0) → get_or D b 0 ≡ 0
    → (n : ℕ) → a ≤ n → n < b + 1 → get_or D n 0 ≡ 0
one-more-unset D a b h e n i j = go (eqb n b) refl
  where
    go : (t : Bool) → eqb n b ≡ t → get_or D n 0 ≡ 0
    go true g = rw (eqb-true n b g) e
    go false g = let d = eqb-false n b g in h n i (below d)
      where
        below : (n ≡ b → ⊥) → n < b
        below d = omega (arith, d)

pub above_zero : (n : ℕ) → (n ≡ 0 → ⊥) → 0 < n
above_zero zero h = absurd (h refl)
above_zero (suc n) h = omega arith

-- a run from `first` has come to b: its buckets are unset in D, and written
pub record Begun (D : List ℕ) (id hi first b : ℕ) (bs : List ℕ) : Type 0 where
  pub past : first < b
  pub within : b ≤ hi
  pub unset : (n : ℕ) → first ≤ n → n < b → get_or D n 0 ≡ 0
  pub marked : Marked id hi D first b bs

pub begun-first : (D : List ℕ) (id hi first : ℕ) → hi ≤ length D → first < hi → get_or D first 0 ≡ 0 → Begun D id hi first (first + 1) (set D first id)
begun-first D id hi first fits h e = record {
  past = omega arith;
  within = omega arith;
  unset = one-more-unset D first first (λ n i j. absurd (omega arith)) e;
  marked = mark-open id hi D first first D (mark-first id hi D first) fits h e;
}

unset-open : (n : ℕ) → n ≡ 0 → is-visible 0 n ≡ true
unset-open n e = le-leb n 0 (omega arith)

module _ (D : List ℕ) (hi : ℕ) (fits : hi ≤ length D) where
  -- unset buckets from i on are one run as far as they go
  run-to : (i m : ℕ) → i + 1 + m ≤ hi → ((n : ℕ) → i ≤ n → n < i + 1 + m → get_or D n 0 ≡ 0) → Reached (is-visible 0) D hi i (i + 1 + m)
  run-to i zero h u = rw add-zero (reach-first (is-visible 0) D hi fits i (omega arith) (unset-open _ (u i (le_refl i) (omega arith))))
  run-to i (suc m) h u =
      let e : i + 1 + suc m ≡ i + 1 + m + 1 = omega arith in
      rw e (reach-more (is-visible 0) D hi fits i (i + 1 + m) (run-to i m (omega arith) (λ n j k. u n j (omega arith))) (omega arith)
      (unset-open _ (u (i + 1 + m) (omega arith) (omega arith))))

  -- .. up to where they end
  pub run-ended : (i j : ℕ) → i < j → j ≤ hi → ((n : ℕ) → i ≤ n → n < j → get_or D n 0 ≡ 0) → (j < hi → 0 < get_or D j 0) → Ended (is-visible 0) D hi i j
  run-ended i j h g u k = go (ltb j hi) refl
    where
      far : Reached (is-visible 0) D hi i j
      far = let e : i + 1 + (j - (i + 1)) ≡ j = omega arith in (rw e at (run-to i (j - (i + 1)) (omega arith) (λ n a b. u n a (omega arith))))

      go : (t : Bool) → ltb j hi ≡ t → Ended (is-visible 0) D hi i j
      go true e = let l = ltb-true j hi e in reach-closed (is-visible 0) D hi fits i j far l (lt-leb _ _ (k l))
      go false e = reach-end (is-visible 0) D hi fits i j far (ltb-false j hi e)

  -- the bucket where a run ends begins none
  pub past-run : (j : ℕ) → (j < hi → 0 < get_or D j 0) → runs-in (is-visible 0) D (span j hi) ≡ runs-in (is-visible 0) D (span (j + 1) hi)
  past-run j k = go (ltb j hi) refl
    where
      go : (t : Bool) → ltb j hi ≡ t → runs-in (is-visible 0) D (span j hi) ≡ runs-in (is-visible 0) D (span (j + 1) hi)
      go true e = let l = ltb-true j hi e in runs_closed (is-visible 0) D hi fits j l (lt-leb _ _ (k l))
      go false e =
          let l = ltb-false j hi e in
          runs-end (is-visible 0) D hi j l ∙ sym (runs-end (is-visible 0) D hi (j + 1) (omega (arith, l)))

-- an unset bucket of the range has the id after the write
written-at : (s id b hi n : ℕ) (bs : List ℕ) → n < length bs → b ≤ s + n → s + n < hi → get_or bs n 0 ≡ 0 → get_or (written_from s id (span b hi) bs) n 0 ≡ id
written-at s id b hi n [] l h g e = absurd (not-suc-le-zero l)
written-at s id b hi zero (x ∷ bs) l h g e = rw (le-leb b s (omega arith), lt-ltb s hi (omega arith), e)
written-at s id b hi (suc n) (x ∷ bs) l h g e = written-at (suc s) id b hi n bs (le_of_suc-le-suc l) (omega arith) (omega arith) e

pub written-there : (id b hi n : ℕ) (bs : List ℕ) → n < length bs → b ≤ n → n < hi → get_or bs n 0 ≡ 0 → get_or (written bs id (span b hi)) n 0 ≡ id
unfolding written
written-there id b hi n bs l h g e = let z : 0 + n ≡ n = zero-add n in written-at 0 id b hi n bs l (rw z h) (rw z g) e

written_from-long : (s id : ℕ) (r : Span) (bs : List ℕ) → length (written_from s id r bs) ≡ length bs
written_from-long s id r [] = refl
written_from-long s id r (x ∷ bs) = ap suc (written_from-long (suc s) id r bs)

pub written-long : (id : ℕ) (r : Span) (bs : List ℕ) → length (written bs id r) ≡ length bs
unfolding written
written-long id r bs = written_from-long 0 id r bs

-- how many runs a fill has at most
pub fill-few : (D : List ℕ) (r : Span) → length (write-runs D r) * 2 ≤ r.end - r.first + 1
unfolding write-runs
fill-few D r = runs-few is-unset D r.first r.end

-- its runs are those of the buckets that are visible at id 0
pub write-runs-visible : (D : List ℕ) (r : Span) → write-runs D r ≡ runs-in (is-visible 0) D r
unfolding write-runs
write-runs-visible D r = rw unset-visible

pub put-room : (D : List ℕ) (r : Span) (a l : ℕ) → a + piece-size * length (write-runs D r) ≤ l → a + piece-size * length (runs-in (is-visible 0) D r) ≤ l
put-room D r a l h = (rw write-runs-visible at h)

-- past the range nothing is left to write
nothing-left : (id hi i : ℕ) (bs : List ℕ) → hi ≤ i → written bs id (span i hi) ≡ bs
nothing-left id hi i bs h = sym (mark-done id hi bs i i bs (mark-first id hi bs i) h)

pub mark-past : (id hi : ℕ) (D : List ℕ) (lo i : ℕ) (bs : List ℕ) → Marked id hi D lo i bs → hi ≤ i → Marked id hi D lo (i + 1) bs
mark-past id hi D lo i bs m h = record {
  long = m.long;
  rest = nothing-left id hi (i + 1) bs (omega arith) ∙ sym (nothing-left id hi i bs h) ∙ m.rest;
  same = λ k g. m.same k (omega arith);
}

-- the runs of a fill of the buckets from lo to hi, over the words D: v tiles a bucket, i: its attribute, p: its panel; k: how often a row is halved
module _ (D : List ℕ) (id lo hi v i p : ℕ) (l₀ : List ℕ) (a₀ k : ℕ) (ms₀ : List ℕ) where
  abbrev pub runs : ℕ → List Span
  runs b = runs-in (is-visible 0) D (span b hi)

  abbrev pub words : ℕ → List ℕ
  words b = join (depth-words v i p) (runs b)

  abbrev pub all : List ℕ
  all = written D id (span lo hi)

  -- those before bucket b are in the list, of which `at` words are written, the buckets before b have the id, the minima above those runs are mended, and the runs
  -- from b on are still to come
  pub record Filled (b at : ℕ) (l bs ms : List ℕ) : Type 0 where
    pub marked : Marked id hi D lo b bs
    pub kept : length l ≡ length l₀
    pub count : at + piece-size * length (runs b) ≡ a₀ + piece-size * length (runs lo)
    pub rest : words-at l at (words b) ≡ words-at l₀ a₀ (words lo)
    pub long : length ms ≡ length ms₀
    pub mended : mended-runs k ms all (runs b) ≡ mended-runs k ms₀ all (runs lo)

  module _ (fits : hi ≤ length D) (b at : ℕ) (l bs ms : List ℕ) (f : Filled b at l bs ms) (in-range : b < hi) where
    -- a set bucket begins no run
    pub filled-on : (get_or bs b 0 ≡ 0 → ⊥) → Filled (b + 1) at l bs ms
    filled-on h =
        let here : 0 < get_or D b 0 = above_zero (get_or D b 0) (λ e. h (f.marked.same b (le_refl b) ∙ e)) in
        let same = past-run D hi fits b (λ g. here) in
        record {
          marked = mark-closed id hi D lo b bs f.marked fits in-range here;
          kept = f.kept;
          count = (rw same at f.count);
          rest = (rw same at f.rest);
          long = f.long;
          mended = (rw same at f.mended);
        }

    module _ (bs' : List ℕ) (j : ℕ) (m : MarksRun id hi b bs bs' j) where
      same-from : (n : ℕ) → b ≤ n → get_or D n 0 ≡ get_or bs n 0
      same-from n h = sym (f.marked.same n h)

      closed : j < hi → 0 < get_or D j 0
      closed h = rw (same-from j (omega (arith, m.past))) (m.closed h)

      ended : Ended (is-visible 0) D hi b j
      ended = run-ended D hi fits b j m.past m.within (λ n h g. same-from n h ∙ m.unset n h g) closed

      run : runs b ≡ span b j ∷ runs (j + 1)
      run = ended.run ∙ ap (λ (rs : List Span). span b j ∷ rs) (past-run D hi fits j closed)

      -- the run's buckets hold the id in the end
      pub run-holds : Holds all b j id
      run-holds = record {
        there = rw (written-long id (span lo hi) D) (omega (arith, m.within));
        holds = λ n h g.
            rw (← f.marked.rest) (written-there id b hi n bs (rw f.marked.long (omega (arith, m.within))) h (omega (arith, m.within)) (m.unset n h g));
      }

      marked-on : Marked id hi D lo (j + 1) bs'
      marked-on = go (ltb j hi) refl
        where
          there : Marked id hi D lo j bs'
          there = record { long = m.long ∙ f.marked.long; rest = m.rest ∙ f.marked.rest; same = λ n h. m.same n h ∙ f.marked.same n (omega (arith, m.past)) }

          go : (t : Bool) → ltb j hi ≡ t → Marked id hi D lo (j + 1) bs'
          go true e = let h = ltb-true j hi e in mark-closed id hi D lo j bs' there fits h (closed h)
          go false e = mark-past id hi D lo j bs' there (ltb-false j hi e)

      pub run-room : a₀ + piece-size * length (runs lo) ≤ length l₀ → at + piece-size ≤ length l
      run-room h = omega (arith, f.count, f.kept, ap length run)

      -- an unset one begins one: it is put, and mended
      pub filled-run : a₀ + piece-size * length (runs lo) ≤ length l₀ → (l' ms' : List ℕ) → l' ≡ words-at l at (depth-words v i p (span b j))
          → ms' ≡ mended k ms all b j → length ms' ≡ length ms → Filled (j + 1) (at + piece-size) l' bs' ms'
      unfolding mended-runs
      filled-run room l' ms' e q n =
          let long : length (words-at l at (depth-words v i p (span b j))) ≡ length l = length_at l at (depth-words v i p (span b j)) (run-room room) in
          rw e (record {
            marked = marked-on;
            kept = long ∙ f.kept;
            count = omega (arith, f.count, ap length run);
            rest = words-on l at (depth-words v i p (span b j)) (words (j + 1)) (run-room room) ∙ (rw run at f.rest);
            long = n ∙ f.long;
            mended = rw q (rw run at f.mended);
          })

  -- the range is done
  pub filled-end : (b at : ℕ) (l bs ms : List ℕ) → Filled b at l bs ms → hi ≤ b
      → (bs ≡ all) × (at ≡ a₀ + piece-size * length (runs lo)) × (l ≡ words-at l₀ a₀ (words lo)) × (ms ≡ mended-runs k ms₀ all (runs lo))
  unfolding mended-runs
  filled-end b at l bs ms f h =
      let none : runs b ≡ [] = runs-end (is-visible 0) D hi b h in (
        mark-done id hi D lo b bs f.marked h,
        omega (arith, f.count, ap length none),
        sym (words-none l at) ∙ (rw none at f.rest),
        (rw none at f.mended),
      )
