use Rattle.std.proofs.Common.{◌≡◌, refl, sym, ◌∙◌, true, List, ℕ, zero, suc, ◌<◌, ◌≤◌, ◌+◌, ◌*◌, le_refl, arith, length, length-set, le-leb}
use borrow.Author.Tests.{lt-leb}
use Rattle.rules.specs.Spans.{span}
use Rattle.rules.specs.Depth.{is-visible, runs-in}
use Rattle.depth.specs.Listing.{done, listing, open-runs}
use Rattle.depth.proofs.Searching.{Stopped, reach-first, reach-more, stop-closed, stop-end}
use Rattle.depth.proofs.Filling.{Filled, fill-first, fill-skip, fill-room, fill_more, fill_end, map_same}
use Rattle.depth.proofs.Marking.{Marked, mark-first, mark-done, mark-open, mark-closed}
use Rattle.depth.proofs.runs.mark_runs.Invariants.{as-it-is}
use Rattle.depth.proofs.runs.mark_runs.Goals as goal
use Rattle.depth.proofs.runs.mark_runs.Goals.{Joined-hi-next, Else-found-eq0, then-hi-next, else-hi-next+then-found-gt0}

le-zero : (n : ℕ) → n ≤ 0 → n ≡ 0
le-zero n h = omega arith

unset-open : (n : ℕ) → n ≡ 0 → is-visible 0 n ≡ true
unset-open n e = le-leb n 0 (omega arith)

above_zero : (n : ℕ) → (n ≡ 0 → ⊥) → 0 < n
above_zero zero h = absurd (h refl)
above_zero (suc n) h = omega arith

-- where the search has come to hi, the list holds the unset runs
listed : (bs : List ℕ) (lo hi : ℕ) (l₀ : List ℕ) (i n : ℕ) (l : List ℕ) → Filled (is-visible 0) bs lo hi as-it-is l₀ i n l
    → length (runs-in (is-visible 0) bs (span lo hi)) * 2 ≤ length l₀ → hi ≤ i → done n l ≡ listing (open-runs bs lo hi) l₀
listed bs lo hi l₀ i n l s r h = fill_end (is-visible 0) bs lo hi as-it-is l₀ i n l s r h ∙ rw (map_same (runs-in (is-visible 0) bs (span lo hi)))

pub returns-then-hi-lo-clause-list_after : goal.returns-then-hi-lo-clause-list_after
returns-then-hi-lo-clause-list_after c = listed c.args.depth.now c.args.lo c.args.hi c.args.list.now _ _ _ (fill-first _ _ _ _ _ _) c.requires.hi_in_bounds_2 c.if-hi-lo.true

pub returns-then-hi-lo-clause-depth_after : goal.returns-then-hi-lo-clause-depth_after
returns-then-hi-lo-clause-depth_after c = mark-done _ _ _ _ _ _ (mark-first _ _ _ _) c.if-hi-lo.true

pub loop-next-preserved : goal.loop-next-preserved
loop-next-preserved c = λ bs₀ fits w.
    let so_far = c.loop-next.invariant bs₀ fits w in
    let in-range = c.if-hi-next.false in
    let unset = sym (so_far.1.same _ (le_refl _)) ∙ le-zero _ c.if-found-gt0.false in
    (reach-more (is-visible 0) bs₀ _ fits _ _ so_far.0 in-range (unset-open _ unset), mark-open _ _ bs₀ _ _ _ so_far.1 fits in-range unset)

-- where the inner loop is left, by either way, its value is the run's end, and what was read last is carried on
stopped : (c : Joined-hi-next) → Stopped (is-visible 0) c.args.depth.now c.args.hi c.loop-at.at c.if-hi-next.stop c.if-hi-next.found
    × Marked c.args.draw_id c.args.hi c.args.depth.now c.args.lo c.if-hi-next.stop c.loop-next.depth
stopped c =
    let fits = c.requires.hi_in_bounds in
    let in-range = c.loop-at-test.true in
    let unset = sym (c.loop-at.invariant.2 in-range) ∙ c.if-found-eq0.true in
    -- the run's first bucket is written, and so is the run in the inner loop
    let so_far = c.loop-next.invariant c.args.depth.now fits (
      reach-first (is-visible 0) _ _ fits _ in-range (unset-open _ unset),
      mark-open _ _ _ _ _ _ c.loop-at.invariant.1 fits in-range unset,
    ) in
    let same = so_far.1.same _ (le_refl _) in
    elim c.if-hi-next.branch [
      | then-hi-next w ↦ rw w.stop-is (stop-end (is-visible 0) _ _ fits _ _ _ so_far.0 w.if-hi-next.true, so_far.1)
      | else-hi-next+then-found-gt0 w ↦ rw (w.found-is ∙ same, w.stop-is) (
        stop-closed (is-visible 0) _ _ fits _ _ so_far.0 w.if-hi-next.false (lt-leb _ _ (rw same at w.if-found-gt0.true)),
        so_far.1,
      )
    ]

-- the run's two words are within the list
room : (c : Joined-hi-next) → c.loop-at.n * 2 + 1 < length c.loop-at.list
room c = fill-room (is-visible 0) _ _ _ as-it-is _ _ _ _ c.loop-at.invariant.0 c.requires.hi_in_bounds_2 _ (stopped c).0.ended

pub bounds-list-k : goal.bounds-list-k
bounds-list-k c = omega (arith, room (goal.at.bounds-list-k c).Joined-hi-next)

pub overflow_cast-list-then-found-eq0 : goal.overflow_cast-list-then-found-eq0
overflow_cast-list-then-found-eq0 c = omega (arith, (stopped (goal.at.overflow_cast-list-then-found-eq0 c).Joined-hi-next).0.ended.within)

pub bounds-list-k-then-found-eq0 : goal.bounds-list-k-then-found-eq0
bounds-list-k-then-found-eq0 c = simp length-set (room (goal.at.bounds-list-k-then-found-eq0 c).Joined-hi-next)

pub loop-at-smaller-then-found-eq0 : goal.loop-at-smaller-then-found-eq0
loop-at-smaller-then-found-eq0 c =
    let run = (stopped (goal.at.loop-at-smaller-then-found-eq0 c).Joined-hi-next).0.ended in
    omega (arith, run.past, run.within)

pub loop-at-preserved-then-found-eq0 : goal.loop-at-preserved-then-found-eq0
loop-at-preserved-then-found-eq0 c =
    let at-stop = stopped (goal.at.loop-at-preserved-then-found-eq0 c).Joined-hi-next in
    (fill_more (is-visible 0) _ _ _ as-it-is _ _ _ _ c.loop-at.invariant.0 _ _ _ at-stop.0.ended refl refl, at-stop.1, at-stop.0.carried)

-- a set bucket starts no run, and stays
passed : (c : Else-found-eq0) → Filled (is-visible 0) c.args.depth.now c.args.lo c.args.hi as-it-is c.args.list.now (c.loop-at.at + 1) c.loop-at.n c.loop-at.list
    × Marked c.args.draw_id c.args.hi c.args.depth.now c.args.lo (c.loop-at.at + 1) c.loop-at.depth
passed c =
    let fits = c.requires.hi_in_bounds in
    let in-range = c.loop-at-test.true in
    let inv = c.loop-at.invariant in
    let taken = rw (inv.2 in-range) at (above_zero _ c.if-found-eq0.false) in
    (fill-skip (is-visible 0) _ _ _ as-it-is _ _ _ _ inv.0 fits in-range (lt-leb _ _ taken), mark-closed _ _ _ _ _ _ inv.1 fits in-range taken)

pub loop-at-preserved-then-at-hi : goal.loop-at-preserved-then-at-hi
loop-at-preserved-then-at-hi c = let on = passed (goal.at.loop-at-preserved-then-at-hi c).Else-found-eq0 in (on.0, on.1, λ h. on.1.same _ (le_refl _))

pub loop-at-preserved : goal.loop-at-preserved
loop-at-preserved c = let on = passed (goal.at.loop-at-preserved c).Else-found-eq0 in (on.0, on.1, λ h. absurd (omega arith))

pub returns-clause-list_after : goal.returns-clause-list_after
returns-clause-list_after c = let inv = c.loop-at.invariant in listed c.args.depth.now c.args.lo c.args.hi c.args.list.now _ _ _ inv.0 c.requires.hi_in_bounds_2 c.loop-at-test.false

pub returns-clause-depth_after : goal.returns-clause-depth_after
returns-clause-depth_after c = let inv = c.loop-at.invariant in mark-done _ _ _ _ _ _ inv.1 c.loop-at-test.false
