-- One search for the next run. Assumes nothing.
use Rattle.std.proofs.Common.{◌≡◌, sym, ◌∙◌, List, ℕ, ◌≤◌, ◌<◌, ◌+◌, arith, length, get_or, le-leb, below_more}
use borrow.Author.Tests.{lt-leb}
use Rattle.rules.specs.Spans.{span}
use Rattle.rules.specs.Depth.{is-visible, runs-in}
use Rattle.depth.specs.Searching.{NoRun, NextRun}
use Rattle.depth.proofs.Searching.{Reached, Ended, reach-first, reach-more, reach-closed, reach-end, runs_closed, runs-end}

module _ (bs : List ℕ) (hi ceiling from : ℕ) where
  -- the buckets from `from` to `first` are closed
  pub record Before (first : ℕ) : Type 0 where
    pub after : from ≤ first
    pub passed : (k : ℕ) → from ≤ k → k < first → ceiling < get_or bs k 0
    pub rest : runs-in (is-visible ceiling) bs (span from hi) ≡ runs-in (is-visible ceiling) bs (span first hi)

  -- .. and those from it to `next` are open
  pub record Within (first next : ℕ) : Type 0 where
    pub before : Before first
    pub reached : Reached (is-visible ceiling) bs hi first next
    pub shown : (k : ℕ) → first ≤ k → k < next → get_or bs k 0 ≤ ceiling

  module _ (fits : hi ≤ length bs) (first : ℕ) (b : Before first) (h : first < hi) where
    pub before-more : ceiling < get_or bs first 0 → Before (first + 1)
    before-more e =
        record {
          after = omega (arith, b.after);
          passed = λ k g l. below_more (λ k. from ≤ k → ceiling < get_or bs k 0) first (λ k l g. b.passed k g l) (λ g. e) k l g;
          rest = b.rest ∙ runs_closed (is-visible ceiling) bs hi fits first h (lt-leb _ _ e);
        }

    pub within-first : get_or bs first 0 ≤ ceiling → Within first (first + 1)
    within-first e =
        record {
          before = b;
          reached = reach-first (is-visible ceiling) bs hi fits first h (le-leb _ _ e);
          shown = λ k g l. let q : k ≡ first = omega arith in rw q e;
        }

  module _ (fits : hi ≤ length bs) (first next : ℕ) (w : Within first next) where
    pub within-more : next < hi → get_or bs next 0 ≤ ceiling → Within first (next + 1)
    within-more h e =
        record {
          before = w.before;
          reached = reach-more (is-visible ceiling) bs hi fits first next w.reached h (le-leb _ _ e);
          shown = λ k g l. below_more (λ k. first ≤ k → get_or bs k 0 ≤ ceiling) next (λ k l g. w.shown k g l) (λ g. e) k l g;
        }

    found : Ended (is-visible ceiling) bs hi first next → (next < hi → ceiling < get_or bs next 0) → runs-in (is-visible ceiling) bs (span next hi) ≡ runs-in (is-visible ceiling) bs (span (next + 1) hi)
        → NextRun bs from hi ceiling (record { first = first; end = next })
    found e z q =
        record {
          after = w.before.after;
          some = omega (arith, e.past);
          within = e.within;
          passed = w.before.passed;
          shown = w.shown;
          closed = z;
          runs = w.before.rest ∙ e.run ∙ rw q;
        }

    pub found-end : hi ≤ next → NextRun bs from hi ceiling (record { first = first; end = next })
    found-end h =
        found
        (reach-end (is-visible ceiling) bs hi fits first next w.reached h)
        (λ k. absurd (omega arith))
        (runs-end (is-visible ceiling) bs hi next h ∙ sym (runs-end (is-visible ceiling) bs hi (next + 1) (omega arith)))

    pub found-closed : next < hi → ceiling < get_or bs next 0 → NextRun bs from hi ceiling (record { first = first; end = next })
    found-closed h e =
        found
        (reach-closed (is-visible ceiling) bs hi fits first next w.reached h (lt-leb _ _ e))
        (λ k. e)
        (runs_closed (is-visible ceiling) bs hi fits next h (lt-leb _ _ e))

  pub none-left : (first : ℕ) → Before first → hi ≤ first → NoRun bs from hi ceiling
  none-left first b h =
      record { passed = λ k g l. b.passed k g (omega arith); runs = b.rest ∙ runs-end (is-visible ceiling) bs hi first h }
