-- What the search for a run finds.
use Rattle.std.specs.Prelude.{ℕ, ◌≡◌, ◌+◌, ◌≤◌, ◌<◌, List, [], ◌∷◌, slice_index}
use Rattle.rules.specs.Spans.{span}
use Rattle.rules.specs.Depth.{is-visible, runs-in}
use Rattle.depth.specs.declared.search.Run.{Run}

-- r is the first run of the buckets from `from` to hi: those before it are closed, its own are open, its end is closed, and the runs after it are those from the bucket past its end on
pub record NextRun (bs : List ℕ) (from hi ceiling : ℕ) (r : Run) : Type 0 where
  pub after : from ≤ r.first
  pub some : r.first < r.end
  pub within : r.end ≤ hi
  pub passed : (k : ℕ) → from ≤ k → k < r.first → ceiling < slice_index bs k
  pub shown : (k : ℕ) → r.first ≤ k → k < r.end → slice_index bs k ≤ ceiling
  pub closed : r.end < hi → ceiling < slice_index bs r.end
  pub runs : runs-in (is-visible ceiling) bs (span from hi) ≡ span r.first r.end ∷ runs-in (is-visible ceiling) bs (span (r.end + 1) hi)

-- no bucket from `from` to hi is open
pub record NoRun (bs : List ℕ) (from hi ceiling : ℕ) : Type 0 where
  pub passed : (k : ℕ) → from ≤ k → k < hi → ceiling < slice_index bs k
  pub runs : runs-in (is-visible ceiling) bs (span from hi) ≡ []
