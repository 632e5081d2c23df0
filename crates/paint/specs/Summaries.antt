-- A row's depth summary as its record has it, and what it spares a fill.
use Rattle.std.specs.Prelude.{ℕ, ◌+◌, ◌*◌, ◌≤◌, ◌<◌, Bool, ◌&&◌, cond, List, [], ◌∷◌, length, get_or, leb, ltb, eqb}
use Rattle.std.specs.Prelude.{Option, None, Some}
use Rattle.sizes.specs.Sizes.{first-at, end-at, largest-at}
pub use Rattle.row.specs.Building.{good-summary}
use Rattle.rules.specs.Spans.{Span, span}
use Rattle.rules.specs.Depth.{Summary, can_skip, visible-runs}

-- words 2 to 4: the union's first tile and end, the largest id; 0 says that there is no union
abbrev pub summary-at : List ℕ → Summary
summary-at s =
    record { union = cond (eqb (get_or s largest-at 0) 0) None (Some (span (get_or s first-at 0) (get_or s end-at 0))); largest = get_or s largest-at 0 }

-- the span itself as its one run, none of width 0
abbrev pub whole_run : Span → List Span
whole_run s = cond (ltb s.first s.end) (s ∷ []) []

-- the summary says that nothing hides the span, and all of it lies within the buffer of n buckets, v tiles each
abbrev pub is_clear : ℕ → Summary → ℕ → ℕ → Span → Bool
is_clear v u n id s = can_skip u s id && leb s.end (v * n)

-- a fill's runs: the depth words are searched only where something may hide it
unfoldable pub shown_runs : ℕ → Summary → List ℕ → ℕ → Span → List Span
shown_runs v u bs id s = cond (is_clear v u (length bs) id s) (whole_run s) (visible-runs v bs id s)

-- bucket k, of w tiles, lies in the union
abbrev pub Inside : ℕ → Option Span → ℕ → Type 0
Inside w None k = ⊥
Inside w (Some v) k = (v.first ≤ w * k) × (w * k + w ≤ v.end)

-- a summary is sound for depth words: what is not 0 lies in the union and is at most the largest id
pub record Sound (w : ℕ) (u : Summary) (bs : List ℕ) : Type 0 where
  pub low : (k : ℕ) → get_or bs k 0 ≤ u.largest
  pub inside : (k : ℕ) → 0 < get_or bs k 0 → Inside w u.union k

-- a summary includes a depth fill of these buckets
pub record Included (w : ℕ) (u : Summary) (r : Span) (id : ℕ) : Type 0 where
  pub below : id ≤ u.largest
  pub inside : (k : ℕ) → r.first ≤ k → k < r.end → Inside w u.union k
