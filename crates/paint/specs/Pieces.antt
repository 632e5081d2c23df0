-- What a step's pieces are, by the code's brush and the runs in a list.
use Rattle.std.specs.Prelude.{ℕ, zero, suc, ◌+◌, ◌-◌, ◌*◌, ◌≤◌, ◌<◌, List, [], ◌∷◌, ◌++◌, get_or}
use Rattle.rules.specs.Spans.{Span, span, moved}
use Rattle.rules.specs.Painting.{Piece}
use Rattle.span.specs.Spans.{Moves}
use Rattle.paint.specs.declared.pieces.Brush.{Brush}

-- a piece over the tiles r
abbrev pub brush-piece : Brush → Span → Piece
brush-piece b r =
    record {
      layer = b.layer;
      attribute = b.attrs_idx;
      tiles = r;
      alpha = moved b.alpha (r.first - b.first);
      nesting = b.nesting;
      panel = b.panel;
    }

-- a run at w tiles a unit, whose piece's numbers are all a u32's
pub record Fits (w : ℕ) (b : Brush) (r : Span) : Type 0 where
  pub small-first : r.first * w < 4294967296
  pub small-end : r.end * w < 4294967296
  pub begun : b.first ≤ r.first * w
  pub moves : Moves b.alpha (r.first * w - b.first)

-- the k-th of the runs at a list's start, two words each, and the first n of them
abbrev pub run_at : List ℕ → ℕ → Span
run_at l k = span (get_or l (2 * k) 0) (get_or l (2 * k + 1) 0)

unfoldable pub runs-at : ℕ → List ℕ → List Span
runs-at zero l = []
runs-at (suc n) l = runs-at n l ++ (run_at l n ∷ [])
