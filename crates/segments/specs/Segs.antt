-- Segments as words, five each, and the code's segments, scenes and cut segments as the rules'.
use Rattle.std.specs.Prelude.{Option, None, Some, ◌≡◌, false, cond, List, [], ◌∷◌, ℕ, zero, suc, ◌+◌, ◌*◌, ◌/◌, ◌≤◌, length, get_or, eqb}
use Rattle.rules.specs.Answers.{Done}
use Rattle.rules.specs.Boxes.{Box, box, scene-tiles}
use Rattle.rules.specs.Segments as rule
use Rattle.rules.specs.Segments.{Cut, judge-segments}
use Rattle.span.specs.Spans.{stretch}
use Rattle.segments.specs.declared.Segment.{Segment}
use Rattle.segments.specs.declared.Scene.{Scene}
use Rattle.segments.specs.declared.Placed.{Placed}

abbrev pub segment-of : Segment → rule.Segment
segment-of s = record { kind = s.kind; row = s.row; first = s.first; end = s.end; alpha = s.alpha }

-- segment i of the words
unfoldable pub seg-at : List ℕ → ℕ → rule.Segment
seg-at ws i =
    record {
      kind = get_or ws (5 * i) 0;
      row = get_or ws (5 * i + 1) 0;
      first = get_or ws (5 * i + 2) 0;
      end = get_or ws (5 * i + 3) 0;
      alpha = get_or ws (5 * i + 4) 0;
    }

-- k segments from i on
unfoldable pub segs : List ℕ → ℕ → ℕ → List rule.Segment
segs ws i zero = []
segs ws i (suc k) = seg-at ws i ∷ segs ws (i + 1) k

abbrev pub segs-of : List ℕ → List rule.Segment
segs-of ws = segs ws 0 (length ws / 5)

-- how many of some segments stand on row r
unfoldable pub on-row : ℕ → List rule.Segment → ℕ
on-row r [] = 0
on-row r (s ∷ ss) = cond (eqb s.row r) 1 0 + on-row r ss

-- good segments, in order, at most m of them on each row
pub record AtMost (m : ℕ) (ss : List rule.Segment) : Type 0 where
  pub judged : judge-segments false ss ≡ Done
  pub most : (r : ℕ) → on-row r ss ≤ m

-- the viewport's origin, and the clip box in scene tiles
abbrev pub origin : Scene → Box
origin s = box s.x s.y 0 0

abbrev pub bounds : Scene → Box
bounds s = box s.columns.first s.rows.first s.columns.end s.rows.end

-- what is left of a segment: nothing or one
abbrev pub placed_of : Option Placed → List Cut
placed_of None = []
placed_of (Some p) = record { row = p.row; stretch = stretch p.stretch } ∷ []

-- the scene tiles b begin at or after the origin of v
pub record Starts (v b : Box) : Type 0 where
  pub left : v.x0 / 4 ≤ b.x0
  pub top : v.y0 / 4 ≤ b.y0

-- the scene of the viewport v and the clip box c
pub record SceneOf (v c : Box) (s : Scene) : Type 0 where
  pub corner : origin s ≡ box v.x0 v.y0 0 0
  pub area : bounds s ≡ scene-tiles v c
