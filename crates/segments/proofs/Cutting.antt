-- Rule 4: a stretch cut to a span, and a segment cut to scene tiles.
use Rattle.std.proofs.Common.{◌≡◌, refl, Bool, true, false, cond, [], ◌∷◌, None, Some, ℕ, ◌-◌, ◌/◌, ◌≤◌, ◌<◌, arith, ltb, lt-ltb, le-ltb, le-leb, ltb-true}
use borrow.Author.Tests.{lt-leb}
use Rattle.rules.specs.Boxes.{Box}
use Rattle.rules.specs.Spans.{Span, span, common, meeting, Stretch, moved, shifted, cut_at, cut-when, cut_to}
use Rattle.rules.specs.Segments.{Segment, stretch-of, cut_in}

-- what is left of the stretch s inside the span b
pub record Left (b : Span) (s k : Stretch) : Type 0 where
  pub starts : s.tiles.first ≤ k.tiles.first
  pub inside : b.first ≤ k.tiles.first
  pub wide : k.tiles.first < k.tiles.end
  pub ends : k.tiles.end ≤ s.tiles.end
  pub within : k.tiles.end ≤ b.end
  pub index : k.alpha ≡ moved s.alpha (k.tiles.first - s.tiles.first)

module _ (b : Span) (s k : Stretch) where
  left_at : (common s.tiles b).first < (common s.tiles b).end → Left b s (cut_at s (common s.tiles b))
  left_at h =
      record {
        starts = omega arith;
        inside = omega arith;
        wide = h;
        ends = omega arith;
        within = omega arith;
        index = refl;
      }

  by-test : (t : Bool) → ltb (common s.tiles b).first (common s.tiles b).end ≡ t
      → Some k ≡ cut-when s (cond t (Some (common s.tiles b)) None) → Left b s k
  by-test true q e =
      let h : k ≡ cut_at s (common s.tiles b) = cc in
      rw h (left_at (ltb-true _ _ q))
  by-test false q e =
      let z : ◌≡◌ {A = ℕ} 0 1 = cc in
      absurd (omega arith)

  pub left_in : Some k ≡ cut_to b s → Left b s k
  unfolding cut_to meeting
  left_in e = by-test _ refl e

module _ (v b : Box) (s : Segment) where
  pub above : s.row < b.y0 → [] ≡ cut_in v b s
  unfolding cut_in
  above h = rw (lt-leb b.y0 s.row h)

  pub below : b.y0 ≤ s.row → b.y1 ≤ s.row → [] ≡ cut_in v b s
  unfolding cut_in
  below h g = rw (le-leb b.y0 s.row h, le-ltb s.row b.y1 g)

  module _ (h : b.y0 ≤ s.row) (g : s.row < b.y1) where
    pub beside : None ≡ cut_to (span b.x0 b.x1) (stretch-of s) → [] ≡ cut_in v b s
    unfolding cut_in
    beside e = rw (le-leb b.y0 s.row h, lt-ltb s.row b.y1 g, ← e)

    pub across : (k : Stretch) → Some k ≡ cut_to (span b.x0 b.x1) (stretch-of s)
        → record { row = s.row - v.y0 / 4; stretch = shifted (v.x0 / 4) k } ∷ [] ≡ cut_in v b s
    unfolding cut_in
    across k e = rw (le-leb b.y0 s.row h, lt-ltb s.row b.y1 g, ← e)
