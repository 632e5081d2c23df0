-- What a list of segments is to one tile: a stretch, one more segment, and the loop over them.
use Rattle.std.proofs.Common.{◌≡◌, ap, true, List, [], ◌∷◌, Option, None, Some, ℕ, ◌+◌, ◌-◌, ◌/◌, ◌≤◌, ◌<◌, arith, eq-eqb}
use Rattle.rules.specs.Lists.{every}
use Rattle.rules.specs.Boxes.{Box, scene-tiles}
use Rattle.rules.specs.Spans.{Span}
use Rattle.rules.specs.Segments.{Segment, good-segment, Cut, cut_in}
use Rattle.cmd.specs.Good.{GoodAlpha}
use Rattle.segments.specs.Segs.{seg-at, segs}
use Rattle.segments.proofs.Laws.{Index, segs-end, segs-first, good-first, good-rest}
use Rattle.tile.specs.Telling.{Look, no-look, noticed, cover, see, look}

pub index-good : (s : Span) (o : Option ℕ) → Index o (s.end - s.first) → GoodAlpha s o
index-good s None p = tt
index-good s (Some a) p = p

module _ (w : ℕ) (v : Box) (row tile : ℕ) where
  module _ (c : Box) (k n : Look) (s : Segment) where
    module _ (h : s.row ≡ row + v.y0 / 4) (e : n ≡ cover w v row tile k s) where
      pub seen-away : [] ≡ cut_in v (scene-tiles v c) s → n ≡ see w v row tile c k s
      seen-away q = rw (eq-eqb s.row (row + v.y0 / 4) h, ← q) e

      pub seen-left : (x : Cut) → x ∷ [] ≡ cut_in v (scene-tiles v c) s → noticed w tile n x.stretch ≡ see w v row tile c k s
      seen-left x q =
          rw (eq-eqb s.row (row + v.y0 / 4) h, ← q) (ap (λ (u : Look). noticed w tile u x.stretch) e)

-- the loop over the segments from a to n, at segment i
pub record Looking (w : ℕ) (v c : Box) (row tile : ℕ) (ws : List ℕ) (a n : ℕ) (k : Look) (i : ℕ) : Type 0 where
  pub before : i ≤ n
  pub good : every good-segment (segs ws i (n - i)) ≡ true
  pub rest : look w v row tile c k (segs ws i (n - i)) ≡ look w v row tile c no-look (segs ws a (n - a))

module _ {w : ℕ} {v c : Box} {row tile : ℕ} {ws : List ℕ} {a n : ℕ} {k : Look} {i : ℕ} (l : Looking w v c row tile ws a n k i) where
  pub ended : n ≤ i → k ≡ look w v row tile c no-look (segs ws a (n - a))
  unfolding look
  ended h = rw (segs-end ws i n h) at l.rest

  module _ (h : i < n) where
    pub good-here : good-segment (seg-at ws i) ≡ true
    good-here = good-first ws i n h l.good

    one_more : look w v row tile c (see w v row tile c k (seg-at ws i)) (segs ws (i + 1) (n - (i + 1))) ≡ look w v row tile c no-look (segs ws a (n - a))
    unfolding look
    one_more = rw (segs-first ws i n h) at l.rest

    pub again : (k' : Look) (s : Segment) → s ≡ seg-at ws i → k' ≡ see w v row tile c k s → Looking w v c row tile ws a n k' (i + 1)
    again k' s e q =
        record {
          before = omega arith;
          good = good-rest ws i n h l.good;
          rest = rw (q, e) one_more;
        }
