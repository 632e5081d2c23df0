-- Laws for callers: the segments of a list's words, their bounds as facts, and where a cut segment lies.
use Rattle.std.proofs.Common.{◌≡◌, refl, sym, ap, ◌∙◌, Bool, true, false, ◌&&◌, ◌||◌, not, cond, List, [], ◌∷◌, Option, None, Some, ℕ, zero, suc, ◌+◌, ◌-◌, ◌*◌, ◌/◌, ◌≤◌, ◌<◌, arith, leb, ltb, eqb, length, take, drop, leb-true, ltb-true}
use Rattle.rules.specs.Lists.{every, slice}
use Rattle.rules.specs.Answers.{Done, BadRecord, BadOrder}
use Rattle.rules.specs.Boxes.{Box, box, scene-tiles}
use Rattle.rules.specs.Spans.{span, Stretch, moved, shifted, cut_to}
use Rattle.rules.specs.Segments.{Segment, good-segment, ordered, judge-segments, alpha-of, stretch-of, Cut, localised, on_row, cut_in}
use Rattle.rules.proofs.All.{both}
use Rattle.segments.specs.declared.Scene.{Scene}
use Rattle.segments.specs.Segs.{seg-at, segs, segs-of, origin, bounds, Starts, SceneOf}
use Rattle.segments.proofs.Cutting.{Left, left_in}

-- the segments of a list's words
module _ (ws : List ℕ) where
  pub segs-length : (i k : ℕ) → length (segs ws i k) ≡ k
  unfolding segs
  segs-length i zero = refl
  segs-length i (suc k) = ap suc (segs-length (i + 1) k)

  pub segs-count : length (segs-of ws) ≡ length ws / 5
  segs-count = segs-length 0 (length ws / 5)

  by_count : (i k : ℕ) → k ≡ 0 → segs ws i k ≡ []
  unfolding segs
  by_count i k e = rw e

  by-more : (i k j : ℕ) → k ≡ suc j → segs ws i k ≡ seg-at ws i ∷ segs ws (i + 1) j
  unfolding segs
  by-more i k j e = rw e

  pub segs-end : (i n : ℕ) → n ≤ i → segs ws i (n - i) ≡ []
  segs-end i n h = by_count i (n - i) (omega arith)

  pub segs-first : (i n : ℕ) → i < n → segs ws i (n - i) ≡ seg-at ws i ∷ segs ws (i + 1) (n - (i + 1))
  segs-first i n h = by-more i (n - i) (n - (i + 1)) (omega arith)

  drop-segs : (j k n i m : ℕ) → n ≡ j + k → m ≡ i + j → drop j (segs ws i n) ≡ segs ws m k
  unfolding segs
  drop-segs zero k n i m p q = let a : n ≡ k = omega arith in let b : m ≡ i = omega arith in rw (a, b)
  drop-segs (suc j) k zero i m p q = absurd (omega arith)
  drop-segs (suc j) k (suc n) i m p q = drop-segs j k n (i + 1) m (omega arith) (omega arith)

  take-segs : (j n i : ℕ) → j ≤ n → take j (segs ws i n) ≡ segs ws i j
  unfolding segs
  take-segs zero n i h = refl
  take-segs (suc j) zero i h = absurd (omega arith)
  take-segs (suc j) (suc n) i h = ap (λ (t : List Segment). seg-at ws i ∷ t) (take-segs j n (i + 1) (omega arith))

  -- a range of the list is the words from there on
  pub segs-slice : (a b : ℕ) → a ≤ b → b ≤ length ws / 5 → segs ws a (b - a) ≡ slice a b (segs-of ws)
  segs-slice a b h g =
      sym
      (ap (take (b - a)) (drop-segs a (length ws / 5 - a) (length ws / 5) 0 a (omega arith) (omega arith))
      ∙ take-segs (b - a) (length ws / 5 - a) a (omega arith))

-- answer 4's bounds, as facts
pub record Good (s : Segment) : Type 0 where
  pub row : s.row < 8192
  pub order : s.first < s.end
  pub ends : s.end ≤ 8192
  pub index : s.alpha + 16 * (s.end - s.first) < 4294967296

pub good-facts : (s : Segment) → good-segment s ≡ true → Good s
good-facts s g =
    let k = leb s.kind 1 in
    let r = ltb s.row 8192 in
    let o = ltb s.first s.end in
    let e = leb s.end 8192 in
    let z = eqb s.kind 1 || eqb s.alpha 0 in
    let i = ltb (s.alpha + 16 * (s.end - s.first)) 4294967296 in
    let h5 = both (k && r && o && e && z) i g in
    let h4 = both (k && r && o && e) z h5.0 in
    let h3 = both (k && r && o) e h4.0 in
    let h2 = both (k && r) o h3.0 in
    let h1 = both k r h2.0 in
    record {
      row = ltb-true _ _ h1.1;
      order = ltb-true _ _ h2.1;
      ends = leb-true _ _ h3.1;
      index = ltb-true _ _ h5.1;
    }

-- a list that is judged good, and its segments
pub record Judged (ss : List Segment) : Type 0 where
  pub good : every good-segment ss ≡ true
  pub order : ordered ss ≡ true

by_tests : (ss : List Segment) (g o : Bool) → every good-segment ss ≡ g → ordered ss ≡ o → cond (not g) BadRecord (cond (not o) BadOrder Done) ≡ Done → Judged ss
by_tests ss true true p q e = record { good = p; order = q }
by_tests ss true false p q e = absurd (omega arith)
by_tests ss false o p q e = absurd (omega arith)

pub judged : (ss : List Segment) → judge-segments false ss ≡ Done → Judged ss
unfolding judge-segments
judged ss e = by_tests ss _ _ refl refl e

module _ (ws : List ℕ) (i n : ℕ) (h : i < n) (g : every good-segment (segs ws i (n - i)) ≡ true) where
  good-both : (good-segment (seg-at ws i) ≡ true) × (every good-segment (segs ws (i + 1) (n - (i + 1))) ≡ true)
  good-both =
      both (good-segment (seg-at ws i)) (every good-segment (segs ws (i + 1) (n - (i + 1))))
      (rw (segs-first ws i n h) at g)

  pub good-first : good-segment (seg-at ws i) ≡ true
  good-first = good-both.0

  pub good-rest : every good-segment (segs ws (i + 1) (n - (i + 1))) ≡ true
  good-rest = good-both.1

-- the clip box in scene tiles begins at or after the viewport's origin
pub starts : (v c : Box) → Starts v (scene-tiles v c)
unfolding scene-tiles
starts v c = record { left = omega arith; top = omega arith }

-- of the viewport only its origin matters
local_by : (v : Box) (r : ℕ) (m : Option Stretch) → localised (box v.x0 v.y0 0 0) r m ≡ localised v r m
local_by v r None = refl
local_by v r (Some k) = refl

by-origin : (v b : Box) (s : Segment) → cut_in (box v.x0 v.y0 0 0) b s ≡ cut_in v b s
unfolding cut_in
by-origin v b s = local_by v s.row (on_row b s (cut_to (span b.x0 b.x1) (stretch-of s)))

module _ {v c : Box} {s : Scene} (o : SceneOf v c s) where
  pub scene-starts : Starts (origin s) (bounds s)
  scene-starts =
      let h = starts v c in
      let p = ap (λ (b : Box). b.x0) o.corner in
      let q = ap (λ (b : Box). b.y0) o.corner in
      let l = ap (λ (b : Box). b.x0) o.area in
      let t = ap (λ (b : Box). b.y0) o.area in
      record { left = rw (p, l) h.left; top = rw (q, t) h.top }

  -- a segment cut in the code's scene is cut as rule 4 says
  pub cut-in-scene : (g : Segment) → cut_in (origin s) (bounds s) g ≡ cut_in v (scene-tiles v c) g
  cut-in-scene g =
      ap (λ (b : Box). cut_in (origin s) b g) o.area
      ∙ ap (λ (a : Box). cut_in a (scene-tiles v c) g) o.corner
      ∙ by-origin v (scene-tiles v c) g

-- an alpha index that n tiles on is still a u32
abbrev pub Index : Option ℕ → ℕ → Type 0
Index None n = Unit
Index (Some a) n = a + 16 * n < 4294967296

-- a cut segment: its row and its tiles lie in the scene tiles b, seen from the origin of v
pub record Landed (v b : Box) (k : Cut) : Type 0 where
  pub row : k.row < b.y1 - v.y0 / 4
  pub order : k.stretch.tiles.first < k.stretch.tiles.end
  pub ends : k.stretch.tiles.end ≤ 8192
  pub right : k.stretch.tiles.end ≤ b.x1 - v.x0 / 4
  pub index : Index k.stretch.alpha (k.stretch.tiles.end - k.stretch.tiles.first)

index_at : (t : Bool) (a n : ℕ) → a + 16 * n < 4294967296 → Index (cond t None (Some a)) n
index_at true a n h = tt
index_at false a n h = h

pub segment-index : (s : Segment) → Good s → Index (alpha-of s) (s.end - s.first)
segment-index s g = index_at (eqb s.kind 0) s.alpha (s.end - s.first) g.index

-- from a to b; cut to x, y
index-cut : (o : Option ℕ) (a b x y : ℕ) → a ≤ x → x < y → y ≤ b → Index o (b - a) → Index (moved o (x - a)) (y - x)
index-cut None a b x y h i j p = tt
index-cut (Some n) a b x y h i j p = omega arith

module _ (v b : Box) (s : Segment) (k : Cut) (g : Good s) (o : Starts v b) where
  landed_at : (j : Stretch) → b.y0 ≤ s.row → s.row < b.y1 → Left (span b.x0 b.x1) (stretch-of s) j
      → Landed v b (record { row = s.row - v.y0 / 4; stretch = shifted (v.x0 / 4) j })
  landed_at j h i l =
      let e : j.tiles.end - v.x0 / 4 - (j.tiles.first - v.x0 / 4) ≡ j.tiles.end - j.tiles.first = omega arith in
      record {
        row = omega arith;
        order = omega arith;
        ends = omega arith;
        right = omega arith;
        index = rw (e, l.index) (index-cut (alpha-of s) s.first s.end j.tiles.first j.tiles.end l.starts l.wide l.ends (segment-index s g));
      }

  none_left : {P : Type 0} → k ∷ [] ≡ [] → P
  none_left e = let z : ◌≡◌ {A = ℕ} 1 0 = ap length e in absurd (omega arith)

  by_rows : (t : Bool) → (leb b.y0 s.row && ltb s.row b.y1) ≡ t
      → (m : Option Stretch) → m ≡ cut_to (span b.x0 b.x1) (stretch-of s)
      → k ∷ [] ≡ localised v s.row (cond t m None) → Landed v b k
  by_rows true q (Some j) p e =
      let h = both (leb b.y0 s.row) (ltb s.row b.y1) q in
      let l = left_in (span b.x0 b.x1) (stretch-of s) j p in
      let i : k ≡ record { row = s.row - v.y0 / 4; stretch = shifted (v.x0 / 4) j } = cc in
      rw i (landed_at j (leb-true _ _ h.0) (ltb-true _ _ h.1) l)
  by_rows true q None p e = none_left e
  by_rows false q m p e = none_left e

  by-cut : k ∷ [] ≡ cut_in v b s → Landed v b k
  unfolding cut_in
  by-cut e = by_rows _ refl _ refl e

pub landed : (v b : Box) (s : Segment) (k : Cut) → good-segment s ≡ true → Starts v b → k ∷ [] ≡ cut_in v b s → Landed v b k
landed v b s k g o e = by-cut v b s k (good-facts s g) o e
