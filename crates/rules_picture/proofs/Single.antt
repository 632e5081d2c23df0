-- Of an ordered list of segments, cut, at most one covers a tile of a row.
use Rattle.std.proofs.Common.{ℕ, ◌+◌, ◌-◌, ◌/◌, ◌≤◌, ◌<◌, arith, ◌≡◌, refl, sym, ◌∙◌, ap, true, ◌&&◌, List, [], ◌∷◌, ◌++◌, leb, ltb, eqb, leb-true, ltb-true, eqb-true}
use Rattle.rules.specs.Lists.{such, join}
use Rattle.rules.specs.Boxes.{Box, scene-tiles}
use Rattle.rules.specs.Spans.{span, covers, shifted, common, meeting, cut_at, cut_to}
use Rattle.rules.specs.Segments.{Segment, good-segment, follows, ordered-after, ordered, Cut, stretch-of, cut_in, cuts}
use Rattle.rules.proofs.All.{All, nil, cons, all_map, and_left, and_right}
use Rattle.rules.proofs.laws.Bounds.{good-facts}
use Rattle.rules_picture.proofs.Cases.{by, covers_low, covers_high}
use Rattle.rules_picture.proofs.Listed.{such-append}

-- s ends before t in its row, or is in an earlier row
pub record Before (s t : Segment) : Type 0 where
  pub rows : s.row ≤ t.row
  pub tiles : s.row ≡ t.row → s.end ≤ t.first

follow-facts : (s t : Segment) → follows s t ≡ true → Before s t
follow-facts s t e = by (ltb s.row t.row)
    (λ y. let h = ltb-true s.row t.row y in record { rows = omega arith; tiles = λ q. absurd (omega arith) })
    (λ n.
    let g : (eqb s.row t.row && leb s.end t.first) ≡ true = rw n at e in
    let a = eqb-true s.row t.row (and_left _ _ g) in
    let b = leb-true s.end t.first (and_right (eqb s.row t.row) _ g) in
    record { rows = omega arith; tiles = λ q. b })

before-later : (s t u : Segment) → t.first < t.end → Before s t → Before t u → Before s u
before-later s t u h a b =
    let p = a.rows in
    let q = b.rows in
    record {
      rows = omega arith;
      tiles = λ e. let x = a.tiles (omega arith) in let y = b.tiles (omega arith) in omega arith;
    }

-- an ordered list: each segment lies before all later ones
all-before : (s : Segment) (ss : List Segment) → All (λ (x : Segment). good-segment x ≡ true) ss → ordered-after s ss ≡ true → All (Before s) ss
all-before s [] a e = nil
all-before s (t ∷ ts) (cons g a) e =
    let h = follow-facts s t (and_left _ _ e) in
    let r = and_right (follows s t) (ordered-after t ts) e in
    cons h (all_map (λ (u : Segment). before-later s t u (good-facts t g).order h) (all-before t ts a r))

-- nothing, or one
pub data Single {A : Type 0} : List A → Type 0 where
  nothing : Single []
  one : (x : A) → Single (x ∷ [])

module _ (v c : Box) (row t : ℕ) where
  -- the tile of the row, in the scene, is one of the segment's
  record At (s : Segment) : Type 0 where
    in_row : s.row ≡ row + v.y0 / 4
    from : s.first ≤ t + v.x0 / 4
    to : t + v.x0 / 4 < s.end

  -- the cuts that cover the tile
  abbrev pub there : List Cut → List Cut
  there ks = such (λ (k : Cut). covers k.stretch.tiles t) (such (λ (k : Cut). eqb k.row row) ks)

  data Here (s : Segment) : List Cut → Type 0 where
    missed : Here s []
    hit : (k : Cut) → At s → Here s (k ∷ [])

  -- what is left of the span, made local
  here-span : (s : Segment) (k : Cut) → s.row - v.y0 / 4 ≡ k.row → v.y0 / 4 ≤ s.row
      → (k.stretch.tiles.first ≤ t → t < k.stretch.tiles.end → (s.first ≤ t + v.x0 / 4) × (t + v.x0 / 4 < s.end)) → Here s (there (k ∷ []))
  here-span s k e low f = by (eqb k.row row)
      (λ y. by (covers k.stretch.tiles t)
      (λ z.
      let q = eqb-true k.row row y in
      let g = f (covers_low k.stretch.tiles t z) (covers_high k.stretch.tiles t z) in
      rw (y, z) (hit _ (record { in_row = omega arith; from = g.0; to = g.1 })))
      (λ z. rw (y, z) missed))
      (λ n. rw n missed)

  here-cut : (s : Segment) → Here s (there (cut_in v (scene-tiles v c) s))
  unfolding cut_in cut_to meeting scene-tiles
  here-cut s =
      let low = (v.x0 + c.x0) / 4 in
      let m = common (span s.first s.end) (span low ((v.x0 + c.x1) / 4)) in
      by (leb ((v.y0 + c.y0) / 4) s.row && ltb s.row ((v.y0 + c.y1) / 4))
      (λ y.
      let top = leb-true ((v.y0 + c.y0) / 4) s.row (and_left _ _ y) in
      by (ltb m.first m.end)
      (λ z.
      rw (y, z)
      (here-span s
      (record { row = s.row - v.y0 / 4; stretch = shifted (v.x0 / 4) (cut_at (stretch-of s) m) })
      refl (omega arith) (λ p q. (omega arith, omega arith))))
      (λ n. rw (y, n) missed))
      (λ n. rw n missed)

  -- after a segment that has the tile, none has it
  apart : (s u : Segment) → At s → Before s u → At u → ⊥
  apart s u a b d =
      let e : s.row ≡ u.row = a.in_row ∙ sym d.in_row in
      let x = b.tiles e in
      omega (arith, a.to, d.from)

  there-join : (f : Segment → List Cut) (s : Segment) (ss : List Segment) → there (join f (s ∷ ss)) ≡ there (f s) ++ there (join f ss)
  there-join f s ss =
      ap (such (λ (k : Cut). covers k.stretch.tiles t)) (such-append (λ (k : Cut). eqb k.row row) (f s) (join f ss))
      ∙ such-append (λ (k : Cut). covers k.stretch.tiles t) (such (λ (k : Cut). eqb k.row row) (f s)) (such (λ (k : Cut). eqb k.row row) (join f ss))

  none-later : (s : Segment) → At s → {ss : List Segment} → All (Before s) ss → there (join (cut_in v (scene-tiles v c)) ss) ≡ []
  none-later s a nil = refl
  none-later s a (cons {x = u} {xs = us} b bs) =
      there-join (cut_in v (scene-tiles v c)) u us ∙ go (here-cut u) (none-later s a bs)
    where
      go : {ks ls : List Cut} → Here u ks → ls ≡ [] → ks ++ ls ≡ []
      go missed e = e
      go (hit k d) e = absurd (apart s u a b d)

  single-from : {s : Segment} {ks : List Cut} (ls : List Cut) → Here s ks → (At s → ls ≡ []) → Single ls → Single (ks ++ ls)
  single-from ls missed f r = r
  single-from ls (hit k a) f r = rw (f a) (one k)

  ordered-rest : (s : Segment) (ss : List Segment) → ordered-after s ss ≡ true → ordered ss ≡ true
  unfolding ordered
  ordered-rest s [] e = refl
  ordered-rest s (t ∷ ts) e = and_right (follows s t) (ordered-after t ts) e

  pub single : (ss : List Segment) → All (λ (x : Segment). good-segment x ≡ true) ss → ordered ss ≡ true → Single (there (cuts v c ss))
  unfolding cuts ordered
  single [] a e = nothing
  single (s ∷ ss) (cons g a) e =
      rw (there-join (cut_in v (scene-tiles v c)) s ss)
      (single-from (there (join (cut_in v (scene-tiles v c)) ss)) (here-cut s) (λ h. none-later s h (all-before s ss a e)) (single ss a (ordered-rest s ss e)))
