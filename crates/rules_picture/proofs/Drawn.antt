-- What the cuts of one draw add to what a row holds for the tile t: what plain draw order tells of them.
use Rattle.std.proofs.Common.{ℕ, suc, ◌+◌, ◌*◌, ◌/◌, ◌≤◌, ◌<◌, le_refl, suc-mul, arith, ◌≡◌, refl, Bool, true, false, cond, Option, None, Some, List, [], ◌∷◌, ◌++◌, length, replicate, leb, leb-true}
use mathlib.Core.List.{foldl}
use Rattle.rules.specs.Lists.{such, keep}
use Rattle.rules.specs.Boxes.{Box}
use Rattle.rules.specs.Spans.{Span, span, covers}
use Rattle.rules.specs.Split.{Part, regular, buckets, split}
use Rattle.rules.specs.Segments.{Cut}
use Rattle.rules.specs.Attributes.{Attrs}
use Rattle.rules.specs.Rows.{Row, row-ops, put-command, put-depth-fill}
use Rattle.rules.specs.Commands.{paint-fill, DepthFill}
use Rattle.rules.specs.Painting.{paint-id}
use Rattle.rules.specs.Plans.{opaque, draw-act}
use Rattle.rules.specs.Steps.{ensure, put-part, do-act}
use Rattle.rules.specs.Plain.{Told, whole-bucket, tell}
use Rattle.rules.proofs.All.{and_left, and_right}
use Rattle.rules_picture.proofs.Cases.{by, covers-yes}
use Rattle.rules_picture.proofs.Buckets.{from-bucket, from-bucket-before}
use Rattle.rules_picture.proofs.Shown.{hides-of}
use Rattle.rules_picture.proofs.Held.{stays}
use Rattle.rules_picture.proofs.Rows.{fill-told, paint-told, PaintHas}
use Rattle.rules_picture.proofs.SplitTile.{regular-hits, bucket-hits, whole-at, split-tile}
use Rattle.rules_picture.proofs.Acted.{Sound, Adds, adds_none, adds-both, paint-adds, depth-adds, ensure-adds, act-paint}

module _ (w : ℕ) (attrs : Attrs) (t : ℕ) where
  -- a solid piece of attribute i with no layer open, and a depth fill of it: their span does not matter to the tile
  abbrev solid-told : ℕ → Told
  solid-told i = paint-told w attrs t (span 0 0) None i 0

  abbrev depth-told : ℕ → Told
  depth-told i = fill-told w attrs t (record { buckets = span 0 0; attribute = i })

  parts_add : (i id : ℕ) → 0 < paint-id attrs i → paint-id attrs i ≤ id → (ps : List Part) (r : Row) → Sound r → length r.levels ≡ 0
      → Adds w attrs t (replicate (regular-hits t ps) (solid-told i)) (replicate (bucket-hits (t / w) ps) (depth-told i)) 0 r (foldl (put-part Row row-ops w i id) r ps)
  parts_add i id pos le [] r s z = rw z at (adds_none w attrs t r s)
  parts_add i id pos le (regular x ∷ ps) r s z =
      let a : Adds w attrs t (keep (covers x t) (solid-told i) []) [] 0 r (put-command (paint-fill x None i) r) = rw z at (paint-adds w attrs t x None i r s) in
      let b = parts_add i id pos le ps (put-command (paint-fill x None i) r) a.sound a.levels in
      let c = adds-both w attrs t a b in
      by (covers x t) (λ y. rw y (rw y at c)) (λ n. rw n (rw n at c))
  parts_add i id pos le (buckets x ∷ ps) r s z =
      let f : DepthFill = record { buckets = x; attribute = i } in
      let a : Adds w attrs t [] (keep (covers x (t / w)) (depth-told i) []) 0 r (put-depth-fill w f id r) = rw z at (depth-adds w attrs t f id r s pos le) in
      let b = parts_add i id pos le ps (put-depth-fill w f id r) a.sound a.levels in
      let c = adds-both w attrs t a b in
      by (covers x (t / w)) (λ y. rw y (rw y at c)) (λ n. rw n (rw n at c))

  -- an eligible solid span: a depth fill where it covers the whole bucket, a command where it does not
  opaque-adds : 0 < w → (s : Span) (i id : ℕ) → 0 < paint-id attrs i → paint-id attrs i ≤ id → (r : Row) → Sound r → length r.levels ≡ 0
      → Adds w attrs t
      (replicate (cond (covers s t) (cond (whole-at w (t / w) s) 0 1) 0) (solid-told i))
      (replicate (cond (whole-at w (t / w) s) 1 0) (depth-told i))
      0 r (do-act Row row-ops w 0 (opaque s i id) r)
  unfolding do-act
  opaque-adds pos s i id num le r k z =
      let hit = split-tile w t (t / w) s pos (from-bucket w pos (le_refl (t / w))) (from-bucket-before w pos (le_refl (suc (t / w)))) in
      let e = ensure-adds w attrs t 0 r k (omega arith) in
      let p = parts_add i id num le (split w s) (ensure Row row-ops 0 r) e.sound e.levels in
      rw (hit.regular-one, hit.bucket-one) at (adds-both w attrs t e p)

  module _ (v : Box) (row : ℕ) where
    pub same_whole : (s : Span) → whole-at w (t / w) s ≡ whole-bucket w v row t s
    same_whole s = rw (suc-mul (t / w) w)

    whole_covers : 0 < w → (s : Span) → whole-bucket w v row t s ≡ true → covers s t ≡ true
    whole_covers pos s e =
        let a = leb-true s.first (t / w * w) (and_left _ _ e) in
        let b = leb-true (t / w * w + w) s.end (and_right (leb s.first (t / w * w)) _ e) in
        let c = from-bucket w pos (le_refl (t / w)) in
        let d : t < suc (t / w) * w = from-bucket-before w pos (le_refl (suc (t / w))) in
        let m = suc-mul (t / w) w in
        covers-yes s t (omega arith) (omega arith)

    -- what is told of one cut
    abbrev pub cut-told : Bool → ℕ → ℕ → ℕ → ℕ → Bool → Cut → List Told
    cut-told l i q n id e k = tell w v row t l i q n id e (k ∷ [])

    pub told-cons : (l : Bool) (i q n id : ℕ) (e : Bool) (k : Cut) (ks : List Cut) → tell w v row t l i q n id e (k ∷ ks) ≡ cut-told l i q n id e k ++ tell w v row t l i q n id e ks
    told-cons l i q n id e k ks = by (covers k.stretch.tiles t) (λ y. rw y) (λ m. rw m)

    -- one cut, drawn with n layers open
    pub cut-adds : 0 < w → (e : Bool) (i q id n : ℕ) → PaintHas attrs i id q → 0 < id → (e ≡ true → n ≡ 0) → (j : ℕ) (x : Span) (a : Option ℕ) (r : Row) → Sound r → length r.levels ≤ n
        → Adds w attrs t
        (such stays (cut-told false i q n id e (record { row = j; stretch = record { tiles = x; alpha = a } })))
        (such hides-of (cut-told false i q n id e (record { row = j; stretch = record { tiles = x; alpha = a } })))
        n r (do-act Row row-ops w n (draw-act e i id x a) r)
    unfolding draw-act
    cut-adds pos true i q id n has num z j x None r s h =
        let o : n ≡ 0 = z refl in
        let m = has.id-is in
        let p : 0 < paint-id attrs i = omega arith in
        let le : paint-id attrs i ≤ id = omega arith in
        let l : length r.levels ≡ 0 = omega arith in
        let c = rw (same_whole x, m, has.panel-is) at (opaque-adds pos x i id p le r s l) in
        rw o (by (whole-bucket w v row t x)
        (λ y. let u = whole_covers pos x y in rw (u, y) (rw (u, y) at c))
        (λ m. by (covers x t) (λ u. rw (u, m) (rw (u, m) at c)) (λ u. rw u (rw (u, m) at c))))
    cut-adds pos true i q id n has num z j x (Some a) r s h =
        let c = rw (has.id-is, has.panel-is) at (act-paint w attrs t n x (Some a) i r s h) in
        by (covers x t) (λ u. rw u (rw u at c)) (λ u. rw u (rw u at c))
    cut-adds pos false i q id n has num z j x a r s h =
        let c = rw (has.id-is, has.panel-is) at (act-paint w attrs t n x a i r s h) in
        by (covers x t) (λ u. rw u (rw u at c)) (λ u. rw u (rw u at c))
