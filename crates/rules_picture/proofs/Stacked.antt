-- The buffers of plain draw order and those of one row, step by step: the same, but for blank ones that the row has not pushed yet.
use Rattle.std.proofs.Common.{ℕ, zero, suc, ◌+◌, ◌-◌, ◌/◌, ◌≤◌, ◌<◌, le_refl, arith, ◌≡◌, refl, sym, ◌∙◌, ap, Bool, true, false, cond, Option, None, Some, List, [], ◌∷◌, ◌++◌, map, append-nil, length, leb, le-leb}
use Rattle.rules.specs.Lists.{such, is-empty, some_of}
use Rattle.rules.specs.Boxes.{Box}
use Rattle.rules.specs.Spans.{Span, covers}
use Rattle.rules.specs.Split.{split}
use Rattle.rules.specs.Segments.{Cut}
use Rattle.rules.specs.Attributes.{Attrs}
use Rattle.rules.specs.Rows.{Row, row-ops, put-command}
use Rattle.rules.specs.Commands.{layer-fill}
use Rattle.rules.specs.Painting.{Entry, paint-id, layer-id}
use Rattle.rules.specs.Plans.{draw-act}
use Rattle.rules.specs.Steps.{ensure, do-act}
use Rattle.rules.specs.Plain.{Told, OpenLayer, tell, whole-bucket}
use Rattle.rules.proofs.All.{All, nil, cons}
use Rattle.rules_picture.specs.Colours.{Colours, drawn, Opaque}
use Rattle.rules_picture.specs.StoredColours.{commands-drawn}
use Rattle.rules_picture.proofs.Cases.{by}
use Rattle.rules_picture.proofs.Buckets.{from-bucket, from-bucket-before}
use Rattle.rules_picture.proofs.Shown.{hides-of, newest-hide, hider, newest-below, newest-last, all-such}
use Rattle.rules_picture.proofs.Held.{stays}
use Rattle.rules_picture.proofs.Acts.{do-acts}
use Rattle.rules_picture.proofs.Rows.{entry-told, told-fills, PaintHas, LayerHas}
use Rattle.rules_picture.proofs.SplitTile.{split-tile}
use Rattle.rules_picture.proofs.Acted.{Sound}
use Rattle.rules_picture.proofs.Drawn.{cut-told, told-cons, cut-adds, same_whole}
use Rattle.rules_picture.proofs.Listed.{cut-act, such-append}
use Rattle.rules_picture.proofs.Single.{Single, nothing, one}
use Rattle.rules_picture.proofs.Holds.{Holds}
use Rattle.rules_picture.proofs.Grown.{close-act}
use Rattle.rules_picture.proofs.Comes.{drawn-append}
use Rattle.rules_picture.proofs.Changes.{lifted, buffers-only, all-older, Change, change-none, change-both, change-to, paint-change, close-change, ensure-change, parts-change}

abbrev pub entries : List Told → List Entry
entries ts = map entry-told ts

entries-append : (ts us : List Told) → entries (ts ++ us) ≡ entries ts ++ entries us
entries-append [] us = refl
entries-append (t ∷ ts) us = ap (λ (es : List Entry). t.entry ∷ es) (entries-append ts us)

some-last : (ts : List Told) (u : Told) → u.hides ≡ true → some_of hides-of (ts ++ (u ∷ [])) ≡ true
some-last [] u y = rw y
some-last (t ∷ ts) u y = by t.hides (λ z. rw z) (λ z. rw z (some-last ts u y))

hider-last : (ts : List Told) (u : Told) → u.hides ≡ true → hider (ts ++ (u ∷ [])) ≡ u ∷ []
unfolding hider
hider-last [] u y = rw y
hider-last (t ∷ ts) u y = rw (some-last ts u y) (hider-last ts u y)

module _ {B : Type 0} (c : Colours B) where
  -- drawn where they are no older than b
  abbrev pub draws-if : ℕ → ℕ → List Told → List B → List B
  draws-if b id ts bs = cond (leb b id) (drawn c (entries ts) bs) bs

  if-both : (b id : ℕ) (ts us : List Told) (bs : List B) → draws-if b id us (draws-if b id ts bs) ≡ draws-if b id (ts ++ us) bs
  if-both b id ts us bs = by (leb b id)
      (λ y. rw y (sym (ap (λ (es : List Entry). drawn c es bs) (entries-append ts us) ∙ drawn-append c (entries ts) (entries us) bs)))
      (λ n. rw n)

  pub if-none : (b id : ℕ) (bs : List B) → bs ≡ draws-if b id [] bs
  unfolding drawn
  if-none b id bs = by (leb b id) (λ y. rw y) (λ n. rw n)

  pub lifted-add : (m n : ℕ) (bs : List B) → lifted c m (lifted c n bs) ≡ lifted c (m + n) bs
  lifted-add zero n bs = let e : zero + n ≡ n = omega arith in rw e
  lifted-add (suc m) n bs = let e : suc m + n ≡ suc (m + n) = omega arith in rw e (ap (λ (ds : List B). c.blank ∷ ds) (lifted-add m n bs))

  module _ (w : ℕ) (attrs : Attrs) (t : ℕ) (v : Box) (row : ℕ) where
    abbrev pub told-of : Bool → ℕ → ℕ → ℕ → ℕ → Bool → List Cut → List Told
    told-of l i q n id e ks = tell w v row t l i q n id e ks

    -- one cut, drawn with n layers open
    cut-change : 0 < w → (e : Bool) (i q id n : ℕ) → PaintHas attrs i id q → (e ≡ true → n ≡ 0) → (j : ℕ) (x : Span) (a : Option ℕ) (r : Row)
        → Change c w attrs t
        (λ b bs. draws-if b id (such stays (cut-told w attrs t v row false i q n id e (record { row = j; stretch = record { tiles = x; alpha = a } }))) (lifted c (n - length r.levels) bs))
        (λ bs. lifted c (n - length r.levels) bs)
        r (do-act Row row-ops w n (draw-act e i id x a) r)
    unfolding draw-act do-act drawn
    cut-change pos true i q id n has z j x None r =
        let hit = split-tile w t (t / w) x pos (from-bucket w pos (le_refl (t / w))) (from-bucket-before w pos (le_refl (suc (t / w)))) in
        let p = parts-change c w attrs t i id (split w x) (ensure Row row-ops n r) in
        let m = has.id-is in
        change-to c w attrs t
        (λ b bs.
        rw (hit.regular-one, same_whole w attrs t v row x)
        (by (covers x t)
        (λ y. by (whole-bucket w v row t x) (λ u. rw (y, u) (if-none b id _)) (λ u. rw (y, u, m)))
        (λ y. rw y (if-none b id _))))
        (λ bs. refl)
        (change-both c w attrs t (ensure-change c w attrs t n r) p)
    cut-change pos true i q id n has z j x (Some a) r =
        let m = has.id-is in
        change-to c w attrs t
        (λ b bs. rw m (by (covers x t) (λ y. rw y) (λ y. rw y (if-none b id _))))
        (λ bs. refl)
        (change-both c w attrs t (ensure-change c w attrs t n r) (paint-change c w attrs t x (Some a) i (ensure Row row-ops n r)))
    cut-change pos false i q id n has z j x a r =
        let m = has.id-is in
        change-to c w attrs t
        (λ b bs. rw m (by (covers x t) (λ y. rw y) (λ y. rw y (if-none b id _))))
        (λ bs. refl)
        (change-both c w attrs t (ensure-change c w attrs t n r) (paint-change c w attrs t x a i (ensure Row row-ops n r)))

    -- the cuts of one draw
    pub draws-change : 0 < w → (e : Bool) (i q id n : ℕ) → PaintHas attrs i id q → 0 < id → (e ≡ true → n ≡ 0) → (ks : List Cut) (r : Row) → Sound r → length r.levels ≤ n
        → Change c w attrs t
        (λ b bs. draws-if b id (such stays (told-of false i q n id e ks)) (lifted c (cond (is-empty ks) 0 (n - length r.levels)) bs))
        (λ bs. lifted c (cond (is-empty ks) 0 (n - length r.levels)) bs)
        r (do-acts Row row-ops w n (map (cut-act e i id) ks) r)
    unfolding do-acts
    draws-change pos e i q id n has num z [] r s h = change-to c w attrs t (λ b bs. if-none b id bs) (λ bs. refl) (change-none c w attrs t r)
    draws-change pos e i q id n has num z (k ∷ ks) r s h =
        let a = cut-adds w attrs t v row pos e i q id n has num z k.row k.stretch.tiles k.stretch.alpha r s h in
        let x = cut-change pos e i q id n has z k.row k.stretch.tiles k.stretch.alpha r in
        let mid = do-act Row row-ops w n (cut-act e i id k) r in
        let m : length mid.levels ≡ n = a.levels in
        let y = draws-change pos e i q id n has num z ks mid a.sound (omega arith) in
        let u : cond (is-empty ks) 0 (n - length mid.levels) ≡ 0 = let f : n - length mid.levels ≡ 0 = omega arith in rw f (same (is-empty ks)) in
        let first = such stays (cut-told w attrs t v row false i q n id e k) in
        let more = such stays (told-of false i q n id e ks) in
        let split-up : such stays (told-of false i q n id e (k ∷ ks)) ≡ first ++ more =
        ap (such stays) (told-cons w attrs t v row false i q n id e k ks) ∙ such-append stays (cut-told w attrs t v row false i q n id e k) (told-of false i q n id e ks) in
        change-to c w attrs t
        (λ b bs. rw (u, split-up) (if-both b id first more (lifted c (n - length r.levels) bs)))
        (λ bs. rw u)
        (change-both c w attrs t x y)
      where
        same : (b : Bool) → ◌≡◌ {A = ℕ} (cond b 0 0) 0
        same true = refl
        same false = refl

    -- the closing fills of a layer
    pub closes-change : (n m i q id : ℕ) → LayerHas attrs i id q → (ks : List Cut) (r : Row)
        → Change c w attrs t (λ b bs. draws-if b id (told-of true i q m id false ks) bs) (λ bs. bs) r (do-acts Row row-ops w n (map (close-act w attrs t v row i) ks) r)
    unfolding do-acts do-act drawn
    closes-change n m i q id has [] r = change-to c w attrs t (λ b bs. if-none b id bs) (λ bs. refl) (change-none c w attrs t r)
    closes-change n m i q id has (k ∷ ks) r =
        let x = close-change c w attrs t k.stretch.tiles k.stretch.alpha i r in
        let y = closes-change n m i q id has ks (put-command (layer-fill k.stretch.tiles k.stretch.alpha i) r) in
        let ids = has.id-is in
        let first = cut-told w attrs t v row true i q m id false k in
        let more = told-of true i q m id false ks in
        change-to c w attrs t
        (λ b bs.
        ap (draws-if b id more) (rw ids (by (covers k.stretch.tiles t) (λ y. rw y) (λ z. rw z (if-none b id bs))))
        ∙ if-both b id first more bs
        ∙ ap (λ (ts : List Told). draws-if b id ts bs) (sym (told-cons w attrs t v row true i q m id false k ks)))
        (λ bs. refl)
        (change-both c w attrs t x y)

    -- what the row comes to
    abbrev pub come : Row → List B
    come r = commands-drawn c (paint-id attrs) (layer-id attrs) t (newest-hide (told-fills w attrs t r.fills)) r.commands (drawn c (entries (hider (told-fills w attrs t r.fills))) (c.blank ∷ []))

    pub record Stacked (ls : List OpenLayer) (r : Row) (bs : List B) : Type 0 where
      pub idle : (x : B) → buffers-only c r.commands (x ∷ []) ≡ lifted c (length r.levels) (x ∷ [])
      pub same : bs ≡ lifted c (length ls - length r.levels) (come r)
      pub long : length bs ≡ suc (length ls)

    -- what comes of one entry at most, with the next id
    pub come-told : {ts : List Told} {id : ℕ} {r q : Row} (n : ℕ) → Holds w attrs t ts id r → 0 < id → length r.levels ≤ n → (new : List Told) → Single new
        → All (λ (u : Told). u.id ≡ id) new
        → All (λ (u : Told). u.hides ≡ true → n ≡ 0) new
        → All (λ (u : Told). u.entry.layer ≡ false) new
        → Opaque c new
        → told-fills w attrs t q.fills ≡ told-fills w attrs t r.fills ++ such hides-of new
        → Change c w attrs t (λ b bs. draws-if b id (such stays new) (lifted c (n - length r.levels) bs)) (λ bs. lifted c (n - length r.levels) bs) r q
        → ((x : B) → buffers-only c r.commands (x ∷ []) ≡ lifted c (length r.levels) (x ∷ []))
        → length (lifted c (n - length r.levels) (come r)) ≡ suc n
        → drawn c (entries new) (lifted c (n - length r.levels) (come r)) ≡ come q
    unfolding drawn
    come-told {id = id} {r = r} {q = q} n h pos m _ nothing ids zs ls op fs x idle long =
        let e : told-fills w attrs t q.fills ≡ told-fills w attrs t r.fills = fs ∙ append-nil _ in
        let b = newest-hide (told-fills w attrs t r.fills) in
        if-none b id _ ∙ sym (rw e (x.draws b (drawn c (entries (hider (told-fills w attrs t r.fills))) (c.blank ∷ []))))
    come-told {ts} {id} {r} {q} n h pos m _ (one u) (cons i nil) (cons z nil) (cons l nil) (cons o nil) fs x idle long = by u.hides
        (λ y. yes y)
        (λ k. no k)
      where
        fills : List Told
        fills = told-fills w attrs t r.fills

        below : newest-hide fills < id
        below = newest-below id fills pos (rw h.hidden at (all-such hides-of h.below))

        no : u.hides ≡ false → drawn c (u.entry ∷ []) (lifted c (n - length r.levels) (come r)) ≡ come q
        no k =
            let e : told-fills w attrs t q.fills ≡ fills = fs ∙ rw k (append-nil _) in
            let s : such stays (u ∷ []) ≡ u ∷ [] = rw k in
            let b = newest-hide fills in
            let le : leb b id ≡ true = le-leb b id (omega (arith, below)) in
            let d = x.draws b (drawn c (entries (hider fills)) (c.blank ∷ [])) in
            sym (rw e (d ∙ rw (s, le)))

        yes : u.hides ≡ true → drawn c (u.entry ∷ []) (lifted c (n - length r.levels) (come r)) ≡ come q
        yes y =
            let n0 : n ≡ 0 = z y in
            let lv : length r.levels ≡ 0 = omega arith in
            let e : told-fills w attrs t q.fills ≡ fills ++ (u ∷ []) = fs ∙ rw y in
            let s : such stays (u ∷ []) ≡ [] = rw y in
            let nw : newest-hide (told-fills w attrs t q.fills) ≡ id = ap newest-hide e ∙ newest-last fills u y (omega arith) ∙ i in
            let hd : hider (told-fills w attrs t q.fills) ≡ u ∷ [] = ap hider e ∙ hider-last fills u y in
            let start : drawn c (u.entry ∷ []) (c.blank ∷ []) ≡ c.fill u.entry.attribute u.entry.alpha c.blank ∷ [] = rw l in
            let f = c.fill u.entry.attribute u.entry.alpha c.blank in
            let old : commands-drawn c (paint-id attrs) (layer-id attrs) t id r.commands (f ∷ []) ≡ f ∷ [] =
            all-older c w attrs t id 0 r.commands h.older (f ∷ []) ∙ idle f ∙ rw lv in
            let right : come q ≡ f ∷ [] =
            ap (λ b. commands-drawn c (paint-id attrs) (layer-id attrs) t b q.commands (drawn c (entries (hider (told-fills w attrs t q.fills))) (c.blank ∷ []))) nw
            ∙ ap (λ (us : List Told). commands-drawn c (paint-id attrs) (layer-id attrs) t id q.commands (drawn c (entries us) (c.blank ∷ []))) hd
            ∙ ap (commands-drawn c (paint-id attrs) (layer-id attrs) t id q.commands) start
            ∙ x.draws id (f ∷ [])
            ∙ rw (s, old, n0, lv) (sym (if-none id id (f ∷ []))) in
            let left : (bs : List B) → length bs ≡ suc n → drawn c (u.entry ∷ []) bs ≡ f ∷ [] = λ bs e₁. single-left bs (e₁ ∙ ap suc n0) in
            left (lifted c (n - length r.levels) (come r)) long ∙ sym right
          where
            single-left : (bs : List B) → length bs ≡ 1 → drawn c (u.entry ∷ []) bs ≡ c.fill u.entry.attribute u.entry.alpha c.blank ∷ []
            single-left [] e = absurd (omega arith)
            single-left (b ∷ []) e = rw l (ap (λ (x : B). x ∷ []) (o y b c.blank))
            single-left (b ∷ d ∷ bs) e = absurd (omega arith)
