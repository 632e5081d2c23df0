-- What each kind of step does to one row: the row holds afterwards what plain draw order has told the tile t then.
use Rattle.std.proofs.Common.{ℕ, suc, ◌+◌, ◌<◌, arith, ◌≡◌, refl, Bool, true, false, not, cond, List, [], ◌∷◌, ◌++◌, map, length}
use Rattle.rules.specs.Lists.{such, keep, is-empty}
use Rattle.rules.specs.Boxes.{Box}
use Rattle.rules.specs.Spans.{covers}
use Rattle.rules.specs.Segments.{Cut}
use Rattle.rules.specs.Attributes.{Attrs}
use Rattle.rules.specs.Rows.{Row, row-ops}
use Rattle.rules.specs.Plans.{Act, touch, close, pop}
use Rattle.rules.specs.Steps.{do-act}
use Rattle.rules.specs.Plain.{Told, OpenLayer, touch-all, tell}
use Rattle.rules_picture.proofs.Cases.{by}
use Rattle.rules_picture.proofs.Shown.{hides-of}
use Rattle.rules_picture.proofs.Held.{stays}
use Rattle.rules_picture.proofs.Acts.{do-acts}
use Rattle.rules_picture.proofs.Rows.{PaintHas, LayerHas}
use Rattle.rules_picture.proofs.Acted.{Sound, Adds, adds_none, adds-both, act-touch, act-close, act-pop}
use Rattle.rules_picture.proofs.Shape.{Shape, shape-most, shape-touch, shape-closed, shape-kept, not_yet}
use Rattle.rules_picture.proofs.Listed.{cut-act, draws-add}
use Rattle.rules_picture.proofs.Single.{Single}
use Rattle.rules_picture.proofs.Holds.{Holds, holds-still, holds-told, single-told, told-ids}

pub acts-append : (w n : ℕ) (xs ys : List Act) (r : Row) → do-acts Row row-ops w n (xs ++ ys) r ≡ do-acts Row row-ops w n ys (do-acts Row row-ops w n xs r)
unfolding do-acts
acts-append w n [] ys r = refl
acts-append w n (x ∷ xs) ys r = acts-append w n xs ys (do-act Row row-ops w n x r)

module _ (w : ℕ) (attrs : Attrs) (t : ℕ) (v : Box) (row : ℕ) where
  -- what a row holds, and the open layers as it sees them
  pub record Grown (ts : List Told) (next : ℕ) (ls : List OpenLayer) (r : Row) : Type 0 where
    pub holds : Holds w attrs t ts next r
    pub shape : Shape ls (length r.levels)

  -- rules 3, 4, 6, 7 and 11: the cuts ks drawn, with attribute i and the next id
  pub draw-grows : 0 < w → {ts : List Told} {id : ℕ} {ls : List OpenLayer} {r : Row} → Grown ts id ls r → 0 < id
      → (e : Bool) (i q : ℕ) → PaintHas attrs i id q → (e ≡ true → length ls ≡ 0)
      → (ks : List Cut) → Single (such (λ (k : Cut). covers k.stretch.tiles t) ks)
      → Grown (ts ++ tell w v row t false i q (length ls) id e ks) (id + 1) (touch-all (not (is-empty ks)) ls) (do-acts Row row-ops w (length ls) (map (cut-act e i id) ks) r)
  draw-grows pos {ts} {id} {ls} {r} g num e i q has z ks s =
      let a = draws-add w attrs t v row pos e i q id (length ls) has num z ks r g.holds.sound (shape-most g.shape) in
      record {
        holds = holds-told w attrs t g.holds num (single-told w v row t false i q (length ls) id e ks s) (told-ids w v row t false i q (length ls) id e ks) a;
        shape = rw a.levels (go ks);
      }
    where
      go : (ks : List Cut) → Shape (touch-all (not (is-empty ks)) ls) (cond (is-empty ks) (length r.levels) (length ls))
      go [] = g.shape
      go (k ∷ ks) = shape-touch ls

  -- rule 8: a layer is pushed; a row that a destructive blend touches gets its buffers at once
  pub push-grows : {ts : List Told} {id : ℕ} {ls : List OpenLayer} {r : Row} → Grown ts id ls r → (l : OpenLayer) → l.touched ≡ false → (b : Bool)
      → Grown ts id (touch-all b (l ∷ ls)) (do-acts Row row-ops w (suc (length ls)) (keep b touch []) r)
  unfolding do-acts
  push-grows g l e false = record { holds = g.holds; shape = not_yet e g.shape }
  push-grows {id = id} {ls = ls} {r = r} g l e true =
      let h = shape-most g.shape in
      let a = act-touch w attrs t (suc (length ls)) r g.holds.sound (omega arith) in
      record {
        holds = holds-still w attrs t g.holds a id (omega arith);
        shape = rw a.levels (shape-touch (l ∷ ls));
      }

  abbrev pub close-act : ℕ → Cut → Act
  close-act i k = close k.stretch.tiles k.stretch.alpha i

  pub closes-add : (n m i q id : ℕ) → LayerHas attrs i id q → (ks : List Cut) (r : Row) → Sound r → length r.levels ≡ m
      → Adds w attrs t (such stays (tell w v row t true i q m id false ks)) (such hides-of (tell w v row t true i q m id false ks)) m r (do-acts Row row-ops w n (map (close-act i) ks) r)
  unfolding do-acts
  closes-add n m i q id has [] r s h = rw h at (adds_none w attrs t r s)
  closes-add n m i q id has (k ∷ ks) r s h =
      let a = rw (has.id-is, has.panel-is) at (act-close w attrs t n m k.stretch.tiles k.stretch.alpha i r s h) in
      let b = closes-add n m i q id has ks (do-act Row row-ops w n (close-act i k) r) a.sound a.levels in
      let c = adds-both w attrs t a b in
      by (covers k.stretch.tiles t) (λ y. rw y (rw y at c)) (λ o. rw o (rw o at c))

  -- rules 9 and 10: the innermost layer is closed by the cuts ks, in a row touched for it
  pub close-grows : {ts : List Told} {id : ℕ} {l : OpenLayer} {ls : List OpenLayer} {r : Row} → Grown ts id (l ∷ ls) r → 0 < id → l.touched ≡ true
      → (n i q : ℕ) → LayerHas attrs i id q
      → (ks : List Cut) → Single (such (λ (k : Cut). covers k.stretch.tiles t) ks)
      → Grown (ts ++ tell w v row t true i q (suc (length ls)) id false ks) (id + 1) ls (do-acts Row row-ops w n (map (close-act i) ks ++ (pop ∷ [])) r)
  unfolding do-acts
  close-grows {ts} {id} {l} {ls} {r} g num y n i q has ks s =
      let (m, rest) = shape-closed g.shape y in
      let a = closes-add n (suc (length ls)) i q id has ks r g.holds.sound m in
      let mid = do-acts Row row-ops w n (map (close-act i) ks) r in
      let h = holds-told w attrs t g.holds num (single-told w v row t true i q (suc (length ls)) id false ks s) (told-ids w v row t true i q (suc (length ls)) id false ks) a in
      let p = act-pop w attrs t n (length ls) mid a.sound a.levels in
      rw (acts-append w n (map (close-act i) ks) (pop ∷ []) r)
      (record { holds = holds-still w attrs t h p (id + 1) (omega arith); shape = rw p.levels rest })

  -- .. and in any other row nothing happens
  pub leave-grows : {ts : List Told} {id : ℕ} {l : OpenLayer} {ls : List OpenLayer} {r : Row} → Grown ts id (l ∷ ls) r → l.touched ≡ false → Grown ts (id + 1) ls r
  leave-grows {id = id} {r = r} g n = record {
    holds = holds-still w attrs t g.holds (adds_none w attrs t r g.holds.sound) (id + 1) (omega arith);
    shape = shape-kept g.shape n;
  }
