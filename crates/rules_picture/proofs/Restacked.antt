-- What each kind of step does to the buffers, of plain draw order and of one row.
use Rattle.std.proofs.Common.{ℕ, zero, suc, ◌+◌, ◌-◌, ◌≤◌, ◌<◌, arith, ◌≡◌, refl, sym, ◌∙◌, ap, Bool, true, false, ◌&&◌, not, cond, Option, List, [], ◌∷◌, ◌++◌, map, append-nil, length, leb, le-leb}
use Rattle.rules.specs.Lists.{such, keep, is-empty, is_none}
use Rattle.rules.specs.Boxes.{Box}
use Rattle.rules.specs.Spans.{covers, moved}
use Rattle.rules.specs.Segments.{Cut}
use Rattle.rules.specs.Attributes.{Attrs}
use Rattle.rules.specs.Rows.{Row, row-ops, put-command}
use Rattle.rules.specs.Commands.{layer-fill}
use Rattle.rules.specs.Plans.{touch, pop}
use Rattle.rules.specs.Steps.{do-act}
use Rattle.rules.specs.Plain.{Told, OpenLayer, touch-all, tell, whole-bucket}
use Rattle.rules.proofs.All.{All, and_left, all-mapped}
use Rattle.rules_picture.specs.Colours.{Colours, closed, dropped, drawn, Opaque}
use Rattle.rules_picture.proofs.Cases.{by}
use Rattle.rules_picture.proofs.Shown.{hides-of, newest-hide, hider, newest-below, all-such}
use Rattle.rules_picture.proofs.Acts.{do-acts}
use Rattle.rules_picture.proofs.Rows.{told-fills, PaintHas, LayerHas}
use Rattle.rules_picture.proofs.Acted.{act-touch, act-pop}
use Rattle.rules_picture.proofs.Listed.{cut-act, draws-add}
use Rattle.rules_picture.proofs.Shape.{shape-most, touched-length, shape-closed, shape-kept}
use Rattle.rules_picture.proofs.Single.{Single}
use Rattle.rules_picture.proofs.Holds.{single-told, told-ids}
use Rattle.rules_picture.proofs.Grown.{Grown, close-act, closes-add, acts-append}
use Rattle.rules_picture.proofs.Comes.{drawn-long, dropped-long}
use Rattle.rules_picture.proofs.Changes.{lifted, Change, change-both, pop-change, ensure-change}
use Rattle.rules_picture.proofs.Stacked.{entries, lifted-add, draws-change, closes-change, come, Stacked, come-told}

module _ {B : Type 0} (c : Colours B) (w : ℕ) (attrs : Attrs) (t : ℕ) (v : Box) (row : ℕ) where
  abbrev Tells : Bool → ℕ → ℕ → ℕ → ℕ → Bool → List Cut → List Told
  Tells l i q n id e ks = tell w v row t l i q n id e ks

  abbrev Stack : List OpenLayer → Row → List B → Type 0
  Stack ls r bs = Stacked c w attrs t v row ls r bs

  lifted-none : (n : ℕ) (bs : List B) → lifted c (n - n) bs ≡ bs
  lifted-none n bs = let e : n - n ≡ 0 = omega arith in rw e

  -- the row's buffers, with all that it lacks
  idle-lifted : (n m : ℕ) (x : B) → m ≤ n → lifted c (n - m) (lifted c m (x ∷ [])) ≡ lifted c n (x ∷ [])
  idle-lifted n m x h = let e : n - m + m ≡ n = omega arith in lifted-add c (n - m) m (x ∷ []) ∙ ap (λ k. lifted c k (x ∷ [])) e

  -- rules 3, 4, 6, 7 and 11
  pub draw-stacks : 0 < w → {ts : List Told} {id : ℕ} {ls : List OpenLayer} {r : Row} {bs : List B} → Grown w attrs t v row ts id ls r → Stack ls r bs → 0 < id
      → (e : Bool) (i q : ℕ) → PaintHas attrs i id q → (e ≡ true → length ls ≡ 0)
      → (ks : List Cut) → Single (such (λ (k : Cut). covers k.stretch.tiles t) ks)
      → Opaque c (Tells false i q (length ls) id e ks)
      → Stack (touch-all (not (is-empty ks)) ls) (do-acts Row row-ops w (length ls) (map (cut-act e i id) ks) r) (drawn c (entries (Tells false i q (length ls) id e ks)) bs)
  unfolding do-acts drawn
  draw-stacks pos g s num e i q has z [] k o = s
  draw-stacks pos {ts} {id} {ls} {r} {bs} g s num e i q has z (k ∷ ks) sing o =
      let n = length ls in
      let m = shape-most g.shape in
      let a = draws-add w attrs t v row pos e i q id n has num z (k ∷ ks) r g.holds.sound m in
      let x = draws-change c w attrs t v row pos e i q id n has num z (k ∷ ks) r g.holds.sound m in
      let new = Tells false i q n id e (k ∷ ks) in
      let p = do-acts Row row-ops w n (map (cut-act e i id) (k ∷ ks)) r in
      let zs : All (λ (u : Told). u.hides ≡ true → n ≡ 0) new =
      all-mapped {Q = λ (u : Told). u.hides ≡ true → n ≡ 0} _ (λ (j : Cut) (y : (e && is_none j.stretch.alpha && whole-bucket w v row t j.stretch.tiles) ≡ true). z (and_left _ _ (and_left _ _ y))) (such (λ (j : Cut). covers j.stretch.tiles t) (k ∷ ks)) in
      let fl : All (λ (u : Told). u.entry.layer ≡ false) new = all-mapped {Q = λ (u : Told). u.entry.layer ≡ false} _ (λ (j : Cut). refl) (such (λ (j : Cut). covers j.stretch.tiles t) (k ∷ ks)) in
      let long : length (lifted c (n - length r.levels) (come c w attrs t v row r)) ≡ suc n = ap length (sym s.same) ∙ s.long in
      let got = come-told c w attrs t v row {r = r} {q = p} n g.holds num m new (single-told w v row t false i q n id e (k ∷ ks) sing) (told-ids w v row t false i q n id e (k ∷ ks)) zs fl o a.fills x s.idle long in
      let lv : length p.levels ≡ n = a.levels in
      let tl : length (touch-all true ls) ≡ n = touched-length true ls in
      record {
        idle = λ y. x.buffers-are (y ∷ []) ∙ ap (lifted c (n - length r.levels)) (s.idle y) ∙ idle-lifted n (length r.levels) y m ∙ ap (λ j. lifted c j (y ∷ [])) (sym lv);
        same = ap (drawn c (entries new)) s.same ∙ got ∙ sym (lifted-none n (come c w attrs t v row p)) ∙ rw (tl, lv);
        long = drawn-long c (entries new) bs ∙ s.long ∙ ap suc (sym tl);
      }

  -- a row that draws what it drew, with j more blank buffers
  come-same : {r q : Row} (F : ℕ → List B → List B) (G : List B → List B) → told-fills w attrs t q.fills ≡ told-fills w attrs t r.fills → Change c w attrs t F G r q
      → come c w attrs t v row q ≡ F (newest-hide (told-fills w attrs t r.fills)) (come c w attrs t v row r)
  come-same {r} {q} F G e x = rw e (x.draws (newest-hide (told-fills w attrs t r.fills)) (drawn c (entries (hider (told-fills w attrs t r.fills))) (c.blank ∷ [])))

  -- rule 8
  pub push-stacks : {ts : List Told} {id : ℕ} {ls : List OpenLayer} {r : Row} {bs : List B} → Grown w attrs t v row ts id ls r → Stack ls r bs → (l : OpenLayer) → (b : Bool)
      → Stack (touch-all b (l ∷ ls)) (do-acts Row row-ops w (suc (length ls)) (keep b touch []) r) (c.blank ∷ bs)
  unfolding do-acts do-act
  push-stacks {ls = ls} {r = r} {bs = bs} g s l false =
      let m = shape-most g.shape in
      let e : suc (length ls) - length r.levels ≡ suc (length ls - length r.levels) = omega arith in
      record {
        idle = s.idle;
        same = rw e (ap (λ (ds : List B). c.blank ∷ ds) s.same);
        long = ap suc s.long;
      }
  push-stacks {ls = ls} {r = r} {bs = bs} g s l true =
      let n = length ls in
      let m = shape-most g.shape in
      let a = act-touch w attrs t (suc n) r g.holds.sound (omega arith) in
      let x = ensure-change c w attrs t (suc n) r in
      let p = do-act Row row-ops w (suc n) touch r in
      let e : suc n - length r.levels ≡ suc (n - length r.levels) = omega arith in
      let lv : length p.levels ≡ suc n = a.levels in
      let tl : length (touch-all true (l ∷ ls)) ≡ suc n = touched-length true (l ∷ ls) in
      let got : come c w attrs t v row p ≡ lifted c (suc n - length r.levels) (come c w attrs t v row r) = come-same {r = r} {q = p} _ _ (a.fills ∙ append-nil _) x in
      let up : c.blank ∷ bs ≡ come c w attrs t v row p = ap (λ (ds : List B). c.blank ∷ ds) s.same ∙ ap (λ k. lifted c k (come c w attrs t v row r)) (sym e) ∙ sym got in
      record {
        idle = λ y. x.buffers-are (y ∷ []) ∙ ap (lifted c (suc n - length r.levels)) (s.idle y) ∙ idle-lifted (suc n) (length r.levels) y (omega arith) ∙ ap (λ j. lifted c j (y ∷ [])) (sym lv);
        same = up ∙ sym (lifted-none (suc n) (come c w attrs t v row p)) ∙ rw (tl, lv);
        long = ap suc s.long ∙ ap suc (sym tl);
      }

  closes-fills : (n i : ℕ) (ks : List Cut) (r : Row) → (do-acts Row row-ops w n (map (close-act w attrs t v row i) ks) r).fills ≡ r.fills
  unfolding do-acts do-act put-command
  closes-fills n i [] r = refl
  closes-fills n i (k ∷ ks) r = closes-fills n i ks (put-command (layer-fill k.stretch.tiles k.stretch.alpha i) r)

  -- the top taken off
  top-off : (n : ℕ) (bs : List B) (x : B) → length bs ≡ suc n → dropped c (x ∷ bs) ≡ bs
  top-off n [] x e = absurd (omega arith)
  top-off n (b ∷ bs) x e = refl

  -- rules 9 and 10: a layer closed in a row that is touched for it
  pub close-stacks : {ts : List Told} {id : ℕ} {l : OpenLayer} {ls : List OpenLayer} {r : Row} {bs : List B} → Grown w attrs t v row ts id (l ∷ ls) r → Stack (l ∷ ls) r bs → 0 < id
      → l.touched ≡ true → (n i q : ℕ) → LayerHas attrs i id q → (ks : List Cut)
      → Stack ls (do-acts Row row-ops w n (map (close-act w attrs t v row i) ks ++ (pop ∷ [])) r) (dropped c (drawn c (entries (Tells true i q (suc (length ls)) id false ks)) bs))
  unfolding do-acts do-act
  close-stacks {id = id} {l = l} {ls = ls} {r = r} {bs = bs} g s num y n i q has ks =
      let (m, rest) = shape-closed g.shape y in
      let k = length ls in
      let new = Tells true i q (suc k) id false ks in
      let a = closes-add w attrs t v row n (suc k) i q id has ks r g.holds.sound m in
      let mid = do-acts Row row-ops w n (map (close-act w attrs t v row i) ks) r in
      let p = act-pop w attrs t n k mid a.sound a.levels in
      let end = do-act Row row-ops w n pop mid in
      let x = closes-change c w attrs t v row n (suc k) i q id has ks r in
      let z = change-both c w attrs t x (pop-change c w attrs t k mid a.sound a.levels) in
      let fs : told-fills w attrs t end.fills ≡ told-fills w attrs t r.fills = p.fills ∙ append-nil _ ∙ ap (told-fills w attrs t) (closes-fills n i ks r) in
      let b = newest-hide (told-fills w attrs t r.fills) in
      let below : b < id = newest-below id (told-fills w attrs t r.fills) num (rw g.holds.hidden at (all-such hides-of g.holds.below)) in
      let le : leb b id ≡ true = le-leb b id (omega arith) in
      let got : come c w attrs t v row end ≡ dropped c (drawn c (entries new) (come c w attrs t v row r)) =
      come-same {r = r} {q = end} _ _ fs z ∙ rw le in
      let here : bs ≡ come c w attrs t v row r = s.same ∙ rw m (lifted-none (suc k) (come c w attrs t v row r)) in
      let lv : length end.levels ≡ k = p.levels in
      let done : Stack ls end (dropped c (drawn c (entries new) bs)) =
      record {
        idle = λ u. z.buffers-are (u ∷ []) ∙ ap (dropped c) (s.idle u) ∙ rw (m, lv) (top-off (k) (lifted c k (u ∷ [])) c.blank (lifted-long k u));
        same = ap (λ (ds : List B). dropped c (drawn c (entries new) ds)) here ∙ sym got ∙ sym (lifted-none k (come c w attrs t v row end)) ∙ rw lv;
        long = dropped-long c k (drawn c (entries new) bs) (drawn-long c (entries new) bs ∙ s.long);
      } in
      rw (acts-append w n (map (close-act w attrs t v row i) ks) (pop ∷ []) r) done
    where
      lifted-long : (j : ℕ) (u : B) → length (lifted c j (u ∷ [])) ≡ suc j
      lifted-long zero u = refl
      lifted-long (suc j) u = ap suc (lifted-long j u)

  -- what a layer that is not destructive closes blank stays
  blank-closes : (i q n id : ℕ) → ((a : Option ℕ) (b : B) → c.close i a c.blank b ≡ b) → (ks : List Cut) (bs : List B) (m : ℕ) → length bs ≡ suc m
      → drawn c (entries (Tells true i q n id false ks)) (c.blank ∷ bs) ≡ c.blank ∷ bs
  unfolding drawn
  blank-closes i q n id f [] bs m e = refl
  blank-closes i q n id f (k ∷ ks) bs m e = by (covers k.stretch.tiles t)
      (λ y. rw y (ap (drawn c (entries (Tells true i q n id false ks))) (one bs e) ∙ blank-closes i q n id f ks bs m e))
      (λ z. rw z (blank-closes i q n id f ks bs m e))
    where
      one : (ds : List B) → length ds ≡ suc m → closed c i (moved k.stretch.alpha (t - k.stretch.tiles.first)) (c.blank ∷ ds) ≡ c.blank ∷ ds
      one [] e = absurd (omega arith)
      one (d ∷ ds) e = ap (λ (x : B). c.blank ∷ x ∷ ds) (f (moved k.stretch.alpha (t - k.stretch.tiles.first)) d)

  -- .. and in any other row nothing happens: its buffer, which the row has not, is blank
  pub leave-stacks : {ts : List Told} {id : ℕ} {l : OpenLayer} {ls : List OpenLayer} {r : Row} {bs : List B} → Grown w attrs t v row ts id (l ∷ ls) r → Stack (l ∷ ls) r bs
      → l.touched ≡ false → (i q m : ℕ) (b : Bool) → (b ≡ true → (a : Option ℕ) (d : B) → c.close i a c.blank d ≡ d) → (ks : List Cut)
      → Stack ls r (dropped c (drawn c (entries (cond b (Tells true i q m id false ks) [])) bs))
  unfolding drawn
  leave-stacks {id = id} {l = l} {ls = ls} {r = r} {bs = bs} g s y i q m b f ks =
      let n = length ls in
      let lo = shape-most (shape-kept g.shape y) in
      let e : suc n - length r.levels ≡ suc (n - length r.levels) = omega arith in
      let rest = lifted c (n - length r.levels) (come c w attrs t v row r) in
      let here : bs ≡ c.blank ∷ rest = s.same ∙ ap (λ k. lifted c k (come c w attrs t v row r)) e in
      let long : length rest ≡ suc n = let h : suc (length rest) ≡ suc (suc n) = sym (ap length here) ∙ s.long in omega arith in
      let got : dropped c (drawn c (entries (cond b (Tells true i q m id false ks) [])) bs) ≡ rest =
      ap (λ (ds : List B). dropped c (drawn c (entries (cond b (Tells true i q m id false ks) [])) ds)) here
      ∙ by b (λ z. rw z (ap (dropped c) (blank-closes i q m id (f z) ks rest n long) ∙ top-off n rest c.blank long)) (λ z. rw z (top-off n rest c.blank long)) in
      record { idle = s.idle; same = got; long = ap length got ∙ long }
