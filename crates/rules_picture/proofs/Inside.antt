-- Layers that close over the rows of their own boxes, with no account of touched rows: a row that gets something lies in the boxes of all
-- open layers, and a destructive layer touches its box at once.
use Rattle.std.proofs.Common.{ℕ, zero, suc, ◌+◌, ◌-◌, ◌/◌, ◌≤◌, ◌<◌, arith, ◌≡◌, refl, sym, ◌∙◌, ap, Bool, true, false, ◌&&◌, not, Option, None, Some, List, [], ◌∷◌, ◌++◌, leb, ltb, eqb, leb-true, leb-false, ltb-true}
use Rattle.std.proofs.Common.{eq-eqb, eqb-true}
use borrow.Author.Tests.{lt-leb}
use Rattle.rules.specs.Lists.{such, is-empty, is_none, some_of, join, count-from}
use Rattle.rules.specs.Boxes.{Box, empty-box, meet, to-local, scene-tiles}
use Rattle.rules.specs.Spans.{span, common, meeting, cut_to}
use Rattle.rules.specs.Blends.{Blend, destructive}
use Rattle.rules.specs.Segments.{Segment, Cut, cut_in, cuts}
use Rattle.rules.specs.Inputs.{Clip, Props, Filter, draw-segments}
use Rattle.rules.specs.Attributes.{Attrs}
use Rattle.rules.specs.Plans.{bucket, Step, a-fill, a-push, a-pop, a-filter, layer-box, touches-all, clip-box, filter-box, draws-nothing}
use Rattle.rules.specs.Plain.{OpenLayer, Story, untold, touch-all, box-now, here, in_rows, tell-push, tell-pop, tell-filter, tell-step}
use Rattle.rules.proofs.All.{All, nil, cons, all_map, never, and_left, and_right, and_both, or_left, or_right}
use Rattle.rules_picture.proofs.Cases.{by}
use Rattle.rules_picture.specs.Colours.{Colours, Gentle, if-inside, SamePicture}
use Rattle.rules_picture.proofs.Listed.{such-append}
use Rattle.rules_picture.proofs.Shape.{touched-layers}
use Rattle.rules_picture.proofs.StackedSteps.{Fair}
use Rattle.rules_picture.specs.Compacted.{Compacted-colours}
use Rattle.rules_picture.proofs.CompactedFollows.{built-kept}
use Rattle.rules_picture.proofs.SamePicture.{Fairly, no_more, fair-then, same-buffers}

-- the rows from a to b
count-has : (row a n : ℕ) → some_of (eqb row) (count-from a n) ≡ true → (a ≤ row) × (row < a + n)
count-has row a zero e = never (sym e)
count-has row a (suc n) e = by (eqb row a)
    (λ y. let q = eqb-true row a y in (omega arith, omega arith))
    (λ m. let h = count-has row (suc a) n (rw m at e) in (let x = h.0 in omega arith, let x = h.1 in omega arith))

has-count : (row a n : ℕ) → a ≤ row → row < a + n → some_of (eqb row) (count-from a n) ≡ true
has-count row a zero h k = absurd (omega arith)
has-count row a (suc n) h k = by (eqb row a)
    (λ y. rw y)
    (λ m. rw m (has-count row (suc a) n (below m) (omega arith)))
  where
    below : eqb row a ≡ false → suc a ≤ row
    below m = by (leb (suc a) row) (λ y. leb-true (suc a) row y) (λ z. let q = leb-false (suc a) row z in let r : row ≡ a = omega arith in never (sym (eq-eqb row a r) ∙ m))

module _ (w : ℕ) (v : Box) (row t : ℕ) where
  -- the box has the row, and is not empty
  abbrev pub has-row : Box → Bool
  has-row b = in_rows w v row t b && not (empty-box b)

  record Has (b : Box) : Type 0 where
    low : b.y0 / 4 ≤ row
    high : row < (b.y1 + 3) / 4
    wide : b.x0 < b.x1
    tall : b.y0 < b.y1

  has : (b : Box) → has-row b ≡ true → Has b
  has b e =
      let h = count-has row (b.y0 / 4) ((b.y1 + 3) / 4 - b.y0 / 4) (and_left _ _ e) in
      let n : empty-box b ≡ false = not-empty (empty-box b) (and_right (in_rows w v row t b) _ e) in
      let x = leb-false b.x1 b.x0 (or_left _ _ n) in
      let y = leb-false b.y1 b.y0 (or_right (leb b.x1 b.x0) _ n) in
      let l = h.0 in
      let u = h.1 in
      record { low = l; high = omega arith; wide = x; tall = y }
    where
      not-empty : (a : Bool) → not a ≡ true → a ≡ false
      not-empty true y = never (sym y)
      not-empty false y = refl

  gives : (b : Box) → Has b → has-row b ≡ true
  gives b h =
      let l = h.low in
      let u = h.high in
      let x : leb b.x1 b.x0 ≡ false = lt-leb b.x1 b.x0 h.wide in
      let y : leb b.y1 b.y0 ≡ false = lt-leb b.y1 b.y0 h.tall in
      and_both _ _ (has-count row (b.y0 / 4) ((b.y1 + 3) / 4 - b.y0 / 4) l (omega arith)) (rw (x, y))

  -- two boxes met
  pub meets : (a p : Box) → has-row (meet a p) ≡ true → has-row p ≡ true
  meets a p e =
      let h = has (meet a p) e in
      let l = h.low in
      let u = h.high in
      let x = h.wide in
      let y = h.tall in
      gives p (record { low = omega arith; high = omega arith; wide = omega arith; tall = omega arith })

  pub layer-meets : (p : Box) (c : Option Clip) → has-row (layer-box v p c) ≡ true → has-row p ≡ true
  layer-meets p None e = e
  layer-meets p (Some c) e = meets (to-local v c.bounds) p e

  -- what is cut to a box and stands on the row
  cut-has : (b : Box) (s : Segment) → is-empty (such (λ (k : Cut). eqb k.row row) (cut_in v (scene-tiles v b) s)) ≡ false → has-row b ≡ true
  unfolding cut_in cut_to meeting scene-tiles
  cut-has b s e =
      let m = common (span s.first s.end) (span ((v.x0 + b.x0) / 4) ((v.x0 + b.x1) / 4)) in
      by (leb ((v.y0 + b.y0) / 4) s.row && ltb s.row ((v.y0 + b.y1) / 4))
      (λ y. by (ltb m.first m.end)
      (λ z. by (eqb (s.row - v.y0 / 4) row)
      (λ q.
      let top = leb-true ((v.y0 + b.y0) / 4) s.row (and_left _ _ y) in
      let end = ltb-true s.row ((v.y0 + b.y1) / 4) (and_right (leb ((v.y0 + b.y0) / 4) s.row) _ y) in
      let across = ltb-true m.first m.end z in
      let r = eqb-true (s.row - v.y0 / 4) row q in
      gives b (record { low = omega arith; high = omega arith; wide = omega arith; tall = omega arith }))
      (λ q. never (rw (y, z, q) at e)))
      (λ z. never (rw (y, z) at e)))
      (λ y. never (rw y at e))

  pub cuts-have : (b : Box) (ss : List Segment) → is-empty (such (λ (k : Cut). eqb k.row row) (cuts v b ss)) ≡ false → has-row b ≡ true
  unfolding cuts
  cuts-have b [] e = never e
  cuts-have b (s ∷ ss) e = by (is-empty (such (λ (k : Cut). eqb k.row row) (cut_in v (scene-tiles v b) s)))
      (λ y.
      let z : is-empty (such (λ (k : Cut). eqb k.row row) (join (cut_in v (scene-tiles v b)) ss)) ≡ false =
      rest _ _ y (rw (such-append (λ (k : Cut). eqb k.row row) (cut_in v (scene-tiles v b) s) (join (cut_in v (scene-tiles v b)) ss)) at e) in
      cuts-have b ss z)
      (λ n. cut-has b s n)
    where
      rest : (xs ys : List Cut) → is-empty xs ≡ true → is-empty (xs ++ ys) ≡ false → is-empty ys ≡ false
      rest [] ys y f = f
      rest (x ∷ xs) ys y f = never (sym y)

  -- each box with the row lies in one with the row
  data Nested : List OpenLayer → Type 0 where
    none_open : Nested []
    in_outer : {l : OpenLayer} {ls : List OpenLayer} → (has-row l.layer.bounds ≡ true → has-row (box-now v ls) ≡ true) → Nested ls → Nested (l ∷ ls)

  -- the row lies in the box of a layer that it is touched for; and a layer that has it untouched is not destructive
  record Each (l : OpenLayer) : Type 0 where
    in_box : l.touched ≡ true → has-row l.layer.bounds ≡ true
    mild : l.touched ≡ false → has-row l.layer.bounds ≡ true → destructive l.layer.props.blend.compose ≡ false

  pub record Boxed (ls : List OpenLayer) : Type 0 where
    nested : Nested ls
    each : All Each ls

  nested-touch : (b : Bool) (ls : List OpenLayer) → Nested ls → Nested (touch-all b ls)
  nested-touch false ls n = n
  nested-touch true _ none_open = none_open
  nested-touch true _ (in_outer {l = l} {ls = ls} f n) =
      in_outer (λ e. rw (ap (clip-box v) (touched-layers true ls)) (f e)) (nested-touch true ls n)

  -- all boxes have a row that the innermost has
  each-touch : (b : Bool) (ls : List OpenLayer) → Nested ls → (b ≡ true → has-row (box-now v ls) ≡ true) → All Each ls → All Each (touch-all b ls)
  each-touch false ls n h a = a
  each-touch true _ none_open h nil = nil
  each-touch true _ (in_outer {l = l} {ls = ls} f n) h (cons e a) =
      cons (record { in_box = λ y. h refl; mild = λ y z. never y }) (each-touch true ls n (λ y. f (h refl)) a)

  touch-boxed : (b : Bool) (ls : List OpenLayer) → Boxed ls → (b ≡ true → has-row (box-now v ls) ≡ true) → Boxed (touch-all b ls)
  touch-boxed b ls x h = record { nested = nested-touch b ls x.nested; each = each-touch b ls x.nested h x.each }

  pop-boxed : (ds : List OpenLayer) (ss : List Segment) (o : Story) → o.open-layers ≡ ds → Boxed ds → Boxed (tell-pop w v row t ds ss o).open-layers
  pop-boxed [] ss o e x = rw e x
  pop-boxed (d ∷ ds) ss o e x = go x.nested x.each
    where
      go : Nested (d ∷ ds) → All Each (d ∷ ds) → Boxed ds
      go (in_outer f n) (cons y a) = record { nested = n; each = a }

  not-true : (b : Bool) → not b ≡ true → b ≡ false
  not-true true e = never (sym e)
  not-true false e = refl

  filter-boxed : (x : Filter) (q : ℕ) (o : Story) → Boxed o.open-layers → Boxed (tell-filter w v row t x q o).open-layers
  filter-boxed x q o k =
      let b = filter-box v (box-now v o.open-layers) x in
      by (draws-nothing x b)
      (λ y. rw y k)
      (λ n. rw n (touch-boxed (in_rows w v row t b) o.open-layers k
      (λ y. meets (to-local v x.dest) (box-now v o.open-layers) (and_both _ _ y (ap not (or_right (is_none x.pixmap) (empty-box b) n))))))

  -- a layer that touches no row at once has an empty box, or is not destructive
  pub untouched-mild : (p : Props) (b : Box) → touches-all p b ≡ false → empty-box b ≡ false → destructive p.blend.compose ≡ false
  untouched-mild p b e n = by (destructive p.blend.compose) (λ y. never (rw (y, n) at e)) (λ y. y)

  touching-boxed : (p : Props) (b : Box) → touches-all p b ≡ true → empty-box b ≡ false
  touching-boxed p b e = not-true (empty-box b) (and_right _ (not (empty-box b)) e)

  push-boxed : (p : Props) (o : Story) → Boxed o.open-layers → Boxed (tell-push w v row t p o).open-layers
  push-boxed p o k =
      let b = layer-box v (box-now v o.open-layers) p.clip in
      let l : OpenLayer = record { layer = record { props = p; bounds = b }; touched = false } in
      let x = touches-all p b && in_rows w v row t b in
      let n : Nested (l ∷ o.open-layers) = in_outer (layer-meets (box-now v o.open-layers) p.clip) k.nested in
      by x
      (λ y.
      let inb : has-row b ≡ true = and_both _ _ (and_right (touches-all p b) _ y) (ap not (touching-boxed p b (and_left (touches-all p b) _ y))) in
      rw y (record { nested = nested-touch true (l ∷ o.open-layers) n; each = forced (l ∷ o.open-layers) n inb }))
      (λ z.
      let e : Each l = record { in_box = λ u. never (sym u); mild = λ u i. mild-one p b z i } in
      rw z (record { nested = n; each = cons e k.each }))
    where
      mild-one : (p : Props) (b : Box) → (touches-all p b && in_rows w v row t b) ≡ false → has-row b ≡ true → destructive p.blend.compose ≡ false
      mild-one p b z i =
          let r = and_left (in_rows w v row t b) (not (empty-box b)) i in
          let m = not-true (empty-box b) (and_right (in_rows w v row t b) (not (empty-box b)) i) in
          untouched-mild p b (by (touches-all p b) (λ y. never (sym (and_both _ _ y r) ∙ z)) (λ y. y)) m

      forced : (ls : List OpenLayer) → Nested ls → has-row (box-now v ls) ≡ true → All Each (touch-all true ls)
      forced _ none_open h = nil
      forced _ (in_outer {l = l} {ls = ls} f n) h = cons (record { in_box = λ y. h; mild = λ y z. never y }) (forced ls n (f h))

  step-boxed : (x : Step) (o : Story) → Boxed o.open-layers → Boxed (tell-step w v row t x o).open-layers
  unfolding tell-step
  step-boxed (a-fill ps ss d) o k =
      touch-boxed (not (is-empty (here w v row t o.open-layers (draw-segments ss d)))) o.open-layers k
      (λ y. cuts-have (box-now v o.open-layers) (draw-segments ss d) (not-true (is-empty (here w v row t o.open-layers (draw-segments ss d))) y))
  step-boxed (a-push p) o k = push-boxed p o k
  step-boxed (a-pop ss) o k = pop-boxed o.open-layers ss o refl k
  step-boxed (a-filter n f q) o k = filter-boxed f q o k

  pub untold-boxed : Boxed []
  untold-boxed = record { nested = none_open; each = nil }

-- So layers that close over the rows of their own boxes are fair to colours that keep the second law.
module _ {B : Type 0} (c : Colours B) (w t : ℕ) (v : Box) (row : ℕ) (attrs : Attrs) (g : Gentle c attrs) where
  each-fair : (l : OpenLayer) → Each w v row t l → Fair c (if-inside w v row t) w attrs t v row l
  each-fair l e = record {
    touched-closes = e.in_box;
    leaves = λ n y i th bl. g i th (ap (λ (b : Blend). destructive b.compose) bl ∙ e.mild n y);
  }

  pub inside-fair : (xs : List Step) (o : Story) → Boxed w v row t o.open-layers → Fairly c (if-inside w v row t) w t v row attrs xs o
  inside-fair [] o k = no_more
  inside-fair (x ∷ xs) o k = fair-then (all_map each-fair k.each) (inside-fair xs (tell-step w v row t x o) (step-boxed w v row t x o k))

pub kept-colours : {B : Type 0} → Compacted-colours B
kept-colours c f xs k b e ts r t h on fin op g =
    let w = bucket f in
    let v = f.viewport in
    same-buffers c (if-inside w v r t) f xs k b e ts r t h on fin op (inside-fair c w t v r k.screen.state.attrs g xs untold (untold-boxed w v r t))

pub same-picture : {B : Type 0} → SamePicture B
same-picture c f xs k b = kept-colours c f xs k (built-kept b)
