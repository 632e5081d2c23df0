-- What the tests of a step say of the attributes and their ids. Assumes nothing.
use Rattle.std.proofs.Common.{◌≡◌, refl, ap, ◌∙◌, Bool, true, false, ◌&&◌, List, map, ℕ, zero, suc, ◌≤◌, ◌<◌, ◌+◌, add-zero, zero-add, not-suc-le-zero, le_of_suc-le-suc, arith, length, get_or, ltb}
use Rattle.std.proofs.Common.{lt-ltb, le-ltb, ltb-true, Option, None, Some, Ok, Err, ok_or}
use lib.ListN.{length-map}
use Rattle.rules.specs.Lists.{count-from}
use Rattle.rules.specs.Inputs.{good-panel}
use Rattle.rules.specs.Attributes.{PaintAttr, LayerAttr, Attrs, no-paint, no-layer}
use Rattle.rules.specs.Painting.{paint-id, paint-panel, layer-id, layer-panel}
use Rattle.sizes.specs.declared.answers.Refusal.{Refusal}
use Rattle.cmd.specs.Reading.{only_if}
use Rattle.rules.proofs.All.{and_right}
use Rattle.paint.specs.declared.command.reading.Attributes.{Attributes}
use Rattle.paint.specs.declared.command.marks.Mark.{Mark}
use Rattle.paint.specs.Painting.{paint-at, layer-at, attrs-at, good-id, good-paint, good-layer}
use Rattle.paint.specs.Reading.{attrs_of, mark, paint_mark, layer_mark}

pub length-count : (a n : ℕ) → length (count-from a n) ≡ n
length-count a zero = refl
length-count a (suc n) = ap suc (length-count (suc a) n)

getD-count : {A : Type 0} (f : ℕ → A) (d : A) (a n i : ℕ) → i < n → get_or (map f (count-from a n)) i d ≡ f (a + i)
getD-count f d a zero i h = absurd (not-suc-le-zero h)
getD-count f d a (suc n) zero h = rw add-zero
getD-count f d a (suc n) (suc i) h =
    let e : suc a + i ≡ a + suc i = omega arith in
    getD-count f d (suc a) n i (le_of_suc-le-suc h) ∙ ap f e

module _ (ps : List ℕ) (paints : ℕ) (ls : List ℕ) (layers : ℕ) where
  -- the attribute at a place
  pub paint-is : (i : ℕ) → i < paints → get_or (attrs-at ps paints ls layers).paints i no-paint ≡ paint-at ps i
  unfolding attrs-at
  paint-is i h = getD-count (paint-at ps) no-paint 0 paints i h ∙ ap (paint-at ps) (zero-add i)

  pub layer-is : (i : ℕ) → i < layers → get_or (attrs-at ps paints ls layers).layers i no-layer ≡ layer-at ls i
  unfolding attrs-at
  layer-is i h = getD-count (layer-at ls) no-layer 0 layers i h ∙ ap (layer-at ls) (zero-add i)

  pub paint-id-is : (i : ℕ) → i < paints → paint-id (attrs-at ps paints ls layers) i ≡ (paint-at ps i).id
  paint-id-is i h = ap (λ (a : PaintAttr). a.id) (paint-is i h)

  pub paint-panel-is : (i : ℕ) → i < paints → paint-panel (attrs-at ps paints ls layers) i ≡ (paint-at ps i).panel
  paint-panel-is i h = ap (λ (a : PaintAttr). a.panel) (paint-is i h)

  pub layer-id-is : (i : ℕ) → i < layers → layer-id (attrs-at ps paints ls layers) i ≡ (layer-at ls i).id
  layer-id-is i h = ap (λ (a : LayerAttr). a.id) (layer-is i h)

  pub layer-panel-is : (i : ℕ) → i < layers → layer-panel (attrs-at ps paints ls layers) i ≡ (layer-at ls i).panel
  layer-panel-is i h = ap (λ (a : LayerAttr). a.panel) (layer-is i h)

  pub good-paint-is : (i : ℕ) → good-paint (attrs-at ps paints ls layers) i ≡ (ltb i paints && good-panel (paint-at ps i).panel && good-id (paint-at ps i).id)
  unfolding attrs-at
  good-paint-is i = rw (length-map, length-count 0 paints) (go (ltb i paints) refl)
    where
      go : (t : Bool) → ltb i paints ≡ t
          → (t && good-panel (paint-panel (attrs-at ps paints ls layers) i) && good-id (paint-id (attrs-at ps paints ls layers) i))
          ≡ (t && good-panel (paint-at ps i).panel && good-id (paint-at ps i).id)
      go true h = let l = ltb-true i paints h in rw (paint-id-is i l, paint-panel-is i l)
      go false h = refl

  pub good-layer-is : (i : ℕ) → good-layer (attrs-at ps paints ls layers) i ≡ (ltb i layers && good-panel (layer-at ls i).panel && good-id (layer-at ls i).id)
  unfolding attrs-at
  good-layer-is i = rw (length-map, length-count 0 layers) (go (ltb i layers) refl)
    where
      go : (t : Bool) → ltb i layers ≡ t
          → (t && good-panel (layer-panel (attrs-at ps paints ls layers) i) && good-id (layer-id (attrs-at ps paints ls layers) i))
          ≡ (t && good-panel (layer-at ls i).panel && good-id (layer-at ls i).id)
      go true h = let l = ltb-true i layers h in rw (layer-id-is i l, layer-panel-is i l)
      go false h = refl

-- what stands, is the whole of it; what does not, is none of it
pub if_some : {A : Type 0} (t : Bool) (x y : A) → only_if t x ≡ Some y → (t ≡ true) × (y ≡ x)
if_some true x y e = (refl, cc)
if_some false x y e = let z : ◌≡◌ {A = ℕ} 0 1 = cc in absurd (omega arith)

pub if_none : {A : Type 0} (t : Bool) (x : A) → only_if t x ≡ None → t ≡ false
if_none true x e = let z : ◌≡◌ {A = ℕ} 0 1 = cc in absurd (omega arith)
if_none false x e = refl

pub no_zero : (id : ℕ) → good-id id ≡ true → 0 < id
no_zero zero h = let z : ◌≡◌ {A = ℕ} 0 1 = cc in absurd (omega arith)
no_zero (suc id) h = omega arith

module _ (a : Attributes) (i : ℕ) where
  pub paint_missing : a.paints ≤ i → None ≡ paint_mark (attrs_of a) i
  paint_missing h = rw (good-paint-is a.paint_attrs.now a.paints a.layer_attrs.now a.layers i, le-ltb i a.paints h)

  pub paint_there : i < a.paints → only_if (good-panel (paint-at a.paint_attrs.now i).panel && good-id (paint-at a.paint_attrs.now i).id) (mark (paint-at a.paint_attrs.now i).id (paint-at a.paint_attrs.now i).panel)
      ≡ paint_mark (attrs_of a) i
  paint_there h =
      rw (
        good-paint-is a.paint_attrs.now a.paints a.layer_attrs.now a.layers i,
        lt-ltb i a.paints h,
        paint-id-is a.paint_attrs.now a.paints a.layer_attrs.now a.layers i h,
        paint-panel-is a.paint_attrs.now a.paints a.layer_attrs.now a.layers i h,
      )

  pub layer_missing : a.layers ≤ i → None ≡ layer_mark (attrs_of a) i
  layer_missing h = rw (good-layer-is a.paint_attrs.now a.paints a.layer_attrs.now a.layers i, le-ltb i a.layers h)

  pub layer_there : i < a.layers → only_if (good-panel (layer-at a.layer_attrs.now i).panel && good-id (layer-at a.layer_attrs.now i).id) (mark (layer-at a.layer_attrs.now i).id (layer-at a.layer_attrs.now i).panel)
      ≡ layer_mark (attrs_of a) i
  layer_there h =
      rw (
        good-layer-is a.paint_attrs.now a.paints a.layer_attrs.now a.layers i,
        lt-ltb i a.layers h,
        layer-id-is a.paint_attrs.now a.paints a.layer_attrs.now a.layers i h,
        layer-panel-is a.paint_attrs.now a.paints a.layer_attrs.now a.layers i h,
      )

-- .. and its id is not 0
pub paint_some : (a : Attrs) (i : ℕ) (m : Mark) → paint_mark a i ≡ Some m → 0 < m.id
paint_some a i m e =
    let o = if_some (good-paint a i) _ m e in
    let g : good-id (paint-id a i) ≡ true = and_right (ltb i (length a.paints) && good-panel (paint-panel a i)) (good-id (paint-id a i)) o.0 in
    rw o.1 (no_zero (paint-id a i) g)

-- what `ok_or` says of an option
pub ok_none : {A : Type 0} (o : Option A) (k r : Refusal) → Err k ≡ ok_or o r → (o ≡ None) × (k ≡ r)
ok_none None k r e = (refl, cc)
ok_none (Some x) k r e = let z : ◌≡◌ {A = ℕ} 0 1 = cc in absurd (omega arith)

pub ok_some : {A : Type 0} (o : Option A) (x : A) (r : Refusal) → Ok x ≡ ok_or o r → o ≡ Some x
ok_some None x r e = let z : ◌≡◌ {A = ℕ} 0 1 = cc in absurd (omega arith)
ok_some (Some y) x r e = cc
