-- Attributes that are added leave those before them as they were, so rows stay fair. Assumes nothing.
use Rattle.std.proofs.Common.{◌≡◌, refl, ap, ◌∙◌, Bool, true, ◌&&◌, List, [], ◌∷◌, ◌++◌, ℕ, ◌≤◌, ◌<◌, arith, ltb, length, get_or, length-append, ltb-true, lt-ltb, le-leb}
use lib.ListN.{get_or-append}
use lib.Seq.{get_or-append_seam}
use Rattle.sizes.specs.Sizes.{last-id}
use Rattle.rules.specs.Inputs.{good-panel}
use Rattle.rules.specs.Commands.{Command, paint-fill, layer-fill, push-buf, pop-buf}
use Rattle.rules.specs.Attributes.{PaintAttr, LayerAttr, FilterPaint, Attrs, no-paint, no-layer}
use Rattle.rules.specs.Rows.{Row}
use Rattle.rules.specs.Painting.{paint-id, paint-panel, layer-id, layer-panel}
use Rattle.rules.proofs.All.{and_left, all_map}
use Rattle.paint.specs.Painting.{good-id, good-paint, good-layer}
use Rattle.refine_paint.specs.Fair.{FairCommand, Fair}

-- an attribute at place i of n that is good where it stands
abbrev good-paint-at : ℕ → ℕ → PaintAttr → Bool
good-paint-at i n x = ltb i n && good-panel x.panel && good-id x.id

abbrev good-layer-at : ℕ → ℕ → LayerAttr → Bool
good-layer-at i n x = ltb i n && good-panel x.panel && good-id x.id

-- b has the attributes of a, and perhaps more after them
pub record Extends (a b : Attrs) : Type 0 where
  pub more-paints : length a.paints ≤ length b.paints
  pub more-layers : length a.layers ≤ length b.layers
  pub paints-kept : (i : ℕ) → i < length a.paints → get_or b.paints i no-paint ≡ get_or a.paints i no-paint
  pub layers-kept : (i : ℕ) → i < length a.layers → get_or b.layers i no-layer ≡ get_or a.layers i no-layer

pub same-attrs : (a : Attrs) → Extends a a
same-attrs a = record { more-paints = omega arith; more-layers = omega arith; paints-kept = λ i h. refl; layers-kept = λ i h. refl }

module _ (ps : List PaintAttr) (ls : List LayerAttr) (fs gs : List FilterPaint) where
  abbrev old : Attrs
  old = record { paints = ps; layers = ls; filters = fs }

  module _ (x : PaintAttr) where
    abbrev painted : Attrs
    painted = record { paints = ps ++ (x ∷ []); layers = ls; filters = gs }

    pub paint-extends : Extends old painted
    paint-extends =
        record {
          more-paints = rw length-append (omega arith);
          more-layers = omega arith;
          paints-kept = λ i h. get_or-append ps (x ∷ []) _ i h;
          layers-kept = λ i h. refl;
        }

    new-paint : get_or (ps ++ (x ∷ [])) (length ps) no-paint ≡ x
    new-paint = get_or-append_seam ps x [] _

    pub paint-new : paint-id painted (length ps) ≡ x.id
    paint-new = ap (λ (y : PaintAttr). y.id) new-paint

    pub paint-good : 1 ≤ x.id → x.id ≤ last-id → good-panel x.panel ≡ true → good-paint painted (length ps) ≡ true
    paint-good l h g =
        let k : length ps < length (ps ++ (x ∷ [])) = rw length-append (omega arith) in
        ap (good-paint-at (length ps) (length (ps ++ (x ∷ [])))) new-paint ∙ rw (lt-ltb _ _ k, g, lt-ltb 0 x.id l, le-leb x.id last-id h)

  module _ (x : LayerAttr) where
    abbrev layered : Attrs
    layered = record { paints = ps; layers = ls ++ (x ∷ []); filters = gs }

    pub layer-extends : Extends old layered
    layer-extends =
        record {
          more-paints = omega arith;
          more-layers = rw length-append (omega arith);
          paints-kept = λ i h. refl;
          layers-kept = λ i h. get_or-append ls (x ∷ []) _ i h;
        }

    new-layer : get_or (ls ++ (x ∷ [])) (length ls) no-layer ≡ x
    new-layer = get_or-append_seam ls x [] _

    pub layer-good : 1 ≤ x.id → x.id ≤ last-id → good-panel x.panel ≡ true → good-layer layered (length ls) ≡ true
    layer-good l h g =
        let k : length ls < length (ls ++ (x ∷ [])) = rw length-append (omega arith) in
        ap (good-layer-at (length ls) (length (ls ++ (x ∷ [])))) new-layer ∙ rw (lt-ltb _ _ k, g, lt-ltb 0 x.id l, le-leb x.id last-id h)

-- a good attribute is there
module _ (a : Attrs) (i : ℕ) where
  pub paint-there : good-paint a i ≡ true → i < length a.paints
  paint-there g =
      let t = ltb i (length a.paints) in
      ltb-true _ _ (and_left t (good-panel (paint-panel a i)) (and_left (t && good-panel (paint-panel a i)) (good-id (paint-id a i)) g))

  layer-there : good-layer a i ≡ true → i < length a.layers
  layer-there g =
      let t = ltb i (length a.layers) in
      ltb-true _ _ (and_left t (good-panel (layer-panel a i)) (and_left (t && good-panel (layer-panel a i)) (good-id (layer-id a i)) g))

module _ (a b : Attrs) (e : Extends a b) where
  same_id : (i : ℕ) → good-paint a i ≡ true → paint-id b i ≡ paint-id a i
  same_id i g = ap (λ (x : PaintAttr). x.id) (e.paints-kept i (paint-there a i g))

  paint-more : (i : ℕ) → good-paint a i ≡ true → good-paint b i ≡ true
  paint-more i g =
      let h = paint-there a i g in
      let k : i < length b.paints = omega (arith, e.more-paints) in
      ap (good-paint-at i (length b.paints)) (e.paints-kept i h) ∙ rw (lt-ltb _ _ k) (rw (lt-ltb _ _ h) at g)

  layer-more : (i : ℕ) → good-layer a i ≡ true → good-layer b i ≡ true
  layer-more i g =
      let h = layer-there a i g in
      let k : i < length b.layers = omega (arith, e.more-layers) in
      ap (good-layer-at i (length b.layers)) (e.layers-kept i h) ∙ rw (lt-ltb _ _ k) (rw (lt-ltb _ _ h) at g)

  command-more : (c : Command) → FairCommand a c → FairCommand b c
  command-more (paint-fill s x i) h = record { good = h.good; attributed = paint-more i h.attributed }
  command-more (layer-fill s x i) h = record { good = h.good; attributed = layer-more i h.attributed }
  command-more (push-buf s) h = record { good = h.good; attributed = tt }
  command-more pop-buf h = record { good = tt; attributed = tt }

  pub fair-more : (v n : ℕ) (r : Row) → Fair v a n r → Fair v b n r
  fair-more v n r h =
      record {
        commands = all_map command-more h.commands;
        fills =
            all_map (λ f o. record {
              good = o.good;
              attributed = paint-more f.attribute o.attributed;
              included = rw (same_id f.attribute o.attributed) o.included;
            }) h.fills;
        unions = h.unions;
        nested = h.nested;
        levels = h.levels;
      }
