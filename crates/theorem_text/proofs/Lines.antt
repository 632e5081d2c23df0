-- How long the lines of attributes and of pieces are at most. Assumes nothing.
use Rattle.std.proofs.Common.{◌≡◌, Bool, false, ◌||◌, List, [], ◌∷◌, ◌++◌, map, ℕ, ◌+◌, ◌*◌, ◌≤◌, arith, ltb, length, length-append, ltb-false}
use Rattle.sizes.specs.Sizes.{most-attrs, most-filters}
use Rattle.rules.specs.Attributes.{Attrs, attrs-full}
use Rattle.rules.specs.Painting.{Piece}
use Rattle.rules.proofs.All.{neither}
use Rattle.rules_picture.proofs.Cases.{by}
use Rattle.text.specs.Details.{Detail, paint-attributes, layer-attributes, filter-paints, painted, paint-attr-line, layer-attr-line, filter-paint-line, piece-line, attr-lines, painted-row}
use Rattle.text.specs.Bytes.{detail-room, piece-room, detail-bytes, details-text}
use Rattle.text.specs.Dumped.{attrs-most}
use Rattle.text.proofs.DetailsLengths.{p-few, l-few, painted-few, detail-few}

-- the lines' bounds, with panels or without
module _ (v : Bool) where
  piece-line-few : (k : Piece) → length (detail-bytes v (piece-line k)) ≤ piece-room
  piece-line-few k =
      by k.layer (λ y. rw y (l-few v k.attribute k.tiles.first k.tiles.end k.alpha k.nesting k.panel))
      (λ n. rw n (p-few v k.attribute k.tiles.first k.tiles.end k.alpha k.nesting k.panel))

  pieces-few : (qs : List Piece) → length (details-text v (map piece-line qs)) ≤ piece-room * length qs
  pieces-few [] = omega arith
  pieces-few (q ∷ qs) = rw (length-append (detail-bytes v (piece-line q)) (details-text v (map piece-line qs))) (omega (arith, piece-line-few q, pieces-few qs))

  -- The text of a row with its pieces, ..
  pub row-text-few : (r : ℕ) (ks : List Piece) → length (details-text v (painted-row r ks)) ≤ piece-room * (1 + length ks)
  row-text-few r ks =
      rw (length-append (detail-bytes v (painted r (length ks))) (details-text v (map piece-line ks)))
      (omega (arith, painted-few v r (length ks), pieces-few ks))

  -- .. and that of attributes within their limits.
  lines-few : {B : Type 0} (f : B → Detail) (xs : List B) → length (details-text v (map f xs)) ≤ detail-room * length xs
  lines-few f [] = omega arith
  lines-few f (x ∷ xs) = rw (length-append (detail-bytes v (f x)) (details-text v (map f xs))) (omega (arith, detail-few v (f x), lines-few f xs))

  join-two : (ds es : List Detail) → length (details-text v (ds ++ es)) ≡ length (details-text v ds) + length (details-text v es)
  join-two [] es = omega arith
  join-two (d ∷ ds) es =
      rw (length-append (detail-bytes v d) (details-text v (ds ++ es)), length-append (detail-bytes v d) (details-text v ds), join-two ds es) (omega arith)

  pub attrs-text-few : (a : Attrs) → attrs-full a ≡ false → length (details-text v (attr-lines a)) ≤ attrs-most
  attrs-text-few a e =
      let x = neither (ltb most-attrs (length a.paints) || ltb most-attrs (length a.layers)) (ltb most-filters (length a.filters)) e in
      let y = neither (ltb most-attrs (length a.paints)) (ltb most-attrs (length a.layers)) x.0 in
      let i : length a.paints ≤ most-attrs = ltb-false _ _ y.0 in
      let j : length a.layers ≤ most-attrs = ltb-false _ _ y.1 in
      let k : length a.filters ≤ most-filters = ltb-false _ _ x.1 in
      let ps = map paint-attr-line a.paints in
      let ls = map layer-attr-line a.layers in
      let fs = map filter-paint-line a.filters in
      let h = detail-few v (paint-attributes (length a.paints)) in
      let g = detail-few v (layer-attributes (length a.layers)) in
      let q = detail-few v (filter-paints (length a.filters)) in
      rw (
        join-two (paint-attributes (length a.paints) ∷ ps) ((layer-attributes (length a.layers) ∷ ls) ++ (filter-paints (length a.filters) ∷ fs)),
        join-two (layer-attributes (length a.layers) ∷ ls) (filter-paints (length a.filters) ∷ fs),
        length-append (detail-bytes v (paint-attributes (length a.paints))) (details-text v ps),
        length-append (detail-bytes v (layer-attributes (length a.layers))) (details-text v ls),
        length-append (detail-bytes v (filter-paints (length a.filters))) (details-text v fs),
      )
      (omega (arith, lines-few paint-attr-line a.paints, lines-few layer-attr-line a.layers, lines-few filter-paint-line a.filters))
