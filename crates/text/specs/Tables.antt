-- Attributes, filter paints and pieces, read off their tables' words.
use Rattle.std.specs.Prelude.{ℕ, ◌+◌, ◌*◌, cond, List, [], ◌∷◌, get_or, drop, ℤ, pos, nat_abs, Float}
use Rattle.std.specs.Float.Ieee.{ne, to_bits}
use Rattle.std.specs.Float.{binary32, nan}
use Rattle.sizes.specs.Sizes.{most-layers, paint-attr-size, paint-id-at, paint-panel-at, layer-attr-size, layer-id-at, layer-panel-at, filter-paint-size}
use Rattle.rules.specs.Attributes.{PaintAttr, LayerAttr}
use Rattle.text.specs.Details.{Detail, paint-attributes, layer-attributes, filter-paints, F, paint-attr-line, layer-attr-line}
use Rattle.text.specs.Places.{joined}

-- word i, 0 past the end
abbrev pub word : List ℕ → ℕ → ℕ
word ws i = get_or ws i 0

-- a paint attribute, off its words
abbrev pub paint-attr-of : List ℕ → PaintAttr
paint-attr-of ws =
    record {
      paint = word ws 0;
      blend = record { mix = word ws 1; compose = word ws 2 };
      mask = word ws 3;
      id = word ws paint-id-at;
      thread = word ws 5;
      origin-x = word ws 6;
      origin-y = word ws 7;
      panel = word ws paint-panel-at;
    }

-- .. at place i of its table
unfoldable pub paint-attr-at : List ℕ → ℕ → PaintAttr
paint-attr-at ws i = paint-attr-of (drop (paint-attr-size * i) ws)

-- the bits of an opacity: a NaN's are the pattern kept beside it
unfoldable pub opacity-bits : Float → ℕ → ℕ
opacity-bits o kept = cond (ne o o) kept (to_bits binary32 o)

-- a layer attribute, off its words and its opacity
abbrev pub layer-attr-of : List ℕ → Float → LayerAttr
layer-attr-of ws o =
    record {
      blend = record { mix = word ws 0; compose = word ws 1 };
      opacity = opacity-bits o (word ws 5);
      mask = word ws 2;
      id = word ws layer-id-at;
      thread = word ws 4;
      panel = word ws layer-panel-at;
    }

-- the opacities of the 16 open layers stand before those of the attributes
unfoldable pub layer-attr-at : List ℕ → List Float → ℕ → LayerAttr
layer-attr-at ws os i = layer-attr-of (drop (layer-attr-size * i) ws) (get_or os (most-layers + i) nan)

abbrev pub signed_word : List ℤ → ℕ → ℤ
signed_word ws i = get_or ws i (pos 0)

-- flag, pixmap, shift
abbrev pub filter-of : List ℤ → Detail
filter-of ws = F (nat_abs (signed_word ws 0)) (nat_abs (signed_word ws 1)) (signed_word ws 2) (signed_word ws 3)

unfoldable pub filter-at : List ℤ → ℕ → Detail
filter-at ws i = filter-of (drop (filter-paint-size * i) ws)

-- each table's heading and its first n lines
unfoldable pub paint-lines : List ℕ → ℕ → List Detail
paint-lines ws n = paint-attributes n ∷ joined (λ (i : ℕ). paint-attr-line (paint-attr-at ws i) ∷ []) n

unfoldable pub layer-lines : List ℕ → List Float → ℕ → List Detail
layer-lines ws os n = layer-attributes n ∷ joined (λ (i : ℕ). layer-attr-line (layer-attr-at ws os i) ∷ []) n

unfoldable pub filter-lines : List ℤ → ℕ → List Detail
filter-lines ws n = filter-paints n ∷ joined (λ (i : ℕ). filter-at ws i ∷ []) n
