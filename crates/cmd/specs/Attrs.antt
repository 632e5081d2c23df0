-- The words of attributes and filter paints, and where they stand in their tables.
use Rattle.std.specs.Prelude.{List, [], ◌∷◌, ◌++◌, ℕ, ◌+◌, ◌*◌, length, take, drop, set, ℤ, pos, Float}
use Rattle.sizes.specs.Sizes.{most-layers, paint-attr-size, layer-attr-size, filter-paint-size}
use Rattle.cmd.specs.declared.attrs.PaintFillAttrs.{PaintFillAttrs}
use Rattle.cmd.specs.declared.attrs.LayerFillAttrs.{LayerFillAttrs}
use Rattle.cmd.specs.declared.attrs.FilterPaint.{FilterPaint}

-- a table whose words from a place on are those given, and the others as before
abbrev pub words-at : {A : Type 0} → List A → ℕ → List A → List A
words-at xs at ws = take at xs ++ ws ++ drop (at + length ws) xs

-- paint index, mix, compose, mask, id, thread, origin, panel
abbrev pub paint-words : PaintFillAttrs → List ℕ
paint-words a =
    a.paint ∷ a.blend.mix ∷ a.blend.compose ∷ a.mask ∷ a.draw_id ∷ a.thread_idx ∷ a.origin_x ∷ a.origin_y ∷ a.panel ∷ []

abbrev pub put-paint : List ℕ → ℕ → PaintFillAttrs → List ℕ
put-paint xs i a = words-at xs (paint-attr-size * i) (paint-words a)

-- mix, compose, mask, id, thread, NaN pattern, panel
abbrev pub layer-words : LayerFillAttrs → List ℕ
layer-words a = a.blend.mix ∷ a.blend.compose ∷ a.mask ∷ a.draw_id ∷ a.thread_idx ∷ a.nan ∷ a.panel ∷ []

pub record LayerTables : Type 0 where
  pub words : List ℕ
  pub opacities : List Float

abbrev pub layer-tables : List ℕ → List Float → LayerTables
layer-tables xs os = record { words = xs; opacities = os }

abbrev pub put-layer : LayerTables → ℕ → LayerFillAttrs → LayerTables
put-layer t i a = layer-tables (words-at t.words (layer-attr-size * i) (layer-words a)) (set t.opacities (most-layers + i) a.opacity)

-- flag 0, pixmap, shift
abbrev pub filter-words : FilterPaint → List ℤ
filter-words p = pos 0 ∷ pos p.pixmap ∷ p.shift_x ∷ p.shift_y ∷ []

abbrev pub put-filter : List ℤ → ℕ → FilterPaint → List ℤ
put-filter xs i p = words-at xs (filter-paint-size * i) (filter-words p)
