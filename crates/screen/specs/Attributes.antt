-- The words of attributes, as they stand in the tables.
use Rattle.std.specs.Prelude.{ℕ, List, [], ◌∷◌}
use Rattle.rules.specs.Attributes.{PaintAttr, LayerAttr}

-- a paint attribute's words
abbrev pub paint-attr-words : PaintAttr → List ℕ
paint-attr-words a =
    a.paint ∷ a.blend.mix ∷ a.blend.compose ∷ a.mask ∷ a.id ∷ a.thread ∷ a.origin-x ∷ a.origin-y ∷ a.panel ∷ []

-- a layer attribute's: its opacity stands apart, but for a NaN's pattern
abbrev pub layer-attr-words : LayerAttr → ℕ → List ℕ
layer-attr-words a nan = a.blend.mix ∷ a.blend.compose ∷ a.mask ∷ a.id ∷ a.thread ∷ nan ∷ a.panel ∷ []
