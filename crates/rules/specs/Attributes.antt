-- What the steps leave beside the rows: paint attributes, layer attributes, filter paints; their limits (answer 9).
use Rattle.std.specs.Prelude.{ℕ, Bool, ◌||◌, List, [], length, ltb, ℤ}
use Rattle.sizes.specs.Sizes.{most-attrs, most-filters}
use Rattle.rules.specs.Blends.{Blend, default-blend}

-- rule 3; the panel is the draw's
pub record PaintAttr : Type 0 where
  pub paint : ℕ
  pub blend : Blend
  pub mask : ℕ
  pub id : ℕ
  pub thread : ℕ
  pub origin-x : ℕ
  pub origin-y : ℕ
  pub panel : ℕ

-- where there is none
abbrev pub no-paint : PaintAttr
no-paint =
    record { paint = 0; blend = default-blend; mask = 0; id = 0; thread = 0; origin-x = 0; origin-y = 0; panel = 0 }

-- rule 9. opacity: the bits of an f32; the panel is the layer's own
pub record LayerAttr : Type 0 where
  pub blend : Blend
  pub opacity : ℕ
  pub mask : ℕ
  pub id : ℕ
  pub thread : ℕ
  pub panel : ℕ

abbrev pub no-layer : LayerAttr
no-layer = record { blend = default-blend; opacity = 0; mask = 0; id = 0; thread = 0; panel = 0 }

-- rule 11: flag 0, the pixmap, and the shift
pub record FilterPaint : Type 0 where
  pub pixmap : ℕ
  pub shift-x : ℤ
  pub shift-y : ℤ

pub record Attrs : Type 0 where
  pub paints : List PaintAttr
  pub layers : List LayerAttr
  pub filters : List FilterPaint

abbrev pub no-attrs : Attrs
no-attrs = record { paints = []; layers = []; filters = [] }

-- answer 9
abbrev pub attrs-full : Attrs → Bool
attrs-full a = ltb most-attrs (length a.paints) || ltb most-attrs (length a.layers) || ltb most-filters (length a.filters)
