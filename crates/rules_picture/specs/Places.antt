-- What the place of an attribute holds to the end: the record that its step said. So colours may be chosen by the records themselves.
use Rattle.std.specs.Prelude.{ℕ, ◌+◌, ◌<◌, ◌≡◌, false, List, [], ◌∷◌, length, get_or, pos}
use Rattle.rules.specs.Lists.{is-empty}
use Rattle.rules.specs.Boxes.{Box, rows_of}
use Rattle.rules.specs.Blends.{default-blend}
use Rattle.rules.specs.Inputs.{Draw, draw-segments, Props, Filter}
use Rattle.rules.specs.Attributes.{PaintAttr, no-paint, LayerAttr, no-layer, FilterPaint, Attrs}
use Rattle.rules.specs.Rows.{Row, fresh-row}
use Rattle.rules.specs.Plans.{Frame, bucket, Step, a-fill, a-push, a-pop, a-filter, clip-thread, filter-box, filter-paint, draws-nothing}
use Rattle.rules.specs.Steps.{Screen, reset}
use Rattle.rules.specs.Plain.{OpenLayer, Story, untold, box-now, tell-step}
use Rattle.rules_picture.specs.Built.{Built}

-- what a draw says, with its id, on the viewport v
abbrev pub draw-attr : Box → Draw → ℕ → PaintAttr
draw-attr v d id =
    record { paint = d.paint; blend = d.blend; mask = d.mask; id = id; thread = d.thread; origin-x = v.x0; origin-y = v.y0; panel = d.panel }

-- what a filter fill of panel q says, its picture being paint p
abbrev pub filter-attr : Box → ℕ → ℕ → ℕ → PaintAttr
filter-attr v p q id =
    record { paint = p; blend = default-blend; mask = 0; id = id; thread = 0; origin-x = v.x0; origin-y = v.y0; panel = q }

-- what a layer's properties say
abbrev pub props-attr : Props → ℕ → LayerAttr
props-attr p id =
    record { blend = p.blend; opacity = p.opacity; mask = p.mask; id = id; thread = clip-thread p.clip; panel = p.panel }

abbrev pub no-filter : FilterPaint
no-filter = record { pixmap = 0; shift-x = pos 0; shift-y = pos 0 }

-- place i of a table holds x
abbrev pub HoldsAt : {A : Type 0} → List A → A → ℕ → A → Type 0
HoldsAt xs none i x = (i < length xs) × (get_or xs i none ≡ x)

-- in the tables t, a filter fill of the filter f, given n paints: its picture's paint stands after those
pub record FilterPlaced (t : Attrs) (v : Box) (n : ℕ) (f : Filter) (q : ℕ) (s : Story) : Type 0 where
  pub picture : ℕ
  pub paint : HoldsAt t.filters no-filter picture (filter-paint f)
  pub attribute : HoldsAt t.paints no-paint s.paints (filter-attr v (n + picture) q s.next)

abbrev pub LayerPlaced : Attrs → List OpenLayer → Story → Type 0
LayerPlaced t [] s = Unit {0}
LayerPlaced t (l ∷ ls) s = HoldsAt t.layers no-layer s.layers (props-attr l.layer.props s.next)

-- the step x, where the story before it is s
abbrev pub StepPlaced : Attrs → Box → Step → Story → Type 0
StepPlaced t v (a-fill ps ss d) s = is-empty (draw-segments ss d) ≡ false → HoldsAt t.paints no-paint s.paints (draw-attr v d s.next)
StepPlaced t v (a-push p) s = Unit {0}
StepPlaced t v (a-pop ss) s = LayerPlaced t s.open-layers s
StepPlaced t v (a-filter n f q) s = draws-nothing f (filter-box v (box-now v s.open-layers) f) ≡ false → FilterPlaced t v n f q s

-- each of the steps
pub data Placed (t : Attrs) (w : ℕ) (v : Box) (row tile : ℕ) : List Step → Story → Type 0 where
  all-placed : {s : Story} → Placed t w v row tile [] s
  placed-then : {x : Step} {xs : List Step} {s : Story} → StepPlaced t v x s → Placed t w v row tile xs (tell-step w v row tile x s) → Placed t w v row tile (x ∷ xs) s

-- On any screen built from its reset by done steps xs: what each step said stands at the place by which plain draw order names it.
abbrev pub AttributesPlaced : Type 0
AttributesPlaced =
    (f : Frame) (xs : List Step) (s : Screen Row) → Built xs (reset fresh-row f) s
    → (r t : ℕ) → r < rows_of f.viewport → Placed s.state.attrs (bucket f) f.viewport r t xs untold
