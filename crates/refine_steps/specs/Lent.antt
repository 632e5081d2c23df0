-- The words of a screen of the rules: every lent word is a function of the rules' state and rows, but the depth words, their minima and the painter's,
-- which no building step reads or writes, and whether painting has begun.
use Rattle.std.specs.Prelude.{ℕ, ◌-◌, ◌≡◌, Bool, false, cond, List, [], ◌∷◌, ◌++◌, map, eqb, length, replicate, pos, Float}
use Rattle.std.specs.Float.{binary32}
use Rattle.std.specs.Float.Ieee.{of_bits}
use Rattle.sizes.specs.Sizes.{most-layers, most-attrs, open-layer-table, paint-attr-table, layer-attr-table, filter-paint-table}
use Rattle.rules.specs.Lists.{join}
use Rattle.rules.specs.Answers.{Answer, answer, Done}
use Rattle.rules.specs.Attributes.{LayerAttr}
use Rattle.screen.specs.Attributes.{paint-attr-words, layer-attr-words}
use Rattle.rules.specs.Rows.{Row}
use Rattle.rules.specs.Plans.{Layer, State, box_of}
use Rattle.rules.specs.Steps as rule
use Rattle.row.specs.Words.{Words}
use Rattle.row.specs.Arena.{lay}
use Rattle.refine_row.specs.Encode.{encode}
use Rattle.screen.specs.declared.Screen.{Screen}
use Rattle.rect.specs.Rects.{rect-of}
use Rattle.screen.specs.Screens.{screen-in}
use Rattle.screen.specs.Depths.{Depths}
use Rattle.screen.specs.Tables.{tables, ScreenLent, screen_lent, float-0}
use Rattle.screen.specs.Layers.{layer-words}
use Rattle.layers.specs.Filter.{filter-paint-words}
use Rattle.walk.specs.Reading.{pattern_of}

-- n places: what is there, then z
unfoldable pub table : {A : Type 0} → A → ℕ → List A → List A
table z n xs = xs ++ replicate (n - length xs) z

-- an open layer's words; a NaN's pattern is kept beside the f32
abbrev pub open-words : Layer → List ℕ
open-words l = layer-words l (pattern_of l.props.opacity)

-- the open layers' words, and their opacities, the outermost first
unfoldable pub layers-words : List Layer → List ℕ
layers-words [] = []
layers-words (l ∷ ls) = layers-words ls ++ open-words l

unfoldable pub layers-opacities : List Layer → List Float
layers-opacities [] = []
layers-opacities (l ∷ ls) = layers-opacities ls ++ (of_bits binary32 l.props.opacity ∷ [])

-- a layer attribute's words
abbrev pub attr-words : LayerAttr → List ℕ
attr-words a = layer-attr-words a (pattern_of a.opacity)

abbrev pub attr-opacity : LayerAttr → Float
attr-opacity a = of_bits binary32 a.opacity

-- the screen's numbers
abbrev pub screen-of : State → Bool → Screen
screen-of s painting =
    screen-in s.frame (rect-of (box_of s)) s.next (length s.attrs.paints) (length s.attrs.layers) (length s.attrs.filters)
    (length s.layers) painting

-- the words of the rows
abbrev pub rows_of : rule.Screen Row → Words
rows_of s = lay (map (encode s.state.frame.c s.state.frame.d) s.rows)

-- a screen and its words: whether painting has begun, the depth words, their minima and the painter's are no part of the rules' screen
unfoldable pub lent_of : rule.Screen Row → Bool → Depths → List ℕ → ScreenLent
lent_of s begun depth painting =
    screen_lent (screen-of s.state begun)
    (tables (rows_of s).render (rows_of s).fills depth (rows_of s).state painting (table 0 open-layer-table (layers-words s.state.layers))
    (table float-0 most-layers (layers-opacities s.state.layers) ++ table float-0 most-attrs (map attr-opacity s.state.attrs.layers))
    (table 0 paint-attr-table (join paint-attr-words s.state.attrs.paints))
    (table 0 layer-attr-table (join attr-words s.state.attrs.layers))
    (table (pos 0) filter-paint-table (join filter-paint-words s.state.attrs.filters)))

-- an answer of the rules, at the words: a done step ends painting
abbrev pub answer-of : Answer (rule.Screen Row) → Bool → Depths → List ℕ → Answer ScreenLent
answer-of a begun depth painting = answer a.number (lent_of a.value (cond (eqb a.number Done) false begun) depth painting)

-- l holds the words of the screen s
pub record Holds (s : rule.Screen Row) (l : ScreenLent) : Type 0 where
  pub begun : Bool
  pub depth : Depths
  pub painting : List ℕ
  pub same : l ≡ lent_of s begun depth painting
