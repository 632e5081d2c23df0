-- Two histories that differ in panels alone, to be computed.
use Rattle.std.specs.Prelude.{ℕ, ◌≡◌, List, [], ◌∷◌, map, None}
use Rattle.sizes.specs.declared.width.Width.TheVariants.{W128}
use Rattle.rules.specs.Boxes.{box}
use Rattle.rules.specs.Blends.{default-blend}
use Rattle.rules.specs.Attributes.{PaintAttr, LayerAttr}
use Rattle.rules.specs.Rows.{Row, row-ops, fresh-row}
use Rattle.rules.specs.Plans.{Frame, Step, a-fill, a-push, a-pop, a-filter}
use Rattle.rules.specs.Steps.{Screen, reset, call}
use Rattle.rules.specs.Painting.{Piece, paint-row}
use Rattle.rules_picture.specs.Panels.{panelless-step, panelless-screen, panelless-piece}
use Rattle.rules.specs.cases.Samples.{solid, opaque-paint, draw-for, any-props, full, filter}

-- an eligible fill of panel a; in a layer of panel b a fill of panel c and a filter fill of panel d
abbrev pub drawn : ℕ → ℕ → ℕ → ℕ → List Step
drawn a b c d =
    a-fill (opaque-paint ∷ []) (solid 0 32 64 ∷ []) (draw-for a 0 1)
    ∷ a-push (any-props default-blend full 0 None b)
    ∷ a-fill (opaque-paint ∷ []) (solid 0 0 8 ∷ []) (draw-for c 0 1)
    ∷ a-filter 1 (filter 5 (box 0 0 16 4) 0 0) d
    ∷ a-pop []
    ∷ []

abbrev pub view : Frame
view = record { viewport = box 0 0 256 4; c = 9; d = 9; width = W128 }

-- the screen after some steps, and the steps' numbers
abbrev pub after : List Step → Screen Row → Screen Row
after [] s = s
after (x ∷ xs) s = after xs (call Row row-ops x s).value

abbrev pub numbers : List Step → Screen Row → List ℕ
numbers [] s = []
numbers (x ∷ xs) s = (call Row row-ops x s).number ∷ numbers xs (call Row row-ops x s).value

abbrev pub one : Screen Row
one = after (drawn 1 2 3 4) (reset fresh-row view)

abbrev pub other : Screen Row
other = after (drawn 255 0 9 2) (reset fresh-row view)

abbrev pub pieces : Screen Row → List (List Piece)
pieces s = map (paint-row 32 s.state.attrs 2) s.rows

pub record TwoPanels : Type 0 where
  pub panels-alone : map panelless-step (drawn 1 2 3 4) ≡ map panelless-step (drawn 255 0 9 2)
  -- all is done but what names panel 256, which is refused by 4
  pub all_done : numbers (drawn 1 2 3 4) (reset fresh-row view) ≡ 0 ∷ 0 ∷ 0 ∷ 0 ∷ 0 ∷ []
  pub past-255 : numbers (drawn 256 256 3 256) (reset fresh-row view) ≡ 4 ∷ 4 ∷ 0 ∷ 4 ∷ 7 ∷ []
  pub same_rows : one.rows ≡ other.rows
  pub same-screen : panelless-screen one ≡ panelless-screen other
  -- the panels themselves stand as they were given, in the attributes and in the pieces
  pub paint-panels : map (λ (a : PaintAttr). a.panel) one.state.attrs.paints ≡ 1 ∷ 3 ∷ 4 ∷ []
  pub layer-panels : map (λ (a : LayerAttr). a.panel) other.state.attrs.layers ≡ 0 ∷ []
  pub piece-panels : map (map (λ (p : Piece). p.panel)) (pieces other) ≡ (255 ∷ 9 ∷ 2 ∷ 0 ∷ []) ∷ []
  pub same-pieces : map (map panelless-piece) (pieces one) ≡ map (map panelless-piece) (pieces other)
