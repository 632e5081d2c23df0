-- Tests: whose panel stands in each attribute, each piece and each entry of a tile. The other tests are at panel 0.
use Rattle.std.proofs.Common.{ℕ, ◌≡◌, refl, List, [], ◌∷◌, map, None}
use Rattle.sizes.specs.declared.width.Width.TheVariants.{W128}
use Rattle.rules.specs.Boxes.{box}
use Rattle.rules.specs.Blends.{default-blend}
use Rattle.rules.specs.Attributes.{PaintAttr, LayerAttr}
use Rattle.rules.specs.Rows.{Row}
use Rattle.rules.specs.Plans.{Step, a-fill, a-push, a-pop, a-filter}
use Rattle.rules.specs.Steps.{Screen}
use Rattle.rules.specs.Painting.{Piece, Entry, paint-row}
use Rattle.rules.specs.Plain.{plain}
use Rattle.rules.specs.Calls.{Canvas, fresh-canvas, step_call}
use Rattle.rules.specs.cases.Samples.{solid, opaque-paint, draw-for, any-props, full, filter}
use Rattle.rules.proofs.Computing.{computing}

abbrev layer-for : ℕ → Step
layer-for q = a-push (any-props default-blend full 0 None q)

-- in a layer of panel 2 one of panel 3, and in it a fill of panel 1 and a filter fill of panel 9; then an eligible fill of panel 255
abbrev drawn : List Step
drawn =
    layer-for 2
    ∷ layer-for 3
    ∷ a-fill (opaque-paint ∷ []) (solid 0 0 8 ∷ []) (draw-for 1 0 1)
    ∷ a-filter 1 (filter 5 (box 0 0 16 4) 0 0) 9
    ∷ a-pop []
    ∷ a-pop []
    ∷ a-fill (opaque-paint ∷ []) (solid 0 32 64 ∷ []) (draw-for 255 0 1)
    ∷ []

abbrev after : List Step → Canvas → Canvas
after [] k = k
after (x ∷ xs) k = after xs (step_call x k).value

abbrev screen : Screen Row
screen = (after drawn (fresh-canvas (record { viewport = box 0 0 256 4; c = 9; d = 9; width = W128 }))).screen

pub paint-panels : map (λ (a : PaintAttr). a.panel) screen.state.attrs.paints ≡ 1 ∷ 9 ∷ 255 ∷ []
unfolding computing
paint-panels = refl

-- the inner layer closes first
pub layer-panels : map (λ (a : LayerAttr). a.panel) screen.state.attrs.layers ≡ 3 ∷ 2 ∷ []
unfolding computing
layer-panels = refl

-- the depth fill, the fill, the filter fill, the inner layer's closing, the outer layer's
pub piece-panels :
    map (λ (r : Row). map (λ (p : Piece). p.panel) (paint-row 32 screen.state.attrs 2 r)) screen.rows ≡
    (255 ∷ 1 ∷ 9 ∷ 3 ∷ 2 ∷ []) ∷ []
unfolding computing
piece-panels = refl

abbrev panels-at : ℕ → List ℕ
panels-at tile = map (λ (e : Entry). e.panel) (plain 32 (box 0 0 256 4) 0 tile drawn)

pub entry-panels : map panels-at (0 ∷ 8 ∷ 40 ∷ []) ≡ (1 ∷ 9 ∷ 3 ∷ 2 ∷ []) ∷ (3 ∷ 2 ∷ []) ∷ (255 ∷ []) ∷ []
unfolding computing
entry-panels = refl
