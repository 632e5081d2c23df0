-- Tests: whose panels stand in a reason, by computation. The other tests are at panel 0.
use Rattle.std.proofs.Common.{ℕ, ◌≡◌, refl, List, [], ◌∷◌, map, Some}
use Rattle.rules.specs.Boxes.{Box, box}
use Rattle.rules.specs.Blends.{default-blend}
use Rattle.rules.specs.Segments.{Segment}
use Rattle.rules.specs.Plans.{Step, a-fill, a-push, a-pop, a-filter}
use Rattle.rules.specs.cases.Samples.{solid, opaque-paint, draw-for, any-props, clip, full, filter}
use Rattle.rules_reason.specs.Reasons.{Reason, unknown-attribute, no-segment, cut-away, row-untouched, hidden-by, shown-at, Asked, reason}
use Rattle.rules_reason.proofs.Cases.{computing-reasons, draw-of, layer-of}

-- a layer of panel q with a clip box
abbrev layer-for : ℕ → Box → Step
layer-for q b = a-push (any-props default-blend full 0 (Some (clip b 0 2 3)) q)

-- a draw of one segment for panel q
abbrev fill-for : ℕ → Segment → Step
fill-for q s = a-fill (opaque-paint ∷ []) (s ∷ []) (draw-for q 0 1)

abbrev close : Step
close = a-pop (solid 0 0 40 ∷ solid 1 0 40 ∷ [])

-- In a layer of panel 2, tiles 0 to 16, one of panel 3, tiles 8 to 16; in it a draw of panel 1 and a filter fill of panel 9. Then a draw of panel 255
-- that hides the second bucket
abbrev nested : List Step
nested =
    layer-for 2 (box 0 0 64 8)
    ∷ layer-for 3 (box 32 0 256 8)
    ∷ fill-for 1 (solid 0 0 12)
    ∷ a-filter 1 (filter 5 (box 0 0 56 4) 0 0) 9
    ∷ close
    ∷ close
    ∷ fill-for 255 (solid 0 32 64)
    ∷ []

-- a draw of panel 5, a filter fill of panel 6, two draws that hide the first bucket, of the panels 7 and 8
abbrev covered : List Step
covered =
    fill-for 5 (solid 0 0 40)
    ∷ a-filter 1 (filter 5 (box 0 0 128 4) 0 0) 6
    ∷ fill-for 7 (solid 0 0 32)
    ∷ fill-for 8 (solid 0 0 32)
    ∷ []

-- the reasons of some at a row and a tile
abbrev ask : List Step → ℕ → ℕ → List Asked → List Reason
ask xs row tile asked = map (reason 32 (box 0 0 256 8) row tile xs) asked

-- the draw, the filter fill, the draw after the layers, the inner layer, the outer layer
abbrev all-five : List Asked
all-five = draw-of 0 ∷ draw-of 1 ∷ draw-of 2 ∷ layer-of 0 ∷ layer-of 1 ∷ []

pub shown-panels : ask nested 0 10 all-five ≡ shown-at 0 1 ∷ shown-at 1 9 ∷ no-segment 255 ∷ shown-at 2 3 ∷ shown-at 3 2 ∷ []
unfolding computing-reasons
shown-panels = refl

-- before the inner box, and past the outer one
pub cut-panels : ask nested 0 4 all-five ≡ cut-away 1 ∷ cut-away 9 ∷ no-segment 255 ∷ shown-at 0 3 ∷ shown-at 1 2 ∷ []
unfolding computing-reasons
cut-panels = refl

pub outside-panels : ask nested 0 20 all-five ≡ no-segment 1 ∷ no-segment 9 ∷ no-segment 255 ∷ cut-away 3 ∷ shown-at 0 2 ∷ []
unfolding computing-reasons
outside-panels = refl

-- a layer that is hidden: the hider's panel, and its own
pub hidden-layer : ask nested 0 36 all-five ≡ no-segment 1 ∷ no-segment 9 ∷ shown-at 0 255 ∷ cut-away 3 ∷ hidden-by 2 255 2 ∷ []
unfolding computing-reasons
hidden-layer = refl

-- row 1 is in both clips, and nothing is drawn in it
pub untouched-panels : ask nested 1 10 all-five ≡ no-segment 1 ∷ no-segment 9 ∷ no-segment 255 ∷ row-untouched 3 ∷ row-untouched 2 ∷ []
unfolding computing-reasons
untouched-panels = refl

-- the newest that hides, and its panel; an attribute that there is not has none
pub hidden-panels :
    ask covered 0 3 (draw-of 0 ∷ draw-of 1 ∷ draw-of 2 ∷ draw-of 3 ∷ draw-of 4 ∷ []) ≡
    hidden-by 3 8 5 ∷ hidden-by 3 8 6 ∷ hidden-by 3 8 7 ∷ shown-at 0 8 ∷ unknown-attribute ∷ []
unfolding computing-reasons
hidden-panels = refl
