-- The walk's parts as the story of one tile.
use Rattle.std.specs.Prelude.{ℕ, ◌-◌, not, [], eqb, get_or}
use Rattle.rules.specs.Lists.{slice}
use Rattle.rules.specs.Answers.{Answer}
use Rattle.rules.specs.Inputs.{Draw}
use Rattle.rules.specs.Recording.{Recording, LayerRec, layer-rec}
use Rattle.rules.specs.Plans.{Step, a-fill}
use Rattle.rules.specs.Walk.{each, when, walk-filter, walk-layer, walk-nodes}
use Rattle.rect.specs.Rects.{box_of}
use Rattle.tile.specs.declared.steps.Spot.{Spot}
use Rattle.tile.specs.Telling.{Telling, tell-at}

-- a step at a spot
abbrev pub told : Spot → Step → Telling → Answer Telling
told s = tell-at s.width (box_of s.viewport) s.row s.tile

module _ (s : Spot) (r : Recording) where
  abbrev pub draw-told : Draw → Telling → Answer Telling
  draw-told d = told s (a-fill r.paints r.segments d)

  -- draws a to b
  abbrev pub draws-told : ℕ → ℕ → Telling → Answer Telling
  draws-told a b = each draw-told (slice a b r.draws)

  abbrev pub filter-layer-told : LayerRec → Telling → Answer Telling
  filter-layer-told y = walk-filter Telling (told s) r y

  -- nodes a to b, with layers so deep
  abbrev pub nodes-told : ℕ → ℕ → ℕ → Telling → Answer Telling
  nodes-told depth a b = walk-nodes Telling (told s) r (walk-layer Telling (told s) r depth) a b

  -- the layer that a node names by its number + 1; 0 for none
  abbrev pub layer-told : ℕ → ℕ → Telling → Answer Telling
  layer-told depth k = when (not (eqb k 0)) (walk-layer Telling (told s) r depth (get_or r.layers (k - 1) (layer-rec [])))
