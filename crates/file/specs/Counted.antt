-- The tests of a file's records, section by section, by the counts of the layout.
use Rattle.std.specs.Prelude.{ℕ, ◌+◌, Bool, ◌&&◌, List, get_or}
use Rattle.rules.specs.Lists.{every}
use Rattle.rules.specs.Segments.{good-segment}
use Rattle.rules.specs.Spans.{good-range}
use Rattle.rules.specs.Inputs.{good-paint}
use Rattle.file.specs.declared.form.Layout.{Layout}
use Rattle.file.specs.Places.{paints-at, segments-at, draws-at, layers-at, nodes-at}
use Rattle.inputs.specs.Inputs.{draw_fields}
use Rattle.file.specs.Judging.{layer_fields, node_fields}

module _ (l : Layout) (ws : List ℕ) where
  abbrev pub paints-good : Bool
  paints-good = every good-paint (paints-at ws l.paints)

  abbrev pub segments-good : Bool
  segments-good = every good-segment (segments-at ws l.segments)

  abbrev pub draws-good : Bool
  draws-good = every (draw_fields l.paints.count l.segments.count) (draws-at ws l)

  abbrev pub layers-good : Bool
  layers-good = every (layer_fields l.nodes.count l.segments.count) (layers-at ws l)

  abbrev pub nodes-good : Bool
  nodes-good = every (node_fields l.draws.count l.layers.count) (nodes-at ws l.nodes)

  abbrev pub root-good : Bool
  root-good = good-range (get_or ws l.root.at 0) (get_or ws (l.root.at + 1) 0) l.nodes.count

  unfoldable pub counted : Bool
  counted = paints-good && segments-good && draws-good && layers-good && nodes-good && root-good
