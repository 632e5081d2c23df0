-- The rules' records, read off a file's words at a place.
use Rattle.std.specs.Prelude.{ℕ, ◌+◌, List, get_or}
use Rattle.rules.specs.Boxes.{box}
use Rattle.rules.specs.Segments.{Segment}
use Rattle.rules.specs.Inputs.{Paint, Draw, Clip, Filter}
use Rattle.sizes.specs.Editions.{draw-size, layer-size}
use Rattle.sizes.specs.declared.edition.Edition.{Edition}
use Rattle.sizes.specs.declared.edition.Edition.TheVariants.{One, Two}
use Rattle.rules.specs.Recording.{LayerRec, Node, Recording, pixmap-of}
use Rattle.inputs.specs.Inputs.{draw-of}
use Rattle.inputs.specs.Draws.{draw_at}
use Rattle.file.specs.declared.form.Section.{Section}
use Rattle.file.specs.declared.form.Layout.{Layout}
use Rattle.file.specs.Each.{each}

module _ (ws : List ℕ) (p : ℕ) where
  -- the word i places on
  abbrev pub word : ℕ → ℕ
  word i = get_or ws (p + i) 0

  unfoldable pub paint_from : Paint
  paint_from = record { opaque = get_or ws p 0; handle = word 1 }

  unfoldable pub segment_from : Segment
  segment_from = record { kind = get_or ws p 0; row = word 1; first = word 2; end = word 3; alpha = word 4 }

  unfoldable pub clip_from : Clip
  clip_from = record { bounds = box (word 8) (word 9) (word 10) (word 11); start = word 12; end = word 13; thread = word 14 }

  unfoldable pub filter_from : Filter
  filter_from =
      record { pixmap = pixmap-of (word 15); dest = box (word 16) (word 17) (word 18) (word 19); source-x = word 20; source-y = word 21 }

  unfoldable pub node_from : Node
  node_from = record { start = get_or ws p 0; end = word 1; layer = word 2 }

-- .. where they depend on the edition: the panel's word at the end of a record, which edition one does not have, ..
abbrev pub panel_from : Edition → List ℕ → ℕ → ℕ
panel_from One ws p = 0
panel_from Two ws p = get_or ws p 0

module _ (e : Edition) (ws : List ℕ) (p : ℕ) where
  -- .. a draw, ..
  unfoldable pub draw_from : Draw
  draw_from = draw-of (draw_at e ws p)

  -- .. and a layer
  unfoldable pub layer_from : LayerRec
  layer_from =
      record {
        kind = get_or ws p 0;
        start = word ws p 1;
        end = word ws p 2;
        blend = record { mix = word ws p 3; compose = word ws p 4 };
        opacity = word ws p 5;
        mask = word ws p 6;
        flag = word ws p 7;
        clip = clip_from ws p;
        filter = filter_from ws p;
        panel = panel_from e ws (p + 22);
      }

-- the records of a section
module _ (ws : List ℕ) (s : Section) where
  abbrev pub paints-at : List Paint
  paints-at = each paint_from 4 ws s.at s.count

  abbrev pub segments-at : List Segment
  segments-at = each segment_from 5 ws s.at s.count

  abbrev pub nodes-at : List Node
  nodes-at = each node_from 3 ws s.at s.count

module _ (ws : List ℕ) (l : Layout) where
  abbrev pub draws-at : List Draw
  draws-at = each (draw_from l.edition) (draw-size l.edition) ws l.draws.at l.draws.count

  abbrev pub layers-at : List LayerRec
  layers-at = each (layer_from l.edition) (layer-size l.edition) ws l.layers.at l.layers.count

-- the recording whose sections stand as the layout says
unfoldable pub recorded : Layout → List ℕ → Recording
recorded l ws =
    record {
      viewport =
          box (get_or ws l.viewport.at 0) (word ws l.viewport.at 1) (word ws l.viewport.at 2) (word ws l.viewport.at 3);
      paints = paints-at ws l.paints;
      segments = segments-at ws l.segments;
      draws = draws-at ws l;
      layers = layers-at ws l;
      nodes = nodes-at ws l.nodes;
      start = get_or ws l.root.at 0;
      end = get_or ws (l.root.at + 1) 0;
    }
