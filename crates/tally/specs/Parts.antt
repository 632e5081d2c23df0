-- The first words of each table: as many as a recording's screen needs, or all of them where there are fewer.
use Rattle.std.specs.Prelude.{Option, None, Some, ℕ, ◌*◌, ◌++◌, cond, List, take, drop, min}
use Rattle.sizes.specs.Sizes.{row-size, open-layer-table, opacity-count, paint-attr-table, layer-attr-table, filter-paint-table}
use Rattle.rules.specs.Boxes.{good_viewport, rows_of}
use Rattle.rules.specs.Minima.{minima-room}
use Rattle.rules.specs.Plans.{Frame, buckets-across}
use Rattle.rules.specs.Recording.{File, parsed, recording}
use Rattle.rules.specs.Setups.{Setup, frame}
use Rattle.screen.specs.declared.lent.Lengths.{Lengths}
use Rattle.screen.specs.Depths.{Depths, depths}
use Rattle.screen.specs.Tables.{Tables, tables}

-- what a screen of a frame needs
abbrev pub lengths-for : Frame → Lengths
lengths-for f =
    let n = rows_of f.viewport in
    let b = buckets-across f in
    record {
      render_cmds = n * (4 * f.c);
      depth_cmds = n * (2 * f.d);
      depth = n * b;
      rows = n * row-size;
      painting = n * 2;
      layers = open-layer-table;
      opacities = opacity-count;
      paint_attrs = paint-attr-table;
      layer_attrs = layer-attr-table;
      filter_paints = filter-paint-table;
      minima = n * minima-room b;
    }

abbrev pub no-words : Lengths
no-words =
    record {
      render_cmds = 0;
      depth_cmds = 0;
      depth = 0;
      rows = 0;
      painting = 0;
      layers = 0;
      opacities = 0;
      paint_attrs = 0;
      layer_attrs = 0;
      filter_paints = 0;
      minima = 0;
    }

-- .. a recording in a setup: none where its viewport is no screen's
abbrev pub of-viewport : Frame → Lengths
of-viewport f = cond (good_viewport f.viewport) (lengths-for f) no-words

abbrev pub of-form : Option (List (List (List ℕ))) → Setup → Lengths
of-form None q = no-words
of-form (Some ss) q = of-viewport (frame q (recording ss).viewport)

-- .. a file: none where its form is bad
unfoldable pub needed-words : File → Setup → Lengths
needed-words f q = of-form (parsed f) q

-- the first words of each
abbrev pub depth-cut : Lengths → Depths → Depths
depth-cut n d = depths (take n.depth d.words) (take n.minima d.minima)

abbrev pub cut : Lengths → Tables → Tables
cut n t =
    tables (take n.render_cmds t.render) (take n.depth_cmds t.fills) (depth-cut n t.depth) (take n.rows t.rows) (take n.painting t.painting)
    (take n.layers t.layers) (take n.opacities t.opacities) (take n.paint_attrs t.paint-attrs) (take n.layer_attrs t.layer-attrs)
    (take n.filter_paints t.filter-paints)

-- the words us in the place of the first n of ws
abbrev pub over : {A : Type 0} → ℕ → List A → List A → List A
over n us ws = us ++ drop n ws

abbrev pub depth-over : Lengths → Depths → Depths → Depths
depth-over n u d = depths (over n.depth u.words d.words) (over n.minima u.minima d.minima)

-- tables with other first words
abbrev pub put-over : Lengths → Tables → Tables → Tables
put-over n u t =
    tables (over n.render_cmds u.render t.render) (over n.depth_cmds u.fills t.fills) (depth-over n u.depth t.depth) (over n.rows u.rows t.rows)
    (over n.painting u.painting t.painting)
    (over n.layers u.layers t.layers)
    (over n.opacities u.opacities t.opacities)
    (over n.paint_attrs u.paint-attrs t.paint-attrs)
    (over n.layer_attrs u.layer-attrs t.layer-attrs)
    (over n.filter_paints u.filter-paints t.filter-paints)

-- at most as many as there are
abbrev pub at-most : Lengths → Lengths → Lengths
at-most n m =
    record {
      render_cmds = min n.render_cmds m.render_cmds;
      depth_cmds = min n.depth_cmds m.depth_cmds;
      depth = min n.depth m.depth;
      rows = min n.rows m.rows;
      painting = min n.painting m.painting;
      layers = min n.layers m.layers;
      opacities = min n.opacities m.opacities;
      paint_attrs = min n.paint_attrs m.paint_attrs;
      layer_attrs = min n.layer_attrs m.layer_attrs;
      filter_paints = min n.filter_paints m.filter_paints;
      minima = min n.minima m.minima;
    }
