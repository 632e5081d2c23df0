-- The code's inputs as the rules', and what of them is judged by counts alone.
use Rattle.std.specs.Prelude.{ℕ, Bool, ◌&&◌, leb, ltb}
use Rattle.rules.specs.Blends.{good-blend}
use Rattle.rules.specs.Spans.{good-range}
use Rattle.rules.specs.Inputs as rule
use Rattle.rules.specs.Inputs.{good-clip, good-handle, good-thread, good-panel}
use Rattle.cmd.specs.Blends.{blend_of}
use Rattle.rect.specs.Rects.{box_of}
use Rattle.inputs.specs.declared.Draw.{Draw}
use Rattle.inputs.specs.declared.Clip.{Clip}
use Rattle.inputs.specs.declared.Filter.{Filter}

abbrev pub draw-of : Draw → rule.Draw
draw-of d =
    record {
      thread = d.thread;
      start = d.start;
      end = d.«end»;
      paint = d.paint;
      blend = blend_of d.blend;
      mask = d.mask;
      panel = d.panel;
    }

abbrev pub clip-of : Clip → rule.Clip
clip-of c = record { bounds = box_of c.bbox; start = c.start; end = c.«end»; thread = c.thread }

abbrev pub filter-of : Filter → rule.Filter
filter-of f = record { pixmap = f.pixmap; dest = box_of f.dest; source-x = f.source_x; source-y = f.source_y }

-- a draw, its own paint's fields left out, beside so many paints and segments
unfoldable pub draw_fields : ℕ → ℕ → rule.Draw → Bool
draw_fields paints segments d =
    good-thread d.thread
    && good-range d.start d.end segments
    && ltb d.paint paints
    && good-blend d.blend
    && good-handle d.mask
    && good-panel d.panel

-- a clip beside a list of so many segments
unfoldable pub clip_fields : ℕ → rule.Clip → Bool
clip_fields segments c = good-clip c && leb c.end segments
