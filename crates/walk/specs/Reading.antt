-- The rules' records as the building calls take them.
use Rattle.std.specs.Prelude.{ℕ, Bool, true, false, ◌||◌, not, cond, eqb, Float}
use Rattle.std.specs.Prelude.{Option, None, Some}
use Rattle.std.specs.Float.{binary32}
use Rattle.std.specs.Float.Ieee.{of_bits, to_bits, is_nan, nan_bits, ne}
use Rattle.rules.specs.Blends as blends
use Rattle.rules.specs.Blends.{is-default}
use Rattle.rules.specs.Inputs as rule
use Rattle.rules.specs.Recording.{LayerRec}
use Rattle.cmd.specs.declared.blend.Blend.{Blend}
use Rattle.cmd.specs.Blends.{blend_of}
use Rattle.rect.specs.Rects.{rect-of}
use Rattle.inputs.specs.declared.Draw.{Draw}
use Rattle.inputs.specs.declared.Clip.{Clip}
use Rattle.screen.specs.declared.layers.LayerProps.{LayerProps}
use Rattle.screen.specs.Layers.{clip-of}

abbrev pub blend_in : blends.Blend → Blend
blend_in b = record { mix = b.mix; compose = b.compose }

abbrev pub draw_in : rule.Draw → Draw
draw_in d =
    record {
      thread = d.thread;
      start = d.start;
      «end» = d.end;
      paint = d.paint;
      blend = blend_in d.blend;
      mask = d.mask;
      panel = d.panel;
    }

-- a NaN's pattern, else 0
abbrev pub pattern_of : ℕ → ℕ
pattern_of n = cond (nan_bits binary32 n) n 0

abbrev pub clip_in : Option rule.Clip → Option Clip
clip_in None = None
clip_in (Some c) = Some (record { bbox = rect-of c.bounds; start = c.start; «end» = c.end; thread = c.thread })

-- a layer's clip, if its flag says so
abbrev pub clip_read : LayerRec → Option rule.Clip
clip_read l = cond (eqb l.flag 1) (Some l.clip) None

-- the opacity is the f32 of its bits; a NaN's pattern is kept beside it
abbrev pub props_in : rule.Props → LayerProps
props_in p =
    record {
      blend = blend_in p.blend;
      opacity = of_bits binary32 p.opacity;
      nan = pattern_of p.opacity;
      mask = p.mask;
      clip = clip_in p.clip;
      panel = p.panel;
    }

-- the rules' properties that given ones say: the bits of the opacity, a NaN's pattern for a NaN
abbrev pub props_said : LayerProps → rule.Props
props_said p =
    record {
      blend = blend_of p.blend;
      opacity = cond (is_nan p.opacity) p.nan (to_bits binary32 p.opacity);
      mask = p.mask;
      clip = clip-of p.clip;
      panel = p.panel;
    }

abbrev pub float_1 : Float
float_1 = of_bits binary32 1065353216

abbrev pub present : Option Clip → Bool
present None = false
present (Some c) = true

-- rule 2, with the opacity as an f32
abbrev pub buffered : LayerProps → Bool
buffered p = not (is-default (blend_of p.blend)) || ne p.opacity float_1 || not (eqb p.mask 0) || present p.clip
