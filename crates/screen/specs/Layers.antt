-- An open layer's words in their table, the code's properties and layers as the rules', and what is judged of them (answer 4).
use Rattle.std.specs.Prelude.{ℕ, ◌+◌, ◌*◌, Bool, ◌&&◌, cond, List, [], ◌∷◌, ◌++◌, get_or, replicate, leb, eqb, Float}
use Rattle.std.specs.Prelude.{Option, None, Some}
use Rattle.std.specs.Float.{binary32}
use Rattle.std.specs.Float.Ieee.{is_nan, nan_bits, of_bits}
use Rattle.sizes.specs.Sizes.{open-layer-size}
use Rattle.rules.specs.Boxes.{Box, box, width, height, by_4}
use Rattle.rules.specs.Blends.{good-blend}
use Rattle.rules.specs.Inputs as rule
use Rattle.rules.specs.Inputs.{Props, good-handle, good-thread, good-panel, good-props}
use Rattle.rules.specs.Plans.{Layer}
use Rattle.cmd.specs.Blends.{blend_of}
use Rattle.inputs.specs.declared.Clip.{Clip}
use Rattle.inputs.specs.Inputs as inputs
use Rattle.rect.specs.declared.Rect.{Rect}
use Rattle.rect.specs.Rects.{box_of}
use Rattle.screen.specs.declared.layers.LayerProps.{LayerProps}
use Rattle.screen.specs.declared.layers.FlatClip.{FlatClip}
use Rattle.screen.specs.declared.layers.OpenLayer.{OpenLayer}

abbrev pub clip-of : Option Clip → Option rule.Clip
clip-of None = None
clip-of (Some c) = Some (inputs.clip-of c)

-- the opacity is 0 here: it stands apart, as an f32
abbrev pub props-of : LayerProps → Props
props-of p = record { blend = blend_of p.blend; opacity = 0; mask = p.mask; clip = clip-of p.clip; panel = p.panel }

-- a NaN opacity has a NaN's pattern beside it, any other 0
abbrev pub good-pattern : Float → ℕ → Bool
good-pattern o nan = cond (is_nan o) (nan_bits binary32 nan) (eqb nan 0)

-- what a push is given: the pattern is its opacity's, the rest is good by the rules
abbrev pub good-given : LayerProps → Bool
good-given p = good-pattern p.opacity p.nan && good-props (props-of p)

abbrev pub layer-of : LayerProps → Rect → Layer
layer-of p b = record { props = props-of p; bounds = box_of b }

abbrev pub box-words : Box → List ℕ
box-words b = b.x0 ∷ b.y0 ∷ b.x1 ∷ b.y1 ∷ []

-- flag, box, segment start and end, thread
abbrev pub clip-words : Option rule.Clip → List ℕ
clip-words None = 0 ∷ 0 ∷ 0 ∷ 0 ∷ 0 ∷ 0 ∷ 0 ∷ 0 ∷ []
clip-words (Some c) = 1 ∷ box-words c.bounds ++ (c.start ∷ c.end ∷ c.thread ∷ [])

abbrev pub flat-words : FlatClip → List ℕ
flat-words f = f.flag ∷ box-words (box_of f.bbox) ++ (f.start ∷ f.end ∷ f.thread ∷ [])

-- a layer's words: mix, compose, mask, its clip, its own box, the NaN pattern, its panel
abbrev pub layer-words : Layer → ℕ → List ℕ
layer-words l nan =
    l.props.blend.mix ∷ l.props.blend.compose ∷ l.props.mask ∷ clip-words l.props.clip ++ box-words l.bounds ++ (nan ∷ l.props.panel ∷ [])

-- those of a layer that is not open
abbrev pub no_words : List ℕ
no_words = replicate open-layer-size 0

abbrev pub no_opacity : Float
no_opacity = of_bits binary32 0

-- word i of layer k
abbrev pub layer-word : List ℕ → ℕ → ℕ → ℕ
layer-word ws k i = get_or ws (open-layer-size * k + i) 0

abbrev pub box_in : List ℕ → ℕ → Rect
box_in ws k = record { x0 = layer-word ws k 11; y0 = layer-word ws k 12; x1 = layer-word ws k 13; y1 = layer-word ws k 14 }

abbrev pub clip-in : List ℕ → ℕ → rule.Clip
clip-in ws k =
    record {
      bounds = box (layer-word ws k 4) (layer-word ws k 5) (layer-word ws k 6) (layer-word ws k 7);
      start = layer-word ws k 8;
      end = layer-word ws k 9;
      thread = layer-word ws k 10;
    }

-- layer k of the table among the rules
abbrev pub layer-at : List ℕ → ℕ → Layer
layer-at ws k =
    record {
      props =
          record {
            blend = record { mix = layer-word ws k 0; compose = layer-word ws k 1 };
            opacity = 0;
            mask = layer-word ws k 2;
            clip = cond (eqb (layer-word ws k 3) 0) None (Some (clip-in ws k));
            panel = layer-word ws k 16;
          };
      bounds = box_of (box_in ws k);
    }

-- what a pop reads of layer k
abbrev pub open_at : List ℕ → ℕ → OpenLayer
open_at ws k =
    record {
      blend = record { mix = layer-word ws k 0; compose = layer-word ws k 1 };
      mask = layer-word ws k 2;
      flag = layer-word ws k 3;
      start = layer-word ws k 8;
      «end» = layer-word ws k 9;
      thread = layer-word ws k 10;
      bbox = box_in ws k;
      nan = layer-word ws k 15;
      panel = layer-word ws k 16;
    }

unfoldable pub good_layer : OpenLayer → Bool
good_layer l =
    good-blend (blend_of l.blend)
    && good-handle l.mask
    && leb l.flag 1
    && leb l.start l.«end»
    && good-thread l.thread
    && good-panel l.panel

-- the box b of an open layer in the viewport v
unfoldable pub good_own_box : Box → Box → Bool
good_own_box v b =
    by_4 b.x0
    && by_4 b.y0
    && by_4 b.x1
    && by_4 b.y1
    && leb b.x0 32768
    && leb b.y0 32768
    && leb b.x1 (width v)
    && leb b.y1 (height v)
