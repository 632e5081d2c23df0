-- A screen's numbers: what it stands for among the rules, and which are good (answer 4).
use Rattle.std.specs.Prelude.{ℕ, ◌+◌, ◌-◌, Bool, false, ◌&&◌, cond, length, replicate, leb, eqb, pos}
use Rattle.std.specs.Prelude.{None}
use Rattle.sizes.specs.Sizes.{most-layers, most-attrs, most-filters}
use Rattle.rules.specs.Boxes.{Box, width, height, by_4, whole}
use Rattle.rules.specs.Blends.{default-blend}
use Rattle.rules.specs.Attributes.{FilterPaint, no-paint, no-layer}
use Rattle.rules.specs.Plans.{Frame, Layer, State, Plan, clip-box}
use Rattle.rules.specs.Setups as rule
use Rattle.rect.specs.declared.Rect.{Rect}
use Rattle.rect.specs.Rects.{box_of, rect-of, mode_of, same-box}
use Rattle.screen.specs.declared.Screen.{Screen}
use Rattle.screen.specs.declared.Setup.{Setup}

-- what a screen is asked to be
abbrev pub setup-of : Setup → rule.Setup
setup-of q = record { c = q.c; d = q.d; mode = mode_of q.mode; width = q.width }

-- what a reset of it fixes
abbrev pub frame : Setup → Rect → Frame
frame q v = rule.frame (setup-of q) (box_of v)

-- what a screen has of that
abbrev pub frame-of : Screen → Frame
frame-of s = record { viewport = box_of s.viewport; c = s.c; d = s.d; width = s.width }

abbrev pub in-tiles : Box → Bool
in-tiles b = by_4 b.x0 && by_4 b.y0 && by_4 b.x1 && by_4 b.y1

-- the clip box b of n open layers in the viewport v: the whole viewport with none open
unfoldable pub good_clip : Box → Box → ℕ → Bool
good_clip v b n =
    cond (eqb n 0) (same-box b (whole v))
    (in-tiles b && leb b.x0 32768 && leb b.y0 32768 && leb b.x1 (width v) && leb b.y1 (height v))

-- the next id and the counts within their limits
abbrev pub good-counts : Screen → Bool
good-counts s =
    leb 1 s.next_draw_id
    && leb s.next_draw_id 1048577
    && leb s.paint_attrs most-attrs
    && leb s.layer_attrs most-attrs
    && leb s.filter_paints most-filters
    && leb s.layers most-layers

unfoldable pub good_screen : Screen → Bool
good_screen s = good-counts s && good_clip (box_of s.viewport) (box_of s.clip_bbox) s.layers

-- filter paints and layers where only their number matters
abbrev pub some-filter : FilterPaint
some-filter = record { pixmap = 0; shift-x = pos 0; shift-y = pos 0 }

abbrev pub layer-in : Box → Layer
layer-in b = record { props = record { blend = default-blend; opacity = 0; mask = 0; clip = None; panel = 0 }; bounds = b }

-- the rules' state for a step that reads no more of the attributes than their number, and of the layers the clip box
unfoldable pub state-of : Screen → State
state-of s =
    record {
      frame = frame-of s;
      next = s.next_draw_id;
      attrs =
          record {
            paints = replicate s.paint_attrs no-paint;
            layers = replicate s.layer_attrs no-layer;
            filters = replicate s.filter_paints some-filter;
          };
      layers = replicate s.layers (layer-in (box_of s.clip_bbox));
    }

-- a screen of a frame: its clip box, its counts, how many layers are open, and whether painting has begun. Definitions change a screen by this
-- alone: besides it only a host's words list the fields
abbrev pub screen-in : Frame → Rect → ℕ → ℕ → ℕ → ℕ → ℕ → Bool → Screen
screen-in f b next paints layers filters deep begun =
    record {
      viewport = rect-of f.viewport;
      clip_bbox = b;
      c = f.c;
      d = f.d;
      next_draw_id = next;
      paint_attrs = paints;
      layer_attrs = layers;
      filter_paints = filters;
      layers = deep;
      painting = begun;
      width = f.width;
    }

-- the screen that a done plan leaves
unfoldable pub screen-after : Screen → Plan → Screen
screen-after s p =
    screen-in (frame-of s) (rect-of (clip-box (box_of s.viewport) p.layers)) p.next (length p.attrs.paints) (length p.attrs.layers)
    (length p.attrs.filters) (length p.layers) false

-- the screen with other counts and no painting, its layers and clip box as before
abbrev pub counted : Screen → ℕ → ℕ → ℕ → ℕ → Screen
counted s next paints layers filters = screen-in (frame-of s) s.clip_bbox next paints layers filters s.layers false

-- rule 8: one more layer, whose own box is b
abbrev pub opened : Screen → Rect → Screen
opened s b = screen-in (frame-of s) b s.next_draw_id s.paint_attrs s.layer_attrs s.filter_paints (s.layers + 1) false

-- rule 9: one layer less, whose parent's box is b; it took an id and an attribute
abbrev pub closed : Screen → Rect → Screen
closed s b = screen-in (frame-of s) b (s.next_draw_id + 1) s.paint_attrs (s.layer_attrs + 1) s.filter_paints (s.layers - 1) false

-- rule 1
abbrev pub fresh-screen : Frame → Screen
fresh-screen f = screen-in f (rect-of (whole f.viewport)) 1 0 0 0 0 false
