-- What the steps take: paints, draws, clips, layers, filters, each with its bounds (answer 4).
use Rattle.std.specs.Prelude.{ℕ, Bool, true, ◌&&◌, ◌||◌, not, List, length, get_or, leb, ltb, eqb}
use Rattle.std.specs.Prelude.{Option, None, Some}
use Rattle.sizes.specs.Sizes.{thread-end, handle-end, panel-end, most-records}
use Rattle.rules.specs.Lists.{is_none, slice}
use Rattle.rules.specs.Spans.{good-range}
use Rattle.rules.specs.Boxes.{Box, good-box, good-dest}
use Rattle.rules.specs.Blends.{Blend, is-default, good-blend}
use Rattle.rules.specs.Segments.{Segment}

-- masks and pictures are handles. A mask of 0 says none; pictures are counted from 0
abbrev pub good-handle : ℕ → Bool
good-handle h = ltb h handle-end

abbrev pub good-thread : ℕ → Bool
good-thread t = ltb t thread-end

-- a panel: the number of the program module that draws
abbrev pub good-panel : ℕ → Bool
good-panel p = ltb p panel-end

-- a paint record's opaque flag and handle. Its two shifts are free, and no rule reads them
pub record Paint : Type 0 where
  pub opaque : ℕ
  pub handle : ℕ

abbrev pub good-paint : Paint → Bool
good-paint p = leb p.opaque 1 && good-handle p.handle

-- a draw: places start to end of a segment list, and a place of a paint list
pub record Draw : Type 0 where
  pub thread : ℕ
  pub start : ℕ
  pub end : ℕ
  pub paint : ℕ
  pub blend : Blend
  pub mask : ℕ
  pub panel : ℕ

abbrev pub draw-segments : List Segment → Draw → List Segment
draw-segments ss d = slice d.start d.end ss

abbrev pub draw-paint : List Paint → Draw → Paint
draw-paint ps d = get_or ps d.paint (record { opaque = 0; handle = 0 })

abbrev pub good-draw : List Paint → List Segment → Draw → Bool
good-draw ps ss d =
    good-thread d.thread
    && good-range d.start d.end (length ss)
    && ltb d.paint (length ps)
    && good-paint (draw-paint ps d)
    && good-blend d.blend
    && good-handle d.mask
    && good-panel d.panel

-- a paint list has at most 4,096 records, as a section has
abbrev pub few-paints : ℕ → Bool
few-paints n = leb n most-records

-- what a fill is lent and told
abbrev pub good-fill : List Paint → List Segment → Draw → Bool
good-fill ps ss d = few-paints (length ps) && good-draw ps ss d

-- a clip's segments are places start to end of the list lent to the pop
pub record Clip : Type 0 where
  pub bounds : Box
  pub start : ℕ
  pub end : ℕ
  pub thread : ℕ

abbrev pub good-clip : Clip → Bool
good-clip c = good-box c.bounds && leb c.start c.end && good-thread c.thread

-- a layer's properties. opacity: the bits of an f32
pub record Props : Type 0 where
  pub blend : Blend
  pub opacity : ℕ
  pub mask : ℕ
  pub clip : Option Clip
  pub panel : ℕ

abbrev pub all-good : Option Clip → Bool
all-good None = true
all-good (Some c) = good-clip c

abbrev pub good-props : Props → Bool
good-props p = good-blend p.blend && good-handle p.mask && all-good p.clip && good-panel p.panel

-- rule 2: a filter layer that needs a buffer. 1065353216 are the bits of 1.0, and no other f32 is equal to 1.0
abbrev pub needs-buffer : Props → Bool
needs-buffer p =
    not (is-default p.blend) || not (eqb p.opacity 1065353216) || not (eqb p.mask 0) || not (is_none p.clip)

-- what a filter layer draws: the handle of a picture, or none, and its placement
pub record Filter : Type 0 where
  pub pixmap : Option ℕ
  pub dest : Box
  pub source-x : ℕ
  pub source-y : ℕ

abbrev pub good-pixmap : Option ℕ → Bool
good-pixmap None = true
good-pixmap (Some h) = good-handle h

abbrev pub good-filter : Filter → Bool
good-filter f = good-pixmap f.pixmap && good-dest f.dest && leb f.source-x 32768 && leb f.source-y 32768

-- what a filter fill is told: the paint list's length, the filter, its layer's panel
abbrev pub good-filter-fill : ℕ → Filter → ℕ → Bool
good-filter-fill count f q = good-filter f && few-paints count && good-panel q
