-- The code's spot, layer at hand, counts and looks as the definitions'.
use Rattle.std.specs.Prelude.{ℕ, ◌+◌, ◌-◌, ◌*◌, ◌≤◌, ◌<◌, true, ◌≡◌, List, [], ◌∷◌, length, Option, None, Some, Result, Ok, Err}
use Rattle.sizes.specs.Sizes.{most-layers, most-attrs, most-filters, most-rows, last-id, tile-end}
use Rattle.sizes.specs.declared.answers.Refusal.{Refusal}
use Rattle.sizes.specs.Refusals.{number_of}
use Rattle.sizes.specs.declared.width.Width.{Width}
use Rattle.sizes.specs.Widths.{bucket-tiles}
use Rattle.rules.specs.Lists.{every}
use Rattle.rules.specs.Answers.{Answer, Done}
use Rattle.rules.specs.Boxes.{Box}
use Rattle.rules.specs.Segments.{good-segment}
use Rattle.rules.specs.Inputs.{Props}
use Rattle.rules.specs.Plans.{Layer, clip-box}
use Rattle.rect.specs.declared.Rect.{Rect}
use Rattle.rect.specs.Rects.{box_of, Small}
use Rattle.segments.specs.Segs.{segs}
use Rattle.inputs.specs.declared.Clip.{Clip}
use Rattle.tile.specs.declared.steps.Spot.{Spot}
use Rattle.tile.specs.declared.steps.Within.{Within}
use Rattle.tile.specs.declared.steps.Tale.{Tale}
use Rattle.tile.specs.declared.steps.lines.Line.{Line}
use Rattle.tile.specs.declared.steps.looks.Look.{Look}
use Rattle.tile.specs.Telling as tell
use Rattle.tile.specs.Standings.{standing_number}
use Rattle.tile.specs.Telling.{Telling}

abbrev pub line_of : Line → tell.Line
line_of l =
    record {
      layer = l.layer;
      attribute = l.attribute;
      standing = standing_number l.standing;
      alpha = l.alpha;
      nesting = l.nesting;
      panel = l.panel;
    }

abbrev pub look-of : Look → tell.Look
look-of k = record { covered = k.covered; reached = k.reached; kept = k.kept; alpha = k.alpha; whole = k.whole }

-- the counts, with the open layers and the lines
abbrev pub telling : Tale → List Layer → List ℕ → Telling
telling t ls ws =
    record {
      next = t.next;
      paints = t.paints;
      layers = t.layers;
      filters = t.filters;
      levels = t.levels;
      opened = ls;
      lines = ws;
    }

-- what a step or a walk answers: its number, and where it is done what is known afterwards
pub record Says (a : Answer Telling) (n : ℕ) (t : Telling) : Type 0 where
  pub number : a.number ≡ n
  pub value : n ≡ Done → a.value ≡ t

-- the layer of a push
abbrev pub layer-in : Props → Within → Layer
layer-in p h = record { props = p; bounds = box_of h.clip }

-- the open layers after a push, and after the innermost layer l closes; refused, those before
abbrev pub opened_by : Result Within Refusal → Props → List Layer → List Layer
opened_by (Ok w) p ls = layer-in p w ∷ ls
opened_by (Err _) p ls = ls

abbrev pub left_by : {T : Type 0} → Result T Refusal → Layer → List Layer → List Layer
left_by (Ok _) l ls = ls
left_by (Err _) l ls = l ∷ ls

-- good segments from a to b, within the list
abbrev pub GoodRun : List ℕ → ℕ → ℕ → Type 0
GoodRun ws a b = (a ≤ b) × (5 * b ≤ length ws) × (every good-segment (segs ws a (b - a)) ≡ true)

-- those of a clip
abbrev pub ClipReady : Option Clip → List ℕ → Type 0
ClipReady None ws = Unit
ClipReady (Some c) ws = GoodRun ws c.start c.end

-- a row and a tile of a screen, at so many tiles a bucket
pub record Spotted (s : Spot) : Type 0 where
  pub small : Small (box_of s.viewport)
  pub row : s.row < most-rows
  pub tile : s.tile < tile-end
  pub some-tiles : 0 < s.width
  pub few-tiles : s.width ≤ tile-end

-- a row and a tile of the viewport's screen, with buckets of a width
abbrev pub spot-at : Rect → Width → ℕ → ℕ → Spot
spot-at v w row tile = record { viewport = v; row = row; tile = tile; width = bucket-tiles w }

-- the clip box in force and how many layers are open, of the layers ls
pub record Holds (v : Box) (h : Within) (ls : List Layer) : Type 0 where
  pub clip : clip-box v ls ≡ box_of h.clip
  pub count : length ls ≡ h.«open»

pub record Bounded (h : Within) : Type 0 where
  pub small : Small (box_of h.clip)
  pub few : h.«open» ≤ most-layers

-- what a push gives: one layer more than there were
abbrev pub Opens : Result Within Refusal → Within → Type 0
Opens (Ok w) h = Bounded w × (w.«open» ≡ h.«open» + 1)
Opens (Err _) h = Unit

-- counts within the rules' limits
pub record Low (t : Tale) : Type 0 where
  pub next : t.next ≤ last-id + 1
  pub paints : t.paints ≤ most-attrs
  pub layers : t.layers ≤ most-attrs
  pub filters : t.filters ≤ most-filters
  pub levels : t.levels ≤ most-layers

-- what a whole story answers: its counts and lines, or a refusal
abbrev pub ToldTo : Answer Telling → Result Tale Refusal → List ℕ → Type 0
ToldTo a (Ok t) ws = Says a Done (telling t [] ws) × Low t
ToldTo a (Err r) ws = a.number ≡ number_of r
