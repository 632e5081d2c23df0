-- A pop (rules 9 and 10) on a screen's words, the tables that are lent to it, and a list of segments' words: its number, and what stands
-- afterwards. The plan, and what it does to rows, are the rules'.
use Rattle.std.specs.Prelude.{ℕ, zero, suc, ◌+◌, ◌-◌, ◌*◌, ◌%◌, ◌/◌, ◌≤◌, Bool, true, ◌&&◌, not, cond, ◌≡◌, List, [], ◌∷◌, length, get_or, set, drop, leb, ltb, eqb, Float, Option, None, Some}
use Rattle.std.specs.Float.{nan}
use Rattle.sizes.specs.Sizes.{most-layers, most-attrs, last-id, open-layer-size, open-layer-table, opacity-count, layer-attr-size, layer-attr-table}
use Rattle.rules.specs.Lists.{join}
use Rattle.rules.specs.Answers.{first_of, Done, BadRecord, Ids, FullAttrs, FullRow}
use Rattle.rules.specs.Boxes.{Box, rows_in}
use Rattle.rules.specs.Attributes.{LayerAttr}
use Rattle.screen.specs.Attributes.{layer-attr-words}
use Rattle.rules.specs.Plans.{Layer, State, Put, Plan, clip-box, closing, plan-pop}
use Rattle.rules.specs.Steps.{done}
use Rattle.row.specs.Words.{Words, word-ops}
use Rattle.row.specs.Arena.{lay}
use Rattle.cmd.specs.declared.attrs.LayerFillAttrs.{LayerFillAttrs}
use Rattle.cmd.specs.Attrs.{words-at, layer-tables, put-layer}
use Rattle.rect.specs.Rects.{box_of}
use Rattle.segments.specs.Segs.{segs-of, SceneOf}
use Rattle.rect.specs.declared.Rect.{Rect}
use Rattle.pop.specs.declared.rows.ClipPath.{ClipPath}
use Rattle.pop.specs.declared.judge.Closing.{Closing}
use Rattle.screen.specs.declared.Screen.{Screen}
use Rattle.screen.specs.Screens.{frame-of, state-of, screen-after}
use Rattle.screen.specs.Judging.{judged}
use Rattle.screen.specs.Tables.{float-0}
use Rattle.row.specs.Building.{rows_at, screen-at, step_number}
use Rattle.screen.specs.declared.layers.OpenLayer.{OpenLayer}
use Rattle.screen.specs.Layers.{layer-at, open_at, no_words, good_layer, good_own_box}
use Rattle.pop.specs.Closing.{touched-in, good-pops}

-- What is lent: a screen's words, the table of open layers, opacities, layer attributes.
pub record PopLent : Type 0 where
  pub words : Words
  pub layers : List ℕ
  pub opacities : List Float
  pub attrs : List ℕ

abbrev pub pop_lent : Words → List ℕ → List Float → List ℕ → PopLent
pop_lent w t o a = record { words = w; layers = t; opacities = o; attrs = a }

-- a call's answer, the screen and what is lent, afterwards
pub record PopOut : Type 0 where
  pub number : ℕ
  pub screen : Screen
  pub lent : PopLent

abbrev pub out : ℕ → Screen → PopLent → PopOut
out n s l = record { number = n; screen = s; lent = l }

-- the n open layers of a table, the innermost first
unfoldable pub layers-in : List ℕ → ℕ → List Layer
layers-in t zero = []
layers-in t (suc n) = layer-at t n ∷ layers-in t n

-- the rules' state, with the layers of the table
abbrev pub state-in : Screen → List ℕ → State
state-in s t = record { frame = frame-of s; next = (state-of s).next; attrs = (state-of s).attrs; layers = layers-in t s.layers }

-- the rows of the innermost layer's box
unfoldable pub own-rows : List Layer → List ℕ
own-rows [] = []
own-rows (l ∷ ls) = rows_in l.bounds

-- answer 4: what a pop reads of the innermost layer, its box, and its parent's box in the viewport v
unfoldable pub good-open : Box → List ℕ → ℕ → Bool
good-open v t zero = true
good-open v t (suc n) = good_layer (open_at t n) && good_own_box v (layer-at t n).bounds && good_own_box v (clip-box v (layers-in t n))

-- how many words are lent: the table of layers, opacities, layer attributes, the list
unfoldable pub good_lengths : ℕ → ℕ → ℕ → ℕ → Bool
good_lengths t o a ws = eqb t open-layer-table && eqb o opacity-count && eqb a layer-attr-table && eqb (ws % 5) 0

-- the numbers after these tests: 4 for a row's record, then 4 or 5 for the list, 8, 9 and 10
unfoldable pub late : Bool → ℕ → ℕ → ℕ → Bool → ℕ
late good listed next attrs full =
    cond good (cond (eqb listed Done) (first_of ((ltb last-id next, Ids) ∷ (leb most-attrs attrs, FullAttrs) ∷ (full, FullRow) ∷ [])) listed) BadRecord

module _ (s : Screen) (l : PopLent) (ws : List ℕ) where
  -- 2, 1 and 4: the screen, how many words are lent, the layer
  unfoldable pub first : ℕ
  first =
      let n = judged s (length l.words.state) (length l.words.render) (length l.words.fills) in
      first_of
      ((not (eqb n Done), n)
      ∷ (not (good_lengths (length l.layers) (length l.opacities) (length l.attrs) (length ws)), BadRecord)
      ∷ (not (good-open (box_of s.viewport) l.layers s.layers), BadRecord)
      ∷ [])

  abbrev pub own : List ℕ
  own = own-rows (layers-in l.layers s.layers)

  -- rule 10
  abbrev pub touched-own : List ℕ
  touched-own = touched-in s.layers (rows_at (frame-of s) l.words) own

  abbrev pub pop-plan : Plan
  pop-plan = plan-pop (layers-in l.layers s.layers) (segs-of ws) touched-own (state-in s l.layers)

  -- the number where the tests before have said k: 4 for the records of the box's rows, then what the plan is refused by
  unfoldable pub number-after : ℕ → ℕ
  number-after k =
      step_number k (good-pops s.c s.d s.layers (rows_at (frame-of s) l.words) own) pop-plan
      (screen-at (state-in s l.layers) l.words)

  abbrev pub number : ℕ
  number = number-after first

  -- the words of the new layer attribute, with the layer's NaN pattern
  abbrev pub new-words : List ℕ
  new-words =
      let pattern = (open_at l.layers (s.layers - 1)).nan in
      join (λ (a : LayerAttr). layer-attr-words a pattern) (drop s.layer_attrs pop-plan.attrs.layers)

  -- done: the rows of the plan, the layer's words and its opacity 0, its opacity copied
  abbrev pub lent-after : PopLent
  lent-after =
      pop_lent (lay (done Words word-ops pop-plan (screen-at (state-in s l.layers) l.words)).rows)
      (words-at l.layers (open-layer-size * (s.layers - 1)) no_words)
      (set (set l.opacities (most-layers + s.layer_attrs) (get_or l.opacities (s.layers - 1) nan)) (s.layers - 1) float-0)
      (words-at l.attrs (layer-attr-size * s.layer_attrs) new-words)

  abbrev pub after : PopOut
  after = out Done (screen-after s pop-plan) lent-after

  -- a pop: done, or refused by its number with nothing changed
  unfoldable pub popped : PopOut
  popped = cond (eqb number Done) after (out number s l)

-- what the doing half requires: nothing is refused. Opacities and attributes are not read here
pub record Judged (s : Screen) (t ws : List ℕ) (w : Words) : Type 0 where
  pub screen : judged s (length w.state) (length w.render) (length w.fills) ≡ Done
  pub table : length t ≡ open-layer-table
  pub some : 1 ≤ s.layers
  pub layer : good-open (box_of s.viewport) t s.layers ≡ true
  pub rows : number-after s (pop_lent w t [] []) ws Done ≡ Done

-- the clip of a closing layer, as its flag says: the segments of its range, cut to its parent's box
abbrev pub ClipOf : Screen → OpenLayer → Rect → Option ClipPath → Type 0
ClipOf s y q None = y.flag ≡ 0
ClipOf s y q (Some p) = (y.flag ≡ 0 → ⊥) × (p.start ≡ y.start) × (p.«end» ≡ y.«end») × SceneOf (box_of s.viewport) (box_of q) p.scene

-- how the innermost layer of the table closes
pub record Closes (s : Screen) (t : List ℕ) (c : Closing) : Type 0 where
  pub layer : c.layer ≡ open_at t (s.layers - 1)
  pub parent : box_of c.parent ≡ clip-box (box_of s.viewport) (layers-in t (s.layers - 1))
  pub first : c.band.start ≡ c.layer.bbox.y0 / 4
  pub last : c.band.«end» ≡ (c.layer.bbox.y1 + 3) / 4
  pub clip : ClipOf s c.layer c.parent c.clip

-- rule 9: the closing LayerFills of the innermost layer
abbrev pub closing-puts : Screen → List ℕ → List ℕ → Words → List Put
closing-puts s t ws w =
    closing (layer-at t (s.layers - 1)).props.clip (box_of s.viewport) (layer-at t (s.layers - 1)).bounds
    (clip-box (box_of s.viewport) (layers-in t (s.layers - 1))) s.layer_attrs (segs-of ws)
    (touched-in s.layers (rows_at (frame-of s) w) (rows_in (layer-at t (s.layers - 1)).bounds))

-- the rows' words after it
abbrev pub words-after : Screen → List ℕ → List ℕ → Words → Words
words-after s t ws w = lay (done Words word-ops (pop-plan s (pop_lent w t [] []) ws) (screen-at (state-in s t) w)).rows

-- the attribute of the layer y, with the opacity x: the next id, its clip's thread, its own panel
abbrev pub attr_by : Screen → OpenLayer → Float → LayerFillAttrs
attr_by s y x =
    record {
      blend = y.blend;
      opacity = x;
      nan = y.nan;
      mask = y.mask;
      draw_id = s.next_draw_id;
      thread_idx = cond (eqb y.flag 0) 0 y.thread;
      panel = y.panel;
    }

-- the innermost layer's
abbrev pub attr-of : Screen → List ℕ → Float → LayerFillAttrs
attr-of s t x = attr_by s (open_at t (s.layers - 1)) x

-- the tables after it
abbrev pub tables_after : Screen → PopLent → PopLent
tables_after s l =
    let u = put-layer (layer-tables l.attrs l.opacities) s.layer_attrs (attr-of s l.layers (get_or l.opacities (s.layers - 1) nan)) in
    pop_lent l.words (words-at l.layers (open-layer-size * (s.layers - 1)) no_words) (set u.opacities (s.layers - 1) float-0) u.words
