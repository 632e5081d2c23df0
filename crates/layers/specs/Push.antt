-- A push at a screen's words: its number, and every lent word afterwards (rule 8).
use Rattle.std.specs.Prelude.{◌≡◌, ℕ, ◌+◌, ◌*◌, ◌/◌, ◌&&◌, not, cond, List, [], ◌∷◌, length, set, eqb, Float}
use Rattle.sizes.specs.Sizes.{open-layer-size, open-layer-table, opacity-count}
use Rattle.rules.specs.Answers.{Answer, Done, BadRecord, settle}
use Rattle.rules.specs.Boxes.{Box, empty-box}
use Rattle.rules.specs.Blends.{destructive}
use Rattle.rules.specs.Plans.{Layer, Plan, plan-push, layer-box}
use Rattle.rules.specs.Steps.{done}
use Rattle.cmd.specs.Attrs.{words-at}
use Rattle.row.specs.Words.{Words, word-ops}
use Rattle.row.specs.Arena.{lay}
use Rattle.row.specs.Building.{rows_at, screen-at, good_rows, step_number}
use Rattle.screen.specs.declared.Screen.{Screen}
use Rattle.screen.specs.Screens.{frame-of, state-of, screen-after, screen-in}
use Rattle.screen.specs.Judging.{judged}
use Rattle.screen.specs.declared.layers.LayerProps.{LayerProps}
use Rattle.screen.specs.Layers.{clip-of, props-of, good-pattern, layer-words, no_words}
use Rattle.std.specs.declared.ops.Range.{Range}
use Rattle.row.specs.declared.rows.Rows.{Rows}
use Rattle.row.specs.Rows.{all-held}
use Rattle.screen.specs.declared.layers.Layers.{Layers}
use Rattle.layers.specs.declared.push.Opening.{Opening}
use Rattle.rect.specs.Rects.{box_of}

-- a screen and what a push is lent of its words
pub record PushLent : Type 0 where
  pub screen : Screen
  pub words : Words
  pub layers : List ℕ
  pub opacities : List Float

abbrev pub push_lent : Screen → Words → List ℕ → List Float → PushLent
push_lent s w ls os = record { screen = s; words = w; layers = ls; opacities = os }

-- the same, of what is lent
abbrev pub push_lent_of : Screen → Rows → Layers → PushLent
push_lent_of s r ls = push_lent s (all-held r) ls.table.now ls.opacities.now

-- the rules' push
abbrev pub plan-of : LayerProps → Screen → Plan
plan-of p s = plan-push (props-of p) (state-of s)

-- 2, 1 and 4 for the screen's numbers and for how many words are lent
abbrev pub lent-number : PushLent → ℕ
lent-number l =
    let n = judged l.screen (length l.words.state) (length l.words.render) (length l.words.fills) in
    cond (eqb n Done) (cond (eqb (length l.layers) open-layer-table && eqb (length l.opacities) opacity-count) Done BadRecord) n

-- the same, and 4 for a pattern that is not the opacity's
abbrev pub first-number : LayerProps → PushLent → ℕ
first-number p l =
    let n = judged l.screen (length l.words.state) (length l.words.render) (length l.words.fills) in
    cond (eqb n Done)
    (cond (eqb (length l.layers) open-layer-table && eqb (length l.opacities) opacity-count && good-pattern p.opacity p.nan) Done BadRecord) n

unfoldable pub push-number : LayerProps → PushLent → ℕ
push-number p l =
    let s = l.screen in
    step_number (first-number p l) (good_rows (frame-of s) s.layers (plan-of p s).puts (rows_at (frame-of s) l.words)) (plan-of p s)
    (screen-at (state-of s) l.words)

-- the words of the innermost layer
abbrev pub top-words : List Layer → ℕ → List ℕ
top-words [] nan = no_words
top-words (l ∷ ls) nan = layer-words l nan

-- what a push leaves
unfoldable pub after : LayerProps → PushLent → PushLent
after p l =
    let s = l.screen in
    push_lent (screen-after s (plan-of p s)) (lay (done Words word-ops (plan-of p s) (screen-at (state-of s) l.words)).rows)
    (words-at l.layers (open-layer-size * s.layers) (top-words (plan-of p s).layers p.nan)) (set l.opacities s.layers p.opacity)

-- what is refused alters nothing
unfoldable pub pushed : LayerProps → PushLent → Answer PushLent
pushed p l = settle (push-number p l) l (after p l)

-- the code's parts: the rows of a box, if the compose code is destructive and the box not empty
abbrev pub no_rows : Range ℕ
no_rows = record { start = 0; end = 0 }

abbrev pub box-rows : Box → Range ℕ
box-rows b = record { start = b.y0 / 4; end = (b.y1 + 3) / 4 }

unfoldable pub touch_rows : ℕ → Box → Range ℕ
touch_rows c b = cond (destructive c && not (empty-box b)) (box-rows b) no_rows

-- rule 8: where a layer opens, its own box and the rows that it touches at once
pub record Opens (s : Screen) (p : LayerProps) (o : Opening) : Type 0 where
  pub bbox : box_of o.bbox ≡ layer-box (box_of s.viewport) (box_of s.clip_bbox) (clip-of p.clip)
  pub band : o.band ≡ touch_rows p.blend.compose (box_of o.bbox)

-- t is s but for the clip box, the open layers and whether painting has begun
abbrev pub OnlyLayers : Screen → Screen → Type 0
OnlyLayers s t =
    t ≡ screen-in (frame-of s) t.clip_bbox s.next_draw_id s.paint_attrs s.layer_attrs s.filter_paints t.layers t.painting
