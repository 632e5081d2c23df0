-- A filter fill at a screen's words: its number, and every lent word afterwards (rule 11).
use Rattle.std.specs.Prelude.{ℕ, ◌+◌, ◌*◌, ◌≡◌, Bool, false, ◌&&◌, cond, List, [], ◌∷◌, length, drop, eqb, ℤ, pos}
use Rattle.std.specs.Prelude.{Option, None, Some, true}
use Rattle.std.proofs.Math.IntN.{sub_ℕ}
use Rattle.sizes.specs.Sizes.{paint-attr-size, paint-attr-table, filter-paint-size, filter-paint-table}
use Rattle.rules.specs.Lists.{join}
use Rattle.rules.specs.Answers.{Answer, Done, BadRecord, settle}
use Rattle.rules.specs.Boxes.{Box}
use Rattle.rules.specs.Inputs.{Filter, good-filter-fill}
use Rattle.rules.specs.Attributes.{FilterPaint}
use Rattle.screen.specs.Attributes.{paint-attr-words}
use Rattle.rules.specs.Plans.{Plan, plan-filter, filter-box, draws-nothing}
use Rattle.rules.specs.Steps.{done}
use Rattle.cmd.specs.Attrs.{words-at}
use Rattle.cmd.specs.declared.attrs.FilterPaint as cmd
use Rattle.cmd.specs.declared.attrs.PaintFillAttrs.{PaintFillAttrs}
use Rattle.row.specs.Words.{Words, word-ops}
use Rattle.row.specs.Arena.{lay}
use Rattle.row.specs.declared.rows.Rows.{Rows}
use Rattle.row.specs.Rows.{all-held}
use Rattle.row.specs.Building.{rows_at, screen-at, good_rows, step_number}
use Rattle.rect.specs.declared.Rect.{Rect}
use Rattle.rect.specs.Rects.{box_of}
use Rattle.screen.specs.declared.Screen.{Screen}
use Rattle.screen.specs.Screens.{frame-of, state-of, screen-after, screen-in}
use Rattle.screen.specs.Judging.{judged}
use Rattle.inputs.specs.declared.Filter as code
use Rattle.inputs.specs.Inputs as inputs
use Rattle.layers.specs.declared.filter.FilterFill.{FilterFill}

-- what a filter fill is given: what the layer draws, the paint list's length, its layer's panel
pub record FilterGiven : Type 0 where
  pub filter : code.Filter
  pub count : ℕ
  pub panel : ℕ

abbrev pub given : code.Filter → ℕ → ℕ → FilterGiven
given f n q = record { filter = f; count = n; panel = q }

abbrev pub given_of : FilterFill → FilterGiven
given_of f = given f.filter f.paint_count f.panel

abbrev pub filter-of : FilterGiven → Filter
filter-of g = inputs.filter-of g.filter

abbrev pub good-given : FilterGiven → Bool
good-given g = good-filter-fill g.count (filter-of g) g.panel

-- the paint and the attribute that the code adds
abbrev pub paint-from : Rect → ℕ → ℕ → ℕ → cmd.FilterPaint
paint-from d x y m = record { pixmap = m; shift_x = sub_ℕ x d.x0; shift_y = sub_ℕ y d.y0 }

abbrev pub attrs-of : Screen → ℕ → ℕ → PaintFillAttrs
attrs-of s count panel =
    record {
      paint = count + s.filter_paints;
      blend = record { mix = 0; compose = 3 };
      mask = 0;
      draw_id = s.next_draw_id;
      thread_idx = 0;
      origin_x = s.viewport.x0;
      origin_y = s.viewport.y0;
      panel = panel;
    }

-- a screen and what a filter fill is lent of its words
pub record FilterLent : Type 0 where
  pub screen : Screen
  pub words : Words
  pub paint-attrs : List ℕ
  pub filter-paints : List ℤ

abbrev pub filter_lent : Screen → Words → List ℕ → List ℤ → FilterLent
filter_lent s w ps fs = record { screen = s; words = w; paint-attrs = ps; filter-paints = fs }

-- the same, of what is lent
abbrev pub filter_lent_of : Screen → Rows → List ℕ → List ℤ → FilterLent
filter_lent_of s r ps fs = filter_lent s (all-held r) ps fs

-- the rules' filter fill
abbrev pub plan-of : FilterGiven → Screen → Plan
plan-of g s = plan-filter g.count (filter-of g) g.panel (state-of s)

-- 2, 1 and 4 for the screen's numbers and for how many words are lent
abbrev pub first-number : FilterLent → ℕ
first-number l =
    let n = judged l.screen (length l.words.state) (length l.words.render) (length l.words.fills) in
    cond (eqb n Done) (cond (eqb (length l.paint-attrs) paint-attr-table && eqb (length l.filter-paints) filter-paint-table) Done BadRecord) n

unfoldable pub filter-number : FilterGiven → FilterLent → ℕ
filter-number g l =
    let s = l.screen in
    step_number (first-number l) (good_rows (frame-of s) s.layers (plan-of g s).puts (rows_at (frame-of s) l.words)) (plan-of g s)
    (screen-at (state-of s) l.words)

-- flag 0, pixmap, shift
abbrev pub filter-paint-words : FilterPaint → List ℤ
filter-paint-words p = pos 0 ∷ pos p.pixmap ∷ p.shift-x ∷ p.shift-y ∷ []

-- what a filter fill leaves: the words of the new attributes and filter paints stand after the others
unfoldable pub after : FilterGiven → FilterLent → FilterLent
after g l =
    let s = l.screen in
    let p = plan-of g s in
    filter_lent (screen-after s p) (lay (done Words word-ops p (screen-at (state-of s) l.words)).rows)
    (words-at l.paint-attrs (paint-attr-size * s.paint_attrs) (join paint-attr-words (drop s.paint_attrs p.attrs.paints)))
    (words-at l.filter-paints (filter-paint-size * s.filter_paints) (join filter-paint-words (drop s.filter_paints p.attrs.filters)))

-- what is refused alters nothing
unfoldable pub filtered : FilterGiven → FilterLent → Answer FilterLent
filtered g l = settle (filter-number g l) l (after g l)

-- the box that is drawn
abbrev pub own-box : FilterGiven → Screen → Box
own-box g s = filter-box (box_of s.viewport) (box_of s.clip_bbox) (filter-of g)

-- what judging finds: the box that is drawn, or that nothing is
abbrev pub Draws : FilterGiven → Screen → Option Rect → Type 0
Draws g s None = draws-nothing (filter-of g) (own-box g s) ≡ true
Draws g s (Some b) = (box_of b ≡ own-box g s) × (draws-nothing (filter-of g) (box_of b) ≡ false)

-- judged 0, and something is drawn
pub record Drawing (g : FilterGiven) (l : FilterLent) (b : Rect) : Type 0 where
  pub number : filter-number g l ≡ 0
  pub bounds : box_of b ≡ own-box g l.screen
  pub drawn : draws-nothing (filter-of g) (box_of b) ≡ false

-- t is s but for the next id, the paints' counts and whether painting has begun
abbrev pub OnlyPaints : Screen → Screen → Type 0
OnlyPaints s t =
    t ≡ screen-in (frame-of s) s.clip_bbox t.next_draw_id t.paint_attrs s.layer_attrs t.filter_paints s.layers t.painting
