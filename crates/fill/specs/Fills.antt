-- A fill at a screen's words: its number, and every lent word afterwards.
use Rattle.std.specs.Prelude.{ℕ, zero, suc, ◌+◌, ◌*◌, ◌/◌, ◌%◌, Bool, ◌&&◌, cond, List, [], ◌∷◌, eqb, get_or, length, drop}
use Rattle.sizes.specs.Sizes.{paint-attr-size, paint-attr-table}
use Rattle.rules.specs.Lists.{join}
use Rattle.rules.specs.Answers.{Answer, settle, Done, BadRecord}
use Rattle.rules.specs.Boxes.{Box, scene-tiles}
use Rattle.rules.specs.Inputs.{Paint, draw-paint, good-paint, few-paints}
use Rattle.screen.specs.Attributes.{paint-attr-words}
use Rattle.rules.specs.Plans.{Plan, eligible, plan-fill}
use Rattle.rules.specs.Steps.{done}
use Rattle.cmd.specs.Attrs.{words-at}
use Rattle.cmd.specs.declared.attrs.PaintFillAttrs.{PaintFillAttrs}
use Rattle.row.specs.Words.{Words, word-ops}
use Rattle.row.specs.Arena.{lay}
use Rattle.row.specs.Building.{screen-at, good_rows, step_number}
use Rattle.rect.specs.Rects.{box_of}
use Rattle.screen.specs.declared.Screen.{Screen}
use Rattle.screen.specs.Screens.{frame-of, state-of, screen-after}
use Rattle.screen.specs.Judging.{judged}
use Rattle.segments.specs.declared.Scene.{Scene}
use Rattle.segments.specs.Segs.{segs-of}
use Rattle.fill.specs.declared.rows.FillJob.{FillJob}
use Rattle.inputs.specs.declared.Draw.{Draw}
use Rattle.inputs.specs.Inputs.{draw_fields, draw-of}

-- paint i of the words, four each: flag, handle, and two shifts that no rule reads
abbrev pub paint-at : List ℕ → ℕ → Paint
paint-at ws i = record { opaque = get_or ws (4 * i) 0; handle = get_or ws (4 * i + 1) 0 }

-- k paints from i on
unfoldable pub paints : List ℕ → ℕ → ℕ → List Paint
paints ws i zero = []
paints ws i (suc k) = paint-at ws i ∷ paints ws (i + 1) k

abbrev pub paints-of : List ℕ → List Paint
paints-of ws = paints ws 0 (length ws / 4)

-- answer 4 for what a fill is told, at the words
abbrev pub good-draw-at : List ℕ → List ℕ → Draw → Bool
good-draw-at ps ss d = draw_fields (length ps / 4) (length ss / 5) (draw-of d) && good-paint (paint-at ps d.paint)

abbrev pub good-fill-at : List ℕ → List ℕ → Draw → Bool
good-fill-at ps ss d = few-paints (length ps / 4) && good-draw-at ps ss d

-- the scene of the viewport v and the clip box c, which is the one that `SceneOf` tells of
abbrev pub scene-at : Box → Box → Scene
scene-at v c =
    let t = scene-tiles v c in
    record {
      x = v.x0;
      y = v.y0;
      columns = record { first = t.x0; end = t.x1 };
      rows = record { first = t.y0; end = t.y1 };
    }

-- what stays the same over a fill's segments
abbrev pub job_of : Screen → List ℕ → Draw → FillJob
job_of s ps d =
    record {
      scene = scene-at (box_of s.viewport) (box_of s.clip_bbox);
      c = s.c;
      d = s.d;
      layers = s.layers;
      eligible = eligible (eqb s.layers 0) (draw-paint (paints-of ps) (draw-of d)) (draw-of d);
      attr = s.paint_attrs;
      id = s.next_draw_id;
      width = s.width;
    }

-- the attribute that a fill adds
abbrev pub attr-of : Screen → Draw → PaintFillAttrs
attr-of s d =
    record {
      paint = d.paint;
      blend = d.blend;
      mask = d.mask;
      draw_id = s.next_draw_id;
      thread_idx = d.thread;
      origin_x = s.viewport.x0;
      origin_y = s.viewport.y0;
      panel = d.panel;
    }

-- a screen and the words that a fill writes
pub record FillLent : Type 0 where
  pub screen : Screen
  pub words : Words
  pub paint-attrs : List ℕ

abbrev pub fill_lent : Screen → Words → List ℕ → FillLent
fill_lent s w table = record { screen = s; words = w; paint-attrs = table }

-- what the fill would do
abbrev pub fill-plan : Screen → List ℕ → List ℕ → Draw → Plan
fill-plan s ps ss d = plan-fill (paints-of ps) (segs-of ss) (draw-of d) (state-of s)

-- the table of paint attributes is lent whole, and the lists have whole records
abbrev pub good-lists : ℕ → ℕ → ℕ → Bool
good-lists table ps ss = eqb table paint-attr-table && eqb (ps % 4) 0 && eqb (ss % 5) 0

-- what the screen and the lengths say: 2, 1, 4 or 0
unfoldable pub first_number : Screen → ℕ → ℕ → ℕ → ℕ → ℕ → ℕ → ℕ
first_number s rows render fills table ps ss =
    let n = judged s rows render fills in
    cond (eqb n Done) (cond (good-lists table ps ss) Done BadRecord) n

-- .. of what is lent
abbrev pub first-of-lent : FillLent → List ℕ → List ℕ → ℕ
first-of-lent l ps ss = first_number l.screen (length l.words.state) (length l.words.render) (length l.words.fills) (length l.paint-attrs) (length ps) (length ss)

-- a fill's number
unfoldable pub fill_number : FillLent → List ℕ → List ℕ → Draw → ℕ
fill_number l ps ss d =
    let p = fill-plan l.screen ps ss d in
    let s = screen-at (state-of l.screen) l.words in
    step_number (first-of-lent l ps ss) (good_rows (frame-of l.screen) l.screen.layers p.puts s.rows) p s

-- done without limits: the rows after, and the words of the attribute that is new
unfoldable pub fill_done : FillLent → List ℕ → List ℕ → Draw → FillLent
fill_done l ps ss d =
    let p = fill-plan l.screen ps ss d in
    let n = l.screen.paint_attrs in
    fill_lent (screen-after l.screen p) (lay (done Words word-ops p (screen-at (state-of l.screen) l.words)).rows)
    (words-at l.paint-attrs (paint-attr-size * n) (join paint-attr-words (drop n p.attrs.paints)))

-- a fill: what is refused alters nothing
abbrev pub filled : FillLent → List ℕ → List ℕ → Draw → Answer FillLent
filled l ps ss d = settle (fill_number l ps ss d) l (fill_done l ps ss d)
