-- What the doing half of a filter fill asks, and what it leaves. Assumes nothing.
use Rattle.std.proofs.Common.{◌≡◌, ap, ◌∙◌, true, false, List, None, ℕ, ◌+◌, ◌/◌, ◌≤◌, ◌<◌, arith, ℤ, length}
use Rattle.std.specs.Prelude.{unwrap_or}
use Rattle.sizes.specs.Sizes.{paint-attr-table, filter-paint-table}
use Rattle.rules.specs.Lists.{range}
use Rattle.rules.specs.Boxes.{span_of}
use Rattle.rules.specs.Spans.{Span}
use Rattle.rules.specs.Commands.{paint-fill}
use Rattle.rules.specs.Plans.{draws-nothing}
use Rattle.cmd.specs.Attrs.{put-paint, put-filter}
use Rattle.row.specs.Words.{Words, put_command}
use Rattle.row.specs.Cmds.{Short}
use Rattle.row.specs.Arena.{lay}
use Rattle.sizes.specs.Widths.{bucket-tiles}
use Rattle.row.specs.Acts.{ensured}
use Rattle.rect.specs.declared.Rect.{Rect}
use Rattle.rect.specs.Rects.{box_of}
use Rattle.screen.specs.declared.Screen.{Screen}
use Rattle.screen.specs.Screens.{frame-of, counted}
use Rattle.screen.proofs.ScreenLaws.{bounds}
use Rattle.row.specs.Building.{rows_at}
use Rattle.layers.specs.Band.{each, OnRows}
use Rattle.layers.specs.Filter.{FilterGiven, filter-of, paint-from, attrs-of, filter_lent, filter-number, after, own-box, Drawing}
use Rattle.layers.proofs.RowsLaws.{plain-on, plain-each}
use Rattle.layers.proofs.FilterLaws.{told-by, Sound, sound, FilterReady, ready, Free, free, paint-asked, after-drawn, after_nothing, fit}

module _ {g : FilterGiven} {s : Screen} {w : Words} {ps : List ℕ} {fs : List ℤ} {b : Rect} (q : Drawing g (filter_lent s w ps fs) b) where
  able : FilterReady g s w ps fs
  able = ready g s w ps fs q.number

  pub fine : Sound g
  fine = sound g able.good

  draws : draws-nothing (filter-of g) (own-box g s) ≡ false
  draws = told-by g s b false q.bounds q.drawn

  pub room : Free g s w
  room = free g s w ps fs q.number draws

  pub put-paint-needs : (s.filter_paints < 256) × (length fs ≡ filter-paint-table) × (unwrap_or g.filter.pixmap 0 < 2147483648)
  put-paint-needs = (room.paint, able.paints, fine.pixmap)

  pub put-attrs-needs : (s.paint_attrs < 1024) × (length ps ≡ paint-attr-table)
  put-attrs-needs = (room.attr, able.attrs)

  pub rows-needs : (t : Span) → t ≡ span_of (box_of b)
      → (Short t × (s.layers ≤ 16)) × OnRows s (λ (u : Words). put_command (paint-fill t None s.paint_attrs) (ensured s.layers u)) (b.y0 / 4) ((b.y1 + 3) / 4) w
  rows-needs t e =
      let p = paint-asked g s w ps fs q.number draws b t q.bounds e in
      ((p.0, (bounds s (fit g s w ps fs able.zero).screen).deep), plain-on s (bucket-tiles s.width) s.layers s.paint_attrs t p.1)

  pub counts-needs : ((s.next_draw_id ≤ 1048577) × (1 ≤ 1)) × (s.paint_attrs ≤ 1024) × (s.filter_paints ≤ 256)
  counts-needs = ((omega (arith, room.id), omega arith), omega (arith, room.attr), omega (arith, room.paint))

  pub leaves : (x : Screen) (ws : Words) (t : Span) → t ≡ span_of (box_of b)
      → x ≡ counted s (s.next_draw_id + 1) (s.paint_attrs + 1) s.layer_attrs (s.filter_paints + 1)
      → ws ≡ lay (each (λ (u : Words). put_command (paint-fill t None s.paint_attrs) (ensured s.layers u)) (range (b.y0 / 4) ((b.y1 + 3) / 4)) (rows_at (frame-of s) w))
      → filter_lent x ws (put-paint ps s.paint_attrs (attrs-of s g.count g.panel)) (put-filter fs s.filter_paints (paint-from g.filter.dest g.filter.source_x g.filter.source_y (unwrap_or g.filter.pixmap 0))) ≡ after g (filter_lent s w ps fs)
  leaves x ws t e h i =
      after-drawn g s w ps fs able draws x ws t b q.bounds e h (i ∙ ap lay (plain-each (bucket-tiles s.width) s.layers s.paint_attrs t _ _))

-- where nothing is drawn
module _ (g : FilterGiven) (s : Screen) (w : Words) (ps : List ℕ) (fs : List ℤ) (q : filter-number g (filter_lent s w ps fs) ≡ 0) where
  pub nothing-needs : (s.next_draw_id ≤ 1048577) × (s.paint_attrs ≤ 1024) × (s.filter_paints ≤ 256)
  nothing-needs = let k = bounds s (fit g s w ps fs (ready g s w ps fs q).zero).screen in (k.ids, k.paints, k.filters)

  pub nothing_left : (x : Screen) → draws-nothing (filter-of g) (own-box g s) ≡ true
      → x ≡ counted s (s.next_draw_id + 0) (s.paint_attrs + 0) s.layer_attrs (s.filter_paints + 0) → filter_lent x w ps fs ≡ after g (filter_lent s w ps fs)
  nothing_left x d h =
      let i : s.next_draw_id + 0 ≡ s.next_draw_id = omega arith in
      let j : s.paint_attrs + 0 ≡ s.paint_attrs = omega arith in
      let k : s.filter_paints + 0 ≡ s.filter_paints = omega arith in
      after_nothing g s w ps fs (ready g s w ps fs q) x d (rw (i, j, k) at h)
