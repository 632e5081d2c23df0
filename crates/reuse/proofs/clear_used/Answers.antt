-- The reset is judged 0, so that every table has its length.
use Rattle.std.proofs.Common.{refl}
use Rattle.rules.specs.Boxes.{rows_of}
use Rattle.rect.specs.Rects.{box_of}
use Rattle.screen.specs.Screens.{frame-of}
use Rattle.screen.specs.Tables.{lengths}
use Rattle.screen.specs.Lent.{tables_in}
use Rattle.screen.proofs.Passed.{depth_long}
use Rattle.reuse.proofs.Using.{fits}
use Rattle.reuse.proofs.clear_used.Goals as goal

pub clear_rows-requires-clause-room : goal.clear_rows-requires-clause-room
clear_rows-requires-clause-room c = let f = fits c.args.screen (lengths (tables_in c.args.lent.now)) c.requires.judged in (f.c, f.d)

pub clear_rows-requires-clause-long : goal.clear_rows-requires-clause-long
clear_rows-requires-clause-long c =
    let f = fits c.args.screen (lengths (tables_in c.args.lent.now)) c.requires.judged in
    (rows_of (box_of c.args.screen.viewport), f.few, f.rows, f.render, f.fills)

pub blank_rows-requires-clause-few : goal.blank_rows-requires-clause-few
blank_rows-requires-clause-few c =
    let d = depth_long (frame-of c.args.screen) (lengths (tables_in c.args.lent.now)) c.requires.judged in rw (c.rows.ensures, c.buckets.ensures) (d.few, d.narrow)

pub blank_rows-requires-clause-words : goal.blank_rows-requires-clause-words
blank_rows-requires-clause-words c =
    let d = depth_long (frame-of c.args.screen) (lengths (tables_in c.args.lent.now)) c.requires.judged in rw (c.rows.ensures, c.buckets.ensures) d.words

pub blank_rows-requires-clause-minima : goal.blank_rows-requires-clause-minima
blank_rows-requires-clause-minima c =
    let d = depth_long (frame-of c.args.screen) (lengths (tables_in c.args.lent.now)) c.requires.judged in rw (c.rows.ensures, c.buckets.ensures) d.minima

pub clear_opacities-requires : goal.clear_opacities-requires
clear_opacities-requires c = (fits c.args.screen (lengths (tables_in c.args.lent.now)) c.requires.judged).opacities

pub returns-clause-cleared : goal.returns-clause-cleared
returns-clause-cleared c =
    let s = c.args.screen in
    let f = fits s (lengths (tables_in c.args.lent.now)) c.requires.judged in
    let n = rows_of (box_of s.viewport) in
    let w = c.clear_rows.ensures in
    rw (
      w.commands n f.rows,
      w.fills n f.rows,
      w.records,
      c.blank_rows.ensures.words,
      c.blank_rows.ensures.minima,
      c.rows.ensures,
      c.buckets.ensures,
      c.fill.ensures.after (λ y h. h),
      c.clear_first.ensures,
      c.clear_opacities.ensures,
      c.clear_first-2.ensures,
      c.clear_first-3.ensures,
      c.clear_first-4.ensures,
    )
    refl
