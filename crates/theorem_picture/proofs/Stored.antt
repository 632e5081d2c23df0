-- What is read of a row at the words of a whole canvas is the rules' row and its painter. Assumes nothing.
use Rattle.std.proofs.Common.{ℕ, ◌≡◌, refl, sym, subst, true, ◌*◌, ◌<◌, length, get_or, eq-eqb, le-leb, le-ltb, lt-ltb}
use Rattle.std.proofs.lemmas.Bool.{lt-leb}
use Rattle.rules.specs.Answers.{answer, Done}
use Rattle.rules.specs.Rows.{Row, fresh-row}
use Rattle.rules.specs.Plans.{buckets-across}
use Rattle.rules.specs.Steps as rule
use Rattle.rules.specs.Painting.{begin}
use Rattle.rules.specs.Calls.{Canvas}
use Rattle.row.specs.Words.{Words}
use Rattle.screen.specs.declared.Screen.{Screen}
use Rattle.screen.specs.Tables.{ScreenLent}
use Rattle.refine_steps.specs.Lent.{screen-of, rows_of, lent_of}
use Rattle.refine_steps.proofs.Judged as judged
use Rattle.paint.specs.Judging as judging
use Rattle.paint.specs.Standing.{Stands}
use Rattle.paint.specs.Stepping.{part}
use Rattle.paint.specs.StoredCmds.{stored-long, stored_number, progress_number, lengths, lengths-of-row, command-of-row, depth-of-row, progress-of-row}
use Rattle.refine_paint.specs.Canvases.{standing-in, painting-of, WholeCanvas}
use Rattle.refine_paint.proofs.Kept.{row-stands}
use Rattle.refine_paint.proofs.Begin.{judged-0, all-standing, painting-long}
use Rattle.refine_paint.proofs.Step.{part_join}
use Rattle.theorem_picture.specs.Standing.{canvas-words}
use Rattle.theorem_picture.specs.Stored.{RowRead, CanvasStored, StandsStored}

module _ (k : Canvas) (w : WholeCanvas k) (i : ℕ) (h : i < length k.screen.rows) where
  abbrev s : rule.Screen Row
  s = k.screen

  abbrev here : Screen
  here = screen-of s.state k.begun

  abbrev t : Words
  t = rows_of s

  abbrev r : Row
  r = get_or s.rows i fresh-row

  own : Stands s.state.attrs (buckets-across s.state.frame) r (part 54 i t.state) (part (4 * s.state.frame.c) i t.render) (part (2 * s.state.frame.d) i t.fills)
  own = row-stands s i h w.sound w.fair

  stored-0 : stored_number here i t ≡ 0
  unfolding stored_number
  stored-0 =
      let z = judged.rows_long s w.sound in
      let x : stored-long here (length t.render) (length t.fills) ≡ true = rw (eq-eqb _ _ z.render, eq-eqb _ _ z.fills) in
      let y : judging.rows_long here (length t.state) ≡ true = eq-eqb _ _ z.state in
      rw (judged-0 s w.sound k.begun _ _ x y, ← w.sound.count, lt-leb (length s.rows) i h)

  progress-0 : progress_number here i (length (painting-of k.painters)) ≡ 0
  unfolding progress_number
  progress-0 =
      let y : judging.painting-long here (length (painting-of k.painters)) ≡ true = eq-eqb _ _ (painting-long k w) in
      rw (judged-0 s w.sound k.begun true _ refl y, ← w.sound.count, lt-leb (length s.rows) i h)

  counted : lengths-of-row here i t ≡ answer Done (lengths (length r.commands) (length r.fills))
  unfolding lengths-of-row
  counted = rw (stored-0, own.renders, own.depths, le-leb _ _ (w.sound.rows i).commands, le-leb _ _ (w.sound.rows i).fills)

  row-read : RowRead k i (canvas-words k)
  unfolding lent_of command-of-row depth-of-row progress-of-row
  row-read =
      record {
        counts = counted;
        command = λ j y. rw (counted, lt-ltb j (length r.commands) y, own.commands-at j y);
        past-commands = λ j y. rw (counted, le-ltb j (length r.commands) y);
        fill = λ j y. rw (counted, lt-ltb j (length r.fills) y, own.fills-at j y);
        past-fills = λ j y. rw (counted, le-ltb j (length r.fills) y);
        progress = rw (progress-0, part_join standing-in 2 (all-standing k.painters) i (begin 0) (rw w.count h));
      }

pub canvas-stored : CanvasStored
canvas-stored k w r h = row-read k w r h

pub stands-stored : StandsStored
stands-stored f xs l s r h = subst (λ (m : ScreenLent). RowRead s.canvas r m) (sym s.same) (row-read s.canvas s.whole r h)
