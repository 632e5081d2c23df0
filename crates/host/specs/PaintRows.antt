-- Rows painted one after the other, on a host's words: number, the words that they may change, and how far they came.
use Rattle.std.specs.Prelude.{ℕ, true, ◌≡◌, List, [], ◌∷◌, length, Option, None, Some}
use Rattle.rules.specs.Answers.{Answer, answer}
use Rattle.screen.specs.declared.Screen.{Screen}
use Rattle.screen.specs.Depths.{Depths, depths_in}
use Rattle.paint.specs.declared.canvas.stored.Stored.{Stored}
use Rattle.paint.specs.declared.canvas.stored.Canvas.{Canvas}
use Rattle.paint.specs.declared.rows.RowRange.{RowRange}
use Rattle.paint.specs.Judging.{wide, arenas-long, tables-long}
use Rattle.paint.specs.Named.{row_lent, row_attrs}
use Rattle.paint.specs.Painting.{RowLent}
use Rattle.paint.specs.Stepping.{Attributes}
use Rattle.paint.specs.InOrder.{RowsOut, rows_number, number-of-rows, rows-painted}
use Rattle.host.specs.declared.state.StateWords.{StateWords}
use Rattle.host.specs.declared.rows.PaintedRows.{PaintedRows}
use Rattle.host.specs.State.{screen-at, screen_of, refused_at}
use Rattle.host.specs.Held.{words_in}

-- the depth words with their minima, the painting table, the list, the ends, how many rows are painted to their end, and how many pieces are listed
abbrev pub RowsLeft : Type 0
RowsLeft = Depths × List ℕ × List ℕ × List ℕ × List ℕ

abbrev pub rows-left : RowsOut → Answer RowsLeft
rows-left o = answer o.number (o.depth, o.painting, o.list, o.ends, o.done ∷ o.pieces ∷ [])

-- words that stand for no screen: 2 or 1 as the rows' judge says, else 4; nothing is painted
abbrev pub rows_held : RowRange → Attributes → Option Screen → List ℕ → RowLent → List ℕ → Answer RowsLeft
rows_held r a None st l e =
    answer (refused_at st (λ (s : Screen). number-of-rows s r a l (length e))) (l.depth, l.painting, l.list, e, 0 ∷ 0 ∷ [])
rows_held r a (Some s) st l e = rows-left (rows-painted s r a l e)

unfoldable pub paint_rows_call : RowRange → Attributes → List ℕ → RowLent → List ℕ → Answer RowsLeft
paint_rows_call r a st l e = rows_held r a (screen_of true st) st l e

-- .. on what a host lends
abbrev pub row_range : ℕ → ℕ → RowRange
row_range a b = record { first = a; end = b }

abbrev pub rows-judged-of : RowRange → Stored → Canvas → ℕ → Screen → ℕ
rows-judged-of r t c n s =
    rows_number s r (arenas-long s (length t.render_cmds.now) (length t.depth_cmds.now) (length c.depth.words.now) (length c.depth.minima.now))
    (tables-long s (length t.rows.now) (length c.painting.now) (length t.paint_attrs.now) (length t.layer_attrs.now))
    n

abbrev pub rows_left_in : Canvas → List ℕ → List ℕ → PaintedRows → RowsLeft
rows_left_in c l e p = (depths_in c.depth, c.painting.now, l, e, p.rows ∷ p.pieces ∷ [])

abbrev pub paint_rows_on : RowRange → StateWords → Stored → Canvas → List ℕ → List ℕ → Answer RowsLeft
paint_rows_on r w t c l e = paint_rows_call r (row_attrs t) (words_in w) (row_lent t c l) e

-- the words stand for a screen that the judge of the rows passes, of so many buckets
abbrev pub SureRows : StateWords → RowRange → Stored → Canvas → ℕ → ℕ → Type 0
SureRows w r t c n b =
    (rows-judged-of r t c n (screen-at (words_in w)) ≡ 0)
    × (Some (screen-at (words_in w)) ≡ screen_of true (words_in w))
    × (b ≡ wide (screen-at (words_in w)))
