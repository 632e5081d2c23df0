-- Rows on a host's words: one look at the last row is enough for all; where the words stand for no screen, and where they stand for one.
use Rattle.std.proofs.Common.{◌≡◌, sym, ap, ◌∙◌, true, List, [], ◌∷◌, None, Some, ℕ, length}
use Rattle.rules.specs.Answers.{answer}
use Rattle.screen.specs.declared.Screen.{Screen}
use Rattle.screen.specs.Depths.{Depths}
use Rattle.paint.specs.declared.rows.RowRange.{RowRange}
use Rattle.paint.specs.Painting.{RowLent}
use Rattle.paint.specs.Stepping.{Attributes}
use Rattle.paint.specs.InOrder.{RowsOut, number-of-rows, rows-painted}
use Rattle.host.specs.State.{screen_of, refused_at}
use Rattle.host.specs.PaintRows.{rows-left, paint_rows_call}

module _ (r : RowRange) (a : Attributes) (st : List ℕ) (l : RowLent) (e : List ℕ) where
  pub rows_unheld : (n : ℕ) → None ≡ screen_of true st → n ≡ refused_at st (λ (s : Screen). number-of-rows s r a l (length e))
      → answer n (l.depth, l.painting, l.list, e, 0 ∷ 0 ∷ []) ≡ paint_rows_call r a st l e
  unfolding paint_rows_call
  rows_unheld n h q = rw (← h, q)

  pub rows_screened : (s : Screen) → Some s ≡ screen_of true st → (o : RowsOut) → o ≡ rows-painted s r a l e → (n k p : ℕ) (d : Depths) (g t f : List ℕ)
      → o ≡ record { number = n; done = k; pieces = p; depth = d; painting = g; list = t; ends = f }
      → answer n (d, g, t, f, k ∷ p ∷ []) ≡ paint_rows_call r a st l e
  unfolding paint_rows_call
  rows_screened s h o q n k p d g t f x = rw (← h) (ap rows-left (sym x ∙ q))
