-- The call on a row's own words, done or refused, is the row's call. Assumes nothing.
use Rattle.std.proofs.Common.{◌≡◌, ap, ◌∙◌, Bool, true, false, ◌&&◌, cond, List, None, Some, ℕ, ◌*◌, length, eqb}
use borrow.Rule.Slice.PartMut.{put_same}
use Rattle.rules.specs.Answers.{Answer, answer}
use Rattle.rules.specs.Minima.{minima-room}
use Rattle.screen.specs.declared.Screen.{Screen}
use Rattle.screen.specs.Depths.{Depths}
use Rattle.paint.specs.Judging.{wide}
use Rattle.paint.specs.Painting.{RowLent, StepOut}
use Rattle.paint.specs.Stepping.{Attributes, own, in_place}
use Rattle.paint.specs.Running.{row-painted}
use Rattle.paint.specs.OwnRow.{own-row-painted}
use Rattle.paint.proofs.OwnRow.{own-is-row}
use Rattle.host.specs.State.{good-words, screen-at, screen_of, refused_at, at_held}
use Rattle.host.specs.Painting.{step_left, row_call, own_row_call}
use Rattle.theorem_border.specs.OwnRows.{placed, OwnRowHosted}

module _ (r : ℕ) (a : Attributes) (st : List ℕ) (l : RowLent) (res : List ℕ) where
  abbrev s : Screen
  s = screen-at st

  abbrev mine : RowLent
  mine = own s r l

  module _ (e : row-painted s r a l ≡ in_place s r l (own-row-painted s a mine)) where
    by-words : (b : Bool)
        → at_held (cond b (Some s) None) st (l.depth, l.painting, l.list, res) (λ (t : Screen). step_left res (row-painted t r a l))
        ≡ placed s r l (at_held (cond b (Some s) None) st (mine.depth, mine.painting, mine.list, res) (λ (t : Screen). step_left res (own-row-painted t a mine)))
    unfolding refused_at
    by-words true = ap (step_left res) e
    by-words false =
        rw (ap (λ (o : StepOut). o.answer.number) e)
        (rw (put_same (r * wide s) (wide s) l.depth.words, put_same (r * minima-room (wide s)) (minima-room (wide s)) l.depth.minima, put_same (r * 2) 2 l.painting))

    own-row-same : row_call r a st l res ≡ placed s r l (own_row_call a st mine res)
    unfolding row_call own_row_call screen_of
    own-row-same = by-words (eqb (length res) 2 && good-words st)

pub own-row-hosted : OwnRowHosted
own-row-hosted r a st l res h x y = own-row-same r a st l res (own-is-row (screen-at st) r a l h x y)
