-- Every row can be painted to its end at the words, so `picture` speaks of every screen. Assumes nothing.
use Rattle.std.proofs.Common.{◌≡◌, refl, sym, ap, ◌∙◌, Bool, true, false, ◌||◌, List, [], ◌∷◌, map, ℕ, ◌*◌, ◌/◌, ◌<◌, arith, length, replicate}
use lib.ListN.{length-replicate}
use borrow.Author.Tests.{lt-leb}
use Rattle.sizes.specs.Sizes.{piece-size}
use Rattle.rules.specs.Answers.{Answer, Done}
use Rattle.rules.specs.Boxes.{rows_of}
use Rattle.rules.specs.Plans.{Frame, Step}
use Rattle.rules.specs.Calls.{paints-on, Canvas, bucket-on, begin-call, painter-of, paint-call}
use Rattle.screen.specs.Tables.{ScreenLent}
use Rattle.paint.specs.Painting.{StepOut}
use Rattle.refine_paint.specs.Canvases.{WholeCanvas}
use Rattle.refine_paint.proofs.Whole.{begin-whole}
use Rattle.rules_picture.specs.Turns as rule
use Rattle.rules_picture.specs.Turns.{turns, said-finished, has-finished}
use Rattle.rules_picture.proofs.Turns.{step-ended, turns-screen, turns-paints, begun-is, begun-paints}
use Rattle.rules_picture.proofs.Finishes as tiles
use Rattle.rules_picture.proofs.Finishes.{in_order}
use Rattle.rules_picture.proofs.CompactedFollows.{kept-on}
use Rattle.theorem_picture.specs.Reached.{Reached, begin-at}
use Rattle.theorem_picture.specs.Standing.{canvas-words}
use Rattle.theorem_picture.specs.Turns.{Turn, turn-of, turned, log, finished-at}
use Rattle.theorem_picture.specs.Picture.{finished}
use Rattle.theorem_picture.proofs.Words.{paint-gives}
use Rattle.theorem_picture.proofs.Reached.{reached}
use Rattle.theorem_picture.proofs.Answers.{begin-answer}
use Rattle.theorem_picture.proofs.Turns.{turned-words, turns-whole}

-- a turn of the rules with a list that has its room
abbrev lent-turn : rule.Turn → Turn
lent-turn t = record { row = t.row; list = replicate (piece-size * t.room) 0 }

same-turns : (ts : List rule.Turn) → map turn-of (map lent-turn ts) ≡ ts
same-turns [] = refl
same-turns (t ∷ ts) =
    let e : piece-size * t.room / piece-size ≡ t.room = omega arith in
    rw (length-replicate {A = ℕ} (piece-size * t.room) 0, e, same-turns ts)

-- a row of which nothing is left says finished, whatever the room
says-finished : (k : Canvas) → WholeCanvas k → (r : ℕ) → r < length k.screen.rows → paints-on k ≡ true → has-finished k r ≡ true → finished-at (canvas-words k) r ≡ true
unfolding has-finished paint-call
says-finished k w r h b e =
    let f = step-ended (bucket-on k) k.screen.state.attrs _ (painter-of k r) e in
    ap (λ (o : StepOut). o.answer.finished) (paint-gives k w r []) ∙ rw (lt-leb (length k.screen.rows) r h, b, f)

or-last : (a b : Bool) → b ≡ true → (a || b) ≡ true
or-last true b e = refl
or-last false b e = e

-- a schedule after which every row has finished
pub finishes : (f : Frame) (xs : List Step) (l : ScreenLent) → Reached f xs l → (begin-at l).number ≡ Done
    → (ts : List Turn) × ((r : ℕ) → r < rows_of f.viewport → finished r ts (begin-at l).value ≡ true)
finishes f xs l h e =
    let s = reached h in
    let k = s.canvas in
    let q = begin-answer s in
    let d : (begin-call k).number ≡ Done = sym (ap (λ (a : Answer ScreenLent). a.number) q) ∙ e in
    let v : (begin-at l).value ≡ canvas-words (begin-call k).value = ap (λ (a : Answer ScreenLent). a.value) q in
    let b = (begin-call k).value in
    let us = in_order (length k.screen.rows) b in
    let w = begin-whole k s.whole in
    let g = begun-is k d in (
      map lent-turn us,
      λ r there.
          let row = (kept-on f xs k.screen s.built r there).1 in
          let same : (turns us b).canvas.screen ≡ k.screen = turns-screen us b ∙ ap (λ (c : Canvas). c.screen) g in
          let on : paints-on (turns us b).canvas ≡ true = turns-paints us b ∙ begun-paints k d in
          let t : turned (map lent-turn us) (begin-at l).value ≡ canvas-words (turns us b).canvas =
          ap (turned (map lent-turn us)) v ∙ turned-words (map lent-turn us) b w ∙ ap (λ (x : List rule.Turn). canvas-words (turns x b).canvas) (same-turns us) in
          or-last (said-finished r (log (map lent-turn us) (begin-at l).value)) _
          (rw t (says-finished (turns us b).canvas (turns-whole us b w) r (rw same row) on (tiles.finishes k d r row))),
    )
