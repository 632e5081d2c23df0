-- The picture, about the calls as they are. Assumes nothing.
use Rattle.std.proofs.Common.{◌≡◌, sym, ap, ◌∙◌, true, List, [], map, ℕ, ◌<◌, eqb, length}
use Rattle.rules.specs.Answers.{Answer, Done}
use Rattle.rules.specs.Painting.{Painted}
use Rattle.rules.specs.Calls.{Canvas, begin-call, paint-call}
use Rattle.rules.proofs.All.{never}
use Rattle.screen.specs.Tables.{ScreenLent}
use Rattle.paint.specs.Painting.{StepOut}
use Rattle.refine_paint.specs.Canvases.{WholeCanvas}
use Rattle.refine_paint.proofs.Whole.{begin-whole}
use Rattle.rules_picture.specs.Turns.{turns, said-finished, has-finished}
use Rattle.rules_picture.proofs.Cases.{by}
use Rattle.rules_picture.proofs.Turns.{call-refused, call-given, said-so, begun-there}
use Rattle.rules_picture.proofs.CompactedFollows.{kept-on, compacted-picture}
use Rattle.theorem_picture.specs.Reached.{begin-at}
use Rattle.theorem_picture.specs.Standing.{canvas-words}
use Rattle.theorem_picture.specs.Turns.{Turn, turn-of, turned, log, finished-at}
use Rattle.theorem_picture.specs.Picture.{finished, Picture}
use Rattle.theorem_picture.proofs.Words.{paint-gives}
use Rattle.theorem_picture.proofs.Reached.{reached}
use Rattle.theorem_picture.proofs.Answers.{begin-answer}
use Rattle.theorem_picture.proofs.Turns.{turned-words, log-words, turns-whole}

-- a step without room that says finished: nothing is left of the row
finished-words : (k : Canvas) → WholeCanvas k → (r : ℕ) → finished-at (canvas-words k) r ≡ true → has-finished k r ≡ true
unfolding has-finished
finished-words k w r e =
    let f : (paint-call r 0 k).value.result.finished ≡ true = sym (ap (λ (o : StepOut). o.answer.finished) (paint-gives k w r [])) ∙ e in
    by (eqb (paint-call r 0 k).number Done)
    (λ d. sym (ap (λ (o : Painted). o.finished) (call-given r 0 k d).0) ∙ f)
    (λ d. never (sym f ∙ (call-refused r 0 k d).2))

-- a row that has finished at the words has finished by the rules
pub finished-rules : (ts : List Turn) (k : Canvas) → WholeCanvas k → (r : ℕ) → r < length k.painters → finished r ts (canvas-words k) ≡ true
    → has-finished (turns (map turn-of ts) k).canvas r ≡ true
finished-rules ts k w r h e =
    by (said-finished r (log ts (canvas-words k)))
    (λ y. said-so (map turn-of ts) k r h (rw (log-words ts k w) at y))
    (λ n.
    let z : finished-at (turned ts (canvas-words k)) r ≡ true = rw n at e in
    finished-words (turns (map turn-of ts) k).canvas (turns-whole (map turn-of ts) k w) r (rw (turned-words ts k w) at z))

pub picture : Picture
picture f xs l h e ts r t there on fin =
    let s = reached h in
    let k = s.canvas in
    let q = begin-answer s in
    let d : (begin-call k).number ≡ Done = sym (ap (λ (a : Answer ScreenLent). a.number) q) ∙ e in
    let v : (begin-at l).value ≡ canvas-words (begin-call k).value = ap (λ (a : Answer ScreenLent). a.value) q in
    let w = begin-whole k s.whole in
    let row = begun-there k r d (kept-on f xs k.screen s.built r there).1 in
    rw (v, log-words ts (begin-call k).value w)
    (compacted-picture f xs k s.built d (map turn-of ts) r t there on (finished-rules ts (begin-call k).value w r row (sym (ap (finished r ts) v) ∙ fin)))
