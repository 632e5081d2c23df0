-- The depth word of a finished row's bucket, at the words, is the id of the newest depth fill over it.
use Rattle.std.proofs.Common.{ℕ, ◌/◌, ◌<◌, ◌≡◌, sym, ap, ◌∙◌, true, List, map, length, get_or}
use Rattle.rules.specs.Answers.{Answer, Done}
use Rattle.rules.specs.Plans.{bucket, buckets-across}
use Rattle.rules.specs.Painting.{begin}
use Rattle.rules.specs.Calls.{Canvas, begin-call, painter-of}
use Rattle.screen.specs.Tables.{ScreenLent}
use Rattle.paint.specs.Judging.{wide}
use Rattle.paint.specs.Stepping.{part}
use Rattle.refine_steps.specs.Lent.{lent_of}
use Rattle.refine_paint.specs.Canvases.{buckets-in, WholeCanvas}
use Rattle.refine_paint.proofs.Step.{part_join}
use Rattle.refine_paint.proofs.Whole.{begin-whole}
use Rattle.rules_picture.specs.Turns.{turns}
use Rattle.rules_picture.proofs.Turns.{begun-there, painted-screen}
use Rattle.rules_picture.proofs.CompactedFollows.{kept-on}
use Rattle.rules_picture.proofs.StoredColours.{kept-newest}
use Rattle.theorem_picture.specs.Reached.{begin-at}
use Rattle.theorem_picture.specs.Standing.{canvas-words}
use Rattle.theorem_picture.specs.Turns.{turn-of}
use Rattle.theorem_picture.specs.Picture.{finished}
use Rattle.theorem_picture.specs.Rows.{called, row-finished}
use Rattle.theorem_picture.specs.Colours.{WordAt}
use Rattle.theorem_picture.proofs.Answers.{begin-answer}
use Rattle.theorem_picture.proofs.Turns.{turned-words, turns-whole}
use Rattle.theorem_picture.proofs.Picture.{finished-rules}
use Rattle.theorem_picture.proofs.Rows.{calls-turns}

-- the depth words of a row are its painter's
depth-part : (k : Canvas) → WholeCanvas k → (r : ℕ) → r < length k.screen.rows → part (wide (canvas-words k).screen) r (canvas-words k).tables.depth.words ≡ (painter-of k r).buckets
unfolding lent_of
depth-part k w r h = part_join buckets-in (buckets-across k.screen.state.frame) w.wide r (begin 0) (rw w.count h)

pub word-at : WordAt
word-at f xs l s e cs r t there on fin =
    let k = s.canvas in
    let q = begin-answer s in
    let d : (begin-call k).number ≡ Done = sym (ap (λ (a : Answer ScreenLent). a.number) q) ∙ e in
    let v : (begin-at l).value ≡ canvas-words (begin-call k).value = ap (λ (a : Answer ScreenLent). a.value) q in
    let b = (begin-call k).value in
    let w = begin-whole k s.whole in
    let rows : r < length k.screen.rows = (kept-on f xs k.screen s.built r there).1 in
    let row = begun-there k r d rows in
    let z = calls-turns cs (canvas-words b) in
    let n : row-finished r cs (canvas-words b) ≡ true = sym (ap (row-finished r cs) v) ∙ fin in
    let y : finished r z.turns (canvas-words b) ≡ true = rw (z.said r, z.words) n in
    let ts = map turn-of z.turns in
    let fr = finished-rules z.turns b w r row y in
    let last = (turns ts b).canvas in
    let same : called cs (begin-at l).value ≡ canvas-words last = ap (called cs) v ∙ sym z.words ∙ turned-words z.turns b w in
    let row-now : r < length last.screen.rows = rw (painted-screen ts k d) rows in
    ap (λ (m : ScreenLent). get_or (part (wide m.screen) r m.tables.depth.words) (t / bucket f) 0) same
    ∙ ap (λ (bs : List ℕ). get_or bs (t / bucket f) 0) (depth-part last (turns-whole ts b w) r row-now)
    ∙ kept-newest f xs k s.built d ts r t there on fr
