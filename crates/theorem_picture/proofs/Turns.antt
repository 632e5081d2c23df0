-- Painting steps by turns at the words of a whole canvas are the rules' turns. Assumes nothing.
use Rattle.std.proofs.Common.{◌≡◌, refl, ap, ◌∙◌, List, [], ◌∷◌, map, ◌/◌, length}
use Rattle.sizes.specs.Sizes.{piece-size}
use Rattle.rules.specs.Calls.{Canvas, paint-call}
use Rattle.screen.specs.Tables.{ScreenLent}
use Rattle.refine_paint.specs.Canvases.{WholeCanvas}
use Rattle.refine_paint.proofs.Whole.{paint-whole}
use Rattle.rules_picture.specs.Turns as rule
use Rattle.rules_picture.specs.Turns.{turns, gave}
use Rattle.theorem_picture.specs.Standing.{canvas-words}
use Rattle.theorem_picture.specs.Turns.{Turn, gave-out, turned, log, turn-of}
use Rattle.theorem_picture.specs.Reached.{paint-out}
use Rattle.theorem_picture.proofs.Pieces.{pieces-back}
use Rattle.theorem_picture.proofs.Words.{paint-gives, paint-words}

-- what one call gave
pub gave-same : (k : Canvas) → WholeCanvas k → (t : Turn) → gave-out t.row (paint-out t.row t.list (canvas-words k)) ≡ gave t.row (paint-call t.row (length t.list / piece-size) k)
gave-same k w t =
    let g = paint-call t.row (length t.list / piece-size) k in
    ap (gave-out t.row) (paint-gives k w t.row t.list) ∙ rw (pieces-back g.value.result.pieces t.list)

-- the words afterwards, and what all calls gave
pub turned-words : (ts : List Turn) (k : Canvas) → WholeCanvas k → turned ts (canvas-words k) ≡ canvas-words (turns (map turn-of ts) k).canvas
unfolding turned turns
turned-words [] k w = refl
turned-words (t ∷ ts) k w =
    ap (turned ts) (paint-words k w t.row t.list) ∙ turned-words ts (paint-call t.row (length t.list / piece-size) k).value.canvas (paint-whole k w t.row (length t.list / piece-size))

pub log-words : (ts : List Turn) (k : Canvas) → WholeCanvas k → log ts (canvas-words k) ≡ (turns (map turn-of ts) k).log
unfolding log turns
log-words [] k w = refl
log-words (t ∷ ts) k w =
    let j = (paint-call t.row (length t.list / piece-size) k).value.canvas in
    ap (λ (m : ScreenLent). gave-out t.row (paint-out t.row t.list (canvas-words k)) ∷ log ts m) (paint-words k w t.row t.list)
    ∙ rw (gave-same k w t, log-words ts j (paint-whole k w t.row (length t.list / piece-size)))

-- a canvas stays whole
pub turns-whole : (ts : List rule.Turn) (k : Canvas) → WholeCanvas k → WholeCanvas (turns ts k).canvas
unfolding turns
turns-whole [] k w = w
turns-whole (t ∷ ts) k w = turns-whole ts (paint-call t.row t.room k).value.canvas (paint-whole k w t.row t.room)
