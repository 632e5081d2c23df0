-- A recording call at the words of a canvas is the rules' recording call, every word: from the reset on, the walk's steps keep words that are
-- those of a whole canvas, and a refusal leaves either the words as they were or those of the reset. Assumes nothing.
use Rattle.std.proofs.Common.{ℕ, ◌≡◌, sym, ap, ◌∙◌, true, List, Some}
use Rattle.rules.specs.Answers.{Answer, answer}
use Rattle.rules.specs.Boxes.{rows_of}
use Rattle.rules.specs.Plans.{Step}
use Rattle.rules.specs.Setups.{Setup, frame}
use Rattle.rules.specs.Recording.{parsed, recording, File}
use Rattle.rules.specs.Calls.{Canvas, fresh-canvas, step_call, record-call}
use Rattle.screen.specs.Judging.{good-tables, arenas}
use Rattle.screen.specs.Tables.{lengths, ScreenLent}
use Rattle.walk.specs.Steps.{call_at}
use Rattle.walk.specs.Recorded.{recorded}
use Rattle.rules.proofs.Follows.{Follow}
use Rattle.refine_paint.specs.Canvases.{WholeCanvas}
use Rattle.refine_paint.proofs.Painted.{step-whole}
use Rattle.refine_file.specs.Played.{Outcome, unaltered, made, Plays}
use Rattle.refine_file.proofs.Laws.{words-play}
use Rattle.theorem_picture.specs.Standing.{canvas-words}
use Rattle.theorem_picture.proofs.Words.{step_words}
use Rattle.theorem_picture.proofs.Reached.{fresh-whole, reset-words}

-- words that are those of a whole canvas
record Held (k : Canvas) (l : ScreenLent) : Type 0 where
  whole : WholeCanvas k
  same : l ≡ canvas-words k

step-held : (x : Step) → Follow Held (step_call x) (call_at x)
step-held x k l h =
    let q = ap (call_at x) h.same ∙ step_words k h.whole x in
    record {
      number = ap (λ (a : Answer ScreenLent). a.number) q;
      value = λ e. record { whole = step-whole x k h.whole; same = ap (λ (a : Answer ScreenLent). a.value) q };
    }

module _ (ws : File) (q : Setup) (k : Canvas)
    (fit : (ss : List (List (List ℕ))) → parsed ws ≡ Some ss → good-tables (rows_of (frame q (recording ss).viewport).viewport) (lengths (canvas-words k).tables) ≡ true) where
  -- the rules' call, with the arenas that are lent
  abbrev theirs : Answer Canvas
  theirs = record-call q (arenas (lengths (canvas-words k).tables)) ws k

  plays : Plays Held k (canvas-words k) theirs (recorded ws q (canvas-words k))
  unfolding record-call
  plays =
      words-play Canvas step_call fresh-canvas Held step-held
      (λ f l z. record { whole = fresh-whole f l z; same = reset-words f l z })
      ws q (canvas-words k) k fit

  -- The number and every word. The tables beside the arenas are as long as the frame asks.
  pub recorded-canvas : recorded ws q (canvas-words k) ≡ answer theirs.number (canvas-words theirs.value)
  recorded-canvas =
      ap (λ (n : ℕ). answer n (recorded ws q (canvas-words k)).value) plays.number ∙ ap (λ (l : ScreenLent). answer theirs.number l) (go plays.value)
    where
      go : Outcome Held theirs.number k (canvas-words k) theirs.value (recorded ws q (canvas-words k)).value
          → (recorded ws q (canvas-words k)).value ≡ canvas-words theirs.value
      go (unaltered n s e) = e ∙ ap canvas-words (sym s)
      go (made h) = h.same

  -- A whole canvas stays whole: the calls after it are the rules' too.
  pub recorded-whole : WholeCanvas k → WholeCanvas theirs.value
  recorded-whole w = go plays.value
    where
      go : Outcome Held theirs.number k (canvas-words k) theirs.value (recorded ws q (canvas-words k)).value → WholeCanvas theirs.value
      go (unaltered n s e) = rw s w
      go (made h) = h.whole
