-- On the words that hold a screen with no layer open painting begins, and every row waits at its first step. Assumes nothing.
use Rattle.std.proofs.Common.{◌≡◌, sym, ap, ◌∙◌, Bool, true, false, List, [], ℕ, ◌*◌, ◌<◌, eqb, length, replicate, eq-eqb}
use lib.ListN.{length-replicate}
use Rattle.rules.specs.Answers.{Answer, answer, Done}
use Rattle.rules.specs.Boxes.{Box, rows_of}
use Rattle.rules.specs.Rows.{Row}
use Rattle.rules.specs.Plans.{buckets-across}
use Rattle.rules.specs.Minima.{minima-room}
use Rattle.rules.specs.Steps.{Screen}
use Rattle.rules.specs.Painting.{begin}
use Rattle.rules.specs.Calls.{Canvas, blank, begin-call}
use Rattle.rules.proofs.All.{all_replicate, never}
use Rattle.screen.specs.Depths as lent
use Rattle.screen.specs.Depths.{Depths}
use Rattle.screen.specs.Tables.{ScreenLent}
use Rattle.paint.specs.Judging.{depths-long, begin_number}
use Rattle.paint.specs.Beginning.{beginning}
use Rattle.refine_steps.specs.Sound.{Sound}
use Rattle.refine_steps.specs.Lent.{screen-of, lent_of}
use Rattle.refine_paint.specs.Fair.{FairRows}
use Rattle.refine_paint.specs.Canvases.{WholeCanvas}
use Rattle.refine_paint.proofs.Begin.{judged-0, blank-depth, blank-painting}
use Rattle.refine_paint.proofs.Whole.{begin-whole}
use Rattle.rules_picture.proofs.Turns.{begun-is, begun-paints, begun-painter}
use Rattle.theorem_picture.specs.Reached.{begin-at}
use Rattle.theorem_picture.specs.Standing.{canvas-words}
use Rattle.theorem_text.specs.Waits.{Waits}

module _ (s : Screen Row) (sound : Sound s) (fair : FairRows s) (closed : s.state.layers ≡ []) where
  abbrev v : Box
  v = s.state.frame.viewport

  abbrev n : ℕ
  n = buckets-across s.state.frame

  -- the canvas before painting begins
  abbrev k : Canvas
  k = record { screen = s; begun = false; painters = blank s }

  abbrev on : Canvas
  on = record { screen = s; begun = true; painters = blank s }

  whole : WholeCanvas k
  whole =
      record {
        sound = sound;
        fair = fair;
        count = length-replicate (length s.rows) (begin n);
        wide = all_replicate (length s.rows) (begin n) (length-replicate {A = ℕ} n 0);
        closed = λ e. never (sym e);
        going = λ e i h. never (sym e);
      }

  done : (begin-call k).number ≡ Done
  unfolding begin-call
  done = rw closed

  module _ (b : Bool) (de : Depths) (pa : List ℕ) (hd : length de.words ≡ rows_of v * n) (hm : length de.minima ≡ rows_of v * minima-room n)
      (hp : length pa ≡ rows_of v * 2) where
    -- the depth words and their minima are as long as the screen asks for
    depths-judged : depths-long (screen-of s.state b) (length de.words) (length de.minima) ≡ true
    depths-judged = let e = eq-eqb _ _ hd in let f = eq-eqb _ _ hm in rw (e, f)

    begun-words : begin-at (lent_of s b de pa) ≡ answer Done (lent_of s true (lent.blank (rows_of v) n de) (replicate (rows_of v * 2) 0))
    unfolding begin-at beginning begin_number lent_of
    begun-words =
        let j = judged-0 s sound b _ (eqb (length pa) (rows_of v * 2)) depths-judged (eq-eqb _ _ hp) in
        rw (j, closed, hp)

    on-words : lent_of s true (lent.blank (rows_of v) n de) (replicate (rows_of v * 2) 0) ≡ canvas-words on
    on-words = rw (← sound.count, blank-depth n (length s.rows) de (rw sound.count hd), blank-painting n (length s.rows))

    -- begin is accepted, ..
    pub begin-accepted : (begin-at (lent_of s b de pa)).number ≡ Done
    begin-accepted = ap (λ (a : Answer ScreenLent). a.number) begun-words

    -- .. and leaves words at which each row waits
    pub all-wait : (r : ℕ) → r < length s.rows → Waits s r (begin-at (lent_of s b de pa)).value
    all-wait r h =
        let c = begun-is k done in
        record {
          canvas = (begin-call k).value;
          whole = begin-whole k whole;
          screen = ap (λ (x : Canvas). x.screen) c;
          goes_on = begun-paints k done;
          there = rw c h;
          fresh = begun-painter k r done h ∙ rw c;
          same = ap (λ (a : Answer ScreenLent). a.value) begun-words ∙ on-words ∙ ap canvas-words (sym c);
        }
