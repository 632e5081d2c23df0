-- Painting at the words of a screen: a reset and building steps keep a canvas whole, and the painting calls at `lent_of` are the rules'.
-- Assumes nothing.
use Rattle.std.proofs.Common.{◌≡◌, sym, ap, ◌∙◌, Bool, true, false, cond, List, ℕ, ◌/◌, eqb, length}
use lib.ListN.{length-replicate}
use Rattle.sizes.specs.Sizes.{piece-size}
use Rattle.rules.specs.Answers.{answer, Done}
use Rattle.rules.specs.Boxes.{good_viewport}
use Rattle.rules.specs.Boxes as boxes
use Rattle.rules.specs.Rows.{Row, fresh-row, row-ops}
use Rattle.rules.specs.Plans.{Frame, buckets-across, Step}
use Rattle.rules.specs.Steps.{reset, call}
use Rattle.rules.specs.Walk.{good-room}
use Rattle.rules.specs.Painting.{begin}
use Rattle.rules.specs.Calls.{Canvas, fresh-canvas, step_call, begin-call, paint-call}
use Rattle.rules.proofs.All.{never, all_replicate}
use Rattle.screen.specs.Tables.{ScreenLent}
use Rattle.refine_steps.specs.Lent.{lent_of}
use Rattle.refine_steps.proofs.Kept.{call-sound, reset-sound}
use Rattle.paint.specs.Painting.{words_lent}
use Rattle.paint.specs.Beginning.{canvas, beginning}
use Rattle.paint.specs.Stepping.{attributes, stepped}
use Rattle.rules_picture.proofs.Stepped.{call-frame}
use Rattle.refine_paint.specs.Canvases.{depth-of, painting-of, canvas-of, given_out, WholeCanvas}
use Rattle.refine_paint.proofs.Kept.{call-fair, reset-fair}
use Rattle.refine_paint.proofs.Begin.{begin-by}
use Rattle.refine_paint.proofs.Step.{step_by}

-- a reset of a good frame
pub reset-whole : (f : Frame) → good_viewport f.viewport ≡ true → good-room f.c ≡ true → good-room f.d ≡ true → WholeCanvas (fresh-canvas f)
unfolding reset
reset-whole f g c d =
    let n = buckets-across f in
    let m = length (reset fresh-row f).rows in
    record {
      sound = reset-sound f g c d;
      fair = reset-fair f;
      count = length-replicate m (begin n);
      wide = all_replicate m (begin n) (length-replicate n 0);
      closed = λ e. never (sym e);
      going = λ e. never (sym e);
    }

-- every building step, refused or done
pub step-whole : (x : Step) (k : Canvas) → WholeCanvas k → WholeCanvas (step_call x k).value
unfolding step_call
step-whole x k w = go (eqb (call Row row-ops x k.screen).number Done)
  where
    rows-kept : length k.screen.rows ≡ length (call Row row-ops x k.screen).value.rows
    rows-kept = w.sound.count ∙ ap (λ (f : Frame). boxes.rows_of f.viewport) (sym (call-frame row-ops x k.screen)) ∙ sym (call-sound x k.screen w.sound).count

    go : (t : Bool) → WholeCanvas (cond t (answer Done (record { screen = (call Row row-ops x k.screen).value; begun = false; painters = k.painters })) (answer (call Row row-ops x k.screen).number k)).value
    go true =
        record {
          sound = call-sound x k.screen w.sound;
          fair = call-fair x k.screen w.sound w.fair;
          count = w.count ∙ rows-kept;
          wide = rw (call-frame row-ops x k.screen) w.wide;
          closed = λ e. never (sym e);
          going = λ e. never (sym e);
        }
    go false = w

-- the calls at the lent words
module _ (k : Canvas) (w : WholeCanvas k) where
  abbrev words : ScreenLent
  words = lent_of k.screen k.begun (depth-of k.painters) (painting-of k.painters)

  pub begin-painted : beginning (canvas words.screen words.tables.depth words.tables.painting) ≡ answer (begin-call k).number (canvas-of (begin-call k).value)
  unfolding lent_of
  begin-painted = begin-by k w

  pub step-painted : (i : ℕ) (l : List ℕ)
      → stepped words.screen i (attributes words.tables.paint-attrs words.tables.layer-attrs)
      (words_lent words.tables.rows words.tables.render words.tables.fills words.tables.depth words.tables.painting l)
      ≡ given_out (paint-call i (length l / piece-size) k) l
  unfolding lent_of
  step-painted i l = step_by k w i l
