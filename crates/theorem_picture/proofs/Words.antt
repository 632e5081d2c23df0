-- Every call at the words of a whole canvas is the rules' call: its number, and the words of the rules' canvas afterwards. Assumes nothing.
use Rattle.std.proofs.Common.{◌≡◌, refl, sym, ap, ◌∙◌, Bool, true, false, cond, List, ℕ, ◌/◌, eqb, length, eqb-true}
use Rattle.sizes.specs.Sizes.{piece-size}
use Rattle.rules.specs.Lists.{is-empty}
use Rattle.rules.specs.Answers.{Answer, answer, settle, Done, Open}
use Rattle.rules.specs.Spans.{Span}
use Rattle.rules.specs.Rows.{Row, row-ops}
use Rattle.rules.specs.Plans.{Step}
use Rattle.rules.specs.Steps.{Screen, done, refusal, perform, call}
use Rattle.rules.specs.Calls.{Canvas, Given, step_call, begin-call, paint-call, write-call, blank}
use Rattle.rules.proofs.laws.Maps.{planned}
use Rattle.screen.specs.Depths.{Depths}
use Rattle.walk.specs.Steps.{call_at}
use Rattle.refine_steps.specs.Lent.{screen-of, lent_of}
use Rattle.rules.proofs.laws.Answers.{settle-kept}
use Rattle.refine_steps.proofs.Refined.{stepped}
use Rattle.paint.specs.Painting.{StepOut}
use Rattle.paint.specs.Beginning as painter
use Rattle.paint.specs.DirectRuns.{Wrote}
use Rattle.refine_paint.specs.Canvases.{depth-of, painting-of, given_out, wrote_of, WholeCanvas}
use Rattle.refine_paint.proofs.Painted.{begin-painted, step-painted}
use Rattle.rules_picture.proofs.Turns.{call-screen, call-begun}
use Rattle.refine_paint.proofs.Runs.{write-by, same-standing, same-screen}
use Rattle.theorem_picture.specs.Reached.{with-canvas, begin-at, paint-out, paint-at, write-out, write-at}
use Rattle.theorem_picture.specs.Standing.{canvas-words}

-- other depth and painting words in a screen's words
with-words : (s : Screen Row) (b c : Bool) (de : Depths) (pa : List ℕ) (de' : Depths) (pa' : List ℕ) → with-canvas (lent_of s b de pa) (screen-of s.state c) de' pa' ≡ lent_of s c de' pa'
unfolding lent_of
with-words s b c de pa de' pa' = refl

-- a refused step of the rules alters nothing
refused-same : (x : Step) (s : Screen Row) → eqb (call Row row-ops x s).number Done ≡ false → (call Row row-ops x s).value ≡ s
unfolding call perform
refused-same x s = settle-kept (refusal Row row-ops (planned Row row-ops x s) (done Row row-ops (planned Row row-ops x s) s)) s (done Row row-ops (planned Row row-ops x s) s)

module _ (k : Canvas) (w : WholeCanvas k) where
  -- a building step
  module _ (x : Step) where
    abbrev a : Answer (Screen Row)
    a = call Row row-ops x k.screen

    abbrev after : Canvas
    after = record { screen = a.value; begun = false; painters = k.painters }

    pub step_words : call_at x (canvas-words k) ≡ answer (step_call x k).number (canvas-words (step_call x k).value)
    unfolding step_call
    step_words = stepped x k.screen w.sound k.begun _ _ ∙ go (eqb a.number Done) refl
      where
        go : (b : Bool) → eqb a.number Done ≡ b
            → answer a.number (lent_of a.value (cond b false k.begun) (depth-of k.painters) (painting-of k.painters))
            ≡ answer (cond b (answer Done after) (answer a.number k)).number (canvas-words (cond b (answer Done after) (answer a.number k)).value)
        go true e = rw (eqb-true a.number Done e)
        go false e = rw (refused-same x k.screen e)

  -- beginning to paint
  pub begin-screen : (begin-call k).value.screen ≡ k.screen
  unfolding begin-call
  begin-screen = go (is-empty k.screen.state.layers)
    where
      go : (b : Bool) → (settle (cond b Done Open) k (record { screen = k.screen; begun = true; painters = blank k.screen })).value.screen ≡ k.screen
      go true = refl
      go false = refl

  pub begin-words : begin-at (canvas-words k) ≡ answer (begin-call k).number (canvas-words (begin-call k).value)
  unfolding begin-at
  begin-words =
      let j = (begin-call k).value in
      ap (λ (a : Answer painter.Canvas). answer a.number (with-canvas (canvas-words k) a.value.screen a.value.depth a.value.painting)) (begin-painted k w)
      ∙ ap (answer (begin-call k).number)
      (ap (λ (s : Screen Row). with-canvas (canvas-words k) (screen-of s.state j.begun) (depth-of j.painters) (painting-of j.painters)) begin-screen
      ∙ with-words k.screen k.begun j.begun _ _ _ _
      ∙ ap (λ (s : Screen Row). lent_of s j.begun (depth-of j.painters) (painting-of j.painters)) (sym begin-screen))

  with-screen : (de : Depths) (pa : List ℕ) → with-canvas (canvas-words k) (canvas-words k).screen de pa ≡ lent_of k.screen k.begun de pa
  unfolding lent_of
  with-screen de pa = refl

  with-painting : (b : Bool) (de : Depths)
      → with-canvas (canvas-words k) (screen-of k.screen.state b) de (canvas-words k).tables.painting ≡ lent_of k.screen b de (painting-of k.painters)
  unfolding lent_of
  with-painting b de = refl

  -- a painting step
  module _ (i : ℕ) where
    pub paint-gives : (l : List ℕ) → paint-out i l (canvas-words k) ≡ given_out (paint-call i (length l / piece-size) k) l
    unfolding paint-out
    paint-gives l = step-painted k w i l

    pub paint-words : (l : List ℕ) → paint-at i l (canvas-words k) ≡ canvas-words (paint-call i (length l / piece-size) k).value.canvas
    paint-words l =
        let j = (paint-call i (length l / piece-size) k).value.canvas in
        ap (λ (o : StepOut). with-canvas (canvas-words k) (canvas-words k).screen o.depth o.painting) (paint-gives l)
        ∙ with-screen (depth-of j.painters) (painting-of j.painters)
        ∙ rw (call-screen i (length l / piece-size) k, call-begun i (length l / piece-size) k)

    -- a writing run
    module _ (id : ℕ) (t : Span) (l : List ℕ) where
      abbrev g : Answer (Given (List Span))
      g = write-call id i (length l / 2) t k

      pub write-gives : write-out i id t l (canvas-words k) ≡ wrote_of g l
      unfolding write-out lent_of
      write-gives = write-by k w i id t l

      pub write-words : write-at i id t l (canvas-words k) ≡ canvas-words g.value.canvas
      write-words =
          ap (λ (o : Wrote). with-canvas (canvas-words k) o.screen o.depth (canvas-words k).tables.painting) write-gives
          ∙ ap (λ (s : Screen Row). with-canvas (canvas-words k) (screen-of s.state g.value.canvas.begun) (depth-of g.value.canvas.painters) (canvas-words k).tables.painting) (same-screen k w i id t _)
          ∙ with-painting g.value.canvas.begun (depth-of g.value.canvas.painters)
          ∙ rw (same-screen k w i id t (length l / 2), same-standing k w i id t (length l / 2))
