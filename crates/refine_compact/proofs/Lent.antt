-- .. and so at all the words that are lent with the canvas. Assumes nothing.
use Rattle.std.proofs.Common.{◌≡◌, refl, ap, ◌∙◌, Bool, true, false, not, [], ◌∷◌, ℕ, leb, length}
use Rattle.rules.specs.Lists.{is-empty}
use Rattle.rules.specs.Answers.{Answer, answer, settle, first_of, BadRun, Open}
use Rattle.rules.specs.Calls.{Canvas}
use Rattle.rules.specs.Compacted.{compact-screen, compact-call}
use Rattle.screen.specs.Tables.{ScreenLent}
use Rattle.refine_steps.specs.Lent.{lent_of}
use Rattle.refine_paint.specs.Canvases.{depth-of, painting-of, WholeCanvas}
use Rattle.compact.specs.Call.{Stored}
use Rattle.compact.specs.Lent.{with-stored, compact-at}
use Rattle.refine_compact.proofs.Call.{stored-of, compact-by}

abbrev lent-of : Canvas → ScreenLent
lent-of k = lent_of k.screen k.begun (depth-of k.painters) (painting-of k.painters)

module _ (k : Canvas) (w : WholeCanvas k) (i : ℕ) where
  -- by whether the row is missing, and whether no layer is open
  abbrev by-tests : Bool → Bool → Answer Canvas
  by-tests t b =
      settle (first_of ((t, BadRun) ∷ (not b, Open) ∷ [])) k (record { screen = compact-screen i k.screen; begun = false; painters = k.painters })

  others-stay : (t b : Bool)
      → answer (by-tests t b).number (with-stored (lent-of k) (stored-of (by-tests t b).value)) ≡ answer (by-tests t b).number (lent-of (by-tests t b).value)
  unfolding lent_of
  others-stay true b = refl
  others-stay false false = refl
  others-stay false true = refl

  pub compact-lent : compact-at i (lent_of k.screen k.begun (depth-of k.painters) (painting-of k.painters))
      ≡ (let g = compact-call i k in
      answer g.number (lent_of g.value.screen g.value.begun (depth-of g.value.painters) (painting-of g.value.painters)))
  unfolding compact-at lent_of compact-call
  compact-lent =
      ap (λ (a : Answer Stored). answer a.number (with-stored (lent-of k) a.value)) (compact-by k w i)
      ∙ others-stay (leb (length k.screen.rows) i) (is-empty k.screen.state.layers)
