-- The panel over the banner is an instance of `border-picture`: each of its hypotheses is computed on the words that the host lends, by the
-- definitions that the calls' contracts cite, and the tiles' lists are read off. Assumes nothing.
use Rattle.std.proofs.Common.{arith, ◌≡◌, refl, ◌∙◌, [], ◌∷◌}
use Rattle.rules.specs.Plans.{bucket}
use Rattle.rules.specs.Plain.{plain}
use Rattle.rules.proofs.Computing.{computing}
use Rattle.theorem_border.specs.Hosted.{Hosted, Asks, by-reset, by-fill}
use Rattle.theorem_border.specs.Panel.{screen, words, setup, own-frame, blank, paints, segments, one, with-panel, steps, the-banner, the-panel, CallsDone, PaintsTaken, StepsFinish, MixedFinish, EachTile, Tile40, Tile25, Tile10}
use Rattle.theorem_border.specs.Computing.{on-words}
use Rattle.theorem_border.proofs.Border.{border-picture}

exactly : Asks words setup
unfolding on-words computing
exactly = refl

pub calls-done : CallsDone
unfolding on-words computing
calls-done = record { resets = refl; fills-banner = refl; fills-panel = refl; begins = refl }

pub paints-taken : PaintsTaken
unfolding on-words computing
paints-taken = record { of-banner = refl; of-panel = refl }

pub steps-finish : StepsFinish
unfolding on-words computing
steps-finish = refl

pub mixed-finish : MixedFinish
unfolding on-words computing
mixed-finish = refl

panel-hosted : Hosted own-frame steps with-panel.value
panel-hosted =
    by-fill paints segments (one 1)
    (by-fill paints segments (one 0) (by-reset screen words setup blank exactly calls-done.resets) calls-done.fills-banner)
    calls-done.fills-panel

pub each-tile : EachTile
each-tile t on cs e = border-picture own-frame steps with-panel.value panel-hosted calls-done.begins cs 0 t (omega arith) on e

plain-40 : plain (bucket own-frame) own-frame.viewport 0 40 steps ≡ the-panel ∷ []
unfolding on-words computing
plain-40 = refl

plain-25 : plain (bucket own-frame) own-frame.viewport 0 25 steps ≡ the-banner ∷ the-panel ∷ []
unfolding on-words computing
plain-25 = refl

plain-10 : plain (bucket own-frame) own-frame.viewport 0 10 steps ≡ the-banner ∷ []
unfolding on-words computing
plain-10 = refl

pub tile-40 : Tile40
tile-40 cs e = each-tile 40 (omega arith) cs e ∙ plain-40

pub tile-25 : Tile25
tile-25 cs e = each-tile 25 (omega arith) cs e ∙ plain-25

pub tile-10 : Tile10
tile-10 cs e = each-tile 10 (omega arith) cs e ∙ plain-10
