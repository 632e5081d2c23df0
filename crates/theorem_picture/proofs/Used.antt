-- What is used of a reached screen is all that is not 0. Assumes nothing.
use Rattle.std.proofs.Common.{◌≡◌, sym, ap, ◌∙◌, List}
use Rattle.rules.specs.Rows.{Row}
use Rattle.rules.specs.Plans.{Frame, Step}
use Rattle.rules.specs.Steps.{Screen}
use Rattle.screen.specs.Tables.{ScreenLent, reset_to}
use Rattle.reuse.specs.Used.{used_reset}
use Rattle.refine_steps.proofs.Used as words
use Rattle.refine_paint.specs.Canvases.{depth-of, painting-of}
use Rattle.theorem_picture.specs.Kept.{UsedResets}
use Rattle.theorem_picture.specs.Standing.{canvas-words}
use Rattle.theorem_picture.proofs.Reached.{reached}
use Rattle.theorem_picture.proofs.Bounded.{frame_kept}

pub used-resets : UsedResets
used-resets f xs l r =
    let z = reached r in
    let k = z.canvas in
    ap used_reset z.same
    ∙ words.used-resets k.screen z.whole.sound k.begun (depth-of k.painters) (painting-of k.painters)
    ∙ ap (λ (g : Frame). reset_to g (canvas-words k)) (frame_kept f xs k.screen z.built)
    ∙ ap (reset_to f) (sym z.same)
