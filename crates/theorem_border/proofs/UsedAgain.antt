-- A reset of what is used, by a host, from the same at the words. Assumes nothing.
use Rattle.std.proofs.Common.{◌≡◌, sym, ap, ◌∙◌}
use Rattle.rules.specs.Setups.{frame}
use Rattle.rect.specs.Rects.{box_of}
use Rattle.theorem_picture.proofs.Used.{used-resets}
use Rattle.theorem_border.specs.Hosted.{reset-at, used-at}
use Rattle.theorem_border.specs.UsedAgain.{UsedHosted}
use Rattle.theorem_border.proofs.Words.{hosted, reset-on, used-on}
use Rattle.theorem_border.proofs.Holds.{holds}

pub used-hosted : UsedHosted
used-hosted v w q xs h a y =
    let z = holds y in
    let l = z.words in
    ap used-at z.same
    ∙ used-on l
    ∙ ap hosted (used-resets (frame q (box_of v)) xs l z.reached)
    ∙ sym (reset-on w q a l v)
    ∙ sym (ap (reset-at v w) z.same)
