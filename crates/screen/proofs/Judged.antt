-- What the judging definitions say of each way through the code.
use Rattle.std.proofs.Common.{◌≡◌, false}
use Rattle.rules.specs.Boxes.{good_viewport}
use Rattle.rules.specs.Plans.{Frame}
use Rattle.screen.specs.declared.lent.Lengths.{Lengths}
use Rattle.screen.specs.Judging.{judged_reset}

module _ (f : Frame) (l : Lengths) where
  pub reset-bad-viewport : good_viewport f.viewport ≡ false → 2 ≡ judged_reset f l
  unfolding judged_reset
  reset-bad-viewport h = rw h
