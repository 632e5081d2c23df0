-- In the mode that the word says, the conversion's own equation.
use Rattle.rect.specs.Rects.{mode_of}
use Rattle.host.proofs.Conversions.{mode_asked}
use Rattle.host.proofs.editions.coarse_to_edition_two.Goals as goal

pub returns : goal.returns
returns c = mode_asked _ _ _ _ _ (mode_of c.in-Ok.mode) c.in-Ok.ensures _ _ _ _ c.to_edition_two.ensures.converted c.put_count.ensures
