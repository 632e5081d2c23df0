-- Words that ask for no setup are refused; else the lengths in the setup that they ask for.
use Rattle.screen.specs.Screens.{setup-of}
use Rattle.host.proofs.HostAsked.{sizes_asked}
use Rattle.host.proofs.lengths.coarse_sizes.Goals as goal

pub returns : goal.returns
returns c =
    rw (c.answer_number.ensures, ← c.box_of-viewport.ensures) (sizes_asked _ (setup-of c.in-Ok.asked) c.in-Ok.ensures _ _ c.put_lengths.ensures)
