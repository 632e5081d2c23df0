-- A file of which there is no size is refused; another's tables have the lengths that its screen asks for.
use Rattle.screen.specs.Screens.{setup-of}
use Rattle.text_figures.proofs.Counted.{unsized, sized}
use Rattle.text_figures.proofs.file_figures.Goals as goal

pub returns-in_default-clause-figures : goal.returns-in_default-clause-figures
returns-in_default-clause-figures c =
    unsized c.args.file.edition (setup-of c.args.setup) c.requires.usual c.args.file.bytes.now c.in_default.ensures.size c.one_refused.ensures

pub returns-clause-figures : goal.returns-clause-figures
returns-clause-figures c =
    sized c.args.file.edition (setup-of c.args.setup) c.requires.usual c.args.file.bytes.now c.in-Ok.ensures.size c.lend-lent.ensures c.in-Ok.ensures.words
    c.no_screen-screen.ensures c.recording_figures.ensures.figures
