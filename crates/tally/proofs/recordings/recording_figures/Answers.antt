use Rattle.std.proofs.Common.{sym}
use Rattle.file.specs.Held.{file_of}
use Rattle.screen.specs.Lent.{whole}
use Rattle.screen.specs.Screens.{setup-of}
use Rattle.tally.proofs.Needed.{as-bucketed, as-left}
use Rattle.tally.proofs.recordings.recording_figures.Goals as goal

pub returns-clause-figures : goal.returns-clause-figures
returns-clause-figures c =
    let n = rw (c.needed_words.ensures, c.lengths.ensures) at c.at_most-n.ensures in
    let l = whole c.args.screen.now c.args.lent.now in
    (c.count_in.ensures.counted _ (sym (as-bucketed (file_of c.args.file) (setup-of c.args.setup) l c.at_most-n.result n))).0

pub returns-clause-left : goal.returns-clause-left
returns-clause-left c =
    let n = rw (c.needed_words.ensures, c.lengths.ensures) at c.at_most-n.ensures in
    let l = whole c.args.screen.now c.args.lent.now in
    as-left (file_of c.args.file) (setup-of c.args.setup) l c.at_most-n.result n _
    (c.count_in.ensures.counted _ (sym (as-bucketed (file_of c.args.file) (setup-of c.args.setup) l c.at_most-n.result n))).1
