-- The reset is judged 0, so that the words of depth have their lengths.
use Rattle.screen.specs.Screens.{frame-of}
use Rattle.screen.specs.Tables.{lengths}
use Rattle.screen.specs.Lent.{tables_in}
use Rattle.screen.proofs.Passed.{depth_long}
use Rattle.screen.proofs.lent.Lent.clear.Goals as goal

pub blank_rows-requires-clause-few : goal.blank_rows-requires-clause-few
blank_rows-requires-clause-few c =
    let d = depth_long (frame-of c.args.screen) (lengths (tables_in c.args.self.now)) c.requires.judged in rw (c.rows.ensures, c.buckets.ensures) (d.few, d.narrow)

pub blank_rows-requires-clause-words : goal.blank_rows-requires-clause-words
blank_rows-requires-clause-words c =
    let d = depth_long (frame-of c.args.screen) (lengths (tables_in c.args.self.now)) c.requires.judged in rw (c.rows.ensures, c.buckets.ensures) d.words

pub blank_rows-requires-clause-minima : goal.blank_rows-requires-clause-minima
blank_rows-requires-clause-minima c =
    let d = depth_long (frame-of c.args.screen) (lengths (tables_in c.args.self.now)) c.requires.judged in rw (c.rows.ensures, c.buckets.ensures) d.minima
