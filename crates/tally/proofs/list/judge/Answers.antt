use Rattle.std.proofs.Common.{sym, ◌∙◌}
use Rattle.tally.specs.Listed.{listed_of}
use Rattle.tally.proofs.InList.{too-many, bad-ends, no-room, passes}
use Rattle.tally.proofs.list.judge.Goals as goal

pub returns-then-list-gt-MOST_RECORDINGS : goal.returns-then-list-gt-MOST_RECORDINGS
returns-then-list-gt-MOST_RECORDINGS c = too-many (listed_of c.args.list) c.args.table c.if-list-gt-MOST_RECORDINGS.true

pub returns-then-not-is_good_ends : goal.returns-then-not-is_good_ends
returns-then-not-is_good_ends c =
    bad-ends (listed_of c.args.list) c.args.table c.if-list-gt-MOST_RECORDINGS.false (sym c.is_good_ends.ensures ∙ c.if-not-is_good_ends.true)

pub returns-then-table-list : goal.returns-then-table-list
returns-then-table-list c =
    no-room (listed_of c.args.list) c.args.table c.if-list-gt-MOST_RECORDINGS.false (sym c.is_good_ends.ensures ∙ c.if-not-is_good_ends.false) c.if-table-list.true

pub returns : goal.returns
returns c =
    passes (listed_of c.args.list) c.args.table c.if-list-gt-MOST_RECORDINGS.false (sym c.is_good_ends.ensures ∙ c.if-not-is_good_ends.false) c.if-table-list.false
