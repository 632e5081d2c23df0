use Rattle.std.proofs.Common.{sym, ◌∙◌, rules}
use Rattle.paint.specs.Reading.{attrs_of}
use Rattle.compact.proofs.Newer.{was-done, not-done}
use Rattle.compact.proofs.OneRow.{made, not-made, there, bad-counts, bad-fills, bad-commands, all-done}
use Rattle.compact.proofs.one_row.compact_by.Goals as goal

pub returns-then-not-is_good_counts : goal.returns-then-not-is_good_counts
returns-then-not-is_good_counts c = bad-counts _ _ (attrs_of c.args.attrs.now) _ (sym c.is_good_counts.ensures ∙ c.if-not-is_good_counts.true)

pub returns-then-not-newest_ids : goal.returns-then-not-newest_ids
returns-then-not-newest_ids c =
    bad-fills _ _ (attrs_of c.args.attrs.now) _ (sym c.is_good_counts.ensures ∙ c.if-not-is_good_counts.false)
    (not-made _ _ (not-done _ c.if-not-newest_ids.true c.newest_ids.ensures.newest))

pub returns-then-not-is_good_commands : goal.returns-then-not-is_good_commands
returns-then-not-is_good_commands c =
    bad-commands _ _ (attrs_of c.args.attrs.now) _ (sym c.is_good_counts.ensures ∙ c.if-not-is_good_counts.false)
    (sym c.is_good_commands.ensures ∙ c.if-not-is_good_commands.true)

pub overflow_cast-state-2 : goal.overflow_cast-state-2
overflow_cast-state-2 c = search (rules, c.close_up.ensures.few)

pub returns : goal.returns
returns c =
    let (cs, good) = there _ (sym c.is_good_commands.ensures ∙ c.if-not-is_good_commands.false) in
    all-done _ _ (attrs_of c.args.attrs.now) _ (sym c.is_good_counts.ensures ∙ c.if-not-is_good_counts.false) _
    (made _ _ _ (was-done c.if-not-newest_ids.false c.newest_ids.ensures.newest)) _ _ cs good (c.close_up.ensures.closed cs good)
