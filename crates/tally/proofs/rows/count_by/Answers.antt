use Rattle.std.proofs.Common.{ℕ, sym, ◌∙◌, ap, List, get_or}
use Rattle.sizes.specs.Sizes.{renders-at, depths-at}
use Rattle.rules_figures.specs.Figures.{Figures}
use Rattle.paint.specs.Reading.{attrs_of}
use Rattle.compact.proofs.Newer.{was-done, not-done}
use Rattle.compact.proofs.OneRow.{made, not-made, there}
use Rattle.tally.proofs.OneRow.{bad-counts, bad-fills, bad-commands, all-added}
use Rattle.tally.proofs.rows.count_by.Goals as goal

pub returns-then-not-is_good_counts-clause-figures : goal.returns-then-not-is_good_counts-clause-figures
returns-then-not-is_good_counts-clause-figures c =
    c.nothing.ensures ∙ bad-counts _ _ (attrs_of c.args.attrs.now) _ (sym c.is_good_counts.ensures ∙ c.if-not-is_good_counts.true)

pub returns-then-not-newest_ids-clause-figures : goal.returns-then-not-newest_ids-clause-figures
returns-then-not-newest_ids-clause-figures c =
    c.nothing-then-not-newest_ids.ensures
    ∙ bad-fills _ _ (attrs_of c.args.attrs.now) _ (sym c.is_good_counts.ensures ∙ c.if-not-is_good_counts.false)
    (not-made _ _ (not-done _ c.if-not-newest_ids.true c.newest_ids.ensures.newest))

pub returns-then-not-is_good_commands-clause-figures : goal.returns-then-not-is_good_commands-clause-figures
returns-then-not-is_good_commands-clause-figures c =
    c.nothing-then-not-is_good_commands.ensures
    ∙ bad-commands _ _ (attrs_of c.args.attrs.now) _ (sym c.is_good_counts.ensures ∙ c.if-not-is_good_counts.false)
    (sym c.is_good_commands.ensures ∙ c.if-not-is_good_commands.true)

pub returns-clause-figures : goal.returns-clause-figures
returns-clause-figures c =
    let (cs, good) = there _ (sym c.is_good_commands.ensures ∙ c.if-not-is_good_commands.false) in
    let m = made _ _ _ (was-done c.if-not-newest_ids.false c.newest_ids.ensures.newest) in
    let start = ap (λ (g : Figures). begun-as g c.args.state.now) c.nothing-2.ensures in
    let fills = c.add_depth_fills.ensures.added m.from (rw c.newest_ids.ensures.kept m.some) in
    let commands = c.add_commands.ensures.added cs good in
    all-added _ _ (attrs_of c.args.attrs.now) _ (sym c.is_good_counts.ensures ∙ c.if-not-is_good_counts.false) _ m cs good _ _ _ start fills commands
  where
    begun-as : Figures → List ℕ → Figures
    begun-as g ws =
        record {
          asked = g.asked;
          painted = g.painted;
          hidden = g.hidden;
          commands = get_or ws renders-at 0;
          fills = get_or ws depths-at 0;
          refused = g.refused;
        }
