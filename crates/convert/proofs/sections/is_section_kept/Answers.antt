use Rattle.std.proofs.Common.{◌+◌, ◌-◌, ◌*◌, arith, refl, sym, ◌∙◌, le-leb, take, drop, rules, tests}
use Rattle.std.proofs.lemmas.Iterator.{YieldsList-from_range, serves_from_Range}
use Rattle.std.proofs.lemmas.Iterator.Search.{all_from_yields_List}
use Rattle.rules.specs.Conversions.{keeps}
use Rattle.convert.proofs.Kept.{all-short, every-place, record-within}
use Rattle.convert.proofs.sections.is_section_kept.Goals as goal

pub returns-then-size-kept : goal.returns-then-size-kept
returns-then-size-kept c = le-leb c.args.size c.args.kept c.if-size-kept.true ∙ sym (all-short c.args.size c.args.kept c.args.count c.args.words.now c.if-size-kept.true)

pub all-requires-clause-callable : goal.all-requires-clause-callable
all-requires-clause-callable c =
    serves_from_Range (λ x q k. search (rules, tests))
    (λ x a b.
    let r = record-within c.args.size x c.args.count b in
    search (rules, tests, r))

pub returns-else-size-kept : goal.returns-else-size-kept
returns-else-size-kept c =
    let ws = c.args.words.now in
    let k = c.args.size in
    all_from_yields_List (λ i. keeps c.args.kept (take (k * i + k - k * i) (drop (k * i) ws))) _ _ _ c.all.ensures.ran (YieldsList-from_range 0 c.args.count c.args.count refl (omega arith)) (λ x b q k. search (rules, tests))
    ∙ every-place (keeps c.args.kept) k ws c.args.count
