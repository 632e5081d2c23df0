use Rattle.std.proofs.Common.{arith, refl, ◌∙◌, rules, tests}
use Rattle.std.proofs.lemmas.Iterator.{YieldsList-from_range}
use Rattle.std.proofs.lemmas.Iterator.Search.{all_from_yields_List}
use Rattle.rules.specs.Segments.{good-segment}
use Rattle.segments.specs.Segs.{seg-at}
use Rattle.file.proofs.Listed.{lent, segments-tested}
use Rattle.file.proofs.judge.good_segments.Goals as goal

pub returns : goal.returns
returns c =
    let s = c.args.segments in
    all_from_yields_List (λ i. good-segment (seg-at (lent c.args.w.now s.at s.count) i)) _ _ _ c.all.ensures.ran (YieldsList-from_range 0 s.count s.count refl (omega arith)) (λ x b q k. search (rules, tests))
    ∙ segments-tested c.args.w.now s.at s.count (omega arith)
