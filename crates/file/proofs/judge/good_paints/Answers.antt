use Rattle.std.proofs.Common.{◌+◌, ◌*◌, arith, refl, ◌∙◌, rules, tests}
use Rattle.std.proofs.lemmas.Iterator.{YieldsList-from_range}
use Rattle.std.proofs.lemmas.Iterator.Search.{all_from_yields_List}
use Rattle.rules.specs.Inputs.{good-paint}
use Rattle.file.specs.Places.{paint_from}
use Rattle.file.proofs.Eaches.{each_place}
use Rattle.file.proofs.judge.good_paints.Goals as goal

pub returns : goal.returns
returns c =
    let w = c.args.w.now in
    let s = c.args.paints in
    all_from_yields_List (λ i. good-paint (paint_from w (s.at + 4 * i))) _ _ _ c.all.ensures.ran (YieldsList-from_range 0 s.count s.count refl (omega arith)) (λ x b q k. search (rules, tests))
    ∙ each_place paint_from 4 w good-paint s.at s.count
