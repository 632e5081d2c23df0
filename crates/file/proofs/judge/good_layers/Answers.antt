use Rattle.std.proofs.Common.{◌+◌, ◌*◌, arith, refl, ◌∙◌, rules, tests}
use Rattle.std.proofs.lemmas.Iterator.{YieldsList-from_range}
use Rattle.std.proofs.lemmas.Iterator.Search.{all_from_yields_List}
use Rattle.sizes.specs.Editions.{layer-size}
use Rattle.file.specs.Places.{layer_from}
use Rattle.file.proofs.Eaches.{each_place}
use Rattle.file.specs.Judging.{layer_fields}
use Rattle.file.proofs.judge.good_layers.Goals as goal

pub returns : goal.returns
returns c =
    let w = c.args.w.now in
    let l = c.args.l in
    let s = l.layers in
    let f = layer_from l.edition in
    let test = layer_fields l.nodes.count l.segments.count in
    all_from_yields_List (λ i. test (f w (s.at + layer-size l.edition * i))) _ _ _ c.all.ensures.ran (YieldsList-from_range 0 s.count s.count refl (omega arith)) (λ x b q k. search (rules, tests))
    ∙ each_place f (layer-size l.edition) w test s.at s.count
