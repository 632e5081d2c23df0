use Rattle.std.proofs.Common.{◌+◌, ◌*◌, ◌/◌, arith, refl, ◌∙◌, rules, tests, length}
use Rattle.std.proofs.lemmas.Iterator.{YieldsList-from_range, serves_from_Range}
use Rattle.std.proofs.lemmas.Iterator.Search.{all_from_yields_List}
use Rattle.segments.specs.Segs.{segs-of}
use Rattle.sizes.specs.Editions.{layer-size}
use Rattle.file.specs.Places.{layer_from}
use Rattle.file.proofs.Eaches.{each_place, every-at}
use Rattle.file.specs.Judging.{clip_range, clip_ordered}
use Rattle.file.proofs.judge.clips_ordered.Goals as goal

pub all-requires-clause-callable : goal.all-requires-clause-callable
all-requires-clause-callable c =
    serves_from_Range (λ x q k. search (rules, tests))
    (λ x a b.
    let r = every-at (layer_from c.args.l.edition) (layer-size c.args.l.edition) c.args.w.now (clip_range (length c.args.list.now / 5)) c.args.l.layers.at c.args.l.layers.count x b c.requires.ranges in
    search (rules, tests, r))

pub returns : goal.returns
returns c =
    let w = c.args.w.now in
    let l = c.args.l in
    let s = l.layers in
    let f = layer_from l.edition in
    let test = clip_ordered (segs-of c.args.list.now) in
    all_from_yields_List (λ i. test (f w (s.at + layer-size l.edition * i))) _ _ _ c.all.ensures.ran (YieldsList-from_range 0 s.count s.count refl (omega arith)) (λ x b q k. search (rules, tests))
    ∙ each_place f (layer-size l.edition) w test s.at s.count
