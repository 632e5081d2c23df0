use Rattle.std.proofs.Common.{◌≡◌, arith, refl, sym, ◌∙◌, rules}
use Rattle.rules.specs.Conversions.{all-kept}
use Rattle.convert.proofs.Standing.{begin}
use Rattle.convert.proofs.Steps.{there, ends, more, kept-not, kept-still}
use Rattle.convert.proofs.sections.is_kept.Goals as goal

pub loop-k-init : goal.loop-k-init
loop-k-init c = record { stands = rw c.head_length-at.ensures (begin _ _ c.requires); kept = refl }

pub bounds-words-at : goal.bounds-words-at
bounds-words-at c =
    there c.args.to c.loop-k-test.true c.loop-k.invariant.stands c.record_sizes-sizes.ensures c.record_sizes-kept.ensures

pub slice_bounds-is_section_kept-end : goal.slice_bounds-is_section_kept-end
slice_bounds-is_section_kept-end c =
    let e = ends c.args.to c.loop-k-test.true c.loop-k.invariant.stands c.record_sizes-sizes.ensures c.record_sizes-kept.ensures in
    search (rules, e)

pub returns-then-not-is_section_kept : goal.returns-then-not-is_section_kept
returns-then-not-is_section_kept c =
    sym (kept-not c.args.to c.loop-k-test.true c.loop-k.invariant.stands c.record_sizes-sizes.ensures c.record_sizes-kept.ensures (sym c.is_section_kept.ensures ∙ c.if-not-is_section_kept.true))
    ∙ c.loop-k.invariant.kept

pub loop-k-preserved : goal.loop-k-preserved
loop-k-preserved c =
    record {
      stands = more c.args.to c.loop-k-test.true c.loop-k.invariant.stands c.record_sizes-sizes.ensures c.record_sizes-kept.ensures;
      kept = kept-still c.args.to c.loop-k-test.true c.loop-k.invariant.stands c.record_sizes-sizes.ensures c.record_sizes-kept.ensures (sym c.is_section_kept.ensures ∙ c.if-not-is_section_kept.false) ∙ c.loop-k.invariant.kept;
    }

pub returns : goal.returns
unfolding all-kept
returns c =
    let e : c.loop-k.k ≡ 7 = omega arith in
    let g = c.loop-k.invariant.kept in
    rw e at g
