use Rattle.std.proofs.Common.{◌≡◌, arith, sym, length-append}
use Rattle.rules.specs.Recording.{head, shape, in-edition}
use Rattle.rules.specs.Conversions.{converted, written}
use Rattle.convert.specs.Sections.{sections_of}
use Rattle.convert.proofs.Standing.{begin, head-few}
use Rattle.convert.proofs.Steps.{there, more-counted, counted-next, put-few}
use Rattle.convert.proofs.sections.converted_length.Goals as goal

pub loop-k-init : goal.loop-k-init
loop-k-init c =
    let to = c.args.to in
    record {
      stands = rw c.head_length-at.ensures (begin _ _ c.requires);
      counted = rw c.head_length-length.ensures (sym (length-append (head to) (written (converted (shape to) (sections_of (in-edition c.args.from c.args.words.now))))));
      few = rw c.head_length-length.ensures (head-few to);
    }

pub bounds-words-at : goal.bounds-words-at
bounds-words-at c =
    there c.args.to c.loop-k-test.true c.loop-k.invariant.stands c.record_sizes-old_sizes.ensures c.record_sizes-new_sizes.ensures

pub loop-k-preserved : goal.loop-k-preserved
loop-k-preserved c =
    let m = more-counted c.args.to c.loop-k-test.true c.loop-k.invariant.stands c.record_sizes-old_sizes.ensures c.record_sizes-new_sizes.ensures in
    let g = put-few c.args.to c.loop-k-test.true c.loop-k.invariant.stands c.record_sizes-old_sizes.ensures c.record_sizes-new_sizes.ensures in
    record {
      stands = m;
      counted = counted-next c.args.to c.loop-k-test.true c.loop-k.invariant.stands c.record_sizes-old_sizes.ensures c.record_sizes-new_sizes.ensures _ _ c.loop-k.invariant.counted;
      few = omega (arith, g);
    }

pub returns : goal.returns
unfolding converted
returns c =
    let e : c.loop-k.k ≡ 7 = omega arith in
    let g = c.loop-k.invariant.counted in
    let h = rw e at g in
    omega (arith, h)
