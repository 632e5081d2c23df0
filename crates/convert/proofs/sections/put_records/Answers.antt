use Rattle.std.proofs.Common.{◌≡◌, arith, sym, ◌∙◌}
use Rattle.convert.proofs.Putting.{joined-same, put-record}
use Rattle.convert.proofs.sections.put_records.Goals as goal

pub returns-then-size-new_size : goal.returns-then-size-new_size
returns-then-size-new_size c =
    let same : c.args.new_size ≡ c.args.size = omega arith in
    rw same (c.copy_from_slice.ensures.after ∙ sym (joined-same c.args.size c.args.count c.args.words.now c.requires.long))

pub loop-i-preserved : goal.loop-i-preserved
loop-i-preserved c =
    put-record c.args.size c.args.new_size c.args.count c.args.words.now c.loop-i.out c.loop-i.i c.put_record.new.out c.loop-i.invariant (omega arith) (omega arith) c.put_record.ensures
