use Rattle.convert.proofs.Putting.{put_whole}
use Rattle.convert.proofs.sections.put_record.Goals as goal

pub returns : goal.returns
returns c =
    put_whole c.min-kept.result c.args.words.now c.args.out.now c.copy_from_slice.new.self c.fill.new.self c.min-kept.ensures c.copy_from_slice.ensures.after (c.fill.ensures.after (λ y h. h))
