-- The first line stands first, the file's text after it.
use Rattle.std.proofs.Common.{arith}
use Rattle.text_dump.proofs.Files.{whole-text}
use Rattle.text_dump.proofs.rowdump_text.Goals as goal

pub returns-clause-out_after : goal.returns-clause-out_after
returns-clause-out_after c =
    let line = c.put_recording-k.ensures in
    (whole-text c.args.i _ _ line.value line.out_after c.lines_text-more.ensures.count c.lines_text-more.ensures.bytes (omega arith)).1
