-- The first line stands first, the refusal after it.
use Rattle.std.proofs.Common.{arith}
use Rattle.text_dump.proofs.Files.{whole-text}
use Rattle.text_dump.proofs.no_edition_dump.Goals as goal

pub returns-clause-out_after : goal.returns-clause-out_after
returns-clause-out_after c =
    let line = c.put_recording-k.ensures in
    (whole-text c.args.i _ _ line.value line.out_after c.no_edition_text-more.ensures.value c.no_edition_text-more.ensures.out_after (omega arith)).1
