-- By the size of its screen: the tables have its lengths.
use Rattle.screen.specs.Screens.{setup-of}
use Rattle.text.proofs.FileTexts.{sized-shown, refused-shown}
use Rattle.text_files.proofs.file_text.Goals as goal

pub returns-in-Ok : goal.returns-in-Ok
returns-in-Ok c =
    sized-shown c.args.file.edition c.args.file.bytes.now (setup-of c.args.setup) c.args.out.now c.in-Ok.ensures.size c.lend-lent.ensures (rw c.in-Ok.ensures.words at c.recording_text.ensures.text)

pub returns-in-Err : goal.returns-in-Err
returns-in-Err c = refused-shown c.args.file.edition c.args.file.bytes.now (setup-of c.args.setup) c.args.out.now c.in-Err.ensures.size c.no_screen.ensures c.refuse.ensures
