-- What is written of a file is the rules' text.
use Rattle.screen.specs.Screens.{setup-of}
use Rattle.text_files.proofs.Laws.{rowlist-shown, number-shown}
use Rattle.text_files.proofs.list_file.Goals as goal

pub returns-clause-number_value : goal.returns-clause-number_value
returns-clause-number_value c =
    let q = setup-of c.args.setup in
    let f = c.args.file in (
      number-shown f.edition q c.requires.0 f.bytes.now c.args.out.now c.requires.1 c.file_text-text.ensures,
      (rowlist-shown f.edition q c.requires.0 f.bytes.now c.args.out.now c.requires.1 c.file_text-text.ensures).0,
    )

pub returns-clause-out_after : goal.returns-clause-out_after
returns-clause-out_after c =
    let f = c.args.file in
    (rowlist-shown f.edition (setup-of c.args.setup) c.requires.0 f.bytes.now c.args.out.now c.requires.1 c.file_text-text.ensures).1
