use Rattle.text_programs.specs.Arguments.{wanted_of}
use Rattle.text_programs.proofs.Cut.{read_done, read_begun}
use Rattle.text_files.specs.Programs.{rowlist-text}
use Rattle.text_files.proofs.Cut.{rowlist-cut, by_reading-cut}
use Rattle.text_files.proofs.Laws.{first_taken}
use Rattle.text_programs.proofs.Outputs.{nothing_begun}
use Rattle.run_rowlist.specs.Printed.{listed}
use Rattle.run_rowlist.proofs.list_in.Goals as goal

pub returns-in_err-n-clause-begun : goal.returns-in_err-n-clause-begun
returns-in_err-n-clause-begun g c = nothing_begun _ _ _

pub returns-clause-ok : goal.returns-clause-ok
returns-clause-ok g c =
    let want = wanted_of c.args.want in
    let text = first_taken _ _ _ _ c.wanted_text-k.ensures.value c.wanted_text-k.ensures.out_after in
    read_done (listed want) (by_reading-cut rowlist-text rowlist-cut want.reading) _ c.requires.0 _ _ _ c.write_text.result _ _ c.in_ok-n.ensures.bytes (rw text at c.write_text.ensures.ok)

pub returns-clause-begun : goal.returns-clause-begun
returns-clause-begun g c =
    let want = wanted_of c.args.want in
    let text = first_taken _ _ _ _ c.wanted_text-k.ensures.value c.wanted_text-k.ensures.out_after in
    read_begun (listed want) (by_reading-cut rowlist-text rowlist-cut want.reading) _ c.requires.0 _ _ _ _ _ c.in_ok-n.ensures.bytes (rw text at c.write_text.ensures.begun)
