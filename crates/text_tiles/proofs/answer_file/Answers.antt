use Rattle.text_programs.proofs.Outputs.{nothing_begun}
use Rattle.text_tiles.proofs.answer_file.Goals as goal

pub returns-in_err-n-clause-begun : goal.returns-in_err-n-clause-begun
returns-in_err-n-clause-begun g c = nothing_begun _ _ _
