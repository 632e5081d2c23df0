-- The file's bytes are read, as many as there is room for: what they become the whole file becomes.
use Rattle.std.proofs.Common.{refl}
use Rattle.text_programs.proofs.Outputs.{nothing_begun}
use Rattle.run_editions.proofs.Items.{written-of, begun-of, number-of, none-written, none-begun}
use Rattle.run_editions.proofs.convert_input.Goals as goal

pub returns-in_err-n-clause-begun : goal.returns-in_err-n-clause-begun
returns-in_err-n-clause-begun g c = nothing_begun _ _ _

pub returns-in_err-write_text-in-Ok-clause-begun : goal.returns-in_err-write_text-in-Ok-clause-begun
returns-in_err-write_text-in-Ok-clause-begun g c =
    begun-of c.args.job _ _ _ _ _ c.requires.1 c.in_ok-n.ensures.bytes c.in-Ok.ensures.value _ _ c.in_err-write_text-in-Ok.ensures.begun

pub returns-in_ok-write_text-in-Ok-clause-ok : goal.returns-in_ok-write_text-in-Ok-clause-ok
returns-in_ok-write_text-in-Ok-clause-ok g c =
    written-of c.args.job _ _ _ _ _ c.requires.1 c.in_ok-n.ensures.bytes c.in-Ok.ensures.value _ _ c.in_ok-write_text-in-Ok.ensures.ok

pub returns-in_ok-write_text-in-Ok-clause-number : goal.returns-in_ok-write_text-in-Ok-clause-number
returns-in_ok-write_text-in-Ok-clause-number g c =
    number-of c.args.job _ _ _ _ _ c.requires.1 c.in_ok-n.ensures.bytes c.in-Ok.ensures.value _ refl

pub returns-in_ok-write_text-in-Ok-clause-begun : goal.returns-in_ok-write_text-in-Ok-clause-begun
returns-in_ok-write_text-in-Ok-clause-begun g c =
    begun-of c.args.job _ _ _ _ _ c.requires.1 c.in_ok-n.ensures.bytes c.in-Ok.ensures.value _ _ c.in_ok-write_text-in-Ok.ensures.begun

pub returns-in-Err-clause-ok : goal.returns-in-Err-clause-ok
returns-in-Err-clause-ok g c = written-of c.args.job _ _ _ _ _ c.requires.1 c.in_ok-n.ensures.bytes c.in-Err.ensures.value _ _ (none-written _)

pub returns-in-Err-clause-number : goal.returns-in-Err-clause-number
returns-in-Err-clause-number g c = number-of c.args.job _ _ _ _ _ c.requires.1 c.in_ok-n.ensures.bytes c.in-Err.ensures.value _ refl

pub returns-in-Err-clause-begun : goal.returns-in-Err-clause-begun
returns-in-Err-clause-begun g c = begun-of c.args.job _ _ _ _ _ c.requires.1 c.in_ok-n.ensures.bytes c.in-Err.ensures.value _ _ (none-begun _)
