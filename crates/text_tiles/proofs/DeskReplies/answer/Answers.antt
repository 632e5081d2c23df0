use Rattle.text_programs.proofs.Streaming.{begins_more}
use Rattle.text_tiles.proofs.Answering.{both_done, both_begun}
use Rattle.text_tiles.proofs.DeskReplies.answer.Goals as goal

pub returns-in_err-print_line-clause-begun : goal.returns-in_err-print_line-clause-begun
returns-in_err-print_line-clause-begun g c = begins_more _ _ _ _ c.in_err-print_line.ensures.begun

pub returns-clause-ok : goal.returns-clause-ok
returns-clause-ok g c =
    both_done _ _ _ _ _ c.in_ok-print_line.ensures.ok c.print_text.result (rw (c.in_ok-print_line.ensures.same, c.place_in.ensures) at c.print_text.ensures.ok)

pub returns-clause-begun : goal.returns-clause-begun
returns-clause-begun g c =
    both_begun _ _ _ _ _ c.in_ok-print_line.ensures.ok (rw (c.in_ok-print_line.ensures.same, c.place_in.ensures) at c.print_text.ensures.begun)
