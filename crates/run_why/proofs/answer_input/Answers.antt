use Rattle.text_programs.specs.Arguments.{wanted_of}
use Rattle.run_why.proofs.Answering.{answer-cut}
use Rattle.run_why.proofs.answer_input.Goals as goal

pub answer_request-requires-clause-cut : goal.answer_request-requires-clause-cut
answer_request-requires-clause-cut g c = answer-cut (wanted_of c.args.want) c.args.ask.question
