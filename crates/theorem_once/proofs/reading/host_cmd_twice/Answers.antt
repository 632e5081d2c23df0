use Rattle.host.specs.Reading.{cmd_call}
use Rattle.theorem_once.proofs.Once.{once}
use Rattle.theorem_once.proofs.reading.host_cmd_twice.Goals as goal

pub returns : goal.returns
returns c = λ same. once same (λ w. cmd_call c.args.row w.1 c.args.number w.0 w.2) c.coarse_render_cmd.ensures c.coarse_render_cmd-2.ensures
