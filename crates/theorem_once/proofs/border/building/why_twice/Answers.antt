use Rattle.host.specs.Reasons.{why_call}
use Rattle.theorem_once.proofs.Once.{once}
use Rattle.theorem_once.proofs.border.building.why_twice.Goals as goal

pub returns : goal.returns
returns c =
    let a = c.args in
    λ same. once same (λ w. why_call w.2 a.setup a.question.row a.question.tile a.question.layer a.question.attribute w.0 w.1 w.3) c.coarse_why.ensures.explained c.coarse_why-2.ensures.explained
