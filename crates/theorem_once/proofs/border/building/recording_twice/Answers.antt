use Rattle.host.specs.Building.{recording_call}
use Rattle.theorem_once.proofs.Once.{once}
use Rattle.theorem_once.proofs.border.building.recording_twice.Goals as goal

pub returns : goal.returns
returns c =
    let a = c.args in
    λ same. once same (λ w. recording_call w.0 a.setup w.1 w.2) c.coarse_bucket_recording.ensures.recorded c.coarse_bucket_recording-2.ensures.recorded
