use mathlib.Core.Path.{ap, ◌∙◌}
use Rattle.file.specs.Judging.{judged}
use Rattle.file.proofs.Reading.{reads}
use Rattle.file.proofs.recording.Recording.judge.Goals as goal

pub returns : goal.returns
returns c = c.judge_records.ensures ∙ ap judged (reads _ _ c.requires)
