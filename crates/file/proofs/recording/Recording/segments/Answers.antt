use mathlib.Core.Path.{ap, ◌∙◌}
use native.Mathlib.Omega.{arith}
use lib.ListN.{length-take, length-drop}
use Rattle.file.proofs.Reading.{reads}
use Rattle.file.proofs.Laws.{segments-part}
use Rattle.file.proofs.Heldness.{segment_count}
use Rattle.file.proofs.recording.Recording.segments.Goals as goal

pub returns-clause-read : goal.returns-clause-read
returns-clause-read c =
    let l = c.args.self.now.layout in
    let ws = c.args.self.now.words.now in
    segments-part l ws c.requires ∙ ap (λ r. r.segments) (reads l ws c.requires)

pub returns-clause-long : goal.returns-clause-long
returns-clause-long c =
    let l = c.args.self.now.layout in
    let ws = c.args.self.now.words.now in
    let h = c.requires.segments.ends in
    rw (segment_count l ws) (simp (length-take, length-drop) (omega arith))
