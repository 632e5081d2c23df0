use Prim.Native.Nat.{◌*◌}
use mathlib.Core.Path.{sym, ap, ◌∙◌}
use Rattle.std.specs.Prelude.{ℕ}
use Rattle.file.proofs.Reading.{reads, paints-width, paints-part}
use Rattle.file.proofs.Heldness.{paint_count}
use Rattle.file.proofs.recording.Recording.paints.Goals as goal

pub returns-clause-read : goal.returns-clause-read
returns-clause-read c =
    let l = c.args.self.now.layout in
    let ws = c.args.self.now.words.now in
    rw (paint_count l ws) (paints-part l ws c.requires ∙ ap (λ r. r.paints) (reads l ws c.requires))

pub returns-clause-long : goal.returns-clause-long
returns-clause-long c =
    let l = c.args.self.now.layout in
    let ws = c.args.self.now.words.now in
    paints-width l ws c.requires ∙ ap (λ (n : ℕ). 4 * n) (sym (paint_count l ws))
