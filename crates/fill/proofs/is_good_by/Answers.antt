-- What is known of the draw are its tests.
use Rattle.std.proofs.Common.{sym, ◌∙◌, eq-eqb}
use Rattle.fill.proofs.Inputs.{fill_at}
use Rattle.fill.proofs.is_good_by.Goals as goal

pub returns-then-this-eq-KNOWN : goal.returns-then-this-eq-KNOWN
returns-then-this-eq-KNOWN g c =
    eq-eqb _ _ c.if-this-eq-KNOWN.true ∙ sym (fill_at c.args.paints.now c.args.segments.now c.args.draw ∙ (c.requires.known c.if-this-eq-KNOWN.true).fill)
