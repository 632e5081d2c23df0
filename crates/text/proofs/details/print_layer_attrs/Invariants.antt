-- So far the lines of the first i layer attributes are written.
use Rattle.std.proofs.Common.{[], ◌∷◌, ℕ}
use Rattle.text.specs.Texts.{Writes}
use Rattle.text.specs.Places.{joined}
use Rattle.text.specs.Bytes.{details-text}
use Rattle.text.specs.Details.{layer-attr-line}
use Rattle.text.specs.Tables.{layer-attr-at}
use Rattle.text.proofs.details.print_layer_attrs.Given as goal

abbrev pub invariant-loop-i : goal.invariant-loop-i
invariant-loop-i l = Writes (details-text l.panels (joined (λ (k : ℕ). layer-attr-line (layer-attr-at l.table l.opacities k) ∷ []) l.i)) l.initial.out l.out
