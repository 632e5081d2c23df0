-- So far the lines of the first i paint attributes are written.
use Rattle.std.proofs.Common.{[], ◌∷◌, ℕ}
use Rattle.text.specs.Texts.{Writes}
use Rattle.text.specs.Places.{joined}
use Rattle.text.specs.Bytes.{details-text}
use Rattle.text.specs.Details.{paint-attr-line}
use Rattle.text.specs.Tables.{paint-attr-at}
use Rattle.text.proofs.details.print_paint_attrs.Given as goal

abbrev pub invariant-loop-i : goal.invariant-loop-i
invariant-loop-i l = Writes (details-text l.panels (joined (λ (k : ℕ). paint-attr-line (paint-attr-at l.table k) ∷ []) l.i)) l.initial.out l.out
