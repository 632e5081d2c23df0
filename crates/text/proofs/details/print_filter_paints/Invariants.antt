-- So far the lines of the first i filter paints are written.
use Rattle.std.proofs.Common.{false, [], ◌∷◌, ℕ}
use Rattle.text.specs.Texts.{Writes}
use Rattle.text.specs.Places.{joined}
use Rattle.text.specs.Bytes.{details-text}
use Rattle.text.specs.Tables.{filter-at}
use Rattle.text.proofs.details.print_filter_paints.Given as goal

abbrev pub invariant-loop-i : goal.invariant-loop-i
invariant-loop-i l = Writes (details-text false (joined (λ (k : ℕ). filter-at l.table k ∷ []) l.i)) l.initial.out l.out
