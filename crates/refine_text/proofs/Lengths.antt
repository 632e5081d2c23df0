-- How long the lines of rows are at most. Assumes nothing.
use Rattle.std.proofs.Common.{List, [], ◌∷◌, map, ℕ, suc, ◌*◌, ◌≤◌, arith, length, get_or, length-append}
use lib.ListN.{length-map}
use Rattle.rules.specs.Rows.{Row, fresh-row}
use Rattle.rules.specs.Lines.{depth-line, command-line, row-lines}
use Rattle.refine_steps.specs.Sound.{Fitting}
pub use Rattle.text.proofs.Lengths.{plus, digits-few, number-few, alpha-few, line-few}
pub use Rattle.text.proofs.ScreenLengths.{lines-few}

-- the lines of rows with room for 64 commands and 64 depth fills
pub rows_few : (i : ℕ) (rs : List Row) → ((j : ℕ) → Fitting 64 64 (get_or rs j fresh-row)) → length (row-lines i rs) ≤ length rs * 129
rows_few i [] h = omega arith
rows_few i (r ∷ rs) h =
    let a = (h 0).commands in
    let b = (h 0).fills in
    rw (length-append (map depth-line r.fills), length-append (map command-line r.commands), length-map, length-map)
    (omega (arith, a, b, rows_few (suc i) rs (λ j. h (suc j))))
