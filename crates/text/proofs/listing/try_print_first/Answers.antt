-- An item has at most `most` bytes, or was measured.
use Rattle.std.proofs.Common.{◌≤◌, arith, length}
use Rattle.text.proofs.Leaving.{written-done, written-full}
use Rattle.text.proofs.listing.try_print_first.Goals.{else-out-most-via-then-out-most+else-out-length_of, else-out-most-via-else-out-most}
use Rattle.text.proofs.listing.try_print_first.Goals as goal

pub returns-then-out-length_of : goal.returns-then-out-length_of
returns-then-out-length_of g c = written-full (g.T.Print.printed c.args.item.now) c.args.out.now (omega (arith, c.length_of.ensures))

pub print_first-requires-clause-within : goal.print_first-requires-clause-within
print_first-requires-clause-within g c = elim c.else-out-most.branch [
  | else-out-most-via-then-out-most+else-out-length_of w ↦ omega (arith, w.length_of.ensures)
  | else-out-most-via-else-out-most w ↦ omega arith
]

pub returns : goal.returns
returns g c =
    let fits : length (g.T.Print.printed c.args.item.now) ≤ length c.args.out.now = elim c.else-out-most.branch [
      | else-out-most-via-then-out-most+else-out-length_of w ↦ omega (arith, w.length_of.ensures)
      | else-out-most-via-else-out-most w ↦ omega arith
    ] in
    rw (c.print_first.ensures.value, c.print_first.ensures.out_after) (written-done (g.T.Print.printed c.args.item.now) c.args.out.now fits)
