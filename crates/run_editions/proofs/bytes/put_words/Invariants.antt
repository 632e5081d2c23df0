use Rattle.std.proofs.Common.{◌≡◌, length}
use Rattle.run_editions.proofs.Putting.{Put}
use Rattle.run_editions.proofs.bytes.put_words.Given as goal

-- the words so far stand first
abbrev pub invariant-loop-i : goal.invariant-loop-i
invariant-loop-i l = (length l.out ≡ length l.initial.out) × Put l.words l.initial.out l.i l.out
