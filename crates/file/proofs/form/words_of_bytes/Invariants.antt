-- So far the first i words are made of their four bytes each.
use Rattle.std.proofs.Common.{◌≤◌, ◌-◌, ◌/◌, length}
use Rattle.file.proofs.Bytes.{Put}
use Rattle.file.proofs.form.words_of_bytes.Given as goal

abbrev pub invariant-loop-i : goal.invariant-loop-i
invariant-loop-i l = (l.i ≤ length l.bytes / 4) × Put l.bytes l.initial.words l.i l.words

abbrev pub decreases-loop-i : goal.decreases-loop-i
decreases-loop-i l = length l.bytes / 4 - l.i
