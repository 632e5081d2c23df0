-- So far the lines of the first k depth fills are written.
use Rattle.text.specs.Texts.{Writes}
use Rattle.text.specs.Listed.{depth-lines, text_of}
use Rattle.text.proofs.rows.print_depths.Given as goal

abbrev pub invariant-loop-k : goal.invariant-loop-k
invariant-loop-k l = Writes (text_of (depth-lines l.buckets l.depth_cmds l.k)) l.initial.out l.out
