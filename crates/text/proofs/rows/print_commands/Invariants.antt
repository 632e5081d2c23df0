-- So far the lines of the first k commands are written.
use Rattle.text.specs.Texts.{Writes}
use Rattle.text.specs.Listed.{command-lines, text_of}
use Rattle.text.proofs.rows.print_commands.Given as goal

abbrev pub invariant-loop-k : goal.invariant-loop-k
invariant-loop-k l = Writes (text_of (command-lines l.render_cmds l.k)) l.initial.out l.out
