use Rattle.std.specs.Io.KnownBytes.{Keeps}
use Rattle.text_programs.proofs.write_some.Given as goal

-- failed writes leave nothing
abbrev pub invariant-loop : goal.invariant-loop
invariant-loop g l = Keeps (g.W.Write.contents l.initial.output) (g.W.Write.contents l.output)
