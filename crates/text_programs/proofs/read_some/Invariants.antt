use Rattle.std.specs.Io.KnownBytes.{Keeps}
use Rattle.text_programs.proofs.read_some.Given as goal

-- failed reads take nothing
abbrev pub invariant-loop : goal.invariant-loop
invariant-loop g l = Keeps (g.R.Read.remaining l.initial.input) (g.R.Read.remaining l.input)
