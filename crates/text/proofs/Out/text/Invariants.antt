-- So far the first bytes are written.
use Rattle.std.proofs.Common.{take}
use Rattle.text.specs.Texts.{Writes}
use Rattle.text.proofs.Out.text.Given as goal

abbrev pub invariant-loop-b : goal.invariant-loop-b
invariant-loop-b l = Writes (take l.b-index l.s) l.initial.self l.self
