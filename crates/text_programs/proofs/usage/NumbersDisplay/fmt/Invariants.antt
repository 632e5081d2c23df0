use Rattle.std.proofs.Common.{take, flat_map}
use Rattle.std.specs.Fmt.{HasWritten, IsPlainFormatter}
use Rattle.text_programs.specs.Usages.{refusals, refusal_line}
use Rattle.text_programs.proofs.usage.NumbersDisplay.fmt.Given as goal

abbrev pub invariant-loop-refusal : goal.invariant-loop-refusal
invariant-loop-refusal g l =
    IsPlainFormatter l.initial.f → HasWritten g.W.Write.write_str_gives l.initial.f (flat_map refusal_line (take l.refusal-index refusals)) l.f
