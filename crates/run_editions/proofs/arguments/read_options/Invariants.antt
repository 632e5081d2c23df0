use Rattle.std.proofs.Common.{◌≡◌, length, map, string_bytes}
use Rattle.rect.specs.Rects.{mode_of}
use Rattle.run_editions.specs.Requests.{arguments_after, read_arguments}
use Rattle.run_editions.proofs.arguments.read_options.Given as goal

-- the arguments that are left say what all of them do
abbrev pub invariant-loop-rest : goal.invariant-loop-rest
invariant-loop-rest l = arguments_after (mode_of l.mode) (map string_bytes l.others) ≡ read_arguments (map string_bytes l.args)

abbrev pub decreases-loop-rest : goal.decreases-loop-rest
decreases-loop-rest l = length l.others
