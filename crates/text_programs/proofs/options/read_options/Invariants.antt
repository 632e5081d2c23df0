use Rattle.std.proofs.Common.{◌≡◌, length, map, string_bytes}
use Rattle.text_programs.specs.Arguments.{chosen_of, arguments_after, read_arguments}
use Rattle.text_programs.proofs.options.read_options.Given as goal

-- the arguments that are left say what all of them do
abbrev pub invariant-loop-next : goal.invariant-loop-next
invariant-loop-next l =
    arguments_after l.panels_known (chosen_of l.chosen) (map string_bytes l.others)
    ≡ read_arguments l.panels_known (map string_bytes l.args)

abbrev pub decreases-loop-next : goal.decreases-loop-next
decreases-loop-next l = length l.others
