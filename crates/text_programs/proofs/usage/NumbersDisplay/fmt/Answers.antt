use Rattle.std.proofs.Common.{[], rules, ap, sym, ◌∙◌, flat_map}
use Rattle.std.proofs.lemmas.List.{take_more, flat_map_more}
use Rattle.std.proofs.Output.{has_written_append, has_written_of_eq}
use Rattle.sizes.specs.declared.answers.Refusal.TheVariants.{BadArena}
use Rattle.text_programs.specs.Usages.{refusals, refusal_line}
use Rattle.text_programs.proofs.usage.NumbersDisplay.fmt.Goals as goal

pub loop-refusal-preserved : goal.loop-refusal-preserved
loop-refusal-preserved g c plain =
    has_written_of_eq _ _ _ _ _ (flat_map_more refusal_line [] _ _ ∙ ap (flat_map refusal_line) (sym (take_more refusals c.loop-refusal.refusal-index BadArena c.loop-refusal-test.true)))
    (has_written_append _ _ _ _ _ _ (c.loop-refusal.invariant plain) (search rules))
