-- The entries' lines, or a refusal's: the rules' text either way.
use Rattle.std.proofs.Common.{◌∙◌, arith}
use Rattle.rect.specs.Rects.{mode_of}
use Rattle.text_list.proofs.Told.{within, text-few, done-text, refused-same, text-told}
use Rattle.text_list.proofs.list_text.Goals as goal

pub print_first-requires-clause-ready : goal.print_first-requires-clause-ready
print_first-requires-clause-ready c = within c.args.tile _ _ _ _ c.in-Ok.ensures.value

pub print_first-requires-clause-within : goal.print_first-requires-clause-within
print_first-requires-clause-within c = omega (arith, text-few c.args.tile _ _ _ _ c.in-Ok.ensures.value c.in-Ok.ensures.list)

pub returns-in-Ok-clause-value : goal.returns-in-Ok-clause-value
returns-in-Ok-clause-value c =
    let a = c.args in
    rw (← (done-text a.tile _ _ _ _ c.in-Ok.ensures.value ∙ text-told a.file.edition (mode_of a.mode) a.width a.file.bytes.now a.row a.tile)) c.print_first.ensures.value

pub returns-in-Ok-clause-out_after : goal.returns-in-Ok-clause-out_after
returns-in-Ok-clause-out_after c =
    let a = c.args in
    rw (← (done-text a.tile _ _ _ _ c.in-Ok.ensures.value ∙ text-told a.file.edition (mode_of a.mode) a.width a.file.bytes.now a.row a.tile)) c.print_first.ensures.out_after

pub returns-in-Err-clause-value : goal.returns-in-Err-clause-value
returns-in-Err-clause-value c =
    let a = c.args in
    rw (← (refused-same a.tile _ _ _ _ c.in-Err.ensures.value ∙ text-told a.file.edition (mode_of a.mode) a.width a.file.bytes.now a.row a.tile)) c.refused_text.ensures.value

pub returns-in-Err-clause-out_after : goal.returns-in-Err-clause-out_after
returns-in-Err-clause-out_after c =
    let a = c.args in
    rw (← (refused-same a.tile _ _ _ _ c.in-Err.ensures.value ∙ text-told a.file.edition (mode_of a.mode) a.width a.file.bytes.now a.row a.tile)) c.refused_text.ensures.out_after
