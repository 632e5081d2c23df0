use Rattle.text_list.proofs.Told.{width-told}
use Rattle.text_list.proofs.no_width_text.Goals as goal

pub returns-clause-value : goal.returns-clause-value
returns-clause-value c =
    let f = c.args.file in
    rw (c.no_width_refusal.ensures.value, width-told f.edition f.bytes.now) at c.refused_text.ensures.value

pub returns-clause-out_after : goal.returns-clause-out_after
returns-clause-out_after c =
    let f = c.args.file in
    rw (c.no_width_refusal.ensures.value, width-told f.edition f.bytes.now) at c.refused_text.ensures.out_after
