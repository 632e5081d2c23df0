use Rattle.text_dump.proofs.Parts.{begun-more}
use Rattle.text_dump.proofs.begun_text.Goals as goal

pub returns-clause-out_after : goal.returns-clause-out_after
returns-clause-out_after c = begun-more _ _ _ _ _ c.rows-n.ensures c.begin_painting.ensures.begun c.rows_text.ensures.out_after
