-- What the bytes become, or the refusal, as an item.
use Rattle.std.proofs.Common.{◌∙◌, arith}
use Rattle.run_editions.proofs.Items.{item-done, item-refused}
use Rattle.run_editions.proofs.conversion.item_text.Goals as goal

pub returns-in-Ok-clause-value : goal.returns-in-Ok-clause-value
returns-in-Ok-clause-value c = let few = c.in-Ok.ensures.within in c.put_item.ensures.value ∙ item-done _ _ _ (omega arith) c.in-Ok.ensures.value

pub returns-in-Err-clause-value : goal.returns-in-Err-clause-value
returns-in-Err-clause-value c = c.put_refusal.ensures.value ∙ item-refused _ _ c.in-Err.ensures.value
