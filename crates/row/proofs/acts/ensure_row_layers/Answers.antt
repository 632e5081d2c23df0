use Rattle.std.proofs.Common.{rules}
use Rattle.row.proofs.ActsLaws.{layers_room, layers_again}
use Rattle.row.proofs.acts.ensure_row_layers.Goals as goal

pub push_buf-requires : goal.push_buf-requires
push_buf-requires c = search (rules, layers_room)

pub loop-k-preserved : goal.loop-k-preserved
loop-k-preserved c = search (rules, layers_again)
