use Rattle.text.proofs.Joins.{one_of, places-none, places-more}
use Rattle.text.specs.Bytes.{detail-bytes}
use Rattle.text.proofs.DetailsLines.{layer-lines-written}
use Rattle.text.proofs.details.print_layer_attrs.Goals as goal

pub loop-i-init : goal.loop-i-init
loop-i-init c = places-none _ _ _

pub loop-i-preserved : goal.loop-i-preserved
loop-i-preserved c = places-more (detail-bytes _) _ _ c.loop-i.invariant (one_of (detail-bytes _) _ c.print_layer_attr.ensures)

pub returns : goal.returns
returns c = layer-lines-written _ _ _ c.loop-i-test.false c.loop-i.auto.i-end c.args.table.now c.args.opacities.now c.print_heading.ensures c.loop-i.invariant
