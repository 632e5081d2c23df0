use Rattle.std.proofs.Common.{false}
use Rattle.text.proofs.Joins.{one_of, places-none, places-more}
use Rattle.text.specs.Bytes.{detail-bytes}
use Rattle.text.proofs.DetailsLines.{filter-lines-written}
use Rattle.text.proofs.details.print_filter_paints.Goals as goal

pub loop-i-init : goal.loop-i-init
loop-i-init c = places-none _ _ _

pub loop-i-preserved : goal.loop-i-preserved
loop-i-preserved c = places-more (detail-bytes false) _ _ c.loop-i.invariant (one_of (detail-bytes false) _ c.print_filter.ensures)

pub returns : goal.returns
returns c = filter-lines-written _ _ _ c.loop-i-test.false c.loop-i.auto.i-end c.args.table.now c.print_heading.ensures c.loop-i.invariant
