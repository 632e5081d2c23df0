-- Judged first; refused, nothing is written. Done, the rows are closed, the layer's properties go to a new attribute, the table's last layer is
-- dropped and the clip box is the one before.
use Rattle.std.proofs.Common.{rules, sym, ◌∙◌}
use Rattle.std.proofs.lemmas.Result.{err_from_is_err_and}
use Rattle.sizes.proofs.Refusals.{not_done}
use Rattle.pop.specs.Named.{pop_lent_of}
use Rattle.pop.proofs.Numbers.{zero-judged, zero-lengths}
use Rattle.pop.proofs.Doing.{deep, ready}
use Rattle.pop.proofs.Popping.{screen-is, pop-out, done-out, refused-out}
use Rattle.pop.proofs.pop_told.Goals as goal

pub returns-in_err-closing-clause-popped : goal.returns-in_err-closing-clause-popped
returns-in_err-closing-clause-popped c =
    let p = err_from_is_err_and c.from_residual.result c.from_residual.ensures.1 in
    rw (p.1, p.2) (refused-out _ _ _ c.in_err-closing.ensures.number (not_done _))

pub do_rows-requires : goal.do_rows-requires
do_rows-requires c = record { judged = zero-judged _ _ _ (sym c.in_ok-closing.ensures.number); closing = c.in_ok-closing.ensures.closing }

pub do_tables-requires : goal.do_tables-requires
do_tables-requires c =
    let z = sym c.in_ok-closing.ensures.number in
    let judged = zero-judged _ _ _ z in
    let lengths = zero-lengths _ _ _ z in record { layer = c.in_ok-closing.ensures.closing.layer; table = lengths.0; opacities = lengths.1; attrs = lengths.2; some = judged.some; deep = deep judged; room = (ready judged).attrs }

pub close_layer-requires : goal.close_layer-requires
close_layer-requires c =
    let judged = zero-judged _ _ _ (sym c.in_ok-closing.ensures.number) in
    record { some = judged.some; ids = (ready judged).ids; attrs = (ready judged).attrs }

pub returns-clause-done : goal.returns-clause-done
returns-clause-done c =
    let l = pop_lent_of c.args.rows.now c.args.layers.now c.args.layer_attrs.now in
    let judged = zero-judged c.args.screen.now l c.args.list.now (sym c.in_ok-closing.ensures.number) in
    let e = pop-out c.args.screen.now l c.args.list.now judged
    (c.close_layer.ensures ∙ screen-is c.args.screen.now l c.args.list.now judged _ c.in_ok-closing.ensures.closing.parent) c.do_rows.ensures.rows
    c.do_tables.ensures.tables in
    search (rules, e)

pub returns-clause-popped : goal.returns-clause-popped
returns-clause-popped c = done-out _ _ _ (sym c.in_ok-closing.ensures.number) (returns-clause-done c)
