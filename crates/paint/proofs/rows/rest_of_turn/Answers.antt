-- The rest of the row's call comes to the whole call: its turn, or the row is asked again.
use Rattle.std.proofs.Common.{refl, ◌∙◌, ◌*◌, arith, add-zero, ne_eqb}
use Rattle.sizes.proofs.Refusals.{not_done}
use Rattle.sizes.specs.Refusals.{number_of}
use Rattle.paint.specs.InOrder.{row_calls}
use Rattle.paint.proofs.ScreenParts.{ready}
use Rattle.paint.proofs.InOrder.{back-long, rest-more, rest-fits, turn-ends, turn-goes-on}
use Rattle.paint.proofs.rows.rest_of_turn.Goals as goal

pub row_rest-requires-clause-ready : goal.row_rest-requires-clause-ready
row_rest-requires-clause-ready c = ready _ _ _ _ c.requires.ready

pub overflow_add-count : goal.overflow_add-count
overflow_add-count c =
    let e = c.requires.rest in
    record { fits = omega (arith, c.well_formed, rest-fits c.args.screen.now c.args.row c.args.stored.now c.args.canvas.now c.args.list.now c.args.pieces c.args.went e.0 e.3 (omega (arith, c.requires.pieces)) _ _ _ c.row_rest.new.list c.in-Ok.ensures.painted e.1 e.2) }

pub returns-then-done-clause-painted : goal.returns-then-done-clause-painted
returns-then-done-clause-painted c =
    λ g so. turn-ends (row_calls c.args.screen.now c.args.stored.now) c.args.row g _ _ _ _
    (rest-more c.args.screen.now c.args.row c.args.stored.now c.args.canvas.now c.args.list.now c.args.pieces c.args.went g so (omega (arith, c.requires.pieces)) _ _ _ c.row_rest.new.list (rw c.if-done.true at c.in-Ok.ensures.painted)) refl

pub returns-then-done-clause-fits : goal.returns-then-done-clause-fits
returns-then-done-clause-fits c =
    let e = c.requires.rest in
    rest-fits c.args.screen.now c.args.row c.args.stored.now c.args.canvas.now c.args.list.now c.args.pieces c.args.went e.0 e.3 (omega (arith, c.requires.pieces)) _ _ _ c.row_rest.new.list c.in-Ok.ensures.painted e.1 e.2

pub ask_again-requires-clause-pieces : goal.ask_again-requires-clause-pieces
ask_again-requires-clause-pieces c =
    let e = c.requires.rest in
    rw (back-long (7 * c.args.pieces) c.args.list.now c.row_rest.new.list (omega (arith, c.requires.pieces)) c.row_rest.auto.list)
    (rest-fits c.args.screen.now c.args.row c.args.stored.now c.args.canvas.now c.args.list.now c.args.pieces c.args.went e.0 e.3 (omega (arith, c.requires.pieces)) _ _ _ c.row_rest.new.list c.in-Ok.ensures.painted e.1 e.2)

pub returns-in-Err-clause-painted : goal.returns-in-Err-clause-painted
returns-in-Err-clause-painted c =
    λ g so. turn-ends (row_calls c.args.screen.now c.args.stored.now) c.args.row g _ _ _ _
    (rw add-zero at (rest-more c.args.screen.now c.args.row c.args.stored.now c.args.canvas.now c.args.list.now c.args.pieces c.args.went g so (omega (arith, c.requires.pieces)) _ _ _ c.row_rest.new.list c.in-Err.ensures.painted))
    (rw (ne_eqb (number_of c.in-Err.refusal) 0 (not_done c.in-Err.refusal)) refl)

pub returns-else-done-clause-painted : goal.returns-else-done-clause-painted
returns-else-done-clause-painted c =
    λ g so. c.ask_again.ensures.painted
    ∙ turn-goes-on (row_calls c.args.screen.now c.args.stored.now) c.args.row g _ _ _ _
    (rest-more c.args.screen.now c.args.row c.args.stored.now c.args.canvas.now c.args.list.now c.args.pieces c.args.went g so (omega (arith, c.requires.pieces)) _ _ _ c.row_rest.new.list (rw c.if-done.false at c.in-Ok.ensures.painted)) refl
