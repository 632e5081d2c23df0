-- The steps that one look settles end the row, or the rest of its turn follows.
use Rattle.std.proofs.Common.{refl, sym, ◌*◌}
use Rattle.paint.specs.Named.{step_out}
use Rattle.paint.specs.Painting.{listed}
use Rattle.paint.specs.InOrder.{row_calls}
use Rattle.paint.proofs.ScreenParts.{ready}
use Rattle.paint.proofs.InOrder.{row-more, rest-long, back-long, turn-ends, turn-left}
use Rattle.paint.proofs.rows.turn_row.Goals as goal

pub row_sure-went-requires-clause-ready : goal.row_sure-went-requires-clause-ready
row_sure-went-requires-clause-ready c = ready _ _ _ _ c.requires.ready

pub rest_of_turn-requires-clause-rest : goal.rest_of_turn-requires-clause-rest
rest_of_turn-requires-clause-rest c =
    let long = c.row_sure-went.auto.list in
    let back = back-long (7 * c.args.pieces) c.args.list.now c.row_sure-went.new.list c.requires.pieces long in (
      step_out (listed c.args.pieces) c.args.canvas.now c.args.list.now,
      sym back,
      rw back c.requires.pieces,
      turn-left c.args.screen.now c.args.row c.args.stored.now c.args.canvas.now c.row_sure-went.new.canvas c.args.list.now c.row_sure-went.new.list c.args.pieces c.row_sure-went.result c.requires.ready c.requires.pieces
          (rest-long (7 * c.args.pieces) c.args.list.now c.row_sure-went.new.list c.requires.pieces long) c.row_sure-went.ensures.rest,
    )

pub returns-then-went-clause-painted : goal.returns-then-went-clause-painted
returns-then-went-clause-painted c =
    turn-ends (row_calls c.args.screen.now c.args.stored.now) c.args.row _ _ _ _ _
    (row-more _ _ _ _ _ _ _ _ c.args.list.now c.requires.ready c.args.pieces c.requires.pieces _ _ _ c.row_sure-went.new.list (c.row_sure-went.ensures.ended c.if-went.true)) refl

pub returns-clause-painted : goal.returns-clause-painted
returns-clause-painted c =
    let long = c.row_sure-went.auto.list in
    c.rest_of_turn.ensures.painted (step_out (listed c.args.pieces) c.args.canvas.now c.args.list.now)
    (turn-left c.args.screen.now c.args.row c.args.stored.now c.args.canvas.now c.row_sure-went.new.canvas c.args.list.now c.row_sure-went.new.list c.args.pieces c.row_sure-went.result c.requires.ready c.requires.pieces
    (rest-long (7 * c.args.pieces) c.args.list.now c.row_sure-went.new.list c.requires.pieces long) c.row_sure-went.ensures.rest)
