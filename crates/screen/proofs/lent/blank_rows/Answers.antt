-- The minima are all 0, or those of the first row are copied.
use Rattle.std.proofs.Common.{arith, ◌<◌}
use Rattle.rules.proofs.laws.Minima.{room-covers}
use Rattle.screen.proofs.Copies.{all-zero-rows, all-zero-none, all-zero, row-first, rows-copied}
use Rattle.screen.proofs.lent.blank_rows.Goals.{then-rows-eq0-via-then-rows-eq0, then-rows-eq0-via-else-rows-eq0+then-buckets-eq0, then-rows-eq0-via-else-rows-eq0+else-buckets-eq0+then-room-buckets}
use Rattle.screen.proofs.lent.blank_rows.Goals as goal

pub returns-then-rows-eq0-clause-minima : goal.returns-then-rows-eq0-clause-minima
returns-then-rows-eq0-clause-minima c =
    let zero = c.fill-then-rows-eq0.ensures.after (λ y h. h) in
    elim c.then-rows-eq0.branch [
      | then-rows-eq0-via-then-rows-eq0 w ↦ all-zero-rows _ _ _ _ c.requires.minima zero w.if-rows-eq0.true
      | then-rows-eq0-via-else-rows-eq0+then-buckets-eq0 w ↦ all-zero-none _ _ _ _ c.requires.minima zero w.if-buckets-eq0.true
      | then-rows-eq0-via-else-rows-eq0+else-buckets-eq0+then-room-buckets w ↦
          all-zero _ _ _ _ c.requires.minima zero (rw c.minima_room-room.ensures at w.if-room-buckets.true)
    ]

pub repeat-requires : goal.repeat-requires
repeat-requires c =
    let room = c.minima_room-room.ensures in
    let covers = room-covers c.args.buckets in
    let some : 0 < c.args.rows = omega (arith, c.if-rows-eq0.false) in
    let zero = c.fill.ensures.after (λ y h. h) in (
      c.args.rows,
      some,
      omega (arith, c.if-buckets-eq0.false),
      rw room (row-first c.args.rows c.args.buckets _ _ _ c.args.minima.now _ some c.requires.words zero c.make.ensures c.requires.minima),
    )

pub returns-clause-minima : goal.returns-clause-minima
returns-clause-minima c =
    let room = c.minima_room-room.ensures in
    let some : 0 < c.args.rows = omega (arith, c.if-rows-eq0.false) in
    let zero = c.fill.ensures.after (λ y h. h) in
    let long = row-first c.args.rows c.args.buckets _ _ _ c.args.minima.now _ some c.requires.words zero c.make.ensures c.requires.minima in
    rows-copied c.args.rows c.args.buckets _ _ _ _ _ some c.requires.words zero c.make.ensures (rw room at (c.repeat.ensures c.args.rows (rw room long)))
