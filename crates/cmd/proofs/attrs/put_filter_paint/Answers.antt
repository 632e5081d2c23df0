use Rattle.std.proofs.Common.{[], ◌∷◌, ◌*◌, arith, pos, w32, to_z-of_z}
use mir.Facts.{to_z_pos}
use Rattle.cmd.proofs.Tables.{stored}
use Rattle.cmd.proofs.attrs.put_filter_paint.Goals as goal

pub returns : goal.returns
returns c = let xs = c.args.table.now in
    let p = c.args.p in
    let given = c.struct_told-1.given in
    rw (
      to_z_pos w32 {n = p.pixmap} c.requires.2,
      to_z-of_z {w = w32} {z = p.shift_x} (record { sfits = given.1.0.1 }),
      to_z-of_z {w = w32} {z = p.shift_y} (record { sfits = given.1.1.0.1 }),
    )
    (stored xs (4 * c.args.i) (pos 0) (pos p.pixmap ∷ p.shift_x ∷ p.shift_y ∷ []) (omega arith))
