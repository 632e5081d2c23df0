use Rattle.std.proofs.Common.{[], ◌∷◌, ◌*◌, arith}
use Rattle.sizes.specs.Sizes.{paint-attr-size}
use Rattle.cmd.proofs.Tables.{stored}
use Rattle.cmd.proofs.attrs.put_paint_attrs.Goals as goal

pub returns : goal.returns
returns c = let xs = c.args.table.now in
    let a = c.args.a in
    stored xs (paint-attr-size * c.args.i) a.paint
    (a.blend.mix ∷ a.blend.compose ∷ a.mask ∷ a.draw_id ∷ a.thread_idx ∷ a.origin_x ∷ a.origin_y ∷ a.panel ∷ []) (omega arith)
