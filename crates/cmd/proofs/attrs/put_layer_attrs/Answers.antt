use Rattle.std.proofs.Common.{[], ◌∷◌, ◌*◌, arith}
use Rattle.sizes.specs.Sizes.{layer-attr-size}
use Rattle.cmd.proofs.Tables.{stored}
use Rattle.cmd.proofs.attrs.put_layer_attrs.Goals as goal

pub returns : goal.returns
returns c = let xs = c.args.table.now in
    let a = c.args.a in
    rw
    (stored xs (layer-attr-size * c.args.i) a.blend.mix
    (a.blend.compose ∷ a.mask ∷ a.draw_id ∷ a.thread_idx ∷ a.nan ∷ a.panel ∷ []) (omega arith))
