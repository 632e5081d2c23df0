-- The words are stored one after the other; each store keeps the table's length, and together they are the layer's words.
use Rattle.std.proofs.Common.{[], ◌∷◌, ◌*◌, arith}
use Rattle.cmd.proofs.Tables.{stored}
use Rattle.sizes.specs.Sizes.{open-layer-size}
use Rattle.screen.proofs.layers.put_layer.Goals as goal

pub returns : goal.returns
returns c = rw (← c.flat-clip.ensures) (stored c.args.layers.now (open-layer-size * c.args.k) c.args.props.blend.mix
    (c.args.props.blend.compose ∷ c.args.props.mask ∷ c.flat-clip.result.flag ∷ c.flat-clip.result.bbox.x0 ∷
    c.flat-clip.result.bbox.y0 ∷ c.flat-clip.result.bbox.x1 ∷ c.flat-clip.result.bbox.y1 ∷ c.flat-clip.result.start ∷
    c.flat-clip.result.«end» ∷ c.flat-clip.result.thread ∷ c.args.bbox.x0 ∷ c.args.bbox.y0 ∷ c.args.bbox.x1 ∷
    c.args.bbox.y1 ∷ c.args.props.nan ∷ c.args.props.panel ∷ []) (omega arith))
