use Rattle.std.proofs.Common.{◌*◌, arith}
use Rattle.sizes.specs.Sizes.{open-layer-size}
use Rattle.screen.proofs.LayersLaws.{dropped}
use Rattle.screen.proofs.layers.drop_layer.Goals as goal

pub returns : goal.returns
returns c = dropped _ _ (open-layer-size * c.args.k) (omega (arith, c.requires)) (c.fill.ensures.after (λ y h. h))
