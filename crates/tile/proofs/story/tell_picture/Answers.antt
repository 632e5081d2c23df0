-- The call is the rules' filter fill, at the layer's picture and dest box.
use Rattle.std.proofs.Common.{refl}
use Rattle.file.specs.Records.{layer-of}
use Rattle.tile.proofs.Said.{says}
use Rattle.tile.proofs.Records.{dest-small}
use Rattle.tile.proofs.story.tell_picture.Goals as goal

pub tell_filter-requires : goal.tell_filter-requires
tell_filter-requires c =
    let r = c.requires in
    record { spot = r.spot; within = r.within; counts = r.counts; lines = r.lines; dest = dest-small refl r.dest }

pub returns-clause-told : goal.returns-clause-told
returns-clause-told c =
    λ ls o.
    says (c.tell_filter.ensures.told (layer-of c.args.layer).filter ls refl refl o)
