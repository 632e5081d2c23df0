use Rattle.paint.specs.Reading.{attrs_of}
use Rattle.row.specs.Words.{words}
use Rattle.compact.proofs.InPlace.{in-place}
use Rattle.compact.proofs.compact_part.Goals as goal

pub returns-clause-part : goal.returns-clause-part
returns-clause-part c =
    let a = c.args in
    in-place a.screen a.row (attrs_of a.attrs.now) (words a.state.now a.render_cmds.now a.depth_cmds.now) c.requires c.place_of-p.result c.place_of-p.ensures _ c.buckets.ensures
    c.compact_words.result _ _ c.compact_words.ensures
