-- The words of the file are listed by the rules.
use Rattle.rect.specs.Rects.{mode_of}
use Rattle.text_list.proofs.Told.{some-listed}
use Rattle.text_list.proofs.list_bytes.Goals as goal

pub returns-clause-value : goal.returns-clause-value
returns-clause-value c =
    let a = c.args in
    some-listed a.file.edition (mode_of a.mode) a.width a.file.bytes.now a.row a.tile _ c.in_ok-n.ensures.value _ _ _ c.requires.list c.list_tile.ensures.listed
