use Rattle.std.proofs.Common.{refl, arith}
use Rattle.file.proofs.Bytes.{put_next}
use Rattle.file.specs.Each.{each}
use Rattle.file.specs.Words.{word_from}
use Rattle.file.proofs.form.words_of_bytes.Goals as goal

pub loop-i-init : goal.loop-i-init
unfolding each
loop-i-init c = (omega arith, refl)

pub loop-i-preserved : goal.loop-i-preserved
unfolding word_from
loop-i-preserved c = (omega arith, put_next _ _ _ _ c.loop-i.invariant.1 _ (omega arith) (omega (arith, c.from_le_bytes.ensures)))
