-- So far the first i records are put.
use Rattle.std.proofs.Common.{◌≡◌, ◌*◌, map, take}
use Rattle.rules.specs.Recording.{records}
use Rattle.rules.specs.Conversions.{resized}
use Rattle.convert.specs.Written.{joined}
use Rattle.convert.proofs.sections.put_records.Given as goal

abbrev pub invariant-loop-i : goal.invariant-loop-i
invariant-loop-i l = take (l.new_size * l.i) l.out ≡ joined (map (resized l.new_size) (records l.size l.i l.words))
