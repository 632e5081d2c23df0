-- So far the first k sections are counted.
use Rattle.std.proofs.Common.{◌≡◌, ◌≤◌, ◌+◌, ◌*◌, drop, length}
use Rattle.rules.specs.Recording.{shape, in-edition}
use Rattle.rules.specs.Conversions.{converted, written}
use Rattle.convert.specs.Sections.{sections_of, file-in}
use Rattle.convert.proofs.Standing.{Standing}
use Rattle.convert.proofs.sections.converted_length.Given as goal

abbrev pub invariant-loop-k : goal.invariant-loop-k
invariant-loop-k l =
    let ss = sections_of (in-edition l.fn.from l.words) in
    let rest = written (converted (drop l.k (shape l.fn.to)) (drop l.k ss)) in
    record {
      stands : Standing l.fn.from l.words l.k l.at;
      counted : l.length + length rest ≡ length (file-in l.fn.from l.fn.to l.words);
      few : l.length ≤ 2 + 94209 * l.k;
    }
