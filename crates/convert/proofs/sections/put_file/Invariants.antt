-- So far the first k sections are put, and what is lent past them stays.
use Rattle.std.proofs.Common.{◌≡◌, ◌≤◌, ◌++◌, drop, take, length}
use Rattle.rules.specs.Recording.{shape, in-edition}
use Rattle.rules.specs.Conversions.{converted, written}
use Rattle.convert.specs.Sections.{sections_of, file-in}
use Rattle.convert.proofs.Standing.{Standing}
use Rattle.convert.proofs.sections.put_file.Given as goal

abbrev pub invariant-loop-k : goal.invariant-loop-k
invariant-loop-k l =
    let ss = sections_of (in-edition l.fn.from l.words) in
    let rest = written (converted (drop l.k (shape l.fn.to)) (drop l.k ss)) in
    record {
      stands : Standing l.fn.from l.words l.k l.at;
      within : l.put ≤ length l.out;
      done : take l.put l.out ++ rest ≡ file-in l.fn.from l.fn.to l.words;
      stays : drop l.put l.out ≡ drop l.put l.fn.out;
    }
