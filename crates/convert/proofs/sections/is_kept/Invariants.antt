-- So far nothing but 0 is cut away.
use Rattle.std.proofs.Common.{◌≡◌, drop}
use Rattle.rules.specs.Recording.{shape, in-edition}
use Rattle.rules.specs.Conversions.{all-kept}
use Rattle.convert.specs.Sections.{sections_of}
use Rattle.convert.proofs.Standing.{Standing}
use Rattle.convert.proofs.sections.is_kept.Given as goal

abbrev pub invariant-loop-k : goal.invariant-loop-k
invariant-loop-k l =
    let ss = sections_of (in-edition l.fn.from l.words) in
    record { stands : Standing l.fn.from l.words l.k l.at; kept : all-kept (drop l.k (shape l.fn.to)) (drop l.k ss) ≡ all-kept (shape l.fn.to) ss }
