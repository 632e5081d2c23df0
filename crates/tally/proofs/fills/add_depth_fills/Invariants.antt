-- Invariant: the depth fills before place k are added.
use Rattle.std.proofs.Common.{◌-◌, length}
use Rattle.sizes.specs.Sizes.{most-room}
use Rattle.sizes.specs.Widths.{bucket-tiles}
use Rattle.paint.specs.Painting.{depth-fill-at}
use Rattle.paint.specs.Reading.{attrs_of}
use Rattle.compact.specs.Reading.{good-fill}
use Rattle.tally.specs.Counts.{figures-of, depth-kind}
use Rattle.tally.proofs.Adding.{Added}
use Rattle.tally.proofs.fills.add_depth_fills.Given as goal

abbrev pub invariant-loop-k : goal.invariant-loop-k
invariant-loop-k l =
    let a = attrs_of l.fn.attrs in
    Added l.width l.fn.ids (λ k. good-fill a (depth-fill-at (length l.fn.ids) l.fn.depth_cmds k)) (depth-kind (bucket-tiles l.width) a) l.count
    (figures-of l.fn.figures) most-room l.k (figures-of l.figures)

abbrev pub decreases-loop-k : goal.decreases-loop-k
decreases-loop-k l = l.count - l.k
