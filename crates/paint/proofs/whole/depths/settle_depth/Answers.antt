-- The fill's words are judged, then its attribute, then the room for whatever it may show; it is the row's next step then.
use Rattle.std.proofs.Common.{◌≡◌, refl, sym, ap, ◌∙◌, ◌+◌, ◌-◌, ◌*◌, ◌≤◌, arith, length, leb-true}
use Rattle.sizes.specs.Sizes.{piece-size}
use Rattle.rules.specs.Depth.{write-runs}
use Rattle.span.specs.Spans.{buckets}
use Rattle.cmd.proofs.Tables.{length_at}
use Rattle.paint.specs.Painting.{word}
use Rattle.rules.specs.Lists.{join}
use Rattle.paint.specs.DepthFills.{depth-words}
use Rattle.paint.specs.Scales.{tiles_in}
use Rattle.paint.specs.Reading.{attrs_of}
use Rattle.paint.proofs.Judging.{paint_some}
use Rattle.paint.proofs.Steps.{depth_good}
use Rattle.paint.proofs.DepthFills.{fill-few, written-long}
use Rattle.paint.proofs.Leading.{on-fill, depth-words-long}
use Rattle.paint.proofs.WholeRuns.{onward-none}
use Rattle.paint.proofs.whole.depths.settle_depth.Goals as goal
use Rattle.paint.proofs.whole.depths.settle_depth.Goals.{Else-not-has_room}

pub overflow_sub-most : goal.overflow_sub-most
overflow_sub-most c = (depth_good _ _ _ _ _ (rw c.at-words.ensures at c.read.ensures) c.in-Some.is).0

pub overflow_add-most : goal.overflow_add-most
overflow_add-most c =
    let g = depth_good _ _ _ _ _ (rw c.at-words.ensures at c.read.ensures) c.in-Some.is in
    record { fits = omega (arith, g.1, c.requires.few) }

pub put_depth-requires-clause-good : goal.put_depth-requires-clause-good
put_depth-requires-clause-good c =
    let g = depth_good _ _ _ _ _ (rw c.at-words.ensures at c.read.ensures) c.in-Some.is in
    (g.0, g.1, c.requires.few, paint_some (attrs_of c.args.row.now.attrs) c.in-Some.fill.attrs_idx _ (sym c.paint.ensures ∙ c.in-Some-paint.is))

-- the list has room for the fill's pieces
room : (c : Else-not-has_room)
    → c.args.pieces.now.at + piece-size * length (write-runs c.args.depth.now (buckets c.in-Some.fill.buckets)) ≤ length c.args.pieces.now.list.now
room c =
    let g = depth_good _ _ _ _ _ (rw c.at-words.ensures at c.read.ensures) c.in-Some.is in
    let fits = leb-true _ _ (sym c.has_room.ensures ∙ c.if-not-has_room.false) in
    omega (arith, fill-few c.args.depth.now (buckets c.in-Some.fill.buckets), g.0, fits)

pub put_depth-requires-clause-room : goal.put_depth-requires-clause-room
put_depth-requires-clause-room c = room (goal.at.put_depth-requires-clause-room c).Else-not-has_room

pub returns-clause-long : goal.returns-clause-long
returns-clause-long c =
    let at = (goal.at.returns-clause-long c).Else-not-has_room in
    let put = c.put_depth.ensures in
    let fill = c.in-Some.fill in
    let p = c.args.pieces.now in
    let rs = write-runs c.args.depth.now (buckets fill.buckets) in (
      ap length put.depth ∙ written-long c.in-Some-paint.mark.id (buckets fill.buckets) c.args.depth.now,
      put.long,
      ap length put.list ∙ length_at p.list.now p.at (join (depth-words (tiles_in c.of-scale.result) fill.attrs_idx c.in-Some-paint.mark.panel) rs) (rw depth-words-long (room at)),
    )

pub returns-clause-settled : goal.returns-clause-settled
returns-clause-settled c =
    let at = (goal.at.returns-clause-settled c).Else-not-has_room in
    let put = c.put_depth.ensures in
    let row = c.args.row.now in
    let fill = c.in-Some.fill in
    let p = c.args.pieces.now in
    let d = word row.state.now 1 in
    let here = d - (c.args.k + 1) in
    let place : c.args.k ≡ d - (here + 1) = omega (arith, c.requires.there) in
    let read = (rw place at (rw c.at-words.ensures at c.read.ensures)) in
    λ m h.
    rw (put.minima, put.depth)
    (on-fill _ _ _ _ _ c.requires.calm here m (omega (arith, c.requires.there)) h c.args.depth.now c.args.minima.now fill c.read.result c.in-Some.is read
    c.in-Some-paint.mark (sym c.paint.ensures ∙ c.in-Some-paint.is) _ 0 p.at c.put_depth.new.pieces.at p.list.now c.put_depth.new.pieces.list.now p.whole
    (room at) put.at (rw c.of-scale.ensures at put.list) (d - c.args.k) (omega (arith, c.requires.there)) 1 refl (onward-none _ _))
