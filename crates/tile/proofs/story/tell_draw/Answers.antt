-- The words that are lent hold the recording's paints and segments, so the call at the code's draw is the rules' fill of it.
use Rattle.std.proofs.Common.{arith}
use Rattle.file.specs.Held.{held}
use Rattle.walk.proofs.Draws.{some-draw}
use Rattle.walk.proofs.Lists.{paints-lent}
use Rattle.tile.proofs.Said.{says}
use Rattle.tile.proofs.Records.{range-ends, range-good, draw-is}
use Rattle.tile.proofs.WalkSteps.{draw-told}
use Rattle.tile.proofs.story.tell_draw.Goals as goal

pub is_eligible-eligible-requires : goal.is_eligible-eligible-requires
is_eligible-eligible-requires c =
    let r = held c.args.teller.now.file in
    let k = draw-is r c.requires.ready.walk.good c.args.i c.requires.there (c.draw-draw.ensures some-draw) in
    let paint = k.paint in
    let long = c.paints.ensures.long in
    omega arith

pub tell_fill-requires : goal.tell_fill-requires
tell_fill-requires c =
    let r = held c.args.teller.now.file in
    let ready = c.requires.ready in
    let k = draw-is r ready.walk.good c.args.i c.requires.there (c.draw-draw.ensures some-draw) in
    let read = c.segments.ensures.read in
    let long = c.segments.ensures.long in
    record {
      spot = ready.spotted;
      within = ready.bounded;
      counts = ready.low;
      lines = ready.room;
      run = (k.order, range-ends r _ read long _ _ k.order k.ends, range-good r _ read long _ _ k.order k.ends ready.walk.good);
    }

pub returns-clause-told : goal.returns-clause-told
returns-clause-told c =
    let r = held c.args.teller.now.file in
    let k = draw-is r c.requires.ready.walk.good c.args.i c.requires.there (c.draw-draw.ensures some-draw) in
    λ d ls o.
    rw (← c.draw-draw.ensures d)
    (draw-told c.args.teller.now.spot r k _ _ (paints-lent r _ c.paints.ensures.read c.paints.ensures.long) c.segments.ensures.read c.segments.ensures.long c.args.within _ o
    (says (rw c.is_eligible-eligible.ensures at (c.tell_fill.ensures.told ls o))))
