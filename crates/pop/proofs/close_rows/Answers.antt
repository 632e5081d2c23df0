-- With a clip the LayerFills of its segments, without one a LayerFill on each touched row.
use Rattle.pop.proofs.Doing.{plain-requires, plain_done, clip-requires, clip-done}
use Rattle.pop.proofs.close_rows.Goals as goal

pub close_spans-requires : goal.close_spans-requires
close_spans-requires c =
    let k = c.requires.closing in
    let p = plain-requires c.requires.judged _ k.layer _ _ k.first k.last (rw c.in-None.is at k.clip) _ c.bbox_span.ensures in
    record { whole = p.0; band = p.1; short = p.2; room = p.3 }

pub returns-in-None-clause-rows : goal.returns-in-None-clause-rows
returns-in-None-clause-rows c =
    let k = c.requires.closing in
    plain_done c.requires.judged _ k.layer _ _ k.first k.last (rw c.in-None.is at k.clip) _ c.bbox_span.ensures c.close_spans.ensures.rows

pub close_segments-requires : goal.close_segments-requires
close_segments-requires c =
    let k = c.requires.closing in
    let p = rw c.in-Some.is at k.clip in
    clip-requires c.requires.judged _ k.layer _ _ k.first k.last p.0 p.1 p.2 _ k.parent _ p.3

pub returns-in-Some-clause-rows : goal.returns-in-Some-clause-rows
returns-in-Some-clause-rows c =
    let k = c.requires.closing in
    let p = rw c.in-Some.is at k.clip in
    clip-done c.requires.judged _ k.layer _ _ k.first k.last p.0 p.1 p.2 _ k.parent _ p.3 c.close_segments.ensures.rows
