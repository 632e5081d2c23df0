-- The rows of the box get the fill; then the paint and the attribute are stored at their next places.
use Rattle.std.proofs.Common.{arith}
use Rattle.layers.proofs.Doing.{fine, room, put-paint-needs, put-attrs-needs, rows-needs, counts-needs, leaves}
use Rattle.layers.proofs.filter.draw.Goals as goal

pub filter_paint-paint-requires : goal.filter_paint-paint-requires
filter_paint-paint-requires c = let k = fine c.requires in record { across = k.across; down = k.down; left = k.left; top = k.top }

pub filter_attrs-attrs-requires : goal.filter_attrs-attrs-requires
filter_attrs-attrs-requires c = record { count = (fine c.requires).count; paints = omega (arith, (room c.requires).paint) }

pub put_filter_paint-requires : goal.put_filter_paint-requires
put_filter_paint-requires c = rw (c.filter_paint-paint.ensures, c.unwrap_or-handle.ensures) (put-paint-needs c.requires)

pub put_paint_attrs-requires : goal.put_paint_attrs-requires
put_paint_attrs-requires c = put-attrs-needs c.requires

pub on_rows-requires : goal.on_rows-requires
on_rows-requires c = let p = rows-needs c.requires _ c.bbox_span.ensures in record { asks = λ w. p.0; rows = rw (c.rows.ensures.first, c.rows.ensures.last) p.1 }

pub take_filter-requires : goal.take_filter-requires
take_filter-requires c = let k = counts-needs c.requires in record { ids = k.0; attrs = (k.1, k.2) }

pub returns-clause-drawn : goal.returns-clause-drawn
returns-clause-drawn c =
    rw (c.put_filter_paint.ensures, c.put_paint_attrs.ensures, c.filter_paint-paint.ensures, c.unwrap_or-handle.ensures, c.filter_attrs-attrs.ensures)
    (leaves c.requires _ _ _ c.bbox_span.ensures c.take_filter.ensures (rw (c.rows.ensures.first, c.rows.ensures.last) at c.on_rows.ensures.rows))
