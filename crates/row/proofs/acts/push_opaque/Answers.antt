-- The span is split at bucket edges: an edge before, a depth fill, an edge after, each put where it is there; a span without a whole bucket is one
-- command.
use Rattle.std.proofs.Common.{rules, sym, ◌∙◌}
use Rattle.row.proofs.ActsLaws.{refused_is, refused_asks, whole_asks, before_asks, buckets_ask, after_asks, pieces_done}
use Rattle.span.specs.Spans.{tiles}
use Rattle.row.proofs.acts.push_opaque.Goals as goal

pub push_paint-requires : goal.push_paint-requires
push_paint-requires g c = refused_asks c.args.width _ _ (tiles c.args.span) c.requires.short _ c.requires.room c.split_opaque_span.ensures c.in_default.is

pub returns-in_default-clause-row : goal.returns-in_default-clause-row
returns-in_default-clause-row g c = c.push_paint.ensures.row ∙ sym (refused_is c.args.width _ _ (tiles c.args.span) c.requires.short _ c.requires.room c.split_opaque_span.ensures c.in_default.is)

pub push_paint-requires-in-Whole : goal.push_paint-requires-in-Whole
push_paint-requires-in-Whole g c = whole_asks c.args.width _ _ (tiles c.args.span) c.requires.short _ c.requires.room c.split_opaque_span.ensures c.in-Ok.is _ c.in-Whole.is

pub push_edge-requires : goal.push_edge-requires
push_edge-requires g c = before_asks c.args.width _ _ (tiles c.args.span) c.requires.short _ c.requires.room c.split_opaque_span.ensures c.in-Ok.is _ _ _ c.in-Opaque.is

pub push_depth_fill-requires : goal.push_depth_fill-requires
push_depth_fill-requires g c = buckets_ask c.args.width _ _ (tiles c.args.span) c.requires.short _ c.requires.room c.split_opaque_span.ensures c.in-Ok.is _ _ _
    c.in-Opaque.is c.push_edge.ensures.row

pub push_edge-requires-in-Opaque : goal.push_edge-requires-in-Opaque
push_edge-requires-in-Opaque g c = after_asks c.args.width _ _ (tiles c.args.span) c.requires.short _ c.requires.room c.split_opaque_span.ensures c.in-Ok.is _ _ _
    c.in-Opaque.is c.push_edge.ensures.row c.push_depth_fill.ensures.row

pub returns-in-Opaque-clause-row : goal.returns-in-Opaque-clause-row
returns-in-Opaque-clause-row g c = search (rules, pieces_done)
