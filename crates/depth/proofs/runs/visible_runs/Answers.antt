use Rattle.std.proofs.Common.{sym, ◌∙◌}
use Rattle.depth.proofs.Answering.{tiles-backward, tiles-past, tiles-short, tiles-done}
use Rattle.depth.proofs.runs.visible_runs.Goals as goal
use Rattle.depth.proofs.runs.visible_runs.Goals.{then-span-via-then-span, then-span-via-else-span+then-span-gt-TILE_END}

pub returns-then-span : goal.returns-then-span
returns-then-span c = elim c.then-span.branch [
  | then-span-via-then-span w ↦ tiles-backward _ _ _ _ _ w.if-span.true
  | then-span-via-else-span+then-span-gt-TILE_END w ↦ tiles-past _ _ _ _ _ w.if-span-gt-TILE_END.true
]

pub returns-then-is_short : goal.returns-then-is_short
returns-then-is_short c = tiles-short _ _ _ _ _ c.if-span.false c.if-span-gt-TILE_END.false _ _ c.below-lo.ensures c.met_end-hi.ensures
    (sym c.if-is_short.true ∙ c.is_short.ensures)

pub returns : goal.returns
returns c = tiles-done _ _ _ _ _ c.if-span.false c.if-span-gt-TILE_END.false _ _ c.below-lo.ensures c.met_end-hi.ensures _ _ _
    c.tiles.ensures (sym c.if-is_short.false ∙ c.is_short.ensures) c.list_runs.ensures
