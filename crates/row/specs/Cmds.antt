-- What a row asks of the fills that it is given: tiles and buckets up to 8,192.
use Rattle.std.specs.Prelude.{◌≤◌}
use Rattle.sizes.specs.Sizes.{tile-end}
use Rattle.rules.specs.Spans.{Span}
use Rattle.std.specs.Prelude.{None, Some}
use Rattle.span.specs.Spans.{tiles}
use Rattle.cmd.specs.declared.command.RenderCmd.{RenderCmd}
use Rattle.cmd.specs.declared.command.RenderCmd.TheVariants.{PaintFill, LayerFill, PushBuf, PopBuf}

abbrev pub Short : Span → Type 0
Short s = (s.first ≤ tile-end) × (s.end ≤ tile-end)

abbrev pub ShortCmd : RenderCmd → Type 0
ShortCmd (PaintFill f) = Short (tiles f.span)
ShortCmd (LayerFill f) = Short (tiles f.span)
ShortCmd (PushBuf None) = Unit
ShortCmd (PushBuf (Some s)) = Short (tiles s)
ShortCmd PopBuf = Unit
