-- Clearing goes by the frame and the lengths alone.
use Rattle.std.proofs.Common.{◌≡◌, ap, replicate, pos}
use Rattle.rules.specs.Boxes.{rows_of}
use Rattle.rules.specs.Plans.{Frame, buckets-across}
use Rattle.screen.specs.declared.lent.Lengths.{Lengths}
use Rattle.screen.specs.Depths.{depths, blank-minima}
use Rattle.screen.specs.Tables.{Tables, tables, lengths, float-0, cleared}

cleared-by : Frame → Lengths → Tables
cleared-by f n =
    tables (replicate n.render_cmds 0) (replicate n.depth_cmds 0) (depths (replicate n.depth 0) (blank-minima (rows_of f.viewport) (buckets-across f)))
    (replicate n.rows 0)
    (replicate n.painting 0)
    (replicate n.layers 0)
    (replicate n.opacities float-0)
    (replicate n.paint_attrs 0)
    (replicate n.layer_attrs 0)
    (replicate n.filter_paints (pos 0))

pub same-cleared : (f : Frame) (t u : Tables) → lengths t ≡ lengths u → cleared f t ≡ cleared f u
unfolding cleared-by
same-cleared f t u e = ap (cleared-by f) e
