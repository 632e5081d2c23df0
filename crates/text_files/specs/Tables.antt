-- The programs' tables: they are zeros when they are made.
use Rattle.std.specs.Prelude.{◌≡◌, replicate, pos}
use Rattle.sizes.specs.Sizes.{program-render, program-fills, program-depth, program-minima, program-records, program-painting, open-layer-table, opacity-count, paint-attr-table, layer-attr-table, filter-paint-table}
use Rattle.screen.specs.Tables.{float-0}
use Rattle.text_files.specs.declared.tables.Tables.{Tables}

pub record Zeros (t : Tables) : Type 0 where
  pub render : t.render_cmds.value ≡ replicate program-render 0
  pub fills : t.depth_cmds.value ≡ replicate program-fills 0
  pub depth : t.depth.value ≡ replicate program-depth 0
  pub minima : t.minima.value ≡ replicate program-minima 0
  pub rows : t.rows.value ≡ replicate program-records 0
  pub painting : t.painting.value ≡ replicate program-painting 0
  pub layers : t.layers.value ≡ replicate open-layer-table 0
  pub opacities : t.opacities.value ≡ replicate opacity-count float-0
  pub paint_attrs : t.paint_attrs.value ≡ replicate paint-attr-table 0
  pub layer_attrs : t.layer_attrs.value ≡ replicate layer-attr-table 0
  pub filter_paints : t.filter_paints.value ≡ replicate filter-paint-table (pos 0)
