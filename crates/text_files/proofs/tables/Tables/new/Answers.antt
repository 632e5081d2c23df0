-- Each box holds what it was made of.
use Rattle.text_files.proofs.tables.Tables.new.Goals as goal

pub returns : goal.returns
returns c = record {
  render = c.in_ok-new.ensures.ok;
  fills = c.in_ok-new-2.ensures.ok;
  depth = c.in_ok-new-3.ensures.ok;
  minima = c.in_ok-new-4.ensures.ok;
  rows = c.in_ok-new-5.ensures.ok;
  painting = c.in_ok-new-6.ensures.ok;
  layers = c.in_ok-new-7.ensures.ok;
  opacities = c.in_ok-new-8.ensures.ok;
  paint_attrs = c.in_ok-new-9.ensures.ok;
  layer_attrs = c.in_ok-new-10.ensures.ok;
  filter_paints = c.in_ok-new-11.ensures.ok;
}
