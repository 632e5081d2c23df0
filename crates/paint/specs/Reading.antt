-- What is read of a row, as the rules' attributes.
use Rattle.std.specs.Prelude.{ℕ, Option}
use Rattle.rules.specs.Attributes.{Attrs}
use Rattle.rules.specs.Painting.{paint-id, paint-panel, layer-id, layer-panel}
use Rattle.cmd.specs.Reading.{only_if}
use Rattle.paint.specs.declared.command.reading.Attributes.{Attributes}
use Rattle.paint.specs.declared.command.marks.Mark.{Mark}
use Rattle.paint.specs.Painting.{attrs-at, good-paint, good-layer}

abbrev pub attrs_of : Attributes → Attrs
attrs_of a = attrs-at a.paint_attrs.now a.paints a.layer_attrs.now a.layers

abbrev pub mark : ℕ → ℕ → Mark
mark id panel = record { id = id; panel = panel }

-- what the attribute at a place says, if it is there and good
abbrev pub paint_mark : Attrs → ℕ → Option Mark
paint_mark a i = only_if (good-paint a i) (mark (paint-id a i) (paint-panel a i))

abbrev pub layer_mark : Attrs → ℕ → Option Mark
layer_mark a i = only_if (good-layer a i) (mark (layer-id a i) (layer-panel a i))
