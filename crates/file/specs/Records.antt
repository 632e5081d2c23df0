-- The code's layers and nodes as the rules'.
use Rattle.rules.specs.Recording as rule
use Rattle.cmd.specs.Blends.{blend_of}
use Rattle.inputs.specs.Inputs.{clip-of, filter-of}
use Rattle.file.specs.declared.records.Layer.{Layer}
use Rattle.file.specs.declared.records.Node.{Node}

abbrev pub layer-of : Layer → rule.LayerRec
layer-of l =
    record {
      kind = l.kind;
      start = l.start;
      end = l.«end»;
      blend = blend_of l.blend;
      opacity = l.opacity;
      mask = l.mask;
      flag = l.flag;
      clip = clip-of l.clip;
      filter = filter-of l.filter;
      panel = l.panel;
    }

abbrev pub node-of : Node → rule.Node
node-of n = record { start = n.start; end = n.«end»; layer = n.layer }
