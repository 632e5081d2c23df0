-- The code's blend as the rules'.
use Rattle.rules.specs.Blends as rule
use Rattle.cmd.specs.declared.blend.Blend.{Blend}

abbrev pub blend_of : Blend → rule.Blend
blend_of b = record { mix = b.mix; compose = b.compose }
