-- Without a clip there is no segment to judge.
use Rattle.std.proofs.Common.{[]}
use Rattle.rules.specs.Recording.{layer-rec}
use Rattle.walk.proofs.Clips.{none-known, clip-known}
use Rattle.walk.proofs.steps.clip_segments.Goals as goal

pub returns-then-layer-ne1 : goal.returns-then-layer-ne1
returns-then-layer-ne1 c = λ r ws g o l k. none-known ws

pub returns : goal.returns
returns c = λ r ws g o l k. clip-known r g o l.0 l.1 ws (l.2 (layer-rec [])) c.if-layer-ne1.false k
