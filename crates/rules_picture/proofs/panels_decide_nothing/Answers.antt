use Rattle.std.proofs.Common.{refl}
use Rattle.rules.proofs.Computing.{computing}
use Rattle.rules_picture.proofs.Panels.{answered-alike, built_alike, panel-blind, painted-alike, told-alike}
use Rattle.rules_picture.proofs.panels_decide_nothing.Goals as goal

pub returns-clause-answered : goal.returns-clause-answered
returns-clause-answered c = answered-alike

pub returns-clause-built : goal.returns-clause-built
returns-clause-built c = built_alike

pub returns-clause-left : goal.returns-clause-left
returns-clause-left c = panel-blind

pub returns-clause-painted : goal.returns-clause-painted
returns-clause-painted c = painted-alike

pub returns-clause-told : goal.returns-clause-told
returns-clause-told c = told-alike

pub returns-clause-two : goal.returns-clause-two
unfolding computing
returns-clause-two c =
    record {
      panels-alone = refl;
      all_done = refl;
      past-255 = refl;
      same_rows = refl;
      same-screen = refl;
      paint-panels = refl;
      layer-panels = refl;
      piece-panels = refl;
      same-pieces = refl;
    }
