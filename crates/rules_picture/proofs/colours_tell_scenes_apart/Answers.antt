use Rattle.std.proofs.Common.{refl}
use Rattle.rules.proofs.Computing.{computing}
use Rattle.rules_picture.specs.Colours.{drawn, plain-drawn, turns-drawn}
use Rattle.rules_picture.specs.StoredColours.{commands-drawn}
use Rattle.rules_picture.proofs.colours_tell_scenes_apart.Goals as goal

pub returns-clause-scenes : goal.returns-clause-scenes
unfolding computing drawn plain-drawn turns-drawn
returns-clause-scenes c =
    record {
      all_done = (refl, refl);
      same-list = refl;
      red-gone = (refl, refl);
      red-there = (refl, refl);
      none-logged = (refl, refl);
      one-logged = (refl, refl);
    }

pub returns-clause-needed : goal.returns-clause-needed
unfolding computing drawn plain-drawn turns-drawn
returns-clause-needed c =
    record {
      all_done = (refl, refl);
      first-law = (refl, refl);
      second-law = (refl, refl);
      boxes_done = (refl, refl);
      empty-box = (refl, refl);
      not-its_box = refl;
      own-row = (refl, refl);
      beside = (refl, refl);
      next-row = (refl, refl);
      not-its_row = refl;
    }

pub returns-clause-rows : goal.returns-clause-rows
unfolding computing commands-drawn
returns-clause-rows c =
    record {
      stored = refl;
      same_lists = (refl, refl);
      right-is = refl;
      shared-is = refl;
      emptied-is = refl;
      told-apart = (refl, refl, refl, refl);
    }
