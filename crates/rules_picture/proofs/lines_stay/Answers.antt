use Rattle.std.proofs.Common.{refl}
use Rattle.rules.proofs.Computing.{computing}
use Rattle.rules_picture.specs.Edited.{none, next}
use Rattle.rules_picture.proofs.Edited.{row-unchanged, line-listed}
use Rattle.rules_picture.proofs.EditedFiles.{line-edited, line-painted}
use Rattle.rules_picture.proofs.lines_stay.Goals as goal

pub returns-clause-histories : goal.returns-clause-histories
returns-clause-histories c = row-unchanged

pub returns-clause-listed : goal.returns-clause-listed
returns-clause-listed c = line-listed

pub returns-clause-recordings : goal.returns-clause-recordings
returns-clause-recordings c = line-edited

pub returns-clause-painted : goal.returns-clause-painted
returns-clause-painted c = line-painted

pub returns-clause-pairs : goal.returns-clause-pairs
unfolding computing
returns-clause-pairs c =
    record {
      edited = record {
        viewport = refl;
        paints = refl;
        draws = next (refl, record { count = refl; own = refl }) (next (refl, record { count = refl; own = refl }) none);
        layers = next (refl, record { count = refl; own = refl }) none;
        nodes = refl;
        start = refl;
        end = refl;
      };
      done = (refl, refl);
      same = record { row = refl; next = refl; attrs = refl };
      same-pieces = refl;
      one-line = refl;
      other-line = refl;
      own-the_same = refl;
      none-held = (refl, refl);
      one_held = (refl, refl);
      before-move = (refl, refl);
      after_move = (refl, refl);
      crowding = record {
        viewport = refl;
        paints = refl;
        draws = next (refl, record { count = refl; own = refl }) none;
        layers = none;
        nodes = refl;
        start = refl;
        end = refl;
      };
      accepted = (refl, refl);
      refused = (refl, refl);
    }
