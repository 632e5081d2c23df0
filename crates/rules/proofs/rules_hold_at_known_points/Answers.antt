use Rattle.std.proofs.Common.{refl}
use Rattle.rules.proofs.Computing.{computing}
use Rattle.rules.proofs.rules_hold_at_known_points.Goals as goal

pub returns-clause-points : goal.returns-clause-points
unfolding computing
returns-clause-points c =
    record {
      around = refl;
      within = refl;
      whole = refl;
      one = refl;
      none = refl;
      unset = refl;
      visible = refl;
      hidden = refl;
      spared = refl;
      destroyed = refl;
    }

pub returns-clause-worked : goal.returns-clause-worked
unfolding computing
returns-clause-worked c = record { lines = refl; file = refl; text = refl; attributes = refl; pieces = refl; again = refl }

pub returns-clause-answers : goal.returns-clause-answers
unfolding computing
returns-clause-answers c = refl

pub returns-clause-left : goal.returns-clause-left
unfolding computing
returns-clause-left c = record { recording = refl; paint = refl; write = refl; runs = refl; skip = refl }

pub returns-clause-edges : goal.returns-clause-edges
unfolding computing
returns-clause-edges c = refl

pub returns-clause-summaries : goal.returns-clause-summaries
unfolding computing
returns-clause-summaries c =
    record {
      rooms = refl;
      lengths = refl;
      none = refl;
      one = refl;
      two = refl;
      three = refl;
      five-made = refl;
      questions = refl;
      ranges = refl;
      bucket = refl;
      once = refl;
      both = refl;
      short = refl;
      no-id = refl;
      past = refl;
      found-none = refl;
      of-none = refl;
      afresh = refl;
      largest = refl;
      shown = refl;
      hidden = refl;
      rows = refl;
      row = refl;
      next = refl;
      past-row = refl;
    }

pub returns-clause-compactions : goal.returns-clause-compactions
unfolding computing
returns-clause-compactions c =
    record {
      newest = refl;
      hidden = refl;
      equal-id = refl;
      next-bucket = refl;
      layer = refl;
      width-0 = refl;
      past-row = refl;
      unset = refl;
      all = refl;
      nested = refl;
      neighbours = refl;
      buffer = refl;
      closed = refl;
      in-turn = refl;
      none = refl;
      before = refl;
      after-it = refl;
      rest = refl;
      pieces = refl;
      done = refl;
      again = refl;
      no-row = refl;
      open-layer = refl;
      no-row-first = refl;
    }

pub returns-clause-editions : goal.returns-clause-editions
unfolding computing
returns-clause-editions c =
    record {
      read = refl;
      again = refl;
      first = refl;
      zero = refl;
      paints = refl;
      layers = refl;
      rows = refl;
      apart = refl;
      heads = refl;
      either = refl;
      numbers = refl;
    }

pub returns-clause-conversions : goal.returns-clause-conversions
unfolding computing
returns-clause-conversions c =
    record {
      two = refl;
      one = refl;
      shifts = refl;
      unreached = refl;
      unwalked = refl;
      view = refl;
      panels = refl;
      order = refl;
      forms = refl;
      exacts = refl;
      short = refl;
      full = refl;
      last = refl;
      bytes = refl;
      part = refl;
      items = refl;
    }
