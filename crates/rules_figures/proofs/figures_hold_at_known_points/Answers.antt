use Rattle.std.proofs.Common.{refl}
use Rattle.rules.proofs.Computing.{computing}
use Rattle.rules_figures.specs.Figures.{sum-to, sum-of, dropped, asked, hidden, painted, total, table}
use Rattle.rules_figures.specs.Recordings.{of-file}
use Rattle.rules_figures.specs.RowFigures.{tiles-painted, tiles-hidden, row-figures, screen-figures}
use Rattle.rules_figures.specs.Lines.{of-bytes, figures-text, recording-line, total-line, list-text}
use Rattle.rules_figures.proofs.figures_hold_at_known_points.Goals as goal

pub returns : goal.returns
unfolding computing sum-to sum-of dropped asked hidden painted total table of-file tiles-painted tiles-hidden row-figures screen-figures of-bytes figures-text recording-line total-line list-text
returns c =
    record {
      told = refl;
      read = refl;
      part = refl;
      bucket = refl;
      same = refl;
      under = refl;
      filter-told = refl;
      filter-read = refl;
      worked-file = refl;
      no-file = refl;
      room = refl;
      no-room = refl;
      none = refl;
      two = refl;
      twice = refl;
      no-text = refl;
      worked-text = refl;
      refused-text = refl;
    }
