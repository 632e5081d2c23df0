use Rattle.rules_picture.proofs.Pixels.{pixels-hide, pixels-gentle, log-hides, log-gentle}
use Rattle.rules_picture.proofs.pixels_and_logs_keep_the_laws.Goals as goal

pub returns-clause-pixels_hide : goal.returns-clause-pixels_hide
returns-clause-pixels_hide c = pixels-hide

pub returns-clause-pixels_gentle : goal.returns-clause-pixels_gentle
returns-clause-pixels_gentle c = pixels-gentle

pub returns-clause-log_hides : goal.returns-clause-log_hides
returns-clause-log_hides c = log-hides

pub returns-clause-log_gentle : goal.returns-clause-log_gentle
returns-clause-log_gentle c = log-gentle
