use Rattle.std.proofs.Common.{true, length}
use Rattle.screen.specs.Judging.{judged_reset}
use Rattle.screen.specs.Screens.{frame-of, fresh-screen}
use Rattle.screen.specs.Depths.{blank}
use Rattle.screen.specs.Tables.{lengths, zeros, cleared, screen_lent, reset_to}
use Rattle.reuse.specs.Used.{used-cleared, judged_used, used_reset}
use Rattle.paint.specs.Judging.{count, wide, begin_number}
use Rattle.paint.specs.Beginning.{canvas, begun, beginning}
use Rattle.paint.proofs.Kept.{unsettled, step-kept, row-kept, unset-kept, visible-kept, write-kept}
use Rattle.compact.proofs.Call.{compact-kept}
use Rattle.theorem_picture.proofs.refused_calls_change_nothing.Goals as goal

pub returns-clause-resets : goal.returns-clause-resets
unfolding reset_to
returns-clause-resets c = λ f l. unsettled (judged_reset f (lengths l.tables)) l (screen_lent (fresh-screen f) (cleared f l.tables))

pub returns-clause-used : goal.returns-clause-used
unfolding used_reset
returns-clause-used c =
    λ l. unsettled (judged_used l.screen (lengths l.tables)) l (screen_lent (fresh-screen (frame-of l.screen)) (used-cleared l.screen l.tables))

pub returns-clause-begins : goal.returns-clause-begins
unfolding beginning
returns-clause-begins c =
    λ k. unsettled (begin_number k.screen (length k.depth.words) (length k.depth.minima) (length k.painting)) k
    (canvas (begun true k.screen) (blank (count k.screen) (wide k.screen) k.depth) (zeros 0 k.painting))

pub returns-clause-steps : goal.returns-clause-steps
returns-clause-steps c = step-kept

pub returns-clause-rows : goal.returns-clause-rows
returns-clause-rows c = row-kept

pub returns-clause-unset_runs : goal.returns-clause-unset_runs
returns-clause-unset_runs c = unset-kept

pub returns-clause-visible_runs : goal.returns-clause-visible_runs
returns-clause-visible_runs c = visible-kept

pub returns-clause-writes : goal.returns-clause-writes
returns-clause-writes c = write-kept

pub returns-clause-compacts : goal.returns-clause-compacts
returns-clause-compacts c = compact-kept
