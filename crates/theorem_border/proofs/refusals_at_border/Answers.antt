use Rattle.host.proofs.Refused.{reset-refused, used-refused, fill-refused, push-refused, pop-refused, filter-refused, begin-refused}
use Rattle.host.proofs.Compacted.{compact-refused}
use Rattle.host.proofs.Figured.{figures-refused}
use Rattle.host.proofs.Kept.{step-refused, row-refused, own-row-refused, unset-refused, visible-refused, spans-refused, write-refused, hidden-refused, skip-refused, split-refused}
use Rattle.host.proofs.Sized.{size-refused}
use Rattle.theorem_border.proofs.Why.{why-refused}
use Rattle.theorem_border.proofs.Reading.{lengths-refused, cmd-refused, depth-refused, progress-refused}
use Rattle.theorem_border.proofs.TileLists.{list-tile-refused}
use Rattle.theorem_border.proofs.Conversions.{to-two-refused, to-one-refused}
use Rattle.theorem_border.proofs.refusals_at_border.Goals as goal

pub returns-clause-reset : goal.returns-clause-reset
returns-clause-reset c = reset-refused

pub returns-clause-fill : goal.returns-clause-fill
returns-clause-fill c = fill-refused

pub returns-clause-push_layer : goal.returns-clause-push_layer
returns-clause-push_layer c = push-refused

pub returns-clause-pop_layer : goal.returns-clause-pop_layer
returns-clause-pop_layer c = pop-refused

pub returns-clause-filter_fill : goal.returns-clause-filter_fill
returns-clause-filter_fill c = filter-refused

pub returns-clause-reset_used : goal.returns-clause-reset_used
returns-clause-reset_used c = used-refused

pub returns-clause-begin_painting : goal.returns-clause-begin_painting
returns-clause-begin_painting c = begin-refused

pub returns-clause-compact_row : goal.returns-clause-compact_row
returns-clause-compact_row c = compact-refused

pub returns-clause-paint_step : goal.returns-clause-paint_step
returns-clause-paint_step c = step-refused

pub returns-clause-paint_row : goal.returns-clause-paint_row
returns-clause-paint_row c = row-refused

pub returns-clause-paint_own_row : goal.returns-clause-paint_own_row
returns-clause-paint_own_row c = own-row-refused

pub returns-clause-unset_runs : goal.returns-clause-unset_runs
returns-clause-unset_runs c = unset-refused

pub returns-clause-visible_runs : goal.returns-clause-visible_runs
returns-clause-visible_runs c = λ r t id st d l n. visible-refused r t st d l n id

pub returns-clause-visible_spans : goal.returns-clause-visible_spans
returns-clause-visible_spans c = spans-refused

pub returns-clause-unset_runs_and_write : goal.returns-clause-unset_runs_and_write
returns-clause-unset_runs_and_write c = λ r t id st d l n. write-refused r t st d l n id

pub returns-clause-is_hidden : goal.returns-clause-is_hidden
returns-clause-is_hidden c = hidden-refused

pub returns-clause-can_skip : goal.returns-clause-can_skip
returns-clause-can_skip c = skip-refused

pub returns-clause-row_lengths : goal.returns-clause-row_lengths
returns-clause-row_lengths c = lengths-refused

pub returns-clause-render_cmd : goal.returns-clause-render_cmd
returns-clause-render_cmd c = cmd-refused

pub returns-clause-depth_cmd : goal.returns-clause-depth_cmd
returns-clause-depth_cmd c = depth-refused

pub returns-clause-progress : goal.returns-clause-progress
returns-clause-progress c = progress-refused

pub returns-clause-split_opaque_span : goal.returns-clause-split_opaque_span
returns-clause-split_opaque_span c = split-refused

pub returns-clause-sizes : goal.returns-clause-sizes
returns-clause-sizes c = size-refused

pub returns-clause-why : goal.returns-clause-why
returns-clause-why c = why-refused

pub returns-clause-list_tile : goal.returns-clause-list_tile
returns-clause-list_tile c = list-tile-refused

pub returns-clause-figures : goal.returns-clause-figures
returns-clause-figures c = figures-refused

pub returns-clause-to_edition_two : goal.returns-clause-to_edition_two
returns-clause-to_edition_two c = to-two-refused

pub returns-clause-to_edition_one : goal.returns-clause-to_edition_one
returns-clause-to_edition_one c = to-one-refused
