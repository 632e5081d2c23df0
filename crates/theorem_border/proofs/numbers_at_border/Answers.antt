use Rattle.std.proofs.Common.{sym, ap, ◌∙◌, true, ◌&&◌, leb, eqb, length}
use Rattle.sizes.specs.Refusals.{number_of}
use Rattle.rules.specs.Recording.{File}
use Rattle.rules.specs.Setups.{Setup, frame}
use Rattle.rules.proofs.laws.Answers.{settle-number}
use Rattle.rect.specs.Rects.{box_of}
use Rattle.screen.specs.declared.Screen.{Screen}
use Rattle.screen.specs.Tables.{screen_lent, reset_to}
use Rattle.fill.specs.Fills as fills
use Rattle.fill.specs.Fills.{filled}
use Rattle.layers.specs.Push as push
use Rattle.layers.specs.Push.{pushed}
use Rattle.layers.specs.Filter as filter
use Rattle.layers.specs.Filter.{filtered}
use Rattle.pop.specs.Pop.{popped}
use Rattle.walk.specs.Recorded.{recorded}
use Rattle.tile.specs.Explained.{explained}
use Rattle.depth.specs.SpanLists as spans
use Rattle.paint.specs.Beginning.{canvas, beginning}
use Rattle.paint.specs.Stepping.{stepped}
use Rattle.paint.specs.Running.{row-painted}
use Rattle.paint.specs.OwnRow.{own-row-painted}
use Rattle.paint.specs.DirectRuns.{unset-of, visible-of, write-of, hidden-of-row, skip-of-row}
use Rattle.compact.specs.Call.{stored, compacting}
use Rattle.tally.specs.Listed.{figured}
use Rattle.host.specs.Compacted.{compact-left, compact_call}
use Rattle.host.specs.Figured.{figures-left, figures_in, figures_asked, listed-in, figures_call}
use Rattle.host.specs.State.{screen-at, before_4}
use Rattle.host.specs.Asked.{asked_setup, told_file}
use Rattle.host.specs.Border.{unasked_number}
use Rattle.host.specs.Reasons.{reason-words, reason-size, asked, why-left, why_in, why_asked, why_call}
use Rattle.host.specs.Results.{skip-left}
use Rattle.reuse.specs.Used.{used_reset}
use Rattle.host.specs.Building.{tables-left, reset_in, reset_call, used_call, recording_in, recording_asked, recording_call, fill-left, fill_call, push-left, push_call, pop-left, pop_call, filter-left, filter_call}
use Rattle.host.specs.Painting.{begin-left, begin_call, step_left, step_call, row_call, own_row_call, runs-left, unset_call, visible_call, write-left, write_call, hidden_call, skip_call}
use Rattle.host.specs.Spans.{runs_of, spans-left, spans_call}
use Rattle.theorem_border.proofs.Numbers.{kept-on, kept_in}
use Rattle.theorem_border.proofs.Reading.{lengths-keeps, cmd-keeps, depth-keeps, progress-keeps}
use Rattle.theorem_border.proofs.numbers_at_border.Goals as goal

pub returns-clause-reset : goal.returns-clause-reset
unfolding reset_call reset_in
returns-clause-reset c = λ v w q st t a long. kept_in (asked_setup w) q number_of (st, t) (λ (q : Setup). reset_in v q st t) _ a
    (kept-on true st (st, t) (λ (s : Screen). tables-left (reset_to (frame q (box_of v)) (screen_lent s t))) long)

pub returns-clause-bucket_recording : goal.returns-clause-bucket_recording
unfolding recording_call recording_asked recording_in
returns-clause-bucket_recording c = λ f file w q st t y a long.
    kept_in (told_file f) file number_of (st, t) (λ (file : File). recording_asked file w st t) _ y
    (kept_in (asked_setup w) q (unasked_number file) (st, t) (λ (q : Setup). recording_in file q st t) _ a
    (kept-on true st (st, t) (λ (s : Screen). tables-left (recorded file q (screen_lent s t))) long))

pub returns-clause-why : goal.returns-clause-why
unfolding why_call why_asked why_in
returns-clause-why c = λ f file w q row tile layer attribute st t res y a long. let z = asked layer attribute in
    let e = explained file q row tile z (screen_lent (screen-at st) t) in
    kept_in (told_file f) file number_of (st, t, res) (λ (file : File). why_asked file w row tile layer attribute st t res) e.number y
    (kept_in (asked_setup w) q (unasked_number file) (st, t, res) (λ (q : Setup). why_in file q row tile layer attribute st t res) e.number a
    (sym (ap before_4 (settle-number e.number res (reason-words e.reason)))
    ∙ kept-on (leb layer 1 && eqb (length res) reason-size) st (st, t, res) (λ (s : Screen). why-left res (explained file q row tile z (screen_lent s t))) long))

pub returns-clause-figures : goal.returns-clause-figures
unfolding figures_call figures_asked figures_in
returns-clause-figures c = λ f file es w q st t ns y a long. let l = listed-in file es in
    kept_in (told_file f) file number_of (st, t, ns) (λ (file : File). figures_asked (listed-in file es) w st t ns) _ y
    (kept_in (asked_setup w) q number_of (st, t, ns) (λ (q : Setup). figures_in l q st t ns) _ a
    (kept-on true st (st, t, ns) (λ (s : Screen). figures-left (figured l q (screen_lent s t) ns)) long))

pub returns-clause-fill : goal.returns-clause-fill
unfolding fill_call
returns-clause-fill c = λ ps ss d st w pas long. kept-on true st (st, w, pas) (λ (s : Screen). fill-left (filled (fills.fill_lent s w pas) ps ss d)) long

pub returns-clause-push_layer : goal.returns-clause-push_layer
unfolding push_call
returns-clause-push_layer c = λ flag p st w ls os long. kept-on (leb flag 1) st (st, w, ls, os) (λ (s : Screen). push-left (pushed p (push.push_lent s w ls os))) long

pub returns-clause-pop_layer : goal.returns-clause-pop_layer
unfolding pop_call
returns-clause-pop_layer c = λ ss st l long. kept-on true st (st, l) (λ (s : Screen). pop-left (popped s l ss)) long

pub returns-clause-filter_fill : goal.returns-clause-filter_fill
unfolding filter_call
returns-clause-filter_fill c = λ flag g st w pas fps long. kept-on (leb flag 1) st (st, w, pas, fps) (λ (s : Screen). filter-left (filtered g (filter.filter_lent s w pas fps))) long

pub returns-clause-reset_used : goal.returns-clause-reset_used
unfolding used_call
returns-clause-reset_used c = λ st t long. kept-on true st (st, t) (λ (s : Screen). tables-left (used_reset (screen_lent s t))) long

pub returns-clause-begin_painting : goal.returns-clause-begin_painting
unfolding begin_call
returns-clause-begin_painting c = λ st d p long. kept-on true st (st, d, p) (λ (s : Screen). begin-left (beginning (canvas s d p))) long

pub returns-clause-compact_row : goal.returns-clause-compact_row
unfolding compact_call
returns-clause-compact_row c = λ r a st w long. kept-on true st (st, w) (λ (s : Screen). compact-left (compacting r a (stored s w))) long

pub returns-clause-paint_step : goal.returns-clause-paint_step
unfolding step_call
returns-clause-paint_step c = λ r a st l res long. kept-on (eqb (length res) 2) st (l.depth, l.painting, l.list, res) (λ (s : Screen). step_left res (stepped s r a l)) long

pub returns-clause-paint_row : goal.returns-clause-paint_row
unfolding row_call
returns-clause-paint_row c = λ r a st l res long. kept-on (eqb (length res) 2) st (l.depth, l.painting, l.list, res) (λ (s : Screen). step_left res (row-painted s r a l)) long

pub returns-clause-paint_own_row : goal.returns-clause-paint_own_row
unfolding own_row_call
returns-clause-paint_own_row c = λ a st l res long. kept-on (eqb (length res) 2) st (l.depth, l.painting, l.list, res) (λ (s : Screen). step_left res (own-row-painted s a l)) long

pub returns-clause-unset_runs : goal.returns-clause-unset_runs
unfolding unset_call
returns-clause-unset_runs c = λ r t st d l n long. kept-on (eqb (length n) 1) st (l, n) (λ (s : Screen). runs-left n (unset-of s r d t l)) long

pub returns-clause-visible_runs : goal.returns-clause-visible_runs
unfolding visible_call
returns-clause-visible_runs c = λ r t id st d l n long. kept-on (eqb (length n) 1) st (l, n) (λ (s : Screen). runs-left n (visible-of s r d t id l)) long

pub returns-clause-visible_spans : goal.returns-clause-visible_spans
unfolding spans_call spans.listing
returns-clause-visible_spans c = λ r t id st d l n long. kept-on (eqb (length n) 1) st (l, n) (λ (s : Screen). spans-left n (spans.listing (runs_of s r d t id (length l)) l)) long

pub returns-clause-unset_runs_and_write : goal.returns-clause-unset_runs_and_write
unfolding write_call
returns-clause-unset_runs_and_write c = λ r t id st d l n long. kept-on (eqb (length n) 1) st (st, d, l, n) (λ (s : Screen). write-left n (write-of s r d id t l)) long

pub returns-clause-is_hidden : goal.returns-clause-is_hidden
unfolding hidden_call
returns-clause-is_hidden c = λ r t id st ms old long. kept-on (eqb (length old) 1) st old (λ (s : Screen). skip-left old (hidden-of-row s r ms t id)) long

pub returns-clause-can_skip : goal.returns-clause-can_skip
unfolding skip_call
returns-clause-can_skip c = λ r t id st rows old long. kept-on (eqb (length old) 1) st old (λ (s : Screen). skip-left old (skip-of-row s r rows t id)) long

pub returns-clause-row_lengths : goal.returns-clause-row_lengths
returns-clause-row_lengths c = lengths-keeps

pub returns-clause-render_cmd : goal.returns-clause-render_cmd
returns-clause-render_cmd c = cmd-keeps

pub returns-clause-depth_cmd : goal.returns-clause-depth_cmd
returns-clause-depth_cmd c = depth-keeps

pub returns-clause-progress : goal.returns-clause-progress
returns-clause-progress c = progress-keeps
