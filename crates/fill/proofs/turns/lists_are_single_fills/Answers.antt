-- The laws by induction over the draws (`DoneOnes`), the cases by computation.
use Rattle.std.proofs.Common.{refl}
use Rattle.rules.specs.Spans.{meeting, cut_to}
use Rattle.rules.specs.Split.{split}
use Rattle.rules.specs.Boxes.{good_viewport, scene-tiles}
use Rattle.rules.specs.Segments.{ordered, judge-segments, cut_in, cuts}
use Rattle.rules.specs.Plans.{draw-act, draw-puts, plan-fill}
use Rattle.rules.specs.Steps.{do-act, do-puts, done, passes, refusal}
use Rattle.row.specs.Words.{hull_word, include_span, put_command, put_depth}
use Rattle.row.specs.Arena.{cut, lay}
use Rattle.row.specs.Building.{good_row, good_rows, step_number}
use Rattle.screen.specs.Screens.{good_clip, good_screen, state-of, screen-after}
use Rattle.screen.specs.Judging.{judged}
use Rattle.segments.specs.Segs.{seg-at, segs}
use Rattle.fill.specs.Fills.{paints, first_number, fill_number, fill_done}
use Rattle.fill.specs.Lists.{draws_in, fills_in_order, fills_listed}
use Rattle.fill.proofs.DoneOnes.{in-order-each, done-ones}
use Rattle.fill.proofs.turns.lists_are_single_fills.Goals as goal

pub returns-clause-each : goal.returns-clause-each
returns-clause-each c = in-order-each

pub returns-clause-done : goal.returns-clause-done
returns-clause-done c = done-ones

pub returns-clause-points : goal.returns-clause-points
unfolding fills_listed fills_in_order draws_in fill_done screen-after fill_number step_number first_number judged good_viewport good_screen good_clip state-of plan-fill judge-segments ordered segs seg-at paints cuts cut_in cut_to meeting scene-tiles draw-puts draw-act do-puts do-act done refusal passes good_rows good_row cut lay split put_command put_depth include_span hull_word
returns-clause-points c = (refl, refl, refl)
