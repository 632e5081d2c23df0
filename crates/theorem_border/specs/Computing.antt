-- All that has to unfold to compute with a host's calls of reset, fill and painting: a theorem by computation says `unfolding on-words computing`.
use Rattle.cmd.specs.Reading.{command_of, depth_fill_of}
use Rattle.segments.specs.Segs.{seg-at, segs}
use Rattle.screen.specs.Judging as screens
use Rattle.screen.specs.Judging.{judged_reset}
use Rattle.screen.specs.Screens.{good_clip, good_screen, state-of, screen-after}
use Rattle.screen.specs.Depths.{blank-minima}
use Rattle.screen.specs.Tables.{reset_to}
use Rattle.row.specs.Arena.{cut, lay}
use Rattle.row.specs.Words.{hull_word, include_span, put_command, put_depth}
use Rattle.row.specs.Building as building
use Rattle.row.specs.Building.{good_row, good_rows}
use Rattle.fill.specs.Fills.{paints, first_number, fill_number, fill_done}
use Rattle.paint.specs.Summaries.{shown_runs}
use Rattle.paint.specs.Painting.{attrs-at, fill-shown, command-shown, depth-step, command-step, next-step, fill-minima, next-minima, settled, painted-row}
use Rattle.paint.specs.Pieces.{runs-at}
use Rattle.paint.specs.Judging as painter
use Rattle.paint.specs.Judging.{begin_number}
use Rattle.paint.specs.Beginning.{beginning}
use Rattle.paint.specs.Stepping.{row_step, stepped}
use Rattle.paint.specs.Running.{one_more, run, row-painted}
use Rattle.host.specs.State.{screen_of}
use Rattle.host.specs.Asked.{asked_setup}
use Rattle.host.specs.Building.{reset_in, reset_call, fill_call}
use Rattle.host.specs.Painting.{begin_call, step_call, row_call}
use Rattle.rules_picture.specs.Turns.{from, said-finished}
use Rattle.theorem_picture.specs.Turns.{pieces-in}
use Rattle.theorem_border.specs.Hosted.{reset-at, fill-at, begin-at, paint-out}
use Rattle.theorem_border.specs.Border.{painted, log}

-- reset and fill
unfoldable pub on-fills : Unit {0}
unfolding command_of depth_fill_of seg-at segs screens.judged judged_reset good_clip good_screen state-of screen-after blank-minima reset_to cut lay hull_word include_span put_command put_depth building.step_number good_row good_rows paints first_number fill_number fill_done asked_setup reset_in reset_call fill_call reset-at fill-at
on-fills = tt

-- painting
unfoldable pub on-painting : Unit {0}
unfolding shown_runs attrs-at fill-shown command-shown depth-step command-step next-step fill-minima next-minima settled painted-row runs-at painter.judged begin_number painter.step_number beginning row_step stepped one_more run row-painted begin_call step_call row_call
on-painting = tt

unfoldable pub on-words : Unit {0}
unfolding screen_of from said-finished pieces-in begin-at paint-out painted log on-fills on-painting
on-words = tt
