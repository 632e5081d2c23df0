-- Reset, the building steps and the recording call on a host's words: the call's own definition at the screen that the words stand for.
-- Each gives the number, the words of the screen afterwards, and what else was lent.
use Rattle.std.specs.Prelude.{ℕ, true, cond, List, leb, eqb, Float, ℤ}
use Rattle.std.specs.Prelude.{Option, None, Some}
use Rattle.sizes.specs.Refusals.{number_of}
use Rattle.rules.specs.Recording.{File}
use Rattle.rules.specs.Answers.{Answer, answer}
use Rattle.rules.specs.Boxes.{box}
use Rattle.rules.specs.Setups.{Setup, frame}
use Rattle.rules.specs.Inputs as rule
use Rattle.rect.specs.declared.Rect.{Rect}
use Rattle.rect.specs.Rects.{box_of}
use Rattle.row.specs.Words.{Words}
use Rattle.screen.specs.Tables.{Tables, ScreenLent, screen_lent, reset_to}
use Rattle.reuse.specs.Used.{used_reset}
use Rattle.walk.specs.Recorded.{recorded}
use Rattle.inputs.specs.declared.Draw.{Draw}
use Rattle.fill.specs.Fills as fills
use Rattle.fill.specs.Fills.{filled}
use Rattle.screen.specs.declared.layers.LayerProps.{LayerProps}
use Rattle.layers.specs.Push as push
use Rattle.layers.specs.Push.{pushed}
use Rattle.pop.specs.Pop as pop
use Rattle.pop.specs.Pop.{popped}
use Rattle.inputs.specs.declared.Filter.{Filter}
use Rattle.layers.specs.Filter as filter
use Rattle.layers.specs.Filter.{FilterGiven, filtered}
use Rattle.walk.specs.Reading.{props_in}
use Rattle.host.specs.declared.state.SetupWords.{SetupWords}
use Rattle.host.specs.State.{screen-words, on}
use Rattle.host.specs.Asked.{FileWords, asked_setup, told_file, granted}
use Rattle.host.specs.Border.{unasked_number}

-- all tables
abbrev pub tables-left : Answer ScreenLent → Answer (List ℕ × Tables)
tables-left a = answer a.number (screen-words a.value.screen, a.value.tables)

-- a reset in a setup, and as a host's words ask
unfoldable pub reset_in : Rect → Setup → List ℕ → Tables → Answer (List ℕ × Tables)
reset_in v q st t = on true st (st, t) (λ s. tables-left (reset_to (frame q (box_of v)) (screen_lent s t)))

unfoldable pub reset_call : Rect → SetupWords → List ℕ → Tables → Answer (List ℕ × Tables)
reset_call v w st t = granted (asked_setup w) number_of (st, t) (λ q. reset_in v q st t)

-- a reset of what is used, to the screen's own frame
unfoldable pub used_call : List ℕ → Tables → Answer (List ℕ × Tables)
used_call st t = on true st (st, t) (λ s. tables-left (used_reset (screen_lent s t)))

-- a recording, likewise: 3 for a number that says no edition before all, then 3 for the file's form
unfoldable pub recording_in : File → Setup → List ℕ → Tables → Answer (List ℕ × Tables)
recording_in file q st t = on true st (st, t) (λ s. tables-left (recorded file q (screen_lent s t)))

unfoldable pub recording_asked : File → SetupWords → List ℕ → Tables → Answer (List ℕ × Tables)
recording_asked file w st t = granted (asked_setup w) (unasked_number file) (st, t) (λ q. recording_in file q st t)

unfoldable pub recording_call : FileWords → SetupWords → List ℕ → Tables → Answer (List ℕ × Tables)
recording_call f w st t = granted (told_file f) number_of (st, t) (λ file. recording_asked file w st t)

-- the rows and the paint attributes
abbrev pub draw : ℕ → ℕ → ℕ → ℕ → ℕ → ℕ → ℕ → ℕ → Draw
draw thread start end paint mix compose mask panel =
    record {
      thread = thread;
      start = start;
      «end» = end;
      paint = paint;
      blend = record { mix = mix; compose = compose };
      mask = mask;
      panel = panel;
    }

abbrev pub fill-left : Answer fills.FillLent → Answer (List ℕ × Words × List ℕ)
fill-left a = answer a.number (screen-words a.value.screen, a.value.words, a.value.paint-attrs)

unfoldable pub fill_call : List ℕ → List ℕ → Draw → List ℕ → Words → List ℕ → Answer (List ℕ × Words × List ℕ)
fill_call ps ss d st w pas = on true st (st, w, pas) (λ s. fill-left (filled (fills.fill_lent s w pas) ps ss d))

-- A layer's properties; the opacity as its bits, a clip where the flag is 1.
abbrev pub said-props : ℕ → ℕ → ℕ → ℕ → ℕ → rule.Clip → ℕ → rule.Props
said-props mix compose opacity mask flag clip panel =
    record {
      blend = record { mix = mix; compose = compose };
      opacity = opacity;
      mask = mask;
      clip = cond (eqb flag 1) (Some clip) None;
      panel = panel;
    }

abbrev pub props : ℕ → ℕ → ℕ → ℕ → ℕ → rule.Clip → ℕ → LayerProps
props mix compose opacity mask flag clip panel = props_in (said-props mix compose opacity mask flag clip panel)

abbrev pub clip : ℕ → ℕ → ℕ → ℕ → ℕ → ℕ → ℕ → rule.Clip
clip x0 y0 x1 y1 start end thread = record { bounds = box x0 y0 x1 y1; start = start; end = end; thread = thread }

-- the rows, the open layers and the opacities; a flag that is neither 0 nor 1 is refused
abbrev pub push-left : Answer push.PushLent → Answer (List ℕ × Words × List ℕ × List Float)
push-left a = answer a.number (screen-words a.value.screen, a.value.words, a.value.layers, a.value.opacities)

unfoldable pub push_call : ℕ → LayerProps → List ℕ → Words → List ℕ → List Float → Answer (List ℕ × Words × List ℕ × List Float)
push_call flag p st w ls os = on (leb flag 1) st (st, w, ls, os) (λ s. push-left (pushed p (push.push_lent s w ls os)))

-- the rows, the open layers, the opacities and the layer attributes
abbrev pub pop-left : pop.PopOut → Answer (List ℕ × pop.PopLent)
pop-left o = answer o.number (screen-words o.screen, o.lent)

unfoldable pub pop_call : List ℕ → List ℕ → pop.PopLent → Answer (List ℕ × pop.PopLent)
pop_call ss st l = on true st (st, l) (λ s. pop-left (popped s l ss))

-- a picture, by its handle where the flag is 1
abbrev pub picture : ℕ → ℕ → Option ℕ
picture flag handle = cond (eqb flag 1) (Some handle) None

-- the rows, the paint attributes and the filter paints; a flag that is neither 0 nor 1 is refused
abbrev pub filter-in : Rect → ℕ → ℕ → Option ℕ → Filter
filter-in dest x y m = record { pixmap = m; dest = dest; source_x = x; source_y = y }

abbrev pub filter-left : Answer filter.FilterLent → Answer (List ℕ × Words × List ℕ × List ℤ)
filter-left a = answer a.number (screen-words a.value.screen, a.value.words, a.value.paint-attrs, a.value.filter-paints)

unfoldable pub filter_call : ℕ → FilterGiven → List ℕ → Words → List ℕ → List ℤ → Answer (List ℕ × Words × List ℕ × List ℤ)
filter_call flag g st w pas fps =
    on (leb flag 1) st (st, w, pas, fps) (λ s. filter-left (filtered g (filter.filter_lent s w pas fps)))
