-- A building step at a screen and all its words: the calls' own definitions, each on its part of what is lent.
use Rattle.std.specs.Prelude.{ℕ, [], ◌-◌, not, eqb, length, get_or}
use Rattle.rules.specs.Lists.{join, slice}
use Rattle.rules.specs.Answers.{Answer, answer}
use Rattle.rules.specs.Inputs as rule
use Rattle.rules.specs.Recording.{Recording, LayerRec, layer-rec}
use Rattle.rules.specs.Walk.{each, when, walk-layer, walk-nodes}
use Rattle.rules.specs.Words.{paint-words, segment-words}
use Rattle.rules.specs.Plans.{Step, a-fill, a-push, a-pop, a-filter}
use Rattle.row.specs.Words.{Words, words}
use Rattle.rect.specs.Rects.{rect-of}
use Rattle.screen.specs.Tables.{Tables, tables, ScreenLent, screen_lent}
use Rattle.fill.specs.Fills as fills
use Rattle.fill.specs.Fills.{filled}
use Rattle.layers.specs.Push as push
use Rattle.layers.specs.Push.{pushed}
use Rattle.pop.specs.Pop as pop
use Rattle.pop.specs.Pop.{popped}
use Rattle.inputs.specs.declared.Filter.{Filter}
use Rattle.layers.specs.Filter as filter
use Rattle.layers.specs.Filter.{given, filtered}
use Rattle.walk.specs.Reading.{draw_in, props_in}

abbrev pub filter_in : rule.Filter → Filter
filter_in f = record { pixmap = f.pixmap; dest = rect-of f.dest; source_x = f.source-x; source_y = f.source-y }

-- the words of all the rows
abbrev pub rows_words : Tables → Words
rows_words t = words t.rows t.render t.fills

-- what each call is lent, and put back among the others
abbrev pub fill-part : ScreenLent → fills.FillLent
fill-part l = fills.fill_lent l.screen (rows_words l.tables) l.tables.paint-attrs

abbrev pub fill-into : Tables → fills.FillLent → ScreenLent
fill-into t f =
    screen_lent f.screen
    (tables f.words.render f.words.fills t.depth f.words.state t.painting t.layers t.opacities f.paint-attrs t.layer-attrs t.filter-paints)

abbrev pub push-part : ScreenLent → push.PushLent
push-part l = push.push_lent l.screen (rows_words l.tables) l.tables.layers l.tables.opacities

abbrev pub push-into : Tables → push.PushLent → ScreenLent
push-into t p =
    screen_lent p.screen
    (tables p.words.render p.words.fills t.depth p.words.state t.painting p.layers p.opacities t.paint-attrs t.layer-attrs t.filter-paints)

abbrev pub pop-part : ScreenLent → pop.PopLent
pop-part l = pop.pop_lent (rows_words l.tables) l.tables.layers l.tables.opacities l.tables.layer-attrs

abbrev pub pop-into : Tables → pop.PopOut → Answer ScreenLent
pop-into t o =
    answer o.number
    (screen_lent o.screen
    (tables o.lent.words.render o.lent.words.fills t.depth o.lent.words.state t.painting o.lent.layers o.lent.opacities t.paint-attrs o.lent.attrs t.filter-paints))

abbrev pub filter-part : ScreenLent → filter.FilterLent
filter-part l = filter.filter_lent l.screen (rows_words l.tables) l.tables.paint-attrs l.tables.filter-paints

abbrev pub filter-into : Tables → filter.FilterLent → ScreenLent
filter-into t f =
    screen_lent f.screen
    (tables f.words.render f.words.fills t.depth f.words.state t.painting t.layers t.opacities f.paint-attrs t.layer-attrs f.filter-paints)

abbrev pub with_value : {A B : Type 0} → (A → B) → Answer A → Answer B
with_value f a = answer a.number (f a.value)

-- a step: lists of paints and segments are lent as the words that say them
unfoldable pub call_at : Step → ScreenLent → Answer ScreenLent
call_at (a-fill ps ss d) l = with_value (fill-into l.tables) (filled (fill-part l) (join paint-words ps) (join segment-words ss) (draw_in d))
call_at (a-push p) l = with_value (push-into l.tables) (pushed (props_in p) (push-part l))
call_at (a-pop ss) l = pop-into l.tables (popped l.screen (pop-part l) (join segment-words ss))
call_at (a-filter n f q) l = with_value (filter-into l.tables) (filtered (given (filter_in f) n q) (filter-part l))

-- the fill of a recording's draw
abbrev pub draw_step : Recording → rule.Draw → ScreenLent → Answer ScreenLent
draw_step r d = call_at (a-fill r.paints r.segments d)

-- the filter fill of a recording's layer
abbrev pub filter_step : Recording → LayerRec → ScreenLent → Answer ScreenLent
filter_step r y = call_at (a-filter (length r.paints) y.filter y.panel)

-- the walk's parts: draws a to b; nodes a to b, with layers so deep; the layer that a node names by its number + 1, 0 for none
module _ (r : Recording) where
  abbrev pub draws-walked : ℕ → ℕ → ScreenLent → Answer ScreenLent
  draws-walked a b = each (draw_step r) (slice a b r.draws)

  abbrev pub nodes-walked : ℕ → ℕ → ℕ → ScreenLent → Answer ScreenLent
  nodes-walked depth a b = walk-nodes ScreenLent call_at r (walk-layer ScreenLent call_at r depth) a b

  abbrev pub layer-walked : ℕ → ℕ → ScreenLent → Answer ScreenLent
  layer-walked depth k = when (not (eqb k 0)) (walk-layer ScreenLent call_at r depth (get_or r.layers (k - 1) (layer-rec [])))
