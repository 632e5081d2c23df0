-- One painting step of one row, over its own words.
use Rattle.std.specs.Prelude.{ℕ, ◌+◌, ◌-◌, ◌*◌, ◌/◌, Bool, true, false, ◌&&◌, ◌||◌, not, cond, List, [], ◌∷◌, map, length, leb, ltb}
use Rattle.std.specs.Prelude.{Option, None, Some}
use Rattle.sizes.specs.Sizes.{most-layers, last-id, paint-attr-size, paint-id-at, paint-panel-at, layer-attr-size, layer-id-at, layer-panel-at, piece-size}
use Rattle.rules.specs.Lists.{count-from}
use Rattle.rules.specs.Blends.{default-blend}
use Rattle.rules.specs.Answers.{Done, BadRecord, NoRoom}
use Rattle.rules.specs.Spans.{Span}
use Rattle.rules.specs.Inputs.{good-panel}
use Rattle.rules.specs.Depth.{Summary, write-runs, written}
use Rattle.rules.specs.Commands.{Command, paint-fill, layer-fill, push-buf, pop-buf, DepthFill}
use Rattle.cmd.specs.Reading.{only_if}
use Rattle.cmd.specs.Commands.{cmd_at, read-words}
use Rattle.cmd.specs.DepthFills.{depth_words_at, read-depth-words}
use Rattle.rules.specs.Attributes.{PaintAttr, LayerAttr, Attrs}
use Rattle.rules.specs.Painting as rules
use Rattle.rules.specs.Painting.{Painter, paint-id, paint-panel, layer-id, layer-panel, gives, fill-piece, paint-depth, paint-command}
use Rattle.rules.specs.Minima.{halvings, mended-runs}
use Rattle.cmd.specs.Pieces.{laid}
use Rattle.screen.specs.Depths.{Depths, depths}
use Rattle.paint.specs.Answers.{Painted}
pub use Rattle.paint.specs.Answers.{word, refused, listed}
use Rattle.paint.specs.Summaries.{good-summary, summary-at, shown_runs}

-- The attributes as far as a step reads them: an id and a panel ..
abbrev pub paint-with : ℕ → ℕ → PaintAttr
paint-with id q =
    record { paint = 0; blend = default-blend; mask = 0; id = id; thread = 0; origin-x = 0; origin-y = 0; panel = q }

abbrev pub layer-with : ℕ → ℕ → LayerAttr
layer-with id q = record { blend = default-blend; opacity = 0; mask = 0; id = id; thread = 0; panel = q }

-- .. at place i of a table
abbrev pub paint-at : List ℕ → ℕ → PaintAttr
paint-at ws i = paint-with (word ws (paint-attr-size * i + paint-id-at)) (word ws (paint-attr-size * i + paint-panel-at))

abbrev pub layer-at : List ℕ → ℕ → LayerAttr
layer-at ws i = layer-with (word ws (layer-attr-size * i + layer-id-at)) (word ws (layer-attr-size * i + layer-panel-at))

unfoldable pub attrs-at : List ℕ → ℕ → List ℕ → ℕ → Attrs
attrs-at ps paints ls layers =
    record { paints = map (paint-at ps) (count-from 0 paints); layers = map (layer-at ls) (count-from 0 layers); filters = [] }

-- The words that a step is lent: the row's record, commands and depth fills, its depth words and their minima, where its painting stands, the result list.
pub record RowLent : Type 0 where
  pub state : List ℕ
  pub render : List ℕ
  pub fills : List ℕ
  pub depth : Depths
  pub painting : List ℕ
  pub list : List ℕ

abbrev pub words_lent : List ℕ → List ℕ → List ℕ → Depths → List ℕ → List ℕ → RowLent
words_lent s r f d p l = record { state = s; render = r; fills = f; depth = d; painting = p; list = l }

-- What it gives: its answer, and the words that it may change.
pub record StepOut : Type 0 where
  pub answer : Painted
  pub depth : Depths
  pub painting : List ℕ
  pub list : List ℕ

abbrev pub out : Painted → Depths → List ℕ → List ℕ → StepOut
out r d p l = record { answer = r; depth = d; painting = p; list = l }

-- where the painting of the row stands
abbrev pub painter-at : List ℕ → List ℕ → Painter
painter-at d p = record { buckets = d; steps = word p 0; nesting = word p 1 }

-- Judging. An id that a draw can have taken.
abbrev pub good-id : ℕ → Bool
good-id id = ltb 0 id && leb id last-id

module _ (attrs : Attrs) where
  -- an attribute that is there, with a panel and with such an id
  abbrev pub good-paint : ℕ → Bool
  good-paint i = ltb i (length attrs.paints) && good-panel (paint-panel attrs i) && good-id (paint-id attrs i)

  abbrev pub good-layer : ℕ → Bool
  good-layer i = ltb i (length attrs.layers) && good-panel (layer-panel attrs i) && good-id (layer-id attrs i)

  -- a fill whose attribute is good, a push below nesting 16, a pop above nesting 0
  abbrev pub good-command : ℕ → Command → Bool
  good-command n (paint-fill s a i) = good-paint i
  good-command n (layer-fill s a i) = good-layer i
  good-command n (push-buf s) = ltb n most-layers
  good-command n pop-buf = ltb 0 n

-- at v tiles a bucket
module _ (v : ℕ) (attrs : Attrs) where
  -- a fill gives the runs that are shown, for its attribute's id; q: its panel
  unfoldable pub fill-shown : Summary → Bool → ℕ → ℕ → ℕ → Span → Option ℕ → Painter → rules.Painted
  fill-shown u l id i q s a p =
      gives (map (fill-piece v attrs l i q s a p.nesting) (shown_runs v u p.buckets id s))
      p.buckets
      (p.steps + 1)
      p.nesting

  -- a command by the rules, its fill's runs by the row's summary
  unfoldable pub command-shown : Summary → Command → Painter → rules.Painted
  command-shown u (paint-fill s a i) p = fill-shown u false (paint-id attrs i) i (paint-panel attrs i) s a p
  command-shown u (layer-fill s a i) p = fill-shown u true (layer-id attrs i) i (layer-panel attrs i) s a p
  command-shown u (push-buf s) p = paint-command v attrs (push-buf s) p
  command-shown u pop-buf p = paint-command v attrs pop-buf p

  -- The step, by the rules, unless something that it reads is forged: of a depth fill ..
  unfoldable pub depth-step : Painter → Option DepthFill → Option rules.Painted
  depth-step p None = None
  depth-step p (Some f) = only_if (good-paint attrs f.attribute) (paint-depth v attrs f p)

  -- .. and of a command
  unfoldable pub command-step : Summary → Painter → Option Command → Option rules.Painted
  command-step u p None = None
  command-step u p (Some c) = only_if (good-command attrs p.nesting c) (command-shown u c p)

-- the depth fill at place k, in a row of n buckets, and the command at place k, if words stand for them
abbrev pub depth-fill-at : ℕ → List ℕ → ℕ → Option DepthFill
depth-fill-at n ws k = read-depth-words n (depth_words_at ws k)

abbrev pub command-at : List ℕ → ℕ → Option Command
command-at ws k = read-words (cmd_at ws k)

-- counts above the room, a nesting above 16, more steps than there are, a summary out of bounds
abbrev pub bad-row : RowLent → Bool
bad-row w =
    ltb (length w.render) (4 * word w.state 0)
    || ltb (length w.fills) (2 * word w.state 1)
    || ltb most-layers (word w.painting 1)
    || ltb (word w.state 1 + word w.state 0) (word w.painting 0)
    || not (good-summary w.state)

-- depth fills last to first, then commands in order, then finished
unfoldable pub next-step : ℕ → Attrs → RowLent → Option rules.Painted
next-step v attrs w =
    let renders = word w.state 0 in
    let depths = word w.state 1 in
    let p = painter-at w.depth.words w.painting in
    cond (bad-row w) None
    (cond (ltb p.steps depths) (depth-step v attrs p (depth-fill-at (length w.depth.words) w.fills (depths - (p.steps + 1))))
    (cond (ltb (p.steps - depths) renders) (command-step v attrs (summary-at w.state) p (command-at w.render (p.steps - depths)))
    (Some (record { finished = true; pieces = []; painter = p }))))

-- A row's minima after a depth fill is painted: those over a bucket that it wrote are worked out again, run by run. Nothing else changes them.
unfoldable pub fill-minima : Attrs → Depths → Option DepthFill → List ℕ
fill-minima attrs d None = d.minima
fill-minima attrs d (Some f) =
    mended-runs (halvings (length d.words)) d.minima (written d.words (paint-id attrs f.attribute) f.buckets) (write-runs d.words f.buckets)

unfoldable pub next-minima : Attrs → RowLent → List ℕ
next-minima attrs w =
    let depths = word w.state 1 in
    let steps = word w.painting 0 in
    cond (ltb steps depths) (fill-minima attrs w.depth (depth-fill-at (length w.depth.words) w.fills (depths - (steps + 1)))) w.depth.minima

-- What the step leaves in the words, ms being the minima after it: 4 if there is none, 14 if the list has no room for its pieces. A refusal changes nothing.
abbrev pub left : rules.Painted → List ℕ → List ℕ → StepOut
left o ms l =
    out (record { number = Done; finished = o.finished; pieces = length o.pieces })
    (depths o.painter.buckets ms)
    (o.painter.steps ∷ o.painter.nesting ∷ [])
    (laid o.pieces l)

unfoldable pub settled : Option rules.Painted → List ℕ → Depths → List ℕ → List ℕ → StepOut
settled None ms d p l = out (refused BadRecord) d p l
settled (Some o) ms d p l = cond (ltb (length l / piece-size) (length o.pieces)) (out (refused NoRoom) d p l) (left o ms l)

unfoldable pub painted-row : ℕ → Attrs → RowLent → StepOut
painted-row v attrs w = settled (next-step v attrs w) (next-minima attrs w) w.depth w.painting w.list
