-- Panels say who drew and decide nothing: a step, a screen, a piece and an entry with every panel 0, and what is said of them.
use Rattle.std.specs.Prelude.{ℕ, ◌≡◌, Bool, true, List, map}
use Rattle.rules.specs.Answers.{answer}
use Rattle.rules.specs.Boxes.{Box}
use Rattle.rules.specs.Inputs.{Draw, Props, good-panel}
use Rattle.rules.specs.Attributes.{PaintAttr, LayerAttr, Attrs}
use Rattle.rules.specs.Rows.{Row, row-ops, fresh-row}
use Rattle.rules.specs.Plans.{Frame, Layer, State, Step, a-fill, a-push, a-pop, a-filter}
use Rattle.rules.specs.Steps.{Screen, reset, call}
use Rattle.rules.specs.Painting.{Piece, Entry, paint-row}
use Rattle.rules.specs.Plain.{plain}
use Rattle.rules_picture.specs.Built.{Built}

abbrev pub panelless-draw : Draw → Draw
panelless-draw d =
    record { thread = d.thread; start = d.start; end = d.end; paint = d.paint; blend = d.blend; mask = d.mask; panel = 0 }

abbrev pub panelless-props : Props → Props
panelless-props p = record { blend = p.blend; opacity = p.opacity; mask = p.mask; clip = p.clip; panel = 0 }

abbrev pub panelless-step : Step → Step
panelless-step (a-fill ps ss d) = a-fill ps ss (panelless-draw d)
panelless-step (a-push p) = a-push (panelless-props p)
panelless-step (a-pop ss) = a-pop ss
panelless-step (a-filter n f q) = a-filter n f 0

abbrev pub panelless-layer : Layer → Layer
panelless-layer l = record { props = panelless-props l.props; bounds = l.bounds }

abbrev pub panelless-paint-attr : PaintAttr → PaintAttr
panelless-paint-attr a =
    record {
      paint = a.paint;
      blend = a.blend;
      mask = a.mask;
      id = a.id;
      thread = a.thread;
      origin-x = a.origin-x;
      origin-y = a.origin-y;
      panel = 0;
    }

abbrev pub panelless-layer-attr : LayerAttr → LayerAttr
panelless-layer-attr a =
    record { blend = a.blend; opacity = a.opacity; mask = a.mask; id = a.id; thread = a.thread; panel = 0 }

abbrev pub panelless-attrs : Attrs → Attrs
panelless-attrs a =
    record { paints = map panelless-paint-attr a.paints; layers = map panelless-layer-attr a.layers; filters = a.filters }

abbrev pub panelless-state : State → State
panelless-state s =
    record { frame = s.frame; next = s.next; attrs = panelless-attrs s.attrs; layers = map panelless-layer s.layers }

-- the rows stand as they are: no panel is in them
abbrev pub panelless-screen : Screen Row → Screen Row
panelless-screen s = record { state = panelless-state s.state; rows = s.rows }

abbrev pub panelless-piece : Piece → Piece
panelless-piece p =
    record { layer = p.layer; attribute = p.attribute; tiles = p.tiles; alpha = p.alpha; nesting = p.nesting; panel = 0 }

abbrev pub panelless-entry : Entry → Entry
panelless-entry e = record { layer = e.layer; attribute = e.attribute; alpha = e.alpha; nesting = e.nesting; panel = 0 }

-- the panel that a step is given is in range
abbrev pub good-step-panel : Step → Bool
good-step-panel (a-fill ps ss d) = good-panel d.panel
good-step-panel (a-push p) = good-panel p.panel
good-step-panel (a-pop ss) = true
good-step-panel (a-filter n f q) = good-panel q

-- A step whose panel is in range has the same number without it, and leaves the same screen but for the panels.
abbrev pub Answered-alike : Type 0
Answered-alike =
    (x : Step) (s : Screen Row) → good-step-panel x ≡ true
    → call Row row-ops (panelless-step x) (panelless-screen s) ≡ answer (call Row row-ops x s).number (panelless-screen (call Row row-ops x s).value)

-- So does a history of done steps.
abbrev pub Built-alike : Type 0
Built-alike =
    (xs : List Step) (s u : Screen Row) → Built xs s u → Built (map panelless-step xs) (panelless-screen s) (panelless-screen u)

-- Histories that differ in panels alone, done from one reset, leave the same rows, depth fills, next id and open layers, and attributes that are
-- the same in every other field: a comparison that leaves the panels out leaves nothing else out.
abbrev pub Panel-blind : Type 0
Panel-blind =
    (f : Frame) (xs ys : List Step) → map panelless-step xs ≡ map panelless-step ys
    → (u v : Screen Row) → Built xs (reset fresh-row f) u → Built ys (reset fresh-row f) v
    → panelless-screen u ≡ panelless-screen v

-- A row paints the same pieces, at any width and over any number of buckets.
abbrev pub Painted-alike : Type 0
Painted-alike =
    (w : ℕ) (a : Attrs) (n : ℕ) (r : Row) → paint-row w (panelless-attrs a) n r ≡ map panelless-piece (paint-row w a n r)

-- Plain draw order tells a tile of the same entries.
abbrev pub Told-alike : Type 0
Told-alike =
    (w : ℕ) (v : Box) (row tile : ℕ) (xs : List Step)
    → plain w v row tile (map panelless-step xs) ≡ map panelless-entry (plain w v row tile xs)
