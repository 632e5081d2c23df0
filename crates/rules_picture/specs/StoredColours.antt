-- What a row's stored commands come to, whatever the colours are, by themselves: no painting is asked for.
use Rattle.std.specs.Prelude.{ℕ, ◌-◌, ◌/◌, ◌<◌, ◌≡◌, true, ◌&&◌, cond, List, [], ◌∷◌, get_or, leb}
use Rattle.std.specs.Prelude.{None}
use Rattle.rules.specs.Lists.{keep, some_of}
use Rattle.rules.specs.Answers.{Done}
use Rattle.rules.specs.Boxes.{width, rows_of}
use Rattle.rules.specs.Spans.{covers, moved}
use Rattle.rules.specs.Commands.{Command, paint-fill, layer-fill, push-buf, pop-buf, DepthFill}
use Rattle.rules.specs.Rows.{fresh-row}
use Rattle.rules.specs.Plans.{Frame, bucket, Step}
use Rattle.rules.specs.Steps.{reset}
use Rattle.rules.specs.Painting.{paint-id, layer-id}
use Rattle.rules.specs.Plain.{untold, tell-steps}
use Rattle.rules.specs.Calls.{Canvas, painter-of, begin-call}
use Rattle.rules_picture.specs.Built.{Built}
use Rattle.rules_picture.specs.Turns.{Turn, painted, has-finished}
use Rattle.rules_picture.specs.Colours.{Colours, filled, closed, dropped, plain-drawn, if-inside, Opaque, Gentle}

-- the newest of the depth fills that cover bucket q, or none; they stand oldest first
unfoldable pub newest-over : ℕ → List DepthFill → List DepthFill
newest-over q [] = []
newest-over q (f ∷ fs) = cond (some_of (λ (g : DepthFill). covers g.buckets q) fs) (newest-over q fs) (keep (covers f.buckets q) f [])

-- its id, or 0; `paint-id` gives the id of each paint attribute
abbrev pub newest-id : (ℕ → ℕ) → List DepthFill → ℕ
newest-id paint-id [] = 0
newest-id paint-id (f ∷ fs) = paint-id f.attribute

module _ {B : Type 0} (c : Colours B) where
  -- depth fills, done to the top one after the other
  abbrev pub depth-drawn : List DepthFill → List B → List B
  depth-drawn [] bs = bs
  depth-drawn (f ∷ fs) bs = depth-drawn fs (filled c f.attribute None bs)

  module _ (paint-id layer-id : ℕ → ℕ) (tile : ℕ) where
    -- the commands in order: a PushBuf puts a blank on top, a PopBuf takes the top off, a fill that covers the tile is done to the top unless it is older than id b
    unfoldable pub commands-drawn : ℕ → List Command → List B → List B
    commands-drawn b [] bs = bs
    commands-drawn b (paint-fill s a i ∷ cs) bs = commands-drawn b cs (cond (covers s tile && leb b (paint-id i)) (filled c i (moved a (tile - s.first)) bs) bs)
    commands-drawn b (layer-fill s a i ∷ cs) bs = commands-drawn b cs (cond (covers s tile && leb b (layer-id i)) (closed c i (moved a (tile - s.first)) bs) bs)
    commands-drawn b (push-buf s ∷ cs) bs = commands-drawn b cs (c.blank ∷ bs)
    commands-drawn b (pop-buf ∷ cs) bs = commands-drawn b cs (dropped c bs)

    -- the newest depth fill over the tile's bucket, then the commands that are no older
    abbrev pub stored-drawn : ℕ → List DepthFill → List Command → List B → List B
    stored-drawn w fs cs bs =
        let ds = newest-over (tile / w) fs in
        commands-drawn (newest-id paint-id ds) cs (depth-drawn ds bs)

-- Take any screen built from its reset by done steps xs on which no layer is open, so that painting could begin, and any colours that keep both laws: what the
-- commands and depth fills stored for a row come to at each of its tiles is the very buffer to which drawing everything in plain order comes.
abbrev pub SameStored : Type 0 → Type 0
SameStored B =
    (c : Colours B) (f : Frame) (xs : List Step) (k : Canvas) → Built xs (reset fresh-row f) k.screen → (begin-call k).number ≡ Done
    → (r t : ℕ) → r < rows_of f.viewport → t < width f.viewport / 4
    → Opaque c (tell-steps (bucket f) f.viewport r t xs untold).told → Gentle c k.screen.state.attrs
    → (let attrs = k.screen.state.attrs in
    let row = get_or k.screen.rows r fresh-row in
    stored-drawn c (paint-id attrs) (layer-id attrs) t (bucket f) row.fills row.commands (c.blank ∷ []))
    ≡ plain-drawn c (if-inside (bucket f) f.viewport r t) (bucket f) f.viewport r t xs untold (c.blank ∷ [])

-- Once a row has finished, the depth word of each tile's bucket is the id of that newest depth fill.
abbrev pub WordNewest : Type 0
WordNewest =
    (f : Frame) (xs : List Step) (k : Canvas) → Built xs (reset fresh-row f) k.screen → (begin-call k).number ≡ Done
    → (ts : List Turn) (r t : ℕ) → r < rows_of f.viewport → t < width f.viewport / 4
    → has-finished (painted ts k).canvas r ≡ true
    → get_or (painter-of (painted ts k).canvas r).buckets (t / bucket f) 0 ≡ newest-id (paint-id k.screen.state.attrs) (newest-over (t / bucket f) (get_or k.screen.rows r fresh-row).fills)
