-- What a tile comes to, whatever the colours are: buffers on a stack, drawn in plain order, and as a row is painted.
use Rattle.std.specs.Prelude.{ℕ, ◌/◌, ◌<◌, ◌≡◌, Bool, true, false, ◌&&◌, not, cond, List, [], ◌∷◌, map, length, get_or, ltb, eqb}
use Rattle.std.specs.Prelude.{Option}
use Rattle.rules.specs.Answers.{Done}
use Rattle.rules.specs.Boxes.{Box, empty-box, width, rows_of}
use Rattle.rules.specs.Blends.{destructive}
use Rattle.rules.specs.Attributes.{Attrs, no-layer}
use Rattle.rules.specs.Rows.{fresh-row}
use Rattle.rules.specs.Plans.{Frame, bucket, Step, a-fill, a-push, a-pop, a-filter}
use Rattle.rules.specs.Steps.{reset}
use Rattle.rules.specs.Painting.{Painter, Painted, Entry, received}
use Rattle.rules.specs.Plain.{Told, OpenLayer, Story, untold, tell-step, tell-steps, in_rows}
use Rattle.rules.specs.Calls.{Canvas, painter-of, paint-call, begin-call}
use Rattle.rules.proofs.All.{All}
use Rattle.rules_picture.specs.Built.{Built}
use Rattle.rules_picture.specs.Turns.{Turn, painted, has-finished}

-- What colours are at one tile: any type of buffers, a blank one, what a fill by the paint attribute in some place does to a buffer, with an alpha index
-- or none, and what closing a layer by the layer attribute in some place makes of the buffer on top and the one below it.
pub record Colours (B : Type 0) : Type 0 where
  pub blank : B
  pub fill : ℕ → Option ℕ → B → B
  pub close : ℕ → Option ℕ → B → B → B

-- A stack of buffers, the top first; the screen's own buffer is the last, and is never taken off.
module _ {B : Type 0} (c : Colours B) where
  -- a fill goes into the top
  abbrev pub filled : ℕ → Option ℕ → List B → List B
  filled i a [] = []
  filled i a (b ∷ bs) = c.fill i a b ∷ bs

  -- a closing layer puts the top into the buffer below, and leaves it on top
  abbrev pub closed : ℕ → Option ℕ → List B → List B
  closed i a [] = []
  closed i a (b ∷ []) = b ∷ []
  closed i a (b ∷ d ∷ bs) = b ∷ c.close i a b d ∷ bs

  abbrev pub dropped : List B → List B
  dropped [] = []
  dropped (b ∷ []) = b ∷ []
  dropped (b ∷ d ∷ bs) = d ∷ bs

  -- what the tile is given, done to the stack, in order
  abbrev pub drawn-one : Bool → ℕ → Option ℕ → List B → List B
  drawn-one false i a bs = filled i a bs
  drawn-one true i a bs = closed i a bs

  unfoldable pub drawn : List Entry → List B → List B
  drawn [] bs = bs
  drawn (e ∷ es) bs = drawn es (drawn-one e.layer e.attribute e.alpha bs)

  -- PLAIN DRAW ORDER. A push puts a blank buffer on top; then comes what the step gives the tile; a pop takes the top off, after what closes.
  abbrev pub opened : Step → List B → List B
  opened (a-fill ps ss d) bs = bs
  opened (a-push p) bs = c.blank ∷ bs
  opened (a-pop ss) bs = bs
  opened (a-filter n f q) bs = bs

  abbrev pub ended : Step → List B → List B
  ended (a-fill ps ss d) bs = bs
  ended (a-push p) bs = bs
  ended (a-pop ss) bs = dropped bs
  ended (a-filter n f q) bs = bs

  -- closes: which open layers close over this row
  module _ (closes : OpenLayer → Bool) (w : ℕ) (v : Box) (row tile : ℕ) where
    abbrev pub step-entries : Step → Story → List Entry
    step-entries x s =
        map (λ (t : Told). t.entry)
        (tell-step w v row tile x
        (record {
          next = s.next;
          paints = s.paints;
          layers = s.layers;
          open-layers = map (λ (l : OpenLayer). record { layer = l.layer; touched = closes l }) s.open-layers;
          told = [];
        })).told

    unfoldable pub plain-drawn : List Step → Story → List B → List B
    plain-drawn [] s bs = bs
    plain-drawn (x ∷ xs) s bs = plain-drawn xs (tell-step w v row tile x s) (ended x (drawn (step-entries x s) (opened x bs)))

  -- PAINTED. Each done call of the row: its pieces; then a blank buffer on top where the row's nesting has risen, the top off where it has fallen.
  abbrev pub nested : ℕ → ℕ → List B → List B
  nested before after bs = cond (ltb before after) (c.blank ∷ bs) (cond (ltb after before) (dropped bs) bs)

  abbrev pub step-drawn : ℕ → Painter → Painted → List B → List B
  step-drawn tile p o bs = nested p.nesting o.painter.nesting (drawn (received tile o.pieces) bs)

  unfoldable pub turns-drawn : ℕ → ℕ → List Turn → Canvas → List B → List B
  turns-drawn row tile [] k bs = bs
  turns-drawn row tile (t ∷ ts) k bs =
      let g = paint-call t.row t.room k in
      turns-drawn row tile ts g.value.canvas
      (cond (eqb t.row row && eqb g.number Done) (step-drawn tile (painter-of k row) g.value.result bs) bs)

  -- LAW 1. A fill that hides, an eligible solid segment over the tile's whole bucket, leaves the same whatever was there before: asked of what the
  -- tile is told of.
  abbrev pub Opaque : List Told → Type 0
  Opaque ts = All (λ (u : Told). u.hides ≡ true → (b d : B) → c.fill u.entry.attribute u.entry.alpha b ≡ c.fill u.entry.attribute u.entry.alpha d) ts

  -- LAW 2. A blank buffer, closed by a layer whose blend is not destructive, leaves the buffer below as it was.
  abbrev pub Gentle : Attrs → Type 0
  Gentle t = (i : ℕ) → i < length t.layers → destructive (get_or t.layers i no-layer).blend.compose ≡ false → (a : Option ℕ) (b : B) → c.close i a c.blank b ≡ b

-- which layers close over a row: those that it is touched for (rule 10), ..
abbrev pub if-touched : OpenLayer → Bool
if-touched l = l.touched

-- .. or, with no account of touched rows, those whose own box has the row
abbrev pub if-inside : ℕ → Box → ℕ → ℕ → OpenLayer → Bool
if-inside w v row tile l = in_rows w v row tile l.layer.bounds && not (empty-box l.layer.bounds)

-- Take any screen built from its reset by done steps xs, with painting freshly begun on it, any painting steps ts of its rows by turns, and any colours
-- that keep law 1. When a row has finished, what each of its tiles was given comes to the very buffer to which drawing everything in plain order
-- comes, where layers close over the rows that they touch.
abbrev pub SameTouched : Type 0 → Type 0
SameTouched B =
    (c : Colours B) (f : Frame) (xs : List Step) (k : Canvas) → Built xs (reset fresh-row f) k.screen → (begin-call k).number ≡ Done
    → (ts : List Turn) (r t : ℕ) → r < rows_of f.viewport → t < width f.viewport / 4
    → has-finished (painted ts k).canvas r ≡ true
    → Opaque c (tell-steps (bucket f) f.viewport r t xs untold).told
    → turns-drawn c r t ts (begin-call k).value (c.blank ∷ []) ≡ plain-drawn c if-touched (bucket f) f.viewport r t xs untold (c.blank ∷ [])

-- The same with both laws, and no touched rows in plain draw order: a layer closes over all rows of its own box.
abbrev pub SamePicture : Type 0 → Type 0
SamePicture B =
    (c : Colours B) (f : Frame) (xs : List Step) (k : Canvas) → Built xs (reset fresh-row f) k.screen → (begin-call k).number ≡ Done
    → (ts : List Turn) (r t : ℕ) → r < rows_of f.viewport → t < width f.viewport / 4
    → has-finished (painted ts k).canvas r ≡ true
    → Opaque c (tell-steps (bucket f) f.viewport r t xs untold).told → Gentle c k.screen.state.attrs
    → turns-drawn c r t ts (begin-call k).value (c.blank ∷ []) ≡ plain-drawn c (if-inside (bucket f) f.viewport r t) (bucket f) f.viewport r t xs untold (c.blank ∷ [])
