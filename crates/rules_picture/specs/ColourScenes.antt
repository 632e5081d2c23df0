-- What rows come to, to be computed: the two scenes of examples/buffers.c, colours and histories that lack one hypothesis, and rows that a wrong program stores.
use Rattle.std.specs.Prelude.{ℕ, ◌+◌, ◌*◌, ◌≡◌, Bool, true, false, cond, List, [], ◌∷◌, ◌++◌, map, replicate, eqb}
use Rattle.std.specs.Prelude.{None, Some}
use Rattle.sizes.specs.declared.width.Width.TheVariants.{W128}
use Rattle.rules.specs.Boxes.{box}
use Rattle.rules.specs.Blends.{default-blend}
use Rattle.rules.specs.Spans.{Span, span}
use Rattle.rules.specs.Segments.{Segment}
use Rattle.rules.specs.Inputs.{Paint}
use Rattle.rules.specs.Attributes.{Attrs}
use Rattle.rules.specs.Depth.{no-depth}
use Rattle.rules.specs.Rows.{Row, row-ops, fresh-row}
use Rattle.rules.specs.Commands.{Command, paint-fill, layer-fill, push-buf, pop-buf}
use Rattle.rules.specs.Plans.{Frame, bucket, Step, a-fill, a-push, a-pop}
use Rattle.rules.specs.Steps.{Screen, reset, call}
use Rattle.rules.specs.Painting.{Entry, paint-id, layer-id, paint-row, received}
use Rattle.rules.specs.Plain.{OpenLayer, untold, plain}
use Rattle.rules.specs.Calls.{Canvas, begin-call}
use Rattle.rules.specs.cases.Samples.{solid, opaque-paint, draw, any-draw, any-props, clip, blend, full}
use Rattle.rules_picture.specs.Colours.{Colours, plain-drawn, turns-drawn, if-inside}
use Rattle.rules_picture.specs.StoredColours.{commands-drawn}
use Rattle.rules_picture.specs.Pixels.{Pixel, clear, source-over, Mark, drew, begins, ends, forgetful}

-- two rows of some tiles
abbrev pub screen : ℕ → Frame
screen n = record { viewport = box 0 0 (4 * n) 8; c = 16; d = 16; width = W128 }

abbrev pub after : List Step → Screen Row → Screen Row
after [] s = s
after (x ∷ xs) s = after xs (call Row row-ops x s).value

abbrev pub numbers : List Step → Screen Row → List ℕ
numbers [] s = []
numbers (x ∷ xs) s = (call Row row-ops x s).number ∷ numbers xs (call Row row-ops x s).value

-- on a screen of n tiles a row
module _ (n : ℕ) where
  abbrev pub begun : List Step → Canvas
  begun xs = (begin-call (record { screen = after xs (reset fresh-row (screen n)); begun = false; painters = [] })).value

  abbrev pub inside : ℕ → ℕ → OpenLayer → Bool
  inside r t = if-inside (bucket (screen n)) (screen n).viewport r t

  module _ {B : Type 0} (c : Colours B) where
    -- what row r comes to at tile t, painted by twelve calls
    abbrev pub painted-to : List Step → ℕ → ℕ → List B
    painted-to xs r t = turns-drawn c r t (replicate 12 (record { row = r; room = 9 })) (begun xs) (c.blank ∷ [])

    -- what plain draw order comes to, where the layers close over the row for which `closes` says yes
    abbrev pub closing-if : (OpenLayer → Bool) → List Step → ℕ → ℕ → List B
    closing-if closes xs r t = plain-drawn c closes (bucket (screen n)) (screen n).viewport r t xs untold (c.blank ∷ [])

    -- .. over the rows of their own boxes
    abbrev pub in-order : List Step → ℕ → ℕ → List B
    in-order xs r t = closing-if (inside r t) xs r t

-- a clip's segment in row 0 alone; red and blue in row 1
abbrev pub segments : List Segment
segments = solid 0 0 24 ∷ solid 1 2 8 ∷ solid 1 12 18 ∷ []

abbrev pub paints : List Paint
paints = record { opaque = 1; handle = 1 } ∷ record { opaque = 1; handle = 2 } ∷ []

abbrev pub fill-red : Step
fill-red = a-fill paints segments (draw 1 2)

abbrev pub fill-blue : Step
fill-blue = a-fill paints segments (any-draw 0 2 3 1 default-blend 0 0)

-- half opaque, as an f32
abbrev pub half : ℕ
half = 1056964608

abbrev pub push-plain : Step
push-plain = a-push (any-props default-blend half 0 None 0)

abbrev pub push-clip : ℕ → Step
push-clip h = a-push (any-props default-blend half 0 (Some (clip (box 0 0 96 h) 0 1 0)) 0)

-- a layer whose clip takes red away in row 1, then one that holds blue
abbrev pub one-after_the-other : List Step
one-after_the-other = push-clip 8 ∷ fill-red ∷ a-pop segments ∷ push-plain ∷ fill-blue ∷ a-pop segments ∷ []

-- one layer that holds red and blue, and between the two an empty layer of row 0
abbrev pub one-in_the-other : List Step
one-in_the-other = push-plain ∷ fill-red ∷ push-clip 4 ∷ a-pop segments ∷ fill-blue ∷ a-pop segments ∷ []

abbrev pub opaque-red : Pixel
opaque-red = record { red = 255; green = 0; blue = 0; alpha = 255 }

abbrev pub opaque-blue : Pixel
opaque-blue = record { red = 0; green = 0; blue = 255; alpha = 255 }

-- attribute 0 is red, any other blue; layers are half opaque
abbrev pub pixels : Colours Pixel
pixels = source-over (λ (i : ℕ). cond (eqb i 0) opaque-red opaque-blue) (λ (i : ℕ). 128) (λ (a : ℕ). 255)

abbrev pub half-red : Pixel
half-red = record { red = 128; green = 0; blue = 0; alpha = 128 }

abbrev pub log : Colours (List Mark)
log = forgetful (λ (i : ℕ). true)

abbrev pub red-logged : List Mark
red-logged = begins ∷ drew 0 ∷ ends 1 ∷ []

-- Tile 5 of row 1 is given the same in both scenes, and comes to something else: to no red, and to half of it.
pub record TwoScenes : Type 0 where
  pub all_done : (numbers one-after_the-other (reset fresh-row (screen 24)) ≡ 0 ∷ 0 ∷ 0 ∷ 0 ∷ 0 ∷ 0 ∷ []) × (numbers one-in_the-other (reset fresh-row (screen 24)) ≡ 0 ∷ 0 ∷ 0 ∷ 0 ∷ 0 ∷ 0 ∷ [])
  pub same-list : plain (bucket (screen 24)) (screen 24).viewport 1 5 one-after_the-other ≡ plain (bucket (screen 24)) (screen 24).viewport 1 5 one-in_the-other
  pub red-gone : (painted-to 24 pixels one-after_the-other 1 5 ≡ clear ∷ []) × (in-order 24 pixels one-after_the-other 1 5 ≡ clear ∷ [])
  pub red-there : (painted-to 24 pixels one-in_the-other 1 5 ≡ half-red ∷ []) × (in-order 24 pixels one-in_the-other 1 5 ≡ half-red ∷ [])
  pub none-logged : (painted-to 24 log one-after_the-other 1 5 ≡ [] ∷ []) × (in-order 24 log one-after_the-other 1 5 ≡ [] ∷ [])
  pub one-logged : (painted-to 24 log one-in_the-other 1 5 ≡ red-logged ∷ []) × (in-order 24 log one-in_the-other 1 5 ≡ red-logged ∷ [])

-- a log that does not forget, and one in which every closing layer leaves a mark
abbrev pub unforgetting : Colours (List ℕ)
unforgetting = record { blank = []; fill = λ i a b. b ++ (i ∷ []); close = λ i a top b. b ++ top }

abbrev pub marking : Colours (List ℕ)
marking = record { blank = []; fill = λ i a b. b ++ (i ∷ []); close = λ i a top b. b ++ ((100 + i) ∷ top) }

-- closing by layer attribute 0 wipes what is below, and leaves a mark
abbrev pub wiping : Colours (List ℕ)
wiping = record { blank = []; fill = λ i a b. b ++ (i ∷ []); close = λ i a top b. cond (eqb i 0) (100 ∷ []) (b ++ top) }

-- a banner, and an opaque panel over it; a layer with nothing in it
abbrev pub covered : List Step
covered = a-fill (opaque-paint ∷ []) (solid 0 0 32 ∷ []) (draw 0 1) ∷ a-fill (opaque-paint ∷ []) (solid 0 0 32 ∷ []) (draw 0 1) ∷ []

abbrev pub empty-layer : List Step
empty-layer = a-push (any-props default-blend full 0 None 0) ∷ a-pop [] ∷ []

-- a layer whose blend is destructive, of an empty box or of one that lies in row 0, and whose clip has segments in rows 0 and 1
abbrev pub clipped-by : ℕ → ℕ → List Step
clipped-by w h = a-push (any-props (blend 0 1) full 0 (Some (clip (box 0 0 w h) 0 2 0)) 0) ∷ a-pop (solid 0 0 8 ∷ solid 1 0 8 ∷ []) ∷ []

-- Without law 1, without law 2, and where layers close over rows outside their own boxes, what is painted is not what plain draw order comes to.
pub record AllNeeded : Type 0 where
  pub all_done : (numbers covered (reset fresh-row (screen 64)) ≡ 0 ∷ 0 ∷ []) × (numbers empty-layer (reset fresh-row (screen 64)) ≡ 0 ∷ 0 ∷ [])
  pub first-law : (painted-to 64 unforgetting covered 0 3 ≡ (1 ∷ []) ∷ []) × (in-order 64 unforgetting covered 0 3 ≡ (0 ∷ 1 ∷ []) ∷ [])
  pub second-law : (painted-to 64 marking empty-layer 0 3 ≡ [] ∷ []) × (in-order 64 marking empty-layer 0 3 ≡ (100 ∷ []) ∷ [])
  pub boxes_done : (numbers (clipped-by 0 0) (reset fresh-row (screen 64)) ≡ 0 ∷ 0 ∷ []) × (numbers (clipped-by 64 4) (reset fresh-row (screen 64)) ≡ 0 ∷ 0 ∷ [])
  -- the empty box: nothing is wiped in either row
  pub empty-box : (painted-to 64 wiping (clipped-by 0 0) 0 3 ≡ [] ∷ []) × (in-order 64 wiping (clipped-by 0 0) 0 3 ≡ [] ∷ [])
  pub not-its_box : closing-if 64 wiping (λ (l : OpenLayer). true) (clipped-by 0 0) 0 3 ≡ (100 ∷ []) ∷ []
  -- the box in row 0: that row is wiped where the segment is, though nothing was drawn in the layer, and the next row is not
  pub own-row : (painted-to 64 wiping (clipped-by 64 4) 0 3 ≡ (100 ∷ []) ∷ []) × (in-order 64 wiping (clipped-by 64 4) 0 3 ≡ (100 ∷ []) ∷ [])
  pub beside : (painted-to 64 wiping (clipped-by 64 4) 0 12 ≡ [] ∷ []) × (in-order 64 wiping (clipped-by 64 4) 0 12 ≡ [] ∷ [])
  pub next-row : (painted-to 64 wiping (clipped-by 64 4) 1 3 ≡ [] ∷ []) × (in-order 64 wiping (clipped-by 64 4) 1 3 ≡ [] ∷ [])
  pub not-its_row : closing-if 64 wiping (λ (l : OpenLayer). true) (clipped-by 64 4) 1 3 ≡ (100 ∷ []) ∷ []

-- two layers that touch a row one after the other
abbrev pub two-layers : List Step
two-layers =
    a-push (any-props default-blend full 0 None 0)
    ∷ a-fill (opaque-paint ∷ []) (solid 0 0 8 ∷ []) (draw 0 1)
    ∷ a-pop []
    ∷ a-push (any-props default-blend full 0 None 0)
    ∷ a-fill (opaque-paint ∷ []) (solid 0 0 8 ∷ []) (draw 0 1)
    ∷ a-pop []
    ∷ []

abbrev pub tiles : Span
tiles = span 0 64

abbrev pub text : Span
text = span 0 8

-- what is stored for the row; ..
abbrev pub right : List Command
right =
    push-buf (Some tiles) ∷ paint-fill text None 0 ∷ layer-fill tiles None 0 ∷ pop-buf
    ∷ push-buf (Some tiles) ∷ paint-fill text None 1 ∷ layer-fill tiles None 1 ∷ pop-buf ∷ []

-- .. with no PopBuf and PushBuf between the layers; with a PopBuf and a PushBuf before the first LayerFill: ..
abbrev pub one-shared : List Command
one-shared =
    push-buf (Some tiles) ∷ paint-fill text None 0 ∷ layer-fill tiles None 0
    ∷ paint-fill text None 1 ∷ layer-fill tiles None 1 ∷ pop-buf ∷ []

abbrev pub one_emptied : List Command
one_emptied =
    push-buf (Some tiles) ∷ paint-fill text None 0 ∷ pop-buf ∷ push-buf (Some tiles) ∷ layer-fill tiles None 0 ∷ pop-buf
    ∷ push-buf (Some tiles) ∷ paint-fill text None 1 ∷ layer-fill tiles None 1 ∷ pop-buf ∷ []

-- .. with the first LayerFill in a buffer of its own, after the PopBuf, and with no PushBuf
abbrev pub own-buffer : List Command
own-buffer = push-buf (Some tiles) ∷ paint-fill text None 0 ∷ push-buf None ∷ layer-fill tiles None 0 ∷ pop-buf ∷ pop-buf ∷ []

abbrev pub popped-first : List Command
popped-first = push-buf (Some tiles) ∷ paint-fill text None 0 ∷ pop-buf ∷ layer-fill tiles None 0 ∷ []

abbrev pub not-pushed : List Command
not-pushed = paint-fill text None 0 ∷ layer-fill tiles None 0 ∷ pop-buf ∷ []

abbrev pub attributes : Attrs
attributes = (after two-layers (reset fresh-row (screen 64))).state.attrs

-- the tile's list of such a row, and what it comes to
abbrev pub given-by : List Command → List Entry
given-by cs = received 3 (paint-row 32 attributes 2 (record { commands = cs; fills = []; levels = []; depth = no-depth }))

abbrev pub comes-to : List Command → List (List Mark)
comes-to cs = commands-drawn (forgetful (λ (i : ℕ). false)) (paint-id attributes) (layer-id attributes) 3 0 cs ([] ∷ [])

abbrev pub nestings : List Command → List ℕ
nestings cs = map (λ (e : Entry). e.nesting) (given-by cs)

-- Two wrong rows give the tile the same list at the same nesting, and come to something else; the list tells the other three apart.
pub record WrongRows : Type 0 where
  pub stored : map (λ (r : Row). r.commands) (after two-layers (reset fresh-row (screen 64))).rows ≡ right ∷ [] ∷ []
  pub same_lists : (given-by one-shared ≡ given-by right) × (given-by one_emptied ≡ given-by right)
  pub right-is : comes-to right ≡ (begins ∷ drew 0 ∷ ends 0 ∷ begins ∷ drew 1 ∷ ends 1 ∷ []) ∷ []
  -- the second layer closes the first's content once more
  pub shared-is : comes-to one-shared ≡ (begins ∷ drew 0 ∷ ends 0 ∷ begins ∷ drew 0 ∷ drew 1 ∷ ends 1 ∷ []) ∷ []
  -- the first layer's content is lost
  pub emptied-is : comes-to one_emptied ≡ (begins ∷ drew 1 ∷ ends 1 ∷ []) ∷ []
  pub told-apart : (nestings right ≡ 1 ∷ 1 ∷ 1 ∷ 1 ∷ []) × (nestings own-buffer ≡ 1 ∷ 2 ∷ []) × (nestings popped-first ≡ 1 ∷ 0 ∷ []) × (nestings not-pushed ≡ 0 ∷ 0 ∷ [])
