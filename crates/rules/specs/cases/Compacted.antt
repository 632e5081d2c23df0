-- A row's room taken back at known points: what goes, what stays and in which order, and the call's answers. Buckets of 32 tiles.
use Rattle.std.specs.Prelude.{ℕ, ◌≡◌, true, false, List, [], ◌∷◌, map, length, get_or, None, Some}
use Rattle.sizes.specs.declared.width.Width.TheVariants.{W128}
use Rattle.rules.specs.Answers.{Done, BadRun, Open}
use Rattle.rules.specs.Boxes.{box}
use Rattle.rules.specs.Spans.{span}
use Rattle.rules.specs.Blends.{default-blend}
use Rattle.rules.specs.Commands.{Command, paint-fill, layer-fill, push-buf, pop-buf, DepthFill}
use Rattle.rules.specs.Attributes.{Attrs}
use Rattle.rules.specs.Rows.{Row, fresh-row, row-ops}
use Rattle.rules.specs.Plans.{Frame, Step, a-fill, a-push, a-pop}
use Rattle.rules.specs.Steps.{Screen, reset, call}
use Rattle.rules.specs.Depth.{Summary}
use Rattle.rules.specs.Painting.{Piece, paint-row}
use Rattle.rules.specs.Calls.{Canvas, blank}
use Rattle.rules.specs.Compacted.{newest-ids, compacted, compact-screen, compact-call}
use Rattle.rules.specs.cases.Samples.{solid, alpha, opaque-paint, draw, any-props, full, attrs, paint-attr, layer-attr}

-- paints with the ids 1 to 4, and a layer with the id 2
abbrev pub numbered : Attrs
numbered =
    attrs
    (paint-attr 0 0 3 0 1 0 0 0 ∷ paint-attr 0 0 3 0 2 0 0 0 ∷ paint-attr 0 0 3 0 3 0 0 0 ∷ paint-attr 0 0 3 0 4 0 0 0 ∷ [])
    (layer-attr 0 3 1056964608 0 2 0 ∷ [])
    []

abbrev pub fill-of : ℕ → ℕ → ℕ → DepthFill
fill-of i a b = record { buckets = span a b; attribute = i }

-- with a depth summary, whatever the depth fills are
abbrev pub some-depth : Summary
some-depth = record { union = Some (span 0 64); largest = 3 }

abbrev pub row_of : List DepthFill → List Command → Row
row_of fs cs = record { commands = cs; fills = fs; levels = []; depth = some-depth }

-- two buckets: the first holds 3, the second 1
abbrev pub three-over : List DepthFill
three-over = fill-of 0 0 2 ∷ fill-of 2 0 1 ∷ []

abbrev pub left : List Command → List Command
left cs = compacted 32 2 numbered (row_of three-over cs)

abbrev pub one : ℕ → ℕ → ℕ → Command
one i a b = paint-fill (span a b) None i

abbrev pub opens : Command
opens = push-buf (Some (span 0 64))

-- A screen of one row and four buckets: a banner over the row, an alpha segment, a layer with a fill, and a panel over two buckets.
abbrev pub frame : Frame
frame = record { viewport = box 0 0 512 4; c = 9; d = 9; width = W128 }

abbrev pub steps : List Step
steps =
    a-fill (opaque-paint ∷ []) (solid 0 0 128 ∷ []) (draw 0 1)
    ∷ a-fill (opaque-paint ∷ []) (alpha 0 40 60 0 ∷ []) (draw 0 1)
    ∷ a-push (any-props default-blend full 0 None 0)
    ∷ a-fill (opaque-paint ∷ []) (solid 0 32 90 ∷ []) (draw 0 1)
    ∷ a-pop []
    ∷ a-fill (opaque-paint ∷ []) (solid 0 30 96 ∷ []) (draw 0 1)
    ∷ []

abbrev pub after : List Step → Screen Row → Screen Row
after [] s = s
after (x ∷ xs) s = after xs (call Row row-ops x s).value

abbrev pub worked : Screen Row
worked = after steps (reset fresh-row frame)

-- its painting has begun
abbrev pub worked-canvas : Canvas
worked-canvas = record { screen = worked; begun = true; painters = blank worked }

abbrev pub under-layer : Canvas
under-layer = record { screen = after (a-push (any-props default-blend full 0 None 0) ∷ []) worked; begun = true; painters = blank worked }

abbrev pub pieces-in : Screen Row → List Piece
pieces-in s = paint-row 32 s.state.attrs 4 (get_or s.rows 0 fresh-row)

-- a row without its commands
abbrev pub bare : Row → Row
bare r = record { commands = []; fills = r.fills; levels = r.levels; depth = r.depth }

pub record CompactionsHold : Type 0 where
  pub newest : newest-ids numbered 3 three-over ≡ 3 ∷ 1 ∷ 0 ∷ []
  -- a fill goes if each bucket that it meets on the row holds a greater id, whatever it covers of the bucket
  pub hidden : left (one 1 0 32 ∷ one 0 31 32 ∷ []) ≡ []
  pub equal-id : left (one 2 0 32 ∷ one 3 0 32 ∷ []) ≡ one 2 0 32 ∷ one 3 0 32 ∷ []
  pub next-bucket : left (one 1 0 33 ∷ one 0 0 64 ∷ []) ≡ one 1 0 33 ∷ one 0 0 64 ∷ []
  pub layer : left (layer-fill (span 0 32) (Some 7) 0 ∷ layer-fill (span 0 33) (Some 7) 0 ∷ []) ≡ layer-fill (span 0 33) (Some 7) 0 ∷ []
  pub width-0 : left (one 3 40 40 ∷ one 3 40 41 ∷ []) ≡ one 3 40 41 ∷ []
  pub past-row : left (one 3 64 70 ∷ []) ≡ []
  pub unset : compacted 32 2 numbered (row_of [] (one 0 0 64 ∷ [])) ≡ one 0 0 64 ∷ []
  -- empty buffers go, also those that what goes leaves empty
  pub all : left (opens ∷ one 1 0 32 ∷ pop-buf ∷ []) ≡ []
  pub nested : left (opens ∷ push-buf None ∷ pop-buf ∷ pop-buf ∷ []) ≡ []
  pub neighbours : left (opens ∷ push-buf None ∷ one 1 0 32 ∷ pop-buf ∷ one 0 0 1 ∷ pop-buf ∷ one 2 0 9 ∷ []) ≡ one 2 0 9 ∷ []
  -- a buffer with anything in it stays, and keeps its span
  pub buffer : left (opens ∷ one 1 0 32 ∷ one 2 0 8 ∷ pop-buf ∷ []) ≡ opens ∷ one 2 0 8 ∷ pop-buf ∷ []
  pub closed : left (opens ∷ push-buf None ∷ one 2 0 8 ∷ pop-buf ∷ layer-fill (span 32 64) None 0 ∷ pop-buf ∷ [])
      ≡ opens ∷ push-buf None ∷ one 2 0 8 ∷ pop-buf ∷ layer-fill (span 32 64) None 0 ∷ pop-buf ∷ []
  pub in-turn : left (opens ∷ one 2 0 8 ∷ pop-buf ∷ opens ∷ pop-buf ∷ []) ≡ opens ∷ one 2 0 8 ∷ pop-buf ∷ []
  pub none : left [] ≡ []
  -- the worked row: what the panel hides goes, the layer is visible beside it
  pub before : map (λ (r : Row). length r.commands) worked.rows ≡ 6 ∷ []
  pub after-it : map (λ (r : Row). r.commands) (compact-screen 0 worked).rows
      ≡ (push-buf (Some (span 0 128)) ∷ layer-fill (span 0 128) None 0 ∷ pop-buf ∷ one 3 30 32 ∷ []) ∷ []
  pub rest : map bare (compact-screen 0 worked).rows ≡ map bare worked.rows
  pub pieces : pieces-in (compact-screen 0 worked) ≡ pieces-in worked
  -- the call: it ends painting, also where it removes nothing; 12 before 13; refused, it changes nothing
  pub done : compact-call 0 worked-canvas
      ≡ record { number = Done; value = record { screen = compact-screen 0 worked; begun = false; painters = blank worked } }
  pub again : compact-call 0 (record { screen = compact-screen 0 worked; begun = true; painters = blank worked }) ≡ compact-call 0 worked-canvas
  pub no-row : compact-call 1 worked-canvas ≡ record { number = BadRun; value = worked-canvas }
  pub open-layer : compact-call 0 under-layer ≡ record { number = Open; value = under-layer }
  pub no-row-first : (compact-call 1 under-layer).number ≡ BadRun
