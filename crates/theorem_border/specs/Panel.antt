-- The panel over the banner, call for call as `examples/panel.c` makes them, on the words that it lends.
use Rattle.std.specs.Prelude.{ℕ, ◌+◌, ◌*◌, ◌<◌, ◌≡◌, true, false, None, List, [], ◌∷◌, get_or, replicate, pos}
use Rattle.sizes.specs.Sizes.{most-rows, row-size, open-layer-table, opacity-count, paint-attr-size, paint-attr-table, layer-attr-table, filter-paint-table, piece-size, state-size}
use Rattle.sizes.specs.declared.width.Width.TheVariants.{W128}
use Rattle.rules.specs.Answers.{Answer, Done}
use Rattle.rules.specs.Plans.{Frame, bucket, Step}
use Rattle.rules.specs.Setups.{exact, Setup, frame}
use Rattle.rules.specs.Painting.{Entry, received}
use Rattle.rules.specs.Plain.{plain}
use Rattle.rect.specs.declared.Rect.{Rect}
use Rattle.rect.specs.Rects.{box_of}
use Rattle.screen.specs.Depths.{depths}
use Rattle.screen.specs.Tables.{tables, float-0}
use Rattle.inputs.specs.declared.Draw.{Draw}
use Rattle.rules_picture.specs.Turns.{from}
use Rattle.theorem_picture.specs.Calls.{fill-said}
use Rattle.host.specs.declared.state.SetupWords.{SetupWords}
use Rattle.host.specs.State.{rect}
use Rattle.host.specs.Building.{draw}
use Rattle.theorem_border.specs.Hosted.{Host, host, reset-at, fill-at, begin-at, Call, one-step, whole_row}
use Rattle.theorem_border.specs.Border.{log, finished}

-- 512 x 4 pixels, one row of 128 tiles in 4 buckets, which have 7 minima, with room for 64 commands and 64 depth fills
abbrev pub screen : Rect
screen = rect 0 0 most-rows 4

abbrev pub words : SetupWords
words = record { c = 64; d = 64; mode = 0; width = 128 }

abbrev pub setup : Setup
setup = record { c = 64; d = 64; mode = exact; width = W128 }

abbrev pub own-frame : Frame
own-frame = frame setup (box_of screen)

-- the words of state and the ten tables, all of them 0
abbrev pub blank : Host
blank =
    host (replicate state-size 0)
    (tables (replicate 256 0) (replicate 128 0) (depths (replicate 4 0) (replicate 7 0)) (replicate row-size 0) (replicate 2 0)
    (replicate open-layer-table 0) (replicate opacity-count float-0) (replicate paint-attr-table 0) (replicate layer-attr-table 0) (replicate filter-paint-table (pos 0)))

-- both opaque; the banner has the whole row, the panel tiles 20 to 70: all of bucket 1, and a part of 0 and of 2
abbrev pub paints : List ℕ
paints = 1 ∷ 1 ∷ 0 ∷ 0 ∷ 1 ∷ 2 ∷ 0 ∷ 0 ∷ []

abbrev pub segments : List ℕ
segments = 0 ∷ 0 ∷ 0 ∷ 128 ∷ 0 ∷ 0 ∷ 0 ∷ 20 ∷ 70 ∷ 0 ∷ []

-- who draws: module 3 the banner, module 7 the panel
abbrev pub by : ℕ → ℕ
by i = 3 + 4 * i

-- segment i with paint i
abbrev pub one : ℕ → Draw
one i = draw 0 i (i + 1) i 0 3 0 (by i)

abbrev pub banner : Step
banner = fill-said paints segments (one 0)

abbrev pub panel : Step
panel = fill-said paints segments (one 1)

abbrev pub steps : List Step
steps = banner ∷ panel ∷ []

abbrev pub fresh : Answer Host
fresh = reset-at screen words blank

abbrev pub with-banner : Answer Host
with-banner = fill-at paints segments (one 0) fresh.value

abbrev pub with-panel : Answer Host
with-panel = fill-at paints segments (one 1) with-banner.value

abbrev pub begun : Answer Host
begun = begin-at with-panel.value

-- The row is painted by steps into what is left of room for 64 pieces.
abbrev pub step-with : ℕ → Call
step-with room = one-step (record { row = 0; list = replicate (piece-size * room) 0; result = 0 ∷ 0 ∷ [] })

abbrev pub by-steps : List Call
by-steps = step-with 64 ∷ step-with 63 ∷ step-with 61 ∷ step-with 60 ∷ step-with 59 ∷ []

-- .. or in a mixture: one step, then the rest of the row by one call
abbrev pub mixed : List Call
mixed = step-with 64 ∷ whole_row (record { row = 0; list = replicate (piece-size * 63) 0; result = 0 ∷ 0 ∷ [] }) ∷ []

-- All four calls before painting answer 0.
pub record CallsDone : Type 0 where
  pub resets : fresh.number ≡ Done
  pub fills-banner : with-banner.number ≡ Done
  pub fills-panel : with-panel.number ≡ Done
  pub begins : begun.number ≡ Done

-- The attribute table has paint 0 as attribute 0, the banner's, and paint 1 as attribute 1, the panel's.
pub record PaintsTaken : Type 0 where
  pub of-banner : get_or with-panel.value.tables.paint-attrs (paint-attr-size * 0) 0 ≡ 0
  pub of-panel : get_or with-panel.value.tables.paint-attrs (paint-attr-size * 1) 0 ≡ 1

-- The row finishes by the five steps, and by the mixture.
abbrev pub StepsFinish : Type 0
StepsFinish = finished 0 by-steps begun.value ≡ true

abbrev pub MixedFinish : Type 0
MixedFinish = finished 0 mixed begun.value ≡ true

-- what a tile receives of attribute i: a solid fill, no layer being open, and who drew it
abbrev pub drawn : ℕ → Entry
drawn i = record { layer = false; attribute = i; alpha = None; nesting = 0; panel = by i }

abbrev pub the-banner : Entry
the-banner = drawn 0

abbrev pub the-panel : Entry
the-panel = drawn 1

-- Whatever painting calls a host makes from here on, of any rows, into lists of any length: once row 0 has finished, tile t has received these
-- entries and no other, in this order.
abbrev pub Receives : ℕ → List Entry → Type 0
Receives t entries = (cs : List Call) → finished 0 cs begun.value ≡ true → received t (from 0 (log cs begun.value)) ≡ entries

-- Each tile has what plain draw order gives it, less what the panel covers.
abbrev pub EachTile : Type 0
EachTile = (t : ℕ) → t < 128 → Receives t (plain (bucket own-frame) own-frame.viewport 0 t steps)

-- Tile 40: the panel alone, which covers the tile's whole bucket.
abbrev pub Tile40 : Type 0
Tile40 = Receives 40 (the-panel ∷ [])

-- Tile 25: the banner, then the panel, which covers the tile but not its whole bucket.
abbrev pub Tile25 : Type 0
Tile25 = Receives 25 (the-banner ∷ the-panel ∷ [])

-- Tile 10: the banner.
abbrev pub Tile10 : Type 0
Tile10 = Receives 10 (the-banner ∷ [])
