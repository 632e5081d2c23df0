-- What a painted row comes to, whatever the colours are, by the words that painting steps leave and the pieces in their lists.
use Rattle.std.specs.Prelude.{ℕ, ◌+◌, ◌*◌, ◌/◌, ◌<◌, ◌≡◌, true, false, ◌&&◌, cond, List, [], ◌∷◌, get_or, eqb}
use Rattle.std.specs.Prelude.{Option}
use Rattle.sizes.specs.Sizes.{paint-attr-size, layer-attr-size}
use Rattle.rules.specs.Recording.{File}
use Rattle.rules.specs.Answers.{Done}
use Rattle.rules.specs.Boxes.{width, rows_of}
use Rattle.rules.specs.Blends.{destructive}
use Rattle.rules.specs.Plans.{Frame, bucket, Step}
use Rattle.rules.specs.Setups.{Setup}
use Rattle.rules.specs.Walk.{frame-of}
use Rattle.rules.specs.Painting.{received, paint-id}
use Rattle.rules.specs.Plain.{untold, tell-steps}
use Rattle.screen.specs.Tables.{ScreenLent}
use Rattle.paint.specs.Judging.{wide}
use Rattle.paint.specs.Stepping.{part}
use Rattle.walk.specs.Recorded.{recorded}
use Rattle.refine_file.specs.Played.{place}
use Rattle.rules_picture.specs.Recorded.{history, said}
use Rattle.rules_picture.specs.Colours.{Colours, drawn, nested, plain-drawn, if-inside, Opaque}
use Rattle.rules_picture.specs.StoredColours.{newest-over, newest-id}
use Rattle.theorem_picture.specs.Reached.{Reached, begin-at, paint-out, paint-at}
use Rattle.theorem_picture.specs.Turns.{Turn, pieces-in}
use Rattle.theorem_picture.specs.Picture.{finished}
use Rattle.theorem_picture.specs.Recorded.{Accepted}
use Rattle.theorem_picture.specs.Rows.{Call, called, row-finished}
use Rattle.theorem_picture.specs.Standing.{Stands}
use Rattle.theorem_picture.specs.Stored.{stored-row}

-- the nesting of row r, by the painting words
abbrev pub nesting-at : ScreenLent → ℕ → ℕ
nesting-at l r = get_or l.tables.painting (r * 2 + 1) 0

-- the ids of a paint attribute and of a layer attribute, by the words
abbrev pub paint-id-at : ScreenLent → ℕ → ℕ
paint-id-at l i = get_or l.tables.paint-attrs (i * paint-attr-size + 4) 0

abbrev pub layer-id-at : ScreenLent → ℕ → ℕ
layer-id-at l i = get_or l.tables.layer-attrs (i * layer-attr-size + 3) 0

module _ {B : Type 0} (c : Colours B) where
  -- Each done call of the row: its pieces, by its list's words; then a blank buffer on top where the row's nesting word has risen, the top off where it has fallen.
  unfoldable pub words-drawn : ℕ → ℕ → List Turn → ScreenLent → List B → List B
  words-drawn row tile [] l bs = bs
  words-drawn row tile (t ∷ ts) l bs =
      let o = paint-out t.row t.list l in
      let next = paint-at t.row t.list l in
      words-drawn row tile ts next
      (cond (eqb t.row row && eqb o.answer.number Done)
      (nested c (nesting-at l row) (nesting-at next row) (drawn c (received tile (pieces-in o.answer.pieces o.list)) bs))
      bs)

  -- law 2, of the layer attributes that stand in the words: a slot in which none stands has compose 0, which is destructive
  abbrev pub Gentle-at : ScreenLent → Type 0
  Gentle-at l = (i : ℕ) → destructive (get_or l.tables.layer-attrs (i * layer-attr-size + 1) 0) ≡ false → (a : Option ℕ) (b : B) → c.close i a c.blank b ≡ b

-- Take any screen built from its reset by done steps xs, each call given the words that the last one left, with painting freshly begun, and nothing but painting
-- steps ts of its rows from then on, by turns, into lists of any length; and any colours that keep both laws. When row r has finished, what each of its tiles
-- was given comes to the very buffer to which drawing everything in plain order comes.
abbrev pub SamePicture : Type 0 → Type 0
SamePicture B =
    (c : Colours B) (f : Frame) (xs : List Step) (l : ScreenLent) → Reached f xs l → (begin-at l).number ≡ Done
    → (ts : List Turn) (r t : ℕ) → r < rows_of f.viewport → t < width f.viewport / 4
    → finished r ts (begin-at l).value ≡ true
    → Opaque c (tell-steps (bucket f) f.viewport r t xs untold).told → Gentle-at c l
    → words-drawn c r t ts (begin-at l).value (c.blank ∷ [])
    ≡ plain-drawn c (if-inside (bucket f) f.viewport r t) (bucket f) f.viewport r t xs untold (c.blank ∷ [])

-- So it is of what an accepted recording leaves, by the steps of its walk.
abbrev pub RecordingSame : Type 0 → Type 0
RecordingSame B =
    (c : Colours B) (file : File) (q : Setup) (l : ScreenLent) (a : Accepted (place q l) file (recorded file q l).value) → (ts : List Turn) (r t : ℕ)
    → (let f = frame-of (place q l) (said a.words) in
    let xs = history (place q l) (said a.words) in
    let m = (recorded file q l).value in
    r < rows_of f.viewport → t < width f.viewport / 4 → finished r ts (begin-at m).value ≡ true
    → Opaque c (tell-steps (bucket f) f.viewport r t xs untold).told → Gentle-at c m
    → words-drawn c r t ts (begin-at m).value (c.blank ∷ [])
    ≡ plain-drawn c (if-inside (bucket f) f.viewport r t) (bucket f) f.viewport r t xs untold (c.blank ∷ []))

-- Painting begun at the words of a canvas, and painting steps and rows painted by one call, cs, from then on: once row r has finished, the depth word of each tile's
-- bucket is the id of the newest depth fill stored over it, or 0. So a host that goes through what is stored may compare with the word.
abbrev pub WordAt : Type 0
WordAt =
    (f : Frame) (xs : List Step) (l : ScreenLent) (s : Stands f xs l) → (begin-at l).number ≡ Done
    → (cs : List Call) (r t : ℕ) → r < rows_of f.viewport → t < width f.viewport / 4
    → row-finished r cs (begin-at l).value ≡ true
    → (let g = called cs (begin-at l).value in
    get_or (part (wide g.screen) r g.tables.depth.words) (t / bucket f) 0
    ≡ newest-id (paint-id s.canvas.screen.state.attrs) (newest-over (t / bucket f) (stored-row s.canvas r).fills))
