-- What a painted row comes to, whatever the colours are, about the calls that a host links: by its painting steps and the nesting that it reads between them, and by the
-- commands and depth fills that it reads of a row, however that row is painted.
use Rattle.std.specs.Prelude.{ℕ, zero, suc, ◌+◌, ◌*◌, ◌/◌, ◌<◌, ◌≡◌, true, false, ◌&&◌, ◌||◌, cond, List, [], ◌∷◌, map, get_or, leb, eqb, None, Some}
use Rattle.std.specs.Prelude.{Option}
use Rattle.sizes.specs.Sizes.{paint-attr-size, layer-attr-size}
use Rattle.rules.specs.Answers.{Done}
use Rattle.rules.specs.Boxes.{width, rows_of}
use Rattle.rules.specs.Blends.{destructive}
use Rattle.rules.specs.Spans.{span}
use Rattle.rules.specs.Commands.{Command, paint-fill, layer-fill, push-buf, pop-buf, DepthFill}
use Rattle.rules.specs.Plans.{Frame, bucket, Step}
use Rattle.rules.specs.Painting.{received}
use Rattle.rules.specs.Plain.{untold, tell-steps}
use Rattle.paint.specs.Judging.{wide}
use Rattle.paint.specs.Stepping.{part}
use Rattle.walk.specs.Steps.{rows_words}
use Rattle.rules_picture.specs.Colours.{Colours, drawn, nested, plain-drawn, if-inside, Opaque}
use Rattle.rules_picture.specs.StoredColours.{newest-over, newest-id, stored-drawn}
use Rattle.host.specs.State.{screen-at}
use Rattle.host.specs.Reading.{lengths_call, cmd_call, depth_call, progress_call}
use Rattle.theorem_border.specs.Hosted.{Host, Hosted, Turn, Call, one-step, begin-at, paint-out, paint-at}
use Rattle.theorem_border.specs.Border.{gave-words, painted, finished}

-- the nesting of row r, by the second word that `coarse_progress` gives
abbrev pub nesting-read : ℕ → Host → ℕ
nesting-read r h = get_or (progress_call r h.tables.painting h.state (0 ∷ 0 ∷ [])).value 1 0

module _ {B : Type 0} (c : Colours B) where
  -- Each done step of the row: its pieces; then a blank buffer on top where the nesting has risen, the top off where it has fallen.
  unfoldable pub steps-drawn : ℕ → ℕ → List Turn → Host → List B → List B
  steps-drawn row tile [] h bs = bs
  steps-drawn row tile (t ∷ ts) h bs =
      let o = gave-words t.row (paint-out (one-step t) h) in
      let next = paint-at (one-step t) h in
      steps-drawn row tile ts next
      (cond (eqb t.row row && eqb o.number Done) (nested c (nesting-read row h) (nesting-read row next) (drawn c (received tile o.pieces) bs)) bs)

  -- law 2, by the compose words of the layer attributes' table: a slot in which none stands has 0, which is destructive
  abbrev pub Gentle-host : Host → Type 0
  Gentle-host h = (i : ℕ) → destructive (get_or h.tables.layer-attrs (i * layer-attr-size + 1) 0) ≡ false → (a : Option ℕ) (b : B) → c.close i a c.blank b ≡ b

-- the command that the five words of `coarse_render_cmd` say, and the depth fill that the three of `coarse_depth_cmd` say
abbrev pub cmd-said : List ℕ → Command
cmd-said ws =
    let tag = get_or ws 0 0 in
    let s = span (get_or ws 1 0) (get_or ws 2 0) in
    let a : Option ℕ = cond (eqb tag 2 || eqb tag 4) (Some (get_or ws 3 0)) None in
    cond (leb tag 2) (paint-fill s a (get_or ws 4 0))
    (cond (leb tag 4) (layer-fill s a (get_or ws 4 0)) (cond (leb tag 6) (push-buf (cond (eqb tag 6) (Some s) None)) pop-buf))

abbrev pub depth-said : List ℕ → DepthFill
depth-said ws = record { buckets = span (get_or ws 0 0) (get_or ws 1 0); attribute = get_or ws 2 0 }

-- n things, read by their numbers from i on
unfoldable pub read-from : {A : Type 0} → (ℕ → A) → ℕ → ℕ → List A
read-from f i zero = []
read-from f i (suc n) = f i ∷ read-from f (suc i) n

-- the commands and the depth fills of row r, as many as `coarse_row_lengths` says
abbrev pub commands-read : ℕ → Host → List Command
commands-read r h =
    read-from (λ (i : ℕ). cmd-said (cmd_call r (rows_words h.tables) i h.state (0 ∷ 0 ∷ 0 ∷ 0 ∷ 0 ∷ [])).value) 0
    (get_or (lengths_call r (rows_words h.tables) h.state (0 ∷ 0 ∷ [])).value 0 0)

abbrev pub fills-read : ℕ → Host → List DepthFill
fills-read r h =
    read-from (λ (i : ℕ). depth-said (depth_call r (rows_words h.tables) i h.state (0 ∷ 0 ∷ 0 ∷ [])).value) 0
    (get_or (lengths_call r (rows_words h.tables) h.state (0 ∷ 0 ∷ [])).value 1 0)

-- the ids of a paint attribute and of a layer attribute, by their tables
abbrev pub paint-id-read : Host → ℕ → ℕ
paint-id-read h i = get_or h.tables.paint-attrs (i * paint-attr-size + 4) 0

abbrev pub layer-id-read : Host → ℕ → ℕ
layer-id-read h i = get_or h.tables.layer-attrs (i * layer-attr-size + 3) 0

-- A host has called what it likes, xs are its done building calls, and `coarse_begin_painting` has just answered 0. From then on it calls nothing but painting steps,
-- ts, and reads the nesting before and after each; and its colours keep both laws. When row r has finished, what each of its tiles was given comes to the very
-- buffer to which drawing everything in plain order comes.
abbrev pub SamePicture : Type 0 → Type 0
SamePicture B =
    (c : Colours B) (f : Frame) (xs : List Step) (h : Host) → Hosted f xs h → (begin-at h).number ≡ Done
    → (ts : List Turn) (r t : ℕ) → r < rows_of f.viewport → t < width f.viewport / 4
    → finished r (map one-step ts) (begin-at h).value ≡ true
    → Opaque c (tell-steps (bucket f) f.viewport r t xs untold).told → Gentle-host c h
    → steps-drawn c r t ts (begin-at h).value (c.blank ∷ [])
    ≡ plain-drawn c (if-inside (bucket f) f.viewport r t) (bucket f) f.viewport r t xs untold (c.blank ∷ [])

-- Or it calls painting steps and rows painted by one call, cs, in any mixture, and reads what is stored for the row at any moment. The newest depth fill over the tile's bucket,
-- then the commands that are no older, come to that very buffer.
abbrev pub SameStored : Type 0 → Type 0
SameStored B =
    (c : Colours B) (f : Frame) (xs : List Step) (h : Host) → Hosted f xs h → (begin-at h).number ≡ Done
    → (cs : List Call) (r t : ℕ) → r < rows_of f.viewport → t < width f.viewport / 4
    → Opaque c (tell-steps (bucket f) f.viewport r t xs untold).told → Gentle-host c h
    → (let g = painted cs (begin-at h).value in
    stored-drawn c (paint-id-read g) (layer-id-read g) t (bucket f) (fills-read r g) (commands-read r g) (c.blank ∷ [])
    ≡ plain-drawn c (if-inside (bucket f) f.viewport r t) (bucket f) f.viewport r t xs untold (c.blank ∷ []))

-- Once row r has finished, the depth word of each tile's bucket is the id of that newest depth fill, or 0 where there is none.
abbrev pub WordRead : Type 0
WordRead =
    (f : Frame) (xs : List Step) (h : Host) → Hosted f xs h → (begin-at h).number ≡ Done
    → (cs : List Call) (r t : ℕ) → r < rows_of f.viewport → t < width f.viewport / 4
    → finished r cs (begin-at h).value ≡ true
    → (let g = painted cs (begin-at h).value in
    get_or (part (wide (screen-at g.state)) r g.tables.depth.words) (t / bucket f) 0 ≡ newest-id (paint-id-read g) (newest-over (t / bucket f) (fills-read r g)))
