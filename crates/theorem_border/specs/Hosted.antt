-- What a host holds from call to call, and the `coarse_` calls on it: each by the definition that its contract cites.
use Rattle.std.specs.Prelude.{ℕ, ◌≡◌, Bool, true, false, List, [], ◌∷◌, ◌++◌, Float, ℤ}
use Rattle.std.specs.Prelude.{Ok}
use Rattle.sizes.specs.Sizes.{most-rows}
use Rattle.rules.specs.Recording.{File}
use Rattle.rules.specs.Answers.{Answer, answer, Done}
use Rattle.rules.specs.Spans.{Span}
use Rattle.rules.specs.Inputs.{Clip}
use Rattle.rules.specs.Plans.{Frame, Step, a-push}
use Rattle.rules.specs.Setups.{Setup, frame}
use Rattle.rules.specs.Walk.{Place, frame-of}
use Rattle.rect.specs.declared.Rect.{Rect}
use Rattle.rect.specs.Rects.{box_of}
use Rattle.row.specs.Words.{Words}
use Rattle.screen.specs.Judging.{arenas}
use Rattle.screen.specs.Depths.{Depths}
use Rattle.screen.specs.Tables.{Tables, tables, lengths}
use Rattle.inputs.specs.declared.Draw.{Draw}
use Rattle.pop.specs.Pop as pop
use Rattle.layers.specs.Filter.{given}
use Rattle.paint.specs.Painting as paint
use Rattle.paint.specs.Stepping.{Attributes, attributes}
use Rattle.walk.specs.Steps.{rows_words}
use Rattle.rules_picture.specs.Recorded.{history, Readable, said}
use Rattle.theorem_picture.specs.Calls.{fill-said, pop-said, filter-said}
use Rattle.host.specs.declared.state.SetupWords.{SetupWords}
use Rattle.host.specs.Asked.{FileWords, asked_setup, told_file}
use Rattle.host.specs.Building.{reset_call, used_call, recording_call, fill_call, said-props, props, push_call, pop_call, filter-in, picture, filter_call}
use Rattle.host.specs.Painting.{begin_call, step_call, row_call, write_call}
use Rattle.host.specs.Compacted.{compact_call}

-- the state's words and the ten tables
pub record Host : Type 0 where
  pub state : List ℕ
  pub tables : Tables

abbrev pub host : List ℕ → Tables → Host
host st t = record { state = st; tables = t }

-- the tables with other rows, layers, opacities and attributes
abbrev pub with_rows : Tables → Words → List ℕ → List Float → List ℕ → List ℕ → List ℤ → Tables
with_rows t w ls os pas las fps = tables w.render w.fills t.depth w.state t.painting ls os pas las fps

-- .. with other depth words and minima, and other painting words
abbrev pub with-painting : Tables → Depths → List ℕ → Tables
with-painting t depth painting =
    tables t.render t.fills depth t.rows painting t.layers t.opacities t.paint-attrs t.layer-attrs t.filter-paints

-- the setup that a host's words ask for
abbrev pub Asks : SetupWords → Setup → Type 0
Asks w q = Ok q ≡ asked_setup w

-- the file that a host's number and words say
abbrev pub Says : FileWords → File → Type 0
Says f file = Ok file ≡ told_file f

-- `coarse_reset`
unfoldable pub reset-at : Rect → SetupWords → Host → Answer Host
reset-at v w h = let a = reset_call v w h.state h.tables in answer a.number (host a.value.0 a.value.1)

-- `coarse_reset_used`
unfoldable pub used-at : Host → Answer Host
used-at h = let a = used_call h.state h.tables in answer a.number (host a.value.0 a.value.1)

-- `coarse_bucket_recording`: any number as the edition, any words
unfoldable pub recording-at : FileWords → SetupWords → Host → Answer Host
recording-at f w h = let a = recording_call f w h.state h.tables in answer a.number (host a.value.0 a.value.1)

-- `coarse_fill`: any words as paints and as segments
unfoldable pub fill-at : List ℕ → List ℕ → Draw → Host → Answer Host
fill-at ps ss d h =
    let t = h.tables in
    let a = fill_call ps ss d h.state (rows_words t) t.paint-attrs in
    answer a.number (host a.value.0 (with_rows t a.value.1 t.layers t.opacities a.value.2 t.layer-attrs t.filter-paints))

-- `coarse_push_layer`: any numbers
unfoldable pub push_at : ℕ → ℕ → ℕ → ℕ → ℕ → Clip → ℕ → Host → Answer Host
push_at mix compose opacity mask flag clip panel h =
    let t = h.tables in
    let a = push_call flag (props mix compose opacity mask flag clip panel) h.state (rows_words t) t.layers t.opacities in
    answer a.number (host a.value.0 (with_rows t a.value.1 a.value.2 a.value.3 t.paint-attrs t.layer-attrs t.filter-paints))

abbrev pub push-said : ℕ → ℕ → ℕ → ℕ → ℕ → Clip → ℕ → Step
push-said mix compose opacity mask flag clip panel =
    a-push (said-props mix compose opacity mask flag clip panel)

-- `coarse_pop_layer`: any words as segments
unfoldable pub pop-at : List ℕ → Host → Answer Host
pop-at ss h =
    let t = h.tables in
    let a = pop_call ss h.state (pop.pop_lent (rows_words t) t.layers t.opacities t.layer-attrs) in
    let l = a.value.1 in
    answer a.number (host a.value.0 (with_rows t l.words l.layers l.opacities t.paint-attrs l.attrs t.filter-paints))

-- `coarse_filter_fill`: any box and place in the picture, any flag and handle, beside a list of n paints, any panel q
unfoldable pub filter-at : Rect → ℕ → ℕ → ℕ → ℕ → ℕ → ℕ → Host → Answer Host
filter-at dest x y flag m n q h =
    let t = h.tables in
    let a = filter_call flag (given (filter-in dest x y (picture flag m)) n q) h.state (rows_words t) t.paint-attrs t.filter-paints in
    answer a.number (host a.value.0 (with_rows t a.value.1 t.layers t.opacities a.value.2 t.layer-attrs a.value.3))

-- `coarse_begin_painting`
unfoldable pub begin-at : Host → Answer Host
begin-at h =
    let a = begin_call h.state h.tables.depth h.tables.painting in
    answer a.number (host a.value.0 (with-painting h.tables a.value.1 a.value.2))

-- one call of `coarse_paint_step` or of `coarse_paint_row`: any row, there or not, the words of any list, any result words
pub record Turn : Type 0 where
  pub row : ℕ
  pub list : List ℕ
  pub result : List ℕ

pub data Call : Type 0 where
  one-step : Turn → Call
  whole_row : Turn → Call

abbrev pub turn_in : Call → Turn
turn_in (one-step t) = t
turn_in (whole_row t) = t

abbrev pub own-attributes : Host → Attributes
own-attributes h = attributes h.tables.paint-attrs h.tables.layer-attrs

abbrev pub own-words : List ℕ → Host → paint.RowLent
own-words list h = let t = h.tables in paint.words_lent t.rows t.render t.fills t.depth t.painting list

-- its number; the depth words with their minima, the painting words, the list and the result afterwards
unfoldable pub paint-out : Call → Host → Answer (Depths × List ℕ × List ℕ × List ℕ)
paint-out (one-step t) h = step_call t.row (own-attributes h) h.state (own-words t.list h) t.result
paint-out (whole_row t) h = row_call t.row (own-attributes h) h.state (own-words t.list h) t.result

abbrev pub paint-at : Call → Host → Host
paint-at c h = let o = (paint-out c h).value in host h.state (with-painting h.tables o.0 o.1)

-- `coarse_unset_runs_and_write` over the buckets t of row i with an id
unfoldable pub write-at : ℕ → ℕ → Span → List ℕ → List ℕ → Host → Host
write-at i id t list count h =
    let a = write_call i t id h.state h.tables.depth list count in
    host a.value.0 (with-painting h.tables a.value.1 h.tables.painting)

-- `coarse_compact_row` of row i
unfoldable pub compact-at : ℕ → Host → Answer Host
compact-at i h =
    let t = h.tables in
    let a = compact_call i (own-attributes h) h.state (rows_words t) in
    answer a.number (host a.value.0 (with_rows t a.value.1 t.layers t.opacities t.paint-attrs t.layer-attrs t.filter-paints))

-- where a recording is played: the setup, and how much is lent of the arenas
abbrev pub place : Setup → Host → Place
place q h = record { limit = most-rows; setup = q; arenas = arenas (lengths h.tables) }

-- A host's words after a done `coarse_reset` to the frame f, or a done recording, on any words whatever, and then `coarse_` calls, each given
-- what the last one left; xs are the steps that the done building calls say, in order. f is the frame that the reset makes of what it is asked: in
-- snapping mode it has the snapped box, and everything said of f speaks of that box. Painting calls and writing runs may come between, done or
-- refused, and so may `coarse_compact_row` of any row if c is true. The other calls write nothing but their results; a refused building call leaves every word as it was, and a refused recording too, or
-- it is a reset (`recording-refused`): they need no case. A done reset or recording was asked for some setup, and a recording's number said an edition
-- (`reset-asks`, `recording-accepted`).
pub data HostedBy : Bool → Frame → List Step → Host → Type 0 where
  by-reset : {c : Bool} (v : Rect) (w : SetupWords) (q : Setup) (h : Host) → Asks w q → (reset-at v w h).number ≡ Done → HostedBy c (frame q (box_of v)) [] (reset-at v w h).value
  by-recording : {c : Bool} (f : FileWords) (file : File) (w : SetupWords) (q : Setup) (h : Host) (r : Readable file) → Says f file → Asks w q
      → (recording-at f w h).number ≡ Done → HostedBy c (frame-of (place q h) (said r)) (history (place q h) (said r)) (recording-at f w h).value
  by-fill : {c : Bool} {f : Frame} {xs : List Step} {h : Host} (ps ss : List ℕ) (d : Draw) → HostedBy c f xs h → (fill-at ps ss d h).number ≡ Done
      → HostedBy c f (xs ++ (fill-said ps ss d ∷ [])) (fill-at ps ss d h).value
  by-push : {c : Bool} {f : Frame} {xs : List Step} {h : Host} (mix compose opacity mask flag : ℕ) (clip : Clip) (panel : ℕ) → HostedBy c f xs h
      → (push_at mix compose opacity mask flag clip panel h).number ≡ Done
      → HostedBy c f (xs ++ (push-said mix compose opacity mask flag clip panel ∷ [])) (push_at mix compose opacity mask flag clip panel h).value
  by-pop : {c : Bool} {f : Frame} {xs : List Step} {h : Host} (ss : List ℕ) → HostedBy c f xs h → (pop-at ss h).number ≡ Done
      → HostedBy c f (xs ++ (pop-said ss ∷ [])) (pop-at ss h).value
  by-filter : {c : Bool} {f : Frame} {xs : List Step} {h : Host} (dest : Rect) (x y flag m n q : ℕ) → HostedBy c f xs h → (filter-at dest x y flag m n q h).number ≡ Done
      → HostedBy c f (xs ++ (filter-said (given (filter-in dest x y (picture flag m)) n q) ∷ [])) (filter-at dest x y flag m n q h).value
  by-begin : {c : Bool} {f : Frame} {xs : List Step} {h : Host} → HostedBy c f xs h → HostedBy c f xs (begin-at h).value
  by-paint : {c : Bool} {f : Frame} {xs : List Step} {h : Host} (k : Call) → HostedBy c f xs h → HostedBy c f xs (paint-at k h)
  by-write : {c : Bool} {f : Frame} {xs : List Step} {h : Host} (i id : ℕ) (t : Span) (list count : List ℕ) → HostedBy c f xs h
      → HostedBy c f xs (write-at i id t list count h)
  by-compact : {f : Frame} {xs : List Step} {h : Host} (i : ℕ) → HostedBy true f xs h → HostedBy true f xs (compact-at i h).value

-- by any of these calls
abbrev pub Hosted : Frame → List Step → Host → Type 0
Hosted = HostedBy true

-- by all but `coarse_compact_row`
abbrev pub HostedAlone : Frame → List Step → Host → Type 0
HostedAlone = HostedBy false

-- The second is a case of the first.
abbrev pub AloneHosted : Type 0
AloneHosted = (f : Frame) (xs : List Step) (h : Host) → HostedAlone f xs h → Hosted f xs h
