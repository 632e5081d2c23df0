-- The picture, `can_skip` and recordings about the calls that a host links, by the words that it reads.
use Rattle.std.specs.Prelude.{ℕ, ◌/◌, ◌≤◌, ◌<◌, ◌≡◌, Bool, true, ◌&&◌, ◌||◌, cond, List, [], ◌∷◌, get_or, eqb}
use Rattle.sizes.specs.Widths.{bucket-tiles}
use Rattle.rules.specs.Recording.{File}
use Rattle.rules.specs.Answers.{Answer, answer, Done, BadForm}
use Rattle.rules.specs.Boxes.{width, rows_of}
use Rattle.rules.specs.Spans.{Span}
use Rattle.rules.specs.Plans.{Frame, bucket, Step}
use Rattle.rules.specs.Setups.{Setup}
use Rattle.rules.specs.Painting.{received}
use Rattle.rules.specs.Plain.{plain}
use Rattle.rules.specs.Walk.{frame-of}
use Rattle.rect.specs.declared.Rect.{Rect}
use Rattle.rect.specs.Rects.{rect-of}
use Rattle.screen.specs.Depths.{Depths}
use Rattle.paint.specs.Judging.{wide}
use Rattle.paint.specs.Stepping.{part}
use Rattle.rules_picture.specs.Turns.{Gave, from, said-finished}
use Rattle.rules_picture.specs.Recorded.{history, Readable, said}
use Rattle.theorem_picture.specs.Turns.{pieces-in}
use Rattle.host.specs.declared.state.SetupWords.{SetupWords}
use Rattle.host.specs.Asked.{FileWords}
use Rattle.host.specs.State.{screen-at}
use Rattle.host.specs.Painting.{skip_call}
use Rattle.theorem_border.specs.Hosted.{Host, Hosted, HostedAlone, Asks, Says, Call, one-step, turn_in, paint-out, paint-at, place, reset-at, recording-at, begin-at}

-- What a host reads after a painting call of row r. Done: the first result word is 1 where the row has finished, the second says how many
-- pieces stand in the list. Refused: nothing.
abbrev pub gave-words : ℕ → Answer (Depths × List ℕ × List ℕ × List ℕ) → Gave
gave-words r a =
    record {
      row = r;
      number = a.number;
      finished = eqb a.number Done && eqb (get_or a.value.3 0 0) 1;
      pieces = cond (eqb a.number Done) (pieces-in (get_or a.value.3 1 0) a.value.2) [];
    }

-- the words after painting calls, one after the other, each done or refused
unfoldable pub painted : List Call → Host → Host
painted [] h = h
painted (c ∷ cs) h = painted cs (paint-at c h)

-- .. and what each gave, in the order of the calls
unfoldable pub log : List Call → Host → List Gave
log [] h = []
log (c ∷ cs) h = gave-words (turn_in c).row (paint-out c h) ∷ log cs (paint-at c h)

-- nothing is left of row r: a further step, with no room for a piece, says finished
abbrev pub finished-at : Host → ℕ → Bool
finished-at h r = (gave-words r (paint-out (one-step (record { row = r; list = []; result = 0 ∷ 0 ∷ [] })) h)).finished

-- row r has finished after the calls cs on the words h: one of its calls said so, or its next step does
abbrev pub finished : ℕ → List Call → Host → Bool
finished r cs h = said-finished r (log cs h) || finished-at (painted cs h) r

-- The picture. A host has reset a screen to the frame f, or played a recording, and has called what it likes, each call given what the last one left; xs are its
-- done building calls, and `coarse_begin_painting` has just answered 0. From then on it calls nothing but painting steps and rows painted by
-- one call, cs. When row r has finished, each of its tiles has received, by the words of the calls' lists, exactly what plain draw order gives
-- it, in that order and at that nesting, less what came before the newest eligible solid segment that, once cut to the screen, covers the
-- tile's whole bucket; where there is none, it has received everything.
abbrev pub Picture : Type 0
Picture =
    (f : Frame) (xs : List Step) (h : Host) → Hosted f xs h → (begin-at h).number ≡ Done
    → (cs : List Call) (r t : ℕ) → r < rows_of f.viewport → t < width f.viewport / 4
    → finished r cs (begin-at h).value ≡ true
    → received t (from r (log cs (begin-at h).value)) ≡ plain (bucket f) f.viewport r t xs

-- Where painting goes on, by the state's painting word, and `coarse_can_skip` of the tiles t of row r and an id answers 0 with the word 1: the
-- depth word of each tile's bucket lets the id through.
abbrev pub Clear : Host → Type 0
Clear h =
    get_or h.state 15 0 ≡ 1 → (r : ℕ) (t : Span) (id : ℕ) (old : List ℕ)
    → skip_call r t id h.state h.tables.rows old ≡ answer Done (1 ∷ [])
    → (x : ℕ) → t.first ≤ x → x < t.end
    → get_or (part (wide (screen-at h.state)) r h.tables.depth.words) (x / bucket-tiles (screen-at h.state).width) 0 ≤ id

-- What a recording leaves. Accepted: its number said an edition, its words asked for a setup; words that are `HostedAlone` by the steps of its walk, and painting can
-- begin there.
pub record Accepted (f : FileWords) (w : SetupWords) (h : Host) : Type 0 where
  pub file : File
  pub says : Says f file
  pub setup : Setup
  pub asks : Asks w setup
  pub words : Readable file
  pub hosted : HostedAlone (frame-of (place setup h) (said words)) (history (place setup h) (said words)) (recording-at f w h).value
  pub begins : (begin-at (recording-at f w h).value).number ≡ Done

-- Refused: every word as it was; or, with a number past 3, what a reset to the file's viewport leaves.
pub data Refused (f : FileWords) (w : SetupWords) (h : Host) : Type 0 where
  kept : (recording-at f w h).value ≡ h → Refused f w h
  emptied : (file : File) → Says f file → (words : Readable file) → BadForm < (recording-at f w h).number
      → (reset-at (rect-of (said words).viewport) w h).number ≡ Done
      → (recording-at f w h).value ≡ (reset-at (rect-of (said words).viewport) w h).value → Refused f w h

-- Painting ends: once `coarse_begin_painting` has answered 0, there are painting calls after which every row has finished.
abbrev pub Finishes : Type 0
Finishes =
    (f : Frame) (xs : List Step) (h : Host) → Hosted f xs h → (begin-at h).number ≡ Done
    → (cs : List Call) × ((r : ℕ) → r < rows_of f.viewport → finished r cs (begin-at h).value ≡ true)

-- An accepted recording leaves hosted words, reached by the steps of its walk, and painting can begin there: the picture speaks of it.
abbrev pub RecordingAccepted : Type 0
RecordingAccepted = (f : FileWords) (w : SetupWords) (h : Host) → (recording-at f w h).number ≡ Done → Accepted f w h

-- A refused one leaves every word as it was, or what a reset to the file's viewport leaves.
abbrev pub RecordingRefused : Type 0
RecordingRefused = (f : FileWords) (w : SetupWords) (h : Host) → ((recording-at f w h).number ≡ Done → ⊥) → Refused f w h

-- With 1, 2 or 3 it leaves them as they were.
abbrev pub RecordingEarly : Type 0
RecordingEarly =
    (f : FileWords) (w : SetupWords) (h : Host) → 0 < (recording-at f w h).number → (recording-at f w h).number ≤ 3
    → (recording-at f w h).value ≡ h

-- A done reset was asked for a setup.
abbrev pub ResetAsks : Type 0
ResetAsks = (v : Rect) (w : SetupWords) (h : Host) → (reset-at v w h).number ≡ Done → (q : Setup) × Asks w q
