-- Editing one line of the screen: histories that differ in segments outside one row, and what they leave of that row.
use Rattle.std.specs.Prelude.{ℕ, ◌+◌, ◌/◌, ◌<◌, ◌≡◌, true, List, [], ◌∷◌, length, get_or, eqb}
use Rattle.std.specs.Prelude.{Option, None, Some}
use Rattle.rules.specs.Lists.{such, slice}
use Rattle.rules.specs.Boxes.{rows_of}
use Rattle.rules.specs.Segments.{Segment}
use Rattle.rules.specs.Inputs.{Paint, Draw, draw-segments, Clip, Props, Filter}
use Rattle.rules.specs.Rows.{Row, fresh-row}
use Rattle.rules.specs.Plain.{plain}
use Rattle.rules.specs.Plans.{Frame, bucket, Step, a-fill, a-push, a-pop, a-filter, clip-segments}
use Rattle.rules.specs.Steps.{Screen, reset}
use Rattle.rules.specs.Answers.{Done}
use Rattle.rules.specs.Calls.{Canvas, begin-call}
use Rattle.rules.specs.Recording.{Recording, LayerRec, File}
use Rattle.rules.specs.Walk.{Place, frame-of}
use Rattle.rules_picture.specs.Built.{Built}
use Rattle.rules_picture.specs.Recorded.{Readable, said, played}
use Rattle.rules_picture.specs.Turns.{Turn, from, has-finished, painted}

-- the segments of a list that lie in row r of the scene
abbrev pub on-row : ℕ → List Segment → List Segment
on-row r ss = such (λ (s : Segment). eqb s.row r) ss

-- equally many segments, and in row r the same ones in the same order
pub record Beside (r : ℕ) (ss ts : List Segment) : Type 0 where
  pub count : length ss ≡ length ts
  pub own : on-row r ss ≡ on-row r ts

-- a draw, a clip and a layer's properties without the places of their segments
abbrev pub placeless-draw : Draw → Draw
placeless-draw d =
    record { thread = d.thread; start = 0; end = 0; paint = d.paint; blend = d.blend; mask = d.mask; panel = d.panel }

abbrev pub placeless-clip : Option Clip → Option Clip
placeless-clip None = None
placeless-clip (Some c) = Some (record { bounds = c.bounds; start = 0; end = 0; thread = c.thread })

abbrev pub placeless-props : Props → Props
placeless-props p =
    record { blend = p.blend; opacity = p.opacity; mask = p.mask; clip = placeless-clip p.clip; panel = p.panel }

-- the clip of a layer in the one history, and in the other
pub record Clips : Type 0 where
  pub one : Option Clip
  pub other : Option Clip

-- Two histories that differ only in segments outside row r of the scene, each draw and each clip having equally many in both; the layers open before
-- them have the clips cs.
pub data Edited (r : ℕ) : List Clips → List Step → List Step → Type 0 where
  unedited : {cs : List Clips} → Edited r cs [] []
  fill : {cs : List Clips} {xs ys : List Step} (ps : List Paint) (ss ts : List Segment) (d e : Draw)
      → placeless-draw d ≡ placeless-draw e → Beside r (draw-segments ss d) (draw-segments ts e)
      → Edited r cs xs ys → Edited r cs (a-fill ps ss d ∷ xs) (a-fill ps ts e ∷ ys)
  push : {cs : List Clips} {xs ys : List Step} (p q : Props) → placeless-props p ≡ placeless-props q
      → Edited r (record { one = p.clip; other = q.clip } ∷ cs) xs ys → Edited r cs (a-push p ∷ xs) (a-push q ∷ ys)
  pop : {c : Clips} {cs : List Clips} {xs ys : List Step} (ss ts : List Segment)
      → Beside r (clip-segments c.one ss) (clip-segments c.other ts)
      → Edited r cs xs ys → Edited r (c ∷ cs) (a-pop ss ∷ xs) (a-pop ts ∷ ys)
  filter : {cs : List Clips} {xs ys : List Step} (n : ℕ) (f : Filter) (q : ℕ)
      → Edited r cs xs ys → Edited r cs (a-filter n f q ∷ xs) (a-filter n f q ∷ ys)

-- what two screens have in common: row i, with its commands, depth fills, open buffers and depth summary; the next id; every attribute
pub record SameRow (i : ℕ) (u v : Screen Row) : Type 0 where
  pub row : get_or u.rows i fresh-row ≡ get_or v.rows i fresh-row
  pub next : u.state.next ≡ v.state.next
  pub attrs : u.state.attrs ≡ v.state.attrs

-- Two screens built from one reset by histories that differ only in segments outside row i of the screen have that row, the next id and every
-- attribute in common.
abbrev pub Row-unchanged : Type 0
Row-unchanged =
    (f : Frame) (i : ℕ) → i < rows_of f.viewport → (xs ys : List Step) → Edited (i + f.viewport.y0 / 4) [] xs ys
    → (u v : Screen Row) → Built xs (reset fresh-row f) u → Built ys (reset fresh-row f) v → SameRow i u v

-- .. and each tile of that row has the same list in plain draw order.
abbrev pub Line-listed : Type 0
Line-listed =
    (f : Frame) (i : ℕ) → i < rows_of f.viewport → (xs ys : List Step) → Edited (i + f.viewport.y0 / 4) [] xs ys
    → (u v : Screen Row) → Built xs (reset fresh-row f) u → Built ys (reset fresh-row f) v
    → (t : ℕ) → plain (bucket f) f.viewport i t xs ≡ plain (bucket f) f.viewport i t ys

-- two lists, place by place
pub data Alongside {A : Type 0} (P : A → A → Type 0) : List A → List A → Type 0 where
  none : Alongside P [] []
  next : {x y : A} {xs ys : List A} → P x y → Alongside P xs ys → Alongside P (x ∷ xs) (y ∷ ys)

abbrev pub placeless-clip-rec : Clip → Clip
placeless-clip-rec c = record { bounds = c.bounds; start = 0; end = 0; thread = c.thread }

abbrev pub placeless-layer : LayerRec → LayerRec
placeless-layer l =
    record {
      kind = l.kind;
      start = l.start;
      end = l.end;
      blend = l.blend;
      opacity = l.opacity;
      mask = l.mask;
      flag = l.flag;
      clip = placeless-clip-rec l.clip;
      filter = l.filter;
      panel = l.panel;
    }

-- two recordings that differ only in segments which lie outside row r of the scene in both, each range of segments holding equally many
pub record EditedFile (r : ℕ) (a b : Recording) : Type 0 where
  pub viewport : a.viewport ≡ b.viewport
  pub paints : a.paints ≡ b.paints
  pub draws : Alongside (λ (d e : Draw). (placeless-draw d ≡ placeless-draw e) × Beside r (draw-segments a.segments d) (draw-segments b.segments e)) a.draws b.draws
  pub layers : Alongside (λ (l m : LayerRec). (placeless-layer l ≡ placeless-layer m) × Beside r (slice l.clip.start l.clip.end a.segments) (slice m.clip.start m.clip.end b.segments)) a.layers b.layers
  pub nodes : a.nodes ≡ b.nodes
  pub start : a.start ≡ b.start
  pub end : a.end ≡ b.end

-- Played into the same place, whatever the screen was before, and both accepted: row i of the screen, the next id and every attribute are the same.
abbrev pub Line-edited : Type 0
Line-edited =
    (p : Place) (old new : Screen Row) (ws vs : File) (x : Readable ws) (y : Readable vs)
    → (played p old ws).number ≡ Done → (played p new vs).number ≡ Done
    → (i : ℕ) → i < rows_of (frame-of p (said x)).viewport
    → EditedFile (i + (frame-of p (said x)).viewport.y0 / 4) (said x) (said y)
    → SameRow i (played p old ws).value (played p new vs).value

-- So are the pieces of that row, from any turns at painting after which it has finished on either screen.
abbrev pub Line-painted : Type 0
Line-painted =
    (k m : Canvas) (i : ℕ) → SameRow i k.screen m.screen → k.screen.state.frame ≡ m.screen.state.frame
    → (begin-call k).number ≡ Done → (begin-call m).number ≡ Done
    → i < length k.screen.rows → i < length m.screen.rows
    → (ts us : List Turn) → has-finished (painted ts k).canvas i ≡ true → has-finished (painted us m).canvas i ≡ true
    → from i (painted ts k).log ≡ from i (painted us m).log
