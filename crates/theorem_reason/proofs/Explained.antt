-- The call `why` at the words: an accepted recording is walked to its end by the rules, so that its story is told to its end, and the reason read
-- off it is the rules' reason of the file's history. Assumes nothing.
use Rattle.std.proofs.Common.{ℕ, ◌/◌, ◌<◌, ◌≡◌, refl, sym, ap, ◌∙◌, subst, true, false, List, [], Option, replicate}
use Rattle.std.specs.Prelude.{unwrap_or}
use borrow.Author.Tests.{lt-leb}
use Rattle.sizes.specs.Sizes.{line-table}
use Rattle.rules.specs.Answers.{Done}
use Rattle.rules.specs.Boxes.{Box, width, rows_of, good_viewport}
use Rattle.rules.specs.Rows.{Row, fresh-row, row-ops}
use Rattle.rules.specs.Plans.{Frame, bucket}
use Rattle.rules.specs.Steps.{Screen, reset, call}
use Rattle.rules.specs.Painting.{Entry}
use Rattle.rules.specs.Recording.{Recording, recording, File}
use Rattle.rules.specs.Setups.{Setup, frame}
use Rattle.rules.specs.Walk.{Place, frame-of, walk-all}
use Rattle.rules.specs.Logged.{walk-logged}
use Rattle.rules_picture.specs.Compacted.{Kept-up}
use Rattle.rules_picture.proofs.CompactedFollows.{built-kept}
use Rattle.rules_picture.specs.Recorded.{history, Readable, said}
use Rattle.rules_picture.proofs.Walked.{all-walks}
use Rattle.rules_reason.specs.Reasons.{Asked, reason}
use Rattle.screen.specs.Tables.{ScreenLent, reset_to}
use Rattle.walk.specs.Recorded.{recorded-in, recorded}
use Rattle.walk.proofs.Accepted.{reset-judged, good-frame, walk-done}
use Rattle.refine_steps.proofs.Refined.{reset-refines}
use Rattle.refine_steps.proofs.Walks.{walk-refines}
use Rattle.refine_file.specs.Played.{place}
use Rattle.tile.specs.Telling.{Telling, tell-at, nothing-told}
use Rattle.refine_tile.proofs.Walked.{tile-told}
use Rattle.refine_tile.proofs.Reasons as read
use Rattle.rules_reason.specs.Answers.{off-screen}
use Rattle.tile.specs.Explained.{Explained, told_of, explained-of, explained-as, explained}
use Rattle.theorem_picture.specs.Reached.{ReachedAlone}
use Rattle.theorem_picture.proofs.Picture.{picture}
use Rattle.theorem_picture.proofs.Recorded.{recorded-reached}
use Rattle.theorem_picture.proofs.Reached.{alone-reached}
use Rattle.theorem_reason.specs.Reasons.{Listed, Unlisted}
use Rattle.theorem_reason.specs.Explained.{Explained-true, Explained-painted}
use Rattle.theorem_reason.proofs.Reasons.{shown-exact, not-shown}

module _ (ws : File) (q : Setup) (l : ScreenLent) (z : (recorded ws q l).number ≡ Done) (s : Readable ws) where
  abbrev r : Recording
  r = said s

  abbrev p : Place
  p = place q l

  abbrev f : Frame
  f = frame q r.viewport

  there : recorded ws q l ≡ recorded-in r q l
  unfolding recorded
  there = rw s.formed

  accepted : (recorded-in r q l).number ≡ Done
  accepted = rw there at z

  view : good_viewport f.viewport ≡ true
  view = good-frame r q l accepted

  abbrev fresh : Screen Row
  fresh = reset fresh-row (frame-of p r)

  rules-done : (walk-all (Screen Row) (call Row row-ops) r fresh).number ≡ Done
  rules-done =
      sym (walk-refines r fresh (reset_to f l).value (reset-refines f l (reset-judged r q l accepted)).value).number ∙ walk-done r q l accepted

  logged-done : (walk-logged Row row-ops fresh-row (frame-of p r) r).number ≡ Done
  unfolding walk-logged
  logged-done = ((all-walks r).at (record { screen = fresh; log = [] }) (unfold reset in refl)).number ∙ rules-done

  -- its history builds its screen
  history-built : Kept-up (history p r) fresh (walk-logged Row row-ops fresh-row (frame-of p r) r).value.screen
  unfolding walk-logged
  history-built =
      let k = (all-walks r).at (record { screen = fresh; log = [] }) (unfold reset in refl) in
      rw k.log (built-kept (k.built logged-done))

  module _ (row tile : ℕ) (a : Asked) where
    abbrev blank : List ℕ
    blank = replicate line-table 0

    told : (walk-all Telling (tell-at (bucket f) f.viewport row tile) r (nothing-told blank)).number ≡ Done
    told = (tile-told (bucket f) (frame-of p r) r row tile blank view logged-done).0

    answers : explained ws q row tile a l ≡ explained-of f r row tile a (recorded ws q l).value
    unfolding explained
    answers = rw (z, s.formed)

    on-screen : off-screen f.viewport row tile ≡ false
        → explained-of f r row tile a (recorded ws q l).value ≡ explained-as Done (recorded ws q l).value (reason (bucket f) f.viewport row tile (history p r) a)
    unfolding explained-of told_of
    on-screen e = rw (e, told) (ap (explained-as Done (recorded ws q l).value) (read.reason-told (bucket f) (frame-of p r) r row tile blank view logged-done a))

    explains : off-screen f.viewport row tile ≡ false
        → explained ws q row tile a l ≡ explained-as Done (recorded ws q l).value (reason (bucket f) f.viewport row tile (history p r) a)
    explains e = answers ∙ on-screen e

pub explained-true : Explained-true
explained-true ws q l z r row tile e a = explains ws q l z r row tile a e

-- a row and a tile of the screen
pub there-on : (v : Box) (row tile : ℕ) → row < rows_of v → tile < width v / 4 → off-screen v row tile ≡ false
there-on v row tile h k = rw (lt-leb (rows_of v) row h, lt-leb (width v / 4) tile k)

pub explained-painted : Explained-painted
explained-painted ws q l z r row tile h k ts fin a =
    let p = place q l in
    let f = frame q (said r).viewport in
    let v = f.viewport in
    let xs = history p (said r) in
    let m = recorded-reached ws q l z in
    let parts : m.words.parts ≡ r.parts = ap (λ (o : Option (List (List (List ℕ)))). unwrap_or o []) (sym m.words.formed ∙ r.formed) in
    let reached = subst (λ (ss : List (List (List ℕ))). ReachedAlone (frame-of p (recording ss)) (history p (recording ss)) (recorded ws q l).value) parts m.reached in
    let same = sym (picture (frame-of p (said r)) xs (recorded ws q l).value (alone-reached _ _ _ reached) m.begins ts row tile h k fin) in
    let gives : (explained ws q row tile a l).reason ≡ reason (bucket f) v row tile xs a = ap (λ (x : Explained). x.reason) (explains ws q l z r row tile a (there-on v row tile h k)) in
    let u = (walk-logged Row row-ops fresh-row (frame-of p (said r)) (said r)).value.screen in
    let good = view ws q l z r in
    let built = history-built ws q l z r in
    record {
      shown = λ n m e. subst (λ (es : List Entry). Listed a n m es) same ((shown-exact (frame-of p (said r)) xs u good built row tile a n m).0 (sym gives ∙ e));
      other = λ n. subst (λ (es : List Entry). Unlisted a es) same (not-shown (frame-of p (said r)) xs u good built row tile a (λ m o e. n m o (gives ∙ e)));
    }
