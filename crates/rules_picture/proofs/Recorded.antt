-- What playing a recording leaves: built by its history with no layer open, or freshly reset, or as it was; and what its tiles receive.
use Rattle.std.proofs.Common.{ℕ, ◌/◌, ◌≤◌, ◌<◌, arith, ◌≡◌, refl, sym, ◌∙◌, ap, true, false, cond, Option, None, Some, List, [], leb, eqb, eqb-true, le-leb}
use borrow.Author.Tests.{lt-leb}
use Rattle.rules.specs.Answers.{Answer, answer, settle, Done, BadForm}
use Rattle.rules.specs.Boxes.{width, rows_of}
use Rattle.rules.specs.Rows.{Row, row-ops, fresh-row}
use Rattle.rules.specs.Plans.{bucket}
use Rattle.rules.specs.Steps.{Screen, reset, call}
use Rattle.rules.specs.Recording.{Recording, File, parsed, recording}
use Rattle.rules.specs.Walk.{Place, frame-of, judge-records, play-records, play, walk-all}
use Rattle.rules.specs.Logged.{walk-logged}
use Rattle.rules.specs.Painting.{received}
use Rattle.rules.specs.Plain.{plain}
use Rattle.rules.specs.Calls.{Canvas, begin-call}
use Rattle.rules_picture.specs.Built.{Built}
use Rattle.rules_picture.specs.Turns.{Turn, from, has-finished, painted}
use Rattle.rules_picture.specs.Recorded.{played, history, said, Accepted, LeftReset}
use Rattle.rules_picture.proofs.Cases.{by}
use Rattle.rules_picture.proofs.Walked.{not_done, Same, Walked, all-walks}
use Rattle.rules_picture.proofs.Picture.{picture}

module _ (p : Place) (old : Screen Row) where
  -- the walk of a recording, from the reset
  abbrev walk : Recording → Answer (Screen Row)
  walk r = walk-all (Screen Row) (call Row row-ops) r (reset fresh-row (frame-of p r))

  walked : (r : Recording) → Walked (Same []) (walk-logged Row row-ops fresh-row (frame-of p r) r) (walk r) (record { screen = reset fresh-row (frame-of p r); log = [] })
  unfolding walk-logged
  walked r = (all-walks r).at (record { screen = reset fresh-row (frame-of p r); log = [] }) (unfold reset in refl)

  -- a recording by what its judgement and its walk answer
  play-walked : (r : Recording) → eqb (judge-records p r) Done ≡ true → play-records (Screen Row) (call Row row-ops) (reset fresh-row) p old r ≡ settle (walk r).number (reset fresh-row (frame-of p r)) (walk r).value
  unfolding play-records
  play-walked r y = rw (y, play-records)

  play-judged : (r : Recording) → eqb (judge-records p r) Done ≡ false
      → play-records (Screen Row) (call Row row-ops) (reset fresh-row) p old r ≡ answer (judge-records p r) (cond (leb (judge-records p r) BadForm) old (reset fresh-row (frame-of p r)))
  unfolding play-records
  play-judged r n = rw (n, play-records)

  play-done : (r : Recording) → eqb (judge-records p r) Done ≡ true → eqb (walk r).number Done ≡ true → play-records (Screen Row) (call Row row-ops) (reset fresh-row) p old r ≡ walk r
  play-done r y z = play-walked r y ∙ rw z (ap (λ (n : ℕ). answer n (walk r).value) (sym (eqb-true (walk r).number Done z)))

  play-stopped : (r : Recording) → eqb (judge-records p r) Done ≡ true → eqb (walk r).number Done ≡ false
      → play-records (Screen Row) (call Row row-ops) (reset fresh-row) p old r ≡ answer (walk r).number (reset fresh-row (frame-of p r))
  play-stopped r y z = play-walked r y ∙ rw z

  pub records-done : (r : Recording) → (play-records (Screen Row) (call Row row-ops) (reset fresh-row) p old r).number ≡ Done
      → Built (history p r) (reset fresh-row (frame-of p r)) (play-records (Screen Row) (call Row row-ops) (reset fresh-row) p old r).value × ((play-records (Screen Row) (call Row row-ops) (reset fresh-row) p old r).value.state.layers ≡ [])
  records-done r e = by (eqb (judge-records p r) Done)
      (λ y. by (eqb (walk r).number Done)
      (λ z.
      let k = walked r in
      let d = k.number ∙ eqb-true (walk r).number Done z in
      let b : Built (history p r) (reset fresh-row (frame-of p r)) (walk-logged Row row-ops fresh-row (frame-of p r) r).value.screen = rw k.log (k.built d) in
      rw (play-done r y z, ← k.screen) (b, k.layers d))
      (λ z. absurd (not_done z (sym (ap (λ (a : Answer (Screen Row)). a.number) (play-stopped r y z)) ∙ e))))
      (λ n. absurd (not_done n (sym (ap (λ (a : Answer (Screen Row)). a.number) (play-judged r n)) ∙ e)))

  -- where a recording is played to its end its walk with a log is done
  pub records-walked : (r : Recording) → (play-records (Screen Row) (call Row row-ops) (reset fresh-row) p old r).number ≡ Done
      → (walk-logged Row row-ops fresh-row (frame-of p r) r).number ≡ Done
  records-walked r e = by (eqb (judge-records p r) Done)
      (λ y. by (eqb (walk r).number Done)
      (λ z. (walked r).number ∙ eqb-true (walk r).number Done z)
      (λ z. absurd (not_done z (sym (ap (λ (a : Answer (Screen Row)). a.number) (play-stopped r y z)) ∙ e))))
      (λ n. absurd (not_done n (sym (ap (λ (a : Answer (Screen Row)). a.number) (play-judged r n)) ∙ e)))

  walk-late : (r : Recording) → eqb (walk r).number Done ≡ false → 3 < (walk r).number
  walk-late r z = let k = walked r in rw k.number at (k.late (rw k.number z))

  records-early : (r : Recording) → 0 < (play-records (Screen Row) (call Row row-ops) (reset fresh-row) p old r).number → (play-records (Screen Row) (call Row row-ops) (reset fresh-row) p old r).number ≤ 3
      → (play-records (Screen Row) (call Row row-ops) (reset fresh-row) p old r).value ≡ old
  records-early r a b = by (eqb (judge-records p r) Done)
      (λ y. by (eqb (walk r).number Done)
      (λ z.
      let e = ap (λ (x : Answer (Screen Row)). x.number) (play-done r y z) in
      let d = eqb-true (walk r).number Done z in
      absurd (omega arith))
      (λ z.
      let e = ap (λ (x : Answer (Screen Row)). x.number) (play-stopped r y z) in
      let l = walk-late r z in
      absurd (omega arith)))
      (λ n.
      let e = ap (λ (x : Answer (Screen Row)). x.number) (play-judged r n) in
      let l : leb (judge-records p r) BadForm ≡ true = le-leb (judge-records p r) BadForm (omega arith) in
      ap (λ (x : Answer (Screen Row)). x.value) (play-judged r n) ∙ rw l)

  records-reset : (r : Recording) → 3 < (play-records (Screen Row) (call Row row-ops) (reset fresh-row) p old r).number
      → (play-records (Screen Row) (call Row row-ops) (reset fresh-row) p old r).value ≡ reset fresh-row (frame-of p r)
  records-reset r a = by (eqb (judge-records p r) Done)
      (λ y. by (eqb (walk r).number Done)
      (λ z.
      let e = ap (λ (x : Answer (Screen Row)). x.number) (play-done r y z) in
      let d = eqb-true (walk r).number Done z in
      absurd (omega arith))
      (λ z. ap (λ (x : Answer (Screen Row)). x.value) (play-stopped r y z)))
      (λ n.
      let e = ap (λ (x : Answer (Screen Row)). x.number) (play-judged r n) in
      let l : leb (judge-records p r) BadForm ≡ false = lt-leb (judge-records p r) BadForm (omega arith) in
      ap (λ (x : Answer (Screen Row)). x.value) (play-judged r n) ∙ rw l)

  -- the words that say no recording, and those that say one
  play-none : (ws : File) → parsed ws ≡ None → played p old ws ≡ answer BadForm old
  unfolding play
  play-none ws e = rw (e, play)

  pub play-some : (ws : File) (ss : List (List (List ℕ))) → parsed ws ≡ Some ss → played p old ws ≡ play-records (Screen Row) (call Row row-ops) (reset fresh-row) p old (recording ss)
  unfolding play
  play-some ws ss e = rw (e, play)

  -- Rule 2: an accepted recording leaves what its history builds, ..
  pub accepted : (ws : File) → (played p old ws).number ≡ Done → Accepted p ws (played p old ws).value
  accepted ws e = go (parsed ws) refl
    where
      go : (o : Option (List (List (List ℕ)))) → parsed ws ≡ o → Accepted p ws (played p old ws).value
      go None n = let z : ◌≡◌ {A = ℕ} BadForm Done = sym (ap (λ (x : Answer (Screen Row)). x.number) (play-none ws n)) ∙ e in absurd (omega arith)
      go (Some ss) y =
          let q = play-some ws ss y in
          let (b, c) = records-done (recording ss) (sym (ap (λ (x : Answer (Screen Row)). x.number) q) ∙ e) in
          record { words = record { parts = ss; formed = y }; built = rw q b; closed = rw q c }

  -- .. one refused with 1, 2 or 3 leaves the screen as it was, ..
  pub refused-early : (ws : File) → 0 < (played p old ws).number → (played p old ws).number ≤ 3 → (played p old ws).value ≡ old
  refused-early ws a b = go (parsed ws) refl
    where
      go : (o : Option (List (List (List ℕ)))) → parsed ws ≡ o → (played p old ws).value ≡ old
      go None n = ap (λ (x : Answer (Screen Row)). x.value) (play-none ws n)
      go (Some ss) y =
          let q = play-some ws ss y in
          ap (λ (x : Answer (Screen Row)). x.value) q ∙ records-early (recording ss) (rw q at a) (rw q at b)

  -- .. and one refused with any other number leaves it freshly reset.
  pub refused-late : (ws : File) → 3 < (played p old ws).number → LeftReset p ws (played p old ws).value
  refused-late ws a = go (parsed ws) refl
    where
      go : (o : Option (List (List (List ℕ)))) → parsed ws ≡ o → LeftReset p ws (played p old ws).value
      go None n = let e = ap (λ (x : Answer (Screen Row)). x.number) (play-none ws n) in absurd (omega arith)
      go (Some ss) y =
          let q = play-some ws ss y in
          record { words = record { parts = ss; formed = y }; fresh = ap (λ (x : Answer (Screen Row)). x.value) q ∙ records-reset (recording ss) (rw q at a) }

pub begin-done : (k : Canvas) → k.screen.state.layers ≡ [] → (begin-call k).number ≡ Done
unfolding begin-call
begin-done k e = rw e

-- The screen u of an accepted recording can be painted, and the picture speaks of it: a finished row has given each of its tiles what plain
-- draw order gives it of the recording's history, on the screen of the frame that its reset made.
pub recorded-picture : (p : Place) (ws : File) (u : Screen Row) (a : Accepted p ws u) (k : Canvas) → k.screen ≡ u
    → ((begin-call k).number ≡ Done)
    × ((ts : List Turn) (r t : ℕ) → r < rows_of (frame-of p (said a.words)).viewport → t < width (frame-of p (said a.words)).viewport / 4
    → has-finished (painted ts k).canvas r ≡ true
    → received t (from r (painted ts k).log) ≡ plain (bucket (frame-of p (said a.words))) (frame-of p (said a.words)).viewport r t (history p (said a.words)))
recorded-picture p ws u a k s =
    let d = begin-done k (ap (λ (x : Screen Row). x.state.layers) s ∙ a.closed) in
    (d, picture (frame-of p (said a.words)) (history p (said a.words)) k (rw s a.built) d)
