-- A recording call at the words: what is accepted is reached by the steps of its walk. Assumes nothing.
use Rattle.std.proofs.Common.{◌≡◌, refl, sym, ap, ◌∙◌, Bool, true, false, not, cond, List, [], ◌∷◌, Option, None, Some, ℕ, ◌≤◌, ◌<◌, arith, eqb, length, eqb-true}
use borrow.Author.Tests.{eqb-false}
use Rattle.rules.specs.Lists.{is-empty}
use Rattle.rules.specs.Answers.{Answer, answer, first_of, Done, BadRecord, BadOrder}
use Rattle.rules.specs.Rows.{Row, fresh-row, row-ops}
use Rattle.rules.specs.Plans.{Frame, Step, Layer}
use Rattle.rules.specs.Steps.{Screen, reset}
use Rattle.rules.specs.Recording.{Recording, parsed, good-records, good-order, File}
use Rattle.rules.specs.Setups.{Setup}
use Rattle.rules.specs.Walk.{Place, frame-of, go_on, ◌then◌, walk-all}
use Rattle.rules.specs.Logged.{Logged, logged-call, walk-logged}
use Rattle.rules.specs.Calls.{begin-call}
use Rattle.screen.specs.Judging.{judged_reset}
use Rattle.screen.specs.Tables.{lengths, ScreenLent, reset_to}
use Rattle.walk.specs.Steps.{call_at}
use Rattle.file.specs.Judging.{judged}
use Rattle.walk.specs.Recorded.{or-fresh, played, recorded-in, of-sections, recorded}
use Rattle.refine_steps.specs.Lent.{lent_of}
use Rattle.rules.proofs.laws.Answers.{settle-number, settle-kept}
use Rattle.refine_steps.proofs.Refined.{Refines, step-refines, reset-refines}
use Rattle.rules.proofs.Follows.{Both, Follow, walk-follows}
use Rattle.refine_file.specs.Played.{place}
use Rattle.rules_picture.specs.Recorded.{Readable, said}
use Rattle.rules_picture.proofs.Walked.{Late, all-walks}
use Rattle.theorem_picture.specs.Reached.{ReachedAlone, by-reset, begin-at}
use Rattle.theorem_picture.specs.Standing.{StandsAlone}
use Rattle.theorem_picture.specs.Recorded.{Accepted, Refused, kept, emptied}
use Rattle.theorem_picture.proofs.Answers.{begin-answer}
use Rattle.theorem_picture.proofs.Reached.{reached, step-reached}

-- words that hold a logged screen, and are reached by its log
record Logs (f : Frame) (s : Logged Row) (l : ScreenLent) : Type 0 where
  refines : Refines s.screen l
  reached : ReachedAlone f s.log l

-- each step
step-logs : (f : Frame) (x : Step) → Follow (Logs f) (logged-call Row row-ops x) (call_at x)
unfolding logged-call
step-logs f x s l h =
    let a = step-refines x s.screen l h.refines in
    record { number = a.number; value = λ e. record { refines = a.value; reached = step-reached x h.reached (a.number ∙ e) } }

-- painting can begin where no layer is open
open_none : (s : Screen Row) (l : ScreenLent) → Refines s l → s.state.layers ≡ [] → l.screen.layers ≡ 0
unfolding lent_of
open_none s l h e = ap (λ (m : ScreenLent). m.screen.layers) h.holds.same ∙ ap (λ (ls : List Layer). length ls) e

begins-empty : (ls : List Layer) → length ls ≡ 0 → is-empty ls ≡ true
begins-empty [] e = refl
begins-empty (l ∷ ls) e = absurd (omega arith)

begins : {f : Frame} {xs : List Step} {l : ScreenLent} → StandsAlone f xs l → l.screen.layers ≡ 0 → (begin-at l).number ≡ Done
unfolding lent_of begin-call
begins {l = l} h e =
    let k = h.canvas in
    let n : length k.screen.state.layers ≡ 0 = sym (ap (λ (m : ScreenLent). m.screen.layers) h.same) ∙ e in
    ap (λ (a : Answer ScreenLent). a.number) (begin-answer h) ∙ rw (begins-empty k.screen.state.layers n)

-- what the records refuse is past 3
judged-late : (r : Recording) → Late (judged r)
judged-late r = go (good-records r) (good-order r)
  where
    go : (x y : Bool) → Late (first_of ((not x, BadRecord) ∷ (not y, BadOrder) ∷ []))
    go false y e = omega arith
    go true false e = omega arith
    go true true e = absurd (eqb-false Done Done e refl)

module _ (ws : File) (r : Readable ws) (q : Setup) (l : ScreenLent) where
  abbrev p : Place
  p = place q l

  abbrev f : Frame
  f = frame-of p (said r)

  abbrev fresh : Answer ScreenLent
  fresh = reset_to f l

  abbrev walk : Answer ScreenLent
  walk = walk-all ScreenLent call_at (said r) fresh.value

  abbrev logged : Answer (Logged Row)
  logged = walk-logged Row row-ops fresh-row f (said r)

  -- the walk from a done reset
  walked : fresh.number ≡ Done → Both (Logs f) logged walk
  unfolding walk-logged reset_to
  walked e =
      let z = sym (settle-number (judged_reset f (lengths l.tables)) l _) ∙ e in
      walk-follows (Logs f) (logged-call Row row-ops) call_at (step-logs f) (said r)
      (record { screen = reset fresh-row f; log = [] }) fresh.value
      (record { refines = (reset-refines f l z).value; reached = by-reset f l e })

  -- every layer that it opens it closes; a refusal is past 3
  walked-rules : (logged.number ≡ Done → logged.value.screen.state.layers ≡ []) × Late logged.number
  unfolding walk-logged reset
  walked-rules =
      let a = (all-walks (said r)).at (record { screen = reset fresh-row f; log = [] }) refl in
      (a.layers, a.late)

  -- accepted: the reset and the walk are done, and the words are those of the walk
  pub record Taken (m : ScreenLent) : Type 0 where
    pub resets : fresh.number ≡ Done
    pub walks : logged.number ≡ Done
    pub same : m ≡ walk.value

  -- they are reached by its steps, and painting can begin there
  pub taken-reached : {m : ScreenLent} → Taken m → ReachedAlone f logged.value.log m
  taken-reached t = rw t.same ((walked t.resets).value t.walks).reached

  pub taken-begins : {m : ScreenLent} → Taken m → (begin-at m).number ≡ Done
  taken-begins t =
      let h = (walked t.resets).value t.walks in
      rw t.same (begins (reached h.reached) (open_none logged.value.screen walk.value h.refines (walked-rules.0 t.walks)))

  -- by the answer
  abbrev Result : Answer ScreenLent → Type 0
  Result a = (a.number ≡ Done → Taken a.value) × ((a.number ≡ Done → ⊥) → Refused q ws l a)

  reset-refused : eqb fresh.number Done ≡ false → fresh.value ≡ l
  unfolding reset_to
  reset-refused e = settle-kept (judged_reset f (lengths l.tables)) l _ e

  result : Result (recorded-in (said r) q l)
  unfolding recorded-in ◌then◌ played
  result = go (eqb fresh.number Done) refl
    where
      walks : fresh.number ≡ Done → (b : Bool) → eqb walk.number Done ≡ b → Result (cond b walk (answer walk.number fresh.value))
      walks e true y = ((λ z. record { resets = e; walks = sym (walked e).number ∙ z; same = refl }), λ z. absurd (z (eqb-true _ _ y)))
      walks e false q = ((λ z. absurd (eqb-false _ _ q z)), λ z. emptied r (rw (walked e).number (walked-rules.1 (rw (walked e).number at q))) e refl)

      plays : fresh.number ≡ Done → (b : Bool) → eqb (judged (said r)) Done ≡ b → Result (or-fresh fresh.value (go_on b (answer (judged (said r)) fresh.value) (walk-all ScreenLent call_at (said r))))
      plays e true q = walks e (eqb walk.number Done) refl
      plays e false q = rw q ((λ z. absurd (eqb-false _ _ q z)), λ z. emptied r (judged-late (said r) q) e refl)

      go : (b : Bool) → eqb fresh.number Done ≡ b → Result (go_on b fresh (played (said r)))
      go true e = plays (eqb-true _ _ e) (eqb (judged (said r)) Done) refl
      go false e = ((λ z. absurd (eqb-false _ _ e z)), λ z. kept (reset-refused e))

module _ (ws : File) (q : Setup) (l : ScreenLent) where
  -- An accepted recording leaves words that the steps of its walk reach, and painting can begin there: `picture` speaks of it.
  pub recorded-reached : (recorded ws q l).number ≡ Done → Accepted (place q l) ws (recorded ws q l).value
  unfolding recorded
  recorded-reached = go (parsed ws) refl
    where
      go : (o : Option (List (List (List ℕ)))) → parsed ws ≡ o → (of-sections o q l).number ≡ Done → Accepted (place q l) ws (of-sections o q l).value
      go None e z = absurd (omega arith)
      go (Some ss) e z =
          let r : Readable ws = record { parts = ss; formed = e } in
          let t = (result ws r q l).0 z in
          record { words = r; reached = taken-reached ws r q l t; begins = taken-begins ws r q l t }

  -- it has taken what the words say
  pub recorded-taken : (r : Readable ws) → (recorded ws q l).number ≡ Done → Taken ws r q l (recorded ws q l).value
  unfolding recorded
  recorded-taken r z = rw r.formed ((result ws r q l).0 (rw r.formed at z))

  -- A refused one leaves the words as they were, or those of the file's reset.
  pub recorded-refused : ((recorded ws q l).number ≡ Done → ⊥) → Refused q ws l (recorded ws q l)
  unfolding recorded
  recorded-refused = go (parsed ws) refl
    where
      go : (o : Option (List (List (List ℕ)))) → parsed ws ≡ o → ((of-sections o q l).number ≡ Done → ⊥) → Refused q ws l (of-sections o q l)
      go None e z = kept refl
      go (Some ss) e z = (result ws (record { parts = ss; formed = e }) q l).1 z

  -- With 1, 2 or 3 it leaves them as they were.
  pub recorded-early : 0 < (recorded ws q l).number → (recorded ws q l).number ≤ 3 → (recorded ws q l).value ≡ l
  recorded-early lo hi = go (recorded-refused (λ e. omega arith))
    where
      go : Refused q ws l (recorded ws q l) → (recorded ws q l).value ≡ l
      go (kept e) = e
      go (emptied r n h q) = absurd (omega arith)
