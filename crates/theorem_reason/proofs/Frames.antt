-- A walk with room for everything does not go by C and D: over frames that differ in them alone it is the same.
use Rattle.std.proofs.Common.{ℕ, ◌≡◌, refl, sym, ◌∙◌, ap, List, [], ◌∷◌, length, eqb}
use Rattle.rules.specs.Answers.{Answer, answer, settle, Done}
use Rattle.rules.specs.Plans.{Frame, State, Step, a-fill, a-push, a-pop, a-filter, Layer, Plan, plan-fill, plan-push, plan-pop, plan-filter-in, plan-filter, plan}
use Rattle.rules.specs.Segments.{Segment}
use Rattle.rules.specs.Steps.{Screen, reset, done, touched, call}
use Rattle.rules.specs.Recording.{Recording}
use Rattle.rules.specs.Logged.{Logged, logged-call, walk-logged}
use Rattle.rules.specs.Roomless.{buffers-alone, roomless}
use Rattle.rules.proofs.Follows.{Follow, walk-follows}
use Rattle.rules_picture.proofs.Cases.{by}
use Rattle.rules_picture.proofs.Limits.{limit}
use Rattle.rules_picture.proofs.Roomless.{call-settled}

module _ (c d : ℕ) where
  -- the same with another C and D
  abbrev roomy : Frame → Frame
  roomy f = record { viewport = f.viewport; c = c; d = d; width = f.width }

  abbrev state : State → State
  state s = record { frame = roomy s.frame; next = s.next; attrs = s.attrs; layers = s.layers }

  abbrev screen : Screen ℕ → Screen ℕ
  screen s = record { state = state s.state; rows = s.rows }

  pop-same : (ls : List Layer) (ss : List Segment) (js : List ℕ) (s : State) → plan-pop ls ss js (state s) ≡ plan-pop ls ss js s
  unfolding plan-pop
  pop-same [] ss js s = refl
  pop-same (l ∷ ls) ss js s = refl

  plan-same : (x : Step) (js : List ℕ) (s : State) → plan x js (state s) ≡ plan x js s
  unfolding plan plan-fill plan-push plan-filter plan-filter-in
  plan-same (a-fill ps ss q) js s = refl
  plan-same (a-push p) js s = refl
  plan-same (a-pop ss) js s = pop-same s.layers ss js s
  plan-same (a-filter n f q) js s = refl

  -- another screen in the value of an answer
  abbrev over : Answer (Screen ℕ) → Answer (Screen ℕ)
  over a = answer a.number (screen a.value)

  settle-over : (n : ℕ) (s t : Screen ℕ) → settle n (screen s) (screen t) ≡ over (settle n s t)
  settle-over n s t = by (eqb n Done) (λ y. rw y) (λ z. rw z)

  done-over : (p : Plan) (s : Screen ℕ) → done ℕ buffers-alone p (screen s) ≡ screen (done ℕ buffers-alone p s)
  unfolding done
  done-over p s = refl

  call-same : (x : Step) (s : Screen ℕ) → call ℕ buffers-alone x (screen s) ≡ over (call ℕ buffers-alone x s)
  call-same x s =
      let p = plan x (touched ℕ buffers-alone (length s.state.layers) 0 s.rows) s.state in
      call-settled x (screen s)
      ∙ ap (λ (q : Plan). settle (limit q) (screen s) (done ℕ buffers-alone q (screen s))) (plan-same x (touched ℕ buffers-alone (length s.state.layers) 0 s.rows) s.state)
      ∙ ap (settle (limit p) (screen s)) (done-over p s)
      ∙ settle-over (limit p) s (done ℕ buffers-alone p s)
      ∙ sym (ap over (call-settled x s))

  abbrev Same : Logged ℕ → Logged ℕ → Type 0
  Same s t = t ≡ record { screen = screen s.screen; log = s.log }

  step-same : (x : Step) → Follow Same (logged-call ℕ buffers-alone x) (logged-call ℕ buffers-alone x)
  unfolding logged-call
  step-same x s t h =
      let e = call-same x s.screen in
      record { number = rw (h, e); value = λ z. rw (h, e) }

  walk-same : (f : Frame) (r : Recording)
      → ((roomless f r).number ≡ (roomless (roomy f) r).number) × ((roomless f r).number ≡ Done → (roomless f r).value.log ≡ (roomless (roomy f) r).value.log)
  unfolding walk-logged reset
  walk-same f r =
      let a = walk-follows Same (logged-call ℕ buffers-alone) (logged-call ℕ buffers-alone) step-same r
      (record { screen = reset 0 f; log = [] }) (record { screen = reset 0 (roomy f); log = [] }) refl in
      (sym a.number, λ e. sym (ap (λ (t : Logged ℕ). t.log) (a.value e)))

pub frames-same : (f g : Frame) → f.viewport ≡ g.viewport → f.width ≡ g.width → (r : Recording)
    → ((roomless f r).number ≡ (roomless g r).number) × ((roomless f r).number ≡ Done → (roomless f r).value.log ≡ (roomless g r).value.log)
frames-same f g v w r =
    let e : roomy g.c g.d f ≡ g = rw (v, w) in
    let a = walk-same g.c g.d f r in
    (a.0 ∙ ap (λ (h : Frame). (roomless h r).number) e, λ z. a.1 z ∙ ap (λ (h : Frame). (roomless h r).value.log) e)
