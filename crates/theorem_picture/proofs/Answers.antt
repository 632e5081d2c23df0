-- At words that hold a canvas of the rules every call has the rules' answer. Assumes nothing.
use Rattle.std.proofs.Common.{◌≡◌, sym, ap, ◌∙◌, Bool, List, ℕ, ◌/◌, ◌%◌, length, ne_eqb}
use Rattle.sizes.specs.Sizes.{piece-size}
use Rattle.rules.specs.Answers.{Answer, answer, Done}
use Rattle.rules.specs.Spans.{Span}
use Rattle.rules.specs.Rows.{Row, row-ops}
use Rattle.rules.specs.Inputs.{Props}
use Rattle.rules.specs.Plans.{Frame, Step, a-push}
use Rattle.rules.specs.Steps.{call}
use Rattle.rules.specs.Calls.{Canvas, step_call, begin-call, paint-call, unset-call, visible-call, write-call, can-skip-call}
use Rattle.screen.specs.Tables.{ScreenLent}
use Rattle.screen.specs.declared.layers.LayerProps.{LayerProps}
use Rattle.inputs.specs.declared.Draw.{Draw}
use Rattle.layers.specs.Filter.{FilterGiven}
use Rattle.walk.specs.Reading.{props_in}
use Rattle.walk.specs.Steps.{call_at}
use Rattle.refine_steps.specs.Lent.{lent_of}
use Rattle.rules.proofs.laws.Answers.{settle-kept}
use Rattle.depth.specs.Listing.{listing}
use Rattle.paint.specs.DirectRuns.{unset-of, visible-of, skip-of-row}
use Rattle.refine_paint.specs.Canvases.{given_out, wrote_of}
use Rattle.refine_paint.proofs.Runs.{unset-by, visible-by, skip_by}
use Rattle.theorem_picture.specs.Calls.{fill-at, push_at, pop-at, filter-at, fill-said, pop-said, filter-said}
use Rattle.theorem_picture.specs.Reached.{begin-at, paint-out, write-out}
use Rattle.theorem_picture.specs.Standing.{canvas-words, StandsBy}
use Rattle.theorem_picture.proofs.Calls.{fill-whole, push-steps, pop-whole, filter_steps}
use Rattle.theorem_picture.proofs.Words.{step_words, begin-words, paint-gives, write-gives}

module _ {c : Bool} {f : Frame} {xs : List Step} {l : ScreenLent} (h : StandsBy c f xs l) where
  abbrev k : Canvas
  k = h.canvas

  -- building steps, beginning, painting steps: the number, and what stands afterwards
  pub step-answer : (x : Step) → call_at x l ≡ answer (step_call x k).number (canvas-words (step_call x k).value)
  step-answer x = ap (call_at x) h.same ∙ step_words k h.whole x

  -- the building calls, lent whole records, are these steps: refused or done
  pub fill-answer : (ps ss : List ℕ) (d : Draw) → length ps % 4 ≡ 0 → length ss % 5 ≡ 0
      → fill-at ps ss d l ≡ answer (step_call (fill-said ps ss d) k).number (canvas-words (step_call (fill-said ps ss d) k).value)
  fill-answer ps ss d p s = fill-whole ps ss d l p s ∙ step-answer (fill-said ps ss d)

  pub push-answer : (p : LayerProps) (q : Props) → p ≡ props_in q → push_at p l ≡ answer (step_call (a-push q) k).number (canvas-words (step_call (a-push q) k).value)
  push-answer p q e = push-steps p q e l ∙ step-answer (a-push q)

  pub pop-answer : (ss : List ℕ) → length ss % 5 ≡ 0
      → pop-at ss l ≡ answer (step_call (pop-said ss) k).number (canvas-words (step_call (pop-said ss) k).value)
  pop-answer ss s = pop-whole ss l s ∙ step-answer (pop-said ss)

  pub filter-answer : (g : FilterGiven)
      → filter-at g l ≡ answer (step_call (filter-said g) k).number (canvas-words (step_call (filter-said g) k).value)
  filter-answer g = filter_steps g l ∙ step-answer (filter-said g)

  pub begin-answer : begin-at l ≡ answer (begin-call k).number (canvas-words (begin-call k).value)
  begin-answer = ap begin-at h.same ∙ begin-words k h.whole

  pub paint-answer : (i : ℕ) (list : List ℕ) → paint-out i list l ≡ given_out (paint-call i (length list / piece-size) k) list
  paint-answer i list = ap (paint-out i list) h.same ∙ paint-gives k h.whole i list

  -- the direct runs of row i over tiles or buckets t, and `can_skip`
  pub unset-answer : (i : ℕ) (t : Span) (list : List ℕ) → unset-of l.screen i l.tables.depth.words t list ≡ listing (unset-call i (length list / 2) t k) list
  unfolding lent_of
  unset-answer i t list = ap (λ (m : ScreenLent). unset-of m.screen i m.tables.depth.words t list) h.same ∙ unset-by k h.whole i t list

  pub visible-answer : (i id : ℕ) (t : Span) (list : List ℕ) → visible-of l.screen i l.tables.depth.words t id list ≡ listing (visible-call id i (length list / 2) t k) list
  unfolding lent_of
  visible-answer i id t list = ap (λ (m : ScreenLent). visible-of m.screen i m.tables.depth.words t id list) h.same ∙ visible-by k h.whole i id t list

  pub write-answer : (i id : ℕ) (t : Span) (list : List ℕ) → write-out i id t list l ≡ wrote_of (write-call id i (length list / 2) t k) list
  write-answer i id t list = ap (write-out i id t list) h.same ∙ write-gives k h.whole i id t list

  pub skip-answer : (i : ℕ) (t : Span) (id : ℕ) → skip-of-row l.screen i l.tables.rows t id ≡ can-skip-call i t id k
  unfolding lent_of
  skip-answer i t id = ap (λ (m : ScreenLent). skip-of-row m.screen i m.tables.rows t id) h.same ∙ skip_by k h.whole i t id

  -- a refused building step alters no word
  pub refused-step : (x : Step) → ((call_at x l).number ≡ Done → ⊥) → (call_at x l).value ≡ l
  unfolding step_call
  refused-step x n =
      let a = step-answer x in
      let d : ((step_call x k).number ≡ Done → ⊥) = λ e. n (ap (λ (b : Answer ScreenLent). b.number) a ∙ e) in
      ap (λ (b : Answer ScreenLent). b.value) a
      ∙ ap canvas-words (settle-kept (call Row row-ops x k.screen).number k _ (ne_eqb _ Done d))
      ∙ sym h.same
