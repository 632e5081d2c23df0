-- Results in lent words of a fixed length.
use Rattle.std.proofs.Common.{◌≡◌, refl, ap, ◌∙◌, Bool, List, [], Some, Result, Ok, Err, ℕ, length, eqb}
use Rattle.sizes.specs.declared.answers.Refusal.{Refusal}
use Rattle.rules.specs.Answers.{Answer, answer}
use Rattle.rules.specs.Spans.{Span}
use Rattle.screen.specs.declared.Screen.{Screen}
use Rattle.depth.specs.Answers.{skip_of, hidden_of}
use Rattle.screen.specs.Depths.{Depths}
use Rattle.depth.specs.Listing.{out}
use Rattle.paint.specs.Answers.{Painted}
use Rattle.paint.specs.Painting as paint
use Rattle.paint.specs.Stepping.{Attributes, stepped}
use Rattle.paint.specs.Running.{row-painted}
use Rattle.paint.specs.OwnRow.{own-row-painted}
use Rattle.paint.specs.DirectRuns.{wrote, unset-of, visible-of, write-of, hidden-of-row, skip-of-row}
use Rattle.host.specs.State.{screen-words, screen_of}
use Rattle.host.specs.Results.{step-result, count_left, skip-left}
use Rattle.host.specs.Painting.{step_left, step_call, row_call, own_row_call, runs-left, unset_call, visible_call, write-left, write_call, hidden_call, skip_call}

-- the count of some runs, and their list
listed : (o : Result ℕ Refusal) (l n n' : List ℕ) (k : ℕ) → answer k n' ≡ count_left n (out o []) → answer k (l, n') ≡ runs-left n (out o l)
listed (Ok m) l n n' k e = ap (λ (x : Answer (List ℕ)). answer x.number (l, x.value)) e
listed (Err r) l n n' k e = ap (λ (x : Answer (List ℕ)). answer x.number (l, x.value)) e

written : (o : Result ℕ Refusal) (s : Screen) (d : Depths) (l n n' : List ℕ) (k : ℕ) → answer k n' ≡ count_left n (out o []) → answer k (screen-words s, d, l, n') ≡ write-left n (wrote o s l d)
written o s d l n n' k e = ap (λ (x : Answer (List ℕ × List ℕ)). answer x.number (screen-words s, d, x.value.0, x.value.1)) (listed o l n n' k e)

-- a step's result beside what it leaves
pub left_beside : (k : ℕ) (p : Painted) (d' : Depths) (p' l' res res' : List ℕ) (o : paint.StepOut) → paint.out p d' p' l' ≡ o → answer k res' ≡ step-result res p
    → answer k (d', p', l', res') ≡ step_left res o
left_beside k p d' p' l' res res' o e f = ap (λ (x : Answer (List ℕ)). answer x.number (d', p', l', x.value)) f ∙ ap (step_left res) e

-- at the screen that the words stand for, with a result of the right length
module _ (st : List ℕ) (s : Screen) where
  pub step_roomed : (r k : ℕ) (a : Attributes) (l : paint.RowLent) (p : Painted) (d' : Depths) (p' l' res res' : List ℕ) → Some s ≡ screen_of (eqb (length res) 2) st
      → paint.out p d' p' l' ≡ stepped s r a l → answer k res' ≡ step-result res p → answer k (d', p', l', res') ≡ step_call r a st l res
  unfolding step_call
  step_roomed r k a l p d' p' l' res res' q e f = rw (← q) (left_beside k p d' p' l' res res' _ e f)

  -- a row's steps, of which only what they leave is told
  pub row_left : (r k : ℕ) (a : Attributes) (l : paint.RowLent) (o : paint.StepOut) (x : Depths × List ℕ × List ℕ × List ℕ) (res : List ℕ) → Some s ≡ screen_of (eqb (length res) 2) st
      → o ≡ row-painted s r a l → answer k x ≡ step_left res o → answer k x ≡ row_call r a st l res
  unfolding row_call
  row_left r k a l o x res q e f = rw (← q) (f ∙ ap (step_left res) e)

  pub row_roomed : (r k : ℕ) (a : Attributes) (l : paint.RowLent) (p : Painted) (d' : Depths) (p' l' res res' : List ℕ) → Some s ≡ screen_of (eqb (length res) 2) st
      → paint.out p d' p' l' ≡ row-painted s r a l → answer k res' ≡ step-result res p → answer k (d', p', l', res') ≡ row_call r a st l res
  row_roomed r k a l p d' p' l' res res' q e f = row_left r k a l (paint.out p d' p' l') _ res q e (left_beside k p d' p' l' res res' _ refl f)

  pub own_roomed : (k : ℕ) (a : Attributes) (l : paint.RowLent) (p : Painted) (d' : Depths) (p' l' res res' : List ℕ) → Some s ≡ screen_of (eqb (length res) 2) st
      → paint.out p d' p' l' ≡ own-row-painted s a l → answer k res' ≡ step-result res p → answer k (d', p', l', res') ≡ own_row_call a st l res
  unfolding own_row_call
  own_roomed k a l p d' p' l' res res' q e f = rw (← q) (left_beside k p d' p' l' res res' _ e f)

  pub unset_roomed : (r k : ℕ) (t : Span) (o : Result ℕ Refusal) (d l l' n n' : List ℕ) → Some s ≡ screen_of (eqb (length n) 1) st → out o l' ≡ unset-of s r d t l
      → answer k n' ≡ count_left n (out o []) → answer k (l', n') ≡ unset_call r t st d l n
  unfolding unset_call
  unset_roomed r k t o d l l' n n' q e f = rw (← q) (listed o l' n n' k f ∙ ap (runs-left n) e)

  pub visible_roomed : (r k : ℕ) (t : Span) (id : ℕ) (o : Result ℕ Refusal) (d l l' n n' : List ℕ) → Some s ≡ screen_of (eqb (length n) 1) st → out o l' ≡ visible-of s r d t id l
      → answer k n' ≡ count_left n (out o []) → answer k (l', n') ≡ visible_call r t id st d l n
  unfolding visible_call
  visible_roomed r k t id o d l l' n n' q e f = rw (← q) (listed o l' n n' k f ∙ ap (runs-left n) e)

  pub write_roomed : (r k : ℕ) (t : Span) (id : ℕ) (o : Result ℕ Refusal) (s' : Screen) (st' : List ℕ) (d d' : Depths) (l l' n n' : List ℕ) → Some s ≡ screen_of (eqb (length n) 1) st → wrote o s' l' d' ≡ write-of s r d id t l
      → st' ≡ screen-words s' → answer k n' ≡ count_left n (out o []) → answer k (st', d', l', n') ≡ write_call r t id st d l n
  unfolding write_call
  write_roomed r k t id o s' st' d d' l l' n n' q e sw f = rw (sw, ← q) (written o s' d' l' n n' k f ∙ ap (write-left n) e)

  pub hidden_roomed : (r k : ℕ) (t : Span) (id : ℕ) (o : Result Bool Refusal) (ms old new : List ℕ) → Some s ≡ screen_of (eqb (length old) 1) st
      → hidden_of o ≡ hidden-of-row s r ms t id → answer k new ≡ skip-left old (skip_of o) → answer k new ≡ hidden_call r t id st ms old
  unfolding hidden_call
  hidden_roomed r k t id o ms old new q e f = rw (← q) (f ∙ ap (skip-left old) e)

  pub skip_roomed : (r k : ℕ) (t : Span) (id : ℕ) (o : Result Bool Refusal) (rows old new : List ℕ) → Some s ≡ screen_of (eqb (length old) 1) st → skip_of o ≡ skip-of-row s r rows t id
      → answer k new ≡ skip-left old (skip_of o) → answer k new ≡ skip_call r t id st rows old
  unfolding skip_call
  skip_roomed r k t id o rows old new q e f = rw (← q) (f ∙ ap (skip-left old) e)
