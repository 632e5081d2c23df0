-- Refused painting calls: the lent words and the result words are as they were.
use Rattle.std.proofs.Common.{◌≡◌, refl, Bool, true, false, cond, List, Option, None, Some, Result, Ok, Err, ℕ, length, eqb, ne_eqb}
use Rattle.sizes.specs.declared.answers.Refusal.{Refusal}
use Rattle.sizes.specs.declared.width.Width.{Width}
use Rattle.sizes.specs.Widths.{bucket-tiles, width_of}
use Rattle.rules.specs.Answers.{Answer, answer}
use Rattle.rules.specs.Spans.{Span}
use Rattle.rules.specs.Split.{split_answer}
use Rattle.span.specs.declared.TileSpan.{TileSpan}
use Rattle.depth.specs.Listing.{RunsOut}
use Rattle.depth.specs.SpanLists as spans
use Rattle.screen.specs.declared.Screen.{Screen}
use Rattle.screen.specs.Depths.{Depths}
use Rattle.paint.specs.Painting as paint
use Rattle.paint.specs.Stepping.{Attributes, stepped}
use Rattle.paint.specs.Running.{row-painted}
use Rattle.paint.specs.OwnRow.{own-row-painted}
use Rattle.paint.specs.DirectRuns.{unset-of, visible-of, write-of, hidden-of-row, skip-of-row}
use Rattle.paint.proofs.Kept.{Refused, Bare, bare-visible, AsLent, unset-kept, visible-kept, write-kept, step-kept, row-kept, own-kept}
use Rattle.host.specs.State.{screen_of, at_held, on}
use Rattle.host.proofs.Words.{written_back}
use Rattle.host.specs.Results.{skip-left, split-left}
use Rattle.host.specs.Painting.{with-room, step_left, step_call, row_call, own_row_call, runs-left, unset_call, visible_call, write-left, write_call, hidden_call, skip_call, split_at, split_call}
use Rattle.host.specs.Spans.{runs_of, spans-left, spans_call}

-- result words of another length, or a call that keeps t where it is refused
roomed : {T : Type 0} (n : ℕ) (ws : List ℕ) (t : T) (a : Answer T) → (Refused a → a.value ≡ t) → Refused (with-room n ws t a) → (with-room n ws t a).value ≡ t
roomed n ws t a k q = by (eqb (length ws) n) q
  where
    by : (b : Bool) → Refused (cond b a (answer 4 t)) → (cond b a (answer 4 t)).value ≡ t
    by true q = k q
    by false q = refl

-- a call at the screen that the words stand for
pub at-screen : {T : Type 0} (good : Bool) (st : List ℕ) (t : T) (f : Screen → Answer T) → ((s : Screen) → Some s ≡ screen_of good st → Refused (f s) → (f s).value ≡ t)
    → Refused (on good st t f) → (on good st t f).value ≡ t
at-screen good st t f k q = by (screen_of good st) refl q
  where
    by : (h : Option Screen) → h ≡ screen_of good st → Refused (at_held h st t f) → (at_held h st t f).value ≡ t
    by None e q = refl
    by (Some s) e q = k s e q

-- Runs, in words and in spans.
runs-kept : (o : RunsOut) (l n : List ℕ) → ((o.number ≡ 0 → ⊥) → o.list ≡ l) → Refused (runs-left n o) → (runs-left n o).value ≡ (l, n)
runs-kept o l n k q = rw (k q, ne_eqb _ _ q)

module _ (r : ℕ) (t : Span) (st d l n : List ℕ) where
  pub unset-refused : Refused (unset_call r t st d l n) → (unset_call r t st d l n).value ≡ (l, n)
  unfolding unset_call
  unset-refused =
      at-screen (eqb (length n) 1) st (l, n) (λ (s : Screen). runs-left n (unset-of s r d t l)) (λ s e. runs-kept (unset-of s r d t l) l n (unset-kept s r d t l))

  pub visible-refused : (id : ℕ) → Refused (visible_call r t id st d l n) → (visible_call r t id st d l n).value ≡ (l, n)
  unfolding visible_call
  visible-refused id =
      at-screen (eqb (length n) 1) st (l, n) (λ (s : Screen). runs-left n (visible-of s r d t id l))
      (λ s e. runs-kept (visible-of s r d t id l) l n (visible-kept s r d t id l))

pub write-refused : (r : ℕ) (t : Span) (st : List ℕ) (d : Depths) (l n : List ℕ) (id : ℕ) → Refused (write_call r t id st d l n)
    → (write_call r t id st d l n).value ≡ (st, d, l, n)
unfolding write_call
write-refused r t st d l n id =
    at-screen (eqb (length n) 1) st (st, d, l, n) (λ (s : Screen). write-left n (write-of s r d id t l))
    (λ s e q. let k = write-kept s r d t id l q in rw (k.0, k.1, k.2, ne_eqb _ _ q, written_back (eqb (length n) 1) st s e))

spans-kept : (a : Answer (List Span)) (l : List TileSpan) (n : List ℕ) → Bare a → Refused (spans-left n (spans.listing a l)) → (spans-left n (spans.listing a l)).value ≡ (l, n)
unfolding spans.listing
spans-kept a l n k q = rw (k q, ne_eqb _ _ q)

pub spans-refused : (r : ℕ) (t : Span) (id : ℕ) (st d : List ℕ) (l : List TileSpan) (n : List ℕ) → Refused (spans_call r t id st d l n)
    → (spans_call r t id st d l n).value ≡ (l, n)
unfolding spans_call
spans-refused r t id st d l n =
    at-screen (eqb (length n) 1) st (l, n) (λ (s : Screen). spans-left n (spans.listing (runs_of s r d t id (length l)) l))
    (λ s e. spans-kept (runs_of s r d t id (length l)) l n (bare-visible s r d t id (length l)))

pub skip-refused : (r : ℕ) (t : Span) (id : ℕ) (st rows old : List ℕ) → Refused (skip_call r t id st rows old) → (skip_call r t id st rows old).value ≡ old
unfolding skip_call
skip-refused r t id st rows old =
    at-screen (eqb (length old) 1) st old (λ (s : Screen). skip-left old (skip-of-row s r rows t id)) (λ s e q. rw (ne_eqb _ _ q))

pub hidden-refused : (r : ℕ) (t : Span) (id : ℕ) (st ms old : List ℕ) → Refused (hidden_call r t id st ms old) → (hidden_call r t id st ms old).value ≡ old
unfolding hidden_call
hidden-refused r t id st ms old =
    at-screen (eqb (length old) 1) st old (λ (s : Screen). skip-left old (hidden-of-row s r ms t id)) (λ s e q. rw (ne_eqb _ _ q))

pub split-refused : (pixels : ℕ) (s : Span) (parts : List ℕ) → Refused (split_call pixels s parts) → (split_call pixels s parts).value ≡ parts
unfolding split_call
split-refused pixels s parts = go (width_of pixels)
  where
    go : (o : Result Width Refusal) → Refused (split_at o s parts) → (split_at o s parts).value ≡ parts
    go (Err r) q = refl
    go (Ok w) q = roomed 9 parts parts (split-left parts (split_answer (bucket-tiles w) s)) (λ q. rw (ne_eqb _ _ q)) q

-- A painting step, and a row's steps.
left-kept : (o : paint.StepOut) (d : Depths) (p l res : List ℕ) → ((o.answer.number ≡ 0 → ⊥) → AsLent o d p l) → Refused (step_left res o)
    → (step_left res o).value ≡ (d, p, l, res)
left-kept o d p l res k q = let z = k q in rw (z.0, z.1, z.2, ne_eqb _ _ q)

pub own-row-refused : (a : Attributes) (st : List ℕ) (l : paint.RowLent) (res : List ℕ) → Refused (own_row_call a st l res)
    → (own_row_call a st l res).value ≡ (l.depth, l.painting, l.list, res)
unfolding own_row_call
own-row-refused a st l res =
    at-screen (eqb (length res) 2) st (l.depth, l.painting, l.list, res) (λ (s : Screen). step_left res (own-row-painted s a l))
    (λ s e. left-kept (own-row-painted s a l) l.depth l.painting l.list res (own-kept s a l))

module _ (r : ℕ) (a : Attributes) (st : List ℕ) (l : paint.RowLent) (res : List ℕ) where
  abbrev same : Depths × List ℕ × List ℕ × List ℕ
  same = (l.depth, l.painting, l.list, res)

  pub step-refused : Refused (step_call r a st l res) → (step_call r a st l res).value ≡ same
  unfolding step_call
  step-refused =
      at-screen (eqb (length res) 2) st same (λ (s : Screen). step_left res (stepped s r a l))
      (λ s e. left-kept (stepped s r a l) l.depth l.painting l.list res (step-kept s r a l))

  pub row-refused : Refused (row_call r a st l res) → (row_call r a st l res).value ≡ same
  unfolding row_call
  row-refused =
      at-screen (eqb (length res) 2) st same (λ (s : Screen). step_left res (row-painted s r a l))
      (λ s e. left-kept (row-painted s r a l) l.depth l.painting l.list res (row-kept s r a l))
