-- The picture, `can_skip` and recordings at the border, from the same about the calls at the words. A refused painting call gives nothing and
-- alters nothing: it is left out of picture's schedule. Assumes nothing.
use Rattle.std.proofs.Common.{ℕ, arith, ◌≡◌, refl, sym, ap, ◌∙◌, Bool, true, false, ◌&&◌, ◌||◌, List, [], ◌∷◌, eqb, get_or, ne_eqb, eqb-true}
use borrow.Author.Tests.{eqb-false}
use Rattle.sizes.specs.declared.width.Width.{Width}
use Rattle.sizes.specs.declared.width.Width.TheVariants.{W64, W128, W256}
use Rattle.rules.specs.Answers.{Answer, answer, Done}
use Rattle.rules.specs.Plans.{Frame, Step}
use Rattle.rules.specs.Painting.{received}
use Rattle.rules.proofs.All.{both}
use Rattle.screen.specs.Depths.{Depths}
use Rattle.screen.specs.Tables.{ScreenLent}
use Rattle.paint.specs.Painting as paint
use Rattle.rules_picture.specs.Turns.{Gave, from, said-finished}
use Rattle.rules_picture.proofs.Cases.{by}
use Rattle.paint.specs.DirectRuns.{skip-of-row}
use Rattle.host.specs.State.{bit, width_word, width-at}
use Rattle.host.specs.Results.{skip-left}
use Rattle.host.specs.Painting.{step_left}
use Rattle.theorem_picture.specs.Turns as turns
use Rattle.theorem_picture.specs.Reached as reached
use Rattle.theorem_picture.specs.Rows as rows
use Rattle.theorem_picture.proofs.Rows.{rows-picture}
use Rattle.theorem_picture.proofs.Skip as picture
use Rattle.theorem_picture.specs.Skip as lent
use Rattle.theorem_border.specs.Hosted.{Host, Hosted, Call, one-step, whole_row, turn_in, begin-at, paint-out}
use Rattle.theorem_border.specs.Border.{gave-words, painted, log, finished-at, finished, Picture, Clear}
use Rattle.theorem_border.specs.Held.{host-of}
use Rattle.theorem_border.proofs.Words.{hosted, begin-on, call-of, paint-on, paint-done, paint-kept, skip-on}
use Rattle.theorem_border.proofs.Holds.{holds}

-- a done call is read as it gave
bit-read : (b : Bool) → eqb (bit b) 1 ≡ b
bit-read true = refl
bit-read false = refl

pub left-read : (r : ℕ) (res : List ℕ) (o : paint.StepOut) → o.answer.number ≡ Done → gave-words r (step_left res o) ≡ turns.gave-out r o
left-read r res o e = rw (e, bit-read o.answer.finished)

same_row : (c : Call) → (turn_in c).row ≡ (rows.turn_in (call-of c)).row
same_row (one-step t) = refl
same_row (whole_row t) = refl

pub gave-done : (c : Call) (l : ScreenLent) → (paint-out c (host-of l)).number ≡ Done
    → gave-words (turn_in c).row (paint-out c (host-of l)) ≡ turns.gave-out (rows.turn_in (call-of c)).row (rows.call-out (call-of c) l)
gave-done c l e =
    let q = paint-on c l e in
    let o = rows.call-out (call-of c) l in
    ap (gave-words (turn_in c).row) q
    ∙ left-read (turn_in c).row (turn_in c).result o (sym (ap (λ (a : Answer (Depths × List ℕ × List ℕ × List ℕ)). a.number) q) ∙ e)
    ∙ ap (λ (i : ℕ). turns.gave-out i o) (same_row c)

-- one call before others
module _ (g k : Gave) (gs ks : List Gave) (r : ℕ) (e : g ≡ k) where
  first_pieces : from r gs ≡ from r ks → from r (g ∷ gs) ≡ from r (k ∷ ks)
  unfolding from
  first_pieces h = rw (e, h)

  pub first_said : said-finished r gs ≡ said-finished r ks → said-finished r (g ∷ gs) ≡ said-finished r (k ∷ ks)
  unfolding said-finished
  first_said h = rw e (ap (λ (b : Bool). (eqb k.row r && k.finished) || b) h)

-- picture's calls that do what painting calls of a host do
record Runs (cs : List Call) (l : ScreenLent) : Type 0 where
  calls : List rows.Call
  words : painted cs (host-of l) ≡ host-of (rows.called calls l)
  pieces : (r : ℕ) → from r (log cs (host-of l)) ≡ from r (rows.call-log calls l)
  said : (r : ℕ) → said-finished r (log cs (host-of l)) ≡ said-finished r (rows.call-log calls l)

module _ (c : Call) (cs : List Call) (l : ScreenLent) where
  done_first : (paint-out c (host-of l)).number ≡ Done → Runs cs (rows.after_call (call-of c) l) → Runs (c ∷ cs) l
  unfolding painted log rows.called rows.call-log
  done_first e z =
      let w = paint-done c l e in
      let g = gave-done c l e in
      let o = gave-words (turn_in c).row (paint-out c (host-of l)) in
      record {
        calls = call-of c ∷ z.calls;
        words = ap (painted cs) w ∙ z.words;
        pieces = λ r. ap (λ (x : Host). from r (o ∷ log cs x)) w ∙ first_pieces o _ _ _ r g (z.pieces r);
        said = λ r. ap (λ (x : Host). said-finished r (o ∷ log cs x)) w ∙ first_said o _ _ _ r g (z.said r);
      }

  refused-first : ((paint-out c (host-of l)).number ≡ Done → ⊥) → Runs cs l → Runs (c ∷ cs) l
  unfolding painted log from said-finished
  refused-first n z =
      let w = paint-kept c (host-of l) n in
      let q = ne_eqb _ _ n in
      record {
        calls = z.calls;
        words = ap (painted cs) w ∙ z.words;
        pieces = λ r. rw (w, q) (by (eqb (turn_in c).row r) (λ y. rw y (z.pieces r)) (λ y. rw y (z.pieces r)));
        said = λ r. rw (w, q) (by (eqb (turn_in c).row r) (λ y. rw y (z.said r)) (λ y. rw y (z.said r)));
      }

runs : (cs : List Call) (l : ScreenLent) → Runs cs l
runs [] l = record { calls = []; words = unfold painted rows.called in refl; pieces = λ r. unfold log rows.call-log in refl; said = λ r. unfold log rows.call-log in refl }
runs (c ∷ cs) l =
    by (eqb (paint-out c (host-of l)).number Done)
    (λ y. done_first c cs l (eqb-true _ _ y) (runs cs (rows.after_call (call-of c) l)))
    (λ n. refused-first c cs l (eqb-false _ _ n) (runs cs l))

-- a row that has finished by the words that a host reads has
pub finished-too : (l : ScreenLent) (r : ℕ) → finished-at (host-of l) r ≡ true → turns.finished-at l r ≡ true
finished-too l r e =
    let c = one-step (record { row = r; list = []; result = 0 ∷ 0 ∷ [] }) in
    let d = eqb-true (paint-out c (host-of l)).number Done (both _ _ e).0 in
    sym (ap (λ (g : Gave). g.finished) (gave-done c l d)) ∙ e

pub or-either : (a b c : Bool) → (a || b) ≡ true → (b ≡ true → c ≡ true) → (a || c) ≡ true
or-either true b c e f = refl
or-either false b c e f = f e

-- Where row r has finished, picture's calls have given what a host's calls gave of it.
pub record FinishedCalls (r : ℕ) (cs : List Call) (l : ScreenLent) : Type 0 where
  pub calls : List rows.Call
  pub words : painted cs (begin-at (host-of l)).value ≡ host-of (rows.called calls (reached.begin-at l).value)
  pub finished : rows.row-finished r calls (reached.begin-at l).value ≡ true
  pub gave : from r (log cs (begin-at (host-of l)).value) ≡ from r (rows.call-log calls (reached.begin-at l).value)

pub finished-calls : (r : ℕ) (cs : List Call) (l : ScreenLent) → finished r cs (begin-at (host-of l)).value ≡ true → FinishedCalls r cs l
finished-calls r cs l fin =
    let v : (begin-at (host-of l)).value ≡ host-of (reached.begin-at l).value = ap (λ (a : Answer Host). a.value) (begin-on l) in
    let m = (reached.begin-at l).value in
    let w = runs cs m in
    let g : finished r cs (host-of m) ≡ true = sym (ap (finished r cs) v) ∙ fin in
    record {
      calls = w.calls;
      words = ap (painted cs) v ∙ w.words;
      finished = or-either (said-finished r (rows.call-log w.calls m)) _ _ (rw (w.said r, w.words) at g) (finished-too (rows.called w.calls m) r);
      gave = ap (λ (x : Host). from r (log cs x)) v ∙ w.pieces r;
    }

-- painting begun and any calls of a host are such at the words
pub record CalledWords (cs : List Call) (l : ScreenLent) : Type 0 where
  pub calls : List rows.Call
  pub words : painted cs (begin-at (host-of l)).value ≡ host-of (rows.called calls (reached.begin-at l).value)

pub called-words : (cs : List Call) (l : ScreenLent) → CalledWords cs l
called-words cs l =
    let w = runs cs (reached.begin-at l).value in
    record { calls = w.calls; words = ap (λ (a : Answer Host). painted cs a.value) (begin-on l) ∙ w.words }

pub border-picture : Picture
border-picture f xs h z e cs r t there on fin =
    let y = holds z in
    let l = y.words in
    let q : begin-at h ≡ hosted (reached.begin-at l) = ap begin-at y.same ∙ begin-on l in
    let d : (reached.begin-at l).number ≡ Done = sym (ap (λ (a : Answer Host). a.number) q) ∙ e in
    let w = finished-calls r cs l (rw y.same at fin) in
    ap (λ (x : Host). received t (from r (log cs (begin-at x).value))) y.same ∙ ap (received t) w.gave ∙ rows-picture f xs l y.reached d w.calls r t there on w.finished

-- a word of 1 says yes
one_bit : (b : Bool) → bit b ≡ 1 → b ≡ true
one_bit true e = refl
one_bit false e = absurd (omega arith)

said-yes : (a : Answer Bool) (old : List ℕ) → skip-left old a ≡ answer Done (1 ∷ []) → a ≡ answer Done true
said-yes a old e =
    let n : a.number ≡ Done = ap (λ (x : Answer (List ℕ)). x.number) e in
    let w : (skip-left old a).value ≡ 1 ∷ [] = ap (λ (x : Answer (List ℕ)). x.value) e in
    let v : bit a.value ≡ 1 = ap (λ (ws : List ℕ). get_or ws 0 0) (rw n at w) in
    let f : answer a.number a.value ≡ answer Done true = rw (n, one_bit a.value v) in
    f

-- the word of a width stands for it
pub width_read : (w : Width) → width-at (width_word w) ≡ w
width_read W64 = refl
width_read W128 = refl
width_read W256 = refl

clear : (l : ScreenLent) → lent.Clear l → Clear (host-of l)
clear l k b r t id old e =
    let q = skip-on l r t id old (ap (λ (a : Answer (List ℕ)). a.number) e) in
    rw (width_read l.screen.width) (k (one_bit l.screen.painting b) r t id (said-yes (skip-of-row l.screen r l.tables.rows t id) old (sym q ∙ e)))

-- At all hosted words.
pub border-skip : {f : Frame} {xs : List Step} {h : Host} → Hosted f xs h → Clear h
border-skip z = let y = holds z in rw y.same (clear y.words (picture.skip y.reached))
