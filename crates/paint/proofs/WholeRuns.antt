-- A row's steps one by one. Assumes nothing.
use Rattle.std.proofs.Common.{◌≡◌, refl, sym, ap, ◌∙◌, zero-add, Bool, true, false, ◌&&◌, List, ◌++◌, append-nil, Option, None, Some, ℕ, zero, suc, ◌+◌, ◌-◌, ◌*◌, ◌/◌, ◌≤◌, ◌<◌, arith, length, take, drop}
use Rattle.std.proofs.Common.{length-drop, take_all, ltb, eqb, ltb-false, eq-eqb, ne_eqb}
use lib.Seq.{drop-length}
use borrow.Rule.Slice.PartMut.{put_mid, Post-is}
use Rattle.sizes.specs.Sizes.{piece-size}
use Rattle.rules.specs.Attributes.{Attrs}
use Rattle.rules.specs.Painting as rules
use Rattle.paint.specs.Answers.{Painted}
use Rattle.screen.specs.Depths.{Depths}
use Rattle.paint.specs.Painting.{RowLent, words_lent, StepOut, out, listed, settled, painted-row}
use Rattle.paint.specs.Running.{goes_on, ended, one_more, run, finished_with, own-step}
use Rattle.paint.specs.Kinds.{Onward}

-- a step's pieces have room in its list
settled-few : (x : Option rules.Painted) (ms : List ℕ) (d : Depths) (p l : List ℕ) → piece-size * (settled x ms d p l).answer.pieces ≤ length l
unfolding settled
settled-few None ms d p l = omega arith
settled-few (Some o) ms d p l = go (ltb (length l / piece-size) (length o.pieces)) refl
  where
    go : (b : Bool) → ltb (length l / piece-size) (length o.pieces) ≡ b → piece-size * (settled (Some o) ms d p l).answer.pieces ≤ length l
    go true e = rw e (omega arith)
    go false e = rw e (omega (arith, ltb-false (length l / piece-size) (length o.pieces) e))

pub row-few : (v : ℕ) (a : Attrs) (w : RowLent) → piece-size * (painted-row v a w).answer.pieces ≤ length w.list
unfolding painted-row
row-few v a w = settled-few _ _ _ _ w.list

-- what is lent of a list from a place on, and what comes back
module _ (xs : List ℕ) (a : ℕ) (h : a ≤ length xs) where
  all_after : length (drop a xs) ≤ length xs - a
  all_after = rw length-drop (omega arith)

  pub back-after : (ys : List ℕ) → put_mid a (length xs - a) xs ys ≡ take a xs ++ ys
  back-after ys = rw (Post-is a (length xs) xs h, drop-length xs, append-nil ys)

  pub lent-after : take (length xs - a) (drop a xs) ≡ drop a xs
  lent-after = take_all (length xs - a) (drop a xs) all_after

-- one step more of a row's own words
module _ (v : ℕ) (a : Attrs) (s re fi : List ℕ) (d : Depths) (p xs : List ℕ) (n : ℕ) (h : piece-size * n ≤ length xs) (q : Painted) (e : Depths) (g ys : List ℕ)
    (f : out q e g ys ≡ painted-row v a (words_lent s re fi d p (take (length xs - piece-size * n) (drop (piece-size * n) xs)))) where
  same : out q e g ys ≡ own-step v a s re fi d p (drop (piece-size * n) xs)
  same = f ∙ rw (lent-after xs (piece-size * n) h)

  pub one-done : out (record { number = q.number; finished = q.finished; pieces = n + q.pieces }) e g (put_mid (piece-size * n) (length xs - piece-size * n) xs ys)
      ≡ one_more (own-step v a s re fi) (out (listed n) d p xs)
  unfolding one_more
  one-done =
      rw (back-after xs (piece-size * n) h ys)
      (ap (λ (o : StepOut). out (record { number = o.answer.number; finished = o.answer.finished; pieces = n + o.answer.pieces }) o.depth o.painting (take (piece-size * n) xs ++ o.list)) same)

  pub one-few : piece-size * (n + q.pieces) ≤ length xs
  one-few =
      let i : q.pieces ≡ (own-step v a s re fi d p (drop (piece-size * n) xs)).answer.pieces = ap (λ (o : StepOut). o.answer.pieces) same in
      let j : piece-size * q.pieces ≤ length (drop (piece-size * n) xs) = rw i (row-few v a (words_lent s re fi d p (drop (piece-size * n) xs))) in
      omega (arith, j, length-drop (piece-size * n) xs)

-- the steps of a row, from the first to the last
module _ (step : Depths → List ℕ → List ℕ → StepOut) where
  less_one : (n : ℕ) → suc n - 1 ≡ n
  less_one n = omega arith

  pub stops : (f k : ℕ) (g : StepOut) → 0 < f → goes_on (one_more step g).answer ≡ false → run step f k g ≡ ended k (one_more step g)
  unfolding run
  stops zero k g h e = absurd (omega arith)
  stops (suc f) k g h e = rw e

  pub more : (f k : ℕ) (g : StepOut) → 0 < f → goes_on (one_more step g).answer ≡ true → run step f k g ≡ run step (f - 1) (k + 1) (one_more step g)
  unfolding run
  more zero k g h e = absurd (omega arith)
  more (suc f) k g h e = rw (e, less_one f)

  -- steps that are done together: none, one more, those and others
  pub onward-none : (g : StepOut) → Onward step 0 g g
  onward-none g f k h = let i : f - 0 ≡ f = omega arith in let j : k + 0 ≡ k = omega arith in rw (i, j)

  pub onward-more : (n : ℕ) (g o z : StepOut) → Onward step n g o → one_more step o ≡ z → goes_on z.answer ≡ true → Onward step (n + 1) g z
  onward-more n g o z w e i f k h =
      let a : f - n - 1 ≡ f - (n + 1) = omega arith in
      let b : k + n + 1 ≡ k + (n + 1) = omega arith in
      w f k (omega arith) ∙ more (f - n) (k + n) o (omega arith) (rw e i) ∙ rw (e, a, b)

  pub onward-both : (n m : ℕ) (g o z : StepOut) → Onward step n g o → Onward step m o z → Onward step (n + m) g z
  onward-both n m g o z w v f k h =
      let a : f - n - m ≡ f - (n + m) = omega arith in
      let b : k + n + m ≡ k + (n + m) = omega arith in
      w f k (omega arith) ∙ v (f - n) (k + n) (omega arith) ∙ rw (a, b)

  -- .. after none nothing has changed
  pub onward-same : (g o : StepOut) → Onward step 0 g o → g ≡ o
  unfolding run
  onward-same g o w = w 0 0 (omega arith)

  -- .. at most so many: after k of them the rest gives `all`
  module _ (limit : ℕ) where
    pub record Rest (all now : StepOut) (k : ℕ) : Type 0 where
      pub whole : run step (limit - k) k now ≡ all

    no-and : (b : Bool) → (b && false) ≡ false
    no-and true = refl
    no-and false = refl

    module _ {all now : StepOut} {k : ℕ} (z : Rest all now k) (h : k < limit) (q : Painted) (d : Depths) (p l : List ℕ) (e : out q d p l ≡ one_more step now) where
      halted : goes_on q ≡ false → ended k (out q d p l) ≡ all
      halted g =
          let i : goes_on (one_more step now).answer ≡ false = ap (λ (o : StepOut). goes_on o.answer) (sym e) ∙ g in
          ap (ended k) e ∙ sym (stops (limit - k) k now (omega arith) i) ∙ z.whole

      stuck : (q.number ≡ 0 → ⊥) → goes_on q ≡ false
      stuck g = rw (ne_eqb q.number 0 g)

      -- the first step is refused, ..
      pub rest-refused : (q.number ≡ 0 → ⊥) → k ≡ 0 → out q d p l ≡ all
      rest-refused g i = (rw (eq-eqb k 0 i) at (halted (stuck g)))

      -- .. or a later one, ..
      pub rest-stopped : (q.number ≡ 0 → ⊥) → (k ≡ 0 → ⊥) → (b : Bool) → q.finished ≡ b → out (record { number = 0; finished = b; pieces = q.pieces }) d p l ≡ all
      rest-stopped g i b j = (rw (ne_eqb k 0 i, j) at (halted (stuck g)))

      -- .. or the row is finished, ..
      pub rest-finished : q.number ≡ 0 → q.finished ≡ true → out q d p l ≡ all
      rest-finished m g = go (eqb k 0) refl
        where
          stop : goes_on q ≡ false
          stop = rw g (no-and (eqb q.number 0))

          go : (b : Bool) → eqb k 0 ≡ b → out q d p l ≡ all
          go true i = (rw i at (halted stop))
          go false i = rw m (rw i at (halted stop))

      -- .. or it goes on
      pub rest-on : q.number ≡ 0 → q.finished ≡ false → Rest all (out (listed q.pieces) d p l) (k + 1)
      rest-on m g =
          let j : limit - k - 1 ≡ limit - (k + 1) = omega arith in
          let i : goes_on (one_more step now).answer ≡ true = ap (λ (o : StepOut). goes_on o.answer) (sym e) ∙ rw (eq-eqb q.number 0 m, g) in
          let same : out (listed q.pieces) d p l ≡ one_more step now = rw (← m, ← g) e in
          record { whole = rw (same, ← j) (sym (more (limit - k) k now (omega arith) i) ∙ z.whole) }

    pub rest_end : {all now : StepOut} {k : ℕ} → Rest all now k → limit ≤ k → now ≡ all
    unfolding run
    rest_end {k = k} z h = let e : limit - k ≡ 0 = omega arith in (rw e at z.whole)

    -- steps that were sure, and what then says that it is finished
    module _ (start now : StepOut) (n : ℕ) (g : Onward step n start now) where
      pub sure-rest : n ≤ limit → Rest (run step limit 0 start) now n
      sure-rest h = record { whole = (rw zero-add at (sym (g limit 0 h))) }

      pub sure-ended : (d : Depths) (p l : List ℕ) (m : ℕ) → n < limit → one_more step now ≡ out (finished_with m) d p l
          → out (finished_with m) d p l ≡ run step limit 0 start
      sure-ended d p l m h e = rest-finished (sure-rest (omega arith)) h (finished_with m) d p l (sym e) refl refl
