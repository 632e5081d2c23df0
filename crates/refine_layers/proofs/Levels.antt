-- How many levels a row has after an act, and after puts. Assumes nothing.
use Rattle.std.proofs.Common.{◌≡◌, refl, ap, ◌∙◌, List, [], ◌∷◌, Option, None, Some, ℕ, zero, suc, ◌+◌, ◌-◌, ◌≤◌, max, arith, length, get_or}
use mathlib.Core.List.{foldl}
use Rattle.rules.specs.Lists.{change, times}
use Rattle.rules.specs.Spans.{Span}
use Rattle.rules.specs.Split.{Part, regular, buckets, split}
use Rattle.rules.specs.Commands.{Command, paint-fill, layer-fill}
use Rattle.rules.specs.Rows.{Row, Level, fresh-row, row-ops, adds, include, put-command, put-push-buf, pop-levels, put-pop-buf, put-depth-fill}
use Rattle.rules.specs.Plans.{Act, paint, opaque, touch, close, pop}
use Rattle.rules.specs.Steps.{ensure, put-part, do-act}
use Rattle.refine_layers.specs.Touched.{levels-at}

abbrev pub levels : Row → ℕ
levels r = length r.levels

include-levels : (a : Option Span) (ls : List Level) → length (include a ls) ≡ length ls
include-levels None ls = refl
include-levels (Some s) [] = refl
include-levels (Some s) (l ∷ ls) = refl

pub put-levels : (c : Command) (r : Row) → levels (put-command c r) ≡ levels r
unfolding put-command
put-levels c r = include-levels (adds c) r.levels

pop-as : (ls : List Level) (r : Row) → r.levels ≡ ls → levels (pop-levels ls r) ≡ levels r - 1
pop-as [] r e = rw e
pop-as (l ∷ ls) r e = rw e (omega arith)

pub pop-buf-levels : (r : Row) → levels (put-pop-buf r) ≡ levels r - 1
unfolding put-pop-buf
pop-buf-levels r = pop-as r.levels r refl

pushes : (k : ℕ) (r : Row) → levels (times k put-push-buf r) ≡ levels r + k
unfolding put-push-buf
pushes zero r = omega arith
pushes (suc k) r = pushes k (put-push-buf r) ∙ omega arith

-- with n layers open
module _ (n : ℕ) where
  pub ensure-levels : (r : Row) → levels (ensure Row row-ops n r) ≡ max (levels r) n
  ensure-levels r = pushes (n - levels r) r ∙ omega arith

  -- the levels after an act, from those before
  abbrev pub levels-after : Act → ℕ → ℕ
  levels-after (paint s a i) m = max m n
  levels-after (opaque s i id) m = max m n
  levels-after touch m = max m n
  levels-after (close s a i) m = m
  levels-after pop m = m - 1

-- at any width
module _ (w : ℕ) where
  part-levels : (i id : ℕ) (r : Row) (p : Part) → levels (put-part Row row-ops w i id r p) ≡ levels r
  unfolding put-depth-fill
  part-levels i id r (regular s) = put-levels (paint-fill s None i) r
  part-levels i id r (buckets b) = refl

  parts-levels : (i id : ℕ) (r : Row) (ps : List Part) → levels (foldl (put-part Row row-ops w i id) r ps) ≡ levels r
  parts-levels i id r [] = refl
  parts-levels i id r (p ∷ ps) = parts-levels i id (put-part Row row-ops w i id r p) ps ∙ part-levels i id r p

  pub act-levels : (n : ℕ) (t : Act) (r : Row) → levels (do-act Row row-ops w n t r) ≡ levels-after n t (levels r)
  unfolding do-act
  act-levels n (paint s a i) r = put-levels (paint-fill s a i) (ensure Row row-ops n r) ∙ ensure-levels n r
  act-levels n (opaque s i id) r = parts-levels i id (ensure Row row-ops n r) (split w s) ∙ ensure-levels n r
  act-levels n touch r = ensure-levels n r
  act-levels n (close s a i) r = put-levels (layer-fill s a i) r
  act-levels n pop r = pop-buf-levels r

-- a row past the last has none
pub past-levels : (rs : List Row) (k : ℕ) → length rs ≤ k → levels-at rs k ≡ 0
past-levels [] k g = refl
past-levels (z ∷ zs) zero g = absurd (omega arith)
past-levels (z ∷ zs) (suc k) g = past-levels zs k (omega arith)

-- a change keeps what holds of no levels, of the levels before, and of the levels after
pub changed-at : (Q : ℕ → Type 0) (f : Row → Row) (r x : ℕ) (rs : List Row) → Q 0 → Q (levels-at rs x) → (r ≡ x → Q (levels (f (get_or rs x fresh-row)))) → Q (levels-at (change f r rs) x)
changed-at Q f zero x [] z p q = z
changed-at Q f (suc r) x [] z p q = z
changed-at Q f zero zero (y ∷ ys) z p q = q refl
changed-at Q f zero (suc x) (y ∷ ys) z p q = p
changed-at Q f (suc r) zero (y ∷ ys) z p q = p
changed-at Q f (suc r) (suc x) (y ∷ ys) z p q = changed-at Q f r x ys z p (λ e. q (ap suc e))
