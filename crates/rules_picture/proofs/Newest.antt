-- The heart of the picture on one row: painted newest to oldest, a bucket ends up with the id of the newest depth fill that covers it.
use Rattle.std.proofs.Common.{ℕ, zero, suc, ◌+◌, ◌-◌, ◌≤◌, ◌<◌, ◌≡◌, refl, sym, ap, ◌∙◌, Bool, true, false, cond, List, [], ◌∷◌, add-suc, suc-add, add-zero, zero-add, le_of_suc-le-suc, not-suc-le-zero}
use Rattle.std.proofs.Common.{le_refl, add-one, arith, length, get_or, drop, replicate, drop_of_length-le, drop-cons, lt-ltb}
use native.Mathlib.Nat.{sub-zero}
use lib.ListN.{get_or-replicate, length-replicate}
use lib.Dec.{eqb-suc-zero}
use Rattle.rules.specs.Spans.{Span, covers}
use Rattle.rules.specs.Commands.{DepthFill}
use Rattle.rules.specs.Rows.{Row}
use Rattle.rules.specs.Attributes.{Attrs}
use Rattle.rules.specs.Depth.{write, written, written_from}
use Rattle.rules.specs.Painting.{Painter, Painted, begin, no-fill, paint-when, paint-id, paint-depth, paint-step}

-- A written bucket.
from_at : (id : ℕ) (r : Span) (i k : ℕ) (bs : List ℕ) → k < length bs → get_or (written_from i id r bs) k 0 ≡ cond (covers r (i + k)) (write id (get_or bs k 0)) (get_or bs k 0)
from_at id r i k [] h = absurd (not-suc-le-zero h)
from_at id r i zero (b ∷ bs) h = rw (add-zero i)
from_at id r i (suc k) (b ∷ bs) h = rw (add-suc i k, ← suc-add i k) (from_at id r (suc i) k bs (le_of_suc-le-suc h))

from-length : (id : ℕ) (r : Span) (i : ℕ) (bs : List ℕ) → length (written_from i id r bs) ≡ length bs
from-length id r i [] = refl
from-length id r i (b ∷ bs) = ap suc (from-length id r (suc i) bs)

pub written_at : (bs : List ℕ) (id : ℕ) (r : Span) (k : ℕ) → k < length bs → get_or (written bs id r) k 0 ≡ cond (covers r k) (write id (get_or bs k 0)) (get_or bs k 0)
unfolding written
written_at bs id r k h = rw (zero-add k) at (from_at id r 0 k bs h)

pub written-length : (bs : List ℕ) (id : ℕ) (r : Span) → length (written bs id r) ≡ length bs
unfolding written
written-length bs id r = from-length id r 0 bs

-- The newest depth fill that covers bucket k, by its id, or 0. The fills stand oldest first.
unfoldable pub newest : (ℕ → ℕ) → List DepthFill → ℕ → ℕ
newest id [] k = 0
newest id (f ∷ fs) k = write (cond (covers f.buckets k) (id f.attribute) 0) (newest id fs k)

-- The depth words after the fills, painted last to first.
unfoldable pub depth-after : (ℕ → ℕ) → List DepthFill → List ℕ → List ℕ
depth-after id [] bs = bs
depth-after id (f ∷ fs) bs = written (depth-after id fs bs) (id f.attribute) f.buckets

pub after-length : (id : ℕ → ℕ) (fs : List DepthFill) (bs : List ℕ) → length (depth-after id fs bs) ≡ length bs
unfolding depth-after
after-length id [] bs = refl
after-length id (f ∷ fs) bs = written-length _ _ _ ∙ after-length id fs bs

pub write-zero : (b : ℕ) → write 0 b ≡ b
write-zero zero = refl
write-zero (suc b) = rw (eqb-suc-zero b)

write-if : (c : Bool) (x b : ℕ) → cond c (write x b) b ≡ write (cond c x 0) b
write-if true x b = refl
write-if false x b = sym (write-zero b)

-- bucket k of n holds the newest covering fill's id
pub holds-newest : (id : ℕ → ℕ) (fs : List DepthFill) (n k : ℕ) → k < n → get_or (depth-after id fs (replicate n 0)) k 0 ≡ newest id fs k
unfolding depth-after newest
holds-newest id [] n k h = get_or-replicate n k 0 0 h
holds-newest id (f ∷ fs) n k h =
    written_at (depth-after id fs (replicate n 0)) (id f.attribute) f.buckets k (rw (after-length id fs (replicate n 0), length-replicate {A = ℕ} n 0) h)
    ∙ rw (holds-newest id fs n k h) (write-if (covers f.buckets k) (id f.attribute) (newest id fs k))

-- The painting steps do just that.
module _ (w : ℕ) (attrs : Attrs) (r : Row) (n : ℕ) where
  unfoldable pub painter-after : ℕ → Painter
  painter-after zero = begin n
  painter-after (suc k) = (paint-step w attrs r (painter-after k)).painter

  unfoldable pub fill-at : ℕ → DepthFill
  fill-at k = get_or r.fills (length r.fills - (k + 1)) no-fill

  pub next-is : (p : Painter) (k : ℕ) → p.steps ≡ k → k < length r.fills → paint-step w attrs r p ≡ paint-depth w attrs (fill-at k) p
  unfolding paint-step paint-when fill-at
  next-is p k e h = rw (e, lt-ltb k (length r.fills) h)

  -- where the painter stands after k of the depth fills
  pub record Stands (k : ℕ) : Type 0 where
    pub steps : (painter-after k).steps ≡ k
    pub nesting : (painter-after k).nesting ≡ 0
    pub buckets : (painter-after k).buckets ≡ depth-after (paint-id attrs) (drop (length r.fills - k) r.fills) (replicate n 0)

  pub stands : (k : ℕ) → k ≤ length r.fills → Stands k
  unfolding painter-after depth-after paint-depth fill-at
  stands zero h = record { steps = refl; nesting = refl; buckets = rw (sub-zero (length r.fills), drop_of_length-le r.fills (le_refl (length r.fills))) }
  stands (suc k) h =
      let s = stands k (omega arith) in
      let e = next-is (painter-after k) k s.steps h in
      let i : suc (length r.fills - suc k) ≡ length r.fills - k = omega arith in
      record {
        nesting = ap (λ (o : Painted). o.painter.nesting) e ∙ s.nesting;
        steps = ap (λ (o : Painted). o.painter.steps) e ∙ rw s.steps (add-one k);
        buckets = ap (λ (o : Painted). o.painter.buckets) e ∙ rw (s.buckets, add-one k, ← i, drop-cons r.fills (length r.fills - suc k) no-fill (omega arith));
      }

  -- after its depth fills a row's bucket holds the newest covering fill's id
  pub painted-newest : (k : ℕ) → k < n → get_or (painter-after (length r.fills)).buckets k 0 ≡ newest (paint-id attrs) r.fills k
  painted-newest k h =
      let s = stands (length r.fills) (le_refl (length r.fills)) in
      let z : length r.fills - length r.fills ≡ 0 = omega arith in
      rw (s.buckets, z) (holds-newest (paint-id attrs) r.fills n k h)
