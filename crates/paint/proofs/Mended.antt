-- A write leaves as many minima as there were. Assumes nothing.
use Rattle.std.proofs.Common.{◌≡◌, refl, sym, ◌∙◌, Bool, true, false, cond, List, [], ◌∷◌, ◌++◌, ℕ, zero, suc, ◌-◌, min, arith, length, take, drop, length-append, length-drop, length-take-le, leb}
use Rattle.rules.specs.Spans.{Span}
use Rattle.rules.specs.Minima.{size, top, half, halvings, left-half, right-half, minima-room, mended, mended-runs}
use Rattle.rules.proofs.laws.Minima.{half-next}
use Rattle.rules.specs.Depth.{write-runs, bucket-runs, runs-in}

-- by whether the range has a bucket
kept : (t : Bool) (n : ℕ) (ws vs : List ℕ) → length ws ≡ n → length vs ≡ n → length (cond t ws vs) ≡ n
kept true n ws vs e f = e
kept false n ws vs e f = f

half-zero : half 0 ≡ 1
unfolding half size
half-zero = refl

length-mended : (k : ℕ) (ws bs : List ℕ) (a b : ℕ) → length ws ≡ half k → length (mended k ws bs a b) ≡ half k
unfolding mended
length-mended zero ws bs a b e = kept (leb b a) (half 0) ws (top bs ∷ []) e (sym half-zero)
length-mended (suc k) ws bs a b e =
    let n = half-next k in
    let d = length-drop 1 ws in
    let lh : length (left-half k ws) ≡ half k = length-take-le (half k) (drop 1 ws) (omega arith) in
    let rh : length (right-half k ws) ≡ half k = length-drop (half k) (drop 1 ws) ∙ omega arith in
    let l = mended k (left-half k ws) (take (size k) bs) a (min b (size k)) in
    let r = mended k (right-half k ws) (drop (size k) bs) (a - size k) (b - size k) in
    let le : length l ≡ half k = length-mended k (left-half k ws) (take (size k) bs) a (min b (size k)) lh in
    let re : length r ≡ half k = length-mended k (right-half k ws) (drop (size k) bs) (a - size k) (b - size k) rh in
    let s = length-append l r in
    kept (leb b a) (half (suc k)) ws (min (top l) (top r) ∷ l ++ r) e (omega arith)

length-mended-runs : (k : ℕ) (ws bs : List ℕ) (rs : List Span) → length ws ≡ half k → length (mended-runs k ws bs rs) ≡ half k
unfolding mended-runs
length-mended-runs k ws bs [] e = e
length-mended-runs k ws bs (r ∷ rs) e = length-mended-runs k (mended k ws bs r.first r.end) bs rs (length-mended k ws bs r.first r.end e)

drop-none : (n : ℕ) → ◌≡◌ {A = List ℕ} (drop n []) []
drop-none zero = refl
drop-none (suc n) = refl

take-none : (n : ℕ) → ◌≡◌ {A = List ℕ} (take n []) []
take-none zero = refl
take-none (suc n) = refl

-- .. of a row
pub length-mends : (bs ws cs : List ℕ) (r : Span) → length ws ≡ minima-room (length bs)
    → length (mended-runs (halvings (length bs)) ws cs (write-runs bs r)) ≡ length ws
unfolding minima-room mended-runs write-runs runs-in bucket-runs
length-mends [] ws cs r e = none r
  where
    none : (r : Span) → length (mended-runs (halvings 0) ws cs (write-runs [] r)) ≡ length ws
    none r = rw (drop-none r.first, take-none (r.end - r.first))
length-mends (b ∷ bs) ws cs r e = length-mended-runs (halvings (length (b ∷ bs))) ws cs (write-runs (b ∷ bs) r) e ∙ sym e
