-- Records as the code writes them.
use Rattle.std.proofs.Common.{ℕ, zero, suc, ◌+◌, ◌-◌, ◌*◌, ◌<◌, min, mul-zero, add-one, arith, ◌≡◌, refl, sym, ap, ◌∙◌, List, [], ◌∷◌, ◌++◌, append_assoc, append-nil, map, length, take, drop}
use Rattle.std.proofs.Common.{drop-drop, replicate, length-append, length-take, length-drop}
use Rattle.std.proofs.lemmas.List.{take_at, drop_all, take-append-drop}
use Rattle.std.proofs.lemmas.Slice.{take-put_mid}
use borrow.Rule.Slice.PartMut.{put_mid}
use Rattle.rules.specs.Recording.{records}
use Rattle.rules.specs.Conversions.{resized}
use Rattle.convert.specs.Written.{joined}
use Rattle.convert.proofs.Resized.{resized-length, resized-same}
use Rattle.convert.proofs.Kept.{record-within}

-- a record resized: what is kept of it, then zeros
resized-parts : (n : ℕ) (ws : List ℕ) → take (min (length ws) n) ws ++ replicate (n - min (length ws) n) 0 ≡ resized n ws
unfolding resized
resized-parts zero ws = rw (let e : min (length ws) 0 ≡ 0 = omega arith in e)
resized-parts (suc n) [] =
    let e : min 0 (suc n) ≡ 0 = omega arith in
    let g : min 0 n ≡ 0 = omega arith in
    let s : suc n - 0 ≡ suc n = omega arith in
    let t : n - 0 ≡ n = omega arith in
    rw (e, s) (ap (λ (l : List ℕ). 0 ∷ l) (rw (g, t) at (resized-parts n [])))
resized-parts (suc n) (w ∷ ws) =
    let e : min (suc (length ws)) (suc n) ≡ suc (min (length ws) n) = omega arith in
    let g : suc n - suc (min (length ws) n) ≡ n - min (length ws) n = omega arith in
    rw (e, g) (ap (λ (l : List ℕ). w ∷ l) (resized-parts n ws))

module _ (m : ℕ) (ws out copy zeros : List ℕ) where
  abbrev all : List ℕ
  all = copy ++ drop m out

  -- a part copied, then zeros to the end
  pub put_whole : m ≡ min (length ws) (length out) → copy ≡ take m ws → zeros ≡ replicate (length (take (length all - m) (drop m all))) 0
      → put_mid m (length all - m) all zeros ≡ resized (length out) ws
  put_whole e p q =
      let c : length copy ≡ m = ap length p ∙ simp length-take (omega arith) in
      let n : length all ≡ length out = simp (length-append, length-drop) (omega arith) in
      let k : length (take (length all - m) (drop m all)) ≡ length out - m = simp (length-take, length-drop) (omega (arith, n)) in
      let first : take m all ≡ copy = take_at copy (drop m out) m c in
      let none : drop (length all - m) (drop m all) ≡ [] = drop_all (length all - m) (drop m all) (rw (length-drop m all) (omega arith)) in
      rw (first, none, append-nil, q, k, p, e) (resized-parts (length out) ws)

-- one record more
module _ (k m : ℕ) where
  pub joined-more : (i : ℕ) (ws : List ℕ) → joined (map (resized m) (records k (i + 1) ws)) ≡ joined (map (resized m) (records k i ws)) ++ resized m (take k (drop (k * i) ws))
  joined-more zero ws = rw (mul-zero, append-nil)
  joined-more (suc i) ws =
      let e : k * suc i ≡ k + k * i = omega arith in
      rw (add-one (suc i), e, append_assoc (resized m (take k ws)) (joined (map (resized m) (records k i (drop k ws)))) (resized m (take k (drop (k + k * i) ws))), ← drop-drop (k * i) k ws)
      (ap (λ (l : List ℕ). resized m (take k ws) ++ l) (rw (add-one i) at (joined-more i (drop k ws))))

-- records of the size itself stay
pub joined-same : (k n : ℕ) (ws : List ℕ) → length ws ≡ n * k → joined (map (resized k) (records k n ws)) ≡ ws
joined-same k zero [] h = refl
joined-same k zero (w ∷ ws) h = absurd (omega arith)
joined-same k (suc n) ws h =
    let e : length (take k ws) ≡ k = simp length-take (omega arith) in
    let r : resized k (take k ws) ≡ take k ws = rw e at (resized-same (take k ws)) in
    rw (r, joined-same k n (drop k ws) (rw (length-drop k ws) (omega arith))) (take-append-drop k ws)

-- the records put so far, and one more
module _ (k m n : ℕ) (ws now : List ℕ) where
  pub put-record : (i : ℕ) (ys : List ℕ) → take (m * i) now ≡ joined (map (resized m) (records k i ws)) → i < n → length now ≡ n * m
      → ys ≡ resized (length (take (m * i + m - m * i) (drop (m * i) now))) (take (k * i + k - k * i) (drop (k * i) ws))
      → take (m * (i + 1)) (put_mid (m * i) (m * i + m - m * i) now ys) ≡ joined (map (resized m) (records k (i + 1) ws))
  put-record i ys h few long e =
      let w = record-within m i n few in
      let t : k * i + k - k * i ≡ k = omega arith in
      let u : m * i + m - m * i ≡ m = omega arith in
      let s : length (take m (drop (m * i) now)) ≡ m = simp (length-take, length-drop) (omega arith) in
      let g : ys ≡ resized m (take k (drop (k * i) ws)) = rw (t, u, s) at e in
      let l : length ys ≡ m = rw g (resized-length m (take k (drop (k * i) ws))) in
      take-put_mid (m * i) (m * i + m - m * i) now ys (m * (i + 1)) (omega arith) (omega arith) ∙ rw (h, g) (sym (joined-more k m i ws))
