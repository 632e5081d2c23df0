-- Records of k words, joined and cut apart again.
use Rattle.std.proofs.Common.{ℕ, zero, suc, ◌+◌, ◌*◌, ◌≤◌, arith, ◌≡◌, refl, sym, ◌∙◌, true, List, [], ◌∷◌, ◌++◌, append_assoc, length, take, drop, map, length-drop, length-take, length-append, drop-drop, eqb-true, eq-eqb}
use Rattle.std.proofs.lemmas.List.{take-append-drop, drop-take, length-map}
use lib.Seq.{take-take}
use Rattle.rules.specs.Lists.{every}
use Rattle.rules.specs.Recording.{records}
use Rattle.rules.specs.Conversions.{resized}
use Rattle.rules.proofs.All.{both}
use Rattle.convert.specs.Written.{joined, of-words}
use Rattle.convert.proofs.Resized.{resized-length}

take-first : (a b : List ℕ) → take (length a) (a ++ b) ≡ a
take-first [] b = refl
take-first (x ∷ a) b = rw (take-first a b)

drop-first : (a b : List ℕ) → drop (length a) (a ++ b) ≡ b
drop-first [] b = refl
drop-first (x ∷ a) b = drop-first a b

module _ (k : ℕ) where
  pub joined-length : (rs : List (List ℕ)) → every (of-words k) rs ≡ true → length (joined rs) ≡ length rs * k
  joined-length [] h = sym (omega arith)
  joined-length (r ∷ rs) h =
      let b = both (of-words k r) (every (of-words k) rs) h in
      let e = eqb-true (length r) k b.0 in
      length-append r (joined rs) ∙ rw (e, joined-length rs b.1) (omega arith)

  pub cut-joined : (rs : List (List ℕ)) (t : List ℕ) → every (of-words k) rs ≡ true → records k (length rs) (joined rs ++ t) ≡ rs
  cut-joined [] t h = refl
  cut-joined (r ∷ rs) t h =
      let b = both (of-words k r) (every (of-words k) rs) h in
      let e = eqb-true (length r) k b.0 in
      rw (append_assoc r (joined rs) t, ← e, take-first r (joined rs ++ t), drop-first r (joined rs ++ t), cut-joined rs t b.1)

  pub past-joined : (rs : List (List ℕ)) (t : List ℕ) → every (of-words k) rs ≡ true → drop (length rs * k) (joined rs ++ t) ≡ t
  past-joined rs t h = rw (← joined-length rs h) (drop-first (joined rs) t)

  pub records-count : (n : ℕ) (ws : List ℕ) → length (records k n ws) ≡ n
  records-count zero ws = refl
  records-count (suc n) ws = rw (records-count n (drop k ws))

  pub records-whole : (n : ℕ) (ws : List ℕ) → n * k ≤ length ws → every (of-words k) (records k n ws) ≡ true
  records-whole zero ws h = refl
  records-whole (suc n) ws h =
      let e : length (take k ws) ≡ k = simp length-take (omega arith) in
      rw (e, eq-eqb k k refl, records-whole n (drop k ws) (rw (length-drop k ws) (omega arith)))

  pub records-joined : (n : ℕ) (ws : List ℕ) → joined (records k n ws) ++ drop (n * k) ws ≡ ws
  records-joined zero ws = let e : 0 * k ≡ 0 = omega arith in rw e
  records-joined (suc n) ws =
      let e : suc n * k ≡ k + n * k = omega arith in
      rw (e, append_assoc (take k ws) (joined (records k n (drop k ws))) (drop (k + n * k) ws), ← drop-drop (n * k) k ws, records-joined n (drop k ws))
      (take-append-drop k ws)

  -- records read off a part that holds them all
  pub records-part : (n : ℕ) (ws : List ℕ) → records k n (take (n * k) ws) ≡ records k n ws
  records-part zero ws = refl
  records-part (suc n) ws =
      let e : suc n * k ≡ k + n * k = omega arith in
      let h : k ≤ k + n * k = omega arith in
      rw (e, take-take k (k + n * k) ws h, drop-take k (n * k) ws, records-part n (drop k ws))

-- records resized, joined
pub resized-whole : (m : ℕ) (rs : List (List ℕ)) → every (of-words m) (map (resized m) rs) ≡ true
resized-whole m [] = refl
resized-whole m (r ∷ rs) = rw (resized-length m r, eq-eqb m m refl, resized-whole m rs) refl

pub resized-count : (m : ℕ) (rs : List (List ℕ)) → length (joined (map (resized m) rs)) ≡ length rs * m
resized-count m rs = rw (joined-length m (map (resized m) rs) (resized-whole m rs), length-map rs (resized m))
