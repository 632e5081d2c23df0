-- How long the lines of attributes and of pieces are at most. Assumes nothing.
use Rattle.std.proofs.Common.{Bool, true, false, List, [], ◌∷◌, ◌++◌, Option, ℕ, suc, ◌+◌, ◌≤◌, arith, length, ℤ, pos, negsuc}
use Rattle.rules.specs.Lines.{number, alpha-bytes}
use Rattle.text.specs.Texts.{signed}
use Rattle.text.proofs.Lengths.{plus, digits-few, number-few, alpha-few}
use Rattle.text.specs.Details.{Detail, paint-attributes, A, layer-attributes, Y, filter-paints, F, painted, p, l}
use Rattle.text.specs.Bytes.{pieces-text, detail-room, piece-room, panel-bytes, piece_bytes, detail-line, detail-bytes}

signed-few : (x : ℤ) → length (signed x) ≤ 12
signed-few (pos n) = omega (arith, digits-few 10 n)
signed-few (negsuc n) = omega (arith, digits-few 10 (suc n))

-- numbers one after the other
four-few : (a b c d : ℕ) (ts : List ℕ) (m : ℕ) → length ts ≤ m → length (number a ++ (number b ++ (number c ++ (number d ++ ts)))) ≤ 44 + m
four-few a b c d ts m h =
    let x = plus {a = 11} {b = m} (number d) ts (number-few d) h in
    let y = plus {a = 11} {b = 11 + m} (number c) (number d ++ ts) (number-few c) x in
    let z = plus {a = 11} {b = 11 + (11 + m)} (number b) (number c ++ (number d ++ ts)) (number-few b) y in
    omega (arith, plus {a = 11} {b = 11 + (11 + (11 + m))} (number a) (number b ++ (number c ++ (number d ++ ts))) (number-few a) z)

panel-few : (v : Bool) (q : ℕ) → length (panel-bytes v q) ≤ 11
panel-few true q = number-few q
panel-few false q = omega arith

piece-fields-few : (a f e : ℕ) (x : Option ℕ) (n : ℕ) (v : Bool) (q : ℕ) → length (piece_bytes a f e (alpha-bytes x) n (panel-bytes v q)) ≤ 66
piece-fields-few a f e x n v q =
    let ts = number n ++ panel-bytes v q in
    let u = plus {a = 11} {b = 11} (number n) (panel-bytes v q) (number-few n) (panel-few v q) in
    let y = plus {a = 11} {b = 22} (alpha-bytes x) ts (alpha-few x) u in
    let z = plus {a = 11} {b = 33} (number e) (alpha-bytes x ++ ts) (number-few e) y in
    let w = plus {a = 11} {b = 44} (number f) (number e ++ (alpha-bytes x ++ ts)) (number-few f) z in
    plus {a = 11} {b = 55} (number a) (number f ++ (number e ++ (alpha-bytes x ++ ts))) (number-few a) w

-- the lines' bounds, with panels or without
module _ (v : Bool) where
  ended-few : {m : ℕ} (d : Detail) → length (detail-line v d) ≤ m → length (detail-bytes v d) ≤ m + 1
  unfolding detail-bytes
  ended-few {m} d h = plus {a = m} {b = 1} (detail-line v d) (10 ∷ []) h (omega arith)

  pub p-few : (a f e : ℕ) (x : Option ℕ) (n q : ℕ) → length (detail-bytes v (p a f e x n q)) ≤ piece-room
  p-few a f e x n q = omega (arith, ended-few {m = 67} (p a f e x n q) (omega (arith, piece-fields-few a f e x n v q)))

  pub l-few : (a f e : ℕ) (x : Option ℕ) (n q : ℕ) → length (detail-bytes v (l a f e x n q)) ≤ piece-room
  l-few a f e x n q = omega (arith, ended-few {m = 67} (l a f e x n q) (omega (arith, piece-fields-few a f e x n v q)))

  pub painted-few : (r n : ℕ) → length (detail-bytes v (painted r n)) ≤ piece-room
  painted-few r n =
      let x = plus {a = 11} {b = 18} (number r) (pieces-text ++ number n) (number-few r) (omega (arith, number-few n)) in
      omega (arith, ended-few {m = 36} (painted r n) (omega (arith, x)))

  pub detail-few : (d : Detail) → length (detail-bytes v d) ≤ detail-room
  detail-few (paint-attributes n) = omega (arith, ended-few {m = 27} (paint-attributes n) (omega (arith, number-few n)))
  detail-few (layer-attributes n) = omega (arith, ended-few {m = 27} (layer-attributes n) (omega (arith, number-few n)))
  detail-few (filter-paints n) = omega (arith, ended-few {m = 24} (filter-paints n) (omega (arith, number-few n)))
  detail-few (A a b c d e f x y q) =
      let h = four-few a b c d (number e ++ (number f ++ (number x ++ (number y ++ panel-bytes v q)))) 55 (four-few e f x y (panel-bytes v q) 11 (panel-few v q)) in
      omega (arith, ended-few {m = 100} (A a b c d e f x y q) (omega (arith, h)))
  detail-few (Y a b c d e f q) =
      let x = plus {a = 11} {b = 11} (number f) (panel-bytes v q) (number-few f) (panel-few v q) in
      let h = four-few a b c d (number e ++ (number f ++ panel-bytes v q)) 33 (plus {a = 11} {b = 22} (number e) (number f ++ panel-bytes v q) (number-few e) x) in
      omega (arith, ended-few {m = 78} (Y a b c d e f q) (omega (arith, h)))
  detail-few (F a b x y) =
      let h = plus {a = 12} {b = 12} (signed x) (signed y) (signed-few x) (signed-few y) in
      let g = plus {a = 11} {b = 24} (number b) (signed x ++ signed y) (number-few b) h in
      let f = plus {a = 11} {b = 35} (number a) (number b ++ (signed x ++ signed y)) (number-few a) g in
      omega (arith, ended-few {m = 47} (F a b x y) (omega (arith, f)))
  detail-few (painted r n) = omega (arith, painted-few r n)
  detail-few (p a f e x n q) = omega (arith, p-few a f e x n q)
  detail-few (l a f e x n q) = omega (arith, l-few a f e x n q)
