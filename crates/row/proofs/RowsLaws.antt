-- A screen's words and its rows. Assumes nothing.
use Rattle.std.proofs.Common.{◌≡◌, refl, sym, ap, ◌∙◌, List, [], ◌∷◌, ◌++◌, append_assoc, ℕ, zero, suc, ◌+◌, ◌-◌, ◌*◌, ◌≤◌, ◌<◌, zero-mul, suc-mul, add_comm, mul-le-mul, mul-le-mul_right, arith}
use Rattle.std.proofs.Common.{length, take, drop, get_or, set, length-drop, length-append, take-append-drop, length-take-le, drop-drop, take-add, take_at, drop_at}
use borrow.Rule.Slice.PartMut.{put_mid, same_len_mid}
use Rattle.rules.specs.Lists.{change}
use Rattle.rules.proofs.All.{All, nil, cons}
use Rattle.rules.proofs.laws.Changes.{change-set}
use Rattle.row.specs.Words.{Words, words, Room, Grown}
use Rattle.row.specs.declared.rows.Place.{Place}
use Rattle.row.specs.Arena.{nowhere, Sizes, Sized, sizes, head_of, tail_of, cut, lay, row_at, with_row, Long, count-rows, Arenas, Stands}

-- one slice: what stands in row r of k words, counted from the second row on, and in the whole
pub one_more : (r k : ℕ) → suc r * k ≡ k + r * k
one_more r k = suc-mul r k ∙ add_comm (r * k) k

-- row r's part ends within n rows
pub within : (r n k : ℕ) → r < n → r * k + k ≤ n * k
within r n k h = let e : suc r * k ≡ r * k + k = suc-mul r k in let g : suc r * k ≤ n * k = mul-le-mul_right k h in omega arith

module _ (k r : ℕ) (xs : List ℕ) where
  pub part-0 : take k (drop (0 * k) xs) ≡ take k xs
  part-0 = rw zero-mul

  pub part-suc : take k (drop (r * k) (drop k xs)) ≡ take k (drop (suc r * k) xs)
  part-suc = rw (one_more r k, drop-drop)

  module _ (ys : List ℕ) where
    pub put-0 : put_mid (0 * k) k xs ys ≡ ys ++ drop k xs
    put-0 = rw zero-mul

    pub put-suc : take k xs ++ put_mid (r * k) k (drop k xs) ys ≡ put_mid (suc r * k) k xs ys
    put-suc = rw (one_more r k, take-add, append_assoc, drop-drop (r * k) k xs)

    module _ (n : ℕ) (l : length xs ≡ suc n * k) (m : length ys ≡ k) where
      pub long : k ≤ length xs
      long = omega (arith, l, one_more n k)

      pub head-0 : take k (put_mid (0 * k) k xs ys) ≡ ys
      head-0 = rw put-0 (take_at ys (drop k xs) k m)

      pub tail-0 : drop k (put_mid (0 * k) k xs ys) ≡ drop k xs
      tail-0 = rw put-0 (drop_at ys (drop k xs) k m)

      pub head-suc : take k (put_mid (suc r * k) k xs ys) ≡ take k xs
      head-suc = rw (← put-suc) (take_at (take k xs) (put_mid (r * k) k (drop k xs) ys) k (length-take-le k xs long))

      pub tail-suc : drop k (put_mid (suc r * k) k xs ys) ≡ put_mid (r * k) k (drop k xs) ys
      tail-suc = rw (← put-suc) (drop_at (take k xs) (put_mid (r * k) k (drop k xs) ys) k (length-take-le k xs long))

pub put-length : (a j : ℕ) (xs ys : List ℕ) → a + j ≤ length xs → length ys ≡ j → length (put_mid a j xs ys) ≡ length xs
put-length a j xs ys h e = same_len_mid a j xs ys (e ∙ sym (length-take-le j (drop a xs) (rw length-drop (omega arith))))

-- row r of n has its words
pub part-long : (n r j : ℕ) (xs : List ℕ) → r < n → length xs ≡ n * j → length (take j (drop (r * j) xs)) ≡ j
part-long n r j xs h e = length-take-le j (drop (r * j) xs) (rw length-drop (omega (arith, within r n j h)))

-- products of a row's number and a row's size stay small
pub small : (r n k : ℕ) → r < n → n ≤ 512 → k ≤ 4096 → r * k ≤ 2097152
small r n k h m g = mul-le-mul {n₂ = 512} {m₂ = 4096} (omega arith) g

pub less : (n k : ℕ) (xs : List ℕ) → length xs ≡ suc n * k → length (drop k xs) ≡ n * k
less n k xs l = length-drop k xs ∙ omega (arith, l, one_more n k)

pub none-long : (k : ℕ) (xs : List ℕ) → length xs ≡ 0 * k → xs ≡ []
none-long k [] l = refl
none-long k (x ∷ xs) l = absurd (omega (arith, l, zero-mul k))

module _ (k : Sizes) where
  pub tail-long : (n : ℕ) (w : Words) → Long k (suc n) w → Long k n (tail_of k w)
  tail-long n w l = record { state = less n k.state w.state l.state; render = less n k.render w.render l.render; fills = less n k.fills w.fills l.fills }

  pub cut-length : (n : ℕ) (w : Words) → length (cut k n w) ≡ n
  unfolding cut
  cut-length zero w = refl
  cut-length (suc n) w = ap suc (cut-length n (tail_of k w))

  -- what is cut and laid is as it was
  pub lay-cut : (n : ℕ) (w : Words) → Long k n w → lay (cut k n w) ≡ w
  unfolding cut lay
  lay-cut zero w l = rw (none-long k.state w.state l.state, none-long k.render w.render l.render, none-long k.fills w.fills l.fills)
  lay-cut (suc n) w l = rw (lay-cut n (tail_of k w) (tail-long n w l), take-append-drop, take-append-drop, take-append-drop)

  pub cut_at : (n r : ℕ) (w d : Words) → r < n → get_or (cut k n w) r d ≡ row_at k r w
  unfolding cut
  cut_at zero r w d h = absurd (omega arith)
  cut_at (suc n) zero w d h = rw (part-0 k.state 0 w.state, part-0 k.render 0 w.render, part-0 k.fills 0 w.fills)
  cut_at (suc n) (suc r) w d h = cut_at n r (tail_of k w) d (omega arith) ∙ rw (part-suc k.state r w.state, part-suc k.render r w.render, part-suc k.fills r w.fills)

  module _ (u : Words) (p : length u.state ≡ k.state) (q : length u.render ≡ k.render) (s : length u.fills ≡ k.fills) where
    -- a row put in its place is the row of the cut
    pub cut-with : (n r : ℕ) (w : Words) → Long k n w → r < n → cut k n (with_row k r w u) ≡ set (cut k n w) r u
    unfolding cut
    cut-with zero r w l h = absurd (omega arith)
    cut-with (suc n) zero w l h =
        rw (
          head-0 k.state 0 w.state u.state n l.state p,
          head-0 k.render 0 w.render u.render n l.render q,
          head-0 k.fills 0 w.fills u.fills n l.fills s,
          tail-0 k.state 0 w.state u.state n l.state p,
          tail-0 k.render 0 w.render u.render n l.render q,
          tail-0 k.fills 0 w.fills u.fills n l.fills s,
        )
    cut-with (suc n) (suc r) w l h =
        rw (
          head-suc k.state r w.state u.state n l.state p,
          head-suc k.render r w.render u.render n l.render q,
          head-suc k.fills r w.fills u.fills n l.fills s,
          tail-suc k.state r w.state u.state n l.state p,
          tail-suc k.render r w.render u.render n l.render q,
          tail-suc k.fills r w.fills u.fills n l.fills s,
        )
        (ap (λ (t : List Words). head_of k w ∷ t) (cut-with n r (tail_of k w) (tail-long n w l) (omega arith)))

-- row r of a whole has a row's words
module _ (k : Sizes) (n r : ℕ) (w : Words) (l : Long k n w) (h : r < n) where
  pub at-state : length (row_at k r w).state ≡ k.state
  at-state = part-long n r k.state w.state h l.state

  pub at-render : length (row_at k r w).render ≡ k.render
  at-render = part-long n r k.render w.render h l.render

  pub at-fills : length (row_at k r w).fills ≡ k.fills
  at-fills = part-long n r k.fills w.fills h l.fills

-- n rows have n records
pub rows-counted : (s : List ℕ) (n : ℕ) → length s ≡ n * 54 → count-rows s ≡ n
rows-counted s n e = omega arith

-- by its place, row r is lent to a call, which does f to it, and comes back
module _ {c d n r : ℕ} {w : Words} (a : Arenas c d n w) (h : r < n) {p : Place} (s : Stands c d r p) where
  pub x-end : p.x1 ≤ length w.state
  x-end = omega (arith, within r n 54 h, s.x0, s.x1, a.long.state)

  pub z-end : p.z1 ≤ length w.fills
  z-end = omega (arith, within r n (2 * d) h, s.z0, s.z1, a.long.fills)

  x-size : p.x1 - p.x0 ≡ 54
  x-size = omega (arith, s.x1)

  y-size : p.y1 - p.y0 ≡ 4 * c
  y-size = omega (arith, s.y1)

  z-size : p.z1 - p.z0 ≡ 2 * d
  z-size = omega (arith, s.z1)

  abbrev out : Words
  out = words (take (p.x1 - p.x0) (drop p.x0 w.state)) (take (p.y1 - p.y0) (drop p.y0 w.render)) (take (p.z1 - p.z0) (drop p.z0 w.fills))

  pub lent : out ≡ get_or (cut (sizes c d) n w) r nowhere
  lent = rw (x-size, y-size, z-size, s.x0, s.y0, s.z0) (sym (cut_at (sizes c d) n r w nowhere h))

  pub roomy : (f : Words → Words) → Room (get_or (cut (sizes c d) n w) r nowhere) (f (get_or (cut (sizes c d) n w) r nowhere)) → Room out (f out)
  roomy f o = rw lent o

  pub back : (f : Words → Words) (x y z : List ℕ) → Grown out (f out) → words x y z ≡ f out
      → cut (sizes c d) n (words (put_mid p.x0 (p.x1 - p.x0) w.state x) (put_mid p.y0 (p.y1 - p.y0) w.render y) (put_mid p.z0 (p.z1 - p.z0) w.fills z))
      ≡ change f r (cut (sizes c d) n w)
  back f x y z g e =
      let i : out ≡ row_at (sizes c d) r w = lent ∙ cut_at (sizes c d) n r w nowhere h in
      let u : length x ≡ 54 = ap (λ (t : Words). length t.state) e ∙ g.state ∙ ap (λ (t : Words). length t.state) i ∙ at-state (sizes c d) n r w a.long h in
      let v : length y ≡ 4 * c = ap (λ (t : Words). length t.render) e ∙ g.render ∙ ap (λ (t : Words). length t.render) i ∙ at-render (sizes c d) n r w a.long h in
      let t : length z ≡ 2 * d = ap (λ (t : Words). length t.fills) e ∙ g.fills ∙ ap (λ (t : Words). length t.fills) i ∙ at-fills (sizes c d) n r w a.long h in
      rw (x-size, y-size, z-size, s.x0, s.y0, s.z0)
      (cut-with (sizes c d) (words x y z) u v t n r w a.long h ∙ ap (λ (t : Words). set (cut (sizes c d) n w) r t) (e ∙ ap f lent)
      ∙ sym (change-set f r (cut (sizes c d) n w) nowhere (rw (cut-length (sizes c d) n w) h)))

-- what is laid and cut is as it was
module _ (k : Sizes) where
  join-long : (n j : ℕ) (xs ys : List ℕ) → length xs ≡ j → length ys ≡ n * j → length (xs ++ ys) ≡ suc n * j
  join-long n j xs ys p q = length-append xs ys ∙ omega (arith, p, q, one_more n j)

  no_more : (j : ℕ) → 0 ≡ 0 * j
  no_more j = sym (zero-mul j)

  pub lay-long : {us : List Words} → All (Sized k) us → Long k (length us) (lay us)
  unfolding lay
  lay-long nil = record { state = no_more k.state; render = no_more k.render; fills = no_more k.fills }
  lay-long (cons {x = u} {xs = us} s ss) =
      let l = lay-long ss in
      record {
        state = join-long (length us) k.state u.state (lay us).state s.state l.state;
        render = join-long (length us) k.render u.render (lay us).render s.render l.render;
        fills = join-long (length us) k.fills u.fills (lay us).fills s.fills l.fills;
      }

  pub cut-lay : {us : List Words} → All (Sized k) us → cut k (length us) (lay us) ≡ us
  unfolding cut lay
  cut-lay nil = refl
  cut-lay (cons {x = u} {xs = us} s ss) =
      rw (
        take_at u.state (lay us).state k.state s.state,
        take_at u.render (lay us).render k.render s.render,
        take_at u.fills (lay us).fills k.fills s.fills,
        drop_at u.state (lay us).state k.state s.state,
        drop_at u.render (lay us).render k.render s.render,
        drop_at u.fills (lay us).fills k.fills s.fills,
        cut-lay ss,
      )
