-- The groups above a bucket are worked out again from its own word up. Assumes nothing.
use Rattle.std.proofs.Common.{◌≡◌, refl, sym, ap, ◌∙◌, List, [], ◌∷◌, ◌++◌, ℕ, zero, suc, ◌+◌, ◌-◌, ◌*◌, ◌/◌, ◌%◌, min, ◌≤◌, ◌<◌, arith, length, get_or, set, take, drop, length-set, length-append, length-take-le, length-drop, le-leb, lt-ltb, le-ltb, ne_eqb, not-suc-le-zero}
use Rattle.std.proofs.lemmas.List.{take-append-drop, get_or_append_left, get_or-append-add, get_or-set_same, set-append_left, set-append_right}
use borrow.Author.Tests.{lt-leb}
use Rattle.rules.specs.Minima.{size, half, top}
use Rattle.rules.proofs.laws.Minima.{size-some, half-is, half-next, left-of, right-of}
use Rattle.depth.specs.Minima.{leaf-place, lifted, lifted-above, above-place, beside-place, CanRaise, LiftedTo}
use Rattle.depth.proofs.Groups.{group-some, top-is, size-more}
use Rattle.depth.proofs.Places.{by-half, group-place, group-number, whole-place, place-low, place-high, place-within, leaf-is, number-first, number-half, turn, leaf-within, leaf-low, leaf-high}

-- a group's words: its top, and those of its halves
pub record Halves (k : ℕ) (ws : List ℕ) : Type 0 where
  pub first : ℕ
  pub left : List ℕ
  pub right : List ℕ
  pub words : ws ≡ first ∷ left ++ right
  pub left-long : length left ≡ half k
  pub right-long : length right ≡ half k

pub halves-of : (k : ℕ) (ws : List ℕ) → length ws ≡ half (suc k) → Halves k ws
halves-of k [] e = let n = half-next k in absurd (omega arith)
halves-of k (w ∷ ws) e =
    let n = half-next k in
    let a = length-take-le (half k) ws (omega arith) in
    let b = length-drop (half k) ws in
    record {
      first = w;
      left = take (half k) ws;
      right = drop (half k) ws;
      words = ap (λ (r : List ℕ). w ∷ r) (sym (take-append-drop (half k) ws));
      left-long = a;
      right-long = omega arith;
    }

-- a word behind the left half
read-right : (l r : List ℕ) (n i m : ℕ) → length l ≡ n → i ≡ n + m → get_or (l ++ r) i 0 ≡ get_or r m 0
read-right l r n i m a e = rw (e, ← a) (get_or-append-add l r m 0)

set-right : (l r : List ℕ) (n i m v : ℕ) → length l ≡ n → i ≡ n + m → set (l ++ r) i v ≡ l ++ set r m v
set-right l r n i m v a e =
    let d : i - n ≡ m = omega arith in
    set-append_right l r n i v a (omega arith) ∙ ap (λ (x : ℕ). l ++ set r x v) d

-- a group with its top worked out again
abbrev pub topped : List ℕ → List ℕ → List ℕ
topped l r = min (top l) (top r) ∷ l ++ r

-- the half that has the bucket is lifted, and the top
module _ (k : ℕ) (t : ℕ) (l r : List ℕ) (b : ℕ) (a : length l ≡ half k) where
  pub lifted-low : b < size k → lifted (suc k) (t ∷ l ++ r) b ≡ topped (lifted k l b) r
  unfolding lifted
  lifted-low h = rw (lt-ltb b (size k) h, left-of k l r t a, right-of k l r t a)

  pub lifted-high : size k ≤ b → lifted (suc k) (t ∷ l ++ r) b ≡ topped l (lifted k r (b - size k))
  unfolding lifted
  lifted-high h = rw (le-ltb b (size k) h, left-of k l r t a, right-of k l r t a)

-- a bucket's own word has no groups below it
pub lifted-one : (ws : List ℕ) (b : ℕ) → lifted 0 ws b ≡ ws
unfolding lifted
lifted-one ws b = refl

-- as many words stay
pub lifted-long : (k : ℕ) (ws : List ℕ) (b : ℕ) → length ws ≡ half k → b < size k → length (lifted k ws b) ≡ half k
unfolding size
lifted-long zero ws b e h = rw (lifted-one ws b) e
lifted-long (suc k) ws b e h =
    let w = halves-of k ws e in
    let n = half-next k in
    let a = w.left-long in
    let c = w.right-long in
    rw w.words (by-half b (size k)
    (λ low.
    let i = lifted-long k w.left b w.left-long low in
    let l = length-append (lifted k w.left b) w.right in
    rw (lifted-low k w.first w.left w.right b w.left-long low) (omega arith))
    (λ high.
    let i = lifted-long k w.right (b - size k) w.right-long (omega arith) in
    let l = length-append w.left (lifted k w.right (b - size k)) in
    rw (lifted-high k w.first w.left w.right b w.left-long high) (omega arith)))

-- once more changes nothing
pub lifted-again : (k : ℕ) (ws : List ℕ) (b : ℕ) → length ws ≡ half k → b < size k → lifted k (lifted k ws b) b ≡ lifted k ws b
unfolding size
lifted-again zero ws b e h = ap (λ (x : List ℕ). lifted 0 x b) (lifted-one ws b)
lifted-again (suc k) ws b e h =
    let w = halves-of k ws e in
    rw w.words (by-half b (size k)
    (λ low.
    let l = lifted k w.left b in
    rw (lifted-low k w.first w.left w.right b w.left-long low)
    (lifted-low k (min (top l) (top w.right)) l w.right b (lifted-long k w.left b w.left-long low) low ∙ rw (lifted-again k w.left b w.left-long low) refl))
    (λ high.
    let r = lifted k w.right (b - size k) in
    rw (lifted-high k w.first w.left w.right b w.left-long high)
    (lifted-high k (min (top w.left) (top r)) w.left r b w.left-long high ∙ rw (lifted-again k w.right (b - size k) w.right-long (omega arith)) refl)))

-- a bucket's own word stays
pub own-stays : (k : ℕ) (ws : List ℕ) (a b : ℕ) → length ws ≡ half k → a < size k → b < size k
    → get_or (lifted k ws b) (leaf-place k a) 0 ≡ get_or ws (leaf-place k a) 0
unfolding size
own-stays zero ws a b e g h = ap (λ (x : List ℕ). get_or x (leaf-place 0 a) 0) (lifted-one ws b)
own-stays (suc k) ws a b e g h =
    let w = halves-of k ws e in
    let l = w.left in
    let r = w.right in
    let c = w.left-long in
    rw w.words (by-half a (size k)
    (λ d.
    let p = leaf-low k a d in
    let q : leaf-place (suc k) a ≡ suc (leaf-place k a) = omega arith in
    let within = leaf-within k a d in
    by-half b (size k)
    (λ low.
    let m = lifted-long k l b c low in
    rw (lifted-low k w.first l r b c low, q)
    (get_or_append_left (lifted k l b) r 0 (leaf-place k a) (omega arith)
    ∙ own-stays k l a b c d low
    ∙ sym (get_or_append_left l r 0 (leaf-place k a) (omega arith))))
    (λ high.
    rw (lifted-high k w.first l r b c high, q)
    (get_or_append_left l (lifted k r (b - size k)) 0 (leaf-place k a) (omega arith) ∙ sym (get_or_append_left l r 0 (leaf-place k a) (omega arith)))))
    (λ u.
    let p = leaf-high k a u in
    let q : leaf-place (suc k) a ≡ suc (half k + leaf-place k (a - size k)) = omega arith in
    let x = read-right l r (half k) (half k + leaf-place k (a - size k)) (leaf-place k (a - size k)) c refl in
    by-half b (size k)
    (λ low.
    rw (lifted-low k w.first l r b c low, q)
    (read-right (lifted k l b) r (half k) (half k + leaf-place k (a - size k)) (leaf-place k (a - size k)) (lifted-long k l b c low) refl ∙ sym x))
    (λ high.
    rw (lifted-high k w.first l r b c high, q)
    (read-right l (lifted k r (b - size k)) (half k) (half k + leaf-place k (a - size k)) (leaf-place k (a - size k)) c refl
    ∙ own-stays k r (a - size k) (b - size k) w.right-long (omega arith) (omega arith)
    ∙ sym x))))

-- none above the whole group
pub above-none : (k j : ℕ) (ws : List ℕ) (b : ℕ) → k ≤ j → lifted-above k j ws b ≡ ws
unfolding lifted-above
above-none zero j ws b h = refl
above-none (suc k) j ws b h = rw (le-leb (suc k) j h)

-- in the half that has the bucket, and the top
module _ (k j : ℕ) (s : j ≤ k) (t : ℕ) (l r : List ℕ) (b : ℕ) (a : length l ≡ half k) where
  pub above-low : b < size k → lifted-above (suc k) j (t ∷ l ++ r) b ≡ topped (lifted-above k j l b) r
  unfolding lifted-above
  above-low h = rw (lt-leb (suc k) j (omega arith), lt-ltb b (size k) h, left-of k l r t a, right-of k l r t a)

  pub above-high : size k ≤ b → lifted-above (suc k) j (t ∷ l ++ r) b ≡ topped l (lifted-above k j r (b - size k))
  unfolding lifted-above
  above-high h = rw (lt-leb (suc k) j (omega arith), le-ltb b (size k) h, left-of k l r t a, right-of k l r t a)

-- as many words stay
pub above-long : (k j : ℕ) (ws : List ℕ) (b : ℕ) → length ws ≡ half k → b < size k → length (lifted-above k j ws b) ≡ half k
unfolding size
above-long zero j ws b e h = ap length (above-none 0 j ws b (omega arith)) ∙ e
above-long (suc k) j ws b e h =
    let w = halves-of k ws e in
    let n = half-next k in
    let a = w.left-long in
    let c = w.right-long in
    by-half j (suc k)
    (λ s.
    rw w.words (by-half b (size k)
    (λ low.
    let i = above-long k j w.left b w.left-long low in
    let l = length-append (lifted-above k j w.left b) w.right in
    rw (above-low k j (omega arith) w.first w.left w.right b w.left-long low) (omega arith))
    (λ high.
    let i = above-long k j w.right (b - size k) w.right-long (omega arith) in
    let l = length-append w.left (lifted-above k j w.right (b - size k)) in
    rw (above-high k j (omega arith) w.first w.left w.right b w.left-long high) (omega arith))))
    (λ s. ap length (above-none (suc k) j ws b s) ∙ e)

-- those above its own word are all
pub above-all : (k : ℕ) (ws : List ℕ) (b : ℕ) → length ws ≡ half k → b < size k → lifted-above k 0 ws b ≡ lifted k ws b
unfolding size
above-all zero ws b e h = above-none 0 0 ws b (omega arith) ∙ sym (lifted-one ws b)
above-all (suc k) ws b e h =
    let w = halves-of k ws e in
    rw w.words (by-half b (size k)
    (λ d.
    above-low k 0 (omega arith) w.first w.left w.right b w.left-long d
    ∙ rw (above-all k w.left b w.left-long d) (sym (lifted-low k w.first w.left w.right b w.left-long d)))
    (λ g.
    above-high k 0 (omega arith) w.first w.left w.right b w.left-long g
    ∙ rw (above-all k w.right (b - size k) w.right-long (omega arith)) (sym (lifted-high k w.first w.left w.right b w.left-long g))))

-- one group more is worked out: its word is the smaller of its halves' tops
pub above-next : (k j : ℕ) (ws : List ℕ) (b v : ℕ) → j < k → b < size k → length ws ≡ half k
    → v ≡ min (get_or ws (suc (group-place k (suc j) b)) 0) (get_or ws (suc (half j + group-place k (suc j) b)) 0)
    → lifted-above k (suc j) (set ws (group-place k (suc j) b) v) b ≡ lifted-above k j ws b
unfolding size
above-next zero j ws b v s h e q = absurd (not-suc-le-zero s)
above-next (suc k) j ws b v s h e q =
    let w = halves-of k ws e in
    let t = w.first in
    let l = w.left in
    let r = w.right in
    let a = w.left-long in
    let c = w.right-long in
    by-half j k
    (λ d.
    by-half b (size k)
    (λ low.
    let p = place-low k (suc j) b d low in
    let u = place-within k (suc j) b d low in
    let n = half-next j in
    let f = half-is j in
    let o = size-some j in
    let x = get_or_append_left l r 0 (suc (group-place k (suc j) b)) (omega arith) in
    let y = get_or_append_left l r 0 (suc (half j + group-place k (suc j) b)) (omega arith) in
    let z : suc (half j + suc (group-place k (suc j) b)) ≡ suc (suc (half j + group-place k (suc j) b)) = omega arith in
    let q' : v ≡ min (get_or l (suc (group-place k (suc j) b)) 0) (get_or l (suc (half j + group-place k (suc j) b)) 0) = rw (w.words, p, z, x, y) at q in
    rw (w.words, p, set-append_left l r (group-place k (suc j) b) v (omega arith))
    (above-low k (suc j) d t (set l (group-place k (suc j) b) v) r b (length-set l (group-place k (suc j) b) v ∙ a) low
    ∙ rw (above-next k j l b v d low a q') (sym (above-low k j (omega arith) t l r b a low))))
    (λ high.
    let u = group-place k (suc j) (b - size k) in
    let p = place-high k (suc j) b d high in
    let within = place-within k (suc j) (b - size k) d (omega arith) in
    let n = half-next j in
    let x = read-right l r (half k) (suc (half k + u)) (suc u) a (omega arith) in
    let y = read-right l r (half k) (half j + suc (half k + u)) (suc (half j + u)) a (omega arith) in
    let q' : v ≡ min (get_or r (suc u) 0) (get_or r (suc (half j + u)) 0) = rw (w.words, p, x, y) at q in
    rw (w.words, p, set-right l r (half k) (half k + u) u v a refl)
    (above-high k (suc j) d t l (set r u v) b a high
    ∙ rw (above-next k j r (b - size k) v d (omega arith) c q') (sym (above-high k j (omega arith) t l r b a high)))))
    (λ d.
    let p = whole-place (suc k) (suc j) b (omega arith) in
    let same : j ≡ k = omega arith in
    let f = ap half same in
    let some-l = group-some k (length l) a in
    let some-r = group-some k (length r) c in
    let x = get_or_append_left l r 0 0 some-l in
    let y = read-right l r (half k) (half j + 0) 0 a (omega arith) in
    let q' : v ≡ min (top l) (top r) = (rw (w.words, p, x, y) at q) ∙ rw (top-is l 0 some-l, top-is r 0 some-r) refl in
    rw (w.words, p) (above-none (suc k) (suc j) (v ∷ l ++ r) b (omega arith)
    ∙ by-half b (size k)
    (λ low. rw q' (sym (above-low k j (omega arith) t l r b a low ∙ rw (above-none k j l b d) refl)))
    (λ high. rw q' (sym (above-high k j (omega arith) t l r b a high ∙ rw (above-none k j r (b - size k) d) refl)))))

-- the loop: the groups above level `level` are still to be worked out again
pub record Lifting (k : ℕ) (old : List ℕ) (b at number large least : ℕ) (now : List ℕ) : Type 0 where
  pub level : ℕ
  pub within : level ≤ k
  pub place : at ≡ group-place k level b
  pub which : number ≡ group-number k level b
  pub large-is : large ≡ size (suc level)
  pub holds : least ≡ get_or now at 0
  pub long : length now ≡ half k
  pub rest : lifted-above k level now b ≡ lifted k old b

-- it begins at the bucket's own word
pub lift-first : (k : ℕ) (old : List ℕ) (b at id : ℕ) → length old ≡ half k → b < size k → at ≡ leaf-place k b → get_or old at 0 ≡ id
    → Lifting k old b at b 2 id old
unfolding size
lift-first k old b at id e h p g =
    record {
      level = 0;
      within = omega arith;
      place = p ∙ leaf-is k b;
      which = sym (number-first k b h);
      large-is = refl;
      holds = sym g;
      long = e;
      rest = above-all k old b e h;
    }

-- a turn: the group above is worked out from the one at `at` and the one beside it
pub record Step (k : ℕ) (old : List ℕ) (b at number large least : ℕ) (now : List ℕ) (up beside : ℕ) : Type 0 where
  pub smaller : up < at
  pub up-within : up < length now
  pub beside-within : beside < length now
  pub next : (v : ℕ) → v ≡ min least (get_or now beside 0) → Lifting k old b up (number / 2) (large * 2) v (set now up v)

module _ (k : ℕ) (old : List ℕ) (b at number large least : ℕ) (now : List ℕ) (h : b < size k) (m : Lifting k old b at number large least now) where
  -- at the whole group it ends
  pub lift-last : at ≤ 0 → now ≡ lifted k old b
  unfolding size
  lift-last z =
      by-half m.level k
      (λ d.
      let t = turn k m.level b d h in
      let p = m.place in
      by-half 0 (group-number k m.level b % 2) (λ o. let q = t.odd o in absurd (omega arith)) (λ o. let q = t.even (omega arith) in absurd (omega arith)))
      (λ d. sym (above-none k m.level now b d) ∙ m.rest)

  -- before its place there is one more
  pub not-whole : 0 < at → m.level < k
  not-whole some = by-half m.level k (λ d. d) (λ d. let w = whole-place k m.level b d in let p = m.place in absurd (omega arith))

  -- .. and while the next is smaller than the whole
  pub not-large : (most : ℕ) → most < size k → large ≤ most → m.level < k
  not-large most f g = by-half m.level k (λ d. d) (λ d. let s = size-more k (suc m.level) (omega arith) in let l = m.large-is in absurd (omega arith))

  -- those of so many buckets are worked out
  pub lift-up-to : (most : ℕ) → most < large → LiftedTo k old b most now
  lift-up-to most f = record { level = m.level; within = m.within; up-to = let l = m.large-is in omega arith; long = m.long; rest = m.rest }

  module _ (further : m.level < k) where
    -- where the group above stands
    abbrev above : ℕ
    above = group-place k (suc m.level) b

    -- the group above is within the words, and how many the other half has
    record Sizes : Type 0 where
      next-within : above + suc (half m.level + half m.level) ≤ half k
      large-of : large ≡ suc (half m.level)
      half-some : 0 < half m.level

    sizes : Sizes
    unfolding size
    sizes =
        let w = place-within k (suc m.level) b further h in
        let n = half-next m.level in
        let f = half-is m.level in
        let o = size-some m.level in
        let l = m.large-is in
        record { next-within = omega arith; large-of = omega arith; half-some = omega arith }

    -- so that no number is too large or too small
    pub record Fit : Type 0 where
      pub some-large : 1 ≤ large
      pub few : large * 2 ≤ half k + 1

    pub fit : Fit
    fit = let z = sizes in let a = z.next-within in let c = z.large-of in record { some-large = omega arith; few = omega arith }

    -- one level more
    step : (up v : ℕ) → up ≡ above → v ≡ min (get_or now (suc above) 0) (get_or now (suc (half m.level + above)) 0)
        → Lifting k old b up (number / 2) (large * 2) v (set now up v)
    unfolding size
    step up v e q =
        let z = sizes in
        let a = z.next-within in
        let l = m.long in
        record {
          level = suc m.level;
          within = further;
          place = e;
          which = rw m.which (sym (number-half k m.level b further h));
          large-is = let g = m.large-is in omega arith;
          holds = sym (get_or-set_same now up v 0 (omega arith));
          long = length-set now up v ∙ m.long;
          rest = rw e (above-next k m.level now b v further h m.long q ∙ m.rest);
        }

    -- the turn from a left half, and from a right one
    step-left : number % 2 ≡ 0 → Step k old b at number large least now (at - 1) (at + (large - 1))
    step-left e =
        let z = sizes in
        let a = z.next-within in
        let c = z.large-of in
        let o = z.half-some in
        let l = m.long in
        let t = (turn k m.level b further h).even (let w = m.which in omega arith) in
        let p = m.place in
        let i : at ≡ suc above = omega arith in
        let j : at + (large - 1) ≡ suc (half m.level + above) = omega arith in
        record {
          smaller = omega arith;
          up-within = omega arith;
          beside-within = omega arith;
          next = λ v q. step (at - 1) v (omega arith) (rw (m.holds, j, i) at q);
        }

    -- a right half stands behind the left one
    right-place : (number % 2 ≡ 0 → ⊥) → at ≡ suc (half m.level + above)
    right-place e =
        m.place ∙ (turn k m.level b further h).odd (let w = m.which in rw w at (by-half 0 (number % 2) (λ d. d) (λ d. absurd (e (omega arith)))))

    right-behind : (number % 2 ≡ 0 → ⊥) → large ≤ at
    right-behind e = let z = sizes in let c = z.large-of in let i = right-place e in omega arith

    step-right : (number % 2 ≡ 0 → ⊥) → Step k old b at number large least now (at - large) (at - (large - 1))
    step-right e =
        let z = sizes in
        let a = z.next-within in
        let c = z.large-of in
        let o = z.half-some in
        let l = m.long in
        let i = right-place e in
        let j : at - (large - 1) ≡ suc above = omega arith in
        record {
          smaller = omega arith;
          up-within = omega arith;
          beside-within = omega arith;
          next = λ v q. step (at - large) v (omega arith) (let r = rw (m.holds, j, i) at q in omega arith);
        }

    -- the turn from either
    pub step-up : Step k old b at number large least now (above-place at number large) (beside-place at number large)
    step-up =
        by-half 0 (number % 2)
        (λ o. rw (ne_eqb (number % 2) 0 (λ e. omega arith)) (step-right (λ e. omega arith)))
        (λ o. let e : number % 2 ≡ 0 = omega arith in rw e (step-left e))

    -- .. whose words are there
    pub can-raise : CanRaise (length now) at number large
    can-raise =
        let w = place-within k m.level b m.within h in
        let z = sizes in
        let o = z.half-some in
        let p = m.place in
        let l = m.long in
        let f = fit in
        record {
          some = f.some-large;
          within = omega arith;
          left = λ e. (let s = step-left e in let c = s.smaller in omega arith, (step-left e).beside-within);
          right = right-behind;
        }
