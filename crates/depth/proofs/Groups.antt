-- Groups of buckets, by how many words they have. Assumes nothing.
use Rattle.std.proofs.Common.{◌≡◌, refl, sym, ap, ◌∙◌, Bool, true, false, ◌&&◌, ◌||◌, List, [], ◌∷◌, ◌++◌, ℕ, zero, suc, ◌+◌, ◌-◌, ◌/◌, min, ◌*◌, ◌≤◌, ◌<◌, arith, length, get_or, set, take, drop, take_all, length-drop, leb, ltb, ◌==◌, leb-true, leb-false, le-leb, lt-ltb, le-ltb, ne_eqb}
use Rattle.std.proofs.Common.{◌^◌, max, eqb, add-zero, add-suc, le_refl}
use Rattle.std.proofs.Math.Nat.{pow-suc}
use Rattle.std.specs.Prelude.{Option, unwrap_or, slice_get}
use Rattle.std.specs.Int.{IsPowerOfTwo}
use Rattle.std.proofs.Common.{add-one, drop-cons}
use Rattle.rules.specs.Spans.{Span, span}
use Rattle.span.specs.declared.TileSpan.{TileSpan}
use Rattle.depth.specs.Listing.{numbers}
use Rattle.depth.proofs.Laws.{span-back}
use borrow.Author.Tests.{lt-leb}
use Rattle.rules.specs.Minima.{size, top, minima, half, minima-room, halvings, summary, hidden-in, mended, mended-runs}
use Rattle.rules.proofs.All.{never}
use Rattle.rules.proofs.laws.Minima.{size-some, size-above, half-is, half-next, halvings-are, room-covers}

pub half-zero : half 0 ≡ 1
unfolding half size
half-zero = refl

pub group-some : (k n : ℕ) → n ≡ half k → 0 < n
group-some k n e = let a = half-is k in let b = size-some k in omega arith

-- a group with m words below its top has two halves, each of half of them
pub record Larger (k m : ℕ) : Type 0 where
  pub next : ℕ
  pub is : k ≡ suc next
  pub halves : m / 2 ≡ half next
  pub twice : m ≡ half next + half next
  pub middle : m / 2 / 2 + 1 ≡ size next

pub larger : (k m : ℕ) → m + 1 ≡ half k → 0 < m → Larger k m
larger zero m e h = let z = half-zero in absurd (omega arith)
larger (suc k) m e h =
    let n = half-next k in
    let a = half-is k in
    let s = size-some k in
    record { next = k; is = refl; halves = omega arith; twice = omega arith; middle = omega arith }

-- a group with none is one bucket's
pub smallest : (k m : ℕ) → m + 1 ≡ half k → m ≡ 0 → k ≡ 0
smallest zero m e h = refl
smallest (suc k) m e h =
    let n = half-next k in
    let a = half-is k in
    let s = size-some k in
    absurd (omega arith)

pub no-words : (r : List ℕ) → length r ≡ 0 → r ≡ []
no-words [] e = refl
no-words (x ∷ r) e = absurd (omega arith)

pub top-set : (t : List ℕ) (v : ℕ) → length t ≡ 1 → set t 0 v ≡ v ∷ []
top-set [] v e = absurd (omega arith)
top-set (x ∷ t) v e = rw (no-words t (omega arith))

pub top-is : (ws : List ℕ) (d : ℕ) → 0 < length ws → top ws ≡ get_or ws 0 d
top-is [] d h = absurd (omega arith)
top-is (w ∷ ws) d h = refl

-- the first word, or what stands for none
pub top-first : (ws : List ℕ) (o : Option ℕ) → o ≡ slice_get ws 0 → unwrap_or o 4294967295 ≡ top ws
top-first [] o e = rw e
top-first (w ∷ ws) o e = rw e

-- what a test for emptiness says
pub nonzero : (n : ℕ) (b : Bool) → b ≡ (n == 0) → b ≡ false → 0 < n
nonzero zero b e f = never (sym e ∙ f)
nonzero (suc n) b e f = omega arith

pub is-zero : (n : ℕ) (b : Bool) → b ≡ (n == 0) → b ≡ true → n ≡ 0
is-zero zero b e f = refl
is-zero (suc n) b e f = never (sym f ∙ e ∙ ne_eqb (suc n) 0 (λ q. absurd (omega arith)))

pub halved : (k n m : ℕ) (b : Bool) → n ≡ half k → m + 1 ≡ n → b ≡ (m == 0) → b ≡ false → Larger k m
halved k n m b e f h g = larger k m (omega arith) (nonzero m b h g)

-- a group's halves do not see the places past the buckets
take-short : (n : ℕ) (bs : List ℕ) → take (min n (length bs)) bs ≡ take n bs
take-short n bs = go (leb n (length bs)) refl
  where
    go : (t : Bool) → leb n (length bs) ≡ t → take (min n (length bs)) bs ≡ take n bs
    go true e = let l = leb-true n (length bs) e in let m : min n (length bs) ≡ n = omega arith in rw m
    go false e =
        let l = leb-false n (length bs) e in
        let m : min n (length bs) ≡ length bs = omega arith in
        rw m (take_all (length bs) bs (omega arith) ∙ sym (take_all n bs (omega arith)))

drop-short : (n : ℕ) (bs : List ℕ) → drop (min n (length bs)) bs ≡ drop n bs
drop-short n bs = go (leb n (length bs)) refl
  where
    go : (t : Bool) → leb n (length bs) ≡ t → drop (min n (length bs)) bs ≡ drop n bs
    go true e = let l = leb-true n (length bs) e in let m : min n (length bs) ≡ n = omega arith in rw m
    go false e =
        let l = leb-false n (length bs) e in
        let m : min n (length bs) ≡ length bs = omega arith in
        let x = length-drop (length bs) bs in
        let y = length-drop n bs in
        rw m (no-words (drop (length bs) bs) (omega arith) ∙ sym (no-words (drop n bs) (omega arith)))

-- made afresh: t is the part of the top, r that below it
pub made-one : (k : ℕ) (t r bs : List ℕ) (v : ℕ) → length t ≡ 1 → length r + 1 ≡ half k → length r ≡ 0 → v ≡ top bs → set t 0 v ++ r ≡ minima k bs
unfolding minima
made-one k t r bs v f h z q = rw (smallest k (length r) h z, no-words r z, top-set t v f, q) refl

module _ (k m : ℕ) (w : Larger k m) (t l r bs : List ℕ) (v mid : ℕ) (f : length t ≡ 1) (cut : mid ≡ min (m / 2 / 2 + 1) (length bs))
    (some-l : 0 < length l) (some-r : 0 < length r) (least : v ≡ min (get_or l 0 0) (get_or r 0 0)) where
  low-is : take mid bs ≡ take (size w.next) bs
  low-is = rw (cut, w.middle) (take-short (size w.next) bs)

  high-is : drop mid bs ≡ drop (size w.next) bs
  high-is = rw (cut, w.middle) (drop-short (size w.next) bs)

  least-is : v ≡ min (top l) (top r)
  least-is = least ∙ rw (top-is l 0 some-l, top-is r 0 some-r)

  pub made-two : l ≡ minima w.next (take mid bs) → r ≡ minima w.next (drop mid bs) → set t 0 v ++ (l ++ r) ≡ minima k bs
  unfolding minima
  made-two a b =
      let a' : l ≡ minima w.next (take (size w.next) bs) = a ∙ ap (minima w.next) low-is in
      let b' : r ≡ minima w.next (drop (size w.next) bs) = b ∙ ap (minima w.next) high-is in
      rw (top-set t v f, least-is, w.is, ← a', ← b') refl

pub mended-none : (k : ℕ) (g bs : List ℕ) (a b : ℕ) → b ≤ a → g ≡ mended k g bs a b
unfolding mended
mended-none zero g bs a b h = rw (le-leb b a h)
mended-none (suc k) g bs a b h = rw (le-leb b a h)

-- the run at place n of a list
module _ (list rest : List ℕ) (rs : List Span) (n : ℕ) (h : n < length rs) (e : list ≡ numbers rs ++ rest) where
  pub run-first : get_or list (n * 2) 0 ≡ (get_or rs n (span 0 0)).first
  run-first = rw e (ap (λ (s : TileSpan). s.first) (span-back rs rest n h))

  pub run-end : get_or list (n * 2 + 1) 0 ≡ (get_or rs n (span 0 0)).end
  run-end = rw e (ap (λ (s : TileSpan). s.end) (span-back rs rest n h))

-- .. is mended
pub mended-next : (k : ℕ) (ws ws' bs list rest : List ℕ) (rs : List Span) (n : ℕ) → n < length rs → list ≡ numbers rs ++ rest
    → ws' ≡ mended k ws bs (get_or list (n * 2) 0) (get_or list (n * 2 + 1) 0) → mended-runs k ws bs (drop n rs) ≡ mended-runs k ws' bs (drop (n + 1) rs)
unfolding mended-runs
mended-next k ws ws' bs list rest rs n h e w =
    let w' : ws' ≡ mended k ws bs (get_or rs n (span 0 0)).first (get_or rs n (span 0 0)).end =
    rw (run-first list rest rs n h e, run-end list rest rs n h e) at w in
    rw (add-one, drop-cons rs n (span 0 0) h, w') refl

pub mended-last : (k : ℕ) (ws bs : List ℕ) (rs : List Span) (n : ℕ) → length rs ≤ n → mended-runs k ws bs (drop n rs) ≡ ws
unfolding mended-runs
mended-last k ws bs rs n h = rw (none (drop n rs) (let d = length-drop n rs in omega arith)) refl
  where
    none : (qs : List Span) → length qs ≡ 0 → qs ≡ []
    none [] e = refl
    none (q ∷ qs) e = absurd (omega arith)

-- the question
pub hidden-none : (k : ℕ) (g : List ℕ) (a b id : ℕ) → b ≤ a → true ≡ hidden-in k g a b id
unfolding hidden-in
hidden-none zero g a b id h = rw (le-leb b a h)
hidden-none (suc k) g a b id h = rw (le-leb b a h)

or-true : (x : Bool) → (x || true) ≡ true
or-true true = refl
or-true false = refl

pub hidden-all : (k : ℕ) (g : List ℕ) (a b id : ℕ) → 0 < length g → id < get_or g 0 0 → true ≡ hidden-in k g a b id
unfolding hidden-in
hidden-all zero g a b id s h = rw (top-is g 0 s, lt-ltb id (get_or g 0 0) h, or-true (leb b a))
hidden-all (suc k) g a b id s h = rw (top-is g 0 s, lt-ltb id (get_or g 0 0) h, or-true (leb b a))

module _ (k : ℕ) (g : List ℕ) (a b id : ℕ) (h : a < b) (s : 0 < length g) (shown : get_or g 0 0 ≤ id) where
  pub shown-one : k ≡ 0 → false ≡ hidden-in k g a b id
  unfolding hidden-in
  shown-one z = rw (z, lt-leb b a h, top-is g 0 s, le-ltb id (get_or g 0 0) shown)

  module _ (m : ℕ) (w : Larger k m) where
    pub shown-whole : a ≡ 0 → 2 * (m / 2 / 2 + 1) ≤ b → false ≡ hidden-in k g a b id
    unfolding hidden-in size
    shown-whole z e =
        let q = w.middle in
        rw (w.is, lt-leb b a h, top-is g 0 s, le-ltb id (get_or g 0 0) shown, le-ltb 0 a (omega arith), le-ltb b (size w.next + size w.next) (omega arith))

    -- both halves are asked, the right one if the left says yes
    module _ (part : a ≡ 0 → b < 2 * (m / 2 / 2 + 1)) (rest l r : List ℕ) (d : rest ≡ drop 1 g) (p : l ≡ take (m / 2) rest) (q : r ≡ drop (m / 2) rest) where
      abbrev pub left-asked : Bool
      left-asked = hidden-in w.next l a (min b (m / 2 / 2 + 1)) id

      abbrev pub right-asked : Bool
      right-asked = hidden-in w.next r (a - (m / 2 / 2 + 1)) (b - (m / 2 / 2 + 1)) id

      asks : (ltb 0 a || ltb b (size w.next + size w.next)) ≡ true
      asks = go a refl
        where
          go : (n : ℕ) → n ≡ a → (ltb 0 n || ltb b (size w.next + size w.next)) ≡ true
          go zero e = let f = part (sym e) in let x = w.middle in rw (lt-ltb b (size w.next + size w.next) (omega arith)) (or-true (ltb 0 0))
          go (suc n) e = rw (lt-ltb 0 (suc n) (omega arith))

      both-asked : (left-asked && right-asked) ≡ hidden-in k g a b id
      unfolding hidden-in size
      both-asked =
          rw (w.is, lt-leb b a h, top-is g 0 s, le-ltb id (get_or g 0 0) shown, asks, p, q, d, w.middle, w.halves) refl

      pub left-says-no : false ≡ left-asked → false ≡ hidden-in k g a b id
      left-says-no e = (rw (← e) at both-asked)

      pub left-says-yes : true ≡ left-asked → (x : Bool) → x ≡ right-asked → x ≡ hidden-in k g a b id
      left-says-yes e x f = f ∙ (rw (← e) at both-asked)

-- a row with buckets is one group
pub room-of-some : (n : ℕ) → 0 < n → minima-room n ≡ half (halvings n)
unfolding minima-room
room-of-some zero h = absurd (omega arith)
room-of-some (suc n) h = refl

pub summary-of-some : (bs : List ℕ) → 0 < length bs → minima (halvings (length bs)) bs ≡ summary bs
unfolding summary
summary-of-some [] h = absurd (omega arith)
summary-of-some (b ∷ bs) h = refl

-- one without has no minima
room-of-none : minima-room 0 ≡ 0
unfolding minima-room
room-of-none = refl

pub room-none : (n : ℕ) → n ≡ 0 → 0 ≡ minima-room n
room-none n e = rw (e, room-of-none) refl

pub summary-of-none : (ws bs : List ℕ) → length ws ≡ minima-room (length bs) → length bs ≡ 0 → ws ≡ summary bs
unfolding summary minima-room
summary-of-none ws [] e z = no-words ws e
summary-of-none ws (b ∷ bs) e z = absurd (omega arith)

-- the next power of two is the row's group
pub size-power : (k : ℕ) → size k ≡ 2 ^ k
unfolding size
size-power zero = refl
size-power (suc k) = let p = pow-suc 2 k in let h = size-power k in omega arith

size-grows : (i d : ℕ) → size i ≤ size (i + d)
unfolding size
size-grows i zero = simp add-zero (le_refl (size i))
size-grows i (suc d) = let h = size-grows i d in simp add-suc (omega arith)

pub size-more : (i j : ℕ) → i ≤ j → size i ≤ size j
size-more i j h = let e : i + (j - i) ≡ j = omega arith in rw e at (size-grows i (j - i))

next-smaller : (j n : ℕ) → size j / 2 < n → (i : ℕ) → i < j → size i < n
unfolding size
next-smaller zero n h i l = absurd (omega arith)
next-smaller (suc j) n h i l =
    let e : i + (j - i) ≡ j = omega arith in
    let g = rw e at (size-grows i (j - i)) in
    omega arith

next-few : (j n : ℕ) → size j / 2 < n → n ≤ size j → j ≤ n
unfolding size
next-few zero n h l = omega arith
next-few (suc j) n h l = let a = size-above j in omega arith

pub room-of-power : (n p : ℕ) → IsPowerOfTwo p → n ≤ p → p / 2 < max 1 n → (n ≡ 0 → ⊥) → p + (p - 1) ≡ minima-room n
room-of-power n p (j, e) l u z =
    let s : size j ≡ p = size-power j ∙ sym e in
    let u' : size j / 2 < n = omega arith in
    let l' : n ≤ size j = omega arith in
    let h = halvings-are j n (next-few j n u' l') l' (next-smaller j n u') in
    let a = half-is j in
    let r : minima-room n ≡ half j = room-of-some n (omega arith) ∙ rw h in
    omega arith

-- too few words for the buckets
pub room-missed : (n m : ℕ) → m < n → leb n m ≡ eqb m (minima-room n)
room-missed n m h = let c = room-covers n in rw (lt-leb n m h, ne_eqb m (minima-room n) (λ e. omega arith))
