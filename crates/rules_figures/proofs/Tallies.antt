-- Sums over tiles: what is told of a tile is shown or dropped, and the tiles of pieces are counted tile by tile.
use Rattle.std.proofs.Common.{ℕ, zero, suc, ◌+◌, ◌-◌, ◌*◌, ◌≤◌, ◌<◌, min, suc-mul, arith, ◌≡◌, refl, sym, ◌∙◌, ap, cond, List, [], ◌∷◌, map, length, get_or, leb, ltb, leb-true, ltb-true, ltb-false}
use borrow.Author.Tests.{leb-false}
use Rattle.rules.specs.Lists.{some_of}
use Rattle.rules.specs.Spans.{Span, covers}
use Rattle.rules.specs.Painting.{Piece, received}
use Rattle.rules.specs.Plain.{Told, shown}
use Rattle.rules.proofs.All.{All, nil, cons, never}
use Rattle.rules_picture.proofs.Cases.{by, covers_low, covers_high, covers-yes}
use Rattle.rules_figures.specs.Figures.{sum-to, sum-of, dropped, tiles-in}
use Rattle.rules_figures.specs.RowFigures.{over-tiles}

pub told-accounted : (ts : List Told) → length ts ≡ length (shown ts) + length (dropped ts)
unfolding shown dropped
told-accounted [] = refl
told-accounted (t ∷ ts) = by (some_of (λ (u : Told). u.hides) ts)
    (λ y. let h = told-accounted ts in rw y (omega arith))
    (λ n. rw n (omega arith))

pub sum-same : (n : ℕ) (f g : ℕ → ℕ) → ((i : ℕ) → i < n → f i ≡ g i) → sum-to n f ≡ sum-to n g
unfolding sum-to
sum-same zero f g h = refl
sum-same (suc n) f g h = rw (sum-same n f g (λ i l. h i (omega arith)), h n (omega arith))

pub sum-both : (n : ℕ) (f g : ℕ → ℕ) → sum-to n (λ i. f i + g i) ≡ sum-to n f + sum-to n g
unfolding sum-to
sum-both zero f g = refl
sum-both (suc n) f g = let h = sum-both n f g in omega arith

pub sum-zero : (n : ℕ) → sum-to n (λ i. 0) ≡ 0
unfolding sum-to
sum-zero zero = refl
sum-zero (suc n) = let h = sum-zero n in omega arith

pub sum-ones : (n : ℕ) → sum-to n (λ i. 1) ≡ n
unfolding sum-to
sum-ones zero = refl
sum-ones (suc n) = let h = sum-ones n in omega arith

-- the first apart from the others
sum-first : (n : ℕ) (g : ℕ → ℕ) → sum-to (suc n) g ≡ g 0 + sum-to n (λ i. g (suc i))
unfolding sum-to
sum-first zero g = omega arith
sum-first (suc n) g = let h = sum-first n g in omega arith

-- a sum goes on over zeros
pub sum-longer : (n m : ℕ) (g : ℕ → ℕ) → ((i : ℕ) → n ≤ i → i < n + m → g i ≡ 0) → sum-to (n + m) g ≡ sum-to n g
unfolding sum-to
sum-longer n zero g h = ap (λ (k : ℕ). sum-to k g) (omega arith)
sum-longer n (suc m) g h =
    let e : n + suc m ≡ suc (n + m) = omega arith in
    let a = sum-longer n m g (λ i p q. h i p (omega arith)) in
    let z = h (n + m) (omega arith) (omega arith) in
    rw e (omega arith)

pub sum-most : (n k : ℕ) (g : ℕ → ℕ) → ((i : ℕ) → i < n → g i ≤ k) → sum-to n g ≤ n * k
unfolding sum-to
sum-most zero k g h = omega arith
sum-most (suc n) k g h =
    let a = sum-most n k g (λ i l. h i (omega arith)) in
    let b = h n (omega arith) in
    let e = suc-mul n k in
    omega arith

-- over a list, element by element
pub sum-listed : {A : Type 0} (h : A → ℕ) (d : A) (xs : List A) → sum-of (map h xs) ≡ sum-to (length xs) (λ i. h (get_or xs i d))
unfolding sum-to sum-of
sum-listed h d [] = refl
sum-listed h d (x ∷ xs) = rw (sum-listed h d xs) (sym (sum-first (length xs) (λ i. h (get_or (x ∷ xs) i d))))

-- of a figure at the tiles below n, those that a span covers are the span's own below n
covered : (s : Span) (g : ℕ → ℕ) (n : ℕ) → sum-to n (λ t. cond (covers s t) (g t) 0) ≡ sum-to (min n s.end - s.first) (λ k. g (s.first + k))
unfolding sum-to
covered s g zero = let e : min 0 s.end - s.first ≡ 0 = omega arith in rw e
covered s g (suc n) = by (covers s n)
    (λ y.
    let a = covers_low s n y in
    let b = covers_high s n y in
    let k : min n s.end - s.first ≡ n - s.first = omega arith in
    let m : min (suc n) s.end - s.first ≡ suc (n - s.first) = omega arith in
    let e : s.first + (n - s.first) ≡ n = omega arith in
    rw (y, m, e) (ap (λ (x : ℕ). x + g n) (covered s g n ∙ ap (λ (x : ℕ). sum-to x (λ j. g (s.first + j))) k)))
    (λ m.
    let k : min (suc n) s.end - s.first ≡ min n s.end - s.first =
    by (ltb n s.end)
    (λ z.
    let b = ltb-true n s.end z in
    by (leb s.first n)
    (λ c. never (sym (covers-yes s n (leb-true s.first n c) b) ∙ m))
    (λ c. let d = leb-false s.first n c in omega arith))
    (λ z. let b = ltb-false n s.end z in omega arith) in
    let h = covered s g n in
    rw (m, k) (omega arith))

-- a figure over a span's tiles, tile by tile below n
pub over-all : (s : Span) (g : ℕ → ℕ) (n : ℕ) → s.end ≤ n → sum-to n (λ t. cond (covers s t) (g t) 0) ≡ over-tiles s g
over-all s g n h = let e : min n s.end ≡ s.end = omega arith in covered s g n ∙ ap (λ (k : ℕ). sum-to (k - s.first) (λ j. g (s.first + j))) e

received-count : (t : ℕ) (p : Piece) (ps : List Piece) → length (received t (p ∷ ps)) ≡ cond (covers p.tiles t) 1 0 + length (received t ps)
unfolding received
received-count t p ps = by (covers p.tiles t) (λ y. rw y (omega arith)) (λ n. rw n (omega arith))

-- The tiles of pieces that lie below n are what the tiles below n receive of them.
pub pieces-counted : (n : ℕ) {ps : List Piece} → All (λ (p : Piece). p.tiles.end ≤ n) ps → sum-to n (λ t. length (received t ps)) ≡ sum-of (map tiles-in ps)
unfolding sum-of
pieces-counted n nil = sum-same n (λ t. length (received t [])) (λ t. 0) (λ i l. unfold received in refl) ∙ sum-zero n
pieces-counted n (cons {x = p} {xs = ps} h a) =
    sum-same n (λ t. length (received t (p ∷ ps))) (λ t. cond (covers p.tiles t) 1 0 + length (received t ps)) (λ i l. received-count i p ps)
    ∙ sum-both n (λ t. cond (covers p.tiles t) 1 0) (λ t. length (received t ps))
    ∙ rw (over-all p.tiles (λ t. 1) n h, sum-ones (p.tiles.end - p.tiles.first), pieces-counted n a)
