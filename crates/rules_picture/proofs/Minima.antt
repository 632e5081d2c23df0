-- The summary above a row's depth words: what the question says of the words, and what a write works out again. Assumes nothing.
use Rattle.std.proofs.Common.{ℕ, zero, suc, ◌+◌, ◌-◌, ◌/◌, ◌≤◌, ◌<◌, min, ◌≡◌, refl, sym, ◌∙◌, ap, Bool, true, false, ◌&&◌, ◌||◌, cond, List, [], ◌∷◌, length, get_or, take, drop, take_all, arith}
use Rattle.std.proofs.Common.{length-take, length-drop, get_or-take, get_or-drop, leb, ltb, leb-true, leb-false, ltb-true, ltb-false, lt-ltb, le-leb}
use borrow.Author.Tests.{lt-leb}
use Rattle.rules.specs.Lists.{every, slice}
use Rattle.rules.specs.Spans.{Span}
use Rattle.rules.specs.Depth.{bucket-runs, runs-in, runs, is-visible, visible-runs}
use Rattle.rules.specs.Minima.{past-end, size, top, minima, halvings, summary, hidden-in, asked-runs}
use Rattle.rules.proofs.All.{and_left, and_right, and_both, or_left, or_right}
use Rattle.rules.proofs.laws.Minima.{left-is, right-is, row-fits, length-summary}
use Rattle.rules_picture.specs.Minima.{Summary-long, Hidden-exact, Pieces-same}
use Rattle.rules_picture.proofs.Cases.{by, same_test}

pub take-at : (n i : ℕ) (bs : List ℕ) → i < n → get_or (take n bs) i past-end ≡ get_or bs i past-end
take-at n i bs h = get_or-take n bs i past-end h

pub take-past : (n i : ℕ) (bs : List ℕ) → n ≤ i → get_or (take n bs) i past-end ≡ past-end
take-past zero i bs h = refl
take-past (suc n) i [] h = refl
take-past (suc n) zero (b ∷ bs) h = absurd (omega arith)
take-past (suc n) (suc i) (b ∷ bs) h = take-past n i bs (omega arith)

pub drop_at : (n i : ℕ) (bs : List ℕ) → get_or (drop n bs) i past-end ≡ get_or bs (n + i) past-end
drop_at n i bs = get_or-drop n bs i past-end

-- every place of the group holds at least its minimum
top-least : (k : ℕ) (bs : List ℕ) (i : ℕ) → i < size k → top (minima k bs) ≤ get_or bs i past-end
unfolding minima size
top-least zero bs zero h = omega arith
top-least zero bs (suc i) h = absurd (omega arith)
top-least (suc k) bs i h =
    by (ltb i (size k))
    (λ y.
    let l = ltb-true i (size k) y in
    let a = top-least k (take (size k) bs) i l in
    let e = take-at (size k) i bs l in
    omega arith)
    (λ n.
    let l = ltb-false i (size k) n in
    let a = top-least k (drop (size k) bs) (i - size k) (omega arith) in
    let e = drop_at (size k) (i - size k) bs in
    let q : size k + (i - size k) ≡ i = omega arith in
    let e' : get_or (drop (size k) bs) (i - size k) past-end ≡ get_or bs i past-end = e ∙ ap (λ (j : ℕ). get_or bs j past-end) q in
    omega arith)

-- and one of them holds it
record Attained (k : ℕ) (bs : List ℕ) : Type 0 where
  place : ℕ
  there : place < size k
  is : get_or bs place past-end ≡ top (minima k bs)

attained : (k : ℕ) (bs : List ℕ) → Attained k bs
unfolding minima size
attained zero bs = record { place = 0; there = omega arith; is = refl }
attained (suc k) bs =
    let a = attained k (take (size k) bs) in
    let b = attained k (drop (size k) bs) in
    by (leb (top (minima k (take (size k) bs))) (top (minima k (drop (size k) bs))))
    (λ y.
    let c = leb-true (top (minima k (take (size k) bs))) (top (minima k (drop (size k) bs))) y in
    let e = take-at (size k) a.place bs a.there in
    let t = a.there in
    let i = a.is in
    record { place = a.place; there = omega arith; is = omega arith })
    (λ n.
    let c = leb-false (top (minima k (take (size k) bs))) (top (minima k (drop (size k) bs))) n in
    let e = drop_at (size k) b.place bs in
    let t = b.there in
    let i = b.is in
    record { place = size k + b.place; there = omega arith; is = omega arith })

-- every place from a up to b holds more than the id
abbrev Says : List ℕ → ℕ → ℕ → ℕ → Type 0
Says bs a b id = (i : ℕ) → a ≤ i → i < b → id < get_or bs i past-end

and-parts : (x y z : Bool) → (x && y && z) ≡ true → (y ≡ true) × (z ≡ true)
and-parts x y z e = (and_right x y (and_left (x && y) z e), and_right (x && y) z e)

says-halves : (m : ℕ) (bs : List ℕ) (a b id : ℕ) → Says (take m bs) a (min b m) id → Says (drop m bs) (a - m) (b - m) id → Says bs a b id
says-halves m bs a b id l r i p q =
    by (ltb i m)
    (λ y.
    let h = ltb-true i m y in
    let e = take-at m i bs h in
    let k = l i p (omega arith) in
    omega arith)
    (λ n.
    let h = ltb-false i m n in
    let z : m + (i - m) ≡ i = omega arith in
    let e = drop_at m (i - m) bs ∙ ap (λ (j : ℕ). get_or bs j past-end) z in
    let k = r (i - m) (omega arith) (omega arith) in
    omega arith)

halves-say : (m : ℕ) (bs : List ℕ) (a b id : ℕ) → Says bs a b id → Says (take m bs) a (min b m) id × Says (drop m bs) (a - m) (b - m) id
halves-say m bs a b id s = (
  λ i p q. let e = take-at m i bs (omega arith) in let k = s i p (omega arith) in omega arith,
  λ i p q. let e = drop_at m i bs in let k = s (m + i) (omega arith) (omega arith) in omega arith,
)

yes-says : (k : ℕ) (bs : List ℕ) → length bs ≤ size k → (a b id : ℕ) → b ≤ length bs → hidden-in k (minima k bs) a b id ≡ true → Says bs a b id
unfolding hidden-in minima size
yes-says zero bs n a b id m e i p q =
    let z : i ≡ 0 = omega arith in
    by (leb b a)
    (λ y. let h = leb-true b a y in absurd (omega arith))
    (λ x. let h = ltb-true id (top bs) (rw x at e) in ap-less i bs z h)
  where
    ap-less : (i : ℕ) (bs : List ℕ) → i ≡ 0 → id < top bs → id < get_or bs i past-end
    ap-less i bs z h = rw z h
yes-says (suc k) bs n a b id m e i p q =
    let ls = take (size k) bs in
    let rs = drop (size k) bs in
    let t = top (minima (suc k) bs) in
    let la = length-take (size k) bs in
    let ra = length-drop (size k) bs in
    by (leb b a)
    (λ y. let h = leb-true b a y in absurd (omega arith))
    (λ x. by (ltb id t)
    (λ y.
    let h = ltb-true id t y in
    let g = top-least (suc k) bs i (omega arith) in
    omega arith)
    (λ y.
    let (u, v) = and-parts (ltb 0 a || ltb b (size (suc k))) (hidden-in k (minima k ls) a (min b (size k)) id) (hidden-in k (minima k rs) (a - size k) (b - size k) id)
    (rw (x, y, left-is k bs, right-is k bs) at e) in
    says-halves (size k) bs a b id
    (yes-says k ls (omega arith) a (min b (size k)) id (omega arith) u)
    (yes-says k rs (omega arith) (a - size k) (b - size k) id (omega arith) v) i p q))

says-yes : (k : ℕ) (bs : List ℕ) → length bs ≤ size k → (a b id : ℕ) → b ≤ length bs → Says bs a b id → hidden-in k (minima k bs) a b id ≡ true
unfolding hidden-in size
says-yes zero bs n a b id m s =
    by (leb b a)
    (λ y. rw y)
    (λ x.
    let q = leb-false b a x in
    let z : a ≡ 0 = omega arith in
    let g = s 0 (omega arith) (omega arith) in
    rw (x, lt-ltb id (top (minima zero bs)) (unfold minima in g)))
says-yes (suc k) bs n a b id m s =
    let ls = take (size k) bs in
    let rs = drop (size k) bs in
    let t = top (minima (suc k) bs) in
    let la = length-take (size k) bs in
    let ra = length-drop (size k) bs in
    by (leb b a)
    (λ y. rw y)
    (λ x. by (ltb id t)
    (λ y. rw (x, y))
    (λ y.
    let h = ltb-false id t y in
    let q = leb-false b a x in
    let (sl, sr) = halves-say (size k) bs a b id s in
    let u = says-yes k ls (omega arith) a (min b (size k)) id (omega arith) sl in
    let v = says-yes k rs (omega arith) (a - size k) (b - size k) id (omega arith) sr in
    rw (x, y, left-is k bs, right-is k bs, u, v)
    (by (ltb 0 a || ltb b (size k + size k))
    (λ z. rw z)
    (λ z.
    let a0 = ltb-false 0 a (or_left (ltb 0 a) (ltb b (size k + size k)) z) in
    let b0 = ltb-false b (size k + size k) (or_right (ltb 0 a) (ltb b (size k + size k)) z) in
    let w = attained (suc k) bs in
    let wt = below w.place (suc k) w.there in
    let wi = w.is in
    let g = s w.place (omega arith) (omega arith) in
    absurd (omega arith)))))
  where
    below : (p j : ℕ) → p < size j → p < size j
    below p j h = h

every-says : (id : ℕ) (bs : List ℕ) (a b : ℕ) → b ≤ length bs → every (λ (w : ℕ). ltb id w) (slice a b bs) ≡ true → Says bs a b id
every-says id bs a b m e i p q =
    let k = taken (b - a) (drop a bs) e (i - a) (omega arith) (rw (length-drop a bs) (omega arith)) in
    let d = drop_at a (i - a) bs in
    let z : a + (i - a) ≡ i = omega arith in
    let f = d ∙ ap (λ (j : ℕ). get_or bs j past-end) z in
    omega arith
  where
    taken : (n : ℕ) (xs : List ℕ) → every (λ (w : ℕ). ltb id w) (take n xs) ≡ true → (j : ℕ) → j < n → j < length xs → id < get_or xs j past-end
    taken zero xs e j p q = absurd (omega arith)
    taken (suc n) [] e j p q = absurd (omega arith)
    taken (suc n) (x ∷ xs) e zero p q = ltb-true id x (and_left (ltb id x) (every (λ (w : ℕ). ltb id w) (take n xs)) e)
    taken (suc n) (x ∷ xs) e (suc j) p q = taken n xs (and_right (ltb id x) (every (λ (w : ℕ). ltb id w) (take n xs)) e) j (omega arith) (omega arith)

says-every : (id : ℕ) (bs : List ℕ) (a b : ℕ) → b ≤ length bs → Says bs a b id → every (λ (w : ℕ). ltb id w) (slice a b bs) ≡ true
says-every id bs a b m s =
    let l = length-drop a bs in
    takes (b - a) (drop a bs) (λ p. omega arith) (λ j p. let d = drop_at a j bs in let k = s (a + j) (omega arith) (omega arith) in omega arith)
  where
    takes : (n : ℕ) (xs : List ℕ) → (length xs < n → ⊥) → ((j : ℕ) → j < n → id < get_or xs j past-end) → every (λ (w : ℕ). ltb id w) (take n xs) ≡ true
    takes zero xs h f = refl
    takes (suc n) [] h f = refl
    takes (suc n) (x ∷ xs) h f = and_both (ltb id x) (every (λ (w : ℕ). ltb id w) (take n xs)) (lt-ltb id x (f 0 (omega arith))) (takes n xs (λ p. h (omega arith)) (λ j p. f (suc j) (omega arith)))

pub summary-long : Summary-long
summary-long bs = length-summary bs

-- a group that has room for the buckets
of-group : (k : ℕ) (bs : List ℕ) → length bs ≤ size k → (a b id : ℕ) → b ≤ length bs
    → hidden-in k (minima k bs) a b id ≡ every (λ (w : ℕ). ltb id w) (slice a b bs)
of-group k bs n a b id m =
    same_test (hidden-in k (minima k bs) a b id) (every (λ (w : ℕ). ltb id w) (slice a b bs))
    (λ e. says-every id bs a b m (yes-says k bs n a b id m e))
    (λ e. says-yes k bs n a b id m (every-says id bs a b m e))

pub hidden-exact : Hidden-exact
unfolding summary hidden-in halvings
hidden-exact [] a b id m = rw (le-leb b a (omega arith), none_left b a m)
  where
    none_left : (b a : ℕ) → b ≤ 0 → b - a ≡ 0
    none_left b a m = omega arith
hidden-exact (b' ∷ bs) a b id m = of-group (halvings (suc (length bs))) (b' ∷ bs) (row-fits (suc (length bs))) a b id m

-- where every bucket holds a greater id, no run is visible
none-visible : (id i : ℕ) (bs : List ℕ) → every (λ (w : ℕ). ltb id w) bs ≡ true → bucket-runs (is-visible id) i bs ≡ []
unfolding bucket-runs
none-visible id i [] e = refl
none-visible id i (b ∷ bs) e =
    rw (lt-leb b id (ltb-true id b (and_left (ltb id b) (every (λ (w : ℕ). ltb id w) bs) e)))
    (none-visible id (suc i) bs (and_right (ltb id b) (every (λ (w : ℕ). ltb id w) bs) e))

-- the buckets past the row's end are none
in-row : (a b : ℕ) (bs : List ℕ) → slice a (min b (length bs)) bs ≡ slice a b bs
in-row a b bs =
    by (leb b (length bs))
    (λ y. let h = leb-true b (length bs) y in let m : min b (length bs) ≡ b = omega arith in rw m)
    (λ n.
    let h = leb-false b (length bs) n in
    let m : min b (length bs) ≡ length bs = omega arith in
    let l = length-drop a bs in
    rw m (take_all (length bs - a) (drop a bs) (omega arith) ∙ sym (take_all (b - a) (drop a bs) (omega arith))))

pub pieces-same : Pieces-same
unfolding asked-runs visible-runs runs runs-in
pieces-same w bs id s =
    let a : ℕ = s.first / w in
    let b : ℕ = (s.end + (w - 1)) / w in
    by (hidden-in (halvings (length bs)) (summary bs) a (min b (length bs)) id)
    (λ y.
    let e = sym (hidden-exact bs a (min b (length bs)) id (omega arith)) ∙ y in
    rw (y, none-visible id a (slice a b bs) (rw in-row at e)) (sym (none (ltb s.first s.end))))
    (λ n. rw n)
  where
    none : (t : Bool) → ◌≡◌ {A = List Span} (cond t [] []) []
    none true = refl
    none false = refl
