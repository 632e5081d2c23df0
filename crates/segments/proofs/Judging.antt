-- Judging a segment and a list of them.
use Rattle.std.proofs.Common.{◌≡◌, refl, sym, ap, ◌∙◌, Bool, true, false, ◌&&◌, ◌||◌, not, cond, List, [], ◌∷◌, ℕ, zero, suc, ◌+◌, ◌-◌, ◌≤◌, ◌<◌, arith, leb, ltb, eqb, le-leb, lt-ltb}
use Rattle.rules.specs.Lists.{every}
use Rattle.rules.specs.Answers.{Done, BadRecord, BadOrder}
use Rattle.rules.specs.Segments.{Segment, good-segment, follows, ordered-after, ordered, judge-segments}
use Rattle.segments.specs.Segs.{seg-at, segs}
use Rattle.segments.proofs.Laws.{segs-first, segs-end}

-- what is still to be judged after the segment s; ok: the order was not broken yet
unfoldable pub judging : Segment → Bool → List Segment → ℕ
judging s ok ss = cond (not (every good-segment ss)) BadRecord (cond (not (ok && ordered-after s ss)) BadOrder Done)

and-false : (x : Bool) → false ≡ (x && false)
and-false true = refl
and-false false = refl

pub judge-none : 0 ≡ judge-segments false []
unfolding judge-segments ordered
judge-none = refl

and_assoc : (x y z : Bool) → (x && (y && z)) ≡ ((x && y) && z)
and_assoc true y z = refl
and_assoc false y z = refl

module _ (s : Segment) (ss : List Segment) where
  pub judge-bad : good-segment s ≡ false → 4 ≡ judge-segments false (s ∷ ss)
  unfolding judge-segments
  judge-bad h = rw h

  pub judge-first : good-segment s ≡ true → judging s true ss ≡ judge-segments false (s ∷ ss)
  unfolding judging judge-segments ordered
  judge-first h = rw h

  module _ (t : Segment) (ok : Bool) where
    pub judging-bad : good-segment s ≡ false → 4 ≡ judging t ok (s ∷ ss)
    unfolding judging
    judging-bad h = rw h

    pub judging-more : good-segment s ≡ true → judging s (ok && follows t s) ss ≡ judging t ok (s ∷ ss)
    unfolding judging
    judging-more h = rw (h, and_assoc)

pub judging-done : (s : Segment) → 0 ≡ judging s true []
unfolding judging
judging-done s = refl

pub judging-broken : (s : Segment) → 5 ≡ judging s false []
unfolding judging
judging-broken s = refl

-- after a broken order only bad segments are looked for
pub judging-rest : (s : Segment) (ss : List Segment) → cond (not (every good-segment ss)) BadRecord BadOrder ≡ judging s false ss
unfolding judging
judging-rest s ss = refl

-- every list follows a segment that ends at tile 0 of row 0
abbrev pub nowhere : Segment
nowhere = record { kind = 0; row = 0; first = 0; end = 0; alpha = 0 }

pub first-follows : (r x : ℕ) → (ltb 0 r || eqb 0 r && leb 0 x) ≡ true
first-follows zero x = le-leb 0 x (omega arith)
first-follows (suc r) x = rw (lt-ltb 0 (suc r) (omega arith))

ordered-first : (ss : List Segment) → ordered-after nowhere ss ≡ ordered ss
unfolding ordered
ordered-first [] = refl
ordered-first (t ∷ ts) = rw (first-follows t.row t.first)

pub none_before : (ss : List Segment) → judging nowhere true ss ≡ judge-segments false ss
unfolding judging judge-segments
none_before ss = rw (ordered-first ss)

-- the loop at place i of n, on its way from the start, after the segment s
pub record AtPlace (ws : List ℕ) (a n : ℕ) (s : Segment) (ok : Bool) (i : ℕ) : Type 0 where
  pub before : i ≤ n
  pub rest : judging s ok (segs ws i (n - i)) ≡ judge-segments false (segs ws a (n - a))

pub nothing : (ws : List ℕ) (a n : ℕ) → n ≤ a → 0 ≡ judge-segments false (segs ws a (n - a))
nothing ws a n h = rw (segs-end ws a n h) judge-none

module _ (ws : List ℕ) (a n : ℕ) {s : Segment} (h : a < n) (e : s ≡ seg-at ws a) where
  pub first-bad : good-segment s ≡ false → 4 ≡ judge-segments false (segs ws a (n - a))
  first-bad g = rw (segs-first ws a n h, ← e) (judge-bad s _ g)

  pub begun : good-segment s ≡ true → AtPlace ws a n s true (a + 1)
  begun g = record { before = omega arith; rest = judge-first s _ g ∙ sym (rw (segs-first ws a n h, ← e)) }

module _ {ws : List ℕ} {a n i : ℕ} {s : Segment} {ok : Bool} (v : AtPlace ws a n s ok i) where
  ended : n ≤ i → judging s ok [] ≡ judge-segments false (segs ws a (n - a))
  ended h = sym (ap (judging s ok) (segs-end ws i n h)) ∙ v.rest

  pub all-ordered : n ≤ i → ok ≡ true → 0 ≡ judge-segments false (segs ws a (n - a))
  all-ordered h p = judging-done s ∙ (rw p at (ended h))

  pub some-broken : n ≤ i → ok ≡ false → 5 ≡ judge-segments false (segs ws a (n - a))
  some-broken h p = judging-broken s ∙ (rw p at (ended h))

  module _ {t : Segment} (h : i < n) (e : t ≡ seg-at ws i) where
    here : judging s ok (t ∷ segs ws (i + 1) (n - (i + 1))) ≡ judge-segments false (segs ws a (n - a))
    here = sym (ap (judging s ok) (rw (segs-first ws i n h, ← e))) ∙ v.rest

    pub bad-here : good-segment t ≡ false → 4 ≡ judge-segments false (segs ws a (n - a))
    bad-here g = judging-bad t _ s ok g ∙ here

    pub again : {ok' : Bool} → good-segment t ≡ true → ok' ≡ (ok && follows s t) → AtPlace ws a n t ok' (i + 1)
    again g q = record { before = omega arith; rest = rw q (judging-more t _ s ok g ∙ here) }

    pub broken-here : good-segment t ≡ true → follows s t ≡ false → cond (not (every good-segment (segs ws (i + 1) (n - (i + 1))))) BadRecord BadOrder ≡ judge-segments false (segs ws a (n - a))
    broken-here g q = judging-rest t _ ∙ (again {ok' = false} g (rw q (and-false ok))).rest

-- the look for bad segments at place i of n, on its way from the start
pub record RestAt (ws : List ℕ) (a n i : ℕ) : Type 0 where
  pub before : i ≤ n
  pub left : every good-segment (segs ws i (n - i)) ≡ every good-segment (segs ws a (n - a))

abbrev rest_number : Bool → ℕ
rest_number b = cond (not b) BadRecord BadOrder

pub rest-begun : (ws : List ℕ) (a n : ℕ) → a ≤ n → RestAt ws a n a
rest-begun ws a n h = record { before = h; left = refl }

module _ {ws : List ℕ} {a n i : ℕ} (v : RestAt ws a n i) where
  pub rest-done : n ≤ i → 5 ≡ cond (not (every good-segment (segs ws a (n - a)))) BadRecord BadOrder
  rest-done h = ap rest_number (none-bad ∙ v.left)
    where
      none-bad : true ≡ every good-segment (segs ws i (n - i))
      none-bad = rw (segs-end ws i n h)

  module _ {t : Segment} (h : i < n) (e : t ≡ seg-at ws i) where
    rest-here : every good-segment (t ∷ segs ws (i + 1) (n - (i + 1))) ≡ every good-segment (segs ws a (n - a))
    rest-here = rw (segs-first ws i n h, ← e) at v.left

    pub rest-bad : good-segment t ≡ false → 4 ≡ cond (not (every good-segment (segs ws a (n - a)))) BadRecord BadOrder
    rest-bad g = ap rest_number (bad-first g ∙ rest-here)
      where
        bad-first : good-segment t ≡ false → false ≡ every good-segment (t ∷ segs ws (i + 1) (n - (i + 1)))
        bad-first g = rw g

    pub rest-on : good-segment t ≡ true → RestAt ws a n (i + 1)
    rest-on g = record { before = omega arith; left = good-first g ∙ rest-here }
      where
        good-first : good-segment t ≡ true → every good-segment (segs ws (i + 1) (n - (i + 1))) ≡ every good-segment (t ∷ segs ws (i + 1) (n - (i + 1)))
        good-first g = rw g
