-- Counting as cut segments run, ordered by row, is counting all of each row. Assumes nothing.
use Rattle.std.proofs.Common.{◌≡◌, refl, sym, ap, ◌∙◌, Bool, true, false, ◌||◌, cond, List, [], ◌∷◌, ◌++◌, Option, None, Some, ℕ, ◌+◌, ◌-◌, ◌/◌, ◌≤◌, ◌<◌, arith, ltb, eqb, eq-eqb, ne_eqb, eqb-true, le-ltb, ltb-false, ltb-true}
use Rattle.std.proofs.lemmas.Bool.Decides.{nat_tests}
use Rattle.rules.specs.Lists.{some_of, join}
use Rattle.rules.specs.Boxes.{Box}
use Rattle.rules.specs.Spans.{span, Stretch, cut_to}
use Rattle.rules.specs.Segments.{Segment, Cut, follows, ordered-after, ordered, localised, on_row, cut_in, stretch-of}
use Rattle.rules.specs.Plans.{on, close, close-puts}
use Rattle.rules.proofs.All.{All, nil, cons, all_map, all_any, all_both, all_join, none_of, both, neither, never}
use Rattle.row.specs.Words.{Words, word}
use Rattle.pop.specs.Closing.{row_of, full_by, so_far, runs-full}
use Rattle.pop.proofs.Closed.{count-on, members}

-- how many cut segments lie on row x
unfoldable pub cuts-on : ℕ → List Cut → ℕ
cuts-on x [] = 0
cuts-on x (k ∷ ks) = cond (eqb k.row x) 1 0 + cuts-on x ks

-- rows do not fall
pub data Sorted : List Cut → Type 0 where
  none-sorted : Sorted []
  one-sorted : {k : Cut} {ks : List Cut} → All (λ (j : Cut). k.row ≤ j.row) ks → Sorted ks → Sorted (k ∷ ks)

-- an ordered list's cut segments are sorted
follows-row : (s t : Segment) → follows s t ≡ true → s.row ≤ t.row
follows-row s t h = grind (arith, nat_tests)

after-rows : (s : Segment) (ss : List Segment) → ordered-after s ss ≡ true → All (λ (t : Segment). s.row ≤ t.row) ss
after-rows s [] h = nil
after-rows s (t ∷ ts) h =
    let g = both (follows s t) (ordered-after t ts) h in
    let e : s.row ≤ t.row = follows-row s t g.0 in
    cons e (all_map (λ (u : Segment) (i : t.row ≤ u.row). further u e i) (after-rows t ts g.1))
  where
    further : (u : Segment) → s.row ≤ t.row → t.row ≤ u.row → s.row ≤ u.row
    further u e i = omega arith

after-ordered : (s : Segment) (ss : List Segment) → ordered-after s ss ≡ true → ordered ss ≡ true
unfolding ordered
after-ordered s [] h = refl
after-ordered s (t ∷ ts) h = (both (follows s t) (ordered-after t ts) h).1

module _ (v b : Box) where
  local-row : (row : ℕ) (o : Option Stretch) → All (λ (k : Cut). k.row ≡ row - v.y0 / 4) (localised v row o)
  local-row row None = nil
  local-row row (Some k) = cons refl nil

  pub cut-row : (s : Segment) → All (λ (k : Cut). k.row ≡ s.row - v.y0 / 4) (cut_in v b s)
  unfolding cut_in
  cut-row s = local-row s.row (on_row b s (cut_to (span b.x0 b.x1) (stretch-of s)))

  low-join : (r : ℕ) {ss : List Segment} → All (λ (t : Segment). r ≤ t.row) ss → All (λ (k : Cut). r - v.y0 / 4 ≤ k.row) (join (cut_in v b) ss)
  low-join r a = all_join (cut_in v b) (λ (s : Segment) (h : r ≤ s.row). all_map (λ (k : Cut) (e : k.row ≡ s.row - v.y0 / 4). up k s h e) (cut-row s)) a
    where
      up : (k : Cut) (s : Segment) → r ≤ s.row → k.row ≡ s.row - v.y0 / 4 → r - v.y0 / 4 ≤ k.row
      up k s h e = omega arith

  one_more : (row : ℕ) (o : Option Stretch) {ks : List Cut} → All (λ (k : Cut). row - v.y0 / 4 ≤ k.row) ks → Sorted ks → Sorted (localised v row o ++ ks)
  one_more row None a s = s
  one_more row (Some k) a s = one-sorted a s

  cut_sorted : (s : Segment) {ks : List Cut} → All (λ (k : Cut). s.row - v.y0 / 4 ≤ k.row) ks → Sorted ks → Sorted (cut_in v b s ++ ks)
  unfolding cut_in
  cut_sorted s a o = one_more s.row (on_row b s (cut_to (span b.x0 b.x1) (stretch-of s))) a o

  pub cuts-sorted : (ss : List Segment) → ordered ss ≡ true → Sorted (join (cut_in v b) ss)
  unfolding ordered
  cuts-sorted [] h = none-sorted
  cuts-sorted (s ∷ ss) h = cut_sorted s (low-join s.row (after-rows s ss h)) (cuts-sorted ss (after-ordered s ss h))

cuts-low : (r x : ℕ) {ks : List Cut} → All (λ (j : Cut). r ≤ j.row) ks → 0 < cuts-on x ks → r ≤ x
unfolding cuts-on
cuts-low r x nil h = absurd (omega arith)
cuts-low r x (cons {x = k} {xs = ks} p ps) h = go (eqb k.row x) refl h (λ g. cuts-low r x ps g)
  where
    go : (b : Bool) → eqb k.row x ≡ b → 0 < cond b 1 0 + cuts-on x ks → (0 < cuts-on x ks → r ≤ x) → r ≤ x
    go true e g f = omega (arith, eqb-true k.row x e, p)
    go false e g f = f (omega (arith, g))

-- what holds of a list's elements holds of one that is found in it
pub at-found : {P : ℕ → Type 0} {xs : List ℕ} → All P xs → (x : ℕ) → some_of (eqb x) xs ≡ true → P x
at-found nil x h = never (sym h)
at-found {P} (cons {x = y} {xs = ys} p ps) x h = go (eqb x y) refl h (λ g. at-found ps x g)
  where
    go : (b : Bool) → eqb x y ≡ b → (b || some_of (eqb x) ys) ≡ true → (some_of (eqb x) ys ≡ true → P x) → P x
    go true e g f = rw (eqb-true x y e) p
    go false e g f = f g

-- a row that is found and one that is not are two
apart : (x y : ℕ) (xs : List ℕ) → some_of (eqb x) xs ≡ true → some_of (eqb y) xs ≡ false → y ≡ x → ⊥
apart x y xs h g e = let i : some_of (eqb y) xs ≡ true = rw e h in never (sym i ∙ g)

-- a touched row's closing puts are its cut segments
pub count-cuts : (i x : ℕ) (xs : List ℕ) (ks : List Cut) → some_of (eqb x) xs ≡ true → count-on x (close-puts i xs ks) ≡ cuts-on x ks
unfolding close-puts count-on cuts-on
count-cuts i x xs [] h = refl
count-cuts i x xs (k ∷ ks) h = go (some_of (eqb k.row) xs) refl (count-cuts i x xs ks h)
  where
    go : (b : Bool) → some_of (eqb k.row) xs ≡ b → count-on x (close-puts i xs ks) ≡ cuts-on x ks
        → count-on x (cond b (on (close k.stretch.tiles k.stretch.alpha i) k.row ∷ close-puts i xs ks) (close-puts i xs ks)) ≡ cond (eqb k.row x) 1 0 + cuts-on x ks
    go true e f = ap (λ (q : ℕ). cond (eqb k.row x) 1 0 + q) f
    go false e f = f ∙ rw (ne_eqb k.row x (apart x k.row xs h e)) (omega arith)

module _ (rs : List Words) (x : ℕ) where
  so-far-here : (r m : ℕ) → x ≡ r → so_far rs (r + 1) m x ≡ m
  so-far-here r m e = rw (eq-eqb (x + 1) (r + 1) (omega arith))

  pub so-far-else : (next m : ℕ) → (x + 1 ≡ next → ⊥) → so_far rs next m x ≡ word 0 (row_of rs x)
  so-far-else next m h = rw (ne_eqb (x + 1) next h)

module _ (c : ℕ) (xs : List ℕ) (rs : List Words) where
  -- every touched row that has cut segments has room for them and for its PopBuf
  abbrev pub Fits : ℕ → ℕ → List Cut → Type 0
  Fits next m ks = (x : ℕ) → some_of (eqb x) xs ≡ true → 0 < cuts-on x ks → so_far rs next m x + cuts-on x ks + 1 ≤ c

  module _ (next m : ℕ) (k : Cut) (ks : List Cut) (lo : All (λ (j : Cut). k.row ≤ j.row) ks) (a : next ≤ k.row + 1) where
    abbrev more : ℕ
    more = so_far rs next m k.row + 1

    -- another row, which has cut segments later, has not been counted yet
    not_yet : (x : ℕ) → (k.row ≡ x → ⊥) → 0 < cuts-on x ks → so_far rs next m x ≡ word 0 (row_of rs x)
    not_yet x h g =
        so-far-else rs x next m (λ (e : x + 1 ≡ next). h (omega (arith, cuts-low k.row x lo g, a)))

    fits-here : ltb c (more + 1) ≡ false → Fits (k.row + 1) more ks → Fits next m (k ∷ ks)
    unfolding cuts-on
    fits-here e f x i g =
        let h = f x i in
        let here = so-far-here rs x k.row more in
        let gone = so-far-else rs x (k.row + 1) more in
        let later = not_yet x in
        let same : k.row ≡ x → so_far rs next m x ≡ so_far rs next m k.row = λ z. ap (so_far rs next m) (sym z) in
        grind (arith, nat_tests)

    here-fits : some_of (eqb k.row) xs ≡ true → Fits next m (k ∷ ks) → (ltb c (more + 1) ≡ false) × Fits (k.row + 1) more ks
    unfolding cuts-on
    here-fits t f = (le-ltb c (more + 1) at-k, λ x i g. rest x i g)
      where
        at-k : more + 1 ≤ c
        at-k = let h = f k.row t in grind (arith, nat_tests)

        rest : Fits (k.row + 1) more ks
        rest x i g =
            let h = f x i in
            let here = so-far-here rs x k.row more in
            let gone = so-far-else rs x (k.row + 1) more in
            let later = not_yet x in
            let same : k.row ≡ x → so_far rs next m x ≡ so_far rs next m k.row = λ z. ap (so_far rs next m) (sym z) in
            grind (arith, nat_tests)

    fits-past : some_of (eqb k.row) xs ≡ false → Fits next m ks → Fits next m (k ∷ ks)
    unfolding cuts-on
    fits-past t f x i g =
        let n = apart x k.row xs i t in
        let h = f x i in
        grind (arith, nat_tests)

    past_fits : some_of (eqb k.row) xs ≡ false → Fits next m (k ∷ ks) → Fits next m ks
    unfolding cuts-on
    past_fits t f x i g =
        let n = apart x k.row xs i t in
        let h = f x i in
        grind (arith, nat_tests)

  onwards : (k : Cut) {ks : List Cut} → All (λ (j : Cut). k.row ≤ j.row) ks → All (λ (j : Cut). k.row + 1 ≤ j.row + 1) ks
  onwards k a = all_map (λ (j : Cut) (h : k.row ≤ j.row). omega arith) a

  pub runs_fit : (next m : ℕ) {ks : List Cut} → Sorted ks → All (λ (k : Cut). next ≤ k.row + 1) ks → runs-full c xs rs next m ks ≡ false → Fits next m ks
  unfolding runs-full cuts-on
  runs_fit next m none-sorted nil e = λ x i g. absurd (omega arith)
  runs_fit next m (one-sorted {k} {ks} lo s) (cons a rest) e =
      go (some_of (eqb k.row) xs) refl e (λ g. runs_fit (k.row + 1) (so_far rs next m k.row + 1) s (onwards k lo) g) (λ g. runs_fit next m s rest g)
    where
      go : (b : Bool) → some_of (eqb k.row) xs ≡ b
          → cond b (ltb c (so_far rs next m k.row + 1 + 1) || runs-full c xs rs (k.row + 1) (so_far rs next m k.row + 1) ks) (runs-full c xs rs next m ks) ≡ false
          → (runs-full c xs rs (k.row + 1) (so_far rs next m k.row + 1) ks ≡ false → Fits (k.row + 1) (so_far rs next m k.row + 1) ks)
          → (runs-full c xs rs next m ks ≡ false → Fits next m ks) → Fits next m (k ∷ ks)
      go true t h f g = let n = neither (ltb c (so_far rs next m k.row + 1 + 1)) _ h in fits-here next m k ks lo a n.0 (f n.1)
      go false t h f g = fits-past next m k ks lo a t (g h)

  pub fit-runs : (next m : ℕ) {ks : List Cut} → Sorted ks → All (λ (k : Cut). next ≤ k.row + 1) ks → Fits next m ks → runs-full c xs rs next m ks ≡ false
  unfolding runs-full
  fit-runs next m none-sorted nil f = refl
  fit-runs next m (one-sorted {k} {ks} lo s) (cons a rest) f =
      go (some_of (eqb k.row) xs) refl (λ g. fit-runs (k.row + 1) (so_far rs next m k.row + 1) s (onwards k lo) g) (λ g. fit-runs next m s rest g)
    where
      go : (b : Bool) → some_of (eqb k.row) xs ≡ b
          → (Fits (k.row + 1) (so_far rs next m k.row + 1) ks → runs-full c xs rs (k.row + 1) (so_far rs next m k.row + 1) ks ≡ false)
          → (Fits next m ks → runs-full c xs rs next m ks ≡ false)
          → cond b (ltb c (so_far rs next m k.row + 1 + 1) || runs-full c xs rs (k.row + 1) (so_far rs next m k.row + 1) ks) (runs-full c xs rs next m ks) ≡ false
      go true t g h = let p = here-fits next m k ks lo a t f in rw (p.0, g p.1)
      go false t g h = h (past_fits next m k ks lo a t f)

-- two tests that say no together
pub same-no : (a b : Bool) → (a ≡ false → b ≡ false) → (b ≡ false → a ≡ false) → a ≡ b
same-no a b f g = grind (arith, nat_tests)

pub some-none : {A : Type 0} (p : A → Bool) {xs : List A} → All (λ (x : A). p x ≡ false) xs → some_of p xs ≡ false
some-none p nil = refl
some-none p (cons e es) = rw (e, some-none p es)

-- answer 10 with a clip
module _ (c i : ℕ) (xs : List ℕ) (rs : List Words) (ks : List Cut) (s : Sorted ks) where
  abbrev whole-test : ℕ → Bool
  whole-test x = ltb c (word 0 (row_of rs x) + count-on x (close-puts i xs ks) + 1)

  begin : All (λ (k : Cut). 0 ≤ k.row + 1) ks
  begin = all_any (λ (k : Cut). omega arith) ks

  to-runs : some_of whole-test xs ≡ false → (full_by c 1 rs xs || runs-full c xs rs 0 0 ks) ≡ false
  unfolding full_by
  to-runs e =
      let a = none_of whole-test xs e in
      let f : Fits c xs rs 0 0 ks =
      λ x h g.
      omega (arith, so-far-else rs x 0 0 (λ (z : x + 1 ≡ 0). omega arith), count-cuts i x xs ks h, ltb-false c (word 0 (row_of rs x) + count-on x (close-puts i xs ks) + 1) (at-found a x h)) in
      rw (
        some-none (λ (x : ℕ). ltb c (word 0 (row_of rs x) + 1))
            (all_map (λ (x : ℕ) (h : whole-test x ≡ false). le-ltb c (word 0 (row_of rs x) + 1) (omega (arith, ltb-false c (word 0 (row_of rs x) + count-on x (close-puts i xs ks) + 1) h))) a),
        fit-runs c xs rs 0 0 s begin f,
      )

  from-runs : (full_by c 1 rs xs || runs-full c xs rs 0 0 ks) ≡ false → some_of whole-test xs ≡ false
  unfolding full_by
  from-runs e =
      let n = neither (full_by c 1 rs xs) (runs-full c xs rs 0 0 ks) e in
      let a = none_of (λ (x : ℕ). ltb c (word 0 (row_of rs x) + 1)) xs n.0 in
      let f = runs_fit c xs rs 0 0 s begin n.1 in
      some-none whole-test (go f (all_both (members xs) a))
    where
      go : Fits c xs rs 0 0 ks → {ys : List ℕ} → All (λ (x : ℕ). (some_of (eqb x) xs ≡ true) × (ltb c (word 0 (row_of rs x) + 1) ≡ false)) ys → All (λ (x : ℕ). whole-test x ≡ false) ys
      go f nil = nil
      go f (cons {x} p ps) = cons (by (ltb 0 (cuts-on x ks)) refl) (go f ps)
        where
          by : (b : Bool) → ltb 0 (cuts-on x ks) ≡ b → whole-test x ≡ false
          by true d =
              le-ltb c (word 0 (row_of rs x) + count-on x (close-puts i xs ks) + 1)
              (omega (arith, f x p.0 (ltb-true 0 (cuts-on x ks) d), so-far-else rs x 0 0 (λ (z : x + 1 ≡ 0). omega arith), count-cuts i x xs ks p.0))
          by false d =
              le-ltb c (word 0 (row_of rs x) + count-on x (close-puts i xs ks) + 1)
              (omega (arith, ltb-false 0 (cuts-on x ks) d, ltb-false c (word 0 (row_of rs x) + 1) p.1, count-cuts i x xs ks p.0))

  pub running-is : some_of whole-test xs ≡ (full_by c 1 rs xs || runs-full c xs rs 0 0 ks)
  running-is = same-no (some_of whole-test xs) (full_by c 1 rs xs || runs-full c xs rs 0 0 ks) to-runs from-runs
