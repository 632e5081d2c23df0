-- The records of a sound screen's rows are good (answer 4). Assumes nothing.
use Rattle.std.proofs.Common.{◌≡◌, refl, sym, ap, ◌∙◌, true, List, [], ◌∷◌, ◌++◌, map, append_assoc, Option, None, Some, ℕ, zero, suc, ◌+◌, ◌-◌, ◌*◌, ◌/◌, ◌%◌, ◌≤◌, ◌<◌, arith, leb, length, get_or}
use Rattle.std.proofs.Common.{length-append, get_or-append-add, le-leb, lt-ltb, ne_eqb}
use Rattle.rules.specs.Spans.{Span}
use Rattle.rules.specs.Commands.{span-word}
use Rattle.rules.specs.Rows.{Row, Level, fresh-row}
use Rattle.rules.specs.Plans.{Frame, Put}
use Rattle.rules.proofs.All.{All, cons, head}
use Rattle.row.specs.Building.{good-union, good-level, good-top, good_row, good-at, good_rows}
use Rattle.refine_row.specs.Encode.{padded, union-words, stack, first_of, end_of, placed, encode, Fine}
use Rattle.refine_row.proofs.Pads.{zeros, padded-fits}
use Rattle.refine_steps.specs.Sound.{OrderedUnion, Fitting}

three : (l : Level) → length (l.place ∷ union-words l.union) ≡ 3
three l = go l.union
  where
    go : (u : Option Span) → length (l.place ∷ union-words u) ≡ 3
    go None = refl
    go (Some s) = refl

stack-length : (ls : List Level) → length (stack ls) ≡ 3 * length ls
unfolding stack
stack-length [] = refl
stack-length (l ∷ ls) = length-append (stack ls) (l.place ∷ union-words l.union) ∙ omega (arith, three l, stack-length ls)

-- the words of the top level
module _ (ls : List Level) (p t v : ℕ) (few : length ls ≤ 15) where
  opened : padded 48 (stack ls ++ (p ∷ t ∷ v ∷ [])) ≡ stack ls ++ (p ∷ t ∷ v ∷ zeros (48 - (length (stack ls) + 3)))
  opened =
      let h : length (stack ls ++ (p ∷ t ∷ v ∷ [])) ≤ 48 = rw length-append (omega (arith, stack-length ls)) in
      rw (padded-fits 48 (stack ls ++ (p ∷ t ∷ v ∷ [])) h, length-append, append_assoc)

  top-place : get_or (padded 48 (stack ls ++ (p ∷ t ∷ v ∷ []))) (3 * length ls) 0 ≡ p
  top-place = let z : length (stack ls) ≡ length (stack ls) + 0 = omega arith in rw (opened, ← stack-length ls, z, get_or-append-add)

  top-tag : get_or (padded 48 (stack ls ++ (p ∷ t ∷ v ∷ []))) (3 * length ls + 1) 0 ≡ t
  top-tag = rw (opened, ← stack-length ls, get_or-append-add)

  top-span : get_or (padded 48 (stack ls ++ (p ∷ t ∷ v ∷ []))) (3 * length ls + 2) 0 ≡ v
  top-span = rw (opened, ← stack-length ls, get_or-append-add)

union-good : (u : Option Span) → OrderedUnion u → (t v : ℕ) → union-words u ≡ t ∷ v ∷ [] → good-union t v ≡ true
union-good None o t v e =
    let p : t ≡ 5 = sym (ap (λ (l : List ℕ). get_or l 0 0) e) in
    let q : v ≡ 0 = sym (ap (λ (l : List ℕ). get_or l 1 0) e) in
    rw (p, q)
union-good (Some s) o t v e =
    let p : t ≡ 6 = sym (ap (λ (l : List ℕ). get_or l 0 0) e) in
    let q : v ≡ span-word s = sym (ap (λ (l : List ℕ). get_or l 1 0) e) in
    let a : span-word s / 65536 ≡ s.first = omega (arith, o.end, o.order) in
    let b : span-word s % 65536 ≡ s.end = omega (arith, o.end, o.order) in
    rw (p, q, a, b, le-leb _ _ o.order, le-leb _ _ o.end)

two-words : (u : Option Span) → (t : ℕ) × (v : ℕ) × (union-words u ≡ t ∷ v ∷ [])
two-words None = (5, 0, refl)
two-words (Some s) = (6, span-word s, refl)

module _ (n f a b g : ℕ) where
  level-good : (l : Level) (ls : List Level) → length ls ≤ 15 → l.place < n → OrderedUnion l.union → good-level (suc (length ls)) (n ∷ f ∷ a ∷ b ∷ g ∷ suc (length ls) ∷ padded 48 (stack (l ∷ ls))) ≡ true
  unfolding stack
  level-good l ls few h o =
      let u = two-words l.union in
      let i0 : 3 + 3 * suc (length ls) ≡ suc (suc (suc (suc (suc (suc (3 * length ls)))))) = omega arith in
      let i1 : suc (suc (suc (suc (suc (suc (3 * length ls)))))) + 1 ≡ suc (suc (suc (suc (suc (suc (3 * length ls + 1)))))) = omega arith in
      let i2 : suc (suc (suc (suc (suc (suc (3 * length ls)))))) + 2 ≡ suc (suc (suc (suc (suc (suc (3 * length ls + 2)))))) = omega arith in
      rw (i0, i1, i2, u.2, top-place ls l.place u.0 u.1 few, top-tag ls l.place u.0 u.1 few, top-span ls l.place u.0 u.1 few, lt-ltb _ _ h)
      (union-good l.union o u.0 u.1 u.2)

  top-good : (ls : List Level) → length ls ≤ 16 → All (λ (l : Level). OrderedUnion l.union) ls → ((l : Level) (ms : List Level) → ls ≡ l ∷ ms → l.place < n)
      → good-top (length ls) (n ∷ f ∷ a ∷ b ∷ g ∷ length ls ∷ padded 48 (stack ls)) ≡ true
  top-good [] few o h = refl
  top-good (l ∷ ls) few o h = rw (ne_eqb (suc (length ls)) 0 (λ e. omega arith)) (level-good l ls (omega arith) (h l ls refl) (head o))

summary-good : (u : Option Span) → OrderedUnion u → (leb (first_of u) (end_of u) ≡ true) × (leb (end_of u) 8192 ≡ true)
summary-good None o = (refl, refl)
summary-good (Some s) o = (le-leb _ _ o.order, le-leb _ _ o.end)

-- a row's record
pub record-good : (c d n : ℕ) (r : Row) → Fitting c d r → Fine r → length r.levels ≤ n → good_row c d n (encode c d r).state ≡ true
unfolding good_row encode
record-good c d n r h o m =
    let s = summary-good r.depth.union h.sane.depth in
    let t = top-good (length r.commands) (length r.fills) (first_of r.depth.union) (end_of r.depth.union) r.depth.largest r.levels o.few h.sane.unions (placed_first r.levels o.places) in
    rw (le-leb _ _ h.commands, le-leb _ _ h.fills, le-leb _ _ m, s.0, s.1, le-leb _ _ h.sane.largest) t
  where
    placed_first : (ls : List Level) → placed r.commands (length r.commands) ls → (l : Level) (ms : List Level) → ls ≡ l ∷ ms → l.place < length r.commands
    placed_first ls p l ms e = let q : placed r.commands (length r.commands) (l ∷ ms) = rw e at p in q.0

-- every row that is put on
module _ (f : Frame) (n : ℕ) where
  at-good : (i : ℕ) (rs : List Row) → ((j : ℕ) → Fitting f.c f.d (get_or rs j fresh-row) × (length (get_or rs j fresh-row).levels ≤ n)) → All Fine rs → good-at f n i (map (encode f.c f.d) rs) ≡ true
  at-good i [] h o = refl
  at-good zero (r ∷ rs) h o = record-good f.c f.d n r (h 0).0 (head o) (h 0).1
  at-good (suc i) (r ∷ rs) h (cons o os) = at-good i rs (λ j. h (suc j)) os

  pub records-good : (ps : List Put) (rs : List Row) → ((j : ℕ) → Fitting f.c f.d (get_or rs j fresh-row) × (length (get_or rs j fresh-row).levels ≤ n)) → All Fine rs
      → good_rows f n ps (map (encode f.c f.d) rs) ≡ true
  unfolding good_rows
  records-good [] rs h o = refl
  records-good (p ∷ ps) rs h o = rw (at-good p.row rs h o) (records-good ps rs h o)
