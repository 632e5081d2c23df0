-- What the code's tests say of rows, one by one and in a run. Assumes nothing.
use Rattle.std.proofs.Common.{◌≡◌, refl, sym, ap, ◌∙◌, Bool, true, false, ◌&&◌, ◌||◌, not, cond, List, [], ◌∷◌, map, None, Result, Ok, Err, ℕ, ◌+◌, ◌-◌, ◌*◌, ◌≤◌, ◌<◌, arith, ltb, eqb, length, get_or, eq-eqb, ne_eqb}
use Rattle.std.specs.Result.{is_err}
use Rattle.sizes.specs.declared.answers.Refusal.{Refusal}
use Rattle.sizes.specs.Refusals.{answer_number}
use Rattle.sizes.proofs.Refusals.{not_done}
use Rattle.std.proofs.lemmas.Bool.Decides.{nat_tests}
use Rattle.rules.specs.Lists.{some_of, keep, change, range}
use Rattle.rules.specs.Spans.{Span}
use Rattle.rules.specs.Commands.{layer-fill}
use Rattle.rules.specs.Segments.{Segment, good-segment, Cut, cut_in}
use Rattle.rules.specs.Plans.{Act, close, pop, on, close-puts}
use Rattle.rules.specs.Steps.{do-act, do-puts}
use Rattle.rules.proofs.All.{All, head, both, all_map, every-all, never}
use Rattle.row.specs.Words.{Words, word, put_command, end_buf}
use Rattle.row.specs.Cmds.{Short}
use Rattle.row.specs.Arena.{sizes, cut, Arenas}
use Rattle.row.proofs.RowsLaws.{within}
use Rattle.row.specs.Building.{good-level, good-top, good_row}
use Rattle.row.specs.declared.room.Limits.{Limits}
use Rattle.row.specs.Room.{Counted as Hand, record-at, limits, loaded, added_to, rows_told, Found}
use Rattle.row.proofs.RoomLaws.{good-small, commands-told}
use Rattle.segments.specs.declared.Scene.{Scene}
use Rattle.segments.specs.Segs.{origin, bounds, Starts}
use Rattle.pop.specs.Closing.{row_of, touched-in, good-pop, good-pops, full_by, full-pop, pops-number, done-puts, Roomy, Fillable, Each, touched-word, ShallowRow}
use Rattle.pop.proofs.Touched.{all-range, all-touched, touched_none, touched-cons}
use Rattle.pop.proofs.Running.{at-found}
use Rattle.pop.proofs.Rooms.{rows-count, row_is, row_word, touched-is, touched-inside}
use Rattle.pop.proofs.Clipping.{placed-short, one-fillable}

pub not-true : (b : Bool) → not b ≡ true → b ≡ false
not-true true p = never (sym p)
not-true false p = refl

pub not-false : (b : Bool) → not b ≡ false → b ≡ true
not-false true p = refl
not-false false p = never p

-- a row of the layer's box
module _ (c d n : ℕ) (w : Words) where
  pub pop-other : (word 5 w ≡ n → ⊥) → ltb (word 5 w) n ≡ good-pop c d n w
  unfolding good-pop
  pop-other h = rw (ne_eqb (word 5 w) n h)

  module _ (e : word 5 w ≡ n) where
    pub pop-bad : good_row c d n w.state ≡ false → false ≡ good-pop c d n w
    unfolding good-pop
    pop-bad h = rw (eq-eqb (word 5 w) n e, h)

    pub pop-tag : good_row c d n w.state ≡ true → eqb (get_or w.render (4 * word (3 + 3 * n) w) 0) 5 ≡ good-pop c d n w
    unfolding good-pop
    pop-tag h = rw (eq-eqb (word 5 w) n e, h)

-- a touched row's record that is good, as facts
pub record Touched (c d n : ℕ) (s : List ℕ) : Type 0 where
  pub commands : get_or s 0 0 ≤ c
  pub depths : get_or s 1 0 ≤ d
  pub place : get_or s (3 + 3 * n) 0 < get_or s 0 0

pub good-touched : (c d n : ℕ) (s : List ℕ) → good_row c d n s ≡ true → get_or s 5 0 ≡ n → 1 ≤ n → Touched c d n s
unfolding good_row
good-touched c d n s g e h =
    let top : good-top (get_or s 5 0) s ≡ true = grind (arith, nat_tests) in
    let t : good-level n s ≡ true = rw (e, ne_eqb n 0 (λ (z : n ≡ 0). omega arith)) at top in
    record { commands = grind (arith, nat_tests); depths = grind (arith, nat_tests); place = grind (arith, nat_tests) }

-- the place that the code reads
module _ (c d n : ℕ) (w : Words) (g : good_row c d n w.state ≡ true) (e : word 5 w ≡ n) {p q : ℕ} (i : q ≡ n) (j : p ≡ get_or w.state (3 + 3 * q) 0) where
  at_place : p ≡ word (3 + 3 * n) w
  at_place = rw i at j

  pub place-within : 1 ≤ n → length w.render ≡ 4 * c → 4 * p < length w.render
  place-within h l = let t = good-touched c d n w.state g e h in omega (arith, t.place, t.commands, at_place, l)

  pub tag_at : eqb (get_or w.render (4 * p) 0) 5 ≡ good-pop c d n w
  tag_at = rw at_place (pop-tag c d n w e g)

-- one row, touched or not
module _ (n : ℕ) (rs : List Words) (r : ℕ) where
  one-touched : touched-in n rs (r ∷ []) ≡ keep (eqb (word 5 (row_of rs r)) n) r []
  one-touched = touched-cons n rs r [] ∙ ap (keep (eqb (word 5 (row_of rs r)) n) r) (touched_none n rs)

  is-here : word 5 (row_of rs r) ≡ n → touched-in n rs (r ∷ []) ≡ r ∷ []
  is-here h = one-touched ∙ rw (eq-eqb (word 5 (row_of rs r)) n h)

  not-here : (word 5 (row_of rs r) ≡ n → ⊥) → touched-in n rs (r ∷ []) ≡ []
  not-here h = one-touched ∙ rw (ne_eqb (word 5 (row_of rs r)) n h)

module _ {cs ds rows : ℕ} {w : Words} (o : Arenas cs ds rows w) (n r : ℕ) (i : r < rows) where
  level : word 5 (row_of (cut (sizes cs ds) rows w) r) ≡ get_or w.state (r * 54 + 5) 0
  level = sym (row_word o r 5 i (omega arith))

  module _ (h : get_or w.state (r * 54 + 5) 0 ≡ n → ⊥) where
    out-here : touched-in n (cut (sizes cs ds) rows w) (r ∷ []) ≡ []
    out-here = not-here n (cut (sizes cs ds) rows w) r (λ (e : word 5 (row_of (cut (sizes cs ds) rows w) r) ≡ n). h (sym level ∙ e))

    pub act-other : (v m : ℕ) (t : Act) → cut (sizes cs ds) rows w ≡ done-puts v m (map (on t) (touched-in n (cut (sizes cs ds) rows w) (r ∷ []))) (cut (sizes cs ds) rows w)
    unfolding do-puts
    act-other v m t = rw out-here

  module _ (h : get_or w.state (r * 54 + 5) 0 ≡ n) where
    in-here : touched-in n (cut (sizes cs ds) rows w) (r ∷ []) ≡ r ∷ []
    in-here = is-here n (cut (sizes cs ds) rows w) r (level ∙ h)

    pub close-here : (v m : ℕ) (s : Span) (j : ℕ) → change (put_command (layer-fill s None j)) r (cut (sizes cs ds) rows w) ≡ done-puts v m (map (on (close s None j)) (touched-in n (cut (sizes cs ds) rows w) (r ∷ []))) (cut (sizes cs ds) rows w)
    unfolding do-puts do-act
    close-here v m s j = rw in-here

    pub pop-here : (v m : ℕ) → change end_buf r (cut (sizes cs ds) rows w) ≡ done-puts v m (map (on pop) (touched-in n (cut (sizes cs ds) rows w) (r ∷ []))) (cut (sizes cs ds) rows w)
    unfolding do-puts do-act
    pop-here v m = rw in-here

    pub each-here : (P : Words → Type 0) → Each P (cut (sizes cs ds) rows w) (touched-in n (cut (sizes cs ds) rows w) (r ∷ [])) → P (row_of (cut (sizes cs ds) rows w) r)
    each-here P a = let b : All (λ (x : ℕ). P (row_of (cut (sizes cs ds) rows w) x)) (r ∷ []) = rw in-here at a in head b

-- the touched ones of some rows, and k commands more, by their records
module _ (c k n : ℕ) (rs : List Words) where
  full-keep : (t : Bool) (r : ℕ) (xs : List ℕ) → some_of (λ (i : ℕ). ltb c (word 0 (row_of rs i) + k)) (keep t r xs) ≡ ((t && ltb c (word 0 (row_of rs r) + k)) || some_of (λ (i : ℕ). ltb c (word 0 (row_of rs i) + k)) xs)
  full-keep true r xs = refl
  full-keep false r xs = refl

  full-pops : (is : List ℕ) → some_of (λ (i : ℕ). full-pop c n k (row_of rs i).state) is ≡ full_by c k rs (touched-in n rs is)
  unfolding full_by touched-in
  full-pops [] = refl
  full-pops (i ∷ is) = rw (full-pops is) (sym (full-keep (eqb (word 5 (row_of rs i)) n) i (touched-in n rs is)))

  pub pops-told : (d : ℕ) (is : List ℕ) → rows_told (λ (i : ℕ). good-pop c d n (row_of rs i)) (λ (i : ℕ). full-pop c n k (row_of rs i).state) 0 is ≡ pops-number c d n k rs is
  unfolding rows_told pops-number good-pops
  pops-told d is = rw (full-pops is)

-- a row that is good and touched has no more depth fills than d
module _ (c d n : ℕ) where
  pub pop-shallow : (w : Words) → good-pop c d n w ≡ true → word 5 w ≡ n → word 1 w ≤ d
  unfolding good-pop
  pop-shallow w g e =
      let h : (good_row c d n w.state && eqb (get_or w.render (4 * word (3 + 3 * n) w) 0) 5) ≡ true = rw (eq-eqb (word 5 w) n e) at g in
      (good-small c d n w.state (both (good_row c d n w.state) _ h).0).depths

  pub pops-shallow : (rs : List Words) (is : List ℕ) → good-pops c d n rs is ≡ true → All (λ (x : ℕ). (word 1 (row_of rs x) ≤ d) × (word 5 (row_of rs x) ≡ n)) (touched-in n rs is)
  unfolding good-pops
  pops-shallow rs is g =
      all_map (λ (x : ℕ) (p : (good-pop c d n (row_of rs x) ≡ true) × (word 5 (row_of rs x) ≡ n)). (pop-shallow (row_of rs x) p.0 p.1, p.1))
      (all-touched n rs (every-all (λ (i : ℕ). good-pop c d n (row_of rs i)) is g))

-- what was found so far
pub found_done : {T : Type 0} (r : Result T Refusal) → is_err r ≡ false → answer_number r ≡ 0
found_done (Ok x) h = refl
found_done (Err x) h = never h

pub found_some : {T : Type 0} (r : Result T Refusal) → is_err r ≡ true → answer_number r ≡ 0 → ⊥
found_some (Ok x) h e = never (sym h)
found_some (Err x) h e = not_done x e

-- one row's PopBuf and x commands more, as the one judge of room counts them
module _ (c d n : ℕ) (s : List ℕ) (code : ℕ) where
  pub count-here : (r x : ℕ) {l : Limits} {h u : Hand} → Found code → get_or s 5 0 ≡ n → get_or s 1 0 ≤ d → l ≡ limits c d n 1 → h ≡ loaded l s code r → u ≡ added_to l h x 0
      → u.code ≡ cond (full-pop c n (x + 1) s) 10 code
  count-here r x {u = u} o e g p q z =
      let t : get_or s 0 0 + (n - get_or s 5 0) + 1 + x ≡ get_or s 0 0 + (x + 1) = omega arith in
      let y : u ≡ added_to (limits c d n 1) (loaded (limits c d n 1) s code r) x 0 = z ∙ rw (q, p) in
      ap (λ (u : Hand). u.code) y ∙ commands-told (limits c d n 1) s code r x o g ∙ rw (t, eq-eqb (get_or s 5 0) n e)

-- row r among all
module _ {cs ds rows : ℕ} {w : Words} (o : Arenas cs ds rows w) (n r : ℕ) (h : r < rows) where
  state-is : (row_of (cut (sizes cs ds) rows w) r).state ≡ record-at w.state r
  state-is = ap (λ (u : Words). u.state) (row_is o r h)

  pub row-there : r * 54 + 54 ≤ length w.state
  row-there = omega (arith, within r rows 54 h, o.long.state)

  pub row-shallow : good-pop cs ds n (row_of (cut (sizes cs ds) rows w) r) ≡ true → ShallowRow ds n (record-at w.state r)
  row-shallow g e = rw state-is at (pop-shallow cs ds n (row_of (cut (sizes cs ds) rows w) r) g (rw state-is e))

  pub row-counted : (k code : ℕ) {m : ℕ} → m ≡ cond (full-pop cs n k (record-at w.state r)) 10 code → m ≡ cond (full-pop cs n k (row_of (cut (sizes cs ds) rows w) r).state) 10 code
  row-counted k code e = rw state-is e

-- a cut segment's row, as the code tests it
module _ {cs ds rows : ℕ} {w : Words} (o : Arenas cs ds rows w) (a b n : ℕ) (h : b ≤ rows) (k : ℕ) where
  pub touched-no : {r : ℕ} {t : Bool} → t ≡ touched-word a b n w.state r → r ≡ k → not t ≡ true → some_of (eqb k) (touched-in n (cut (sizes cs ds) rows w) (range a b)) ≡ false
  touched-no {r} {t} e p q = sym (touched-is o a b n k h) ∙ ap (touched-word a b n w.state) (sym p) ∙ sym e ∙ not-true t q

  pub touched-yes : {r : ℕ} {t : Bool} → t ≡ touched-word a b n w.state r → r ≡ k → not t ≡ false → some_of (eqb k) (touched-in n (cut (sizes cs ds) rows w) (range a b)) ≡ true
  touched-yes {r} {t} e p q = sym (touched-is o a b n k h) ∙ ap (touched-word a b n w.state) (sym p) ∙ sym e ∙ not-false t q

  module _ (g : some_of (eqb k) (touched-in n (cut (sizes cs ds) rows w) (range a b)) ≡ true) where
    pub touched-row : k < rows
    touched-row = rw (rows-count o) at (at-found (touched-inside o a b n h) k g)

    pub touched-long : k * 54 + 54 ≤ length w.state
    touched-long = omega (arith, within k rows 54 touched-row, o.long.state)

    record_is : record-at w.state k ≡ (row_of (cut (sizes cs ds) rows w) k).state
    record_is = ap (λ (u : Words). u.state) (sym (row_is o k touched-row))

    pub touched-levels : get_or (record-at w.state k) 5 0 ≡ n
    touched-levels = ap (λ (s : List ℕ). get_or s 5 0) record_is ∙ (at-found (all-touched n (cut (sizes cs ds) rows w) (all-range a b)) k g).1

    pub touched-most : get_or (record-at w.state k) 5 0 ≤ n
    touched-most = omega (arith, touched-levels)

    pub touched-renders : get_or (record-at w.state k) 0 0 ≡ word 0 (row_of (cut (sizes cs ds) rows w) k)
    touched-renders = ap (λ (s : List ℕ). get_or s 0 0) record_is

    pub touched-depths : good-pops cs ds n (cut (sizes cs ds) rows w) (range a b) ≡ true → get_or (record-at w.state k) 1 0 ≤ ds
    touched-depths h = rw record_is (at-found (pops-shallow cs ds n (cut (sizes cs ds) rows w) (range a b) h) k g).0

-- what closing by a cut segment asks
pub clip-here : {cs ds rows : ℕ} {w : Words} (o : Arenas cs ds rows w) (a b n v m i : ℕ) (e : Scene) (g : Segment) (k : Cut) → b ≤ rows → good-segment g ≡ true → Starts (origin e) (bounds e)
    → k ∷ [] ≡ cut_in (origin e) (bounds e) g → some_of (eqb k.row) (touched-in n (cut (sizes cs ds) rows w) (range a b)) ≡ true
    → Roomy v m (close-puts i (touched-in n (cut (sizes cs ds) rows w) (range a b)) (cut_in (origin e) (bounds e) g)) (cut (sizes cs ds) rows w)
    → Arenas cs ds rows w × (k.row < rows) × Short k.stretch.tiles × Fillable k.stretch.tiles k.stretch.alpha i (row_of (cut (sizes cs ds) rows w) k.row)
clip-here {cs} {ds} {rows} {w} o a b n v m i e g k h t s p q r = (
  o,
  touched-row o a b n h k.row q,
  placed-short e g k t s p,
  one-fillable v m i (touched-in n (cut (sizes cs ds) rows w) (range a b)) (cut (sizes cs ds) rows w) (cut_in (origin e) (bounds e) g) k p q (at-found (touched-inside o a b n h) k.row q) r,
)
