-- Rows one after the other: what is judged once holds of each row, a row's call on what is left of a list, and one row more. Assumes nothing.
use Rattle.std.proofs.Common.{◌≡◌, refl, sym, ap, ◌∙◌, Bool, true, false, ◌&&◌, not, cond, List, [], ◌++◌, Option, None, Some, ℕ, zero, suc, ◌+◌, ◌-◌, ◌*◌, ◌/◌, ◌≤◌, ◌<◌, arith, length, take, drop, slice_set}
use Rattle.std.proofs.Common.{length-append, length-drop, length-take-le, take_all, leb, ltb, eqb, ltb-false, leb-true, leb-false, le-leb, le-ltb, eqb-true, eq-eqb, ne_eqb}
use borrow.Author.Tests.{eqb-false, lt-leb}
use borrow.Rule.Slice.PartMut.{put_mid}
use Rattle.sizes.specs.Sizes.{piece-size}
use Rattle.sizes.specs.Widths.{bucket-tiles}
use Rattle.rules.specs.Answers.{Done}
use Rattle.rules.specs.Painting as rules
use Rattle.rules.specs.Painting.{Piece}
use Rattle.cmd.specs.Pieces.{laid}
use Rattle.screen.specs.declared.Screen.{Screen}
use Rattle.screen.specs.Depths.{Depths}
use Rattle.paint.specs.Answers.{Painted}
use Rattle.paint.specs.Painting.{RowLent, words_lent, StepOut, out, listed, refused, left, settled, attrs-at, next-step, painted-row}
use Rattle.paint.specs.Stepping.{Attributes, number, own, row_step, stepped}
use Rattle.paint.specs.Running.{goes_on, ended, one_more, run, most, standing, call_step, row-run, row-run-on, row-painted}
use Rattle.paint.specs.Judging.{count, wide, judged, paints-on, step_number}
use Rattle.sizes.specs.declared.answers.Refusal.{Refusal}
use Rattle.sizes.specs.Refusals.{number_of}
use Rattle.sizes.proofs.Refusals.{not_done}
use Rattle.paint.specs.declared.rows.RowRange.{RowRange}
use Rattle.paint.specs.declared.canvas.stored.Stored.{Stored}
use Rattle.paint.specs.declared.canvas.stored.Canvas.{Canvas}
use Rattle.paint.specs.declared.whole.run.Went.{Went}
use Rattle.paint.specs.Named.{row_attrs, used_attrs, row_lent}
use Rattle.screen.specs.Depths.{depths_in}
use Rattle.std.proofs.Math.Seq.{take-append_seam, drop-append_seam}
use Rattle.paint.specs.InOrder.{asked, rows_number, RowsOut, rows_out, RestOf, row_calls, turn, turn_again, rows_in_order, number-of-rows, rows-in-order, rows-painted}
use Rattle.paint.proofs.Judged.{past-begun}
use Rattle.paint.proofs.Spreading.{length-pieces}
use Rattle.paint.proofs.WholeParts.{row_done}
use Rattle.paint.proofs.WholeRuns.{row-few, back-after, lent-after}

-- A step's list keeps its length, and its pieces have room in it.
laid_long : (ps : List Piece) (l : List ℕ) → ltb (length l / piece-size) (length ps) ≡ false → length (laid ps l) ≡ length l
laid_long ps l e =
    let h = ltb-false (length l / piece-size) (length ps) e in
    rw (length-append, length-drop, length-pieces ps) (omega (arith, h))

settled_long : (o : Option rules.Painted) (ms : List ℕ) (d : Depths) (p l : List ℕ) → length (settled o ms d p l).list ≡ length l
unfolding settled
settled_long None ms d p l = refl
settled_long (Some o) ms d p l = go (ltb (length l / piece-size) (length o.pieces)) refl
  where
    go : (b : Bool) → ltb (length l / piece-size) (length o.pieces) ≡ b → length (cond b (out (refused 14) d p l) (left o ms l)).list ≡ length l
    go true e = refl
    go false e = laid_long o.pieces l e

pub step-long : (s : Screen) (r : ℕ) (a : Attributes) (l : RowLent) → length (stepped s r a l).list ≡ length l.list
unfolding stepped row_step painted-row
step-long s r a l = go (eqb (number s r a l) Done)
  where
    go : (b : Bool) → length (cond b (row_step s r a l) (out (refused (number s r a l)) l.depth l.painting l.list)).list ≡ length l.list
    go true = settled_long (next-step (bucket-tiles s.width) (attrs-at a.paints s.paint_attrs a.layers s.layer_attrs) (own s r l)) _ _ _ l.list
    go false = refl

step-few : (s : Screen) (r : ℕ) (a : Attributes) (l : RowLent) → piece-size * (stepped s r a l).answer.pieces ≤ length l.list
unfolding stepped row_step
step-few s r a l = go (eqb (number s r a l) Done)
  where
    go : (b : Bool) → piece-size * (cond b (row_step s r a l) (out (refused (number s r a l)) l.depth l.painting l.list)).answer.pieces ≤ length l.list
    go true = row-few (bucket-tiles s.width) (attrs-at a.paints s.paint_attrs a.layers s.layer_attrs) (own s r l)
    go false = omega arith

-- pieces have room in their list, of so many words
abbrev pub Roomy : ℕ → StepOut → Type 0
Roomy n o = (length o.list ≡ n) × (piece-size * o.answer.pieces ≤ n)

module _ (step : Depths → List ℕ → List ℕ → StepOut) (long : (d : Depths) (p l : List ℕ) → length (step d p l).list ≡ length l)
    (few : (d : Depths) (p l : List ℕ) → piece-size * (step d p l).answer.pieces ≤ length l) (n : ℕ) where
  pub more-room : (g : StepOut) → Roomy n g → Roomy n (one_more step g)
  unfolding one_more
  more-room g h =
      let rest = drop (piece-size * g.answer.pieces) g.list in
      let a = long g.depth g.painting rest in
      let b = few g.depth g.painting rest in
      let c = length-drop (piece-size * g.answer.pieces) g.list in
      let t = length-take-le (piece-size * g.answer.pieces) g.list (rw h.0 h.1) in
      (rw (length-append, a, t) (omega (arith, c, h.0, h.1)), omega (arith, b, c, h.0, h.1))

  run-room : (f k : ℕ) (g : StepOut) → Roomy n g → Roomy n (run step f k g)
  unfolding run
  run-room zero k g h = h
  run-room (suc f) k g h = go (goes_on (one_more step g).answer) (run-room f (k + 1) (one_more step g) (more-room g h)) (more-room g h)
    where
      go : (b : Bool) → Roomy n (run step f (k + 1) (one_more step g)) → Roomy n (one_more step g)
          → Roomy n (cond b (run step f (k + 1) (one_more step g)) (ended k (one_more step g)))
      go true i j = i
      go false i j = j

-- a row's call does so too
pub row-room : (s : Screen) (r : ℕ) (a : Attributes) (l : RowLent) → Roomy (length l.list) (row-painted s r a l)
unfolding row-painted
row-room s r a l =
    run-room (call_step s r a l.state l.render l.fills) (λ d p t. step-long s r a (words_lent l.state l.render l.fills d p t))
    (λ d p t. step-few s r a (words_lent l.state l.render l.fills d p t)) (length l.list) most 0 (standing l.depth l.painting l.list) (refl, omega arith)

-- a call on what is left of a list, as code lends it and puts it back
module _ (step : Depths → List ℕ → List ℕ → StepOut) (d : Depths) (p xs : List ℕ) (n : ℕ) (h : piece-size * n ≤ length xs) (q : Painted) (e : Depths) (g ys : List ℕ)
    (f : out q e g ys ≡ step d p (take (length xs - piece-size * n) (drop (piece-size * n) xs))) where
  left-call : out q e g ys ≡ step d p (drop (piece-size * n) xs)
  left-call = f ∙ rw (lent-after xs (piece-size * n) h)

  pub call-more : out (record { number = q.number; finished = q.finished; pieces = n + q.pieces }) e g (put_mid (piece-size * n) (length xs - piece-size * n) xs ys)
      ≡ one_more step (out (listed n) d p xs)
  unfolding one_more
  call-more =
      rw (back-after xs (piece-size * n) h ys)
      (ap (λ (o : StepOut). out (record { number = o.answer.number; finished = o.answer.finished; pieces = n + o.answer.pieces }) o.depth o.painting (take (piece-size * n) xs ++ o.list)) left-call)

-- .. of row r, of what is lent and is judged 0 with any list
module _ (s : Screen) (r : ℕ) (a : Attributes) (rs re fi : List ℕ) (d : Depths) (p xs : List ℕ) (z : number s r a (words_lent rs re fi d p []) ≡ 0) (n : ℕ) (h : piece-size * n ≤ length xs)
    (q : Painted) (e : Depths) (g ys : List ℕ)
    (f : out q e g ys ≡ row-run (bucket-tiles s.width) most (attrs-at a.paints s.paint_attrs a.layers s.layer_attrs) (wide s) s.c s.d r
    (words_lent rs re fi d p (take (length xs - piece-size * n) (drop (piece-size * n) xs)))) where
  abbrev rest : List ℕ
  rest = take (length xs - piece-size * n) (drop (piece-size * n) xs)

  row-call : out q e g ys ≡ row-painted s r a (words_lent rs re fi d p rest)
  row-call = row_done s r a (words_lent rs re fi d p rest) (out q e g ys) (sym z) f

  pub row-more : out (record { number = q.number; finished = q.finished; pieces = n + q.pieces }) e g (put_mid (piece-size * n) (length xs - piece-size * n) xs ys)
      ≡ one_more (λ (d' : Depths) (p' l' : List ℕ). row-painted s r a (words_lent rs re fi d' p' l')) (out (listed n) d p xs)
  row-more = call-more (λ (d' : Depths) (p' l' : List ℕ). row-painted s r a (words_lent rs re fi d' p' l')) d p xs n h q e g ys row-call

  pub row-fits : piece-size * (n + q.pieces) ≤ length xs
  row-fits =
      let i : q.pieces ≡ (row-painted s r a (words_lent rs re fi d p rest)).answer.pieces = ap (λ (o : StepOut). o.answer.pieces) row-call in
      let j : piece-size * q.pieces ≤ length rest = rw i (row-room s r a (words_lent rs re fi d p rest)).1 in
      omega (arith, h, j, length-take-le (length xs - piece-size * n) (drop (piece-size * n) xs) (rw length-drop (omega arith)))

-- A row's call is its turn, or the next call says why it stopped.
module _ (row : ℕ → Depths → List ℕ → List ℕ → StepOut) (r : ℕ) (g : StepOut) (q : Painted) (d : Depths) (p l : List ℕ) (x : out q d p l ≡ one_more (row r) g) where
  abbrev told : StepOut → StepOut
  told o = cond (goes_on o.answer) (turn_again row r o) o

  pub turn-ends : goes_on q ≡ false → out q d p l ≡ turn row r g
  turn-ends h = let e : told (out q d p l) ≡ out q d p l = rw h refl in sym e ∙ ap told x

  pub turn-goes-on : goes_on q ≡ true → turn_again row r (out q d p l) ≡ turn row r g
  turn-goes-on h = let e : told (out q d p l) ≡ turn_again row r (out q d p l) = rw h refl in sym e ∙ ap told x

-- a list cut where two were joined
take-seam : (m : ℕ) (xs ys : List ℕ) → length xs ≡ m → take m (xs ++ ys) ≡ xs
take-seam m xs ys e = rw (← e) (take-append_seam xs ys)

drop-seam : (m : ℕ) (xs ys : List ℕ) → length xs ≡ m → drop m (xs ++ ys) ≡ ys
drop-seam m xs ys e = rw (← e) (drop-append_seam xs ys)

-- what code lends of a list from a place on, and what it gets back, are as long
module _ (m : ℕ) (xs us : List ℕ) (h : m ≤ length xs) (e : length us ≡ length (take (length xs - m) (drop m xs))) where
  pub rest-long : length us ≡ length xs - m
  rest-long = e ∙ length-take-le (length xs - m) (drop m xs) (rw length-drop (omega arith))

  pub back-long : length (put_mid m (length xs - m) xs us) ≡ length xs
  back-long = rw (back-after xs m h us, length-append) (omega (arith, rest-long, length-take-le m xs h))

-- The rest of a row's call comes to the whole call, which stands after the pieces so far.
module _ (s : Screen) (r : ℕ) (t : Stored) (c : Canvas) (xs : List ℕ) (n : ℕ) (w : Went) (g : StepOut) (so : RestOf s r t c xs n w g) (h : piece-size * n ≤ length xs)
    (q : Painted) (d : Depths) (p ys : List ℕ)
    (f : out q d p ys ≡ row-run-on (bucket-tiles s.width) (most - w.steps) w.steps w.pieces (used_attrs s t) (wide s) s.c s.d r
    (row_lent t c (take (length xs - piece-size * n) (drop (piece-size * n) xs)))) where
  pub rest-more : out (record { number = q.number; finished = q.finished; pieces = n + q.pieces }) d p (put_mid (piece-size * n) (length xs - piece-size * n) xs ys) ≡ one_more (row_calls s t r) g
  rest-more = rw (back-after xs (piece-size * n) h ys) (so q d p ys f)

  pub rest-fits : length g.list ≡ length xs → piece-size * g.answer.pieces ≤ length xs → piece-size * (n + q.pieces) ≤ length xs
  rest-fits a b =
      let i : n + q.pieces ≡ (one_more (row_calls s t r) g).answer.pieces = ap (λ (o : StepOut). o.answer.pieces) rest-more in
      let m : Roomy (length xs) (one_more (row_calls s t r) g) =
      more-room (row_calls s t r) (λ d' p' l'. (row-room s r (row_attrs t) (words_lent t.rows.now t.render_cmds.now t.depth_cmds.now d' p' l')).0)
      (λ d' p' l'. (row-room s r (row_attrs t) (words_lent t.rows.now t.render_cmds.now t.depth_cmds.now d' p' l')).1) (length xs) g (a, b) in
      rw i m.1

-- The steps that were sure leave such a rest: the list has their pieces, and its words before them stay.
module _ (s : Screen) (r : ℕ) (t : Stored) (c0 c1 : Canvas) (xs us : List ℕ) (n : ℕ) (w : Went) (z : number s r (row_attrs t) (row_lent t c0 []) ≡ 0) (h : piece-size * n ≤ length xs)
    (k : length us ≡ length xs - piece-size * n)
    (e : row-run-on (bucket-tiles s.width) (most - w.steps) w.steps w.pieces (used_attrs s t) (wide s) s.c s.d r (row_lent t c1 us)
    ≡ row-run (bucket-tiles s.width) most (used_attrs s t) (wide s) s.c s.d r (row_lent t c0 (take (length xs - piece-size * n) (drop (piece-size * n) xs)))) where
  before : length (take (piece-size * n) xs) ≡ piece-size * n
  before = length-take-le (piece-size * n) xs h

  mid : put_mid (piece-size * n) (length xs - piece-size * n) xs us ≡ take (piece-size * n) xs ++ us
  mid = back-after xs (piece-size * n) h us

  all : length (take (piece-size * n) xs ++ us) - piece-size * n ≡ length us
  all = rw (length-append, before) (omega arith)

  here : take (length (take (piece-size * n) xs ++ us) - piece-size * n) (drop (piece-size * n) (take (piece-size * n) xs ++ us)) ≡ us
  here = rw (all, drop-seam (piece-size * n) (take (piece-size * n) xs) us before) (take_all (length us) us (omega arith))

  joined : RestOf s r t c1 (take (piece-size * n) xs ++ us) n w (out (listed n) (depths_in c0.depth) c0.painting.now xs)
  joined q d p ys f =
      let own : out q d p ys ≡ row-run-on (bucket-tiles s.width) (most - w.steps) w.steps w.pieces (used_attrs s t) (wide s) s.c s.d r (row_lent t c1 us) = rw here at f in
      rw (take-seam (piece-size * n) (take (piece-size * n) xs) us before)
      (rw (back-after xs (piece-size * n) h ys) at
      (row-more s r (row_attrs t) t.rows.now t.render_cmds.now t.depth_cmds.now (depths_in c0.depth) c0.painting.now xs z n h q d p ys (own ∙ e)))

  pub turn-left : RestOf s r t c1 (put_mid (piece-size * n) (length xs - piece-size * n) xs us) n w (out (listed n) (depths_in c0.depth) c0.painting.now xs)
  turn-left = rw mid joined

-- What it says that rows are judged 0.
pub record Ranged (s : Screen) (r : RowRange) (a t : Bool) (ends : ℕ) : Type 0 where
  pub judged-so : judged s a t ≡ 0
  pub order : r.first ≤ r.end
  pub within : r.end ≤ count s
  pub on : paints-on s ≡ true
  pub room : asked r ≤ ends

module _ (s : Screen) (r : RowRange) (a t : Bool) (ends : ℕ) where
  pub ranged : rows_number s r a t ends ≡ 0 → Ranged s r a t ends
  unfolding rows_number
  ranged h = go (eqb (judged s a t) 0) (leb r.first r.end) (leb r.end (count s)) (paints-on s) (ltb ends (asked r)) refl refl refl refl refl h
    where
      go : (x y z u v : Bool) → eqb (judged s a t) 0 ≡ x → leb r.first r.end ≡ y → leb r.end (count s) ≡ z → paints-on s ≡ u → ltb ends (asked r) ≡ v
          → cond x (cond (not (y && z)) 12 (cond (not u) 13 (cond v 14 0))) (judged s a t) ≡ 0 → Ranged s r a t ends
      go true true true true false x y z u v h =
          record { judged-so = eqb-true _ _ x; order = leb-true _ _ y; within = leb-true _ _ z; on = u; room = ltb-false _ _ v }
      go true true true true true x y z u v h = absurd (omega arith)
      go true true true false w x y z u v h = absurd (omega arith)
      go true true false b w x y z u v h = absurd (omega arith)
      go true false c b w x y z u v h = absurd (omega arith)
      go false d c b w x y z u v h = absurd (eqb-false _ _ x h)

  pub each_row : Ranged s r a t ends → (q : ℕ) → q < r.end → step_number s q a t ≡ 0
  unfolding step_number
  each_row h q l =
      let g : leb (count s) q ≡ false = lt-leb (count s) q (omega (arith, l, h.within)) in
      rw (h.judged-so, g, h.on) refl

-- One row more. So far i - first rows are done, and what is left gives what all of them do.
module _ (row : ℕ → Depths → List ℕ → List ℕ → StepOut) where
  -- what rows give depends on how many pieces are listed, and not on how the last row ended
  pub from-listed : (f r k : ℕ) (e : List ℕ) (q : Painted) (d : Depths) (p l : List ℕ) → rows_in_order row f r k e (out q d p l) ≡ rows_in_order row f r k e (out (listed q.pieces) d p l)
  unfolding rows_in_order one_more
  from-listed zero r k e q d p l = refl
  from-listed (suc f) r k e q d p l = refl

  module _ (first i last : ℕ) (e : List ℕ) (g : StepOut) (all : RowsOut) (so : rows_in_order row (last - i) i (i - first) e g ≡ all) where
    pub all_done : last ≤ i → i ≤ last → rows_out 0 (last - first) e g ≡ all
    unfolding rows_in_order
    all_done h k =
        let z : last - i ≡ 0 = omega arith in
        let n : i - first ≡ last - first = omega arith in
        rw (← n) (rw z at so)

    module _ (h : i < last) (q : Painted) (d : Depths) (p l : List ℕ) (x : out q d p l ≡ turn row i g) where
      abbrev next : RowsOut
      next = rows_in_order row (last - (i + 1)) (i + 1) (i - first + 1) (slice_set e (i - first) q.pieces) (out q d p l)

      one : cond (eqb q.number 0) next (rows_out q.number (i - first) e (out q d p l)) ≡ all
      unfolding rows_in_order
      one =
          let z : last - i ≡ suc (last - (i + 1)) = omega arith in
          let after : StepOut → RowsOut =
          λ o. cond (eqb o.answer.number 0) (rows_in_order row (last - (i + 1)) (i + 1) (i - first + 1) (slice_set e (i - first) o.answer.pieces) o)
          (rows_out o.answer.number (i - first) e o)
          in
          ap after x ∙ (rw z at so)

      -- row i stops, ..
      pub stopped : (q.number ≡ 0 → ⊥) → rows_out q.number (i - first) e (out q d p l) ≡ all
      stopped n = (rw (ne_eqb q.number 0 n) at one)

      -- .. or is done
      pub turned_on : first ≤ i → q.number ≡ 0
          → rows_in_order row (last - (i + 1)) (i + 1) (i + 1 - first) (slice_set e (i - first) q.pieces) (out (listed q.pieces) d p l) ≡ all
      turned_on r n =
          let k : i + 1 - first ≡ i - first + 1 = omega arith in
          rw k (sym (from-listed (last - (i + 1)) (i + 1) (i - first + 1) (slice_set e (i - first) q.pieces) q d p l)) ∙ (rw (eq-eqb q.number 0 n) at one)

-- the call, refused or done
module _ (s : Screen) (r : RowRange) (a : Attributes) (l : RowLent) (e : List ℕ) where
  pub rows_refused : (k : Refusal) → number_of k ≡ number-of-rows s r a l (length e) → rows_out (number_of k) 0 e (standing l.depth l.painting l.list) ≡ rows-painted s r a l e
  unfolding rows-painted
  rows_refused k h = rw (← h, ne_eqb (number_of k) 0 (not_done k)) refl

  pub rows_done : number-of-rows s r a l (length e) ≡ 0 → rows-in-order s r a l e ≡ rows-painted s r a l e
  unfolding rows-painted
  rows_done h = rw h refl

-- what is judged of the last row holds of the range
pub from_last : (s : Screen) (r : RowRange) (a t : Bool) (ends : ℕ) → r.first < r.end → asked r ≤ ends → step_number s (r.end - 1) a t ≡ 0 → rows_number s r a t ends ≡ 0
unfolding step_number rows_number
from_last s r a t ends f room = go (eqb (judged s a t) 0) (leb (count s) (r.end - 1)) (paints-on s) refl refl refl
  where
    go : (x y z : Bool) → eqb (judged s a t) 0 ≡ x → leb (count s) (r.end - 1) ≡ y → paints-on s ≡ z
        → cond (eqb (cond x (cond y 12 0) (judged s a t)) 0) (cond z 0 13) (cond x (cond y 12 0) (judged s a t)) ≡ 0
        → cond x (cond (not (leb r.first r.end && leb r.end (count s))) 12 (cond (not z) 13 (cond (ltb ends (asked r)) 14 0))) (judged s a t) ≡ 0
    go true false true x y z h =
        let u : leb r.first r.end ≡ true = le-leb r.first r.end (omega (arith, f)) in
        let v : leb r.end (count s) ≡ true = le-leb r.end (count s) (omega (arith, f, leb-false _ _ y)) in
        let w : ltb ends (asked r) ≡ false = le-ltb ends (asked r) room in
        rw (u, v, w) refl
    go true false false x y z h = absurd (omega arith)
    go true true c x y z h = absurd (omega arith)
    go false y z x u v h = absurd (eqb-false (judged s a t) 0 x (past-begun (judged s a t) z h))
