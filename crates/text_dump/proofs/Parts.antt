-- The parts of a recording's text, each put where the last one ended. Assumes nothing.
use Rattle.std.proofs.Common.{◌≡◌, refl, ap, ◌∙◌, Bool, true, false, cond, List, ◌++◌, append-nil, ℕ, suc, ◌+◌, ◌-◌, ◌≤◌, ◌<◌, add-one, arith, ltb, eqb, length, take, drop, length-drop, take_all, ltb-false}
use lib.Seq.{drop-length}
use borrow.Rule.Slice.PartMut.{put_mid}
use Rattle.rules.specs.Answers.{answer, Done}
use Rattle.screen.specs.declared.Screen.{Screen}
use Rattle.screen.specs.Depths.{Depths}
use Rattle.paint.specs.Painting.{RowLent, words_lent, StepOut}
use Rattle.paint.specs.Beginning.{canvas, beginning}
use Rattle.paint.specs.Stepping.{Attributes, attributes}
use Rattle.paint.specs.Running.{row-painted}
use Rattle.text.specs.Listed as list
use Rattle.text.specs.Listed.{Listing, listing, written, begun-with}
use Rattle.text.specs.Bytes.{details-text}
use Rattle.text.specs.Pieces.{row-lines}
use Rattle.text.specs.Dumped.{AttrTables, row_out, pieces-written, stopped, row-stopped, with-text, row-dumped, good-tables, attrs-text, attrs-dumped}
use Rattle.text_dump.specs.Dumped.{part, PartWritten, after, rows-dumped, begun-dumped, details-dumped}

-- a text is no longer than the bytes that it was put into
written-few : (ts bs : List ℕ) → (written ts bs).answer.bytes ≤ length bs
unfolding written
written-few ts bs = go (ltb (length bs) (length ts)) refl
  where
    go : (b : Bool) → ltb (length bs) (length ts) ≡ b → (cond b (list.text-out (listing 14 0) bs) (begun-with ts bs)).answer.bytes ≤ length bs
    go true e = omega arith
    go false e = omega (arith, ltb-false (length bs) (length ts) e)

pieces-few : (v : Bool) (r : ℕ) (ws : List ℕ) (n : ℕ) (bs : List ℕ) → (pieces-written v r ws n bs).answer.bytes ≤ length bs
unfolding pieces-written
pieces-few v r ws n bs = go (ltb 65536 n)
  where
    go : (b : Bool) → (cond b (list.text-out (listing 14 0) bs) (written (details-text v (row-lines r ws n)) bs)).answer.bytes ≤ length bs
    go true = omega arith
    go false = written-few (details-text v (row-lines r ws n)) bs

pub row-few : (v : Bool) (s : Screen) (r : ℕ) (a : Attributes) (l : RowLent) (bs : List ℕ) → (row-dumped v s r a l bs).answer.bytes ≤ length bs
unfolding row-dumped stopped
row-few v s r a l bs = let e = row-painted s r a l in go e (eqb e.answer.number Done) e.answer.finished
  where
    go : (e : StepOut) (x y : Bool)
        → (cond x (cond y (with-text e (pieces-written v r e.list e.answer.pieces bs)) (row-stopped s r a l e bs)) (with-text e (list.text-out (listing e.answer.number 0) bs))).answer.bytes ≤ length bs
    go e true true = pieces-few v r e.list e.answer.pieces bs
    go e true false = omega arith
    go e false y = omega arith

pub attrs-few : (v : Bool) (s : Screen) (t : AttrTables) (bs : List ℕ) → (attrs-dumped v s t bs).answer.bytes ≤ length bs
unfolding attrs-dumped
attrs-few v s t bs = go (good-tables s t)
  where
    go : (b : Bool) → (cond b (written (attrs-text v s t) bs) (list.text-out (listing 4 0) bs)).answer.bytes ≤ length bs
    go true = written-few (attrs-text v s t) bs
    go false = omega arith

-- what is lent from place k on, and what comes back
pub mid-all : (k : ℕ) (cs : List ℕ) → take (length cs - k) (drop k cs) ≡ drop k cs
mid-all k cs = take_all (length cs - k) (drop k cs) (omega (arith, length-drop k cs))

pub put_all : (k : ℕ) (cs ds : List ℕ) → put_mid k (length cs - k) cs ds ≡ take k cs ++ ds
put_all k cs ds = rw (← length-drop k cs, drop-length (drop k cs), append-nil ds)

-- the rows from r to n: none are left, or one and then the others
module _ (v : Bool) (s : Screen) (n r : ℕ) (a : Attributes) (l : RowLent) (bs : List ℕ) where
  pub rows_none : n ≤ r → part 0 l.depth l.painting l.list bs ≡ rows-dumped v (n - r) r s a l bs
  unfolding rows-dumped
  rows_none h = let e : n - r ≡ 0 = omega arith in rw e

  module _ {q : Listing} {d : Depths} {p ls cs : List ℕ} (e : row_out q d p ls cs ≡ row-dumped v s r a l bs) where
    pub rows_more : r < n → {k m : ℕ} {d' : Depths} {p' ls' ds : List ℕ}
        → part k d' p' ls' ds ≡ rows-dumped v (n - (r + 1)) (r + 1) s a (words_lent l.state l.render l.fills d p ls) (take (m - q.bytes) (drop q.bytes cs)) → m ≡ length cs
        → part (q.bytes + k) d' p' ls' (put_mid q.bytes (m - q.bytes) cs ds) ≡ rows-dumped v (n - r) r s a l bs
    unfolding rows-dumped
    rows_more h {k} {m} {d'} {p'} {ls'} {ds} g z =
        let j : n - r ≡ suc (n - suc r) = omega arith in
        let i : part k d' p' ls' ds ≡ rows-dumped v (n - suc r) (suc r) s a (words_lent l.state l.render l.fills d p ls) (drop q.bytes cs) = rw (add-one r, z, mid-all q.bytes cs) at g in
        rw (z, put_all q.bytes cs ds) (ap (after q.bytes cs) i ∙ rw (j, ← e))

-- the rows once painting has begun
pub begun-more : (v : Bool) (s : Screen) (a : Attributes) (l : RowLent) (bs : List ℕ) {n m k : ℕ} {x : Screen} {d : Depths} {p : List ℕ} → n ≡ m → answer k (canvas x d p) ≡ beginning (canvas s l.depth l.painting)
    → {j : ℕ} {d' : Depths} {p' ls' ds : List ℕ} → part j d' p' ls' ds ≡ rows-dumped v (n - 0) 0 x a (words_lent l.state l.render l.fills d p l.list) bs → part j d' p' ls' ds ≡ begun-dumped v s m a l bs
begun-more v s a l bs {n} {m} h b g = let e : n - 0 ≡ m = omega (arith, h) in rw (← b) (rw e at g)

-- the attributes, then the rows
module _ (v : Bool) (s : Screen) (t : AttrTables) (l : RowLent) (bs : List ℕ) {q : Listing} {cs : List ℕ} (e : list.text-out q cs ≡ attrs-dumped v s t bs) where
  pub screen-more : (n : ℕ) {j m : ℕ} {ds : List ℕ} → PartWritten j ds (begun-dumped v s n (attributes t.paints t.layers) l (take (m - q.bytes) (drop q.bytes cs))) → m ≡ length cs
      → PartWritten (q.bytes + j) (put_mid q.bytes (m - q.bytes) cs ds) (details-dumped v s n t l bs)
  unfolding details-dumped
  screen-more n {j} {m} {ds} g z =
      let i : PartWritten j ds (begun-dumped v s n (attributes t.paints t.layers) l (drop q.bytes cs)) = rw (z, mid-all q.bytes cs) at g in
      rw (z, put_all q.bytes cs ds, ← e)
      (record { count = ap (λ (k : ℕ). q.bytes + k) i.count; bytes = ap (λ (bs : List ℕ). take q.bytes cs ++ bs) i.bytes })
