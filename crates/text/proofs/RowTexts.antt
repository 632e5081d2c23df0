-- What the public calls leave. Assumes nothing.
use Rattle.std.proofs.Common.{◌≡◌, sym, ap, subst, ◌∙◌, Bool, true, false, List, [], ℕ, ◌*◌, ◌≤◌, ◌<◌, length, lt-ltb, le-ltb, eq-eqb, ne_eqb}
use Rattle.sizes.specs.Sizes.{piece-size}
use Rattle.screen.specs.declared.Screen.{Screen}
use Rattle.screen.specs.Depths.{Depths}
use Rattle.text.specs.declared.Out.{Out}
use Rattle.text.specs.Texts.{Writes}
use Rattle.text.proofs.Laws.{then}
use Rattle.paint.specs.Painting as painting
use Rattle.paint.specs.Painting.{RowLent, words_lent, out}
use Rattle.paint.specs.Answers.{Painted}
use Rattle.paint.specs.Stepping.{Attributes, stepped}
use Rattle.paint.specs.Running.{row-painted}
use Rattle.text.specs.Listed.{Listing, TextOut, listing, written, text-out}
use Rattle.text.specs.Bytes.{details-text}
use Rattle.text.specs.Tables.{paint-lines, layer-lines, filter-lines}
use Rattle.text.proofs.DetailsLines.{filters-alike}
use Rattle.text.specs.Pieces.{row-lines}
use Rattle.text.specs.Dumped.{row_out, row-dumped, pieces-written, Stopped, stopped-out, stopped, AttrTables, good-tables, attrs-text, attrs-dumped}
use Rattle.text.proofs.Holds.{row-holds}

-- the number of a step that is tried
pub stopped-at : (s : Screen) (r : ℕ) (a : Attributes) (l : RowLent) (q : Painted) {d : Depths} {p ws : List ℕ}
    → out q d p ws ≡ stepped s r a l → stopped-out (listing q.number 0) d p ≡ stopped s r a l
unfolding stopped
stopped-at s r a l q e = ap (λ (o : painting.StepOut). stopped-out (listing o.answer.number 0) o.depth o.painting) e

-- a row
module _ (v : Bool) (s : Screen) (r : ℕ) (a : Attributes) (l : RowLent) (q : Painted) {d : Depths} {p ws : List ℕ}
    (e : out q d p ws ≡ row-painted s r a l) (bs : List ℕ) where
  pub row-refused : (q.number ≡ 0 → ⊥) → row_out (listing q.number 0) d p ws bs ≡ row-dumped v s r a l bs
  unfolding row-dumped
  row-refused h = rw (← e, ne_eqb q.number 0 h)

  pub row-few : piece-size * q.pieces ≤ length ws
  row-few = subst (λ (o : painting.StepOut). piece-size * o.answer.pieces ≤ length o.list) (sym e) (row-holds s r a l)

  module _ (h : q.number ≡ 0) where
    pub row-ended : {z : Listing} {f : Depths} {g : List ℕ} → q.finished ≡ false → stopped-out z f g ≡ stopped s r a (words_lent l.state l.render l.fills d p [])
        → row_out z f g ws bs ≡ row-dumped v s r a l bs
    unfolding row-dumped
    row-ended k j = ap (λ (o : Stopped). row_out o.answer o.depth o.painting ws bs) j ∙ rw (← e, eq-eqb q.number 0 h, k)

    pub row_done : {z : Listing} {cs : List ℕ} → q.finished ≡ true → text-out z cs ≡ pieces-written v r ws q.pieces bs → row_out z d p ws cs ≡ row-dumped v s r a l bs
    unfolding row-dumped
    row_done k j = ap (λ (o : TextOut). row_out o.answer d p ws o.bytes) j ∙ rw (← e, eq-eqb q.number 0 h, k)

-- its lines
module _ (v : Bool) (r : ℕ) (ws : List ℕ) (n : ℕ) (bs : List ℕ) where
  pub many-pieces : 65536 < n → text-out (listing 14 0) bs ≡ pieces-written v r ws n bs
  unfolding pieces-written
  many-pieces h = rw (lt-ltb 65536 n h)

  pub lines-done : n ≤ 65536 → written (details-text v (row-lines r ws n)) bs ≡ pieces-written v r ws n bs
  unfolding pieces-written
  lines-done h = rw (le-ltb 65536 n h)

module _ (v : Bool) (s : Screen) (t : AttrTables) (bs : List ℕ) where
  pub attrs-bad : good-tables s t ≡ false → text-out (listing 4 0) bs ≡ attrs-dumped v s t bs
  unfolding attrs-dumped
  attrs-bad e = rw e

  pub attrs-done : good-tables s t ≡ true → written (attrs-text v s t) bs ≡ attrs-dumped v s t bs
  unfolding attrs-dumped
  attrs-done e = rw e

-- the three tables' lines, one after the other
pub attrs-written : (v : Bool) (s : Screen) (t : AttrTables) {x y z u : Out} → Writes (details-text v (paint-lines t.paints s.paint_attrs)) x y
    → Writes (details-text v (layer-lines t.layers t.opacities s.layer_attrs)) y z → Writes (details-text false (filter-lines t.filters s.filter_paints)) z u
    → Writes (attrs-text v s t) x u
unfolding attrs-text
attrs-written v s t f g h = then f (then g (rw (← filters-alike v t.filters s.filter_paints) at h))
