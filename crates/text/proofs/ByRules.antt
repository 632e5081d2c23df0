-- Where a screen's words stand for the rules' rows, their lines are the rules' lines. Assumes nothing.
use Rattle.std.proofs.Common.{◌≡◌, refl, ap, ◌∙◌, List, [], ◌∷◌, ◌++◌, map, append_assoc, append-nil, Option, Some, ℕ, zero, suc, ◌+◌, ◌-◌, ◌≤◌, ◌<◌, zero-add, arith, length, get_or, take, take-suc, length-take-le}
use lib.Seq.{take-length}
use Rattle.sizes.specs.Widths.{bucket-tiles}
use Rattle.rules.specs.Spans.{span}
use Rattle.rules.specs.Boxes.{rows_of, buckets-of}
use Rattle.rules.specs.Commands.{pop-buf, DepthFill}
use Rattle.rules.specs.Rows.{Row, fresh-row}
use Rattle.rules.specs.Lines as rules
use Rattle.rules.specs.Lines.{Line, header, row, depth-line, command-line}
use Rattle.rect.specs.Rects.{box_of}
use Rattle.row.specs.Words.{Words, word}
use Rattle.row.specs.Arena.{Sizes, sizes, row_at}
use Rattle.screen.specs.declared.Screen.{Screen}
use Rattle.text.specs.Places.{joined}
use Rattle.text.specs.Listed.{depth-fill-at, command-at, shown, row-lines, rows-lines, screen-lines}

abbrev pub no-fill : DepthFill
no-fill = record { buckets = span 0 0; attribute = 0 }

-- a row's words, of n buckets, stand for a row of the rules
pub record Stands (n : ℕ) (r : Row) (w : Words) : Type 0 where
  pub renders : word 0 w ≡ length r.commands
  pub depths : word 1 w ≡ length r.fills
  pub commands-at : (k : ℕ) → k < length r.commands → command-at w.render k ≡ Some (get_or r.commands k pop-buf)
  pub fills-at : (k : ℕ) → k < length r.fills → depth-fill-at n w.fills k ≡ Some (get_or r.fills k no-fill)

map-two : {A : Type 0} (f : A → Line) (xs ys : List A) → map f (xs ++ ys) ≡ map f xs ++ map f ys
map-two f [] ys = refl
map-two f (x ∷ xs) ys = ap (λ (l : List Line). f x ∷ l) (map-two f xs ys)

module _ {A : Type 0} (f : A → Line) (d : A) (xs : List A) (g : ℕ → Option A) (h : (k : ℕ) → k < length xs → g k ≡ Some (get_or xs k d)) where
  first-lines : (k : ℕ) → k ≤ length xs → joined (λ (i : ℕ). shown f (g i)) k ≡ map f (take k xs)
  unfolding joined
  first-lines zero p = refl
  first-lines (suc k) p =
      let q : k < length xs = omega arith in
      rw (first-lines k (omega arith), h k q, take-suc xs k d q, map-two f (take k xs) (get_or xs k d ∷ []))

  all_lines : joined (λ (i : ℕ). shown f (g i)) (length xs) ≡ map f xs
  all_lines = first-lines (length xs) (omega arith) ∙ rw (take-length xs)

-- a row's own lines
abbrev own : ℕ → Row → List Line
own i r = row i (length r.fills) (length r.commands) ∷ (map depth-line r.fills ++ map command-line r.commands)

pub row-by-rules : {n : ℕ} {r : Row} {w : Words} (i : ℕ) → Stands n r w → row-lines n i w ≡ own i r
unfolding row-lines
row-by-rules {n} {r} {w} i s =
    rw (
      s.depths,
      s.renders,
      all_lines depth-line no-fill r.fills (depth-fill-at n w.fills) s.fills-at,
      all_lines command-line pop-buf r.commands (command-at w.render) s.commands-at,
    )

-- the rules' rows, the last apart
last_row : (i : ℕ) (rs : List Row) (r : Row) → rules.row-lines i (rs ++ (r ∷ [])) ≡ rules.row-lines i rs ++ own (i + length rs) r
last_row i [] r = let e : i + 0 ≡ i = omega arith in rw (e, append-nil (map command-line r.commands))
last_row i (q ∷ rs) r =
    let e : suc i + length rs ≡ i + suc (length rs) = omega arith in
    rw (last_row (suc i) rs r, e, append_assoc (map depth-line q.fills), append_assoc (map command-line q.commands))

module _ (k : Sizes) (n : ℕ) (w : Words) (rs : List Row) (h : (i : ℕ) → i < length rs → Stands n (get_or rs i fresh-row) (row_at k i w)) where
  first_rows : (m : ℕ) → m ≤ length rs → rows-lines k n w m ≡ rules.row-lines 0 (take m rs)
  unfolding joined
  first_rows zero p = refl
  first_rows (suc m) p =
      let q : m < length rs = omega arith in
      rw (
        first_rows m (omega arith),
        row-by-rules m (h m q),
        take-suc rs m fresh-row q,
        last_row 0 (take m rs) (get_or rs m fresh-row),
        length-take-le m rs (omega arith),
        zero-add m,
      )

  pub rows-by-rules : rows-lines k n w (length rs) ≡ rules.row-lines 0 rs
  rows-by-rules = first_rows (length rs) (omega arith) ∙ rw (take-length rs)

-- a whole screen
pub screen-by-rules : (s : Screen) (w : Words) (rs : List Row) → length rs ≡ rows_of (box_of s.viewport)
    → ((i : ℕ) → i < length rs → Stands (buckets-of (bucket-tiles s.width) (box_of s.viewport)) (get_or rs i fresh-row) (row_at (sizes s.c s.d) i w))
    → screen-lines s w ≡ header (length rs) (buckets-of (bucket-tiles s.width) (box_of s.viewport)) (s.next_draw_id - 1) ∷ rules.row-lines 0 rs
unfolding screen-lines
screen-by-rules s w rs e h = rw (← e, rows-by-rules (sizes s.c s.d) (buckets-of (bucket-tiles s.width) (box_of s.viewport)) w rs h)
