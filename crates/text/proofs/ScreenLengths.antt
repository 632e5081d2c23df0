-- How long a screen's text is at most. Assumes nothing.
use Rattle.std.proofs.Common.{List, ◌∷◌, ◌≡◌, Option, None, Some, ℕ, zero, suc, ◌+◌, ◌-◌, ◌*◌, ◌≤◌, ◌<◌, arith, length, length-append}
use Rattle.std.proofs.Math.Nat.{mul_left_comm}
use Rattle.sizes.specs.Widths.{bucket-tiles}
use Rattle.rules.specs.Boxes.{rows_of, buckets-of}
use Rattle.rules.specs.Lines.{Line, header, depth-line, command-line, line-bytes}
use Rattle.rect.specs.Rects.{box_of}
use Rattle.row.specs.Words.{Words, word}
use Rattle.row.specs.Arena.{sizes, row_at}
use Rattle.screen.specs.declared.Screen.{Screen}
use Rattle.text.proofs.Lengths.{line-few, join-few}
use Rattle.text.specs.Places.{joined}
use Rattle.text.specs.Listed.{depth-fill-at, command-at, shown, depth-lines, command-lines, row-lines, rows-lines, screen-lines, text_of, screen-room, list-number, Few}
use Rattle.text.proofs.Judging.{listable}

pub lines-few : (ls : List Line) → length (text_of ls) ≤ length ls * 64
unfolding text_of
lines-few ls = join-few line-bytes 64 line-few ls

-- what is shown at each place
pub joined-few : {A : Type 0} (f : ℕ → List A) (b n : ℕ) → ((i : ℕ) → i < n → length (f i) ≤ b) → (m : ℕ) → m ≤ n → length (joined f m) ≤ m * b
unfolding joined
joined-few f b n h zero l = omega arith
joined-few f b n h (suc m) l = rw (length-append (joined f m) (f m)) (omega (arith, h m (omega arith), joined-few f b n h m (omega arith)))

shown-few : {A : Type 0} (f : A → Line) (x : Option A) → length (shown f x) ≤ 1
shown-few f None = omega arith
shown-few f (Some x) = omega arith

row-few : (c d n r : ℕ) (w : Words) → Few c d w → length (row-lines n r w) ≤ 1 + (c + d)
unfolding row-lines
row-few c d n r w f =
    let x = joined-few (λ (i : ℕ). shown depth-line (depth-fill-at n w.fills i)) 1 (word 1 w) (λ i h. shown-few depth-line (depth-fill-at n w.fills i)) (word 1 w) (omega arith) in
    let y = joined-few (λ (i : ℕ). shown command-line (command-at w.render i)) 1 (word 0 w) (λ i h. shown-few command-line (command-at w.render i)) (word 0 w) (omega arith) in
    rw (length-append (depth-lines n w.fills (word 1 w)) (command-lines w.render (word 0 w))) (omega (arith, x, y, f.commands, f.depths))

module _ (s : Screen) (w : Words) (e : list-number s w ≡ 0) where
  pub screen-few : length (text_of (screen-lines s w)) ≤ screen-room s
  unfolding screen-lines
  screen-few =
      let o = listable s w e in
      let m = rows_of (box_of s.viewport) in
      let n = buckets-of (bucket-tiles s.width) (box_of s.viewport) in
      let x = joined-few (λ (r : ℕ). row-lines n r (row_at (sizes s.c s.d) r w)) (1 + (s.c + s.d)) m (λ r h. row-few s.c s.d n r (row_at (sizes s.c s.d) r w) (o.few r h)) m (omega arith) in
      let y = lines-few (header m n (s.next_draw_id - 1) ∷ rows-lines (sizes s.c s.d) n w m) in
      let k : 64 * (m * (1 + (s.c + s.d))) ≡ m * (64 * (1 + (s.c + s.d))) = mul_left_comm 64 m (1 + (s.c + s.d)) in
      omega (arith, x, y, k)
