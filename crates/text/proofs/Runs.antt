-- Runs of places, one by one. Assumes nothing.
use Rattle.std.proofs.Common.{◌≡◌, refl, sym, ap, ◌∙◌, Bool, true, false, ◌&&◌, List, [], ◌∷◌, ◌++◌, ℕ, zero, suc, ◌+◌, ◌-◌, ◌≤◌, ◌<◌, arith}
use Rattle.std.specs.List.{list_all, range_with_len}
use Rattle.std.proofs.lemmas.List.Folds.{list_all-append}
use Rattle.rules.specs.Lines.{Line, header, row, line-bytes}
use Rattle.row.specs.Words.{Words, word}
use Rattle.row.specs.Arena.{sizes}
use Rattle.sizes.specs.Widths.{bucket-tiles}
use Rattle.rules.specs.Boxes.{rows_of, buckets-of}
use Rattle.rect.specs.Rects.{box_of}
use Rattle.screen.specs.declared.Screen.{Screen}
use Rattle.rules.proofs.All.{both}
use Rattle.text.specs.declared.Out.{Out}
use Rattle.text.specs.Texts.{Writes}
use Rattle.text.proofs.Laws.{then, nothing}
use Rattle.text.proofs.Joins.{one_of, both_of, places-none, places-more}
use Rattle.text.specs.Places.{all-below, joined}
use Rattle.text.specs.Listed.{depth-lines, command-lines, row-lines, rows-lines, screen-lines, text_of}

and-turned : (a b : Bool) → (a && (b && true)) ≡ (b && a)
and-turned true true = refl
and-turned true false = refl
and-turned false true = refl
and-turned false false = refl

last-place : (a n j : ℕ) → a + n ≡ j → range_with_len a (suc n) ≡ range_with_len a n ++ (j ∷ [])
last-place a zero j e = let q : a ≡ j = omega arith in ap (λ (k : ℕ). k ∷ []) q
last-place a (suc n) j e = ap (λ (ks : List ℕ). a ∷ ks) (last-place (a + 1) n j (omega arith))

-- a test at each place
module _ (p : ℕ → Bool) where
  pub all_below : (n : ℕ) → list_all p (range_with_len 0 n) ≡ all-below p n
  unfolding all-below
  all_below zero = refl
  all_below (suc n) =
      ap (list_all p) (last-place 0 n n (omega arith)) ∙ list_all-append p (range_with_len 0 n) (n ∷ []) ∙ rw (all_below n) (and-turned (all-below p n) (p n))

  pub below_at : (n : ℕ) → all-below p n ≡ true → (k : ℕ) → k < n → p k ≡ true
  unfolding all-below
  below_at n e k h = go n e (n - (k + 1)) (omega arith)
    where
      go : (n : ℕ) → all-below p n ≡ true → (j : ℕ) → n ≡ j + (k + 1) → p k ≡ true
      go zero e j q = absurd (omega arith)
      go (suc n) e zero q = let i : n ≡ k = omega arith in ap p (sym i) ∙ (both (p n) (all-below p n) e).0
      go (suc n) e (suc j) q = go n (both (p n) (all-below p n) e).1 j (omega arith)

-- the text of lines
pub no_lines : (t : Out) → Writes (text_of []) t t
unfolding text_of
no_lines t = nothing t

module _ {t u : Out} where
  pub one_line : (l : Line) → Writes (line-bytes l) t u → Writes (text_of (l ∷ [])) t u
  unfolding text_of
  one_line l w = one_of line-bytes l w

  pub line-then : {v : Out} (l : Line) (ls : List Line) → Writes (line-bytes l) t u → Writes (text_of ls) u v → Writes (text_of (l ∷ ls)) t v
  unfolding text_of
  line-then l ls w x = then w x

-- lines place by place, the first to the last
module _ (f : ℕ → List Line) where
  pub joined-none : (t : Out) → Writes (text_of (joined f 0)) t t
  unfolding text_of
  joined-none t = places-none line-bytes f t

  pub joined-more : (k : ℕ) {t u v : Out} → Writes (text_of (joined f k)) t u → Writes (text_of (f k)) u v → Writes (text_of (joined f (k + 1))) t v
  unfolding text_of
  joined-more k w x = places-more line-bytes f k w x

-- a row: its own line, its depth fills, its commands
pub row_written : (n r : ℕ) (w : Words) {t u v x : Out} → Writes (line-bytes (row r (word 1 w) (word 0 w))) t u
    → Writes (text_of (depth-lines n w.fills (word 1 w))) u v → Writes (text_of (command-lines w.render (word 0 w))) v x
    → Writes (text_of (row-lines n r w)) t x
unfolding row-lines text_of
row_written n r w f g h = then f (both_of line-bytes (depth-lines n w.fills (word 1 w)) (command-lines w.render (word 0 w)) g h)

-- a screen: the header, then the rows
pub screen-written : (s : Screen) (w : Words) (m b i : ℕ) {t u v : Out} → m ≡ rows_of (box_of s.viewport) → b ≡ buckets-of (bucket-tiles s.width) (box_of s.viewport) → m ≤ i → i ≤ m
    → Writes (line-bytes (header m b (s.next_draw_id - 1))) t u → Writes (text_of (rows-lines (sizes s.c s.d) b w i)) u v → Writes (text_of (screen-lines s w)) t v
unfolding screen-lines
screen-written s w m b i p q g h f x =
    let e : i ≡ m = omega arith in
    line-then _ (rows-lines (sizes s.c s.d) (buckets-of (bucket-tiles s.width) (box_of s.viewport)) w (rows_of (box_of s.viewport))) (rw (p, q) at f) (rw (e, p, q) at x)
