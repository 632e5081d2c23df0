-- What a reset of what is used clears, part by part. Assumes nothing.
use Rattle.std.proofs.Common.{◌≡◌, refl, sym, ap, ◌∙◌, false, List, ◌++◌, ℕ, zero, suc, ◌+◌, ◌*◌, min, ◌≤◌, ◌<◌, suc-mul, add-one, zero-add, zero-mul, ne_eqb, arith, length, length-append, length-drop, length-take-le, take_at, drop_at, replicate, take, drop, get_or}
use Rattle.std.proofs.lemmas.List.{drop_min, get_or-drop, length-take}
use Rattle.std.proofs.lemmas.Bool.Decides.{nat_tests}
use lib.ListN.{length-replicate}
use borrow.Rule.Slice.PartMut.{put_mid, mid_of}
use Rattle.sizes.specs.Sizes.{most-rows, most-room, row-size, opacity-count}
use Rattle.sizes.specs.declared.answers.Refusal.{Refusal}
use Rattle.sizes.specs.Refusals.{number_of}
use Rattle.sizes.proofs.Refusals.{not_done}
use Rattle.rules.specs.Answers.{answer}
use Rattle.rules.specs.Boxes.{good_viewport, rows_of}
use Rattle.rect.specs.Rects.{box_of}
use Rattle.row.proofs.RowsLaws.{one_more, within, part-0, part-suc, put-0, put-suc}
use Rattle.screen.specs.declared.Screen.{Screen}
use Rattle.screen.specs.declared.lent.Lengths.{Lengths}
use Rattle.screen.specs.Screens.{frame-of, fresh-screen}
use Rattle.screen.specs.Tables.{Tables, lengths, ScreenLent, screen_lent}
use Rattle.screen.specs.Judging.{judged_reset}
use Rattle.screen.proofs.Passed.{depth_long, reset-says}
use Rattle.screen.proofs.Judged.{reset-bad-viewport}
use Rattle.reuse.specs.Used.{first-cleared, rows-cleared, used-cleared, judged_used, used_reset}

module _ {A : Type 0} (z : A) where
  -- as many as are used and are there
  pub cleared-first : (used e : ℕ) (xs ys : List A) → e ≡ min used (length xs) → ys ≡ replicate (length (take e xs)) z → ys ++ drop e xs ≡ first-cleared z used xs
  cleared-first used e xs ys h g =
      let l : length (take e xs) ≡ min used (length xs) = length-take e xs ∙ omega (arith, h) in
      rw (g, l, h, drop_min)

  -- as many words as before
  pub long-cleared : (n : ℕ) (xs : List A) → length (first-cleared z n xs) ≡ length xs
  long-cleared n xs =
      length-append (replicate (min n (length xs)) z) (drop n xs)
      ∙ (let a = length-replicate (min n (length xs)) z in let b = length-drop n xs in omega arith)

module _ (size each k : ℕ) where
  -- a part of so many words is as long after it is cleared
  part-cleared : (n : ℕ) (ws : List ℕ) → size ≤ length ws → length (first-cleared 0 n (take size ws)) ≡ size
  part-cleared n ws h = long-cleared 0 n (take size ws) ∙ length-take-le size ws h

  -- row r's part cleared too
  pub next-cleared : (r : ℕ) (rs ws ys : List ℕ) → suc r * size ≤ length ws
      → ys ≡ first-cleared 0 (each * get_or rs (r * row-size + k) 0) (mid_of (r * size) size (rows-cleared size each k r rs ws))
      → put_mid (r * size) size (rows-cleared size each k r rs ws) ys ≡ rows-cleared size each k (suc r) rs ws
  unfolding rows-cleared
  next-cleared zero rs ws ys h e = put-0 size 0 ws ys ∙ ap (λ (t : List ℕ). t ++ drop size ws) (e ∙ rw (part-0 size 0 ws, zero-mul, zero-add) refl)
  next-cleared (suc r) rs ws ys h e =
      sym (put-suc size r (a ++ b) ys) ∙ ap (λ (t : List ℕ). t ++ put_mid (r * size) size (drop size (a ++ b)) ys) before ∙ ap (λ (t : List ℕ). a ++ put_mid (r * size) size t ys) after
      ∙ ap (λ (t : List ℕ). a ++ t) (next-cleared r (drop row-size rs) (drop size ws) ys more part)
    where
      a : List ℕ
      a = first-cleared 0 (each * get_or rs k 0) (take size ws)

      b : List ℕ
      b = rows-cleared size each k r (drop row-size rs) (drop size ws)

      more : suc r * size ≤ length (drop size ws)
      more = let s = one_more (suc r) size in rw length-drop (omega arith)

      one : size ≤ length ws
      one = let s = one_more (suc r) size in omega arith

      long : length a ≡ size
      long = part-cleared (each * get_or rs k 0) ws one

      before : take size (a ++ b) ≡ a
      before = take_at a b size long

      after : drop size (a ++ b) ≡ b
      after = drop_at a b size long

      mids : mid_of (suc r * size) size (a ++ b) ≡ mid_of (r * size) size b
      mids = sym (part-suc size r (a ++ b)) ∙ ap (λ (t : List ℕ). take size (drop (r * size) t)) after

      place : get_or rs (suc r * row-size + k) 0 ≡ get_or (drop row-size rs) (r * row-size + k) 0
      place = let s = one_more r row-size in sym (get_or-drop row-size rs (r * row-size + k) 0 ∙ ap (λ (i : ℕ). get_or rs i 0) (omega arith))

      part : ys ≡ first-cleared 0 (each * get_or (drop row-size rs) (r * row-size + k) 0) (mid_of (r * size) size b)
      part = e ∙ rw (mids, place) refl

  -- none is cleared before the first
  pub none-cleared : (rs ws : List ℕ) → ws ≡ rows-cleared size each k 0 rs ws
  unfolding rows-cleared
  none-cleared rs ws = refl

  -- what is written to row r of n, `used` words of it being cleared
  pub row-cleared : (n r j used : ℕ) (rs ws now ys : List ℕ) → r < n → length ws ≡ n * size → j ≡ size → used ≡ each * get_or rs (r * row-size + k) 0
      → now ≡ rows-cleared size each k r rs ws → ys ≡ first-cleared 0 used (mid_of (r * size) j now) → put_mid (r * size) j now ys ≡ rows-cleared size each k (r + 1) rs ws
  row-cleared n r j used rs ws now ys h l e u g y =
      let w = within r n size h in
      let s = suc-mul r size in
      rw (e, g, add-one) (next-cleared r rs ws ys (omega arith) (y ∙ rw (u, e, g) refl))

pub used-bad-viewport : (s : Screen) (l : Lengths) → good_viewport (box_of s.viewport) ≡ false → 2 ≡ judged_used s l
unfolding judged_used
used-bad-viewport s l e = let n = reset-bad-viewport (frame-of s) l e in rw (← n) refl

-- how much is lent to a screen that is judged
pub record Fits (s : Screen) (l : Lengths) (n : ℕ) : Type 0 where
  pub few : n ≤ most-rows
  pub c : s.c ≤ most-room
  pub d : s.d ≤ most-room
  pub rows : l.rows ≡ n * row-size
  pub render : l.render_cmds ≡ n * (4 * s.c)
  pub fills : l.depth_cmds ≡ n * (2 * s.d)
  pub opacities : l.opacities ≡ opacity-count

pub fits : (s : Screen) (l : Lengths) → judged_reset (frame-of s) l ≡ 0 → Fits s l (rows_of (box_of s.viewport))
fits s l z =
    let says = reset-says (frame-of s) l z in
    let a = says.1 in
    let b = says.2 in
    record {
      few = (depth_long (frame-of s) l z).few;
      c = grind (arith, nat_tests);
      d = grind (arith, nat_tests);
      rows = grind (arith, nat_tests);
      render = grind (arith, nat_tests);
      fills = grind (arith, nat_tests);
      opacities = grind (arith, nat_tests);
    }

-- what is judged 0 is judged 0 as a reset
pub used-judged : (s : Screen) (l : Lengths) → 0 ≡ judged_used s l → judged_reset (frame-of s) l ≡ 0
unfolding judged_used
used-judged s l h = grind (arith, nat_tests)

-- refused and done
module _ (l : ScreenLent) where
  pub refused : (r : Refusal) → number_of r ≡ judged_used l.screen (lengths l.tables) → answer (number_of r) l ≡ used_reset l
  unfolding used_reset
  refused r e = rw (← e, ne_eqb (number_of r) 0 (not_done r))

  pub done : 0 ≡ judged_used l.screen (lengths l.tables) → (s : Screen) (t : Tables) → s ≡ fresh-screen (frame-of l.screen) → t ≡ used-cleared l.screen l.tables
      → answer 0 (screen_lent s t) ≡ used_reset l
  unfolding used_reset
  done e s t p q = rw (← e, p, q)
