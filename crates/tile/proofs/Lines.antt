-- One more line read makes the list at most one longer. Then the lines of a run: those
-- that are left give what all of them give.
use Rattle.std.proofs.Common.{ℕ, suc, ◌+◌, ◌-◌, ◌≤◌, ◌<◌, arith, ◌≡◌, Bool, true, false, ◌&&◌, not, cond, List, eqb}
use Rattle.rules_reason.specs.Reasons.{Asked}
use Rattle.tile.specs.Reading.{Mark, mark_at, marks, Search, is-asked, is-told, anew, renewed, found-now, met, one_more, counted, read, read_all}

count-either : (b : Bool) (x y : Search) (k : ℕ) → x.count ≤ k → y.count ≤ k → (cond b x y).count ≤ k
count-either true x y k p q = p
count-either false x y k p q = q

module _ (m : Mark) (s : Search) where
  renewed-count : (renewed m s).count ≤ s.count
  renewed-count = count-either (eqb m.standing 4) (anew m s) s s.count (omega arith) (omega arith)

module _ (a : Asked) (m : Mark) (s : Search) where
  met-count : (met a m s).count ≤ s.count
  met-count = count-either (is-asked a m && not s.found) (found-now m s) s s.count (omega arith) (omega arith)

module _ (m : Mark) (s : Search) where
  counted-count : (counted m s).count ≤ s.count + 1
  counted-count = count-either (is-told m) (one_more s) s (s.count + 1) (omega arith) (omega arith)

pub read_count : (a : Asked) (m : Mark) (s : Search) → (read a m s).count ≤ s.count + 1
read_count a m s =
    omega (arith, counted-count m (met a m (renewed m s)), met-count a m (renewed m s), renewed-count m s)

module _ (a : Asked) (ws : List ℕ) (n i : ℕ) (s : Search) {all : Search} where
  -- the lines from i on are line i and those from i + 1 on
  pub turned :
      i < n → read_all a s (marks ws i (n - i)) ≡ all → read_all a (read a (mark_at ws i) s) (marks ws (i + 1) (n - (i + 1))) ≡ all
  unfolding marks read_all
  turned h so_far =
      let one : n - i ≡ suc (n - (i + 1)) = omega arith in
      rw one at so_far

  pub ended : n ≤ i → read_all a s (marks ws i (n - i)) ≡ all → s ≡ all
  unfolding marks read_all
  ended h so_far =
      let none : n - i ≡ 0 = omega arith in
      rw none at so_far
