-- A row of a run, as the one judge of room counts it. Assumes nothing.
use Rattle.std.proofs.Common.{◌≡◌, ap, ◌∙◌, true, cond, List, ℕ, ◌+◌, ◌-◌, ◌≤◌, arith, get_or}
use Rattle.row.specs.Building.{good_row}
use Rattle.row.specs.Room.{Counted, limits, loaded, added_to, Found}
use Rattle.row.proofs.RoomLaws.{good-small, commands-told}
use Rattle.layers.specs.Band.{is-full}

-- one more, among the layers that are lacking or after them
one_more : (x n k : ℕ) → k ≤ n → x + (n - k) + 0 + 1 ≡ x + (n + 1 - k)
one_more x n k h = omega arith

pub row_counted : (c d n : ℕ) (s : List ℕ) (code r : ℕ) {h u : Counted} → Found code → good_row c d n s ≡ true
    → h ≡ loaded (limits c d n 0) s code r → u ≡ added_to (limits c d n 0) h 1 0 → u.code ≡ cond (is-full c n s) 10 code
row_counted c d n s code r o g e q =
    let k = good-small c d n s g in
    ap (λ (u : Counted). u.code) (q ∙ ap (λ (w : Counted). added_to (limits c d n 0) w 1 0) e)
    ∙ commands-told (limits c d n 0) s code r 1 o k.depths
    ∙ rw (one_more (get_or s 0 0) n (get_or s 5 0) k.levels)
