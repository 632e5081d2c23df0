-- What a good record says of its counts, and what the row at hand comes to. Assumes nothing.
use Rattle.std.proofs.Common.{◌≡◌, refl, Bool, true, false, ◌&&◌, cond, List, ℕ, ◌+◌, ◌-◌, ◌*◌, ◌≤◌, arith, leb, ltb, length, get_or, drop, length-drop, length-take-le, leb-true, le-ltb}
use Rattle.rules.proofs.All.{both}
use Rattle.row.specs.Building.{good_row, good-summary, good-top}
use Rattle.row.specs.declared.room.Limits.{Limits}
use Rattle.row.specs.declared.room.Fault.{Fault}
use Rattle.row.specs.declared.room.Fault.TheVariants as fault
use Rattle.row.specs.Room.{record-at, fault_number, loaded, noted, added_to, Found}

-- a good record's counts
pub record Small (c d n : ℕ) (s : List ℕ) : Type 0 where
  pub renders : get_or s 0 0 ≤ c
  pub depths : get_or s 1 0 ≤ d
  pub levels : get_or s 5 0 ≤ n

pub good-small : (c d n : ℕ) (s : List ℕ) → good_row c d n s ≡ true → Small c d n s
unfolding good_row
good-small c d n s g =
    let r = leb (get_or s 0 0) c in
    let f = leb (get_or s 1 0) d in
    let l = leb (get_or s 5 0) n in
    let h4 = both (r && f && l && good-summary s) (good-top (get_or s 5 0) s) g in
    let h3 = both (r && f && l) (good-summary s) h4.0 in
    let h2 = both (r && f) l h3.0 in
    let h1 = both r f h2.0 in
    record { renders = leb-true _ _ h1.0; depths = leb-true _ _ h1.1; levels = leb-true _ _ h2.1 }

-- a row's record has its words
pub record-long : (ws : List ℕ) (r : ℕ) → r * 54 + 54 ≤ length ws → length (record-at ws r) ≡ 54
record-long ws r h = length-take-le 54 (drop (r * 54) ws) (rw length-drop (omega arith))

noted-found : (b f : Bool) → noted (cond b 10 0) f false ≡ cond f 10 (cond b 10 0)
noted-found true true = refl
noted-found true false = refl
noted-found false true = refl
noted-found false false = refl

-- commands more, on a row whose record is good: 10 if they pass c, else as before
pub commands-told : (l : Limits) (s : List ℕ) (n r x : ℕ) → Found n → get_or s 1 0 ≤ l.d
    → (added_to l (loaded l s n r) x 0).code ≡ cond (ltb l.c (get_or s 0 0 + (l.layers - get_or s 5 0) + l.once + x)) 10 n
unfolding added_to
commands-told l s n r x o h =
    rw (le-ltb l.d (get_or s 1 0 + 0) (omega arith), o.is) (noted-found o.yet (ltb l.c (get_or s 0 0 + (l.layers - get_or s 5 0) + l.once + x)))

-- a bad record is not found so far: it ends the look
pub never_bad : (f : Fault) → fault_number f ≡ 4 → ⊥
never_bad fault.Nothing e = omega arith
never_bad fault.BadOrder e = omega arith
never_bad fault.FullRow e = omega arith
never_bad fault.FullDepth e = omega arith
