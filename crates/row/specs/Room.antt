-- One running count over rows: the row at hand with its counts, and the number of what was found so far (answers 4, 5, 10 and 11).
use Rattle.std.specs.Prelude.{ℕ, ◌+◌, ◌-◌, ◌*◌, ◌≤◌, ◌≡◌, Bool, true, false, Result, Ok, Err, cond, List, ltb, eqb, get_or, take, drop}
use Rattle.sizes.specs.Sizes.{row-size, renders-at, depths-at, levels-at}
use Rattle.rules.specs.Lists.{every, some_of}
use Rattle.rules.specs.Answers.{Done, BadRecord, BadOrder, FullRow, FullDepth}
use Rattle.row.specs.Building.{good_row}
use Rattle.row.specs.declared.room.Limits.{Limits}
use Rattle.row.specs.declared.room.Hand.{Hand}
use Rattle.sizes.specs.declared.answers.Refusal.{Refusal}
use Rattle.sizes.specs.declared.answers.Refusal.TheVariants as refusal
use Rattle.row.specs.declared.room.Fault.{Fault}
use Rattle.row.specs.declared.room.Fault.TheVariants as fault

-- row r's record among all
abbrev pub record-at : List ℕ → ℕ → List ℕ
record-at rows r = take row-size (drop (r * row-size) rows)

-- room for c commands and d depth fills, n layers being open; k commands once
abbrev pub limits : ℕ → ℕ → ℕ → ℕ → Limits
limits c d n k = record { c = c; d = d; layers = n; once = k }

-- a row with its counts so far, and the number of what was found so far
pub record Counted : Type 0 where
  pub renders : ℕ
  pub depths : ℕ
  pub row : ℕ
  pub code : ℕ

-- x commands and y depth fills on row r, n being the number so far
abbrev pub hand_of : ℕ → ℕ → ℕ → ℕ → Counted
hand_of x y r n = record { renders = x; depths = y; row = r; code = n }

abbrev pub fault_number : Fault → ℕ
fault_number fault.Nothing = Done
fault_number fault.BadOrder = BadOrder
fault_number fault.FullRow = FullRow
fault_number fault.FullDepth = FullDepth

abbrev pub at-hand : Hand → Counted
at-hand h = hand_of h.renders h.depths h.row (fault_number h.found)

-- row r by its record s: what stands there, the open layers that it lacks, what it gets once
abbrev pub loaded : Limits → List ℕ → ℕ → ℕ → Counted
loaded l s n r = hand_of (get_or s renders-at 0 + (l.layers - get_or s levels-at 0) + l.once) (get_or s depths-at 0) r n

-- the same, the record judged
unfoldable pub turned_to : Limits → List ℕ → ℕ → ℕ → Counted
turned_to l s n r = cond (good_row l.c l.d l.layers s) (loaded l s n r) (hand_of 0 0 r BadRecord)

-- the number n, after counts that pass c if f, and d if g
abbrev pub noted : ℕ → Bool → Bool → ℕ
noted n f g = cond f (cond (eqb n BadOrder) BadOrder FullRow) (cond g (cond (eqb n Done) FullDepth n) n)

-- x commands and y depth fills more on the row at hand
unfoldable pub added_to : Limits → Counted → ℕ → ℕ → Counted
added_to l h x y = hand_of (h.renders + x) (h.depths + y) h.row (noted h.code (ltb l.c (h.renders + x)) (ltb l.d (h.depths + y)))

-- counts that can grow
pub record Low (h : Counted) : Type 0 where
  pub renders : h.renders ≤ 9223372036854775808
  pub depths : h.depths ≤ 9223372036854775808

-- what turning to row r, whose record is s, gives: 4 for a bad record, else the row with its counts
abbrev pub Turned : Limits → List ℕ → ℕ → ℕ → Result Hand Refusal → Type 0
Turned l s n r (Ok h) = (good_row l.c l.d l.layers s ≡ true) × (at-hand h ≡ loaded l s n r) × Low (at-hand h)
Turned l s n r (Err x) = (good_row l.c l.d l.layers s ≡ false) × (x ≡ refusal.BadRecord)

-- what judging rows gives, n being their number: 4 at once, or what was found, which waits until a step has judged its ids and attributes
abbrev pub Told : ℕ → Result Fault Refusal → Type 0
Told n (Ok f) = fault_number f ≡ n
Told n (Err x) = (x ≡ refusal.BadRecord) × (n ≡ BadRecord)

-- the rows rs, n being the number of those before them: 4 for one that is not good, then 10 for one that is full
unfoldable pub rows_told : (ℕ → Bool) → (ℕ → Bool) → ℕ → List ℕ → ℕ
rows_told good full n rs = cond (every good rs) (cond (some_of full rs) FullRow n) BadRecord

-- a number that rows were found to have so far: 10 or 0
pub record Found (n : ℕ) : Type 0 where
  pub yet : Bool
  pub is : n ≡ cond yet FullRow Done
