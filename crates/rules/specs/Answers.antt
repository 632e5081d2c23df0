-- Answer numbers: the numbers by their names, and the order among several.
use Rattle.std.specs.Prelude.{ℕ, Bool, cond, List, [], ◌∷◌, eqb}

abbrev pub Done : ℕ
Done = 0

abbrev pub BadArena : ℕ
BadArena = 1

abbrev pub BadViewport : ℕ
BadViewport = 2

abbrev pub BadForm : ℕ
BadForm = 3

abbrev pub BadRecord : ℕ
BadRecord = 4

abbrev pub BadOrder : ℕ
BadOrder = 5

abbrev pub Deep : ℕ
Deep = 6

abbrev pub NoLayer : ℕ
NoLayer = 7

abbrev pub Ids : ℕ
Ids = 8

abbrev pub FullAttrs : ℕ
FullAttrs = 9

abbrev pub FullRow : ℕ
FullRow = 10

abbrev pub FullDepth : ℕ
FullDepth = 11

abbrev pub BadRun : ℕ
BadRun = 12

abbrev pub Open : ℕ
Open = 13

abbrev pub NoRoom : ℕ
NoRoom = 14

abbrev pub HasPanels : ℕ
HasPanels = 15

-- the first number whose test says yes, or 0
abbrev pub first_of : List (Bool × ℕ) → ℕ
first_of [] = Done
first_of (t ∷ ts) = cond t.0 t.1 (first_of ts)

-- what a call gives: its number, and the value afterwards
pub record Answer (S : Type 0) : Type 0 where
  pub number : ℕ
  pub value : S

abbrev pub answer : {S : Type 0} → ℕ → S → Answer S
answer n s = record { number = n; value = s }

-- with the number n, from s to t: what is refused alters nothing
abbrev pub settle : {S : Type 0} → ℕ → S → S → Answer S
settle n s t = cond (eqb n Done) (answer Done t) (answer n s)
