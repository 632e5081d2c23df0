-- The rules' number of each refusal, and of a result: 0 is done. The words that a refusal prints as.
use Rattle.std.specs.Prelude.{ℕ, List, codes, Result, Ok, Err}
use Rattle.sizes.specs.declared.answers.Refusal.{Refusal}
use Rattle.sizes.specs.declared.answers.Refusal.TheVariants as refusal

abbrev pub number_of : Refusal → ℕ
number_of refusal.BadArena = 1
number_of refusal.BadViewport = 2
number_of refusal.BadForm = 3
number_of refusal.BadRecord = 4
number_of refusal.BadOrder = 5
number_of refusal.Deep = 6
number_of refusal.NoLayer = 7
number_of refusal.Ids = 8
number_of refusal.FullAttrs = 9
number_of refusal.FullRow = 10
number_of refusal.FullDepth = 11
number_of refusal.BadRun = 12
number_of refusal.Open = 13
number_of refusal.NoRoom = 14
number_of refusal.HasPanels = 15

abbrev pub answer_number : {T : Type 0} → Result T Refusal → ℕ
answer_number (Ok _) = 0
answer_number (Err r) = number_of r

-- a refusal in plain words
abbrev pub refusal_text : Refusal → List ℕ
refusal_text refusal.BadArena = codes "an arena has the wrong length"
refusal_text refusal.BadViewport = codes "the viewport breaks a rule, or there is no such bucket width"
refusal_text refusal.BadForm = codes "the file is not exactly its sections"
refusal_text refusal.BadRecord = codes "a record is out of bounds"
refusal_text refusal.BadOrder = codes "a segment list is out of order"
refusal_text refusal.Deep = codes "16 layers are open"
refusal_text refusal.NoLayer = codes "no layer is open"
refusal_text refusal.Ids = codes "no draw id remains"
refusal_text refusal.FullAttrs = codes "the attributes are full"
refusal_text refusal.FullRow = codes "a row's commands are full"
refusal_text refusal.FullDepth = codes "a row's depth fills are full"
refusal_text refusal.BadRun = codes "there is no such row, tile or run"
refusal_text refusal.Open = codes "a layer is open, or painting has not begun"
refusal_text refusal.NoRoom = codes "the list has no room for the result"
refusal_text refusal.HasPanels = codes "a draw or a layer has a panel, and edition one has none"
