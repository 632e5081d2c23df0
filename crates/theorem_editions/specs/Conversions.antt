-- What the calls `to_edition_two` and `to_edition_one` give, one after the other. `as_two` and `as_one` are what their contracts name, `out` and `back` the lists that they are lent.
use Rattle.std.specs.Prelude.{ℕ, ◌≡◌, List}
use Rattle.rules.specs.Answers.{Done}
use Rattle.rect.specs.declared.Mode.{Mode}
use Rattle.convert.specs.Placed.{as_two, as_one}

-- A file of edition one that is done, and whose words of edition two are done in any mode, comes back, ..
abbrev pub TwoAndBack : Type 0
TwoAndBack = (m n : Mode) (ws out back : List ℕ) → let two = as_two m ws out in two.number ≡ Done → let one = as_one n two.value back in one.number ≡ Done → one.value ≡ ws

-- .. and one of edition two.
abbrev pub OneAndBack : Type 0
OneAndBack = (m n : Mode) (ws out back : List ℕ) → let one = as_one m ws out in one.number ≡ Done → let two = as_two n one.value back in two.number ≡ Done → two.value ≡ ws
