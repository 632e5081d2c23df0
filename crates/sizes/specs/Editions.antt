-- The editions of a recording file: the words of a record where they differ, and which number says which edition.
use Rattle.std.specs.Prelude.{ℕ, ◌+◌, cond, eqb, Result, Ok, Err}
use Rattle.sizes.specs.declared.edition.Edition.{Edition}
use Rattle.sizes.specs.declared.edition.Edition.TheVariants.{One, Two}
use Rattle.sizes.specs.declared.answers.Refusal.{Refusal}
use Rattle.sizes.specs.declared.answers.Refusal.TheVariants.{BadForm}

-- a panel's word at the end of a draw and of a layer
abbrev pub panel-words : Edition → ℕ
panel-words One = 0
panel-words Two = 1

abbrev pub draw-size : Edition → ℕ
draw-size e = 7 + panel-words e

abbrev pub layer-size : Edition → ℕ
layer-size e = 22 + panel-words e

-- no other number is an edition, which is answer 3
abbrev pub edition_of : ℕ → Result Edition Refusal
edition_of n = cond (eqb n 1) (Ok One) (cond (eqb n 2) (Ok Two) (Err BadForm))
