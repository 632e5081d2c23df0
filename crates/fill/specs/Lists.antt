-- Fills one after another, up to the first that is refused: its number, how many are done before it, and what is left.
use Rattle.std.specs.Prelude.{ℕ, zero, suc, ◌+◌, ◌-◌, ◌*◌, ◌/◌, ◌%◌, Bool, ◌&&◌, cond, List, [], ◌∷◌, eqb, length}
use Rattle.std.specs.Prelude.{Result, Ok, Err}
use Rattle.sizes.specs.declared.edition.Edition.{Edition}
use Rattle.sizes.specs.declared.edition.Edition.TheVariants.{Two}
use Rattle.sizes.specs.Editions.{draw-size}
use Rattle.sizes.specs.Refusals.{number_of}
use Rattle.rules.specs.Answers.{Answer, Done, BadRecord}
use Rattle.rules.specs.Spans.{good-range}
use Rattle.inputs.specs.declared.Draw.{Draw}
use Rattle.inputs.specs.Draws.{draw_at}
use Rattle.fill.specs.declared.list.Stopped.{Stopped}
use Rattle.fill.specs.Fills.{FillLent, filled}

-- k draws of a list in an edition, from number i on
unfoldable pub draws_in : Edition → List ℕ → ℕ → ℕ → List Draw
draws_in e ws i zero = []
draws_in e ws i (suc k) = draw_at e ws (draw-size e * i) ∷ draws_in e ws (i + 1) k

-- what a list of fills gives: its number, how many fills are done, and what was lent, afterwards
pub record FillsOut : Type 0 where
  pub number : ℕ
  pub done : ℕ
  pub value : FillLent

abbrev pub fills_out : ℕ → ℕ → FillLent → FillsOut
fills_out n k l = record { number = n; done = k; value = l }

-- k fills before what is told
abbrev pub after_done : ℕ → FillsOut → FillsOut
after_done k o = fills_out o.number (k + o.done) o.value

abbrev pub go_on : Answer FillLent → (FillLent → FillsOut) → FillsOut
go_on a f = cond (eqb a.number Done) (after_done 1 (f a.value)) (fills_out a.number 0 a.value)

-- each on what the fills before it left; the first that is refused ends the list
unfoldable pub fills_in_order : List ℕ → List ℕ → List Draw → FillLent → FillsOut
fills_in_order ps ss [] l = fills_out Done 0 l
fills_in_order ps ss (d ∷ ds) l = go_on (filled l ps ss d) (fills_in_order ps ss ds)

-- whole draws of eight words, and a range of them
abbrev pub good-draws : List ℕ → ℕ → ℕ → Bool
good-draws ws a b = eqb (length ws % draw-size Two) 0 && good-range a b (length ws / draw-size Two)

-- .. else 4, before anything is judged or done
unfoldable pub fills_listed : List ℕ → List ℕ → List ℕ → ℕ → ℕ → FillLent → FillsOut
fills_listed ps ss ws a b l = cond (good-draws ws a b) (fills_in_order ps ss (draws_in Two ws a (b - a)) l) (fills_out BadRecord 0 l)

-- what a result says of n fills
abbrev pub told : ℕ → Result Unit Stopped → FillLent → FillsOut
told n (Ok _) l = fills_out Done n l
told n (Err s) l = fills_out (number_of s.refusal) s.done l
