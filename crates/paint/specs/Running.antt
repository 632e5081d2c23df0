-- A row painted from where it stands: painting steps one after the other, each on what is left of the list.
use Rattle.std.specs.Prelude.{Result, Ok, Err, true, false, ℕ, zero, suc, ◌+◌, ◌*◌, Bool, ◌&&◌, not, cond, List, ◌++◌, take, drop, eqb}
use Rattle.sizes.specs.Sizes.{piece-size}
use Rattle.rules.specs.Answers.{Done}
use Rattle.rules.specs.Attributes.{Attrs}
use Rattle.screen.specs.declared.Screen.{Screen}
use Rattle.screen.specs.Depths.{Depths}
use Rattle.sizes.specs.declared.answers.Refusal.{Refusal}
use Rattle.sizes.specs.Refusals.{number_of}
use Rattle.paint.specs.declared.pieces.Stepped.{Stepped}
use Rattle.paint.specs.Answers.{Painted}
use Rattle.paint.specs.Painting.{RowLent, words_lent, StepOut, out, listed, painted-row}
use Rattle.paint.specs.Stepping.{Attributes, own-parts, put-parts, stepped}

-- a step's answer after n pieces, which stay if it is refused
abbrev pub onto : ℕ → Result Stepped Refusal → Painted
onto n (Ok s) = record { number = Done; finished = s.finished; pieces = s.pieces }
onto n (Err r) = record { number = number_of r; finished = false; pieces = n }

-- the row has more steps
abbrev pub goes_on : Painted → Bool
goes_on a = eqb a.number Done && not a.finished

-- the answer after k steps that were done: a refusal is the call's own only where it is the first step's
abbrev pub ended : ℕ → StepOut → StepOut
ended k o =
    out (record { number = cond (eqb k 0) o.answer.number Done; finished = o.answer.finished; pieces = o.answer.pieces }) o.depth
    o.painting
    o.list

-- what a step gives of the depth words and their minima, the painting words and a list
module _ (step : Depths → List ℕ → List ℕ → StepOut) where
  -- one step more, on what is left of the list: its pieces stand after those so far
  unfoldable pub one_more : StepOut → StepOut
  one_more g =
      let n = g.answer.pieces in
      let o = step g.depth g.painting (drop (piece-size * n) g.list) in
      out (record { number = o.answer.number; finished = o.answer.finished; pieces = n + o.answer.pieces }) o.depth o.painting
      (take (piece-size * n) g.list ++ o.list)

  -- at most f steps more, after k, until one is refused or says finished
  unfoldable pub run : ℕ → ℕ → StepOut → StepOut
  run zero k g = g
  run (suc f) k g =
      let more = run f (k + 1) (one_more g) in
      cond (goes_on (one_more g).answer) more (ended k (one_more g))

-- a row has at most 1,024 depth fills and 1,024 commands, and one step more says that it is finished
abbrev pub most : ℕ
most = 2049

-- n pieces, and no step is left
abbrev pub finished_with : ℕ → Painted
finished_with n = record { number = Done; finished = true; pieces = n }

-- before the first step
abbrev pub standing : Depths → List ℕ → List ℕ → StepOut
standing d p l = out (listed 0) d p l

-- the steps of one row's own words, at v tiles a bucket
abbrev pub own-step : ℕ → Attrs → List ℕ → List ℕ → List ℕ → Depths → List ℕ → List ℕ → StepOut
own-step v a s re fi d p l = painted-row v a (words_lent s re fi d p l)

-- at most f more of them, after k that gave n pieces, of row r of rows of b buckets, with room for c commands and d depth fills, each part in its place
unfoldable pub row-run-on : ℕ → ℕ → ℕ → ℕ → Attrs → ℕ → ℕ → ℕ → ℕ → RowLent → StepOut
row-run-on v f k n a b c d r l =
    let w = own-parts b c d r l in
    put-parts b r l (run (own-step v a w.state w.render w.fills) f k (out (listed n) w.depth w.painting w.list))

-- .. from the first
abbrev pub row-run : ℕ → ℕ → Attrs → ℕ → ℕ → ℕ → ℕ → RowLent → StepOut
row-run v f a b c d r l = row-run-on v f 0 0 a b c d r l

-- calls of a painting step of row r of a screen
abbrev pub call_step : Screen → ℕ → Attributes → List ℕ → List ℕ → List ℕ → Depths → List ℕ → List ℕ → StepOut
call_step s r a rs re fi d p l = stepped s r a (words_lent rs re fi d p l)

unfoldable pub row-painted : Screen → ℕ → Attributes → RowLent → StepOut
row-painted s r a l =
    run (call_step s r a l.state l.render l.fills) most 0 (standing l.depth l.painting l.list)
