-- What callers may use of a row's call: it is painting steps one after the other, and it leaves the other rows as they were. Assumes nothing.
use Rattle.std.proofs.Common.{◌≡◌, refl, ◌∙◌, Bool, true, false, cond, List, ℕ, zero, suc, ◌+◌, ◌*◌, ◌≤◌, ◌<◌, arith, drop}
use Rattle.sizes.specs.Sizes.{piece-size}
use Rattle.rules.specs.Lists.{times}
use Rattle.screen.specs.declared.Screen.{Screen}
use Rattle.screen.specs.Depths.{Depths}
use Rattle.paint.specs.Painting.{RowLent, words_lent, StepOut}
use Rattle.paint.specs.Judging.{count, wide}
use Rattle.paint.specs.Stepping.{part, depth-part, Attributes}
use Rattle.paint.proofs.ScreenLaws.{step-alone}
use Rattle.paint.specs.Running.{goes_on, ended, one_more, run, most, standing, call_step, row-painted}

-- the same pieces, words and end
abbrev pub Same : StepOut → StepOut → Type 0
Same o g =
    (o.answer.finished ≡ g.answer.finished)
    × (o.answer.pieces ≡ g.answer.pieces)
    × (o.depth ≡ g.depth)
    × (o.painting ≡ g.painting)
    × (o.list ≡ g.list)

-- o is what so many steps leave, from g on, the pieces of each after those before
pub record Steps (step : Depths → List ℕ → List ℕ → StepOut) (most : ℕ) (g o : StepOut) : Type 0 where
  pub number : ℕ
  pub few : number ≤ most
  pub same : Same o (times number (one_more step) g)

pub run-steps : (step : Depths → List ℕ → List ℕ → StepOut) (f k : ℕ) (g : StepOut) → Steps step f g (run step f k g)
unfolding run
run-steps step zero k g = record { number = 0; few = omega arith; same = (refl, refl, refl, refl, refl) }
run-steps step (suc f) k g = go (goes_on (one_more step g).answer) (run-steps step f (k + 1) (one_more step g))
  where
    go : (b : Bool) → Steps step f (one_more step g) (run step f (k + 1) (one_more step g))
        → Steps step (suc f) g (cond b (run step f (k + 1) (one_more step g)) (ended k (one_more step g)))
    go true i = record { number = suc i.number; few = omega (arith, i.few); same = i.same }
    go false i = record { number = 1; few = omega arith; same = (refl, refl, refl, refl, refl) }

module _ (s : Screen) (r : ℕ) (a : Attributes) (l : RowLent) where
  -- A call for a row leaves what at most 2,049 calls of a painting step of that row leave.
  pub row-steps : Steps (call_step s r a l.state l.render l.fills) most (standing l.depth l.painting l.list) (row-painted s r a l)
  unfolding row-painted
  row-steps = run-steps (call_step s r a l.state l.render l.fills) most 0 (standing l.depth l.painting l.list)

  -- Every other row's depth words, minima and painting words are as they were.
  module _ (q : ℕ) (h : q < count s) (d : q ≡ r → ⊥) where
    abbrev Alone : StepOut → Type 0
    Alone o = (depth-part (wide s) q o.depth ≡ depth-part (wide s) q l.depth) × (part 2 q o.painting ≡ part 2 q l.painting)

    one-alone : (g : StepOut) → Alone g → Alone (one_more (call_step s r a l.state l.render l.fills) g)
    unfolding one_more
    one-alone g i =
        let o = step-alone s r a (words_lent l.state l.render l.fills g.depth g.painting (drop (piece-size * g.answer.pieces) g.list)) q h d in
        (o.0 ∙ i.0, o.1 ∙ i.1)

    times-alone : (n : ℕ) (g : StepOut) → Alone g → Alone (times n (one_more (call_step s r a l.state l.render l.fills)) g)
    times-alone zero g i = i
    times-alone (suc n) g i = times-alone n _ (one-alone g i)

    pub row-alone : Alone (row-painted s r a l)
    row-alone =
        let o = row-steps in
        let i = times-alone o.number (standing l.depth l.painting l.list) (refl, refl) in
        (rw o.same.2 i.0, rw o.same.3 i.1)
