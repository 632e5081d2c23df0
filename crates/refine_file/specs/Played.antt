-- A recording at the words beside the rules' play of it, over any state S of the rules that words can stand for.
use Rattle.std.specs.Prelude.{ℕ, ◌≡◌, false, eqb}
use Rattle.sizes.specs.Sizes.{most-rows}
use Rattle.rules.specs.Answers.{Answer, Done}
use Rattle.rules.specs.Setups.{Setup}
use Rattle.rules.specs.Walk.{Place}
use Rattle.screen.specs.Judging.{arenas}
use Rattle.screen.specs.Tables.{lengths, ScreenLent}

-- what is lent as the rules' place: no screen has more than 512 rows
abbrev pub place : Setup → ScreenLent → Place
place q l = record { limit = most-rows; setup = q; arenas = arenas (lengths l.tables) }

module _ {S : Type 0} (R : S → ScreenLent → Type 0) where
  -- what stands afterwards at the number n, from the state s and the words l: refused, both are left as they were, or the words are related to the rules' state
  pub data Outcome (n : ℕ) (s : S) (l : ScreenLent) (s' : S) (l' : ScreenLent) : Type 0 where
    unaltered : eqb n Done ≡ false → s' ≡ s → l' ≡ l → Outcome n s l s' l'
    made : R s' l' → Outcome n s l s' l'

  -- the call at the words beside the rules' play
  pub record Plays (s : S) (l : ScreenLent) (a : Answer S) (w : Answer ScreenLent) : Type 0 where
    pub number : w.number ≡ a.number
    pub value : Outcome a.number s l a.value w.value
