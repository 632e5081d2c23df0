-- An accepted recording at the words is counted as its history and its screen; a refused one as that alone.
use Rattle.std.proofs.Common.{◌≡◌, refl, ap, ◌∙◌, List, Option, None, Some, ℕ, ne_eqb, arith}
use Rattle.rules.specs.Answers.{Done}
use Rattle.rules.specs.Recording.{File, parsed}
use Rattle.rules.specs.Rows.{Row}
use Rattle.rules.specs.Setups.{Setup}
use Rattle.rules.specs.Steps.{Screen}
use Rattle.rules_picture.specs.Recorded.{Readable}
use Rattle.rules_figures.specs.Figures.{Figures, figures}
use Rattle.screen.specs.Tables.{lengths, ScreenLent}
use Rattle.walk.specs.Recorded.{recorded}
use Rattle.tally.specs.Recordings.{bucketed, recorded-figures}
use Rattle.refine_tally.specs.Left.{Leaves}
use Rattle.refine_tally.proofs.Recorded.{accepted-leaves, accepted-counted, figures-counted}
use Rattle.refine_tally.proofs.Enough.{enough-counted}
use Rattle.theorem_figures.specs.Recorded.{Accepted, first-words, its-frame, its-steps, Its, Screen-left, Asked-plain, Painted-pieces, Hidden-dropped, Rows-hold, Refused-alone, Figures-lent, Figures-own}

module _ (f : File) (q : Setup) (l : ScreenLent) where
  abbrev m : ScreenLent
  m = first-words f q l

  leaves : Accepted f q l → (r : Readable f) × Leaves f q m r
  unfolding bucketed recorded
  leaves z = go (parsed f) refl
    where
      go : (o : Option (List (List (List ℕ)))) → parsed f ≡ o → (r : Readable f) × Leaves f q m r
      go None e = let y : ◌≡◌ {A = ℕ} 3 Done = rw e at z in absurd (omega arith)
      go (Some ss) e = (record { parts = ss; formed = e }, accepted-leaves f q m ss e z)

  -- by any reading of its words
  module _ (r : Readable f) (z : Accepted f q l) where
    there : Leaves f q m r
    unfolding bucketed
    there = accepted-leaves f q m r.parts r.formed z

    counted : (u : Screen Row) → Its q l r u → recorded-figures f q l ≡ figures (its-frame q l r) (its-steps q l r) u
    unfolding bucketed
    counted u i = accepted-counted f q m r.parts r.formed z u i

    own : recorded-figures f q l ≡ figures (its-frame q l r) (its-steps q l r) there.screen
    own = counted there.screen there.left

pub screen-left : Screen-left
screen-left f q l z = leaves f q l z

pub asked-plain : Asked-plain
asked-plain f q l z r = ap (λ (g : Figures). g.asked) (own f q l r z)

pub painted-pieces : Painted-pieces
painted-pieces f q l z r u i = ap (λ (g : Figures). g.painted) (counted f q l r z u i)

pub hidden-dropped : Hidden-dropped
hidden-dropped f q l z r = ap (λ (g : Figures). g.hidden) (own f q l r z)

pub rows-hold : Rows-hold
rows-hold f q l z r u i =
    let e = counted f q l r z u i in
    (ap (λ (g : Figures). g.commands) e, ap (λ (g : Figures). g.fills) e, ap (λ (g : Figures). g.refused) e)

pub refused-alone : Refused-alone
refused-alone f q l n = rw (ne_eqb (bucketed f q l).number Done n) refl

pub figures-lent : Figures-lent
figures-lent = figures-counted

pub figures-own : Figures-own
figures-own f q l h = figures-counted f q l ∙ enough-counted f q (lengths l.tables) h
