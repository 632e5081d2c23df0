-- Every line of a list of recordings is accounted for and small, and what is left is what the last one leaves.
use Rattle.std.proofs.Common.{◌≡◌, refl, ap, Bool, true, false, cond, List, [], ◌∷◌, ◌++◌, ℕ, suc, length}
use Rattle.rules.specs.Recording.{File, parsed}
use Rattle.rules.specs.Setups.{Setup}
use Rattle.rules.proofs.All.{All, nil, cons}
use Rattle.rules_figures.specs.Figures.{one-refused}
use Rattle.rules_figures.specs.Recordings.{of-file}
use Rattle.rules_figures.specs.Accounted.{Accounted, Small}
use Rattle.rules_figures.proofs.Files.{refused-accounted, files-accounted}
use Rattle.rules_figures.proofs.Totals.{totals-accounted, totals-small}
use Rattle.screen.specs.declared.lent.Lengths.{Lengths}
use Rattle.screen.specs.Tables.{lengths, ScreenLent}
use Rattle.tally.specs.Parts.{needed-words, at-most}
use Rattle.tally.specs.Recordings.{recorded-figures, recorded-left}
use Rattle.tally.specs.Listed.{counted-from}
use Rattle.refine_tally.specs.Lent.{lent-place, has-tables, figures-in}
use Rattle.refine_tally.proofs.Recorded.{figures-counted}
use Rattle.theorem_figures.specs.Listed.{lines, left-by, Lines-accounted, Sums-small}

one-accounted : (f : File) (q : Setup) (l : ScreenLent) → Accounted (recorded-figures f q l) × Small (recorded-figures f q l)
unfolding figures-in
one-accounted f q l =
    let n = at-most (needed-words f q) (lengths l.tables) in
    rw (figures-counted f q l, figures-in) (go n (has-tables (parsed f) q n))
  where
    go : (n : Lengths) (b : Bool) → Accounted (cond b (of-file (lent-place q n) f) one-refused) × Small (cond b (of-file (lent-place q n) f) one-refused)
    go n true = files-accounted (lent-place q n) f
    go n false = refused-accounted

module _ (q : Setup) where
  pub one-each : (fs : List File) (l : ScreenLent) → length (lines q fs l) ≡ length fs
  unfolding counted-from
  one-each [] l = refl
  one-each (f ∷ fs) l = ap (λ (n : ℕ). suc n) (one-each fs (recorded-left f q l))

  pub lines-accounted : (fs : List File) (l : ScreenLent) → All Accounted (lines q fs l)
  unfolding counted-from
  lines-accounted [] l = nil
  lines-accounted (f ∷ fs) l = cons (one-accounted f q l).0 (lines-accounted fs (recorded-left f q l))

  pub lines-small : (fs : List File) (l : ScreenLent) → All Small (lines q fs l)
  unfolding counted-from
  lines-small [] l = nil
  lines-small (f ∷ fs) l = cons (one-accounted f q l).1 (lines-small fs (recorded-left f q l))

  pub last-left : (fs : List File) (f : File) (l : ScreenLent) → left-by q (fs ++ (f ∷ [])) l ≡ recorded-left f q (left-by q fs l)
  unfolding counted-from
  last-left [] f l = refl
  last-left (g ∷ fs) f l = last-left fs f (recorded-left g q l)

  pub none-left : (l : ScreenLent) → left-by q [] l ≡ l
  unfolding counted-from
  none-left l = refl

pub all-accounted : Lines-accounted
all-accounted q fs l = let a = lines-accounted q fs l in (a, totals-accounted (lines q fs l) a)

pub sums-small : Sums-small
sums-small q fs l h = totals-small (lines q fs l) (rw (one-each q fs l) h) (lines-small q fs l)
