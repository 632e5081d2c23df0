-- What the words of a row add to the figures is what the row adds. Assumes nothing.
use Rattle.std.proofs.Common.{◌≡◌, refl, List, [], ◌∷◌, ℕ, ◌<◌}
use Rattle.rules.specs.Attributes.{Attrs}
use Rattle.rules.specs.Commands.{Command, paint-fill, layer-fill, push-buf, pop-buf, DepthFill}
use Rattle.rules.specs.Rows.{Row}
use Rattle.rules_figures.specs.RowFigures.{depth-fills, command-fills, row-figures}
use Rattle.refine_row.specs.Encode.{encode}
use Rattle.refine_steps.specs.Sound.{Fitting}
use Rattle.refine_paint.specs.Fair.{Fair}
use Rattle.paint.proofs.ByRules.{Same}
use Rattle.compact.specs.Row.{row-with}
use Rattle.compact.proofs.ByRules.{same-newest}
use Rattle.refine_compact.proofs.Rows.{words-read}
use Rattle.tally.specs.Rows.{row-tallied}

-- Attributes that a step cannot tell apart: counting cannot either.
module _ (v n : ℕ) (a b : Attrs) (s : Same a b) where
  same-depth-fills : (fs : List DepthFill) → depth-fills v a fs ≡ depth-fills v b fs
  same-depth-fills [] = refl
  same-depth-fills (f ∷ fs) = rw (same-depth-fills fs, s.paint-ids f.attribute)

  same-command-fills : (cs : List Command) → command-fills v a cs ≡ command-fills v b cs
  same-command-fills [] = refl
  same-command-fills (paint-fill t x i ∷ cs) = rw (same-command-fills cs, s.paint-ids i)
  same-command-fills (layer-fill t x i ∷ cs) = rw (same-command-fills cs, s.layer-ids i)
  same-command-fills (push-buf t ∷ cs) = same-command-fills cs
  same-command-fills (pop-buf ∷ cs) = same-command-fills cs

  same-figures : (r : Row) → row-figures v n a (row-with r.fills r.commands) ≡ row-figures v n b r
  unfolding row-figures
  same-figures r = rw (same-newest v n a b s r.fills, same-depth-fills r.fills, same-command-fills r.commands)

pub row-counted : (v n c d : ℕ) (a : Attrs) (r : Row) → n < 65536 → Fitting c d r → Fair v a n r → (b : Attrs) → Same b a
    → row-tallied v n b (encode c d r) ≡ row-figures v n a r
unfolding row-tallied
row-counted v n c d a r few f h b s = rw (words-read v n c d a r few f h b s) (same-figures v n b a s r)
