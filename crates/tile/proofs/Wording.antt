-- The words of a line, as they are stored one after the other.
use Rattle.std.proofs.Common.{◌≡◌, ap, ◌∙◌, cond, List, [], ◌∷◌, Option, None, Some, ℕ, ◌+◌, ◌≤◌, length, set}
use Rattle.sizes.specs.Sizes.{line-size}
use Rattle.cmd.specs.Attrs.{words-at}
use Rattle.cmd.proofs.Tables.{stores, stored}
use Rattle.tile.specs.Telling.{Line, alpha-words, after-alpha, line-words}

-- an alpha index's two words, before others
before-others : (f i : ℕ) (o : Option ℕ) (ws : List ℕ) → f ∷ i ∷ [] ≡ alpha-words o [] → f ∷ i ∷ ws ≡ alpha-words o ws
before-others f i None ws e = cc
before-others f i (Some a) ws e = cc

module _ (l : Line) (w f i : ℕ) (b : w ≡ cond l.layer 1 0) (e : f ∷ i ∷ [] ≡ alpha-words l.alpha []) where
  in_order : w ∷ l.attribute ∷ l.standing ∷ f ∷ i ∷ after-alpha l ≡ line-words l
  in_order =
      rw b
      (ap (λ (t : List ℕ). cond l.layer 1 0 ∷ l.attribute ∷ l.standing ∷ t) (before-others f i l.alpha (after-alpha l) e))

  pub line-stored : (xs : List ℕ) (at : ℕ) → at + line-size ≤ length xs
      → stores (set xs at w) at 1 (l.attribute ∷ l.standing ∷ f ∷ i ∷ after-alpha l) ≡ words-at xs at (line-words l)
  line-stored xs at h =
      stored xs at w (l.attribute ∷ l.standing ∷ f ∷ i ∷ after-alpha l) h ∙ ap (words-at xs at) in_order
