-- Pieces read from a list's words are those that were laid there. Assumes nothing.
use Rattle.std.proofs.Common.{◌≡◌, refl, sym, ap, ◌∙◌, Bool, true, false, ◌||◌, cond, List, [], ◌∷◌, ◌++◌, Option, None, Some, ℕ, suc, arith, leb, ltb, eqb, length, get_or, take, drop, length-take}
use Rattle.std.proofs.Common.{get_or-take, take_at, drop_at, ltb-true, ltb-false}
use lib.ListN.{get_or-eq_default}
use Rattle.sizes.specs.Sizes.{piece-size}
use Rattle.rules.specs.Lists.{join}
use Rattle.rules.specs.Painting.{Piece}
use Rattle.cmd.specs.Pieces.{tag-of, index_of, piece-words, laid}
use Rattle.theorem_picture.specs.Turns.{piece-in, pieces-in}

layer-back : (b : Bool) (a : Option ℕ) → leb 3 (tag-of b a) ≡ b
layer-back false None = refl
layer-back false (Some a) = refl
layer-back true None = refl
layer-back true (Some a) = refl

alpha-back : (b : Bool) (a : Option ℕ) → cond (eqb (tag-of b a) 2 || eqb (tag-of b a) 4) (Some (index_of a)) None ≡ a
alpha-back false None = refl
alpha-back false (Some a) = refl
alpha-back true None = refl
alpha-back true (Some a) = refl

joined_back : (ps : List Piece) (ys : List ℕ) → pieces-in (length ps) (join piece-words ps ++ ys) ≡ ps
unfolding pieces-in
joined_back [] ys = refl
joined_back (p ∷ ps) ys = rw (layer-back p.layer p.alpha, alpha-back p.layer p.alpha, joined_back ps ys)

-- whatever list they are laid over
pub pieces-back : (ps : List Piece) (l : List ℕ) → pieces-in (length ps) (laid ps l) ≡ ps
pieces-back ps l = joined_back ps _

-- a piece is read from its own words
taken_at : (n : ℕ) (l : List ℕ) (j : ℕ) → get_or (take n l) j 0 ≡ cond (ltb j n) (get_or l j 0) 0
taken_at n l j = go (ltb j n) refl
  where
    go : (t : Bool) → ltb j n ≡ t → get_or (take n l) j 0 ≡ cond t (get_or l j 0) 0
    go true e = get_or-take n l j 0 (ltb-true j n e)
    go false e = get_or-eq_default (take n l) 0 (let h = ltb-false j n e in rw length-take (omega arith))

piece-own : (l : List ℕ) → piece-in (take piece-size l) ≡ piece-in l
piece-own l = simp (taken_at piece-size l)

-- .. and those after it from what follows
pub pieces-first : (own later : List ℕ) (n : ℕ) → length own ≡ piece-size → pieces-in (suc n) (own ++ later) ≡ piece-in own ∷ pieces-in n later
unfolding pieces-in
pieces-first own later n e =
    ap (λ (p : Piece). p ∷ pieces-in n (drop piece-size (own ++ later))) (sym (piece-own (own ++ later)) ∙ ap piece-in (take_at own later piece-size e))
    ∙ ap (λ (l : List ℕ). piece-in own ∷ pieces-in n l) (drop_at own later piece-size e)
