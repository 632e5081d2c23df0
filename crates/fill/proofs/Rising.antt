-- The rows of an ordered list's cut segments do not fall. Assumes nothing.
use Rattle.std.proofs.Common.{◌≡◌, true, List, [], ◌∷◌, ◌++◌, Option, None, Some, ℕ, ◌-◌, ◌/◌, ◌≤◌, arith}
use Rattle.std.proofs.lemmas.Bool.Decides.{nat_tests}
use Rattle.rules.specs.Lists.{join}
use Rattle.rules.specs.Boxes.{Box}
use Rattle.rules.specs.Spans.{span, Stretch, cut_to}
use Rattle.rules.specs.Segments.{Segment, follows, ordered-after, ordered, Cut, localised, on_row, stretch-of, cut_in}
use Rattle.rules.proofs.All.{both}

-- from row r on
pub data Rising : ℕ → List Cut → Type 0 where
  no_more : {r : ℕ} → Rising r []
  then : {r : ℕ} {k : Cut} {ks : List Cut} → r ≤ k.row → Rising k.row ks → Rising r (k ∷ ks)

lower : {r q : ℕ} {ks : List Cut} → r ≤ q → Rising q ks → Rising r ks
lower {r} h no_more = no_more
lower {r} h (then {r = q} {k = k} g a) = then {r = r} {k = k} (omega arith) a

-- one is not above the next
not-below : (s t : Segment) → follows s t ≡ true → s.row ≤ t.row
not-below s t e = grind (arith, nat_tests)

module _ (v b : Box) where
  at_row : {r : ℕ} (row : ℕ) (m : Option Stretch) {ls : List Cut} → r ≤ row - v.y0 / 4 → Rising (row - v.y0 / 4) ls → Rising r (localised v row m ++ ls)
  at_row row None h a = lower h a
  at_row row (Some k) h a = then h a

  on-top : {r : ℕ} (s : Segment) {ls : List Cut} → r ≤ s.row - v.y0 / 4 → Rising (s.row - v.y0 / 4) ls → Rising r (cut_in v b s ++ ls)
  unfolding cut_in
  on-top s h a = at_row s.row (on_row b s (cut_to (span b.x0 b.x1) (stretch-of s))) h a

  rises : (s : Segment) (ss : List Segment) → ordered-after s ss ≡ true → Rising (s.row - v.y0 / 4) (join (cut_in v b) ss)
  rises s [] e = no_more
  rises s (t ∷ ts) e =
      let h = both (follows s t) (ordered-after t ts) e in
      on-top t (omega (arith, not-below s t h.0)) (rises t ts h.1)

  pub rising : (ss : List Segment) → ordered ss ≡ true → Rising 0 (join (cut_in v b) ss)
  unfolding ordered
  rising [] e = no_more
  rising (s ∷ ss) e = on-top s (omega arith) (rises s ss e)
