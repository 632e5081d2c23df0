-- Laws of meetings and cuts, for this crate and its callers.
use Rattle.std.proofs.Common.{◌≡◌, refl, Bool, true, false, cond, Option, None, Some, ℕ, ◌≤◌, ◌<◌, ◌-◌, arith, ltb, ltb-true}
use Rattle.rules.specs.Spans.{Span, common, meeting}
use Rattle.span.specs.Spans.{Moves}

-- what two spans have in common lies in the first, and isn't empty
pub record Within (u s : Span) : Type 0 where
  pub starts : s.first ≤ u.first
  pub wide : u.first < u.end
  pub ends : u.end ≤ s.end

inside : (s t : Span) → (common s t).first < (common s t).end → Within (common s t) s
inside s t h = record { starts = omega arith; wide = h; ends = omega arith }

by-test : (s t u : Span) (b : Bool)
    → ltb (common s t).first (common s t).end ≡ b → Some u ≡ cond b (Some (common s t)) None → Within u s
by-test s t u true q p =
    let h : u ≡ common s t = cc in
    rw h (inside s t (ltb-true _ _ q))
by-test s t u false q p =
    let z : ◌≡◌ {A = ℕ} 0 1 = cc in
    absurd (omega arith)

pub within : (s t u : Span) → Some u ≡ meeting s t → Within u s
unfolding meeting
within s t u e = by-test s t u _ refl e

-- an index that can move over the whole span can move to any place in it
pub moves_within : (a : Option ℕ) (u s : Span) → Within u s → Moves a (s.end - s.first) → Moves a (u.first - s.first)
moves_within None u s w p = tt
moves_within (Some a) u s w p = omega arith
