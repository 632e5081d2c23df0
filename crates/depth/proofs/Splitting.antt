-- What rule 7's definition says of each way through the split. Assumes nothing.
use Rattle.std.proofs.Common.{◌≡◌, refl, Bool, true, false, cond, List, [], ◌∷◌, ℕ, ◌≤◌, ◌<◌, ◌+◌, ◌-◌, ◌*◌, ◌/◌, mul-le-mul_right, mul-lt-mul_of_pos_right, mul-div_cancel, ltb, le-leb, Option, None, Some}
use borrow.Author.Tests.{lt-leb}
use Rattle.rules.specs.Lists.{keep}
use Rattle.rules.specs.Answers.{answer}
use Rattle.rules.specs.Spans.{Span, span}
use Rattle.rules.specs.Split.{Part, regular, buckets, split, split_answer}
use Rattle.span.specs.declared.TileSpan.{TileSpan}
use Rattle.depth.specs.Answers.{beside, piece_of}

kept : (t : Bool) (a b : ℕ) (ps : List Part) → beside (cond t (Some (record { first = a; end = b })) None) ps ≡ keep t (regular (span a b)) ps
kept true a b ps = refl
kept false a b ps = refl

-- the whole buckets of a span are those from a to b
module _ (w : ℕ) (some : 0 < w) (s : Span) (h₁ : s.first ≤ s.end) (h₂ : s.end ≤ 8192) (a b : ℕ) (e₁ : a ≡ (s.first + (w - 1)) / w) (e₂ : b ≡ s.end / w) where
  pub in_one : b ≤ a → answer 0 (regular s ∷ []) ≡ split_answer w s
  unfolding split split_answer
  in_one h = rw (← e₁, ← e₂, le-leb _ _ h₁, le-leb _ _ h₂, le-leb (b * w) (a * w) (mul-le-mul_right w h))

  -- a depth fill with its edges
  pub in_three : (p q : Option TileSpan) → a < b → p ≡ piece_of s.first (a * w) → q ≡ piece_of (b * w) s.end
      → answer 0 (beside p (buckets (span a b) ∷ beside q [])) ≡ split_answer w s
  unfolding split split_answer
  in_three p q h e₃ e₄ =
      rw (
        ← e₁,
        ← e₂,
        e₃,
        e₄,
        kept (ltb s.first (a * w)),
        kept (ltb (b * w) s.end),
        le-leb _ _ h₁,
        le-leb _ _ h₂,
        lt-leb (b * w) (a * w) (mul-lt-mul_of_pos_right h some),
        mul-div_cancel a some,
        mul-div_cancel b some,
      )
