-- The code's answers as the rules' answers.
use Rattle.std.specs.Prelude.{Result, Ok, Err, option_map, ℕ, Bool, false, cond, List, [], ◌∷◌, ltb}
use Rattle.std.specs.Prelude.{Option, None, Some}
use Rattle.sizes.specs.declared.answers.Refusal.{Refusal}
use Rattle.sizes.specs.Refusals.{number_of}
use Rattle.rules.specs.Answers as rules
use Rattle.rules.specs.Split.{Part, regular, buckets}
use Rattle.rules.specs.Depth.{Summary}
use Rattle.span.specs.declared.TileSpan.{TileSpan}
use Rattle.span.specs.Spans as spans
use Rattle.depth.specs.declared.split.Split.{Split}
use Rattle.depth.specs.declared.split.Split.TheVariants as split
use Rattle.depth.specs.declared.state.DepthState.{DepthState}

-- a regular piece before ps, where there is one
abbrev pub beside : Option TileSpan → List Part → List Part
beside None ps = ps
beside (Some s) ps = regular (spans.tiles s) ∷ ps

abbrev pub parts_of : Split → List Part
parts_of (split.Whole s) = regular (spans.tiles s) ∷ []
parts_of (split.Opaque a b c) = beside a (buckets (spans.buckets b) ∷ beside c [])

-- a result as the rules' answer; d stands for the value of a refusal
abbrev pub answered : {A B : Type 0} → (A → B) → B → Result A Refusal → rules.Answer B
answered f d (Ok x) = rules.answer 0 (f x)
answered f d (Err r) = rules.answer (number_of r) d

abbrev pub split_of : Result Split Refusal → rules.Answer (List Part)
split_of r = answered parts_of [] r

abbrev pub skip_of : Result Bool Refusal → rules.Answer Bool
skip_of r = answered (λ yes. yes) false r

abbrev pub hidden_of : Result Bool Refusal → rules.Answer Bool
hidden_of r = answered (λ yes. yes) false r

abbrev pub piece_of : ℕ → ℕ → Option TileSpan
piece_of a b = cond (ltb a b) (Some (record { first = a; end = b })) None

abbrev pub summary : DepthState → Summary
summary d = record { union = option_map spans.tiles d.bounds; largest = d.max_draw_id }
