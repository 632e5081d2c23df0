-- What holds of a row's painter from its beginning on, whatever number of steps were painted.
use Rattle.std.specs.Prelude.{ℕ, ◌+◌, ◌-◌, ◌≤◌, ◌≡◌, length, take}
use Rattle.rules.specs.Rows.{Row}
use Rattle.rules.specs.Painting.{Painter}
use Rattle.refine_row.specs.Encode.{state-of}
use Rattle.paint.specs.Summaries.{summary-at, Sound}
use Rattle.refine_paint.specs.Fair.{nesting-after}

-- n buckets, v tiles each, no more steps than the row has, the nesting of the commands that are painted, and depth words for which the summary is sound
pub record Going (v n : ℕ) (r : Row) (p : Painter) : Type 0 where
  pub wide : length p.buckets ≡ n
  pub steps : p.steps ≤ length r.fills + length r.commands
  pub nesting : p.nesting ≡ nesting-after 0 (take (p.steps - length r.fills) r.commands)
  pub sound : Sound v (summary-at (state-of r)) p.buckets
