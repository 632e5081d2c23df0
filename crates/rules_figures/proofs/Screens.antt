-- A screen that steps have built from its reset is the only one, and has the frame and the rows of that reset.
use Rattle.std.proofs.Common.{◌≡◌, refl, ◌∙◌, ap, List, length}
use lib.ListN.{length-replicate}
use Rattle.rules.specs.Boxes.{rows_of}
use Rattle.rules.specs.Rows.{Row, row-ops, fresh-row}
use Rattle.rules.specs.Plans.{Frame, bucket, Step, plan}
use Rattle.rules.specs.Steps.{Screen, reset, done, touched}
use Rattle.rules.proofs.laws.Changes.{puts-length}
use Rattle.rules_picture.specs.Built.{Built, no_step, then}
use Rattle.rules_picture.proofs.Stepped.{call-done}
use Rattle.rules_picture.proofs.Picture.{built-frame}

-- steps build one screen
pub same-built : {xs : List Step} {s u v : Screen Row} → Built xs s u → Built xs s v → u ≡ v
same-built no_step no_step = refl
same-built (then e b) (then d c) = same-built b c

-- .. and keep how many rows there are
built-rows : {xs : List Step} {s v : Screen Row} → Built xs s v → length v.rows ≡ length s.rows
unfolding done
built-rows no_step = refl
built-rows (then {x = x} {s = s} e b) =
    let p = plan x (touched Row row-ops (length s.state.layers) 0 s.rows) s.state in
    built-rows b ∙ ap (λ (k : Screen Row). length k.rows) (call-done x s e).1 ∙ puts-length Row row-ops (bucket s.state.frame) (length p.layers) p.puts s.rows

module _ (f : Frame) {xs : List Step} {u : Screen Row} (b : Built xs (reset fresh-row f) u) where
  pub rows-are : length u.rows ≡ rows_of f.viewport
  unfolding reset
  rows-are = built-rows b ∙ length-replicate (rows_of f.viewport) fresh-row

  pub frame-is : u.state.frame ≡ f
  unfolding reset
  frame-is = built-frame b
