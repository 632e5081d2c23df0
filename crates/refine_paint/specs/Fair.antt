-- What holds of every row that a reset and steps make, and painting reads: its commands and depth fills are those that words can stand for,
-- their attributes are there with panels and ids that draws took, buffers are balanced, and the summary includes each depth fill.
use Rattle.std.specs.Prelude.{ℕ, suc, ◌-◌, ◌<◌, ◌≡◌, true, List, [], ◌∷◌, length, get_or}
use Rattle.sizes.specs.Sizes.{most-layers}
use Rattle.rules.specs.Depth.{Summary}
use Rattle.rules.specs.Commands.{Command, paint-fill, layer-fill, push-buf, pop-buf, DepthFill}
use Rattle.rules.specs.Attributes.{Attrs}
use Rattle.rules.specs.Rows.{Row, Level, fresh-row}
use Rattle.rules.specs.Plans.{bucket, buckets-across}
use Rattle.rules.specs.Steps.{Screen}
use Rattle.rules.specs.Painting.{paint-id}
use Rattle.rules.proofs.All.{All}
use Rattle.cmd.specs.Good.{GoodCommand, GoodDepthFill, GoodPush}
use Rattle.paint.specs.Summaries.{Included}
use Rattle.paint.specs.Painting.{good-paint, good-layer}

-- a command's attribute, if it has one, is there, with a panel and an id from 1 to 1,048,576
abbrev pub Attributed : Attrs → Command → Type 0
Attributed a (paint-fill s x i) = good-paint a i ≡ true
Attributed a (layer-fill s x i) = good-layer a i ≡ true
Attributed a (push-buf s) = Unit {0}
Attributed a pop-buf = Unit {0}

pub record FairCommand (a : Attrs) (c : Command) : Type 0 where
  pub good : GoodCommand c
  pub attributed : Attributed a c

-- a depth fill of a row of n buckets, v tiles each, under the row's summary u
pub record FairFill (v : ℕ) (a : Attrs) (n : ℕ) (u : Summary) (f : DepthFill) : Type 0 where
  pub good : GoodDepthFill n f
  pub attributed : good-paint a f.attribute ≡ true
  pub included : Included v u f.buckets (paint-id a f.attribute)

-- from nesting n on, no buffer is pushed at nesting 16 and none popped at 0
abbrev pub Nested : ℕ → List Command → Type 0
Nested n [] = Unit {0}
Nested n (paint-fill s a i ∷ cs) = Nested n cs
Nested n (layer-fill s a i ∷ cs) = Nested n cs
Nested n (push-buf s ∷ cs) = (n < most-layers) × Nested (suc n) cs
Nested n (pop-buf ∷ cs) = (0 < n) × Nested (n - 1) cs

-- the nesting after commands
abbrev pub nesting-after : ℕ → List Command → ℕ
nesting-after n [] = n
nesting-after n (paint-fill s a i ∷ cs) = nesting-after n cs
nesting-after n (layer-fill s a i ∷ cs) = nesting-after n cs
nesting-after n (push-buf s ∷ cs) = nesting-after (suc n) cs
nesting-after n (pop-buf ∷ cs) = nesting-after (n - 1) cs

pub record Fair (v : ℕ) (a : Attrs) (n : ℕ) (r : Row) : Type 0 where
  pub commands : All (FairCommand a) r.commands
  pub fills : All (FairFill v a n r.depth) r.fills
  pub unions : All (λ (l : Level). GoodPush l.union) r.levels
  pub nested : Nested 0 r.commands
  pub levels : nesting-after 0 r.commands ≡ length r.levels

-- every row of a screen, at its own width
abbrev pub FairRows : Screen Row → Type 0
FairRows s = (i : ℕ) → Fair (bucket s.state.frame) s.state.attrs (buckets-across s.state.frame) (get_or s.rows i fresh-row)
