-- The depth fills and the commands of a row's words, judged as painting judges them, and the ids that the depth fills leave.
use Rattle.std.specs.Prelude.{Option, None, Some, ℕ, zero, suc, Bool, true, List, [], ◌∷◌, option_map, option_and_then}
use Rattle.rules.specs.Commands.{Command, paint-fill, layer-fill, push-buf, pop-buf, DepthFill}
use Rattle.rules.specs.Attributes.{Attrs}
use Rattle.rules.specs.Painting.{paint-id}
use Rattle.rules.specs.Depth.{written}
use Rattle.cmd.specs.Reading.{only_if}
use Rattle.paint.specs.Painting.{good-paint, good-layer, depth-fill-at, command-at}

-- what f gives at the j places from place k on; none where it gives none at one of them
unfoldable pub all-from : {A : Type 0} → (ℕ → Option A) → ℕ → ℕ → Option (List A)
all-from f k zero = Some []
all-from f k (suc j) = option_and_then (λ x. option_map (λ xs. x ∷ xs) (all-from f (suc k) j)) (f k)

-- a depth fill whose attribute is good
abbrev pub good-fill : Attrs → Option DepthFill → Option DepthFill
good-fill a None = None
good-fill a (Some f) = only_if (good-paint a f.attribute) f

-- .. a command, whose attribute is, if it is a fill
abbrev pub names-good : Attrs → Command → Bool
names-good a (paint-fill s x i) = good-paint a i
names-good a (layer-fill s x i) = good-layer a i
names-good a (push-buf s) = true
names-good a pop-buf = true

abbrev pub good-command : Attrs → Option Command → Option Command
good-command a None = None
good-command a (Some c) = only_if (names-good a c) c

-- j depth fills from place k on, in a row of n buckets, and j commands from place k on; none where one of them is forged
abbrev pub fills-from : Attrs → ℕ → List ℕ → ℕ → ℕ → Option (List DepthFill)
fills-from a n ws = all-from (λ k. good-fill a (depth-fill-at n ws k))

abbrev pub commands-from : Attrs → List ℕ → ℕ → ℕ → Option (List Command)
commands-from a ws = all-from (λ k. good-command a (command-at ws k))

-- the ids after one depth fill more
abbrev pub one-written : Attrs → List ℕ → DepthFill → List ℕ
one-written a bs f = written bs (paint-id a f.attribute) f.buckets
