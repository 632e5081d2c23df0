-- What is read and counted of a stream.
use Rattle.std.specs.Prelude.{ℕ, ◌≡◌, ◌≤◌, ◌<◌, List, length, map, take, Option, None, Some}
use Rattle.rules_figures.specs.Figures as rule
use Rattle.text_programs.specs.Arguments.{ReadAs}
use Rattle.text_programs.specs.Streams.{first_item, after_item}
use Rattle.tally.specs.declared.counts.Figures.{Figures}
use Rattle.tally.specs.Counts.{figures-of}
use Rattle.run_figures.specs.Printed.{recordings, item_figures}

-- The bytes that were read of the next recording stand first in cs, as far as there is room; or no whole head was left.
abbrev pub NextRead : List ℕ → Option (List ℕ) → Option ℕ → List ℕ → Type 0
NextRead bs new None cs = length bs < 4
NextRead bs new (Some n) cs = (4 ≤ length bs) × (new ≡ Some (after_item 4 bs)) × (take n cs ≡ take (length cs) (first_item 4 bs).file)

-- the figures of the first n recordings that were counted
abbrev pub first-figures : ℕ → List Figures → List rule.Figures
first-figures n fs = map figures-of (take n fs)

-- Those of all recordings stand first in fs; or there are more than it has room for.
abbrev pub StreamRead : ReadAs → List ℕ → Option ℕ → List Figures → Type 0
StreamRead r stream None fs = length fs < length (recordings stream)
StreamRead r stream (Some n) fs = (length (recordings stream) ≤ length fs) × (first-figures n fs ≡ map (item_figures r) (recordings stream))
