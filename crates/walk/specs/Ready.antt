-- What the walk goes by.
use Rattle.std.specs.Prelude.{ℕ, ◌≡◌, ◌<◌, true, length, get_or}
use Rattle.rules.specs.Recording as rule
use Rattle.rules.specs.Recording.{good-records, good-order}
use Rattle.file.specs.Held.{held, FitsIn}
use Rattle.file.specs.Records.{layer-of}
use Rattle.file.specs.declared.records.Layer.{Layer}
use Rattle.file.specs.declared.recording.Recording.{Recording}

-- the form is good, and so is every record
pub record ReadyIn (r : Recording) : Type 0 where
  pub fits : FitsIn r
  pub good : good-records (held r) ≡ true

-- .. and every list is in order
pub record JudgedIn (r : Recording) : Type 0 where
  pub fits : FitsIn r
  pub good : good-records (held r) ≡ true
  pub order : good-order (held r) ≡ true

-- one of the recording's layers
abbrev pub IsLayer : rule.Recording → Layer → Type 0
IsLayer r l = (i : ℕ) × (i < length r.layers) × ((d : rule.LayerRec) → layer-of l ≡ get_or r.layers i d)
