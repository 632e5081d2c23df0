-- A file of edition d that becomes one of edition e, and the calls that take either, in their own editions: at every screen and all its words, in every setup. `recorded` and `explained` are
-- what the contracts of `bucket_recording` and `why` name.
use Rattle.std.specs.Prelude.{ℕ, ◌≡◌, List}
use Rattle.sizes.specs.declared.edition.Edition.{Edition}
use Rattle.rules.specs.Setups.{Setup, Mode}
use Rattle.rules.specs.Recording.{in-edition}
use Rattle.rules_reason.specs.Reasons.{Asked}
use Rattle.screen.specs.Tables.{ScreenLent}
use Rattle.walk.specs.Recorded.{recorded}
use Rattle.tile.specs.Explained.{explained}
use Rattle.convert.specs.Theorems.{Becomes}

-- the recording call leaves the same number, the same screen and the same words, ..
abbrev pub SameCall : Type 0
SameCall = (d e : Edition) (m : Mode) (ws vs : List ℕ) → Becomes m d e ws vs
    → (q : Setup) (l : ScreenLent) → recorded (in-edition e vs) q l ≡ recorded (in-edition d ws) q l

-- .. and `why` also gives the same reason
abbrev pub SameReason : Type 0
SameReason = (d e : Edition) (m : Mode) (ws vs : List ℕ) → Becomes m d e ws vs
    → (q : Setup) (row tile : ℕ) (a : Asked) (l : ScreenLent) → explained (in-edition e vs) q row tile a l ≡ explained (in-edition d ws) q row tile a l
