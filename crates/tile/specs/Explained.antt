-- Why a tile of a recording shows what it shows, at a screen and all its words: the recording call, then the tile's story.
use Rattle.std.specs.Prelude.{ℕ, ◌+◌, ◌≡◌, cond, List, replicate, eqb}
use Rattle.std.specs.Prelude.{Option, None, Some, Result, Ok, Err}
use Rattle.sizes.specs.Sizes.{line-table}
use Rattle.sizes.specs.declared.answers.Refusal.{Refusal}
use Rattle.rules.specs.Answers.{Answer, answer, Done, BadForm, BadRun}
use Rattle.rules.specs.Boxes.{Box}
use Rattle.rules.specs.Plans.{Frame, bucket}
use Rattle.rules.specs.Setups.{Setup, frame}
use Rattle.rules.specs.Recording.{Recording, File, parsed, recording}
use Rattle.rules.specs.Walk.{walk-all}
use Rattle.rules_reason.specs.Answers.{off-screen}
use Rattle.rules_reason.specs.Reasons.{Reason, unknown-attribute, Asked}
use Rattle.screen.specs.Tables.{ScreenLent}
use Rattle.walk.specs.Recorded.{recorded}
use Rattle.tile.specs.Telling.{Telling, tell-at, nothing-told}
use Rattle.tile.specs.declared.reason.Reason as said
use Rattle.tile.specs.Reasons.{reason-of}
use Rattle.tile.specs.Reading.{reason-read}

-- what the call gives: its number, the screen with all its words, the reason. With a refusal the reason says nothing
pub record Explained : Type 0 where
  pub number : ℕ
  pub lent : ScreenLent
  pub reason : Reason

abbrev pub explained-as : ℕ → ScreenLent → Reason → Explained
explained-as n l r = record { number = n; lent = l; reason = r }

abbrev pub no-reason : ℕ → ScreenLent → Explained
no-reason n l = explained-as n l unknown-attribute

-- .. and what the code's result says
abbrev pub reason_said : Result said.Reason Refusal → Reason
reason_said (Ok r) = reason-of r
reason_said (Err _) = unknown-attribute

-- the story of a tile of a recording's screen, which has the viewport v and w tiles a bucket, into blank lines
unfoldable pub told_of : ℕ → Box → Recording → ℕ → ℕ → Answer Telling
told_of w v r row tile = walk-all Telling (tell-at w v row tile) r (nothing-told (replicate line-table 0))

-- the reason that a story gives
abbrev pub reason-told : Asked → Answer Telling → ScreenLent → Explained
reason-told a s l =
    cond (eqb s.number Done) (explained-as Done l (reason-read a s.value.lines (s.value.paints + s.value.layers)))
    (no-reason s.number l)

-- an accepted recording
unfoldable pub explained-of : Frame → Recording → ℕ → ℕ → Asked → ScreenLent → Explained
explained-of f r row tile a l =
    cond (off-screen f.viewport row tile) (no-reason BadRun l) (reason-told a (told_of (bucket f) f.viewport r row tile) l)

abbrev pub explained-in : Setup → Option (List (List (List ℕ))) → ℕ → ℕ → Asked → ScreenLent → Explained
explained-in q None row tile a l = no-reason BadForm l
explained-in q (Some ss) row tile a l = let r = recording ss in explained-of (frame q r.viewport) r row tile a l

-- A file: the recording's own number first; then 12; then the reason. The words are what the recording call leaves
unfoldable pub explained : File → Setup → ℕ → ℕ → Asked → ScreenLent → Explained
explained ws q row tile a l =
    let b = recorded ws q l in
    cond (eqb b.number Done) (explained-in q (parsed ws) row tile a b.value) (no-reason b.number b.value)

-- the recording call accepted a file in a setup
pub record Accepted (ws : File) (q : Setup) : Type 0 where
  pub before : ScreenLent
  pub after : ScreenLent
  pub same : answer Done after ≡ recorded ws q before
