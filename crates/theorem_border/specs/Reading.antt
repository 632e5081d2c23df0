-- What a host reads of a row without painting it, after any calls: the commands and depth fills of the row that its steps have built by the rules, each under its
-- number and none past the last, and how far the rules' painter of the row has come.
use Rattle.std.specs.Prelude.{ℕ, ◌≤◌, ◌<◌, ◌≡◌, Bool, true, false, List, length, get_or}
use Rattle.rules.specs.Answers.{answer, Done, BadRun}
use Rattle.rules.specs.Commands.{pop-buf}
use Rattle.rules.specs.Plans.{Frame, Step}
use Rattle.rules.specs.Painting.{no-fill}
use Rattle.rules.specs.Calls.{Canvas, painter-of}
use Rattle.screen.specs.Tables.{ScreenLent}
use Rattle.walk.specs.Steps.{rows_words}
use Rattle.paint.specs.StoredCmds.{lengths, gone}
use Rattle.theorem_picture.specs.Standing.{StandsBy}
use Rattle.theorem_picture.specs.Stored.{stored-row}
use Rattle.host.specs.Reading.{cmd-parts, depth-parts, lengths-parts, gone-parts, lengths_call, cmd_call, depth_call, progress_call}
use Rattle.theorem_border.specs.Hosted.{Host, HostedBy}
use Rattle.theorem_border.specs.Held.{host-of}

-- words of a whole canvas of the rules, whose screen the steps xs have built from the reset to f; if c is true, rows of it may have been compacted
pub record HostStandsBy (c : Bool) (f : Frame) (xs : List Step) (h : Host) : Type 0 where
  pub words : ScreenLent
  pub stands : StandsBy c f xs words
  pub same : h ≡ host-of words

-- Whatever calls a host has made, its words are such, ..
abbrev pub HostedStands : Type 0
HostedStands = (c : Bool) (f : Frame) (xs : List Step) (h : Host) → HostedBy c f xs h → HostStandsBy c f xs h

abbrev pub HostStands : Frame → List Step → Host → Type 0
HostStands = HostStandsBy true

-- (by the steps alone they are such words too, of the same canvas,)
abbrev pub AloneHostStands : Type 0
AloneHostStands = (f : Frame) (xs : List Step) (h : Host) (s : HostStandsBy false f xs h) → (t : HostStands f xs h) × (t.stands.canvas ≡ s.stands.canvas)

-- .. and there, for each row r of the canvas k, whatever stood in the result:
abbrev pub AtRows : (Canvas → ℕ → Host → List ℕ → Type 0) → Type 0
AtRows p =
    (f : Frame) (xs : List Step) (h : Host) (s : HostStands f xs h) (r : ℕ) → r < length s.stands.canvas.screen.rows
    → (old : List ℕ) → p s.stands.canvas r h old

-- how many commands and depth fills there are,
abbrev pub LengthsRead : Type 0
LengthsRead =
    AtRows (λ k r h old. lengths_call r (rows_words h.tables) h.state old
    ≡ answer Done (lengths-parts (lengths (length (stored-row k r).commands) (length (stored-row k r).fills))))

-- each command,
abbrev pub CmdsRead : Type 0
CmdsRead =
    AtRows (λ k r h old. (i : ℕ) → i < length (stored-row k r).commands
    → cmd_call r (rows_words h.tables) i h.state old ≡ answer Done (cmd-parts (get_or (stored-row k r).commands i pop-buf)))

abbrev pub NoCmdRead : Type 0
NoCmdRead =
    AtRows (λ k r h old. (i : ℕ) → length (stored-row k r).commands ≤ i → cmd_call r (rows_words h.tables) i h.state old ≡ answer BadRun old)

-- each depth fill,
abbrev pub DepthsRead : Type 0
DepthsRead =
    AtRows (λ k r h old. (i : ℕ) → i < length (stored-row k r).fills
    → depth_call r (rows_words h.tables) i h.state old ≡ answer Done (depth-parts (get_or (stored-row k r).fills i no-fill)))

abbrev pub NoDepthRead : Type 0
NoDepthRead =
    AtRows (λ k r h old. (i : ℕ) → length (stored-row k r).fills ≤ i → depth_call r (rows_words h.tables) i h.state old ≡ answer BadRun old)

-- and the steps that the painter has done, and its nesting.
abbrev pub ProgressRead : Type 0
ProgressRead =
    AtRows (λ k r h old. progress_call r h.tables.painting h.state old ≡ answer Done (gone-parts (gone (painter-of k r).steps (painter-of k r).nesting)))
