-- A host's words are those of a screen that calls below the border have reached.
use Rattle.std.specs.Prelude.{◌≡◌, Bool, true, List}
use Rattle.rules.specs.Plans.{Frame, Step}
use Rattle.screen.specs.Tables.{ScreenLent}
use Rattle.theorem_picture.specs.Reached.{ReachedBy}
use Rattle.host.specs.State.{screen-words}
use Rattle.theorem_border.specs.Hosted.{Host, host, HostedBy}

-- the words of a screen and its tables
abbrev pub host-of : ScreenLent → Host
host-of l = host (screen-words l.screen) l.tables

-- words that a screen reached by the steps xs has; if c is true, rows of it may have been compacted
pub record HoldsBy (c : Bool) (f : Frame) (xs : List Step) (h : Host) : Type 0 where
  pub words : ScreenLent
  pub reached : ReachedBy c f xs words
  pub same : h ≡ host-of words

abbrev pub Holds : Frame → List Step → Host → Type 0
Holds = HoldsBy true

-- Whatever calls a host has made, its words are those of a reached screen, by the same steps.
abbrev pub HostedReached : Type 0
HostedReached = (c : Bool) (f : Frame) (xs : List Step) (h : Host) → HostedBy c f xs h → HoldsBy c f xs h
