-- A screen used again by a host.
use Rattle.std.specs.Prelude.{◌≡◌, List}
use Rattle.rules.specs.Plans.{Step}
use Rattle.rules.specs.Setups.{Setup, frame}
use Rattle.rect.specs.declared.Rect.{Rect}
use Rattle.rect.specs.Rects.{box_of}
use Rattle.host.specs.declared.state.SetupWords.{SetupWords}
use Rattle.theorem_border.specs.Hosted.{Host, Asks, Hosted, reset-at, used-at}

-- Whatever calls a host has made since a reset, `coarse_reset_used` answers and leaves what `coarse_reset` of that viewport in that setup does.
abbrev pub UsedHosted : Type 0
UsedHosted =
    (v : Rect) (w : SetupWords) (q : Setup) (xs : List Step) (h : Host) → Asks w q → Hosted (frame q (box_of v)) xs h → used-at h ≡ reset-at v w h
