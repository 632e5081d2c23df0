-- What is known of a file that the recording call accepted: its frame's viewport is good, and so is every record.
use Rattle.std.proofs.Common.{◌≡◌, sym, ap, ◌∙◌, true, Some}
use Rattle.rules.specs.Answers.{Answer, Done}
use Rattle.rules.specs.Boxes.{good_viewport}
use Rattle.rules.specs.Setups.{Setup, frame}
use Rattle.rules.specs.Recording.{File, parsed}
use Rattle.screen.specs.Tables.{ScreenLent}
use Rattle.file.specs.declared.recording.Recording.{Recording}
use Rattle.file.specs.Held.{held, FitsIn, recording_of}
use Rattle.file.proofs.Laws.{sound}
use Rattle.walk.specs.Recorded.{recorded-in}
use Rattle.walk.proofs.Accepted.{good-frame, records-judged}
use Rattle.walk.proofs.Recordings.{as-said}
use Rattle.walk.specs.Ready.{ReadyIn}
use Rattle.tile.specs.Explained.{Accepted}

module _ (r : Recording) (ws : File) (g : FitsIn r × (recording_of (parsed ws) ≡ Some (held r))) (q : Setup) (by : Accepted ws q) where
  done : (recorded-in (held r) q by.before).number ≡ Done
  done = sym (ap (λ (a : Answer ScreenLent). a.number) (by.same ∙ as-said (held r) ws g.1 q by.before))

  pub given-view : good_viewport (frame q (held r).viewport).viewport ≡ true
  given-view = good-frame (held r) q by.before done

  pub given-ready : ReadyIn r
  given-ready = record { fits = g.0; good = (sound (held r) (records-judged (held r) q by.before done)).records }
