-- What `coarse_bucket_recording` leaves, and what a done `coarse_reset` was asked for, from the same about the call at the words. Assumes nothing.
use Rattle.std.proofs.Common.{◌≤◌, ◌<◌, arith, ◌≡◌, sym, ap, ◌∙◌}
use Rattle.rules.specs.Recording.{File}
use Rattle.rules.specs.Answers.{Answer, Done}
use Rattle.rules.specs.Setups.{Setup}
use Rattle.rect.specs.declared.Rect.{Rect}
use Rattle.screen.specs.Tables.{ScreenLent}
use Rattle.walk.specs.Recorded.{recorded}
use Rattle.host.specs.Asked.{FileWords}
use Rattle.host.specs.declared.state.SetupWords.{SetupWords}
use Rattle.theorem_picture.specs.Recorded as lent
use Rattle.theorem_picture.proofs.Recorded.{recorded-reached, recorded-refused}
use Rattle.sizes.proofs.Refusals.{not_done}
use Rattle.theorem_border.specs.Hosted.{Host, Asks, Says, by-recording, reset-at, recording-at, begin-at}
use Rattle.theorem_border.specs.Border.{Accepted, Refused, kept, emptied}
use Rattle.theorem_border.specs.Held.{host-of}
use Rattle.theorem_border.proofs.Words.{hosted, Asking, for-none, for_some, asking, Telling, of-none, of_some, telling, recording-untold, reset-none, recording-none, unasked-late, reset-on, recording_on, begin-on, Known, nothing, these, known, recording-never, recording-left}

-- A done reset was asked for a setup: `Hosted` has a case for it.
pub reset-asks : (v : Rect) (w : SetupWords) (h : Host) → (reset-at v w h).number ≡ Done → (q : Setup) × Asks w q
reset-asks v w h e = go (asking w)
  where
    go : Asking w → (q : Setup) × Asks w q
    go (for-none r n) = let z = sym (ap (λ (a : Answer Host). a.number) (reset-none w r n h v)) ∙ e in absurd (not_done r z)
    go (for_some q a) = (q, a)

-- for the file that is told
module _ (f : FileWords) (w : SetupWords) (file : File) (y : Says f file) where
  -- in the setup that is asked for
  module _ (q : Setup) (a : Asks w q) where
    accepted-in : (h : Host) → Known h → (recording-at f w h).number ≡ Done → Accepted f w h
    accepted-in h (nothing n) e = absurd (recording-never h n w q a f file y e)
    accepted-in h (these l s) e =
        let k : recording-at f w h ≡ hosted (recorded file q l) = ap (recording-at f w) s ∙ recording_on w q a l f file y in
        let r = recorded-reached file q l (sym (ap (λ (a : Answer Host). a.number) k) ∙ e) in
        record {
          file = file;
          says = y;
          setup = q;
          asks = a;
          words = r.words;
          hosted = by-recording f file w q h r.words y a e;
          begins = ap (λ (a : Answer Host). (begin-at a.value).number) k ∙ ap (λ (a : Answer Host). a.number) (begin-on (recorded file q l).value) ∙ r.begins;
        }

    -- at a screen's words
    refused-on : (l : ScreenLent) → lent.Refused q file l (recorded file q l) → Refused f w (host-of l)
    refused-on l (lent.kept e) = kept (ap (λ (a : Answer Host). a.value) (recording_on w q a l f file y) ∙ ap host-of e)
    refused-on l (lent.emptied r n d e) =
        let k = recording_on w q a l f file y in
        let p = reset-on w q a l _ in
        emptied file y r (rw (ap (λ (a : Answer Host). a.number) k) n) (ap (λ (a : Answer Host). a.number) p ∙ d)
        (ap (λ (a : Answer Host). a.value) k ∙ ap host-of e ∙ sym (ap (λ (a : Answer Host). a.value) p))

    refused-in : (h : Host) → Known h → ((recording-at f w h).number ≡ Done → ⊥) → Refused f w h
    refused-in h (nothing n) z = kept (recording-left h n w q a f file y)
    refused-in h (these l s) z =
        let k : recording-at f w h ≡ hosted (recorded file q l) = ap (recording-at f w) s ∙ recording_on w q a l f file y in
        rw s (refused-on l (recorded-refused file q l (λ e. z (ap (λ (a : Answer Host). a.number) k ∙ e))))

  accepted-told : (h : Host) → Asking w → (recording-at f w h).number ≡ Done → Accepted f w h
  accepted-told h (for-none r n) e = absurd (unasked-late r file (sym (ap (λ (a : Answer Host). a.number) (recording-none w r n h f file y)) ∙ e))
  accepted-told h (for_some q a) e = accepted-in q a h (known h) e

  refused-told : (h : Host) → Asking w → ((recording-at f w h).number ≡ Done → ⊥) → Refused f w h
  refused-told h (for-none r n) z = kept (ap (λ (a : Answer Host). a.value) (recording-none w r n h f file y))
  refused-told h (for_some q a) z = refused-in q a h (known h) z

module _ (f : FileWords) (w : SetupWords) where
  accepted : (h : Host) → Telling f → (recording-at f w h).number ≡ Done → Accepted f w h
  accepted h (of-none r n) e = absurd (not_done r (sym (ap (λ (a : Answer Host). a.number) (recording-untold f r n w h)) ∙ e))
  accepted h (of_some file y) e = accepted-told f w file y h (asking w) e

  refused : (h : Host) → Telling f → ((recording-at f w h).number ≡ Done → ⊥) → Refused f w h
  refused h (of-none r n) z = kept (ap (λ (a : Answer Host). a.value) (recording-untold f r n w h))
  refused h (of_some file y) z = refused-told f w file y h (asking w) z

  module _ (h : Host) where
    -- An accepted recording leaves hosted words, reached by the steps of its walk, and painting can begin there: `border-picture` speaks of it.
    pub recording-accepted : (recording-at f w h).number ≡ Done → Accepted f w h
    recording-accepted = accepted h (telling f)

    -- A refused one leaves every word as it was, or what a reset to the file's viewport leaves.
    pub recording-refused : ((recording-at f w h).number ≡ Done → ⊥) → Refused f w h
    recording-refused = refused h (telling f)

    -- With 1, 2 or 3 it leaves them as they were.
    pub recording-early : 0 < (recording-at f w h).number → (recording-at f w h).number ≤ 3 → (recording-at f w h).value ≡ h
    recording-early lo hi = go (recording-refused (λ e. omega arith))
      where
        go : Refused f w h → (recording-at f w h).value ≡ h
        go (kept e) = e
        go (emptied file y r n d e) = absurd (omega arith)
