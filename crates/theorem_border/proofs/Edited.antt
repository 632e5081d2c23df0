-- Editing one line of the screen at the border, from the same about the call at the words. Assumes nothing.
use Rattle.std.proofs.Common.{ℕ, ◌≡◌, sym, ap, ◌∙◌, true, List}
use Rattle.rules.specs.Recording.{File}
use Rattle.rules.specs.Answers.{Answer, Done}
use Rattle.rules.specs.Setups.{Setup}
use Rattle.screen.specs.Tables.{ScreenLent}
use Rattle.walk.specs.Recorded.{recorded}
use Rattle.rules_picture.specs.Turns.{from}
use Rattle.host.specs.Asked.{FileWords}
use Rattle.host.specs.State.{screen-words}
use Rattle.host.specs.declared.state.SetupWords.{SetupWords}
use Rattle.theorem_picture.specs.Edited as lent
use Rattle.theorem_picture.proofs.Edited as picture
use Rattle.theorem_border.specs.Hosted.{Host, Asks, Says, Call, recording-at, begin-at}
use Rattle.theorem_border.specs.Border.{log, finished}
use Rattle.theorem_border.specs.Edited.{EditedPair, LineWords, LinePieces}
use Rattle.theorem_border.specs.Held.{host-of}
use Rattle.theorem_border.proofs.Words.{Known, nothing, these, known, recording_on, recording-never}
use Rattle.theorem_border.proofs.Border.{finished-calls}

-- a done recording at a host's words is one at a screen's
record Lends (f : FileWords) (file : File) (w : SetupWords) (q : Setup) (h : Host) : Type 0 where
  words : ScreenLent
  done : (recorded file q words).number ≡ Done
  left : (recording-at f w h).value ≡ host-of (recorded file q words).value

lends : (f : FileWords) (file : File) (w : SetupWords) (q : Setup) (h : Host) → Says f file → Asks w q → (recording-at f w h).number ≡ Done → Known h
    → Lends f file w q h
lends f file w q h y a e (nothing n) = absurd (recording-never h n w q a f file y e)
lends f file w q h y a e (these l s) =
    let k = ap (recording-at f w) s ∙ recording_on w q a l f file y in
    record { words = l; done = sym (ap (λ (x : Answer Host). x.number) k) ∙ e; left = ap (λ (x : Answer Host). x.value) k }

module _ (f g : FileWords) (w : SetupWords) (q : Setup) (i : ℕ) (h k : Host) (e : EditedPair f g w q i h k) where
  abbrev own : Lends f e.file w q h
  own = lends f e.file w q h e.says_one e.asks e.one_done (known h)

  abbrev new : Lends g e.edit w q k
  new = lends g e.edit w q k e.says_other e.asks e.other_done (known k)

  pair : lent.EditedPair e.file e.edit q i own.words new.words
  pair = record { one = e.one; other = e.other; one_done = own.done; other_done = new.done; there = e.there; edited = e.edited }

  same : lent.SameLine (lent.frame-in q e.one) i (recorded e.file q own.words).value (recorded e.edit q new.words).value
  unfolding pair
  same = picture.line-words e.file e.edit q i own.words new.words pair

  one-pieces : (cs ds : List Call)
      → finished i cs (begin-at (recording-at f w h).value).value ≡ true → finished i ds (begin-at (recording-at g w k).value).value ≡ true
      → from i (log cs (begin-at (recording-at f w h).value).value) ≡ from i (log ds (begin-at (recording-at g w k).value).value)
  one-pieces cs ds fin end =
      let a = finished-calls i cs (recorded e.file q own.words).value (rw own.left at fin) in
      let b = finished-calls i ds (recorded e.edit q new.words).value (rw new.left at end) in
      ap (λ (x : Host). from i (log cs (begin-at x).value)) own.left
      ∙ a.gave
      ∙ picture.line-pieces e.file e.edit q i own.words new.words pair a.calls b.calls a.finished b.finished
      ∙ sym (ap (λ (x : Host). from i (log ds (begin-at x).value)) new.left ∙ b.gave)

pub line-words : LineWords
line-words f g w q i h k e =
    let s = same f g w q i h k e in
    rw ((own f g w q i h k e).left, (new f g w q i h k e).left)
    (record {
      row = s.row;
      state = ap screen-words s.screen;
      layers = s.layers;
      opacities = s.opacities;
      paint-attrs = s.paint-attrs;
      layer-attrs = s.layer-attrs;
      filter-paints = s.filter-paints;
    })

pub line-pieces : LinePieces
line-pieces = one-pieces
