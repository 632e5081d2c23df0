-- What is known of a recording that the recording call accepted: its frame is good, and so is every record; its walk is done to the end.
use Rattle.std.proofs.Common.{ℕ, ◌≡◌, refl, Bool, true, false, cond, eqb, eqb-true}
use borrow.Author.Tests.{eqb-false}
use Rattle.rules.specs.Answers.{Answer, answer, settle, Done}
use Rattle.rules.specs.Boxes.{good_viewport}
use Rattle.rules.specs.Plans.{Frame}
use Rattle.rules.specs.Setups.{Setup, frame}
use Rattle.rules.specs.Recording.{Recording}
use Rattle.rules.specs.Walk.{◌then◌, go_on, walk-all}
use Rattle.screen.specs.Screens.{fresh-screen}
use Rattle.screen.specs.Judging.{judged_reset}
use Rattle.screen.specs.Tables.{ScreenLent, screen_lent, lengths, cleared, reset_to}
use Rattle.screen.proofs.Passed.{reset-says}
use Rattle.file.specs.Judging.{judged}
use Rattle.walk.specs.Steps.{call_at}
use Rattle.walk.specs.Recorded.{judging, played, recorded-in}

-- two steps in a row are done only if each is
module _ {S : Type 0} (f g : S → Answer S) (s : S) where
  both-done : ((f then g) s).number ≡ Done → ((f s).number ≡ Done) × ((g (f s).value).number ≡ Done)
  unfolding ◌then◌
  both-done = go (eqb (f s).number Done) refl
    where
      go :
          (b : Bool)
          → eqb (f s).number Done ≡ b
          → (go_on b (f s) g).number ≡ Done
          → ((f s).number ≡ Done) × ((g (f s).value).number ≡ Done)
      go true q z = (eqb-true (f s).number Done q, z)
      go false q z = absurd (eqb-false (f s).number Done q z)

settled : {S : Type 0} (n : ℕ) (s t : S) → (settle n s t).number ≡ Done → n ≡ Done
settled {S} n s t = go (eqb n Done) refl
  where
    go : (b : Bool) → eqb n Done ≡ b → (cond {A = Answer S} b (answer Done t) (answer n s)).number ≡ Done → n ≡ Done
    go true q z = eqb-true n Done q
    go false q z = z

module _ (r : Recording) (q : Setup) (l : ScreenLent) (z : (recorded-in r q l).number ≡ Done) where
  abbrev f : Frame
  f = frame q r.viewport

  abbrev pub start : Answer ScreenLent
  start = reset_to f l

  halves : (start.number ≡ Done) × ((played r start.value).number ≡ Done)
  unfolding recorded-in
  halves = both-done (reset_to f) (played r) l z

  pub reset-judged : judged_reset f (lengths l.tables) ≡ Done
  unfolding reset_to
  reset-judged = settled (judged_reset f (lengths l.tables)) l (screen_lent (fresh-screen f) (cleared f l.tables)) halves.0

  pub good-frame : good_viewport f.viewport ≡ true
  good-frame = (reset-says f (lengths l.tables) reset-judged).0

  judged-walked : ((judging r start.value).number ≡ Done) × ((walk-all ScreenLent call_at r start.value).number ≡ Done)
  unfolding played
  judged-walked = both-done (judging r) (walk-all ScreenLent call_at r) start.value (go (eqb a.number Done) refl halves.1)
    where
      a : Answer ScreenLent
      a = (judging r then walk-all ScreenLent call_at r) start.value

      go : (b : Bool) → eqb a.number Done ≡ b → (cond b a (answer a.number start.value)).number ≡ Done → a.number ≡ Done
      go true q e = e
      go false q e = e

  pub records-judged : judged r ≡ Done
  records-judged = judged-walked.0

  pub walk-done : (walk-all ScreenLent call_at r start.value).number ≡ Done
  walk-done = judged-walked.1
