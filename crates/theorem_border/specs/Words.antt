-- A screen as the state's 17 words, and what tables a reset asks for.
use Rattle.std.specs.Prelude.{ℕ, ◌≡◌, Bool, true, List, Some}
use Rattle.rules.specs.Answers.{Done}
use Rattle.rect.specs.declared.Rect.{Rect}
use Rattle.screen.specs.declared.Screen.{Screen}
use Rattle.screen.specs.Tables.{lengths}
use Rattle.host.specs.declared.state.SetupWords.{SetupWords}
use Rattle.host.specs.State.{screen-words, screen_of}
use Rattle.host.specs.Sizes.{length-words, size_call}
use Rattle.theorem_border.specs.Hosted.{Host, reset-at}

-- The words of a screen stand for that screen, ..
abbrev pub ScreenReadBack : Type 0
ScreenReadBack = (s : Screen) → screen_of true (screen-words s) ≡ Some s

-- .. and words that stand for a screen are its words.
abbrev pub WordsWrittenBack : Type 0
WordsWrittenBack = (good : Bool) (st : List ℕ) (s : Screen) → Some s ≡ screen_of good st → screen-words s ≡ st

-- Where `coarse_sizes` answers 0, a reset in the same setup is done on tables of these lengths, whatever stands in them.
abbrev pub SizesFit : Type 0
SizesFit =
    (v : Rect) (w : SetupWords) (old : List ℕ) (h : Host) (s : Screen) → Some s ≡ screen_of true h.state → (size_call v w old).number ≡ Done
    → length-words (lengths h.tables) ≡ (size_call v w old).value → (reset-at v w h).number ≡ Done
