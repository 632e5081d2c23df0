-- What a host asks a screen to be, by its words. Every call that takes them reads them by `asked_setup`.
use Rattle.std.specs.Prelude.{ℕ, List, cond, leb, eqb, Result, Ok, Err}
use Rattle.sizes.specs.declared.answers.Refusal.{Refusal}
use Rattle.sizes.specs.declared.answers.Refusal.TheVariants.{BadRecord}
use Rattle.sizes.specs.declared.width.Width.{Width}
use Rattle.sizes.specs.Widths.{width_of}
use Rattle.rules.specs.Answers.{Answer, answer}
use Rattle.sizes.specs.declared.edition.Edition.{Edition}
use Rattle.sizes.specs.Editions.{edition_of}
use Rattle.rules.specs.Recording.{File, in-edition}
use Rattle.file.specs.declared.recording.File.{File as Told}
use Rattle.file.specs.Held.{file_of}
use Rattle.rules.specs.Setups.{Mode, exact, snapping, Setup}
use Rattle.screen.specs.declared.Setup.{Setup as Given}
use Rattle.screen.specs.Screens.{setup-of}
use Rattle.host.specs.declared.state.SetupWords.{SetupWords}

abbrev pub mode-at : ℕ → Mode
mode-at n = cond (eqb n 1) snapping exact

abbrev pub asked-at : Result Width Refusal → SetupWords → Result Setup Refusal
asked-at (Ok v) w = cond (leb w.mode 1) (Ok (record { c = w.c; d = w.d; mode = mode-at w.mode; width = v })) (Err BadRecord)
asked-at (Err r) w = Err r

-- 2 where the width's number is none, else 4 where the mode's word is above 1
unfoldable pub asked_setup : SetupWords → Result Setup Refusal
asked_setup w = asked-at (width_of w.width) w

-- what the code reads
abbrev pub asked-for : Result Given Refusal → Result Setup Refusal
asked-for (Ok q) = Ok (setup-of q)
asked-for (Err r) = Err r

-- a file as a host gives it: the number that says its edition, and its words
pub record FileWords : Type 0 where
  pub edition : ℕ
  pub words : List ℕ

abbrev pub told : ℕ → List ℕ → FileWords
told n ws = record { edition = n; words = ws }

abbrev pub told-at : Result Edition Refusal → List ℕ → Result File Refusal
told-at (Ok e) ws = Ok (in-edition e ws)
told-at (Err r) ws = Err r

-- 3 where the number says no edition
unfoldable pub told_file : FileWords → Result File Refusal
told_file f = told-at (edition_of f.edition) f.words

-- what the code reads
abbrev pub told-for : Result Told Refusal → Result File Refusal
told-for (Ok f) = Ok (file_of f)
told-for (Err r) = Err r

-- what a call gives with the setup or the file that is asked for, or the number n of the refusal with everything as it was
abbrev pub granted : {A T : Type 0} → Result A Refusal → (Refusal → ℕ) → T → (A → Answer T) → Answer T
granted (Ok x) n t f = f x
granted (Err r) n t f = answer (n r) t
