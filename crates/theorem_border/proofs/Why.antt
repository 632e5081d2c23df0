-- A refused `coarse_why` leaves its result words. Assumes nothing.
use Rattle.std.proofs.Common.{ℕ, ◌≡◌, refl, ◌&&◌, List, Option, None, Some, Result, Ok, Err, leb, eqb, length}
use Rattle.sizes.specs.declared.answers.Refusal.{Refusal}
use Rattle.sizes.specs.Refusals.{number_of}
use Rattle.rules.specs.Recording.{File}
use Rattle.rules.specs.Setups.{Setup}
use Rattle.screen.specs.declared.Screen.{Screen}
use Rattle.screen.specs.Tables.{Tables, screen_lent}
use Rattle.tile.specs.Explained.{explained}
use Rattle.paint.proofs.Kept.{Refused, unsettled}
use Rattle.host.specs.State.{screen_of, at_held}
use Rattle.host.specs.Asked.{asked_setup, told_file, granted}
use Rattle.host.specs.Border.{unasked_number}
use Rattle.host.specs.Reasons.{reason-words, reason-size, asked, why-left, why_in, why_asked, why_call}
use Rattle.theorem_border.specs.Refused.{WhyRefused}

module _ (file : File) (row tile layer attribute : ℕ) (st : List ℕ) (t : Tables) (old : List ℕ) where
  in-one : (q : Setup) → Refused (why_in file q row tile layer attribute st t old) → (why_in file q row tile layer attribute st t old).value.2 ≡ old
  unfolding why_in
  in-one q = go (screen_of (leb layer 1 && eqb (length old) reason-size) st)
    where
      go : (h : Option Screen) → let a = at_held h st (st, t, old) (λ (s : Screen). why-left old (explained file q row tile (asked layer attribute) (screen_lent s t))) in
          Refused a → a.value.2 ≡ old
      go None e = refl
      go (Some s) e = let x = explained file q row tile (asked layer attribute) (screen_lent s t) in unsettled x.number old (reason-words x.reason) e

  in-any : (o : Result Setup Refusal) → let a = granted o (unasked_number file) (st, t, old) (λ (q : Setup). why_in file q row tile layer attribute st t old) in
      Refused a → a.value.2 ≡ old
  in-any (Err r) e = refl
  in-any (Ok q) e = in-one q e

pub why-refused : WhyRefused
unfolding why_call why_asked
why-refused f w row tile layer attribute st t old = go (told_file f)
  where
    go : (o : Result File Refusal) → let a = granted o number_of (st, t, old) (λ (file : File). why_asked file w row tile layer attribute st t old) in
        Refused a → a.value.2 ≡ old
    go (Err r) e = refl
    go (Ok file) e = in-any file row tile layer attribute st t old (asked_setup w) e
