-- `coarse_why` on a host's words: where they stand for no screen, what the border answers; else what the call gives at the screen.
use Rattle.std.proofs.Common.{Option, None, Some, ℕ, ◌≡◌, sym, ap, ◌∙◌, ◌&&◌, List, length, leb, eqb}
use Rattle.rules.specs.Recording.{File}
use Rattle.rules.specs.Answers.{Answer, answer}
use Rattle.rules.specs.Setups.{Setup}
use Rattle.rules.proofs.laws.Answers.{settle-number}
use Rattle.rules_reason.specs.Reasons.{Reason}
use Rattle.screen.specs.declared.Screen.{Screen}
use Rattle.screen.specs.Judging.{arenas}
use Rattle.screen.specs.Tables.{Tables, lengths, screen_lent}
use Rattle.tile.specs.Explained.{explained-as, explained}
use Rattle.host.specs.State.{screen-words, screen_of, refused_at, before_4, at_held}
use Rattle.host.proofs.Words.{refused-on}
use Rattle.host.specs.Border.{file_number}
use Rattle.host.specs.Reasons.{reason-words, reason-size, result-left, asked, why-left, why_in}
use Rattle.host.proofs.Stories.{explained-is-early}

module _ (file : File) (q : Setup) (row tile layer attribute : ℕ) (st : List ℕ) (t : Tables) (res : List ℕ) where
  -- the call at a screen
  abbrev at-screen : Screen → Answer (List ℕ × Tables × List ℕ)
  at-screen s = why-left res (explained file q row tile (asked layer attribute) (screen_lent s t))

  pub why_unheld : (n : ℕ) → None ≡ screen_of (leb layer 1 && eqb (length res) reason-size) st
      → n ≡ refused_at st (λ (s : Screen). file_number file q (arenas (lengths t)))
      → answer n (st, t, res) ≡ why_in file q row tile layer attribute st t res
  unfolding why_in
  why_unheld n h f =
      refused-on (screen_of (leb layer 1 && eqb (length res) reason-size) st) st (st, t, res) at-screen
      (λ (s : Screen). file_number file q (arenas (lengths t))) n h f
      (λ (s : Screen).
      let e = explained file q row tile (asked layer attribute) (screen_lent s t) in
      explained-is-early file q row tile (asked layer attribute) (screen_lent s t) ∙ ap before_4 (sym (settle-number e.number res (reason-words e.reason))))

  -- st stands for s; afterwards the call has the screen s', the words st' are its, and res' is what the number leaves of the result
  pub why_built : (st' : List ℕ) (s s' : Screen) (t' : Tables) (r n : ℕ) (x : Reason) (res' : List ℕ)
      → Some s ≡ screen_of (leb layer 1 && eqb (length res) reason-size) st → st' ≡ screen-words s' → answer r res' ≡ result-left n x res
      → explained-as n (screen_lent s' t') x ≡ explained file q row tile (asked layer attribute) (screen_lent s t)
      → answer r (st', t', res') ≡ why_in file q row tile layer attribute st t res
  unfolding why_in
  why_built st' s s' t' r n x res' h sw p e =
      rw sw
      (ap (λ (y : Answer (List ℕ)). answer y.number (screen-words s', t', y.value)) p
      ∙ ap (why-left res) e
      ∙ ap (λ (y : Option Screen). at_held y st (st, t, res) at-screen) h)
