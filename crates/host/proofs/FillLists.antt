-- A list of fills on a host's words: where they stand for no screen, and where they stand for one.
use Rattle.std.proofs.Common.{◌≡◌, sym, ap, ◌∙◌, true, List, None, Some, ℕ, length}
use Rattle.rules.specs.Answers.{answer}
use Rattle.row.specs.Words.{Words}
use Rattle.screen.specs.declared.Screen.{Screen}
use Rattle.screen.specs.Judging.{judged}
use Rattle.fill.specs.Fills.{fill_lent}
use Rattle.fill.specs.Lists.{FillsOut, fills_out, fills_listed}
use Rattle.host.specs.State.{screen-words, screen_of}
use Rattle.host.specs.Held.{one}
use Rattle.host.specs.FillLists.{fills-left, no-screen, list_call}

module _ (ps ss ws : List ℕ) (a b : ℕ) (st : List ℕ) (w : Words) (pas : List ℕ) where
  pub list_unheld : (n : ℕ) → None ≡ screen_of true st → n ≡ no-screen ws a b st (λ (s : Screen). judged s (length w.state) (length w.render) (length w.fills))
      → answer n (st, w, pas, one 0) ≡ list_call ps ss ws a b st w pas
  unfolding list_call
  list_unheld n h e = rw (← h, e)

  -- st stands for s; afterwards the call has the screen t, whose words are st'
  pub list_built : (s t : Screen) (st' : List ℕ) → Some s ≡ screen_of true st → st' ≡ screen-words t → (w' : Words) (pas' : List ℕ) (r k : ℕ) (o : FillsOut)
      → o ≡ fills_out r k (fill_lent t w' pas') → o ≡ fills_listed ps ss ws a b (fill_lent s w pas)
      → answer r (st', w', pas', one k) ≡ list_call ps ss ws a b st w pas
  unfolding list_call
  list_built s t st' h q w' pas' r k o e f = rw (← h, q) (ap fills-left (sym e ∙ f))
