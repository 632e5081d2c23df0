-- A list of recordings counted at the screen that a host's words stand for is one counted at the words; where they stand for none, 4 is all that there is to answer.
use Rattle.std.proofs.Common.{◌≡◌, refl, sym, ap, ◌∙◌, true, not, ◌||◌, List, [], ◌∷◌, Option, None, Some, Result, Ok, Err, IsErr, ℕ, ◌+◌, ◌*◌, arith, length, ltb, eqb}
use Rattle.sizes.specs.declared.answers.Refusal.{Refusal}
use Rattle.sizes.specs.Sizes.{state-size}
use Rattle.sizes.specs.Refusals.{number_of, answer_number}
use Rattle.rules.specs.Answers.{Answer, answer, BadRecord, NoRoom}
use Rattle.rules.specs.Recording.{File}
use Rattle.rules.specs.Setups.{Setup}
use Rattle.rules.proofs.All.{nil, cons}
use Rattle.rules.proofs.laws.Answers.{settle-number}
use Rattle.rules_picture.proofs.Cases.{by}
use Rattle.rules_picture.proofs.Walked.{Late, first-late}
use Rattle.rules_figures.specs.Accounted.{most-recordings}
use Rattle.screen.specs.declared.Screen.{Screen}
use Rattle.screen.specs.Tables.{Tables, ScreenLent, screen_lent}
use Rattle.paint.proofs.Kept.{Refused, unsettled}
use Rattle.tally.specs.Listed.{Listed, desk, good-ends, files-in, figures-number, counted-from, filled, figured}
use Rattle.host.specs.declared.state.SetupWords.{SetupWords}
use Rattle.host.specs.State.{screen-words, screen_of, before_4, refused_at, at_held}
use Rattle.host.specs.Asked.{FileWords, asked_setup, told_file}
use Rattle.host.specs.Figured.{figures-left, figures_in, figures_asked, listed-in, figures_call}
use Rattle.host.proofs.Early.{late-4}
use Rattle.host.proofs.Kept.{at-screen}
use Rattle.host.proofs.Refused.{asked-kept}
use Rattle.host.proofs.ScreenAsked.{not-asked, as-asked}
use Rattle.host.proofs.Words.{refused-on, written_back}

-- a list has no 1, 2 or 3 of its own
list-late : (l : Listed) (m : ℕ) → Late (figures-number l m)
unfolding figures-number
list-late l m =
    first-late
    ((ltb most-recordings (length l.ends) || not (good-ends 0 (length l.words) l.ends), BadRecord) ∷ (ltb m (6 * (length l.ends + 1)), NoRoom) ∷ [])
    (cons (omega arith) (cons (omega arith) nil))

pub figured-number : (l : Listed) (q : Setup) (k : ScreenLent) (ns : List ℕ) → (figured l q k ns).number ≡ figures-number l (length ns)
unfolding figured
figured-number l q k ns = settle-number (figures-number l (length ns)) (desk k ns) (filled (counted-from q (files-in l) k) ns)

pub figured-kept : (l : Listed) (q : Setup) (k : ScreenLent) (ns : List ℕ) → Refused (figured l q k ns) → (figured l q k ns).value ≡ desk k ns
unfolding figured
figured-kept l q k ns = unsettled (figures-number l (length ns)) (desk k ns) (filled (counted-from q (files-in l) k) ns)

-- what holds where a call is refused holds where its number is not 0
pub refused-holds : {P : Type 0} (r : Result Unit Refusal) (n : ℕ) → n ≡ answer_number r → (IsErr r → P) → (n ≡ 0 → ⊥) → P
refused-holds (Ok _) n e h q = absurd (q e)
refused-holds (Err x) n e h q = search (h)

-- the border's 4 before a call's number, and alone
pub figures-early : (l : Listed) (q : Setup) (k : ScreenLent) (ns : List ℕ) → BadRecord ≡ before_4 (figured l q k ns).number
figures-early l q k ns = sym (ap before_4 (figured-number l q k ns) ∙ late-4 _ (list-late l (length ns)))

four-at : (st : List ℕ) → BadRecord ≡ refused_at st (λ (s : Screen). BadRecord)
unfolding refused_at before_4
four-at st = by (eqb (length st) state-size) (λ y. rw y) (λ n. rw n)

four-kept : BadRecord ≡ before_4 BadRecord
unfolding before_4
four-kept = refl

module _ (l : Listed) (q : Setup) (st : List ℕ) (t : Tables) (ns : List ℕ) where
  abbrev of-screen : Screen → Answer (List ℕ × Tables × List ℕ)
  of-screen s = figures-left (figured l q (screen_lent s t) ns)

  pub figures_unheld : None ≡ screen_of true st → answer BadRecord (st, t, ns) ≡ figures_in l q st t ns
  unfolding figures_in
  figures_unheld h =
      refused-on (screen_of true st) st (st, t, ns) of-screen (λ (s : Screen). BadRecord) BadRecord h (four-at st)
      (λ (s : Screen). sym four-kept ∙ figures-early l q (screen_lent s t) ns)

  pub figures_built : (st' : List ℕ) (s s' : Screen) (r n : ℕ) → Some s ≡ screen_of true st → r ≡ n → st' ≡ screen-words s' → (ns' : List ℕ)
      → (t' : Tables) → answer n (desk (screen_lent s' t') ns') ≡ figured l q (screen_lent s t) ns → answer r (st', t', ns') ≡ figures_in l q st t ns
  unfolding figures_in
  figures_built st' s s' r n h rn sw ns' t' e =
      rw (rn, sw) (ap figures-left e ∙ ap (λ (x : Option Screen). at_held x st (st, t, ns) of-screen) h)

  in-refused : Refused (figures_in l q st t ns) → (figures_in l q st t ns).value ≡ (st, t, ns)
  unfolding figures_in
  in-refused = at-screen true st (st, t, ns) of-screen (λ s e r. rw (figured-kept l q (screen_lent s t) ns r, written_back true st s e))

module _ (l : Listed) (w : SetupWords) (st : List ℕ) (t : Tables) (ns : List ℕ) where
  pub figures_unasked : (r : Refusal) → Err r ≡ asked_setup w → answer (number_of r) (st, t, ns) ≡ figures_asked l w st t ns
  unfolding figures_asked
  figures_unasked r e = not-asked (asked_setup w) number_of (st, t, ns) (λ (q : Setup). figures_in l q st t ns) r e

  pub figures-asked : (q : Setup) → Ok q ≡ asked_setup w → {a : Answer (List ℕ × Tables × List ℕ)} → a ≡ figures_in l q st t ns → a ≡ figures_asked l w st t ns
  unfolding figures_asked
  figures-asked q e h = h ∙ as-asked (asked_setup w) number_of (st, t, ns) (λ (q : Setup). figures_in l q st t ns) q e

  asked-refused : Refused (figures_asked l w st t ns) → (figures_asked l w st t ns).value ≡ (st, t, ns)
  unfolding figures_asked
  asked-refused = asked-kept (asked_setup w) number_of (st, t, ns) (λ (q : Setup). figures_in l q st t ns) (λ q. in-refused l q st t ns)

module _ (f : FileWords) (es : List ℕ) (w : SetupWords) (st : List ℕ) (t : Tables) (ns : List ℕ) where
  pub figures_untold : (r : Refusal) → Err r ≡ told_file f → answer (number_of r) (st, t, ns) ≡ figures_call f es w st t ns
  unfolding figures_call
  figures_untold r e = not-asked (told_file f) number_of (st, t, ns) (λ (file : File). figures_asked (listed-in file es) w st t ns) r e

  pub figures_told : (file : File) → Ok file ≡ told_file f → {a : Answer (List ℕ × Tables × List ℕ)}
      → a ≡ figures_asked (listed-in file es) w st t ns → a ≡ figures_call f es w st t ns
  unfolding figures_call
  figures_told file e h = h ∙ as-asked (told_file f) number_of (st, t, ns) (λ (file : File). figures_asked (listed-in file es) w st t ns) file e

  -- refused, it leaves everything as it was
  pub figures-refused : Refused (figures_call f es w st t ns) → (figures_call f es w st t ns).value ≡ (st, t, ns)
  unfolding figures_call
  figures-refused =
      asked-kept (told_file f) number_of (st, t, ns) (λ (file : File). figures_asked (listed-in file es) w st t ns)
      (λ file. asked-refused (listed-in file es) w st t ns)
