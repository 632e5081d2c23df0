-- A reset is done on tables of the lengths that `coarse_sizes` answers. Assumes nothing.
use Rattle.std.proofs.Common.{ℕ, ◌≡◌, refl, sym, ap, ◌∙◌, Bool, true, false, List, [], ◌∷◌, Some, Ok, length}
use Rattle.sizes.proofs.Refusals.{not_done}
use Rattle.rules.specs.Answers.{Answer, first_of, Done, BadViewport, BadArena, BadRecord}
use Rattle.rules.specs.Plans.{Frame}
use Rattle.rules.specs.Setups.{Setup, frame}
use Rattle.rules.proofs.laws.Answers.{settle-number}
use Rattle.rect.specs.declared.Rect.{Rect}
use Rattle.rect.specs.Rects.{box_of}
use Rattle.screen.specs.declared.Screen.{Screen}
use Rattle.screen.specs.Judging.{judged_reset}
use Rattle.screen.specs.Tables.{lengths, screen_lent, reset_to}
use Rattle.host.specs.declared.state.SetupWords.{SetupWords}
use Rattle.host.specs.Asked.{asked_setup}
use Rattle.host.specs.Sizes.{length-words, size-words, size_number, sizes-of, size_call}
use Rattle.host.specs.State.{screen_of}
use Rattle.host.proofs.HostAsked.{sizes_unasked, sizes_asked}
use Rattle.host.proofs.Sized.{sized}
use Rattle.host.proofs.Words.{written_back}
use Rattle.theorem_border.specs.Hosted.{Host, host, reset-at}
use Rattle.theorem_border.specs.Words.{SizesFit}
use Rattle.theorem_border.specs.Held.{host-of}
use Rattle.theorem_border.proofs.Words.{Asking, for-none, for_some, asking, reset-on}

-- no number of result words but 10 is done
with-ten : (x y z : Bool) → first_of ((x, BadViewport) ∷ (y, BadArena) ∷ (z, BadRecord) ∷ []) ≡ Done → first_of ((x, BadViewport) ∷ (y, BadArena) ∷ (false, BadRecord) ∷ []) ≡ Done
with-ten true y z e = e
with-ten false true z e = e
with-ten false false z e = refl

module _ (v : Rect) (w : SetupWords) (old : List ℕ) (h : Host) (s : Screen) (k : Some s ≡ screen_of true h.state)
    (e : (size_call v w old).number ≡ Done) (l : length-words (lengths h.tables) ≡ (size_call v w old).value) where
  module _ (q : Setup) (a : Ok q ≡ asked_setup w) where
    abbrev f : Frame
    f = frame q (box_of v)

    tens : size_number f (length old) ≡ Done
    tens =
        sym (settle-number (size_number f (length old)) old (size-words f))
        ∙ ap (λ (x : Answer (List ℕ)). x.number) (sizes_asked w q a v old refl) ∙ e

    lengths-given : length-words (lengths h.tables) ≡ size-words f
    lengths-given =
        let g : (sizes-of f old).value ≡ size-words f = rw tens in
        l ∙ sym (ap (λ (x : Answer (List ℕ)). x.value) (sizes_asked w q a v old refl)) ∙ g

    reset-done : (reset-at v w h).number ≡ Done
    unfolding reset_to
    reset-done =
        let m = screen_lent s h.tables in
        let g : h ≡ host-of m = ap (λ (st : List ℕ). host st h.tables) (sym (written_back true h.state s k)) in
        let j = sized f (lengths h.tables) (with-ten _ _ _ tens) lengths-given in
        ap (λ (x : Host). (reset-at v w x).number) g
        ∙ ap (λ (x : Answer Host). x.number) (reset-on w q a m v)
        ∙ settle-number (judged_reset f (lengths h.tables)) m _
        ∙ j

  fits : Asking w → (reset-at v w h).number ≡ Done
  fits (for-none r n) = absurd (not_done r (ap (λ (x : Answer (List ℕ)). x.number) (sizes_unasked w r n v old) ∙ e))
  fits (for_some q a) = reset-done q a

pub sizes-fit : SizesFit
sizes-fit v w old h s k e l = fits v w old h s k e l (asking w)
