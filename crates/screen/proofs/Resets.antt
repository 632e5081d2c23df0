-- A reset that is refused, and one that is done.
use Rattle.std.proofs.Common.{◌≡◌, ap, ◌∙◌, true, ℕ, ne_eqb, Ok, Err}
use Rattle.rules.specs.Answers.{answer}
use Rattle.rules.specs.Boxes.{good_viewport}
use Rattle.rect.specs.declared.Rect.{Rect}
use Rattle.sizes.specs.declared.answers.Refusal.{Refusal}
use Rattle.sizes.specs.Refusals.{number_of}
use Rattle.sizes.proofs.Refusals.{not_done}
use Rattle.rect.specs.Rects.{box_of, seen}
use Rattle.rect.proofs.Snapping.{good-seen, bad-seen}
use Rattle.screen.proofs.Judged.{reset-bad-viewport}
use Rattle.rules.specs.Plans.{Frame}
use Rattle.screen.specs.declared.Screen.{Screen}
use Rattle.screen.specs.declared.Setup.{Setup}
use Rattle.screen.specs.declared.lent.Lengths.{Lengths}
use Rattle.screen.specs.Screens.{frame, frame-of, fresh-screen}
use Rattle.screen.specs.Judging.{judged_reset}
use Rattle.screen.specs.Tables.{Tables, lengths, cleared, ScreenLent, screen_lent, reset_to}

module _ (f : Frame) (l : ScreenLent) where
  pub refused : (r : Refusal) → number_of r ≡ judged_reset f (lengths l.tables) → answer (number_of r) l ≡ reset_to f l
  unfolding reset_to
  refused r e = rw (← e, ne_eqb (number_of r) 0 (not_done r))

  pub done : 0 ≡ judged_reset f (lengths l.tables) → (s : Screen) (t : Tables) → s ≡ fresh-screen f → t ≡ cleared f l.tables
      → answer 0 (screen_lent s t) ≡ reset_to f l
  unfolding reset_to
  done e s t p q = rw (← e, p, q)

-- the screen of the viewport that a box gives in a setup's mode is the fresh one of the frame
module _ (q : Setup) (v : Rect) where
  pub bad-box : (l : ScreenLent) (r : Refusal) → Err r ≡ seen (frame q v).viewport → answer (number_of r) l ≡ reset_to (frame q v) l
  bad-box l r e =
      let b = bad-seen _ r e in
      refused (frame q v) l r (rw b.1 (reset-bad-viewport (frame q v) _ b.0))

  module _ (s : Rect) (e : Ok s ≡ seen (frame q v).viewport) (x : Screen) (h : x ≡ fresh-screen (record { viewport = box_of s; c = q.c; d = q.d; width = q.width })) where
    pub begun : x ≡ fresh-screen (frame q v)
    begun = h ∙ ap (λ (r : Rect). fresh-screen (record { viewport = box_of r; c = q.c; d = q.d; width = q.width })) (good-seen _ s e).1

    pub begun-good : good_viewport (box_of x.viewport) ≡ true
    begun-good = rw begun (good-seen _ s e).0

    pub begun-judged : {n : ℕ} (l : Lengths) → n ≡ judged_reset (frame-of x) l → n ≡ judged_reset (frame q v) l
    begun-judged l j = j ∙ ap (λ (y : Screen). judged_reset (frame-of y) l) begun

    pub begun-cleared : (t u : Tables) → u ≡ cleared (frame-of x) t → u ≡ cleared (frame q v) t
    begun-cleared t u j = j ∙ ap (λ (y : Screen). cleared (frame-of y) t) begun
