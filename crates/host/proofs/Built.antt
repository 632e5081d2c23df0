-- What a call gives at the screen that a host's words stand for is what it gives at the words.
use Rattle.std.proofs.Common.{◌≡◌, ap, ◌∙◌, true, List, Option, Some, ℕ, ℤ, leb}
use lib.Ieee.{Float}
use Rattle.rules.specs.Recording.{File}
use Rattle.rules.specs.Answers.{Answer, answer}
use Rattle.rules.specs.Setups.{Setup, frame}
use Rattle.rect.specs.declared.Rect.{Rect}
use Rattle.rect.specs.Rects.{box_of}
use Rattle.row.specs.Words.{Words}
use Rattle.screen.specs.Depths.{Depths}
use Rattle.screen.specs.declared.Screen.{Screen}
use Rattle.reuse.specs.Used.{used_reset}
use Rattle.screen.specs.Tables.{Tables, ScreenLent, screen_lent, reset_to}
use Rattle.walk.specs.Recorded.{recorded}
use Rattle.inputs.specs.declared.Draw.{Draw}
use Rattle.fill.specs.Fills as fills
use Rattle.fill.specs.Fills.{filled}
use Rattle.screen.specs.declared.layers.LayerProps.{LayerProps}
use Rattle.layers.specs.Push as push
use Rattle.layers.specs.Push.{pushed}
use Rattle.pop.specs.Pop as pop
use Rattle.pop.specs.Pop.{popped}
use Rattle.layers.specs.Filter as filter
use Rattle.layers.specs.Filter.{FilterGiven, filtered}
use Rattle.paint.specs.Beginning.{canvas, beginning}
use Rattle.host.specs.State.{screen-words, screen_of, at_held}
use Rattle.host.specs.Building.{tables-left, reset_in, used_call, recording_in, fill-left, fill_call, push-left, push_call, pop-left, pop_call, filter-left, filter_call}
use Rattle.host.specs.Painting.{begin-left, begin_call}

-- a reset's answer, as words
pub reset_left : (st : List ℕ) (s : Screen) → Some s ≡ screen_of true st → (v : Rect) (q : Setup) (t : Tables) (a : Answer ScreenLent)
    → a ≡ reset_to (frame q (box_of v)) (screen_lent s t) → tables-left a ≡ reset_in v q st t
unfolding reset_in
reset_left st s h v q t a e =
    ap tables-left e ∙ ap (λ (x : Option Screen). at_held x st (st, t) (λ (s : Screen). tables-left (reset_to (frame q (box_of v)) (screen_lent s t)))) h

-- st stands for s; afterwards the call has the screen s', and the words st' are its
module _ (st st' : List ℕ) (s s' : Screen) (r n : ℕ) (h : Some s ≡ screen_of true st) (rn : r ≡ n) (sw : st' ≡ screen-words s') where
  pub recording_built : (file : File) (q : Setup) (t t' : Tables) → answer n (screen_lent s' t') ≡ recorded file q (screen_lent s t) → answer r (st', t') ≡ recording_in file q st t
  unfolding recording_in
  recording_built file q t t' e =
      rw (rn, sw) (ap tables-left e ∙ ap (λ (x : Option Screen). at_held x st (st, t) (λ (s : Screen). tables-left (recorded file q (screen_lent s t)))) h)

  pub used_built : (t t' : Tables) → answer n (screen_lent s' t') ≡ used_reset (screen_lent s t) → answer r (st', t') ≡ used_call st t
  unfolding used_call
  used_built t t' e =
      rw (rn, sw) (ap tables-left e ∙ ap (λ (x : Option Screen). at_held x st (st, t) (λ (s : Screen). tables-left (used_reset (screen_lent s t)))) h)

  pub fill_built : (ps ss : List ℕ) (d : Draw) (w w' : Words) (pas pas' : List ℕ) → answer n (fills.fill_lent s' w' pas') ≡ filled (fills.fill_lent s w pas) ps ss d
      → answer r (st', w', pas') ≡ fill_call ps ss d st w pas
  unfolding fill_call
  fill_built ps ss d w w' pas pas' e =
      rw (rn, sw) (ap fill-left e ∙ ap (λ (x : Option Screen). at_held x st (st, w, pas) (λ (s : Screen). fill-left (filled (fills.fill_lent s w pas) ps ss d))) h)

  pub pop_built : (ss : List ℕ) (l l' : pop.PopLent) → pop.out n s' l' ≡ popped s l ss → answer r (st', l') ≡ pop_call ss st l
  unfolding pop_call
  pop_built ss l l' e =
      rw (rn, sw) (ap pop-left e ∙ ap (λ (x : Option Screen). at_held x st (st, l) (λ (s : Screen). pop-left (popped s l ss))) h)

  pub begin_built : (d d' : Depths) (p p' : List ℕ) → answer n (canvas s' d' p') ≡ beginning (canvas s d p) → answer r (st', d', p') ≡ begin_call st d p
  unfolding begin_call
  begin_built d d' p p' e =
      rw (rn, sw) (ap begin-left e ∙ ap (λ (x : Option Screen). at_held x st (st, d, p) (λ (s : Screen). begin-left (beginning (canvas s d p)))) h)

-- .. of a push, which the clip flag lets through
pub push_built : (st st' : List ℕ) (s s' : Screen) (r n flag : ℕ) → Some s ≡ screen_of (leb flag 1) st → r ≡ n → st' ≡ screen-words s'
    → (p : LayerProps) (w w' : Words) (ls ls' : List ℕ) (os os' : List Float)
    → answer n (push.push_lent s' w' ls' os') ≡ pushed p (push.push_lent s w ls os) → answer r (st', w', ls', os') ≡ push_call flag p st w ls os
unfolding push_call
push_built st st' s s' r n flag h rn sw p w w' ls ls' os os' e =
    rw (rn, sw) (ap push-left e ∙ ap (λ (x : Option Screen). at_held x st (st, w, ls, os) (λ (s : Screen). push-left (pushed p (push.push_lent s w ls os)))) h)

-- .. of a filter fill, which the picture's flag lets through
pub filter_built : (st st' : List ℕ) (s s' : Screen) (r n flag : ℕ) → Some s ≡ screen_of (leb flag 1) st → r ≡ n → st' ≡ screen-words s'
    → (g : FilterGiven) (w w' : Words) (pas pas' : List ℕ) (fps fps' : List ℤ)
    → answer n (filter.filter_lent s' w' pas' fps') ≡ filtered g (filter.filter_lent s w pas fps) → answer r (st', w', pas', fps') ≡ filter_call flag g st w pas fps
unfolding filter_call
filter_built st st' s s' r n flag h rn sw g w w' pas pas' fps fps' e =
    rw (rn, sw)
    (ap filter-left e
    ∙ ap (λ (x : Option Screen). at_held x st (st, w, pas, fps) (λ (s : Screen). filter-left (filtered g (filter.filter_lent s w pas fps)))) h)
