-- A refused call leaves the state's words, and everything else that it was lent, as they were.
use Rattle.std.proofs.Common.{◌≡◌, refl, Bool, true, false, List, Some, Result, Ok, Err, ℕ, length, leb, eqb, ℤ}
use Rattle.sizes.specs.declared.answers.Refusal.{Refusal}
use lib.Ieee.{Float}
use Rattle.rules.specs.Answers.{Answer, Done}
use Rattle.rules.specs.Setups.{Setup, frame}
use Rattle.rect.specs.declared.Rect.{Rect}
use Rattle.rect.specs.Rects.{box_of}
use Rattle.row.specs.Words.{Words}
use Rattle.screen.specs.declared.Screen.{Screen}
use Rattle.screen.specs.Screens.{frame-of, fresh-screen}
use Rattle.screen.specs.Judging.{judged_reset}
use Rattle.screen.specs.Tables.{Tables, screen_lent, lengths, zeros, cleared, reset_to}
use Rattle.screen.specs.Depths.{Depths, blank}
use Rattle.inputs.specs.declared.Draw.{Draw}
use Rattle.fill.specs.Fills as fills
use Rattle.fill.specs.Fills.{filled}
use Rattle.screen.specs.declared.layers.LayerProps.{LayerProps}
use Rattle.layers.specs.Push as push
use Rattle.layers.specs.Push.{pushed}
use Rattle.pop.specs.Pop as pop
use Rattle.pop.specs.Pop.{popped}
use Rattle.layers.specs.Filter as filter
use Rattle.layers.specs.Filter.{FilterGiven, filtered}
use Rattle.paint.proofs.Kept.{Refused, unsettled}
use Rattle.paint.specs.Judging.{count, wide, begin_number}
use Rattle.paint.specs.Beginning.{canvas, begun, beginning}
use Rattle.host.specs.declared.state.SetupWords.{SetupWords}
use Rattle.host.specs.State.{screen_of}
use Rattle.host.specs.Asked.{asked_setup, granted}
use Rattle.reuse.specs.Used.{used-cleared, judged_used, used_reset}
use Rattle.host.specs.Building.{tables-left, reset_in, reset_call, used_call, fill-left, fill_call, push-left, push_call, pop-left, pop_call, filter-left, filter_call}
use Rattle.host.specs.Painting.{begin-left, begin_call}
use Rattle.host.proofs.Words.{written_back}
use Rattle.host.proofs.Kept.{at-screen}

-- a call in the setup that is asked for
pub asked-kept : {A T : Type 0} (o : Result A Refusal) (n : Refusal → ℕ) (t : T) (f : A → Answer T) → ((x : A) → Refused (f x) → (f x).value ≡ t)
    → Refused (granted o n t f) → (granted o n t f).value ≡ t
asked-kept (Err r) n t f k e = refl
asked-kept (Ok q) n t f k e = k q e

reset-in-refused : (v : Rect) (q : Setup) (st : List ℕ) (t : Tables) → Refused (reset_in v q st t) → (reset_in v q st t).value ≡ (st, t)
unfolding reset_in reset_to
reset-in-refused v q st t =
    let f = frame q (box_of v) in
    at-screen true st (st, t) (λ (s : Screen). tables-left (reset_to f (screen_lent s t)))
    (λ s e r. rw (unsettled (judged_reset f (lengths t)) (screen_lent s t) (screen_lent (fresh-screen f) (cleared f t)) r, written_back true st s e))

pub reset-refused : (v : Rect) (w : SetupWords) (st : List ℕ) (t : Tables) → Refused (reset_call v w st t) → (reset_call v w st t).value ≡ (st, t)
unfolding reset_call
reset-refused v w st t = asked-kept (asked_setup w) _ (st, t) (λ (q : Setup). reset_in v q st t) (λ q. reset-in-refused v q st t)

pub used-refused : (st : List ℕ) (t : Tables) → Refused (used_call st t) → (used_call st t).value ≡ (st, t)
unfolding used_call used_reset
used-refused st t =
    at-screen true st (st, t) (λ (s : Screen). tables-left (used_reset (screen_lent s t)))
    (λ s e r. rw (unsettled (judged_used s (lengths t)) (screen_lent s t) (screen_lent (fresh-screen (frame-of s)) (used-cleared s t)) r, written_back true st s e))

pub fill-refused : (ps ss : List ℕ) (d : Draw) (st : List ℕ) (w : Words) (pas : List ℕ) → Refused (fill_call ps ss d st w pas) → (fill_call ps ss d st w pas).value ≡ (st, w, pas)
unfolding fill_call
fill-refused ps ss d st w pas =
    at-screen true st (st, w, pas) (λ (s : Screen). fill-left (filled (fills.fill_lent s w pas) ps ss d))
    (λ s e q. let l = fills.fill_lent s w pas in rw (unsettled (fills.fill_number l ps ss d) l (fills.fill_done l ps ss d) q, written_back true st s e))

pub push-refused : (flag : ℕ) (p : LayerProps) (st : List ℕ) (w : Words) (ls : List ℕ) (os : List Float) → Refused (push_call flag p st w ls os)
    → (push_call flag p st w ls os).value ≡ (st, w, ls, os)
unfolding push_call pushed
push-refused flag p st w ls os =
    at-screen (leb flag 1) st (st, w, ls, os) (λ (s : Screen). push-left (pushed p (push.push_lent s w ls os)))
    (λ s e q. let l = push.push_lent s w ls os in rw (unsettled (push.push-number p l) l (push.after p l) q, written_back (leb flag 1) st s e))

pub filter-refused : (flag : ℕ) (g : FilterGiven) (st : List ℕ) (w : Words) (pas : List ℕ) (fps : List ℤ) → Refused (filter_call flag g st w pas fps)
    → (filter_call flag g st w pas fps).value ≡ (st, w, pas, fps)
unfolding filter_call filtered
filter-refused flag g st w pas fps =
    at-screen (leb flag 1) st (st, w, pas, fps) (λ (s : Screen). filter-left (filtered g (filter.filter_lent s w pas fps)))
    (λ s e q. let l = filter.filter_lent s w pas fps in rw (unsettled (filter.filter-number g l) l (filter.after g l) q, written_back (leb flag 1) st s e))

pub begin-refused : (st : List ℕ) (d : Depths) (p : List ℕ) → Refused (begin_call st d p) → (begin_call st d p).value ≡ (st, d, p)
unfolding begin_call beginning
begin-refused st d p =
    at-screen true st (st, d, p) (λ (s : Screen). begin-left (beginning (canvas s d p)))
    (λ s e q. rw (
      unsettled (begin_number s (length d.words) (length d.minima) (length p)) (canvas s d p)
          (canvas (begun true s) (blank (count s) (wide s) d) (zeros 0 p)) q,
      written_back true st s e,
    ))

pub pop-refused : (ss st : List ℕ) (l : pop.PopLent) → Refused (pop_call ss st l) → (pop_call ss st l).value ≡ (st, l)
unfolding pop_call popped
pop-refused ss st l = at-screen true st (st, l) (λ (s : Screen). pop-left (popped s l ss)) (λ s e. by s e (eqb (pop.number s l ss) Done) refl)
  where
    by : (s : Screen) → Some s ≡ screen_of true st → (b : Bool) → eqb (pop.number s l ss) Done ≡ b → Refused (pop-left (popped s l ss)) → (pop-left (popped s l ss)).value ≡ (st, l)
    by s e true k q = absurd (q (rw k))
    by s e false k q = rw (k, written_back true st s e)
