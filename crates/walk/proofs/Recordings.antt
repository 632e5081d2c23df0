-- The recording call, from the form to the last step.
use Rattle.std.proofs.Common.{ℕ, ◌≤◌, arith, ◌≡◌, refl, sym, ap, ◌∙◌, Bool, true, false, cond, List, Option, None, Some, length, eqb, eq-eqb, ne_eqb, eqb-true}
use borrow.Author.Tests.{eqb-false}
use Rattle.rules.specs.Answers.{Answer, answer}
use Rattle.rules.specs.Boxes.{Box}
use Rattle.rules.specs.Plans.{Frame}
use Rattle.rules.specs.Setups.{Setup, frame}
use Rattle.rules.specs.Recording.{Recording, recording, File, parsed, good-records, good-order}
use Rattle.rules.specs.Walk.{◌then◌, walk-all, walk-nodes, walk-layer}
use Rattle.rect.specs.declared.Rect.{Rect}
use Rattle.rect.specs.Rects.{box_of}
use Rattle.screen.specs.Judging.{judged_reset}
use Rattle.screen.specs.Tables.{Tables, lengths, cleared, ScreenLent, screen_lent, reset_to}
use Rattle.screen.specs.Screens.{frame-of, fresh-screen}
use Rattle.screen.proofs.Zeros.{same-cleared}
use Rattle.file.specs.Held.{recording_of}
use Rattle.file.specs.Judging.{judged}
use Rattle.file.proofs.Laws.{sound, root-range}
use Rattle.walk.specs.Steps.{call_at}
use Rattle.walk.proofs.Runs.{stopped, onward}
use Rattle.walk.specs.Recorded.{judging, played, recorded-in, of-sections, recorded}

-- Records, then the walk.
module _ (r : Recording) (n : ℕ) (e : n ≡ judged r) where
  pub bad-records : (n ≡ 0 → ⊥) → (s : ScreenLent) → answer n s ≡ (judging r then walk-all ScreenLent call_at r) s
  bad-records h s = stopped (judging r) (walk-all ScreenLent call_at r) s n s (ap (λ (k : ℕ). answer k s) e) h

  module _ (z : n ≡ 0) where
    pub good : good-records r ≡ true
    good = (sound r (sym e ∙ z)).records

    pub in-order : good-order r ≡ true
    in-order = (sound r (sym e ∙ z)).order

    pub root : (r.start ≤ r.end) × (r.end ≤ length r.nodes)
    root = root-range r good

    pub good-walk : (s : ScreenLent) (a : Answer ScreenLent) → a ≡ walk-nodes ScreenLent call_at r (walk-layer ScreenLent call_at r 16) r.start r.end s
        → a ≡ (judging r then walk-all ScreenLent call_at r) s
    unfolding walk-all
    good-walk s a q = q ∙ sym (onward (judging r) (walk-all ScreenLent call_at r) s n s (ap (λ (k : ℕ). answer k s) e) z)

module _ (r : Recording) (fresh : ScreenLent) (m : ℕ) (s : ScreenLent) (e : answer m s ≡ (judging r then walk-all ScreenLent call_at r) fresh) where
  all-played : m ≡ 0 → answer m s ≡ played r fresh
  unfolding played
  all-played z = rw (← e, eq-eqb m 0 z)

  not-played : (m ≡ 0 → ⊥) → answer m fresh ≡ played r fresh
  unfolding played
  not-played z = rw (← e, ne_eqb m 0 z)

by_number : (n k : ℕ) (t : Bool) → eqb k 0 ≡ t → (a b c : ScreenLent) → n ≡ 0 → answer n a ≡ cond t (answer 0 c) (answer k b) → a ≡ c
by_number n k true q a b c z e = ap (λ (x : Answer ScreenLent). x.value) e
by_number n k false q a b c z e = let y : k ≡ 0 = sym (ap (λ (x : Answer ScreenLent). x.number) e) ∙ z in absurd (eqb-false k 0 q y)

by_judge : (n k : ℕ) (t : Bool) → eqb k 0 ≡ t → (a b c : ScreenLent) → n ≡ 0 → answer n a ≡ cond t (answer 0 c) (answer k b) → k ≡ 0
by_judge n k true q a b c z e = eqb-true k 0 q
by_judge n k false q a b c z e = sym (ap (λ (x : Answer ScreenLent). x.number) e) ∙ z

module _ (f : Frame) (old : ScreenLent) (n : ℕ) (a : ScreenLent) (e : answer n a ≡ reset_to f old) (z : n ≡ 0) where
  emptied : a.tables ≡ cleared f old.tables
  unfolding reset_to
  emptied = ap (λ (x : ScreenLent). x.tables) (by_number n (judged_reset f (lengths old.tables)) _ refl a old _ z e)

  begun : a.screen ≡ fresh-screen f
  unfolding reset_to
  begun = ap (λ (x : ScreenLent). x.screen) (by_number n (judged_reset f (lengths old.tables)) _ refl a old _ z e)

  its-frame : frame-of a.screen ≡ f
  its-frame = ap frame-of begun

  judged-done : judged_reset f (lengths old.tables) ≡ 0
  unfolding reset_to
  judged-done = by_judge n (judged_reset f (lengths old.tables)) _ refl a old _ z e

-- the whole call
pub bad-file : (ws : File) (q : Setup) (old : ScreenLent) → parsed ws ≡ None → answer 3 old ≡ recorded ws q old
unfolding recorded
bad-file ws q old e = rw e

by-sections : (o : Option (List (List (List ℕ)))) (r : Recording) → recording_of o ≡ Some r → (q : Setup) (old : ScreenLent) → of-sections o q old ≡ recorded-in r q old
by-sections (Some ss) r e q old =
    let h : recording ss ≡ r = cc in
    rw h
by-sections None r e q old = let z : ◌≡◌ {A = ℕ} 0 1 = cc in absurd (omega arith)

-- the call at a file that says a recording
pub as-said : (r : Recording) (ws : File) → recording_of (parsed ws) ≡ Some r → (q : Setup) (old : ScreenLent) → recorded ws q old ≡ recorded-in r q old
unfolding recorded
as-said r ws g q old = by-sections (parsed ws) r g q old

module _ (r : Recording) (ws : File) (g : recording_of (parsed ws) ≡ Some r) (v : Rect) (b : box_of v ≡ r.viewport) (q : Setup) (old : ScreenLent)
    (n : ℕ) (a : ScreenLent) (e : answer n a ≡ reset_to (frame q (box_of v)) old) where
  as-recorded : recorded-in r q old ≡ recorded ws q old
  as-recorded = sym (as-said r ws g q old)

  its_view : answer n a ≡ reset_to (frame q r.viewport) old
  its_view = e ∙ ap (λ (x : Box). reset_to (frame q x) old) b

  pub not-reset : (n ≡ 0 → ⊥) → answer n a ≡ recorded ws q old
  unfolding recorded-in
  not-reset z = stopped (reset_to (frame q r.viewport)) (played r) old n a its_view z ∙ as-recorded

  module _ (z : n ≡ 0) (m : ℕ) (s : ScreenLent) (f : answer m s ≡ (judging r then walk-all ScreenLent call_at r) a) where
    then-played : recorded ws q old ≡ played r a
    unfolding recorded-in
    then-played = sym as-recorded ∙ onward (reset_to (frame q r.viewport)) (played r) old n a its_view z

    pub all_done : m ≡ 0 → answer m s ≡ recorded ws q old
    all_done y = all-played r a m s f y ∙ sym then-played

    -- so the words that the walk leaves are those of the screen, and can be cleared
    pub can_clear : lengths s.tables ≡ lengths a.tables → lengths a.tables ≡ lengths old.tables → judged_reset (frame-of a.screen) (lengths s.tables) ≡ 0
    can_clear p o = let f' = frame q (box_of v) in rw (its-frame f' old n a e z, p, o) (judged-done f' old n a e z)

    pub left_fresh : (m ≡ 0 → ⊥) → (t : Tables) → lengths s.tables ≡ lengths a.tables → lengths a.tables ≡ lengths old.tables → t ≡ cleared (frame-of a.screen) s.tables
        → answer m (screen_lent a.screen t) ≡ recorded ws q old
    left_fresh x t p o k =
        let f' = frame q (box_of v) in
        let k' : t ≡ cleared f' s.tables = k ∙ ap (λ (g : Frame). cleared g s.tables) (its-frame f' old n a e z) in
        let again : t ≡ a.tables = k' ∙ same-cleared f' s.tables a.tables p ∙ same-cleared f' a.tables old.tables o ∙ sym (emptied f' old n a e z) in
        rw again (not-played r a m s f x ∙ sym then-played)
