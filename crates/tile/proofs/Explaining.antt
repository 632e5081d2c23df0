-- The public call from the recording's answer on: each way that the code takes gives what the definition gives.
use Rattle.std.proofs.Common.{ℕ, ◌+◌, arith, ◌≡◌, refl, sym, ◌∙◌, true, false, List, Option, None, Some, Ok, Err, replicate, ne_eqb}
use Rattle.sizes.specs.declared.answers.Refusal.{Refusal}
use Rattle.sizes.specs.Sizes.{line-table}
use Rattle.sizes.specs.Widths.{bucket-tiles}
use Rattle.rules.specs.Answers.{Answer, answer, Done, BadForm, BadRun}
use Rattle.rules.specs.Boxes.{Box, good_viewport}
use Rattle.rules.specs.Plans.{Frame, bucket}
use Rattle.rules.specs.Setups.{Setup, frame, viewport-in}
use Rattle.rules.specs.Recording.{Recording, File, parsed, recording}
use Rattle.rules.specs.Walk.{walk-all}
use Rattle.rules_reason.specs.Reasons.{Reason, Asked}
use Rattle.screen.specs.Tables.{ScreenLent}
use Rattle.rect.specs.declared.Rect.{Rect}
use Rattle.rect.specs.Rects.{box_of, seen}
use Rattle.file.specs.Held.{recording_of}
use Rattle.walk.specs.Recorded.{recorded}
use Rattle.tile.specs.Telling.{Telling, tell-at, nothing-told}
use Rattle.tile.specs.Places.{Says}
use Rattle.tile.specs.Reading.{reason-read}
use Rattle.rules_reason.specs.Answers.{off-screen}
use Rattle.tile.proofs.Views.{box-seen, box-unseen}
use Rattle.tile.specs.Explained.{Explained, explained-as, no-reason, told_of, reason-told, explained-of, explained-in, explained}

-- a story told to its end, or refused, at w tiles a bucket: the reason that it gives
module _ (w : ℕ) (r : Recording) (v : Box) (row tile : ℕ) (a : Asked) (l : ScreenLent) where
  abbrev whole-story : Answer Telling
  whole-story = walk-all Telling (tell-at w v row tile) r (nothing-told (replicate line-table 0))

  told_here : told_of w v r row tile ≡ whole-story
  unfolding told_of
  told_here = refl

  pub story-refused : (n : ℕ) → whole-story.number ≡ n → (n ≡ Done → ⊥) → no-reason n l ≡ reason-told a (told_of w v r row tile) l
  story-refused n e h = rw (told_here, e, ne_eqb n Done h)

  pub story-told : (t : Telling) → Says whole-story Done t → (x : Reason) → x ≡ reason-read a t.lines (t.paints + t.layers)
      → explained-as Done l x ≡ reason-told a (told_of w v r row tile) l
  story-told t s x q = rw (told_here, s.number, s.value refl, q)

-- the viewport that a file says, in a setup
module _ (r : Recording) (q : Setup) (b : Rect) (e : box_of b ≡ r.viewport) where
  pub view-seen : (v : Rect) → Ok v ≡ seen (viewport-in q.mode (box_of b)) → (frame q r.viewport).viewport ≡ box_of v
  view-seen = box-seen r.viewport q.mode b e

  pub view-unseen : {x : Refusal} → Err x ≡ seen (viewport-in q.mode (box_of b)) → good_viewport (frame q r.viewport).viewport ≡ false
  view-unseen h = box-unseen r.viewport q.mode b e h

-- an accepted recording, by where the tile lies
module _ (f : Frame) (r : Recording) (row tile : ℕ) (a : Asked) (l : ScreenLent) where
  past-screen : off-screen f.viewport row tile ≡ true → explained-of f r row tile a l ≡ no-reason BadRun l
  unfolding explained-of
  past-screen q = rw q

  on-screen : off-screen f.viewport row tile ≡ false → explained-of f r row tile a l ≡ reason-told a (told_of (bucket f) f.viewport r row tile) l
  unfolding explained-of
  on-screen q = rw q

-- the whole call, from what the recording call gave
module _ (ws : File) (q : Setup) (row tile : ℕ) (a : Asked) (old : ScreenLent) where
  pub refused : (n : ℕ) (l : ScreenLent) → answer n l ≡ recorded ws q old → (n ≡ Done → ⊥) → no-reason n l ≡ explained ws q row tile a old
  unfolding explained
  refused n l e h = rw (← e, ne_eqb n Done h)

  module _ (l : ScreenLent) (e : answer Done l ≡ recorded ws q old) where
    pub formless : parsed ws ≡ None → no-reason BadForm l ≡ explained ws q row tile a old
    unfolding explained
    formless h = rw (← e, h)

    by_recording : (o : Option (List (List (List ℕ)))) (r : Recording) → recording_of o ≡ Some r
        → explained-in q o row tile a l ≡ explained-of (frame q r.viewport) r row tile a l
    by_recording (Some ss) r g =
        let h : recording ss ≡ r = cc in
        rw h
    by_recording None r g = let z : ◌≡◌ {A = ℕ} 0 1 = cc in absurd (omega arith)

    module _ (r : Recording) (g : recording_of (parsed ws) ≡ Some r) where
      abbrev f : Frame
      f = frame q r.viewport

      in-form : explained ws q row tile a old ≡ explained-of f r row tile a l
      unfolding explained
      in-form = rw (← e) (by_recording (parsed ws) r g)

      module _ (v : Box) (same : f.viewport ≡ v) where
        pub off : off-screen v row tile ≡ true → no-reason BadRun l ≡ explained ws q row tile a old
        off h = sym (in-form ∙ past-screen f r row tile a l (rw same h))

        pub reasoned : off-screen v row tile ≡ false → (x : Explained) → x ≡ reason-told a (told_of (bucket-tiles q.width) v r row tile) l
            → x ≡ explained ws q row tile a old
        reasoned h x k = k ∙ sym (in-form ∙ on-screen f r row tile a l (rw same h) ∙ rw same)
