-- The public call of a tile's list: each way that the code takes gives what the definition gives.
use Rattle.std.proofs.Common.{ℕ, ◌+◌, arith, ◌≡◌, refl, ◌∙◌, Bool, true, false, cond, List, [], Option, None, Some, Err, length, replicate, ltb, ne_eqb}
use Rattle.sizes.specs.declared.answers.Refusal.{Refusal}
use Rattle.sizes.specs.declared.answers.Refusal.TheVariants as refusal
use Rattle.sizes.specs.Refusals.{number_of}
use Rattle.sizes.specs.Sizes.{line-table}
use Rattle.sizes.specs.declared.width.Width.{Width}
use Rattle.sizes.proofs.Refusals.{not_done}
use Rattle.rules.specs.Answers.{Answer, answer, settle, Done, BadViewport, BadRun, NoRoom}
use Rattle.rules.specs.Boxes.{good_viewport}
use Rattle.rules.specs.Plans.{Frame}
use Rattle.rules.specs.Setups.{Mode}
use Rattle.rules.specs.Recording.{Recording, File, parsed, recording}
use Rattle.rules.specs.Walk.{walk-all}
use Rattle.rules.specs.Painting.{Entry}
use Rattle.rules_reason.specs.Answers.{off-screen}
use Rattle.rules_reason.specs.TileList.{roomless-frame, judge-roomless}
use Rattle.rect.specs.declared.Rect.{Rect}
use Rattle.rect.specs.Rects.{box_of}
use Rattle.file.specs.Held.{recording_of}
use Rattle.file.specs.Judging.{judged}
use Rattle.tile.specs.declared.steps.Spot.{Spot}
use Rattle.tile.specs.Telling.{Telling, tell-at, nothing-told}
use Rattle.tile.specs.Places.{Says, spot-at}
use Rattle.tile.specs.Explained.{told_of}
use Rattle.tile.specs.Listed.{entries-read, in-room, told-somewhere, tile-told, told-in, list-told, Listed, listed-as, listed-over, room-in}

-- a recording's tile, by what comes first
module _ (f : Frame) (r : Recording) (row tile room : ℕ) where
  unseen : good_viewport f.viewport ≡ false → tile-told f r row tile room ≡ answer BadViewport []
  unfolding tile-told
  unseen e = rw e refl

  module _ (v : good_viewport f.viewport ≡ true) where
    judged-so : judge-roomless f r ≡ judged r
    judged-so = rw v refl

    badly : (n : ℕ) → n ≡ judged r → (n ≡ Done → ⊥) → tile-told f r row tile room ≡ answer n []
    unfolding tile-told
    badly n e h = rw (judged-so, ← e, ne_eqb n Done h, ne_eqb n Done h) refl

    module _ (z : judged r ≡ Done) where
      stopped : (n : ℕ) → (told-somewhere f r row tile).number ≡ n → (n ≡ Done → ⊥) → tile-told f r row tile room ≡ answer n []
      unfolding tile-told
      stopped n e h = rw (judged-so, z, e, ne_eqb n Done h, ne_eqb n Done h) refl

      module _ (t : Telling) (s : Says (told-somewhere f r row tile) Done t) where
        past-screen : off-screen f.viewport row tile ≡ true → tile-told f r row tile room ≡ answer BadRun []
        unfolding tile-told
        past-screen o = rw (judged-so, z, s.number, o) refl

        on-screen : off-screen f.viewport row tile ≡ false → tile-told f r row tile room ≡ in-room room (entries-read t.lines (t.paints + t.layers))
        unfolding tile-told
        on-screen o = rw (judged-so, z, s.number, s.value refl, o) (go (ltb room (length es)))
          where
            es : List Entry
            es = entries-read t.lines (t.paints + t.layers)

            go : (b : Bool) → settle (cond b NoRoom Done) [] es ≡ cond b (answer NoRoom []) (answer Done es)
            go true = refl
            go false = refl

module _ (m : Mode) (w : Width) (ws : File) (row tile : ℕ) (list : List ℕ) where
  abbrev told : Answer (List Entry)
  told = list-told m w ws row tile (room-in list)

  by-refusal : (x : Refusal) → told ≡ answer (number_of x) [] → listed-as (Err x) list ≡ listed-over tile told list
  by-refusal x e = rw e refl

  pub list-formless : parsed ws ≡ None → listed-as (Err refusal.BadForm) list ≡ listed-over tile told list
  unfolding list-told
  list-formless h = by-refusal refusal.BadForm (rw h refl)

  module _ (r : Recording) (g : recording_of (parsed ws) ≡ Some r) where
    abbrev f : Frame
    f = roomless-frame m w r.viewport

    by_recording : (o : Option (List (List (List ℕ)))) → recording_of o ≡ Some r → told-in m w o row tile (room-in list) ≡ tile-told f r row tile (room-in list)
    by_recording (Some ss) h =
        let e : recording ss ≡ r = cc in
        rw e refl
    by_recording None h = let z : ◌≡◌ {A = ℕ} 0 1 = cc in absurd (omega arith)

    in-form : told ≡ tile-told f r row tile (room-in list)
    unfolding list-told
    in-form = by_recording (parsed ws) g

    pub list-unseen : good_viewport f.viewport ≡ false → listed-as (Err refusal.BadViewport) list ≡ listed-over tile told list
    list-unseen e = by-refusal refusal.BadViewport (in-form ∙ unseen f r row tile (room-in list) e)

    module _ (v : good_viewport f.viewport ≡ true) where
      pub list-badly : (x : Refusal) → number_of x ≡ judged r → listed-as (Err x) list ≡ listed-over tile told list
      list-badly x e = by-refusal x (in-form ∙ badly f r row tile (room-in list) v (number_of x) e (not_done x))

      module _ (z : judged r ≡ Done) (b : Rect) (same : f.viewport ≡ box_of b) (off : Bool) (o : off ≡ off-screen (box_of b) row tile)
          (s : Spot) (at : s ≡ spot-at b w (cond off 0 row) (cond off 0 tile)) where
        abbrev walk : Answer Telling
        walk = walk-all Telling (tell-at s.width (box_of s.viewport) s.row s.tile) r (nothing-told (replicate line-table 0))

        story : told-somewhere f r row tile ≡ walk
        unfolding told_of
        story = rw (at, same, ← o) refl

        pub list-stopped : (x : Refusal) → walk.number ≡ number_of x → listed-as (Err x) list ≡ listed-over tile told list
        list-stopped x e = by-refusal x (in-form ∙ stopped f r row tile (room-in list) v z (number_of x) (rw story e) (not_done x))

        module _ (t : Telling) (h : Says walk Done t) where
          said : Says (told-somewhere f r row tile) Done t
          said = rw story h

          off-so : off-screen f.viewport row tile ≡ off
          off-so = rw (same, o) refl

          pub list-past : off ≡ true → listed-as (Err refusal.BadRun) list ≡ listed-over tile told list
          list-past y = by-refusal refusal.BadRun (in-form ∙ past-screen f r row tile (room-in list) v z t said (off-so ∙ y))

          pub list-on : off ≡ false → (x : Listed) → x ≡ listed-over tile (in-room (room-in list) (entries-read t.lines (t.paints + t.layers))) list
              → x ≡ listed-over tile told list
          list-on y x e = e ∙ rw (in-form, on-screen f r row tile (room-in list) v z t said (off-so ∙ y)) refl
