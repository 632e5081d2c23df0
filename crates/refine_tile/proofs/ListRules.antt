-- The list that is read off a tile's story is the rules' list: the story is refused as the walk with room for everything, and its lines say that walk's steps.
use Rattle.std.proofs.Common.{ℕ, ◌+◌, arith, ◌≡◌, refl, Bool, true, false, not, cond, List, [], ◌∷◌, length, Option, None, Some, replicate, ltb, eqb, eqb-true}
use Rattle.sizes.specs.Sizes.{line-table}
use Rattle.rules.specs.Answers.{Answer, settle, first_of, Done, BadViewport, BadRecord, BadOrder, BadRun, NoRoom}
use Rattle.rules.specs.Boxes.{good_viewport}
use Rattle.rules.specs.Inputs.{few-paints}
use Rattle.rules.specs.Plans.{Frame, bucket}
use Rattle.rules.specs.Recording.{Recording, parsed, recording, good-records, good-order}
use Rattle.rules.specs.Painting.{Entry}
use Rattle.rules.specs.Roomless.{roomless}
use Rattle.rules_picture.proofs.Cases.{by}
use Rattle.rules_reason.specs.Answers.{off-screen}
use Rattle.rules_reason.specs.TileList.{roomless-frame, judge-roomless, or-else, entries-of, tile-listed, listed-in, tile-list}
use Rattle.tile.specs.Listed.{entries-read, told-somewhere, tile-told, told-in, list-told}
use Rattle.tile.specs.Telling.{Telling}
use Rattle.tile.specs.Explained.{told_of}
use Rattle.refine_tile.specs.ListRules.{List-rules}
use Rattle.refine_tile.proofs.Entries.{entries-plain}
use Rattle.refine_tile.proofs.Owned.{paints-few}
use Rattle.refine_tile.proofs.Refusals.{Retells, story-retells}

-- what the judgement says where it refuses nothing
judged-good : (a b c : Bool) → first_of ((not a, BadViewport) ∷ (not b, BadRecord) ∷ (not c, BadOrder) ∷ []) ≡ Done → (a ≡ true) × (b ≡ true) × (c ≡ true)
judged-good true true true e = (refl, refl, refl)
judged-good true true false e = absurd (omega arith)
judged-good true false c e = absurd (omega arith)
judged-good false b c e = absurd (omega arith)

-- two answers with the same judgement j, walks refused by n and by k, and lists xs and ys
settled-same : (j : ℕ) (off : Bool) (room n k : ℕ) (xs ys : List Entry) → (j ≡ Done → n ≡ k) → (j ≡ Done → k ≡ Done → off ≡ false → xs ≡ ys)
    → settle (or-else j (or-else n (first_of ((off, BadRun) ∷ (ltb room (length xs), NoRoom) ∷ [])))) [] xs
    ≡ settle (or-else j (or-else k (first_of ((off, BadRun) ∷ (ltb room (length ys), NoRoom) ∷ [])))) [] ys
settled-same j off room n k xs ys p q = by (eqb j Done)
    (λ y.
    let d = eqb-true j Done y in
    rw (p d, y)
    (by (eqb k Done)
    (λ z. by off (λ u. rw (z, u)) (λ u. rw (q d (eqb-true k Done z) u)))
    (λ z. rw (z, z))))
    (λ y. rw (y, y))

module _ (f : Frame) (r : Recording) (few : few-paints (length r.paints) ≡ true) where
  pub retells : judge-roomless f r ≡ Done → (row tile : ℕ)
      → Retells (bucket f) f.viewport row tile (replicate line-table 0) (roomless f r).number (roomless f r).value.log (told_of (bucket f) f.viewport r row tile)
  unfolding told_of
  retells j row tile =
      let (view, records, order) = judged-good (good_viewport f.viewport) (good-records r) (good-order r) j in
      story-retells (bucket f) f r row tile (replicate line-table 0) view (record { records = records; order = order; paints = few })

  module _ (row tile room : ℕ) where
    abbrev off : Bool
    off = off-screen f.viewport row tile

    abbrev story : Answer Telling
    story = told-somewhere f r row tile

    listed : judge-roomless f r ≡ Done → (roomless f r).number ≡ Done → off ≡ false
        → entries-read story.value.lines (story.value.paints + story.value.layers) ≡ entries-of f row tile (roomless f r).value.log
    listed j n e =
        rw e (entries-plain (bucket f) f.viewport row tile (roomless f r).value.log (replicate line-table 0) _ ((retells j row tile).retold n))

    tile-same : tile-told f r row tile room ≡ tile-listed f r row tile room
    unfolding tile-told tile-listed
    tile-same =
        settled-same (judge-roomless f r) off room story.number (roomless f r).number _ _
        (λ j. (retells j (cond off 0 row) (cond off 0 tile)).number)
        listed

pub list-rules : List-rules
unfolding list-told tile-list
list-rules m w f row tile room = go (parsed f) refl
  where
    go : (o : Option (List (List (List ℕ)))) → parsed f ≡ o → told-in m w o row tile room ≡ listed-in m w o row tile room
    go None e = refl
    go (Some ss) e = let r = recording ss in tile-same (roomless-frame m w r.viewport) r (paints-few f ss e) row tile room
