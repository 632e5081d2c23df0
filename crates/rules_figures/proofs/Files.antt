-- The figures of a file, played in any place: accepted or refused, every tile is accounted for, and each number is small.
use Rattle.std.proofs.Common.{ℕ, ◌≤◌, arith, ◌≡◌, refl, sym, ◌∙◌, Bool, true, false, ◌&&◌, ◌||◌, not, Option, None, Some, List, [], ◌∷◌, eqb, eqb-true, leb, leb-true, ltb}
use Rattle.sizes.specs.Sizes.{most-room}
use Rattle.rules.specs.Answers.{Answer, first_of, Done, BadViewport, BadArena, BadRecord, BadOrder}
use Rattle.rules.specs.Boxes.{good_viewport, rows_of}
use Rattle.rules.specs.Rows.{Row, fresh-row, row-ops}
use Rattle.rules.specs.Steps.{Screen, reset, call}
use Rattle.rules.specs.Recording.{Recording, parsed, recording, good-records, good-order}
use Rattle.rules.specs.Walk.{Place, frame-of, good-room, good-arenas, needed, same-arenas, judge-records, play-records}
use Rattle.rules.specs.Lines as rule
use Rattle.rules.proofs.All.{and_left, and_right, or_left, never}
use Rattle.rules_picture.specs.Recorded.{history}
use Rattle.rules_picture.proofs.Cases.{by}
use Rattle.rules_picture.proofs.Recorded.{records-done, play-some}
use Rattle.rules_figures.specs.Figures.{one-refused}
use Rattle.rules_figures.specs.Recordings.{of-answer, of-sections, of-file}
use Rattle.rules_figures.specs.Accounted.{Left, Accounted, Small, Files-accounted}
use Rattle.rules_figures.proofs.Asked.{asked-accounted}
use Rattle.rules_figures.proofs.Small.{figures-small}

pub refused-accounted : Accounted one-refused × Small one-refused
refused-accounted = (refl, record { asked = omega arith; painted = omega arith; hidden = omega arith; commands = omega arith; fills = omega arith; refused = omega arith })

-- a recording that is judged good has a good viewport, and its rooms are within the limit
judged-tests : (a b c d : Bool) → first_of ((a, BadViewport) ∷ (b, BadArena) ∷ (c, BadRecord) ∷ (d, BadOrder) ∷ []) ≡ Done → (a ≡ false) × (b ≡ false)
judged-tests true b c d q = absurd (omega arith)
judged-tests false true c d q = absurd (omega arith)
judged-tests false false c d q = (refl, refl)

not-false : (b : Bool) → not b ≡ false → b ≡ true
not-false true e = refl
not-false false e = never e

record Judged (p : Place) (r : Recording) : Type 0 where
  view : good_viewport (frame-of p r).viewport ≡ true
  c : (frame-of p r).c ≤ most-room
  d : (frame-of p r).d ≤ most-room

judged-good : (p : Place) (r : Recording) → judge-records p r ≡ Done → Judged p r
unfolding judge-records
judged-good p r e =
    let f = frame-of p r in
    let (v, a) = judged-tests (not (good_viewport f.viewport) || ltb p.limit (rows_of f.viewport)) (not (good-arenas f p.arenas)) (not (good-records r)) (not (good-order r)) e in
    let rooms = and_left (good-room f.c && good-room f.d) (same-arenas p.arenas (needed f)) (not-false (good-arenas f p.arenas) a) in
    record {
      view = not-false (good_viewport f.viewport) (or_left _ _ v);
      c = leb-true f.c most-room (and_right (leb 1 f.c) _ (and_left (good-room f.c) (good-room f.d) rooms));
      d = leb-true f.d most-room (and_right (leb 1 f.d) _ (and_right (good-room f.c) (good-room f.d) rooms));
    }

module _ (p : Place) (old : Screen Row) (r : Recording) where
  abbrev plays : Answer (Screen Row)
  plays = play-records (Screen Row) (call Row row-ops) (reset fresh-row) p old r

  judged-bad : eqb (judge-records p r) Done ≡ false → plays.number ≡ judge-records p r
  unfolding play-records
  judged-bad n = rw (n, play-records)

  -- a recording that is played to its end is judged good
  judged-done : plays.number ≡ Done → judge-records p r ≡ Done
  judged-done e = by (eqb (judge-records p r) Done)
      (λ y. eqb-true (judge-records p r) Done y)
      (λ n. sym (judged-bad n) ∙ e)

  recording-accounted : Accounted (of-answer p r plays) × Small (of-answer p r plays)
  recording-accounted = by (eqb plays.number Done)
      (λ y.
      let e = eqb-true plays.number Done y in
      let j = judged-good p r (judged-done e) in
      let l : Left (frame-of p r) (history p r) plays.value = record { view = j.view; built = (records-done p old r e).0 } in
      rw y (asked-accounted (frame-of p r) (history p r) plays.value l, figures-small (frame-of p r) (history p r) plays.value l j.c j.d))
      (λ n. rw n refused-accounted)

pub files-accounted : Files-accounted
unfolding of-file
files-accounted p f = go (parsed f) refl
  where
    go : (o : Option (List (List (List ℕ)))) → parsed f ≡ o → Accounted (of-sections p f o) × Small (of-sections p f o)
    go None e = refused-accounted
    go (Some ss) e = rw (play-some p (reset fresh-row rule.nothing) f ss e) (recording-accounted p (reset fresh-row rule.nothing) (recording ss))
