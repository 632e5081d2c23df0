-- A done play of a file's words leaves no layer open, and opacities that are words. Assumes nothing.
use Rattle.std.proofs.Common.{◌≡◌, refl, sym, ap, ◌∙◌, Bool, true, false, cond, List, [], Option, None, Some, ℕ, arith, leb, eqb, eq-eqb, eqb-true, length, drop}
use Rattle.rules.specs.Answers.{Answer, answer, settle, Done, BadForm}
use Rattle.rules.specs.Rows.{Row, fresh-row, row-ops}
use Rattle.rules.specs.Steps.{Screen, reset, call}
use Rattle.rules.specs.Recording.{Recording, File, head, shape, starts, sections, parsed, recording}
use Rattle.rules.specs.Walk.{Place, frame-of, judge-records, walk-all, play-records, play}
use Rattle.rules.proofs.All.{All, nil, all_drop, never}
use Rattle.rules_picture.proofs.Walked.{all-walks}
use Rattle.theorem_text.proofs.Small.{Word, Opacities, walk-small, said-small}

pub record Ended (s : Screen Row) : Type 0 where
  pub closed : s.state.layers ≡ []
  pub small : Opacities s

module _ (p : Place) (old : Screen Row) (ss : List (List (List ℕ))) (words : All (All (All Word)) ss) where
  abbrev r : Recording
  r = recording ss

  abbrev start : Screen Row
  start = reset fresh-row (frame-of p r)

  abbrev walk : Answer (Screen Row)
  walk = walk-all (Screen Row) (call Row row-ops) r start

  -- every layer that the walk opens it closes
  walk-ended : walk.number ≡ Done → Ended walk.value
  unfolding reset
  walk-ended e =
      let w = (all-walks r).at (record { screen = start; log = [] }) refl in
      record {
        closed = sym (ap (λ (s : Screen Row). s.state.layers) w.screen) ∙ w.layers (w.number ∙ e);
        small = (walk-small ss words).kept start (record { layers = nil; attrs = nil });
      }

  records-ended : (play-records (Screen Row) (call Row row-ops) (reset fresh-row) p old r).number ≡ 0 → Ended (play-records (Screen Row) (call Row row-ops) (reset fresh-row) p old r).value
  unfolding play-records
  records-ended = go (eqb (judge-records p r) Done) refl
    where
      walked : (b : Bool) → eqb walk.number Done ≡ b → (cond b (answer Done walk.value) (answer walk.number start)).number ≡ 0
          → Ended (cond b (answer Done walk.value) (answer walk.number start)).value
      walked true q z = walk-ended (eqb-true _ _ q)
      walked false q z = never (sym (eq-eqb _ _ z) ∙ q)

      by-judge : Bool → Answer (Screen Row)
      by-judge t = elim t [
        | true ↦ settle walk.number start walk.value
        | false ↦ answer (judge-records p r) (cond (leb (judge-records p r) BadForm) old start)
      ]

      go : (t : Bool) → eqb (judge-records p r) Done ≡ t → (by-judge t).number ≡ 0 → Ended (by-judge t).value
      go true e z = walked (eqb walk.number Done) refl z
      go false e z = never (sym (eq-eqb _ _ z) ∙ e)

-- a file of words has sections of words
parsed-small : (f : File) (ss : List (List (List ℕ))) → parsed f ≡ Some ss → All Word f.words → All (All (All Word)) ss
unfolding parsed
parsed-small f ss e words = go (starts (head f.edition) f.words) e
  where
    n : ℕ
    n = length (head f.edition)

    go : (b : Bool) → cond b (sections (shape f.edition) (drop n f.words)) None ≡ Some ss → All (All (All Word)) ss
    go true i = said-small (shape f.edition) (drop n f.words) ss i (all_drop n words)
    go false i = cc

pub play-ended : (p : Place) (old : Screen Row) (ws : File) → All Word ws.words → (play (Screen Row) (call Row row-ops) (reset fresh-row) p old ws).number ≡ 0
    → Ended (play (Screen Row) (call Row row-ops) (reset fresh-row) p old ws).value
unfolding play
play-ended p old ws words = go (parsed ws) refl
  where
    played : Option (List (List (List ℕ))) → Answer (Screen Row)
    played o = elim o [
      | None ↦ answer BadForm old
      | Some qs ↦ play-records (Screen Row) (call Row row-ops) (reset fresh-row) p old (recording qs)
    ]

    go : (o : Option (List (List (List ℕ)))) → parsed ws ≡ o → (played o).number ≡ 0 → Ended (played o).value
    go None e z = absurd (omega arith)
    go (Some ss) e z = records-ended p old ss (parsed-small ws ss e words) z
