-- The words of an accepted recording: what is told of its tile is the rules' answer.
use Rattle.std.proofs.Common.{◌≡◌, refl, sym, ap, ◌∙◌, Bool, true, false, not, ◌||◌, cond, List, [], ◌∷◌, Option, None, Some, Result, Ok, Err, ℕ, ◌+◌, arith, leb, ltb, eqb, eq-eqb, eqb-true}
use Rattle.sizes.specs.declared.answers.Refusal.{Refusal}
use Rattle.sizes.specs.declared.answers.Refusal.TheVariants as refusal
use Rattle.sizes.specs.Refusals.{number_of}
use Rattle.sizes.proofs.Refusals.{not_done}
use Rattle.rules.specs.Answers.{Answer, answer, settle, first_of, Done, BadForm}
use Rattle.rules.specs.Boxes.{Box, good_viewport, rows_of}
use Rattle.rules.specs.Rows.{Row, fresh-row, row-ops}
use Rattle.rules.specs.Plans.{Frame, bucket}
use Rattle.rules.specs.Setups.{Setup, frame}
use Rattle.rules.specs.Steps.{Screen, reset, call}
use Rattle.rules.specs.Recording.{Recording, File, parsed, recording, good-records, good-order}
use Rattle.rules.specs.Walk.{Place, frame-of, good-arenas, judge-records, walk-all, play-records, play}
use Rattle.rules.specs.Lines.{nothing, rowlist-place, rowlist-screen}
use Rattle.rules.specs.Plain.{untold, tell-steps}
use Rattle.rules.proofs.All.{never}
use Rattle.rules.specs.Logged.{walk-logged}
use Rattle.rules_picture.proofs.Walked.{all-walks}
use Rattle.rules_reason.specs.Reasons.{Asked, reason}
use Rattle.rules_reason.specs.Answers.{Question, answer-lines, history, off-screen, tile-answer, refused-bytes, recording-answer, answer-in, why-words}
use Rattle.file.specs.Held.{recording_of}
use Rattle.tile.specs.declared.steps.Tale.{Tale}
use Rattle.tile.specs.Telling.{Telling, tell-at, nothing-told}
use Rattle.tile.specs.Places.{Says, ToldTo}
use Rattle.tile.specs.Reading.{reason-read}
use Rattle.refine_tile.proofs.Walked.{tile-told}
use Rattle.refine_tile.proofs.Reasons.{reason-told}
use Rattle.text_why.specs.Questions.{read_by, ToldOf}
use Rattle.text_why.proofs.Lines.{same_answer}

-- what the first of four tests that holds would say
none-holds : (a b c d : Bool) → first_of ((a, 2) ∷ (b, 1) ∷ (c, 4) ∷ (d, 5) ∷ []) ≡ 0 → (a ≡ false) × (c ≡ false)
none-holds true b c d e = let z : ◌≡◌ {A = ℕ} 2 0 = e in absurd (omega arith)
none-holds false true c d e = let z : ◌≡◌ {A = ℕ} 1 0 = e in absurd (omega arith)
none-holds false false true d e = let z : ◌≡◌ {A = ℕ} 4 0 = e in absurd (omega arith)
none-holds false false false d e = (refl, refl)

good_of : (g x : Bool) → (not g || x) ≡ false → g ≡ true
good_of true x e = refl
good_of false x e = never e

not-bad : (g : Bool) → not g ≡ false → g ≡ true
not-bad true e = refl
not-bad false e = never e

-- a recording that is played to its end
module _ (p : Place) (old : Screen Row) (r : Recording) where
  abbrev start : Screen Row
  start = reset fresh-row (frame-of p r)

  abbrev walk : Answer (Screen Row)
  walk = walk-all (Screen Row) (call Row row-ops) r start

  abbrev by-judge : Bool → Answer (Screen Row)
  by-judge t = elim t [
    | true ↦ settle walk.number start walk.value
    | false ↦ answer (judge-records p r) (cond (leb (judge-records p r) BadForm) old start)
  ]

  judged-walked : (play-records (Screen Row) (call Row row-ops) (reset fresh-row) p old r).number ≡ 0 → (judge-records p r ≡ 0) × (walk.number ≡ 0)
  unfolding play-records
  judged-walked = go (eqb (judge-records p r) Done) refl
    where
      walked : (b : Bool) → eqb walk.number Done ≡ b → (cond b (answer Done walk.value) (answer walk.number start)).number ≡ 0 → walk.number ≡ 0
      walked true q z = eqb-true _ _ q
      walked false q z = z

      go : (t : Bool) → eqb (judge-records p r) Done ≡ t → (by-judge t).number ≡ 0 → (judge-records p r ≡ 0) × (walk.number ≡ 0)
      go true e z = (eqb-true _ _ e, walked (eqb walk.number Done) refl z)
      go false e z = never (sym (eq-eqb _ _ z) ∙ e)

  records-good : judge-records p r ≡ 0 → (good_viewport (frame-of p r).viewport ≡ true) × (good-records r ≡ true)
  unfolding judge-records
  records-good e =
      let f = frame-of p r in
      let v = f.viewport in
      let h = none-holds (not (good_viewport v) || ltb p.limit (rows_of v)) (not (good-arenas f p.arenas)) (not (good-records r)) (not (good-order r)) e in
      (good_of (good_viewport v) _ h.0, not-bad (good-records r) h.1)

  logged-done : walk.number ≡ 0 → (walk-logged Row row-ops fresh-row (frame-of p r) r).number ≡ 0
  unfolding walk-logged
  logged-done z = ((all-walks r).at (record { screen = start; log = [] }) (unfold reset in refl)).number ∙ z

-- the tile's story by the engine, on a screen of the frame f
abbrev story : Frame → Recording → ℕ → ℕ → List ℕ → Answer Telling
story f r row tile ls = walk-all Telling (tell-at (bucket f) f.viewport row tile) r (nothing-told ls)

-- it is told to its end, and says what the rules say
pub record Told (f : Frame) (r : Recording) (row tile : ℕ) (ls : List ℕ) : Type 0 where
  pub done : (story f r row tile ls).number ≡ 0
  pub paints : (story f r row tile ls).value.paints ≡ (tell-steps (bucket f) f.viewport row tile (history f r) untold).paints
  pub layers : (story f r row tile ls).value.layers ≡ (tell-steps (bucket f) f.viewport row tile (history f r) untold).layers
  pub reasons : (a : Asked) → reason-read a (story f r row tile ls).value.lines ((story f r row tile ls).value.paints + (story f r row tile ls).value.layers) ≡ reason (bucket f) f.viewport row tile (history f r) a

told-true : (f : Frame) (r : Recording) (row tile : ℕ) (ls : List ℕ) → good_viewport f.viewport ≡ true → (walk-logged Row row-ops fresh-row f r).number ≡ 0 → Told f r row tile ls
told-true f r row tile ls g z =
    let t = tile-told (bucket f) f r row tile ls g z in
    record { done = t.0; paints = t.1.paints; layers = t.1.layers; reasons = reason-told (bucket f) f r row tile ls g z }

-- the answer that the story gives
abbrev pub told-answer : Telling → Question → List ℕ
told-answer t q = answer-lines (read_by t.lines (t.paints + t.layers)) t.paints t.layers q

answer-true : (f : Frame) (r : Recording) (row tile : ℕ) (ls : List ℕ) → Told f r row tile ls → (q : Question)
    → told-answer (story f r row tile ls).value q ≡ tile-answer f row tile (history f r) q
unfolding tile-answer
answer-true f r row tile ls t q =
    let s = (story f r row tile ls).value in
    let why = reason (bucket f) f.viewport row tile (history f r) in
    same_answer (read_by s.lines (s.paints + s.layers)) why t.reasons s.paints s.layers q
    ∙ ap (λ (n : ℕ). answer-lines why n s.layers q) t.paints
    ∙ ap (λ (n : ℕ). answer-lines why (tell-steps (bucket f) f.viewport row tile (history f r) untold).paints n q) t.layers

-- an accepted recording's answer, and that of a recording on its screen
done-answer : (u : Setup) (a : Answer (Screen Row)) (o : Option (List (List (List ℕ)))) (row tile : ℕ) (q : Question) → a.number ≡ 0
    → cond (eqb a.number Done) (answer-in u o row tile q) (refused-bytes a.number) ≡ answer-in u o row tile q
done-answer u a o row tile q z = rw (eq-eqb a.number 0 z)

module _ (u : Setup) (file : File) (accepted : (rowlist-screen u file).number ≡ 0) (row tile : ℕ) where
  words-answer : (q : Question) → why-words u file row tile q ≡ answer-in u (parsed file) row tile q
  unfolding why-words
  words-answer q = done-answer u (rowlist-screen u file) (parsed file) row tile q accepted

  -- where there is no form the call has refused
  pub formless : {x : Refusal} → (x ≡ refusal.BadForm) × (parsed file ≡ None) → (q : Question) → why-words u file row tile q ≡ refused-bytes (number_of x)
  formless b q = rw b.0 (words-answer q ∙ ap (λ (o : Option (List (List (List ℕ)))). answer-in u o row tile q) b.1)

  module _ (r : Recording) (e : recording_of (parsed file) ≡ Some r) where
    -- the screen's frame
    abbrev f : Frame
    f = frame u r.viewport

    recording-there : (q : Question) → why-words u file row tile q ≡ recording-answer f r row tile q
    recording-there q = words-answer q ∙ go (parsed file) e
      where
        go : (o : Option (List (List (List ℕ)))) → recording_of o ≡ Some r → answer-in u o row tile q ≡ recording-answer f r row tile q
        go None i = cc
        go (Some ss) i = let same : recording ss ≡ r = cc in rw same

    played : (play-records (Screen Row) (call Row row-ops) (reset fresh-row) (rowlist-place u file) (reset fresh-row nothing) r).number ≡ 0
    played = by (parsed file) e accepted-play
      where
        old : Screen Row
        old = reset fresh-row nothing

        by-sections : Option (List (List (List ℕ))) → Answer (Screen Row)
        by-sections o = elim o [
          | None ↦ answer BadForm old
          | Some ss ↦ play-records (Screen Row) (call Row row-ops) (reset fresh-row) (rowlist-place u file) old (recording ss)
        ]

        accepted-play : (by-sections (parsed file)).number ≡ 0
        accepted-play = unfold play in accepted

        by : (o : Option (List (List (List ℕ)))) → recording_of o ≡ Some r → (by-sections o).number ≡ 0
            → (play-records (Screen Row) (call Row row-ops) (reset fresh-row) (rowlist-place u file) old r).number ≡ 0
        by None i z = cc
        by (Some ss) i z = let same : recording ss ≡ r = cc in rw same at z

    facts : (judge-records (rowlist-place u file) r ≡ 0) × ((walk (rowlist-place u file) (reset fresh-row nothing) r).number ≡ 0)
    facts = judged-walked (rowlist-place u file) (reset fresh-row nothing) r played

    goods : (good_viewport f.viewport ≡ true) × (good-records r ≡ true)
    goods = records-good (rowlist-place u file) (reset fresh-row nothing) r facts.0

    pub good-here : good-records r ≡ true
    good-here = goods.1

    pub good-view : good_viewport f.viewport ≡ true
    good-view = goods.0

    off-there : off-screen f.viewport row tile ≡ true → (q : Question) → recording-answer f r row tile q ≡ refused-bytes 12
    unfolding recording-answer
    off-there h q = rw h

    on-there : off-screen f.viewport row tile ≡ false → (q : Question) → recording-answer f r row tile q ≡ tile-answer f row tile (history f r) q
    unfolding recording-answer
    on-there h q = rw h

    told : (ls : List ℕ) → Told f r row tile ls
    told ls = told-true f r row tile ls goods.0 (logged-done (rowlist-place u file) (reset fresh-row nothing) r facts.1)

    -- the viewport v that the screen has
    module _ (v : Box) (view : f.viewport ≡ v) where
      pub off-answer : off-screen v row tile ≡ true → (q : Question) → why-words u file row tile q ≡ refused-bytes 12
      off-answer h q = recording-there q ∙ off-there (ap (λ (b : Box). off-screen b row tile) view ∙ h) q

      module _ (on : off-screen v row tile ≡ false) (ls : List ℕ) where
        abbrev seen : Answer Telling
        seen = walk-all Telling (tell-at (bucket f) v row tile) r (nothing-told ls)

        same-story : story f r row tile ls ≡ seen
        same-story = ap (λ (b : Box). walk-all Telling (tell-at (bucket f) b row tile) r (nothing-told ls)) view

        pub told-done : seen.number ≡ 0
        told-done = rw same-story at (told ls).done

        pub answered : {t : Telling} → Says seen 0 t → (q : Question) → why-words u file row tile q ≡ told-answer t q
        answered s q =
            recording-there q
            ∙ on-there (ap (λ (b : Box). off-screen b row tile) view ∙ on) q
            ∙ sym (answer-true f r row tile ls (told ls) q)
            ∙ ap (λ (x : Answer Telling). told-answer x.value q) same-story
            ∙ ap (λ (x : Telling). told-answer x q) (s.value refl)

        -- what the code tells of the tile
        pub told-of : (x : Result Tale Refusal) (cs : List ℕ) → ToldTo seen x cs → ToldOf u file row tile x cs
        told-of (Ok t) cs s = (s.1, answered s.0)
        told-of (Err r) cs s = absurd (not_done r (sym s ∙ told-done))
