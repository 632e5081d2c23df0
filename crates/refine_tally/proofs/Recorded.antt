-- What is counted of a recording at the words is what the rules count of its file, in the place that is lent. Assumes nothing.
use Rattle.std.proofs.Common.{◌≡◌, refl, sym, ap, ◌∙◌, Bool, true, false, not, cond, List, [], ◌∷◌, Option, None, Some, ℕ, eqb, eq-eqb, eqb-true}
use Rattle.std.proofs.lemmas.List.{length-take}
use Rattle.rules.specs.Answers.{Answer, answer, first_of, Done, BadArena, BadViewport, BadRecord}
use Rattle.rules.specs.Boxes.{good_viewport, rows_of}
use Rattle.rules.specs.Rows.{Row, fresh-row, row-ops}
use Rattle.rules.specs.Plans.{Frame}
use Rattle.rules.specs.Steps as rule
use Rattle.rules.specs.Steps.{reset, call}
use Rattle.rules.specs.Recording.{Recording, File, parsed, recording}
use Rattle.rules.specs.Setups.{Setup, frame}
use Rattle.rules.specs.Walk.{Place, ◌then◌, good-arenas, play-records}
use Rattle.rules.specs.Lines as rules
use Rattle.rules.proofs.All.{never}
use Rattle.rules_picture.specs.Recorded.{played, history}
use Rattle.rules_picture.proofs.Recorded.{records-done, play-some}
use Rattle.rules_figures.specs.Figures.{one-refused, figures}
use Rattle.rules_figures.specs.Recordings.{of-answer, of-sections, of-file}
use Rattle.rules_figures.specs.RowFigures.{screen-figures}
use Rattle.rules_figures.specs.Accounted.{Left}
use Rattle.rules_figures.proofs.Read.{figures-read}
use Rattle.rules_figures.proofs.Screens.{same-built, frame-is}
use Rattle.screen.specs.declared.lent.Lengths.{Lengths}
use Rattle.screen.specs.Judging.{good-tables, arenas, judged_reset}
use Rattle.screen.specs.Tables.{Tables, lengths, ScreenLent, screen_lent, reset_to}
use Rattle.walk.specs.Recorded.{recorded-in, recorded}
use Rattle.refine_steps.specs.Lent.{lent_of}
use Rattle.refine_steps.proofs.Refined.{Refines, step-refines, reset-refines}
use Rattle.refine_paint.specs.Fair.{FairRows}
use Rattle.refine_paint.proofs.Kept.{call-fair, reset-fair}
use Rattle.refine_file.specs.Played.{place, Plays, Outcome, unaltered, made}
use Rattle.refine_file.proofs.Laws.{words-play}
use Rattle.tally.specs.Parts.{needed-words, cut, at-most}
use Rattle.tally.specs.Recordings.{screen-of, answered, bucketed, recorded-figures}
use Rattle.refine_tally.specs.Left.{Leaves}
use Rattle.refine_tally.specs.Lent.{has-tables, figures-in, lent-figures}
use Rattle.refine_tally.proofs.Screens.{screen-counted}

-- words that hold a screen of the rules whose rows are fair
record Reads (s : rule.Screen Row) (l : ScreenLent) : Type 0 where
  pub refines : Refines s l
  pub fair : FairRows s

-- they are counted as the rules count the screen
lent-counted : (s : rule.Screen Row) (l : ScreenLent) → Reads s l → screen-of l ≡ screen-figures s
unfolding lent_of
lent-counted s l h = ap screen-of h.refines.holds.same ∙ screen-counted s h.refines.sound h.fair h.refines.holds.begun

-- the screen before: no rows
abbrev old : rule.Screen Row
old = reset fresh-row rules.nothing

-- a recording call leaves such words
file-reads : (f : File) (q : Setup) (m : ScreenLent)
    → ((ss : List (List (List ℕ))) → parsed f ≡ Some ss → good-tables (rows_of (frame q (recording ss).viewport).viewport) (lengths m.tables) ≡ true)
    → Plays Reads old m (played (place q m) old f) (recorded f q m)
file-reads f q m =
    words-play (rule.Screen Row) (call Row row-ops) (reset fresh-row) Reads
    (λ x s l h.
    let a = step-refines x s l h.refines in
    record { number = a.number; value = λ e. record { refines = a.value; fair = call-fair x s h.refines.sound h.fair } })
    (λ k l z. record { refines = (reset-refines k l z).value; fair = reset-fair k })
    f q m old

module _ (f : File) (q : Setup) (m : ScreenLent) where
  abbrev p : Place
  p = place q m

  -- a file of good form, whose tables are lent
  module _ (ss : List (List (List ℕ))) (e : parsed f ≡ Some ss) where
    abbrev r : Recording
    r = recording ss

    abbrev its : Frame
    its = frame q r.viewport

    -- what the rules play of it
    abbrev theirs : Answer (rule.Screen Row)
    theirs = play-records (rule.Screen Row) (call Row row-ops) (reset fresh-row) p old r

    plays : good-tables (rows_of its.viewport) (lengths m.tables) ≡ true → Plays Reads old m theirs (recorded f q m)
    plays t =
        rw (← play-some p old f ss e)
        (file-reads f q m (λ ts i. let k : ts ≡ ss = cc in rw k t))

    -- where it is played to its end, the words hold the screen that its history builds, ..
    leaves : good-tables (rows_of its.viewport) (lengths m.tables) ≡ true → theirs.number ≡ Done → Reads theirs.value (recorded f q m).value
    leaves t d = go (plays t).value
      where
        go : Outcome Reads theirs.number old m theirs.value (recorded f q m).value → Reads theirs.value (recorded f q m).value
        go (unaltered i x y) = never (sym (eq-eqb _ _ d) ∙ i)
        go (made x) = x

    left : good-tables (rows_of its.viewport) (lengths m.tables) ≡ true → theirs.number ≡ Done → Left its (history p r) theirs.value
    left t d =
        let b = (records-done p old r d).0 in
        record { view = rw (frame-is its b) at (leaves t d).refines.sound.viewport; built = b }

    -- .. and are counted as the rules count it
    done-counted : good-tables (rows_of its.viewport) (lengths m.tables) ≡ true → theirs.number ≡ Done → screen-of (recorded f q m).value ≡ figures its (history p r) theirs.value
    done-counted t d = lent-counted theirs.value (recorded f q m).value (leaves t d) ∙ figures-read its (history p r) theirs.value (left t d)

    counted : good-tables (rows_of its.viewport) (lengths m.tables) ≡ true → answered (recorded f q m) ≡ of-answer p r theirs
    counted t = rw (plays t).number (go (eqb theirs.number Done) refl)
      where
        go : (b : Bool) → eqb theirs.number Done ≡ b → cond b (screen-of (recorded f q m).value) one-refused ≡ cond b (figures its (history p r) theirs.value) one-refused
        go true i = done-counted t (eqb-true _ _ i)
        go false i = refl

    -- without them its reset is refused
    bad-number : (x y : Bool) → eqb (first_of ((x, BadViewport) ∷ (y, BadArena) ∷ (true, BadRecord) ∷ [])) Done ≡ false
    bad-number true y = refl
    bad-number false true = refl
    bad-number false false = refl

    judged-bad : good-tables (rows_of its.viewport) (lengths m.tables) ≡ false → eqb (judged_reset its (lengths m.tables)) Done ≡ false
    unfolding judged_reset
    judged-bad t = rw t (bad-number (not (good_viewport its.viewport)) (not (good-arenas its (arenas (lengths m.tables)))))

    refused-in : (n : ℕ) → judged_reset its (lengths m.tables) ≡ n → eqb n Done ≡ false → recorded f q m ≡ answer n m
    unfolding recorded recorded-in ◌then◌ reset_to
    refused-in n i z = rw (e, i, z, z)

    refused : good-tables (rows_of its.viewport) (lengths m.tables) ≡ false → answered (recorded f q m) ≡ one-refused
    refused t =
        let z = judged-bad t in
        rw (refused-in (judged_reset its (lengths m.tables)) refl z, z)

    -- An accepted one: its tables are there, it is played to its end, ..
    module _ (z : (recorded f q m).number ≡ Done) where
      tabled : good-tables (rows_of its.viewport) (lengths m.tables) ≡ true
      tabled = go (good-tables (rows_of its.viewport) (lengths m.tables)) refl
        where
          go : (b : Bool) → good-tables (rows_of its.viewport) (lengths m.tables) ≡ b → b ≡ true
          go true t = refl
          go false t =
              let j = judged-bad t in
              let n : judged_reset its (lengths m.tables) ≡ Done = sym (ap (λ (a : Answer ScreenLent). a.number) (refused-in (judged_reset its (lengths m.tables)) refl j)) ∙ z in
              never (sym (eq-eqb _ _ n) ∙ j)

      ended : theirs.number ≡ Done
      ended = sym (plays tabled).number ∙ z

      -- .. it leaves the words of the screen that its history builds, ..
      pub accepted-leaves : Leaves f q m (record { parts = ss; formed = e })
      accepted-leaves = record { screen = theirs.value; left = left tabled ended; holds = (leaves tabled ended).refines.holds }

      -- .. and its figures are those of its history and of that screen.
      pub accepted-counted : (u : rule.Screen Row) → Left its (history p r) u → answered (recorded f q m) ≡ figures its (history p r) u
      accepted-counted u l =
          counted tabled ∙ rw ended (ap (figures its (history p r)) (same-built (left tabled ended).built l.built))

  formless : parsed f ≡ None → answered (recorded f q m) ≡ one-refused
  unfolding recorded
  formless e = rw e refl

  pub recording-counted : answered (recorded f q m) ≡ figures-in f q (lengths m.tables)
  unfolding figures-in of-file
  recording-counted = go (parsed f) refl
    where
      tables : (ss : List (List (List ℕ))) → parsed f ≡ Some ss → (b : Bool) → good-tables (rows_of (frame q (recording ss).viewport).viewport) (lengths m.tables) ≡ b
          → answered (recorded f q m) ≡ cond b (of-sections p f (Some ss)) one-refused
      tables ss e true t = counted ss e t ∙ rw (play-some p old f ss e) refl
      tables ss e false t = refused ss e t

      go : (o : Option (List (List (List ℕ)))) → parsed f ≡ o → answered (recorded f q m) ≡ cond (has-tables o q (lengths m.tables)) (of-sections p f o) one-refused
      go None e = formless e
      go (Some ss) e = tables ss e (good-tables (rows_of (frame q (recording ss).viewport).viewport) (lengths m.tables)) refl

-- how many the first words are
cut-lengths : (n : Lengths) (t : Tables) → lengths (cut n t) ≡ at-most n (lengths t)
cut-lengths n t = simp length-take

-- of each recording of a list, from any screen and words: by how many words of each table are lent
pub figures-counted : (f : File) (q : Setup) (l : ScreenLent) → recorded-figures f q l ≡ lent-figures f q (lengths l.tables)
unfolding bucketed
figures-counted f q l =
    recording-counted f q (screen_lent l.screen (cut (needed-words f q) l.tables))
    ∙ ap (figures-in f q) (cut-lengths (needed-words f q) l.tables)
