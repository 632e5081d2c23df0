-- A recording call at the words has the rules' answer: by the file's form, its viewport and arenas, its records, and then along the walk, whose
-- steps follow one another. Said once for every state S that a reset makes and steps change, and words that R relates to it. Assumes nothing.
use Rattle.std.proofs.Common.{◌≡◌, refl, sym, ap, ◌∙◌, Bool, true, false, cond, List, Option, None, Some, ℕ, leb, ltb, eqb, le-ltb, eqb-true}
use Rattle.rules.specs.Answers.{Answer, answer, settle, Done, BadArena, BadViewport, BadForm, BadRecord, BadOrder}
use Rattle.rules.specs.Boxes.{Box, good_viewport, rows_of}
use Rattle.rules.specs.Rows.{Row, fresh-row, row-ops}
use Rattle.rules.specs.Steps.{Screen, reset, call}
use Rattle.rules.specs.Recording.{Recording, File, parsed, recording, good-records, good-order}
use Rattle.rules.specs.Plans.{Frame, Step}
use Rattle.rules.specs.Setups.{Setup, frame}
use Rattle.rules.specs.Walk.{◌then◌, good-arenas, frame-of, judge-records, walk-all, play-records, play}
use Rattle.rules.proofs.All.{never}
use Rattle.screen.specs.Judging.{good-tables, arenas, judged_reset}
use Rattle.screen.specs.Tables.{lengths, ScreenLent, reset_to}
use Rattle.screen.proofs.ScreenLaws.{few_rows}
use Rattle.walk.specs.Steps.{call_at}
use Rattle.file.specs.Judging.{judged}
use Rattle.walk.specs.Recorded.{or-fresh, played, recorded-in, of-sections, recorded}
use Rattle.rules.proofs.laws.Answers.{settle-number}
use Rattle.refine_steps.proofs.Refined.{Refines, reset-refines, step-refines}
use Rattle.rules.proofs.Follows.{Both, Follow, walk-follows}
use Rattle.refine_file.specs.Played.{place, unaltered, made, Plays}

module _ (S : Type 0) (step : Step → S → Answer S) (fresh-state : Frame → S) (R : S → ScreenLent → Type 0)
    (follows : (x : Step) → Follow R (step x) (call_at x))
    (reset-made : (f : Frame) (l : ScreenLent) → judged_reset f (lengths l.tables) ≡ 0 → R (fresh-state f) (reset_to f l).value) where
  module _ (r : Recording) (q : Setup) (l : ScreenLent) (old : S)
      (t : good-tables (rows_of (frame q r.viewport).viewport) (lengths l.tables) ≡ true) where
    abbrev f : Frame
    f = frame q r.viewport

    abbrev v : Box
    v = f.viewport

    abbrev start : S
    start = fresh-state (frame-of (place q l) r)

    abbrev rules-walk : Answer S
    rules-walk = walk-all S step r start

    -- the rules' play, by its first number
    abbrev theirs : Answer S
    theirs = play-records S step fresh-state (place q l) old r

    abbrev judge : ℕ
    judge = judge-records (place q l) r

    refused-play : (n : ℕ) → judge ≡ n → eqb n Done ≡ false → theirs ≡ answer n (cond (leb n BadForm) old start)
    unfolding play-records
    refused-play n e z = go (eqb judge Done) (ap (λ (m : ℕ). eqb m Done) e ∙ z)
      where
        go : (x : Bool) → x ≡ false
            → elim x [
              | true ↦ settle rules-walk.number start rules-walk.value
              | false ↦ answer judge (cond (leb judge BadForm) old start)
            ] ≡ answer n (cond (leb n BadForm) old start)
        go true q = never q
        go false q = rw e

    done-play : judge ≡ Done → theirs ≡ settle rules-walk.number start rules-walk.value
    unfolding play-records
    done-play e = go (eqb judge Done) (ap (λ (m : ℕ). eqb m Done) e)
      where
        go : (x : Bool) → x ≡ true
            → elim x [
              | true ↦ settle rules-walk.number start rules-walk.value
              | false ↦ answer judge (cond (leb judge BadForm) old start)
            ] ≡ settle rules-walk.number start rules-walk.value
        go true q = refl
        go false q = never (sym q)

    -- the call at the words
    abbrev fresh : Answer ScreenLent
    fresh = reset_to f l

    refused-reset : (n : ℕ) → judged_reset f (lengths l.tables) ≡ n → eqb n Done ≡ false → recorded-in r q l ≡ answer n l
    unfolding recorded-in ◌then◌ reset_to
    refused-reset n e z = rw (e, z, z)

    done-reset : fresh.number ≡ Done → recorded-in r q l ≡ played r fresh.value
    unfolding recorded-in ◌then◌
    done-reset e = rw e

    refused-records : (m : ScreenLent) (n : ℕ) → judged r ≡ n → eqb n Done ≡ false → played r m ≡ answer n m
    unfolding played ◌then◌
    refused-records m n e z = rw (e, z, z)

    walked-records : (m : ScreenLent) → judged r ≡ Done → played r m ≡ or-fresh m (walk-all ScreenLent call_at r m)
    unfolding played ◌then◌
    walked-records m e = rw e

    abbrev ours : Answer ScreenLent
    ours = recorded-in r q l

    no-play : (n : ℕ) → eqb n Done ≡ false → leb n BadForm ≡ true → judge-records (place q l) r ≡ n → judged_reset f (lengths l.tables) ≡ n → Plays R old l theirs ours
    no-play n z k e g = rw (refused-play n e z, refused-reset n g z, k) (record { number = refl; value = unaltered z refl refl })

    bad-view : good_viewport v ≡ false → Plays R old l theirs ours
    unfolding judge-records judged_reset
    bad-view e = no-play BadViewport refl refl (rw e) (rw e)

    module _ (e : good_viewport v ≡ true) where
      few : ltb 512 (rows_of v) ≡ false
      few = le-ltb 512 (rows_of v) (few_rows v e)

      bad-arenas : good-arenas f (arenas (lengths l.tables)) ≡ false → Plays R old l theirs ours
      unfolding judge-records judged_reset
      bad-arenas g = no-play BadArena refl refl (rw (e, few, g)) (rw (e, g))

      module _ (g : good-arenas f (arenas (lengths l.tables)) ≡ true) where
        judged-done : judged_reset f (lengths l.tables) ≡ 0
        unfolding judged_reset
        judged-done = rw (e, g, t)

        resets : R start fresh.value
        resets = reset-made f l judged-done

        ours-is : ours ≡ played r fresh.value
        unfolding reset_to
        ours-is = done-reset (settle-number (judged_reset f (lengths l.tables)) l _ ∙ judged-done)

        judge-is : judge-records (place q l) r ≡ judged r
        unfolding judge-records
        judge-is = rw (e, few, g)

        bad-records : (n : ℕ) → eqb n Done ≡ false → leb n BadForm ≡ false → judged r ≡ n → Plays R old l theirs ours
        bad-records n z k q =
            rw (refused-play n (judge-is ∙ q) z, ours-is, refused-records fresh.value n q z, k)
            (record { number = refl; value = made resets })

        walks : Both R rules-walk (walk-all ScreenLent call_at r fresh.value)
        walks = walk-follows R step call_at follows r start fresh.value resets

        good-records-play : judged r ≡ Done → Plays R old l theirs ours
        good-records-play q =
            rw (done-play (judge-is ∙ q), ours-is, walked-records fresh.value q)
            (go (eqb rules-walk.number Done) (eqb (walk-all ScreenLent call_at r fresh.value).number Done) refl (ap (λ (n : ℕ). eqb n Done) walks.number))
          where
            go : (x y : Bool) → eqb rules-walk.number Done ≡ x → y ≡ x
                → Plays R old l (cond x (answer Done rules-walk.value) (answer rules-walk.number start))
                (cond y (walk-all ScreenLent call_at r fresh.value) (answer (walk-all ScreenLent call_at r fresh.value).number fresh.value))
            go true true d z = record { number = walks.number ∙ eqb-true _ _ d; value = made (walks.value (eqb-true _ _ d)) }
            go false false d z = record { number = walks.number; value = made resets }
            go true false d z = never (sym z)
            go false true d z = never z

        by-records : (x y : Bool) → good-records r ≡ x → good-order r ≡ y → Plays R old l theirs ours
        by-records false y p q = bad-records BadRecord refl refl (rw p)
        by-records true false p q = bad-records BadOrder refl refl (rw (p, q))
        by-records true true p q = good-records-play (rw (p, q))

    -- the records of a file
    pub records-play : Plays R old l theirs ours
    records-play = go (good_viewport v) (good-arenas f (arenas (lengths l.tables))) refl refl
      where
        go : (x y : Bool) → good_viewport v ≡ x → good-arenas f (arenas (lengths l.tables)) ≡ y → Plays R old l theirs ours
        go false y p q = bad-view p
        go true false p q = bad-arenas p q
        go true true p q = by-records p q (good-records r) (good-order r) refl refl

  -- A recording call, from a state's words to all words afterwards: it has the rules' number, and leaves words that R relates to the rules'
  -- state, or alters nothing. The tables beside the arenas are as long as the frame asks.
  pub words-play : (ws : File) (q : Setup) (l : ScreenLent) (old : S)
      → ((ss : List (List (List ℕ))) → parsed ws ≡ Some ss → good-tables (rows_of (frame q (recording ss).viewport).viewport) (lengths l.tables) ≡ true)
      → Plays R old l (play S step fresh-state (place q l) old ws) (recorded ws q l)
  unfolding play recorded
  words-play ws q l old h = go (parsed ws) refl
    where
      go : (o : Option (List (List (List ℕ)))) → parsed ws ≡ o
          → Plays R old l
          (elim o [
            | None ↦ answer BadForm old
            | Some ss ↦ play-records S step fresh-state (place q l) old (recording ss)
          ])
          (of-sections o q l)
      go None e = record { number = refl; value = unaltered refl refl refl }
      go (Some ss) e = records-play (recording ss) q l old (h ss e)

-- The screens of the rules: the words left are those of the rules' screen.
pub file-plays : (ws : File) (q : Setup) (l : ScreenLent) (old : Screen Row)
    → ((ss : List (List (List ℕ))) → parsed ws ≡ Some ss → good-tables (rows_of (frame q (recording ss).viewport).viewport) (lengths l.tables) ≡ true)
    → Plays Refines old l (play (Screen Row) (call Row row-ops) (reset fresh-row) (place q l) old ws) (recorded ws q l)
file-plays =
    words-play (Screen Row) (call Row row-ops) (reset fresh-row) Refines
    (λ x s l h. let a = step-refines x s l h in record { number = a.number; value = λ e. a.value })
    (λ f l z. (reset-refines f l z).value)
