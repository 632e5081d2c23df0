-- What the program `rowlist` writes of a file's words is the text of the rules' `rowlist` of them. Assumes nothing.
use Rattle.std.proofs.Common.{◌≡◌, refl, sym, ap, ◌∙◌, Bool, true, false, not, ◌&&◌, ◌||◌, cond, List, [], ◌∷◌, ◌++◌, append-nil, Option, None, Some, Ok, Err, ℕ, ◌+◌, ◌*◌, ◌≤◌, add-one, add-zero, arith, ltb, leb}
use Rattle.std.proofs.Common.{eqb, length, get_or, drop, get_or-drop, le-ltb, lt-ltb, leb-true, leb-false, eq-eqb, eqb-true}
use Rattle.sizes.specs.declared.answers.Refusal.TheVariants as refusal
use Rattle.sizes.specs.declared.width.Width.{Width}
use Rattle.sizes.specs.Widths.{bucket-tiles}
use Rattle.sizes.specs.declared.edition.Edition.{Edition}
use Rattle.rules.specs.Answers.{Answer, answer, settle, Done, BadForm}
use Rattle.rules.specs.Boxes.{Box, box, good_viewport, rows_of, buckets-of}
use Rattle.rules.specs.Rows.{Row, fresh-row, row-ops}
use Rattle.rules.specs.Plans.{Frame, buckets-across}
use Rattle.rules.specs.Minima.{minima-room}
use Rattle.rules.specs.Setups.{Setup, frame}
use Rattle.rules.specs.Steps.{Screen, reset, call}
use Rattle.rules.specs.Recording.{Recording, File, in-edition, head, parsed, recording, box-in}
use Rattle.rules.specs.Walk.{Place, Arenas, needed, good-arenas, frame-of, judge-records, walk-all, play-records, play}
use Rattle.rules.specs.Lines as rules
use Rattle.rules.specs.Lines.{refused, answer-lines, rowlist-place, rowlist-screen, rowlist-words, words_of, rowlist, line-bytes}
use Rattle.rules.proofs.All.{never, and_left, and_right}
use Rattle.screen.specs.declared.Screen as declared
use Rattle.screen.specs.Judging.{good-tables, arenas, judged_reset}
use Rattle.screen.specs.Tables.{Tables, lengths, ScreenLent, screen_lent}
use Rattle.refine_steps.specs.Sound.{Fitting}
use Rattle.refine_steps.proofs.Refined.{Refines}
use Rattle.refine_steps.proofs.Reset.{fresh-sound}
use Rattle.refine_paint.proofs.Kept.{reset-fair}
use Rattle.refine_file.specs.Played.{place, Plays, Outcome, unaltered, made}
use Rattle.refine_file.proofs.Laws.{file-plays}
use Rattle.walk.specs.Recorded.{recorded}
use Rattle.file.specs.Layouts.{layout, form_of, sections_at}
use Rattle.file.specs.Words.{words-in}
use Rattle.file.proofs.Laid.{good-form}
use Rattle.file.proofs.Reading.{viewport-is}
use Rattle.file.specs.Held.{recording_of}
use Rattle.text.specs.Listed.{listed, written, text_of}
use Rattle.text.specs.declared.recording.Size.{Size}
use Rattle.text.specs.Files.{Showed, file-text, shows-as, nothing, refusing, shown-as, showing, FileOut, file-out, answered, recording-text, size, sized-if, sized, size_of, good-bytes, file-size, Usual, Exact, blank, sized-text, bytes-text}
use Rattle.text.proofs.FileTexts.{blank_exact}
use Rattle.text.proofs.Bytes.{by-file}
use Rattle.refine_text.proofs.Lengths.{line-few, lines-few, rows_few}
use Rattle.refine_text.proofs.Printed.{row_words, listed-held}
use Rattle.refine_text.proofs.Walked.{Kept, walk-keeps}

-- how many bytes are written, and all bytes afterwards
abbrev pub shows : Showed → ℕ × List ℕ
shows x = (x.text.bytes, x.bytes)

-- a text at the start of the bytes; what was after it stays
abbrev pub text-first : List ℕ → List ℕ → ℕ × List ℕ
text-first ts bs = (length ts, ts ++ drop (length ts) bs)

-- the frame of a file's screen
abbrev pub usual-frame : Box → Width → Frame
usual-frame v x = record { viewport = v; c = 64; d = 64; width = x }

-- its size
abbrev pub usual-size : Box → Width → Size
usual-size v x = size (rows_of v) (buckets-of (bucket-tiles x) v)

-- a done answer of the rules and the words beside it
record Done-with (a : Answer (Screen Row)) (w : Answer ScreenLent) (v : Box) (x : Width) : Type 0 where
  pub refines : Refines a.value w.value
  pub kept : Kept (usual-frame v x) a.value

-- words that hold the rules' screen of an accepted file, in tables of its size
pub record Left (s : Screen Row) (z : Size) (o : FileOut) : Type 0 where
  pub viewport : Box
  pub width : Width
  pub size : z ≡ usual-size viewport width
  pub few : rows_of viewport ≤ 32
  pub kept : Kept (usual-frame viewport width) s
  pub words : ScreenLent
  pub refines : Refines s words
  pub screen : o.showed.text.screen ≡ words.screen
  pub tables : o.tables ≡ words.tables

-- what is printed beside the rules' answer
pub record Prints (a : Answer (Screen Row)) (bs : List ℕ) (x : Showed) : Type 0 where
  pub number : x.text.number ≡ a.number
  pub shows : shows x ≡ text-first (text_of (answer-lines a)) bs
  pub few : length (text_of (answer-lines a)) ≤ 264256

-- .. and what is left
pub record Leaves (a : Answer (Screen Row)) (z : Size) (bs : List ℕ) (o : FileOut) : Type 0 where
  pub prints : Prints a bs o.showed
  pub left : a.number ≡ 0 → Left a.value z o

-- what a screen in a file's frame prints has at most 264,256 bytes
screen-few : (v : Box) (x : Width) (s : Screen Row) → rows_of v ≤ 32 → Kept (usual-frame v x) s → length (text_of (rules.screen-lines s)) ≤ 264256
screen-few v x s few h =
    let f : (j : ℕ) → Fitting 64 64 (get_or s.rows j fresh-row) = λ j. rw h.frame at (h.sound.rows j) in
    let n : length s.rows ≤ 32 = omega (arith, few, rw h.frame at h.sound.count) in
    omega (arith, lines-few (rules.screen-lines s), rows_few 0 s.rows f, n)

refused-few : (n : ℕ) → length (text_of (refused n ∷ [])) ≤ 264256
refused-few n = omega (arith, lines-few (refused n ∷ []))

module _ (bs : List ℕ) (room : 264256 ≤ length bs) where
  -- a text that fits, and a refusal's
  fits : (ts : List ℕ) → length ts ≤ 264256 → (s : declared.Screen) → shown-as s (written ts bs) ≡ shows-as (file-text 0 (length ts) s) (ts ++ drop (length ts) bs)
  unfolding written
  fits ts h s = rw (le-ltb (length bs) (length ts) (omega (arith, h, room)))

  refusing-is : (n : ℕ) (s : declared.Screen) → let ts = text_of (refused n ∷ []) in refusing n s bs ≡ shows-as (file-text n (length ts) s) (ts ++ drop (length ts) bs)
  unfolding refusing written text_of
  refusing-is n s = rw (append-nil (line-bytes (refused n)), le-ltb (length bs) (length (line-bytes (refused n))) (omega (arith, line-few (refused n), room)))

  refused-prints : (a : Answer (Screen Row)) (n : ℕ) (s : declared.Screen) → a.number ≡ n → answer-lines a ≡ refused n ∷ [] → Prints a bs (refusing n s bs)
  refused-prints a n s e h =
      rw (refusing-is n s) (record { number = sym e; shows = rw h refl; few = rw h (refused-few n) })

  answer-leaves : (a : Answer (Screen Row)) (w : Answer ScreenLent) (v : Box) (x : Width) → rows_of v ≤ 32 → w.number ≡ a.number → (a.number ≡ 0 → Done-with a w v x)
      → Leaves a (usual-size v x) bs (answered w bs)
  unfolding showing
  answer-leaves a w v x few e h = rw e (go (eqb a.number Done) refl)
    where
      go : (b : Bool) → eqb a.number Done ≡ b
          → Leaves a (usual-size v x) bs (file-out (cond b (shown-as w.value.screen (listed w.value.screen (row_words w.value) bs)) (refusing a.number w.value.screen bs)) w.value.tables)
      go true q =
          let done = h (eqb-true _ _ q) in
          let text : List ℕ = text_of (rules.screen-lines a.value) in
          let short : length text ≤ 264256 = screen-few v x a.value few done.kept in
          rw (listed-held done.refines done.kept.fair bs, fits text short w.value.screen)
          (record {
            prints = record { number = sym (eqb-true _ _ q); shows = rw q refl; few = rw q short };
            left = λ i. record {
              viewport = v;
              width = x;
              size = refl;
              few = few;
              kept = done.kept;
              words = w.value;
              refines = done.refines;
              screen = refl;
              tables = refl;
            };
          })
      go false q =
          record {
            prints = refused-prints a a.number w.value.screen refl (rw q refl);
            left = λ i. never (sym (eq-eqb _ _ i) ∙ q);
          }

module _ (p : Place) (old : Screen Row) (r : Recording) where
  abbrev start : Screen Row
  start = reset fresh-row (frame-of p r)

  abbrev walk : Answer (Screen Row)
  walk = walk-all (Screen Row) (call Row row-ops) r start

  abbrev judge : ℕ
  judge = judge-records p r

  abbrev by-judge : Bool → Answer (Screen Row)
  by-judge t = elim t [
    | true ↦ settle walk.number start walk.value
    | false ↦ answer judge (cond (leb judge BadForm) old start)
  ]

  -- a done play of the rules leaves what a reset and a walk keep
  play-kept : (f : Frame) → Kept f start → (play-records (Screen Row) (call Row row-ops) (reset fresh-row) p old r).number ≡ 0 → Kept f (play-records (Screen Row) (call Row row-ops) (reset fresh-row) p old r).value
  unfolding play-records
  play-kept f h = go (eqb judge Done) refl
    where
      walked : (u : Bool) → Kept f (cond u (answer Done walk.value) (answer walk.number start)).value
      walked true = (walk-keeps r).kept start h
      walked false = h

      go : (t : Bool) → eqb judge Done ≡ t → (by-judge t).number ≡ 0 → Kept f (by-judge t).value
      go true e z = walked (eqb walk.number Done)
      go false e z = never (sym (eq-eqb judge 0 z) ∙ e)

  -- where the viewport is refused
  pub refused-view : judge ≡ 2 → (play-records (Screen Row) (call Row row-ops) (reset fresh-row) p old r).number ≡ 2
  unfolding play-records
  refused-view e = go (eqb judge Done) (ap (λ (n : ℕ). eqb n Done) e)
    where
      go : (t : Bool) → t ≡ false → (by-judge t).number ≡ 2
      go true q = never q
      go false q = e

-- a play depends on the rows allowed and on the arenas by what is judged of them
pub same-play : (a b : ℕ) (q : Setup) (x y : Arenas) (old : Screen Row) (r : Recording)
    → judge-records (record { limit = a; setup = q; arenas = x }) r ≡ judge-records (record { limit = b; setup = q; arenas = y }) r
    → play-records (Screen Row) (call Row row-ops) (reset fresh-row) (record { limit = a; setup = q; arenas = x }) old r
    ≡ play-records (Screen Row) (call Row row-ops) (reset fresh-row) (record { limit = b; setup = q; arenas = y }) old r
unfolding play-records
same-play a b q x y old r e =
    let p : Place = record { limit = a; setup = q; arenas = x } in
    ap (λ (n : ℕ). elim (eqb n Done) [
      | true ↦ settle (walk p old r).number (start p old r) (walk p old r).value
      | false ↦ answer n (cond (leb n BadForm) old (start p old r))
    ])
    e

refused-lines : (a : Answer (Screen Row)) (n : ℕ) → a.number ≡ n → eqb n Done ≡ false → answer-lines a ≡ refused n ∷ []
refused-lines a n e z = rw (e, z)

-- more than 32 rows, or a bad viewport
not-shown : (g : Bool) (n : ℕ) → (g && leb n 32) ≡ false → (not g || ltb 32 n) ≡ true
not-shown false n e = refl
not-shown true n e = lt-ltb 32 n (leb-false n 32 e)

some_same : {A : Type 0} {x y : A} → Some x ≡ Some y → x ≡ y
some_same p = cc

module _ (w : File) (ss : List (List (List ℕ))) (e : parsed w ≡ Some ss) where
  -- the file's viewport stands after its head and its own count
  abbrev there : ℕ
  there = length (head w.edition) + 1

  at_words : (recording ss).viewport ≡ box (get_or w.words there 0) (get_or w.words (there + 1) 0) (get_or w.words (there + 2) 0) (get_or w.words (there + 3) 0)
  unfolding form_of layout
  at_words =
      let l = layout w.edition w.words in
      let y : Ok l ≡ form_of w.edition w.words = rw e in
      let g = good-form w.edition w.words l y in
      let x : ss ≡ sections_at l w.words = some_same (sym e ∙ g.same) in
      rw x (viewport-is l w.words g.fits)

  pub place_view : box-in w ≡ (recording ss).viewport
  place_view =
      rw (← add-one (length (head w.edition)))
      (rw (get_or-drop there w.words 0 0, get_or-drop there w.words 1 0, get_or-drop there w.words 2 0, get_or-drop there w.words 3 0, add-zero there) (sym at_words))

module _ (q : Setup) (u : Usual q) (w : File) (bs : List ℕ) (room : 264256 ≤ length bs) where
  abbrev old : Screen Row
  old = reset fresh-row rules.nothing

  module _ (ss : List (List (List ℕ))) (e : parsed w ≡ Some ss) where
    abbrev r : Recording
    r = recording ss

    -- the screen's frame, and its viewport
    abbrev f : Frame
    f = frame q r.viewport

    abbrev v : Box
    v = f.viewport

    refused-there : (good_viewport v && leb (rows_of v) 32) ≡ false → answer-lines (play-records (Screen Row) (call Row row-ops) (reset fresh-row) (rowlist-place q w) old r) ≡ refused 2 ∷ []
    unfolding judge-records
    refused-there h =
        refused-lines (play-records (Screen Row) (call Row row-ops) (reset fresh-row) (rowlist-place q w) old r) 2
        (refused-view (rowlist-place q w) old r (rw (not-shown (good_viewport v) (rows_of v) h))) refl

    abbrev z : Size
    z = usual-size v q.width

    module _ (g : good_viewport v ≡ true) (few : rows_of v ≤ 32) (t : Tables) (h : Exact z t) where
      abbrev given : ScreenLent
      given = screen_lent nothing t

      tables-good : good-tables (rows_of v) (lengths t) ≡ true
      tables-good =
          rw (
            eq-eqb _ _ h.rows,
            eq-eqb _ _ h.painting,
            eq-eqb _ _ h.layers,
            eq-eqb _ _ h.opacities,
            eq-eqb _ _ h.paint-attrs,
            eq-eqb _ _ h.layer-attrs,
            eq-eqb _ _ h.filter-paints,
          )

      arenas-good : good-arenas f (arenas (lengths t)) ≡ true
      arenas-good = rw (u.c, u.d, eq-eqb _ _ h.render, eq-eqb _ _ h.fills, eq-eqb _ _ h.depth, eq-eqb _ _ h.minima)

      judged-0 : judged_reset f (lengths t) ≡ 0
      unfolding judged_reset
      judged-0 = rw (g, arenas-good, tables-good)

      abbrev first : Frame
      first = usual-frame v q.width

      start-kept : Kept first (reset fresh-row f)
      unfolding reset
      start-kept = record { sound = fresh-sound f given judged-0; fair = reset-fair f; frame = rw (u.c, u.d) }

      -- the rules' answer in `rowlist`
      abbrev theirs : Answer (Screen Row)
      theirs = play-records (Screen Row) (call Row row-ops) (reset fresh-row) (rowlist-place q w) old r

      judge-at : (b : Box) → b ≡ r.viewport
          → judge-records (record { limit = 32; setup = q; arenas = needed (frame q b) }) r ≡ judge-records (place q given) r
      unfolding judge-records
      judge-at b i =
          let n = rows_of v in
          rw (
            i,
            g,
            le-ltb 32 n few,
            le-ltb 512 n (omega (arith, few)),
            arenas-good,
            u.c,
            u.d,
            eq-eqb (n * 256) (n * 256) refl,
            eq-eqb (n * 128) (n * 128) refl,
            eq-eqb (n * buckets-across f) (n * buckets-across f) refl,
            eq-eqb (n * minima-room (buckets-across f)) (n * minima-room (buckets-across f)) refl,
          )

      at-words-play : play (Screen Row) (call Row row-ops) (reset fresh-row) (place q given) old w ≡ theirs
      unfolding play
      at-words-play =
          ap (λ (o : Option (List (List (List ℕ)))). elim o [
            | None ↦ answer BadForm old
            | Some qs ↦ play-records (Screen Row) (call Row row-ops) (reset fresh-row) (place q given) old (recording qs)
          ])
          e
          ∙ sym (same-play 32 512 q (needed (frame q (box-in w))) (arenas (lengths t)) old r (judge-at (box-in w) (place_view w ss e)))

      plays : Plays Refines old given theirs (recorded w q given)
      plays =
          rw (← at-words-play)
          (file-plays w q given old (λ qs i. let k : qs ≡ ss = some_same (sym i ∙ e) in rw k tables-good))

      done-with : theirs.number ≡ 0 → Done-with theirs (recorded w q given) v q.width
      done-with d = go plays.value
        where
          go : Outcome Refines theirs.number old given theirs.value (recorded w q given).value → Done-with theirs (recorded w q given) v q.width
          go (unaltered i x y) = never (sym (eq-eqb _ _ d) ∙ i)
          go (made x) = record { refines = x; kept = play-kept (rowlist-place q w) old r first start-kept d }

      left_there : Leaves theirs z bs (recording-text w q t bs)
      unfolding recording-text
      left_there = answer-leaves bs room theirs (recorded w q given) v q.width few plays.number done-with

    abbrev rules-answer : Answer (Screen Row)
    rules-answer = play-records (Screen Row) (call Row row-ops) (reset fresh-row) (rowlist-place q w) old r

    refused-number : (good_viewport v && leb (rows_of v) 32) ≡ false → rules-answer.number ≡ 2
    unfolding judge-records
    refused-number h = refused-view (rowlist-place q w) old r (rw (not-shown (good_viewport v) (rows_of v) h))

    by_size : (x : Bool) → (good_viewport v && leb (rows_of v) 32) ≡ x → {y : Size} → Ok y ≡ sized-if x f → (t : Tables) → Exact y t → Leaves rules-answer y bs (recording-text w q t bs)
    by_size false h i t k = cc
    by_size true h {y} i t k =
        let same : y ≡ z = cc in
        rw same (left_there (and_left (good_viewport v) (leb (rows_of v) 32) h) (leb-true _ _ (and_right (good_viewport v) (leb (rows_of v) 32) h)) t (rw same at k))

    printed-by-size : (x : Bool) → (good_viewport v && leb (rows_of v) 32) ≡ x → Prints rules-answer bs (sized-text (sized-if x f) w q bs)
    printed-by-size false h = refused-prints bs room rules-answer 2 nothing (refused-number h) (refused-there h)
    printed-by-size true h = (by_size true h refl (blank z) (blank_exact z)).prints

  abbrev played-of : Option (List (List (List ℕ))) → Answer (Screen Row)
  played-of o = elim o [
    | None ↦ answer BadForm old
    | Some qs ↦ play-records (Screen Row) (call Row row-ops) (reset fresh-row) (rowlist-place q w) old (recording qs)
  ]

  -- What is printed of a file's words, with room for the longest text: the number and the text of the rules' lines.
  pub words-print : Prints (rowlist-screen q w) bs (sized-text (size_of w q) w q bs)
  unfolding size_of play
  words-print = go (parsed w) refl
    where
      go : (o : Option (List (List (List ℕ)))) → parsed w ≡ o → Prints (played-of o) bs (sized-text (sized (recording_of o) q) w q bs)
      go None e = refused-prints bs room (answer BadForm old) 3 nothing refl refl
      go (Some ss) e = printed-by-size ss e _ refl

  -- .. and what is left beside it, in tables of its screen's lengths, is the rules' screen, where it is not refused.
  pub words-leave : {z : Size} → Ok z ≡ size_of w q → (t : Tables) → Exact z t → Leaves (rowlist-screen q w) z bs (recording-text w q t bs)
  unfolding size_of play
  words-leave {z} i t k = go (parsed w) refl i
    where
      go : (o : Option (List (List (List ℕ)))) → parsed w ≡ o → Ok z ≡ sized (recording_of o) q → Leaves (played-of o) z bs (recording-text w q t bs)
      go None e j = cc
      go (Some ss) e j = by_size ss e _ refl j t k

-- `rowlist`: a file's bytes, with room lent as the program has it. What `file_text` writes is the text of the rules' `rowlist` of the bytes.
module _ (e : Edition) (q : Setup) (u : Usual q) (fs : List ℕ) (bs : List ℕ) (room : 264256 ≤ length bs) where
  pub file-printed : shows (bytes-text e fs q bs) ≡ text-first (text_of (rowlist e q fs)) bs
  unfolding bytes-text file-size rowlist rowlist-words
  file-printed = rw (by-file (refused BadForm ∷ []) (λ ws. rowlist-words q (in-edition e ws)) fs) (go (good-bytes (length fs)))
    where
      go : (b : Bool) → shows (sized-text (cond b (size_of (in-edition e (words-in fs)) q) (Err refusal.BadForm)) (in-edition e (words-in fs)) q bs) ≡ text-first (text_of (cond b (rowlist-words q (in-edition e (words-in fs))) (refused BadForm ∷ []))) bs
      go true = (words-print q u (in-edition e (words-in fs)) bs room).shows
      go false = ap shows (refusing-is bs room 3 nothing)

  pub file-few : length (text_of (rowlist e q fs)) ≤ 264256
  unfolding rowlist rowlist-words
  file-few = rw (by-file (refused BadForm ∷ []) (λ ws. rowlist-words q (in-edition e ws)) fs) (go (good-bytes (length fs)))
    where
      go : (b : Bool) → length (text_of (cond b (rowlist-words q (in-edition e (words-in fs))) (refused BadForm ∷ []))) ≤ 264256
      go true = (words-print q u (in-edition e (words-in fs)) bs room).few
      go false = refused-few BadForm
