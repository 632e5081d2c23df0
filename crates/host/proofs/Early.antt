-- A call's own 3, 2 and 1 are those of the judge that it asks first: whatever comes after that judge is past 3.
use Rattle.std.proofs.Common.{◌≡◌, refl, sym, ap, ◌∙◌, Bool, true, false, ◌&&◌, ◌||◌, not, cond, List, [], ◌∷◌, Option, None, Some, ℕ, suc, ◌/◌, arith, length, ltb, eqb, eqb-true, eq-eqb, le-ltb}
use Rattle.sizes.specs.Sizes.{piece-size, open-layer-table, opacity-count, paint-attr-table, filter-paint-table}
use Rattle.sizes.specs.Widths.{bucket-tiles}
use Rattle.rules.specs.Answers.{Answer, answer, first_of, Done, BadRecord, BadOrder, BadRun, NoRoom}
use Rattle.rules.specs.Spans.{Span, bad-range}
use Rattle.rules.specs.Depth.{listed, unset-runs, visible-runs, write-runs, unset_answer, visible_answer, write_answer, can_skip_answer}
use Rattle.rules.specs.Rows.{fresh-row}
use Rattle.rules.specs.Plans.{Frame, a-fill, a-push, a-pop, a-filter, Plan, plan}
use Rattle.rules.specs.Steps.{done, reset}
use Rattle.rules.specs.Steps as rule
use Rattle.rules.specs.Recording.{Recording, File, parsed, recording, good-records, good-order}
use Rattle.rules.specs.Walk.{◌then◌, walk-all}
use Rattle.rules.specs.Painting as rules
use Rattle.rules.proofs.All.{nil, cons}
use Rattle.rules.proofs.laws.Answers.{settle-number}
use Rattle.rules_picture.proofs.Cases.{by}
use Rattle.rules_picture.proofs.Walked.{Late, late-done, first-late, plan-late, refusal-late, all-walks}
use Rattle.rules.specs.Boxes.{good_viewport, rows_of}
use Rattle.rules.specs.Walk.{good-arenas}
use Rattle.rules.specs.Setups.{Setup, frame}
use Rattle.rect.specs.Rects.{box_of}
use Rattle.row.specs.Words.{Words, word-ops}
use Rattle.row.specs.Building.{step_number}
use Rattle.screen.specs.declared.Screen.{Screen}
use Rattle.screen.specs.declared.lent.Lengths.{Lengths}
use Rattle.screen.specs.Judging as judging
use Rattle.screen.specs.Judging.{judged, good-tables, judged_reset}
use Rattle.reuse.specs.Used.{judged_used, used_reset}
use Rattle.screen.specs.Tables.{lengths, ScreenLent, reset_to}
use Rattle.screen.specs.Depths.{Depths}
use Rattle.inputs.specs.declared.Draw.{Draw}
use Rattle.fill.specs.Fills as fills
use Rattle.fill.specs.Fills.{filled}
use Rattle.screen.specs.declared.layers.LayerProps.{LayerProps}
use Rattle.screen.specs.Layers.{good-pattern}
use Rattle.layers.specs.Push as push
use Rattle.layers.specs.Push.{pushed}
use Rattle.pop.specs.Pop as pop
use Rattle.pop.specs.Pop.{popped}
use Rattle.layers.specs.Filter as filter
use Rattle.layers.specs.Filter.{filtered}
use Rattle.file.specs.Judging as records
use Rattle.walk.specs.Steps.{call_at}
use Rattle.walk.specs.Recorded.{or-fresh, played, recorded-in, of-sections, recorded}
use Rattle.refine_steps.proofs.Refined.{reset-refines}
use Rattle.refine_steps.proofs.Walks.{walk-refines}
use Rattle.paint.specs.Painting as paint
use Rattle.paint.specs.Judging.{wide, begin_number, runs_number, write_number, hidden_number, skip_number}
use Rattle.rules.specs.Minima.{minima-room, hidden_answer}
use Rattle.paint.specs.Beginning.{Canvas, beginning}
use Rattle.paint.specs.Stepping.{Attributes, part, depth-part, own, number, row_step, stepped}
use Rattle.paint.specs.DirectRuns.{Wrote, or-runs, write-in-place, record-skip, unset-of, visible-of, write-of, hidden-of-row, skip-of-row}
use Rattle.paint.specs.Running.{goes_on, one_more, run, standing, own-step, call_step, row-painted}
use Rattle.paint.specs.OwnRow.{own-number, own-run, own-row-painted}
use Rattle.depth.specs.Listing.{listing, writing}
use Rattle.paint.specs.Summaries.{good-summary}
use Rattle.host.specs.State.{before_4}
use Rattle.host.specs.Border.{arenas_number, in-sections, file_number}
use Rattle.paint.proofs.Kept.{on-done, gone-on}
use Rattle.paint.proofs.ScreenParts.{part_length, write_within}

-- a number that is 0 or past 3 gives way to the border's 4
pub late-4 : (n : ℕ) → Late n → before_4 n ≡ BadRecord
unfolding before_4
late-4 n h = by (eqb n Done) (λ y. rw (eqb-true n Done y)) (λ z. rw (le-ltb n BadRecord (h z)) (both-off (ltb 0 n)))
  where
    both-off : (b : Bool) → cond (b && false) n BadRecord ≡ BadRecord
    both-off true = refl
    both-off false = refl

zero-4 : (n : ℕ) → n ≡ Done → before_4 n ≡ BadRecord
unfolding before_4
zero-4 n e = rw e

-- the number k, then whatever comes after it: looked at only where k is 0, ..
after-done : (k m : ℕ) → (k ≡ Done → Late m) → before_4 k ≡ before_4 (cond (eqb k Done) m k)
after-done k m h = by (eqb k Done) (λ y. let e = eqb-true k Done y in rw y (zero-4 k e ∙ sym (late-4 m (h e)))) (λ z. rw z)

-- .. or in any case
pub after : (k m : ℕ) → Late m → before_4 k ≡ before_4 (cond (eqb k Done) m k)
after k m h = after-done k m (λ e. h)

late-or : (b : Bool) (m : ℕ) → Late m → Late (cond b m BadRecord)
late-or true m h = h
late-or false m h = λ e. omega arith

-- Building steps. k: what the screen and the lengths say
step-early : (k : ℕ) (good : Bool) (p : Plan) (s : rule.Screen Words) → Late p.refused → before_4 k ≡ before_4 (step_number k good p s)
unfolding step_number
step-early k good p s h = after k _ (late-or good _ (refusal-late word-ops p (done Words word-ops p s) h))

lists-early : (k : ℕ) (b : Bool) → before_4 k ≡ before_4 (cond (eqb k Done) (cond b Done BadRecord) k)
lists-early k b = after k _ (late-or b Done late-done)

pub fill-early : (l : fills.FillLent) (ps ss : List ℕ) (d : Draw)
    → before_4 (judged l.screen (length l.words.state) (length l.words.render) (length l.words.fills)) ≡ before_4 (filled l ps ss d).number
unfolding fills.fill_number fills.first_number plan
fill-early l ps ss d =
    lists-early (judged l.screen (length l.words.state) (length l.words.render) (length l.words.fills))
    (fills.good-lists (length l.paint-attrs) (length ps) (length ss))
    ∙ step-early (fills.first-of-lent l ps ss) _ _ _ (plan-late (a-fill _ _ _) [] _)
    ∙ ap before_4 (sym (settle-number (fills.fill_number l ps ss d) _ _))

pub push-early : (p : LayerProps) (l : push.PushLent)
    → before_4 (judged l.screen (length l.words.state) (length l.words.render) (length l.words.fills)) ≡ before_4 (pushed p l).number
unfolding pushed push.push-number plan
push-early p l =
    lists-early (judged l.screen (length l.words.state) (length l.words.render) (length l.words.fills))
    (eqb (length l.layers) open-layer-table && eqb (length l.opacities) opacity-count && good-pattern p.opacity p.nan)
    ∙ step-early (push.first-number p l) _ _ _ (plan-late (a-push _) [] _)
    ∙ ap before_4 (sym (settle-number (push.push-number p l) _ _))

pub filter-early : (g : filter.FilterGiven) (l : filter.FilterLent)
    → before_4 (judged l.screen (length l.words.state) (length l.words.render) (length l.words.fills)) ≡ before_4 (filtered g l).number
unfolding filtered filter.filter-number plan
filter-early g l =
    lists-early (judged l.screen (length l.words.state) (length l.words.render) (length l.words.fills))
    (eqb (length l.paint-attrs) paint-attr-table && eqb (length l.filter-paints) filter-paint-table)
    ∙ step-early (filter.first-number l) _ _ _ (plan-late (a-filter _ _ _) [] _)
    ∙ ap before_4 (sym (settle-number (filter.filter-number g l) _ _))

first-early : (k : ℕ) (x y : Bool) → before_4 k ≡ before_4 (first_of ((not (eqb k Done), k) ∷ (x, BadRecord) ∷ (y, BadRecord) ∷ []))
first-early k x y =
    after k _ (first-late ((x, BadRecord) ∷ (y, BadRecord) ∷ []) (cons (omega arith) (cons (omega arith) nil)))
    ∙ ap before_4 (turned (eqb k Done) (first_of ((x, BadRecord) ∷ (y, BadRecord) ∷ [])))
  where
    turned : (b : Bool) (m : ℕ) → cond b m k ≡ cond (not b) k m
    turned true m = refl
    turned false m = refl

pop-number : (s : Screen) (l : pop.PopLent) (ws : List ℕ) → pop.number s l ws ≡ (popped s l ws).number
unfolding popped
pop-number s l ws = by (eqb (pop.number s l ws) Done) (λ y. rw y (eqb-true (pop.number s l ws) Done y)) (λ z. rw z)

pub pop-early : (s : Screen) (l : pop.PopLent) (ws : List ℕ)
    → before_4 (judged s (length l.words.state) (length l.words.render) (length l.words.fills)) ≡ before_4 (popped s l ws).number
unfolding pop.number-after pop.first plan
pop-early s l ws =
    first-early (judged s (length l.words.state) (length l.words.render) (length l.words.fills))
    (not (pop.good_lengths (length l.layers) (length l.opacities) (length l.attrs) (length ws)))
    (not (pop.good-open (box_of s.viewport) l.layers s.layers))
    ∙ step-early (pop.first s l ws) _ _ _ (plan-late (a-pop _) _ (pop.state-in s l.layers))
    ∙ ap before_4 (pop-number s l ws)

-- Painting.
pub begin-early : (k : Canvas) → before_4 (begin_number k.screen (length k.depth.words) (length k.depth.minima) (length k.painting)) ≡ before_4 (beginning k).number
unfolding beginning
begin-early k = ap before_4 (sym (settle-number (begin_number k.screen (length k.depth.words) (length k.depth.minima) (length k.painting)) _ _))

row-late : (o : Option rules.Painted) (ms : List ℕ) (d : Depths) (p l : List ℕ) → Late (paint.settled o ms d p l).answer.number
unfolding paint.settled
row-late None ms d p l = λ e. omega arith
row-late (Some o) ms d p l = by (ltb (length l / piece-size) (length o.pieces)) (λ y. rw y (λ e. omega arith)) (λ z. rw z late-done)

out-number : (b : Bool) (n : ℕ) (o p : paint.StepOut) → p.answer.number ≡ n → cond b o.answer.number n ≡ (cond b o p).answer.number
out-number true n o p e = refl
out-number false n o p e = sym e

pub step-is-early : (s : Screen) (r : ℕ) (a : Attributes) (l : paint.RowLent) → before_4 (number s r a l) ≡ before_4 (stepped s r a l).answer.number
unfolding stepped row_step paint.painted-row
step-is-early s r a l =
    let attrs = paint.attrs-at a.paints s.paint_attrs a.layers s.layer_attrs in
    after (number s r a l) (row_step s r a l).answer.number
    (row-late (paint.next-step (bucket-tiles s.width) attrs (own s r l)) (paint.next-minima attrs (own s r l)) _ _ l.list)
    ∙ ap before_4 (out-number (eqb (number s r a l) Done) (number s r a l) (row_step s r a l) (paint.out (paint.refused (number s r a l)) l.depth l.painting l.list) refl)

-- a row's call has its first step's number
module _ (step : Depths → List ℕ → List ℕ → paint.StepOut) (d : Depths) (p l : List ℕ) where
  abbrev first : paint.StepOut
  first = one_more step (standing d p l)

  first-number : (step d p l).answer.number ≡ first.answer.number
  unfolding one_more
  first-number = refl

  run-number : (f : ℕ) → first.answer.number ≡ (run step (suc f) 0 (standing d p l)).answer.number
  unfolding run
  run-number f = by (goes_on first.answer) (λ y. rw y (gone-on first y ∙ sym (on-done step f 0 first (gone-on first y)))) (λ z. rw z)

row_number : (s : Screen) (r : ℕ) (a : Attributes) (l : paint.RowLent) → (stepped s r a l).answer.number ≡ (row-painted s r a l).answer.number
unfolding row-painted
row_number s r a l =
    let step = call_step s r a l.state l.render l.fills in
    first-number step l.depth l.painting l.list ∙ run-number step l.depth l.painting l.list 2048

pub row-is-early : (s : Screen) (r : ℕ) (a : Attributes) (l : paint.RowLent) → before_4 (number s r a l) ≡ before_4 (row-painted s r a l).answer.number
row-is-early s r a l = step-is-early s r a l ∙ ap before_4 (row_number s r a l)

-- .. and so has the call on a row's own words
own-run-number : (s : Screen) (a : Attributes) (l : paint.RowLent)
    → (paint.painted-row (bucket-tiles s.width) (paint.attrs-at a.paints s.paint_attrs a.layers s.layer_attrs) l).answer.number ≡ (own-run s a l).answer.number
own-run-number s a l =
    let step = own-step (bucket-tiles s.width) (paint.attrs-at a.paints s.paint_attrs a.layers s.layer_attrs) l.state l.render l.fills in
    first-number step l.depth l.painting l.list ∙ run-number step l.depth l.painting l.list 2048

own-late : (s : Screen) (a : Attributes) (l : paint.RowLent) → Late (own-run s a l).answer.number
unfolding paint.painted-row
own-late s a l =
    let attrs = paint.attrs-at a.paints s.paint_attrs a.layers s.layer_attrs in
    rw (← own-run-number s a l) (row-late (paint.next-step (bucket-tiles s.width) attrs l) (paint.next-minima attrs l) l.depth l.painting l.list)

pub own-is-early : (s : Screen) (a : Attributes) (l : paint.RowLent) → before_4 (own-number s a l) ≡ before_4 (own-row-painted s a l).answer.number
unfolding own-row-painted
own-is-early s a l =
    after (own-number s a l) (own-run s a l).answer.number (own-late s a l)
    ∙ ap before_4 (out-number (eqb (own-number s a l) Done) (own-number s a l) (own-run s a l) (paint.out (paint.refused (own-number s a l)) l.depth l.painting l.list) refl)

-- Runs.
listed-late : (bad : Bool) (n : ℕ) (rs : List Span) → Late (listed bad n rs).number
listed-late bad n rs =
    rw (settle-number (first_of ((bad, BadRun) ∷ (ltb n (length rs), NoRoom) ∷ [])) [] rs)
    (first-late ((bad, BadRun) ∷ (ltb n (length rs), NoRoom) ∷ []) (cons (omega arith) (cons (omega arith) nil)))

answer-number : {A : Type 0} (b : Bool) (n : ℕ) (x y : Answer A) → y.number ≡ n → cond b x.number n ≡ (cond b x y).number
answer-number true n x y e = refl
answer-number false n x y e = sym e

runs-early : (k : ℕ) (a : Answer (List Span)) → Late a.number → before_4 k ≡ before_4 (or-runs k a).number
runs-early k a h = after k a.number h ∙ ap before_4 (answer-number (eqb k Done) k a (answer k []) refl)

module _ (s : Screen) (r : ℕ) (d : List ℕ) (t : Span) where
  -- the row's own depth words
  abbrev mine : List ℕ
  mine = part (wide s) r d

  pub unset-early : (l : List ℕ) → before_4 (runs_number s r (length d)) ≡ before_4 (unset-of s r d t l).number
  unfolding unset-of unset_answer listing
  unset-early l =
      runs-early (runs_number s r (length d)) (unset_answer (bucket-tiles s.width) mine t (length l / 2)) (listed-late (bad-range 8192 t) (length l / 2) (unset-runs (bucket-tiles s.width) mine t))

  pub visible-early : (id : ℕ) (l : List ℕ) → before_4 (runs_number s r (length d)) ≡ before_4 (visible-of s r d t id l).number
  unfolding visible-of visible_answer listing
  visible-early id l =
      runs-early (runs_number s r (length d)) (visible_answer (bucket-tiles s.width) mine id t (length l / 2)) (listed-late (bad-range 8192 t) (length l / 2) (visible-runs (bucket-tiles s.width) mine id t))

-- The writing run. Judged 0, the row's own minima have their length.
module _ (s : Screen) (r : ℕ) (d : Depths) (t : Span) (id : ℕ) (l : List ℕ) where
  abbrev own-part : Depths
  own-part = depth-part (wide s) r d

  abbrev judge : ℕ
  judge = write_number s r (length d.words) (length d.minima)

  fits : judge ≡ Done → eqb (length own-part.minima) (minima-room (length own-part.words)) ≡ true
  fits e =
      let w = write_within s r d.words d.minima (sym e) in
      eq-eqb _ _ (part_length (minima-room (wide s)) r d.minima w.1 ∙ ap minima-room (sym (part_length (wide s) r d.words w.0)))

  write-late : judge ≡ Done → Late (writing own-part.words own-part.minima id t l).listed.number
  unfolding write_answer listing
  write-late e =
      rw (fits e)
      (listed-late (bad-range (length own-part.words) t || eqb id 0) (length l / 2) (write-runs own-part.words t))

  wrote-number : (b : Bool) (n : ℕ) (x y : Wrote) → y.listed.number ≡ n → cond b x.listed.number n ≡ (cond b x y).listed.number
  wrote-number true n x y e = refl
  wrote-number false n x y e = sym e

  pub write-early : before_4 judge ≡ before_4 (write-of s r d id t l).listed.number
  unfolding write-of listing
  write-early =
      after-done judge (writing own-part.words own-part.minima id t l).listed.number write-late
      ∙ ap before_4
      (wrote-number (eqb judge Done) judge (write-in-place s r d (writing own-part.words own-part.minima id t l))
      (record { listed = listing (answer judge []) l; screen = s; depth = d }) refl)

hidden-late : (ms : List ℕ) (b : ℕ) (t : Span) (id : ℕ) → Late (hidden_answer ms b t id).number
unfolding hidden_answer
hidden-late ms b t id = by (bad-range b t) (λ y. rw y (λ e. omega arith)) (λ n. rw n late-done)

pub hidden-early : (s : Screen) (r : ℕ) (ms : List ℕ) (t : Span) (id : ℕ) → before_4 (hidden_number s r (length ms)) ≡ before_4 (hidden-of-row s r ms t id).number
unfolding hidden-of-row
hidden-early s r ms t id =
    let n = hidden_number s r (length ms) in
    let own = part (minima-room (wide s)) r ms in
    let a = hidden_answer own (wide s) t id in
    after n a.number (hidden-late own (wide s) t id) ∙ ap before_4 (answer-number (eqb n Done) n a (answer n false) refl)

skip-late : (ws : List ℕ) (t : Span) (id : ℕ) → Late (record-skip ws t id).number
unfolding can_skip_answer
skip-late ws t id = by (good-summary ws)
    (λ y. rw y (by (bad-range 8192 t) (λ b. rw b (λ e. omega arith)) (λ n. rw n late-done)))
    (λ z. rw z (λ e. omega arith))

pub skip-early : (s : Screen) (r : ℕ) (rows : List ℕ) (t : Span) (id : ℕ) → before_4 (skip_number s r (length rows)) ≡ before_4 (skip-of-row s r rows t id).number
unfolding skip-of-row
skip-early s r rows t id =
    let n = skip_number s r (length rows) in
    let a = record-skip (part 54 r rows) t id in
    after n a.number (skip-late (part 54 r rows) t id) ∙ ap before_4 (answer-number (eqb n Done) n a (answer n false) refl)

-- Reset, and a recording, whose walk is the rules'. After the arenas only a table's length is left to refuse a reset.
arenas-early : (f : Frame) (l : Lengths) → before_4 (arenas_number f (judging.arenas l)) ≡ before_4 (judged_reset f l)
unfolding arenas_number judged_reset before_4
arenas-early f l = go (good_viewport f.viewport) (good-arenas f (judging.arenas l)) (good-tables (rows_of f.viewport) l)
  where
    go : (x y z : Bool) → before_4 (first_of ((not x, 2) ∷ (not y, 1) ∷ [])) ≡ before_4 (first_of ((not x, 2) ∷ (not y, 1) ∷ (not z, 4) ∷ []))
    go false y z = refl
    go true false z = refl
    go true true true = refl
    go true true false = refl

pub reset-early : (f : Frame) (l : ScreenLent) → before_4 (arenas_number f (judging.arenas (lengths l.tables))) ≡ before_4 (reset_to f l).number
unfolding reset_to
reset-early f l = arenas-early f (lengths l.tables) ∙ ap before_4 (sym (settle-number (judged_reset f (lengths l.tables)) _ _))

pub used-early : (l : ScreenLent) → before_4 (judged_used l.screen (lengths l.tables)) ≡ before_4 (used_reset l).number
unfolding used_reset
used-early l = ap before_4 (sym (settle-number (judged_used l.screen (lengths l.tables)) _ _))

records-late : (r : Recording) → Late (records.judged r)
records-late r = first-late ((not (good-records r), BadRecord) ∷ (not (good-order r), BadOrder) ∷ []) (cons (omega arith) (cons (omega arith) nil))

module _ (r : Recording) (q : Setup) (l : ScreenLent) where
  abbrev f : Frame
  f = frame q r.viewport

  abbrev early : ℕ
  early = judged_reset f (lengths l.tables)

  walk-late : early ≡ Done → Late (walk-all ScreenLent call_at r (reset_to f l).value).number
  unfolding reset
  walk-late e =
      let start = reset fresh-row f in
      let a = (all-walks r).at (record { screen = start; log = [] }) refl in
      rw ((walk-refines r start (reset_to f l).value (reset-refines f l e).value).number, ← a.number) a.late

  played-late : early ≡ Done → Late (played r (reset_to f l).value).number
  unfolding played ◌then◌
  played-late e = by (eqb (records.judged r) Done)
      (λ y. rw y (kept (walk-all ScreenLent call_at r (reset_to f l).value) (walk-late e)))
      (λ z. rw (z, z) (records-late r))
    where
      kept : (a : Answer ScreenLent) → Late a.number → Late (or-fresh (reset_to f l).value a).number
      kept a h = by (eqb a.number Done) (λ y. rw y h) (λ z. rw z h)

  reset-number : (reset_to f l).number ≡ early
  unfolding reset_to
  reset-number = settle-number early _ _

  in-early : before_4 early ≡ before_4 (recorded-in r q l).number
  unfolding recorded-in ◌then◌
  in-early = by (eqb (reset_to f l).number Done)
      (λ y. let e = sym reset-number ∙ eqb-true (reset_to f l).number Done y in rw y (zero-4 early e ∙ sym (late-4 _ (played-late e))))
      (λ z. rw z (ap before_4 (sym reset-number)))

pub recorded-is-early : (ws : File) (q : Setup) (l : ScreenLent) → before_4 (file_number ws q (judging.arenas (lengths l.tables))) ≡ before_4 (recorded ws q l).number
unfolding recorded file_number
recorded-is-early ws q l = go (parsed ws)
  where
    go : (o : Option (List (List (List ℕ)))) → before_4 (in-sections o q (judging.arenas (lengths l.tables))) ≡ before_4 (of-sections o q l).number
    go None = refl
    go (Some ss) = arenas-early (frame q (recording ss).viewport) (lengths l.tables) ∙ in-early (recording ss) q l
