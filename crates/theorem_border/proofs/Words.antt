-- A done `coarse_` call on the words of a screen is the call itself, and leaves the words of what that leaves; a refused one leaves what it was
-- given. Assumes nothing.
use Rattle.std.proofs.Common.{ℕ, arith, ◌≡◌, refl, sym, ap, ◌∙◌, Bool, true, false, ◌&&◌, cond, List, Option, None, Some, Result, Ok, Err, ltb, leb, eqb, ℤ, length, ltb-true}
use Rattle.sizes.specs.declared.answers.Refusal.{Refusal}
use Rattle.sizes.specs.Refusals.{number_of}
use Rattle.sizes.proofs.Refusals.{not_done}
use lib.Ieee.{Float}
use Rattle.sizes.specs.Sizes.{state-size}
use Rattle.rules.specs.Answers.{Answer, answer, Done, BadRecord}
use Rattle.rules.specs.Spans.{Span}
use Rattle.rules.specs.Inputs.{Clip}
use Rattle.rules.specs.Recording.{parsed, File}
use Rattle.rules.specs.Setups.{Setup, frame}
use Rattle.rules.proofs.All.{both}
use Rattle.rect.specs.declared.Rect.{Rect}
use Rattle.rect.specs.Rects.{box_of}
use Rattle.row.specs.Words.{Words}
use Rattle.screen.specs.declared.Screen.{Screen}
use Rattle.screen.specs.Depths.{Depths}
use Rattle.screen.specs.Tables.{Tables, ScreenLent, screen_lent, reset_to}
use Rattle.inputs.specs.declared.Draw.{Draw}
use Rattle.fill.specs.Fills as fills
use Rattle.fill.specs.Fills.{filled}
use Rattle.layers.specs.Push as push
use Rattle.layers.specs.Push.{pushed}
use Rattle.pop.specs.Pop as pop
use Rattle.pop.specs.Pop.{popped}
use Rattle.layers.specs.Filter as filter
use Rattle.layers.specs.Filter.{given, filtered}
use Rattle.paint.specs.Beginning.{canvas, beginning}
use Rattle.paint.specs.Stepping.{attributes}
use Rattle.paint.specs.DirectRuns.{hidden-of-row, skip-of-row}
use Rattle.walk.specs.Recorded.{recorded}
use Rattle.walk.specs.Steps.{rows_words, pop-part}
use Rattle.host.specs.State.{screen-words, screen-at, screen_of, before_4, refused_at, at_held, on}
use Rattle.host.specs.declared.state.SetupWords.{SetupWords}
use Rattle.host.specs.Asked.{FileWords, asked_setup, told_file}
use Rattle.host.proofs.Words.{read_back, written_back}
use Rattle.host.specs.Border.{unasked, unasked_number}
use Rattle.reuse.specs.Used.{used_reset}
use Rattle.host.specs.Building.{tables-left, reset_in, used_call, recording_in, fill-left, fill_call, props, push-left, push_call, pop-left, pop_call, filter-in, picture, filter-left, filter_call}
use Rattle.host.specs.Compacted.{compact-left, compact_call}
use Rattle.host.specs.Results.{skip-left}
use Rattle.host.specs.Painting.{begin-left, begin_call, step_left, step_call, row_call, write_call, hidden_call, skip_call}
use Rattle.host.proofs.HostAsked.{reset_unasked, recording_unasked, recording_untold, reset_asked, recording-asked, recording_told}
use Rattle.host.proofs.Kept.{step-refused, row-refused, write-refused}
use Rattle.compact.specs.Call as called
use Rattle.compact.specs.Call.{stored}
use Rattle.compact.specs.Lent as compacting
use Rattle.theorem_picture.specs.Calls as calls
use Rattle.theorem_picture.specs.Reached as reached
use Rattle.theorem_picture.specs.Rows as rows
use Rattle.theorem_border.specs.Held.{host-of}
use Rattle.theorem_border.specs.Hosted.{Host, host, Asks, Says, with_rows, with-painting, reset-at, used-at, recording-at, fill-at, push_at, pop-at, filter-at, begin-at, Turn, Call, one-step, whole_row, turn_in, paint-out, paint-at, write-at, compact-at}

abbrev pub hosted : Answer ScreenLent → Answer Host
hosted a = answer a.number (host-of a.value)

-- a refusal at the border is no 0
late : (n : ℕ) → before_4 n ≡ Done → ⊥
unfolding before_4
late n = go (ltb 0 n && ltb n BadRecord) refl
  where
    go : (b : Bool) → (ltb 0 n && ltb n BadRecord) ≡ b → cond b n BadRecord ≡ Done → ⊥
    go true q e = let h = ltb-true 0 n (both (ltb 0 n) (ltb n BadRecord) q).0 in omega arith
    go false q e = omega arith

never_done : (st : List ℕ) (f : Screen → ℕ) → refused_at st f ≡ Done → ⊥
unfolding refused_at
never_done st f = go (eqb (length st) state-size)
  where
    go : (b : Bool) → cond b (before_4 (f (screen-at st))) BadRecord ≡ Done → ⊥
    go true e = late (f (screen-at st)) e
    go false e = omega arith

module _ {T : Type 0} (t : T) (f : Screen → Answer T) where
  -- a call on the words of the screen s
  pub on-screen : (s : Screen) → on true (screen-words s) t f ≡ f s
  on-screen s = ap (λ (h : Option Screen). at_held h (screen-words s) t f) (read_back s)

  -- .. done, whatever else is asked
  on-done : (good : Bool) (s : Screen) → (on good (screen-words s) t f).number ≡ Done → on good (screen-words s) t f ≡ f s
  unfolding screen_of
  on-done true s e = on-screen s
  on-done false s e = absurd (never_done (screen-words s) (λ (s : Screen). (f s).number) e)

-- `coarse_can_skip`
pub skip-on : (l : ScreenLent) (r : ℕ) (t : Span) (id : ℕ) (old : List ℕ) → (skip_call r t id (screen-words l.screen) l.tables.rows old).number ≡ Done
    → skip_call r t id (screen-words l.screen) l.tables.rows old ≡ skip-left old (skip-of-row l.screen r l.tables.rows t id)
unfolding skip_call
skip-on l r t id old e = on-done {T = List ℕ} _ _ (eqb (length old) 1) l.screen e

-- `coarse_is_hidden`
pub hidden-on : (l : ScreenLent) (r : ℕ) (t : Span) (id : ℕ) (old : List ℕ) → (hidden_call r t id (screen-words l.screen) l.tables.depth.minima old).number ≡ Done
    → hidden_call r t id (screen-words l.screen) l.tables.depth.minima old ≡ skip-left old (hidden-of-row l.screen r l.tables.depth.minima t id)
unfolding hidden_call
hidden-on l r t id old e = on-done {T = List ℕ} _ _ (eqb (length old) 1) l.screen e

-- what a host's words ask for
pub data Asking (w : SetupWords) : Type 0 where
  for-none : (r : Refusal) → Err r ≡ asked_setup w → Asking w
  for_some : (q : Setup) → Asks w q → Asking w

pub asking : (w : SetupWords) → Asking w
asking w = go (asked_setup w) refl
  where
    go : (o : Result Setup Refusal) → o ≡ asked_setup w → Asking w
    go (Err r) e = for-none r e
    go (Ok q) e = for_some q e

-- the file that a host's number and words say
pub data Telling (f : FileWords) : Type 0 where
  of-none : (r : Refusal) → Err r ≡ told_file f → Telling f
  of_some : (file : File) → Says f file → Telling f

pub telling : (f : FileWords) → Telling f
telling f = go (told_file f) refl
  where
    go : (o : Result File Refusal) → o ≡ told_file f → Telling f
    go (Err r) e = of-none r e
    go (Ok file) e = of_some file e

-- a call's answer as what the host then holds
abbrev holding : Answer (List ℕ × Tables) → Answer Host
holding a = answer a.number (host a.value.0 a.value.1)

-- told no edition, a recording leaves everything as it was
pub recording-untold : (f : FileWords) (r : Refusal) → Err r ≡ told_file f → (w : SetupWords) (h : Host) → recording-at f w h ≡ answer (number_of r) h
unfolding recording-at
recording-untold f r e w h = sym (ap holding (recording_untold f w r e h.state h.tables))

-- asked for no setup, so do a reset and a recording
module _ (w : SetupWords) (r : Refusal) (e : Err r ≡ asked_setup w) (h : Host) where
  pub reset-none : (v : Rect) → reset-at v w h ≡ answer (number_of r) h
  unfolding reset-at
  reset-none v = sym (ap holding (reset_unasked w r e v h.state h.tables))

  pub recording-none : (f : FileWords) (file : File) → Says f file → recording-at f w h ≡ answer (unasked_number file r) h
  unfolding recording-at
  recording-none f file s = sym (ap holding (recording_told f w file s h.state h.tables (recording_unasked w r e file h.state h.tables)))

pub unasked-late : (r : Refusal) (file : File) → unasked_number file r ≡ Done → ⊥
unfolding unasked_number
unasked-late r file = go (parsed file)
  where
    go : (o : Option (List (List (List ℕ)))) → unasked o r ≡ Done → ⊥
    go None e = omega arith
    go (Some ss) e = not_done r e

-- a reset and a recording in the setup q, on a screen's words
module _ (w : SetupWords) (q : Setup) (a : Asks w q) where
  reset-is : (v : Rect) (h : Host) → reset-at v w h ≡ holding (reset_in v q h.state h.tables)
  unfolding reset-at
  reset-is v h = sym (ap holding (reset_asked w q a v h.state h.tables refl))

  recording-is : (f : FileWords) (file : File) → Says f file → (h : Host) → recording-at f w h ≡ holding (recording_in file q h.state h.tables)
  unfolding recording-at
  recording-is f file s h = sym (ap holding (recording_told f w file s h.state h.tables (recording-asked w q a file h.state h.tables refl)))

  module _ (l : ScreenLent) where
    pub reset-on : (v : Rect) → reset-at v w (host-of l) ≡ hosted (reset_to (frame q (box_of v)) l)
    unfolding reset_in
    reset-on v =
        reset-is v (host-of l)
        ∙ ap holding (on-screen (screen-words l.screen, l.tables) (λ (s : Screen). tables-left (reset_to (frame q (box_of v)) (screen_lent s l.tables))) l.screen)

    pub recording_on : (f : FileWords) (file : File) → Says f file → recording-at f w (host-of l) ≡ hosted (recorded file q l)
    unfolding recording_in
    recording_on f file s =
        recording-is f file s (host-of l)
        ∙ ap holding (on-screen (screen-words l.screen, l.tables) (λ (s : Screen). tables-left (recorded file q (screen_lent s l.tables))) l.screen)

-- words that are a screen's, or no call on them is done
pub data Known (h : Host) : Type 0 where
  nothing : None ≡ screen_of true h.state → Known h
  these : (l : ScreenLent) → h ≡ host-of l → Known h

pub known : (h : Host) → Known h
known h = go (screen_of true h.state) refl
  where
    go : (k : Option Screen) → k ≡ screen_of true h.state → Known h
    go None q = nothing q
    go (Some s) q = these (screen_lent s h.tables) (ap (λ (st : List ℕ). host st h.tables) (sym (written_back true h.state s q)))

-- on words that are no screen's
module _ (h : Host) (n : None ≡ screen_of true h.state) (w : SetupWords) (q : Setup) (a : Asks w q) where
  pub reset-never : (v : Rect) → (reset-at v w h).number ≡ Done → ⊥
  unfolding reset_in
  reset-never v e =
      let d : (reset_in v q h.state h.tables).number ≡ Done = sym (ap (λ (x : Answer Host). x.number) (reset-is w q a v h)) ∙ e in
      never_done h.state _ (rw (← n) at d)

  pub recording-never : (f : FileWords) (file : File) → Says f file → (recording-at f w h).number ≡ Done → ⊥
  unfolding recording_in
  recording-never f file s e =
      let d : (recording_in file q h.state h.tables).number ≡ Done = sym (ap (λ (x : Answer Host). x.number) (recording-is w q a f file s h)) ∙ e in
      never_done h.state _ (rw (← n) at d)

  pub recording-left : (f : FileWords) (file : File) → Says f file → (recording-at f w h).value ≡ h
  unfolding recording_in
  recording-left f file s =
      let d : (holding (recording_in file q h.state h.tables)).value ≡ h = rw (← n) in
      ap (λ (x : Answer Host). x.value) (recording-is w q a f file s h) ∙ d

-- the building calls on a screen's words
module _ (l : ScreenLent) where
  abbrev t : Tables
  t = l.tables

  pub fill_on : (ps ss : List ℕ) (d : Draw) → fill-at ps ss d (host-of l) ≡ hosted (calls.fill-at ps ss d l)
  unfolding fill-at fill_call calls.fill-at
  fill_on ps ss d =
      ap (λ (a : Answer (List ℕ × Words × List ℕ)). answer a.number
      (host a.value.0 (with_rows t a.value.1 t.layers t.opacities a.value.2 t.layer-attrs t.filter-paints)))
      (on-screen (screen-words l.screen, rows_words t, t.paint-attrs) (λ (s : Screen). fill-left (filled (fills.fill_lent s (rows_words t) t.paint-attrs) ps ss d)) l.screen)

  pub push-on : (mix compose opacity mask flag : ℕ) (clip : Clip) (panel : ℕ) → (push_at mix compose opacity mask flag clip panel (host-of l)).number ≡ Done
      → push_at mix compose opacity mask flag clip panel (host-of l) ≡ hosted (calls.push_at (props mix compose opacity mask flag clip panel) l)
  unfolding push_at push_call calls.push_at
  push-on mix compose opacity mask flag clip panel e =
      let p = props mix compose opacity mask flag clip panel in
      ap (λ (a : Answer (List ℕ × Words × List ℕ × List Float)). answer a.number
      (host a.value.0 (with_rows t a.value.1 a.value.2 a.value.3 t.paint-attrs t.layer-attrs t.filter-paints)))
      (on-done (screen-words l.screen, rows_words t, t.layers, t.opacities)
      (λ (s : Screen). push-left (pushed p (push.push_lent s (rows_words t) t.layers t.opacities))) (leb flag 1) l.screen e)

  pub pop-on : (ss : List ℕ) → pop-at ss (host-of l) ≡ hosted (calls.pop-at ss l)
  unfolding pop-at pop_call calls.pop-at
  pop-on ss =
      ap (λ (a : Answer (List ℕ × pop.PopLent)). answer a.number
      (host a.value.0
      (with_rows t a.value.1.words a.value.1.layers a.value.1.opacities t.paint-attrs a.value.1.attrs t.filter-paints)))
      (on-screen (screen-words l.screen, pop-part l) (λ (s : Screen). pop-left (popped s (pop-part l) ss)) l.screen)

  pub filter-on : (dest : Rect) (x y flag m n q : ℕ) → (filter-at dest x y flag m n q (host-of l)).number ≡ Done
      → filter-at dest x y flag m n q (host-of l) ≡ hosted (calls.filter-at (given (filter-in dest x y (picture flag m)) n q) l)
  unfolding filter-at filter_call calls.filter-at
  filter-on dest x y flag m n q e =
      ap (λ (a : Answer (List ℕ × Words × List ℕ × List ℤ)). answer a.number
      (host a.value.0 (with_rows t a.value.1 t.layers t.opacities a.value.2 t.layer-attrs a.value.3)))
      (on-done (screen-words l.screen, rows_words t, t.paint-attrs, t.filter-paints)
      (λ (s : Screen). filter-left (filtered (given (filter-in dest x y (picture flag m)) n q) (filter.filter_lent s (rows_words t) t.paint-attrs t.filter-paints))) (leb flag 1) l.screen e)

  pub used-on : used-at (host-of l) ≡ hosted (used_reset l)
  unfolding used-at used_call
  used-on = ap holding (on-screen (screen-words l.screen, l.tables) (λ (s : Screen). tables-left (used_reset (screen_lent s l.tables))) l.screen)

  pub begin-on : begin-at (host-of l) ≡ hosted (reached.begin-at l)
  unfolding begin-at begin_call reached.begin-at
  begin-on =
      ap (λ (a : Answer (List ℕ × Depths × List ℕ)). answer a.number (host a.value.0 (with-painting t a.value.1 a.value.2)))
      (on-screen (screen-words l.screen, t.depth, t.painting) (λ (s : Screen). begin-left (beginning (canvas s t.depth t.painting))) l.screen)

  pub compact-on : (i : ℕ) → compact-at i (host-of l) ≡ hosted (compacting.compact-at i l)
  unfolding compact-at compact_call compacting.compact-at
  compact-on i =
      ap (λ (a : Answer (List ℕ × Words)). answer a.number (host a.value.0 (with_rows t a.value.1 t.layers t.opacities t.paint-attrs t.layer-attrs t.filter-paints)))
      (on-screen (screen-words l.screen, rows_words t)
      (λ (s : Screen). compact-left (called.compacting i (attributes t.paint-attrs t.layer-attrs) (stored s (rows_words t)))) l.screen)

-- a painting call among picture's
abbrev pub call-of : Call → rows.Call
call-of (one-step t) = rows.one-step (record { row = t.row; list = t.list })
call-of (whole_row t) = rows.whole_row (record { row = t.row; list = t.list })

abbrev Painted : Type 0
Painted = Depths × List ℕ × List ℕ × List ℕ

pub paint-on : (c : Call) (l : ScreenLent) → (paint-out c (host-of l)).number ≡ Done → paint-out c (host-of l) ≡ step_left (turn_in c).result (rows.call-out (call-of c) l)
unfolding paint-out step_call row_call reached.paint-out rows.row_out
paint-on (one-step t) l e = on-done {T = Painted} _ _ (eqb (length t.result) 2) l.screen e
paint-on (whole_row t) l e = on-done {T = Painted} _ _ (eqb (length t.result) 2) l.screen e

-- .. and a step whose result words are two, also where it is refused
pub paint-lent : (t : Turn) (l : ScreenLent) → eqb (length t.result) 2 ≡ true → paint-out (one-step t) (host-of l) ≡ step_left t.result (reached.paint-out t.row t.list l)
unfolding paint-out step_call reached.paint-out
paint-lent t l e = rw e (on-screen {T = Painted} _ _ l.screen)

-- the words after it
pub paint-done : (c : Call) (l : ScreenLent) → (paint-out c (host-of l)).number ≡ Done → paint-at c (host-of l) ≡ host-of (rows.after_call (call-of c) l)
paint-done c l e = ap (λ (a : Answer Painted). host (screen-words l.screen) (with-painting l.tables a.value.0 a.value.1)) (paint-on c l e)

pub paint-kept : (c : Call) (h : Host) → ((paint-out c h).number ≡ Done → ⊥) → paint-at c h ≡ h
unfolding paint-out
paint-kept (one-step t) h q =
    ap (λ (o : Painted). host h.state (with-painting h.tables o.0 o.1)) (step-refused t.row _ h.state _ t.result q)
paint-kept (whole_row t) h q =
    ap (λ (o : Painted). host h.state (with-painting h.tables o.0 o.1)) (row-refused t.row _ h.state _ t.result q)

-- a writing run, done or refused
module _ (i id : ℕ) (b : Span) (list count : List ℕ) (l : ScreenLent) where
  abbrev Written : Type 0
  Written = List ℕ × Depths × List ℕ × List ℕ

  abbrev a : Answer Written
  a = write_call i b id (screen-words l.screen) l.tables.depth list count

  abbrev put : Answer Written → Host
  put x = host x.value.0 (with-painting l.tables x.value.1 l.tables.painting)

  pub write_done : a.number ≡ Done → write-at i id b list count (host-of l) ≡ host-of (reached.write-at i id b list l)
  unfolding write-at write_call reached.write-out
  write_done e = ap put (on-done {T = Written} _ _ (eqb (length count) 1) l.screen e)

  pub write_kept : (a.number ≡ Done → ⊥) → write-at i id b list count (host-of l) ≡ host-of l
  unfolding write-at
  write_kept q = ap (λ (o : Written). put (answer 0 o)) (write-refused i b (screen-words l.screen) l.tables.depth list count id q)
