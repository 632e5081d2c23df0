-- All reached words hold a whole canvas of the rules, built by the same steps. Assumes nothing.
use Rattle.std.proofs.Common.{◌≡◌, refl, sym, ap, ◌∙◌, Bool, true, false, not, ◌&&◌, List, [], ◌∷◌, ◌++◌, append-nil, ℕ, ◌*◌, ◌/◌, eqb, length, replicate, eqb-true}
use Rattle.sizes.specs.Sizes.{piece-size}
use Rattle.rules.specs.Lists.{join, is-empty}
use Rattle.rules.specs.Answers.{Answer, first_of, Done, BadRun, Open}
use Rattle.rules.specs.Spans.{Span}
use Rattle.rules.specs.Boxes.{rows_of}
use Rattle.rules.specs.Rows.{Row, fresh-row, row-ops}
use Rattle.rules.specs.Plans.{Frame, buckets-across, Step, a-fill, a-push, a-pop, a-filter}
use Rattle.rules.specs.Steps.{Screen, reset, call}
use Rattle.rules.specs.Words as words_of
use Rattle.rules.specs.Walk.{good-room}
use Rattle.rules.specs.Minima.{minima-room}
use Rattle.rules.specs.Calls.{Canvas, no_row, fresh-canvas, step_call, begin-call, paint-call, write-call, blank}
use Rattle.rules.proofs.All.{both}
use Rattle.screen.specs.Judging.{good-fixed, judged_reset}
use Rattle.screen.specs.Depths as lent
use Rattle.screen.specs.Tables.{zeros, lengths, ScreenLent, reset_to}
use Rattle.walk.specs.Reading.{draw_in, props_in}
use Rattle.walk.specs.Steps.{filter_in, call_at}
use Rattle.walk.proofs.Lists.{paints-said, segments-said}
use Rattle.rules.proofs.laws.Answers.{settle-number, settle-kept}
use Rattle.refine_steps.proofs.Reset.{judged-facts, rooms, fresh-sound, fresh-words}
use Rattle.refine_paint.specs.Canvases.{depth-of, painting-of, WholeCanvas}
use Rattle.refine_paint.proofs.Begin.{blank-depth, blank-painting}
use Rattle.refine_paint.proofs.Whole.{begin-whole, paint-whole}
use Rattle.refine_paint.proofs.Painted.{reset-whole, step-whole}
use Rattle.refine_paint.proofs.Runs.{write-whole, same-screen}
use Rattle.rules_picture.proofs.Turns.{call-screen}
use Rattle.rules_picture.proofs.Walked.{built-append}
use Rattle.rules_picture.proofs.CompactedFollows.{built-kept, kept-append}
use Rattle.rules_picture.proofs.CompactedCall.{compacts}
use Rattle.rules_picture.specs.Built as alone
use Rattle.rules_picture.specs.Compacted.{Kept-up, no_step, then, tidied}
use Rattle.rules_picture.proofs.Cases.{by}
use Rattle.rules.specs.Compacted.{compact-screen, compact-call}
use Rattle.compact.specs.Lent.{compact-at}
use Rattle.refine_compact.proofs.Whole.{compact-whole}
use Rattle.refine_compact.proofs.Lent.{compact-lent}
use Rattle.layers.specs.Filter.{given}
use Rattle.theorem_picture.specs.Calls.{fill-at, push_at, pop-at, filter-at, fill-said, pop-said, filter-said}
use Rattle.theorem_picture.specs.Reached.{ReachedBy, Reached, AloneReached, by-reset, by-fill, by-push, by-pop, by-filter, by-begin, by-paint, by-write, by-compact, begin-at, paint-at, write-at}
use Rattle.theorem_picture.specs.Standing.{canvas-words, BuiltBy, StandsBy, Stands, AloneStands}
use Rattle.theorem_picture.proofs.Calls.{fill-steps, push-steps, pop-steps, filter_steps}
use Rattle.theorem_picture.proofs.Words.{step_words, begin-words, paint-words, write-words, begin-screen}

-- a done reset
module _ (f : Frame) (l : ScreenLent) (z : judged_reset f (lengths l.tables) ≡ 0) where
  abbrev rows : ℕ
  rows = rows_of f.viewport

  abbrev buckets : ℕ
  buckets = buckets-across f

  abbrev fresh : Screen Row
  fresh = reset fresh-row f

  depth-long : length l.tables.depth.words ≡ rows * buckets
  depth-long =
      let k = lengths l.tables in
      let a = both (good-room f.c && good-room f.d) _ (judged-facts f l z).1 in
      let m = eqb k.minima (rows * minima-room buckets) in
      let b = both (eqb k.render_cmds (rows * (4 * f.c)) && eqb k.depth_cmds (rows * (2 * f.d)) && eqb k.depth (rows * buckets)) m a.1 in
      eqb-true _ _ (both (eqb k.render_cmds (rows * (4 * f.c)) && eqb k.depth_cmds (rows * (2 * f.d))) (eqb k.depth (rows * buckets)) b.0).1

  painting-long : length l.tables.painting ≡ rows * 2
  painting-long =
      let k = lengths l.tables in
      let b = both (eqb k.rows (rows * 54) && eqb k.painting (rows * 2)) (good-fixed k) (judged-facts f l z).2 in
      eqb-true _ _ (both (eqb k.rows (rows * 54)) (eqb k.painting (rows * 2)) b.0).1

  count : length fresh.rows ≡ rows
  unfolding reset
  count = (fresh-sound f l z).count

  zero-depth : lent.blank rows buckets l.tables.depth ≡ depth-of (blank fresh)
  unfolding reset
  zero-depth =
      ap (λ (m : ℕ). lent.blank m buckets l.tables.depth) (sym count)
      ∙ blank-depth buckets (length fresh.rows) l.tables.depth (depth-long ∙ ap (λ (m : ℕ). m * buckets) (sym count))

  zero-painting : zeros 0 l.tables.painting ≡ painting-of (blank fresh)
  unfolding reset
  zero-painting = ap (λ (n : ℕ). replicate n 0) (painting-long ∙ ap (λ (m : ℕ). m * 2) (sym count)) ∙ sym (blank-painting buckets (length fresh.rows))

  pub fresh-whole : WholeCanvas (fresh-canvas f)
  fresh-whole = reset-whole f (judged-facts f l z).0 (rooms f l z).0 (rooms f l z).1

  pub reset-words : (reset_to f l).value ≡ canvas-words (fresh-canvas f)
  reset-words = ap (λ (a : Answer ScreenLent). a.value) (fresh-words f l z) ∙ rw (zero-depth, zero-painting)

  reset-stands : (c : Bool) → StandsBy c f [] (reset_to f l).value
  reset-stands c = record { canvas = fresh-canvas f; whole = fresh-whole; built = none c; same = reset-words }
    where
      none : (c : Bool) → BuiltBy c [] fresh fresh
      none true = no_step
      none false = alone.no_step

-- a done step of the rules
step-done : (x : Step) (k : Canvas) → (step_call x k).number ≡ Done
    → ((call Row row-ops x k.screen).number ≡ Done) × ((step_call x k).value ≡ record { screen = (call Row row-ops x k.screen).value; begun = false; painters = k.painters })
unfolding step_call
step-done x k e =
    let n : (call Row row-ops x k.screen).number ≡ Done = sym (settle-number (call Row row-ops x k.screen).number k (record { screen = (call Row row-ops x k.screen).value; begun = false; painters = k.painters })) ∙ e in
    (n, rw n)

-- one more step
one-more : (c : Bool) (x : Step) (xs : List Step) (s u : Screen Row) → BuiltBy c xs s u → (call Row row-ops x u).number ≡ Done
    → BuiltBy c (xs ++ (x ∷ [])) s (call Row row-ops x u).value
one-more true x xs s u b e = kept-append b (then e no_step)
one-more false x xs s u b e = built-append b (alone.then e alone.no_step)

module _ {c : Bool} {f : Frame} {xs : List Step} {l : ScreenLent} (h : StandsBy c f xs l) where
  abbrev k : Canvas
  k = h.canvas

  step-stands : (x : Step) → (call_at x l).number ≡ Done → StandsBy c f (xs ++ (x ∷ [])) (call_at x l).value
  step-stands x e =
      let q = ap (call_at x) h.same ∙ step_words k h.whole x in
      let d = step-done x k (sym (ap (λ (a : Answer ScreenLent). a.number) q) ∙ e) in
      record {
        canvas = (step_call x k).value;
        whole = step-whole x k h.whole;
        built = rw d.1 (one-more c x xs (reset fresh-row f) k.screen h.built d.0);
        same = ap (λ (a : Answer ScreenLent). a.value) q;
      }

  -- a done building call that is this step
  called-stands : (x : Step) (a : Answer ScreenLent) → a ≡ call_at x l → a.number ≡ Done → StandsBy c f (xs ++ (x ∷ [])) a.value
  called-stands x a q e = rw q (step-stands x (sym (ap (λ (b : Answer ScreenLent). b.number) q) ∙ e))

  begin-stands : StandsBy c f xs (begin-at l).value
  begin-stands =
      record {
        canvas = (begin-call k).value;
        whole = begin-whole k h.whole;
        built = rw (begin-screen k h.whole) h.built;
        same = ap (λ (m : ScreenLent). (begin-at m).value) h.same ∙ ap (λ (a : Answer ScreenLent). a.value) (begin-words k h.whole);
      }

  paint-stands : (i : ℕ) (list : List ℕ) → StandsBy c f xs (paint-at i list l)
  paint-stands i list =
      record {
        canvas = (paint-call i (length list / piece-size) k).value.canvas;
        whole = paint-whole k h.whole i (length list / piece-size);
        built = rw (call-screen i (length list / piece-size) k) h.built;
        same = ap (paint-at i list) h.same ∙ paint-words k h.whole i list;
      }

  write-stands : (i id : ℕ) (t : Span) (list : List ℕ) → StandsBy c f xs (write-at i id t list l)
  write-stands i id t list =
      record {
        canvas = (write-call id i (length list / 2) t k).value.canvas;
        whole = write-whole k h.whole i id t (length list / 2);
        built = rw (same-screen k h.whole i id t (length list / 2)) h.built;
        same = ap (write-at i id t list) h.same ∙ write-words k h.whole i id t list;
      }

-- the call done in a history where rows may be compacted, or refused
module _ {f : Frame} {xs : List Step} {l : ScreenLent} (h : Stands f xs l) (i : ℕ) where
  compact-kept : eqb (compact-call i h.canvas).number Done ≡ false → (compact-call i h.canvas).value ≡ h.canvas
  unfolding compact-call
  compact-kept e =
      let k = h.canvas in
      let n = first_of ((no_row k i, BadRun) ∷ (not (is-empty k.screen.state.layers), Open) ∷ []) in
      let t : Canvas = record { screen = compact-screen i k.screen; begun = false; painters = k.painters } in
      settle-kept n k t e

  compacted-built : Kept-up xs (reset fresh-row f) (compact-call i h.canvas).value.screen
  compacted-built =
      by (eqb (compact-call i h.canvas).number Done)
      (λ y.
      let z = compacts i h.canvas (eqb-true _ _ y) in
      let b : Kept-up (xs ++ []) (reset fresh-row f) (compact-screen i h.canvas.screen) = kept-append h.built (tidied i z.closed no_step) in
      rw z.left (rw (append-nil xs) at b))
      (λ n. rw (compact-kept n) h.built)

  compact-stands : Stands f xs (compact-at i l).value
  compact-stands =
      record {
        canvas = (compact-call i h.canvas).value;
        whole = compact-whole h.canvas h.whole i;
        built = compacted-built;
        same = ap (λ (m : ScreenLent). (compact-at i m).value) h.same ∙ ap (λ (a : Answer ScreenLent). a.value) (compact-lent h.canvas h.whole i);
      }

-- The refinement about the calls as they are: whatever calls were made, the lent words are those of a whole canvas of the rules, and its
-- screen is built from the reset by the same done steps.
pub reached : {c : Bool} {f : Frame} {xs : List Step} {l : ScreenLent} → ReachedBy c f xs l → StandsBy c f xs l
unfolding reset_to
reached {c = c} (by-reset f l e) = reset-stands f l (sym (settle-number (judged_reset f (lengths l.tables)) l _) ∙ e) c
reached (by-fill ps ss d r e) = called-stands (reached r) (fill-said ps ss d) _ (fill-steps ps ss d _ e) e
reached (by-push p q s r e) = called-stands (reached r) (a-push q) _ (push-steps p q s _) e
reached (by-pop ss r e) = called-stands (reached r) (pop-said ss) _ (pop-steps ss _ e) e
reached (by-filter g r e) = called-stands (reached r) (filter-said g) _ (filter_steps g _) e
reached (by-begin r) = begin-stands (reached r)
reached (by-paint i list r) = paint-stands (reached r) i list
reached (by-write i id t list r) = write-stands (reached r) i id t list
reached (by-compact i r) = compact-stands (reached r) i

-- Every step of the rules is a call: its paints and segments lent as the words that say them.
pub step-reached : {c : Bool} {f : Frame} {xs : List Step} {l : ScreenLent} (x : Step) → ReachedBy c f xs l → (call_at x l).number ≡ Done
    → ReachedBy c f (xs ++ (x ∷ [])) (call_at x l).value
unfolding call_at fill-at push_at pop-at filter-at
step-reached (a-fill ps ss d) r e =
    let h = by-fill (join words_of.paint-words ps) (join words_of.segment-words ss) (draw_in d) r e in
    rw (paints-said ps, segments-said ss) at h
step-reached (a-push p) r e = by-push (props_in p) p refl r e
step-reached (a-pop ss) r e = let h = by-pop (join words_of.segment-words ss) r e in rw (segments-said ss) at h
step-reached (a-filter n f q) r e = by-filter (given (filter_in f) n q) r e

-- Calls among which no row is compacted are calls.
pub alone-reached : AloneReached
alone-reached f xs l h = go refl h
  where
    go : {c : Bool} {f : Frame} {xs : List Step} {l : ScreenLent} → c ≡ false → ReachedBy c f xs l → Reached f xs l
    go n (by-reset f l e) = by-reset f l e
    go n (by-fill ps ss d r e) = by-fill ps ss d (go n r) e
    go n (by-push p q s r e) = by-push p q s (go n r) e
    go n (by-pop ss r e) = by-pop ss (go n r) e
    go n (by-filter g r e) = by-filter g (go n r) e
    go n (by-begin r) = by-begin (go n r)
    go n (by-paint i list r) = by-paint i list (go n r)
    go n (by-write i id t list r) = by-write i id t list (go n r)
    go n (by-compact i r) = by-compact i r

pub alone-stands : AloneStands
alone-stands f xs l s = (record { canvas = s.canvas; whole = s.whole; built = built-kept s.built; same = s.same }, refl)
