-- A screen that the rules have built keeps its frame, and its rows give few pieces: at most 64 by their depth fills, and 32 by each of at most
-- 1,024 commands. Assumes nothing.
use Rattle.std.proofs.Common.{ℕ, ◌≤◌, arith, ◌≡◌, sym, ap, subst, List, [], get_or, false, leb-true}
use Rattle.std.proofs.lemmas.List.{set_past}
use Rattle.rules.specs.Answers.{Done}
use Rattle.rules.specs.Rows.{Row, fresh-row}
use Rattle.rules.specs.Plans.{Frame, bucket, buckets-across, Step}
use Rattle.rules.specs.Steps.{Screen, reset}
use Rattle.rules.specs.Painting.{Painter}
use Rattle.rules.specs.Calls.{Canvas, no_row, blank, step_call}
use Rattle.rules.specs.Compacted.{compact, compact-screen, compact-call}
use Rattle.screen.proofs.ScreenLaws.{room, few-buckets}
use Rattle.refine_paint.specs.Canvases.{WholeCanvas}
use Rattle.refine_paint.proofs.Painted.{reset-whole, step-whole}
use Rattle.refine_paint.proofs.Painters.{all-taken}
use Rattle.refine_compact.proofs.Whole.{compact-whole}
use Rattle.rules_picture.specs.Compacted.{Kept-up, no_step, then, tidied}
use Rattle.rules_picture.proofs.Cases.{by}
use Rattle.rules_picture.proofs.CompactedCall.{compacts}
use Rattle.rules_picture.proofs.CompactedFollows.{kept-frame}
use Rattle.rules_picture.proofs.Few.{row-few}
use Rattle.theorem_picture.specs.Bounded.{FrameKept, RowsFew}

pub frame_kept : FrameKept
unfolding reset
frame_kept f xs u b = kept-frame b

module _ (ps : List Painter) where
  -- a screen before painting has begun, with these painters
  abbrev resting : Screen Row → Canvas
  resting s = record { screen = s; begun = false; painters = ps }

  -- where the row is there and no layer is open, the call is done
  compact-done : (i : ℕ) (s : Screen Row) → s.state.layers ≡ [] → no_row (resting s) i ≡ false → (compact-call i (resting s)).number ≡ Done
  unfolding compact-call
  compact-done i s z n = rw (n, z)

  -- with a row compacted it is whole still; a row that is not there changes nothing
  tidied-whole : (i : ℕ) (s : Screen Row) → s.state.layers ≡ [] → WholeCanvas (resting s) → WholeCanvas (resting (compact-screen i s))
  tidied-whole i s z w = by (no_row (resting s) i)
      (λ y.
      let q = compact (bucket s.state.frame) (buckets-across s.state.frame) s.state.attrs (get_or s.rows i fresh-row) in
      subst (λ (rs : List Row). WholeCanvas (resting (record { state = s.state; rows = rs }))) (sym (set_past s.rows i q (leb-true _ _ y))) w)
      (λ n. rw (compacts i (resting s) (compact-done i s z n)).left at (compact-whole (resting s) w i))

  -- .. and so it is after every history
  kept-whole : {xs : List Step} {s u : Screen Row} → Kept-up xs s u → WholeCanvas (resting s) → WholeCanvas (resting u)
  unfolding step_call
  kept-whole no_step w = w
  kept-whole ((then) {x = x} {s = s} e b) w = kept-whole b (rw e at (step-whole x (resting s) w))
  kept-whole (tidied {s = s} i z b) w = kept-whole b (tidied-whole i s z w)

pub rows-few : RowsFew
rows-few f xs u v c d b r =
    let o = kept-whole (blank (reset fresh-row f)) b (reset-whole f v c d) in
    let k : u.state.frame.c ≡ f.c = ap (λ (g : Frame). g.c) (frame_kept f xs u b) in
    let row = get_or u.rows r fresh-row in
    let n : buckets-across f ≤ 64 = few-buckets f.viewport v f.width in
    let t = all-taken u.state.attrs (buckets-across u.state.frame) row (o.fair r) in
    omega (arith, row-few (bucket f) u.state.attrs (buckets-across f) row n t, n, (o.sound.rows r).commands, k, (room f.c c).few)
