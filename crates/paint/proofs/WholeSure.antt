-- A row's steps that were sure, in their place on the screen, and the rest after them. Assumes nothing.
use Rattle.std.proofs.Common.{◌≡◌, sym, ap, ◌∙◌, true, false, List, ℕ, ◌+◌, ◌-◌, ◌*◌, ◌≤◌, arith, length, take, drop, length-drop, length-take-le}
use borrow.Rule.Slice.PartMut.{put_mid, put_same}
use Rattle.sizes.specs.Widths.{bucket-tiles}
use Rattle.rules.specs.Minima.{minima-room}
use Rattle.screen.specs.declared.Screen.{Screen}
use Rattle.screen.specs.Depths.{Depths}
use Rattle.paint.specs.declared.canvas.stored.Stored.{Stored}
use Rattle.paint.specs.declared.command.reading.StoredRow.{StoredRow}
use Rattle.paint.specs.declared.whole.run.Went.{Went}
use Rattle.paint.specs.Answers.{Painted}
use Rattle.paint.specs.Painting.{RowLent, words_lent, StepOut, out, listed}
use Rattle.paint.specs.Judging.{wide}
use Rattle.paint.specs.Stepping.{part, with_part, depth-part, with-depth-part, put-parts, Within}
use Rattle.paint.specs.Named.{IsRowOf, used_attrs}
use Rattle.paint.specs.Running.{run, finished_with, standing, row-run, row-run-on}
use Rattle.paint.specs.Rows.{steps_of, Sure}
use Rattle.paint.proofs.ScreenParts.{part-is, put_is}
use Rattle.paint.proofs.WholeParts.{part-there, part-again}
use Rattle.paint.proofs.WholeRuns.{onward-same, sure-rest, sure-ended, rest_end}

-- steps that were sure: none of them gave a piece where there are none
module _ {o : StoredRow} {f : ℕ} {w : Went} {d e : Depths} {p l q k : List ℕ} (z : Sure o f w d p l e q k) (h : w.steps ≡ 0) where
  pub none-sure : standing d p l ≡ out (listed w.pieces) e q k
  none-sure = onward-same (steps_of o) _ _ (rw h at z.onward)

  pub none-given : w.pieces ≡ 0
  none-given = ap (λ (x : StepOut). x.answer.pieces) (sym none-sure)

-- The sure steps of row r, at most f: all the depth words and minima before them and after them, all the painting words before them, and the row's own after.
module _ {s : Screen} {r : ℕ} {t : Stored} {o : StoredRow} (i : IsRowOf s r t o) (b f : ℕ) (j : b ≡ wide s) (d e : Depths) (p l : List ℕ) {w : Went} {q k : List ℕ}
    (g : e ≡ with-depth-part b r d (depth-part b r e))
    (z : Sure o f w (depth-part b r d) (take (r * 2 + 2 - r * 2) (drop (r * 2) p)) l (depth-part b r e) q k) where
  abbrev lent : RowLent
  lent = words_lent t.rows.now t.render_cmds.now t.depth_cmds.now d p l

  abbrev back : List ℕ
  back = put_mid (r * 2) (r * 2 + 2 - r * 2) p q

  abbrev all : StepOut
  all = row-run (bucket-tiles s.width) f (used_attrs s t) (wide s) s.c s.d r lent

  in-place : (x : Painted) → out x e back k ≡ put-parts b r lent (out x (depth-part b r e) q k)
  in-place x = rw (put_is 2 r p q) (ap (λ (y : Depths). out x y (with_part 2 r p q) k) g)

  in-own : (x : StepOut) → x ≡ run (steps_of o) f 0 (standing (depth-part b r d) (take (r * 2 + 2 - r * 2) (drop (r * 2) p)) l)
      → put-parts b r lent x ≡ row-run (bucket-tiles s.width) f (used_attrs s t) b s.c s.d r lent
  unfolding row-run-on
  in-own x h = ap (put-parts b r lent) (h ∙ rw (i.state, i.render, i.fills, i.attrs, i.width, part-is 2 r p))

  -- no step is left, ..
  pub finished-there : w.ended ≡ true → out (finished_with w.pieces) e back k ≡ all
  finished-there h =
      rw (← j) (in-place (finished_with w.pieces) ∙ in-own _ (sure-ended (steps_of o) f _ _ w.steps z.onward _ _ _ w.pieces (z.unended h) (z.ended h)))

  pub ended-there : w.ended ≡ true → out (record { number = 0; finished = w.ended; pieces = w.pieces }) e back k ≡ all
  ended-there h = rw h (finished-there h)

  -- .. or they are as many as are asked for, ..
  pub full-there : w.ended ≡ false → f ≤ w.steps → out (record { number = 0; finished = w.ended; pieces = w.pieces }) e back k ≡ all
  full-there h m =
      rw (h, ← j) (in-place (listed w.pieces) ∙ in-own _ (rest_end (steps_of o) f (sure-rest (steps_of o) f _ _ w.steps z.onward z.few) m))

  -- .. or they are none: nothing has changed, ..
  pub none-there : w.steps ≡ 0 → out (listed 0) e back k ≡ out (listed 0) d p l
  none-there h =
      in-place (listed 0)
      ∙ ap (λ (y : StepOut). put-parts b r lent (out (listed 0) y.depth y.painting y.list)) (sym (none-sure z h))
      ∙ rw (part-is 2 r p, put_same (r * b) b d.words, put_same (r * minima-room b) (minima-room b) d.minima, put_same (r * 2) 2 p)

  -- .. or the rest follows
  module _ (x : Within (wide s) r d.words) (y : Within (minima-room (wide s)) r d.minima) (v : Within 2 r p)
      (xs : length e.words ≡ length d.words) (ys : length e.minima ≡ length d.minima) (vs : length q ≡ 2) where
    own-again : (n : ℕ) (us vs ws : List ℕ) → Within n r us → length vs ≡ length us
        → with_part n r (with_part n r us (part n r vs)) ws ≡ with_part n r us ws
    own-again n us vs ws h m = part-again n r us (part n r vs) h (length-take-le n (drop (r * n) vs) (rw length-drop (omega (arith, h.ends)))) ws

    depth-again : (a : Depths) → with-depth-part b r e a ≡ with-depth-part b r d a
    depth-again a =
        ap (λ (c : Depths). with-depth-part b r c a) g
        ∙ rw (own-again b d.words e.words a.words (rw j x) xs, own-again (minima-room b) d.minima e.minima a.minima (rw j y) ys)

    abbrev then : RowLent
    then = words_lent t.rows.now t.render_cmds.now t.depth_cmds.now e back k

    again-there : (a : StepOut) → put-parts b r then a ≡ put-parts b r lent a
    again-there a = rw (put_is 2 r p q, part-again 2 r p q v vs a.painting, depth-again a.depth)

    pub rest-there : row-run-on (bucket-tiles s.width) (f - w.steps) w.steps w.pieces (used_attrs s t) (wide s) s.c s.d r then ≡ all
    unfolding row-run-on
    rest-there =
        let n = sure-rest (steps_of o) f _ _ w.steps z.onward z.few in
        let h = in-own _ n.whole in
        rw (← j) (again-there _ ∙ rw (put_is 2 r p q, part-there 2 r p q v vs) (rw (i.state, i.render, i.fills, i.attrs, i.width) at h))
