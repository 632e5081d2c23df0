-- A call of `paint_row` with room for all that is left of its row paints the row to its end. Assumes nothing.
use Rattle.std.proofs.Common.{◌≡◌, refl, sym, ap, ◌∙◌, true, false, List, ◌++◌, ℕ, zero, suc, ◌+◌, ◌-◌, ◌*◌, ◌/◌, ◌≤◌, ◌<◌, arith, leb, eqb, length, take, drop, get_or, length-append, length-drop, length-take-le, eq-eqb, le-ltb, leb-true}
use borrow.Author.Tests.{lt-leb}
use Rattle.sizes.specs.Sizes.{piece-size}
use Rattle.rules.specs.Lists.{join}
use Rattle.rules.specs.Answers.{Answer, Done}
use Rattle.rules.specs.Boxes.{rows_of}
use Rattle.rules.specs.Rows.{fresh-row}
use Rattle.rules.specs.Plans.{Frame, Step}
use Rattle.rules.specs.Painting.{Piece, Painted, paint-steps}
use Rattle.rules.specs.Calls.{paints-on, Canvas, bucket-on, Given, painter-of, paint-call}
use Rattle.screen.specs.Tables.{ScreenLent}
use Rattle.refine_steps.specs.Lent.{lent_of}
use Rattle.cmd.specs.Pieces.{piece-words, laid}
use Rattle.paint.specs.Painting.{StepOut}
use Rattle.paint.proofs.Spreading.{length-pieces}
use Rattle.paint.specs.Running.{one_more, run, most, standing, row-painted}
use Rattle.refine_paint.specs.Canvases.{given_out, WholeCanvas}
use Rattle.refine_paint.proofs.Whole.{paint-whole}
use Rattle.rules_picture.specs.Turns.{next-step}
use Rattle.rules.proofs.All.{and_right}
use Rattle.rules_picture.proofs.Cases.{by}
use Rattle.rules_picture.proofs.Turns.{step_counts, step-ended, late-ended, call-given, call-screen, call-paints, call-own}
use Rattle.rules_picture.proofs.Finishes.{work}
use Rattle.rules_picture.proofs.CompactedFollows.{kept-on}
use Rattle.theorem_picture.specs.Reached.{Reached, paint-out, paint-at}
use Rattle.theorem_picture.specs.Standing.{canvas-words}
use Rattle.theorem_picture.specs.Rows.{row_out}
use Rattle.theorem_picture.proofs.Words.{paint-gives, paint-words}
use Rattle.theorem_picture.proofs.Reached.{reached}
use Rattle.theorem_picture.proofs.Rows.{step, at, next, Holds, one-words, one_holds}

-- the pieces of the next n steps of row r
abbrev pub left-of : ℕ → Canvas → ℕ → List Piece
left-of n k r = paint-steps (bucket-on k) k.screen.state.attrs n (get_or k.screen.rows r fresh-row) (painter-of k r)

-- a step with room for its pieces is done
pub room-done : (k : Canvas) (r m : ℕ) → r < length k.screen.rows → paints-on k ≡ true → length (next-step k r).pieces ≤ m → (paint-call r m k).number ≡ Done
unfolding paint-call
room-done k r m h b e = rw (lt-leb (length k.screen.rows) r h, b, le-ltb m (length (next-step k r).pieces) e)

-- the lengths of a list with pieces laid, and of what stands after n + m pieces
laid-long : (ps : List Piece) (ys : List ℕ) → length (laid ps ys) ≡ piece-size * length ps + (length ys - piece-size * length ps)
laid-long ps ys =
    length-append (join piece-words ps) (drop (length (join piece-words ps)) ys)
    ∙ rw (length-drop (length (join piece-words ps)) ys, length-pieces ps)

left_after : (n m : ℕ) (xs ys : List ℕ) → piece-size * n ≤ length xs → length (drop (piece-size * (n + m)) (take (piece-size * n) xs ++ ys)) ≡ length ys - piece-size * m
left_after n m xs ys h =
    length-drop (piece-size * (n + m)) (take (piece-size * n) xs ++ ys) ∙ rw (length-append (take (piece-size * n) xs) ys, length-take-le (piece-size * n) xs h) (omega arith)

module _ (r : ℕ) (l : ScreenLent) where
  -- the row's painting stands at g on the canvas k
  record At (g : StepOut) (k : Canvas) : Type 0 where
    words : at r l g ≡ canvas-words k
    whole : WholeCanvas k
    goes_on : paints-on k ≡ true
    there : r < length k.screen.rows
    holds : Holds r l g

  module _ (g : StepOut) (k : Canvas) (z : At g k) where
    abbrev ys : List ℕ
    ys = (next r l g).list

    abbrev c : Answer (Given Painted)
    c = paint-call r (length ys / piece-size) k

    step_is : step r l g.depth g.painting ys ≡ given_out c ys
    step_is =
        let e : step r l g.depth g.painting ys ≡ paint-out r ys (at r l g) = unfold paint-out in refl in
        e ∙ ap (paint-out r ys) z.words ∙ paint-gives k z.whole r ys

    one_number : (one_more (step r l) g).answer.number ≡ c.number
    unfolding one_more
    one_number = ap (λ (o : StepOut). o.answer.number) step_is

    one-finished : (one_more (step r l) g).answer.finished ≡ c.value.result.finished
    unfolding one_more
    one-finished = ap (λ (o : StepOut). o.answer.finished) step_is

    -- the next one stands on the canvas after it
    on : At (one_more (step r l) g) c.value.canvas
    on =
        record {
          words = sym (one-words r l g) ∙ ap (paint-at r ys) z.words ∙ paint-words k z.whole r ys;
          whole = paint-whole k z.whole r (length ys / piece-size);
          goes_on = call-paints r (length ys / piece-size) k ∙ z.goes_on;
          there = rw (call-screen r (length ys / piece-size) k) z.there;
          holds = one_holds r l g z.holds;
        }

    -- what is left of the list then
    one_left : length (next r l (one_more (step r l) g)).list ≡ length ys - piece-size * length c.value.result.pieces
    unfolding one_more
    one_left =
        let v = laid-long c.value.result.pieces ys in
        rw step_is (left_after g.answer.pieces (length c.value.result.pieces) g.list (laid c.value.result.pieces ys) z.holds ∙ rw v (omega arith))

    -- there is room for its pieces
    module _ (room : piece-size * length (next-step k r).pieces ≤ length ys) where
      done : eqb c.number Done ≡ true
      done = eq-eqb _ _ (room-done k r (length ys / piece-size) z.there z.goes_on (omega arith))

      given : c.value.result ≡ next-step k r
      given = (call-given r (length ys / piece-size) k done).0

      -- it is the last
      end-now : (f j : ℕ) → (next-step k r).finished ≡ true → (run (step r l) (suc f) j g).answer.finished ≡ true
      unfolding run
      end-now f j e =
          let y : (one_more (step r l) g).answer.finished ≡ true = one-finished ∙ ap (λ (o : Painted). o.finished) given ∙ e in
          rw (one_number, done, y)

      -- it is not
      go_on : (f j : ℕ) → (next-step k r).finished ≡ false → run (step r l) (suc f) j g ≡ run (step r l) f (j + 1) (one_more (step r l) g)
      unfolding run
      go_on f j e =
          let y : (one_more (step r l) g).answer.finished ≡ false = one-finished ∙ ap (λ (o : Painted). o.finished) given ∙ e in
          rw (one_number, done, y)

      later : painter-of c.value.canvas r ≡ (next-step k r).painter
      later = call-own r (length ys / piece-size) k (rw z.whole.count z.there) done

  -- a step that says finished needs no room
  few : (g : StepOut) (k : Canvas) → (next-step k r).finished ≡ true → piece-size * length (next-step k r).pieces ≤ length (next r l g).list
  few g k e = rw (step-ended (bucket-on k) k.screen.state.attrs (get_or k.screen.rows r fresh-row) (painter-of k r) e) (omega arith)

  -- enough steps, and room for all their pieces
  ends : (f n j : ℕ) (g : StepOut) (k : Canvas) → At g k → work k r ≤ (painter-of k r).steps + n → n < f → piece-size * length (left-of n k r) ≤ length (next r l g).list
      → (run (step r l) f j g).answer.finished ≡ true
  unfolding paint-steps
  ends zero n j g k z w h room = absurd (omega arith)
  ends (suc f) zero j g k z w h room =
      let e = late-ended (bucket-on k) k.screen.state.attrs (get_or k.screen.rows r fresh-row) (painter-of k r) (omega arith) in
      end-now g k z (few g k e) f j e
  ends (suc f) (suc n) j g k z w h room =
      by (next-step k r).finished
      (λ e. end-now g k z (few g k e) f j e)
      (λ e.
      let o = next-step k r in
      let m : piece-size * (length o.pieces + length (paint-steps (bucket-on k) k.screen.state.attrs n (get_or k.screen.rows r fresh-row) o.painter)) ≤ length (ys g k z) = rw (← length-append) room in
      let first : piece-size * length o.pieces ≤ length (ys g k z) = omega arith in
      let c = step_counts (bucket-on k) k.screen.state.attrs (get_or k.screen.rows r fresh-row) (painter-of k r) e in
      let p = later g k z first in
      let s = call-screen r (length (ys g k z) / piece-size) k in
      let v = one_left g k z in
      rw (go_on g k z first f j e)
      (ends f n (j + 1) (one_more (step r l) g) _ (on g k z) (rw (p, s) (omega arith)) (omega arith) (rw (p, s) (omega (arith, rw (given g k z first) at v)))))

-- the call at the words of a canvas
pub row-ended : (k : Canvas) → WholeCanvas k → paints-on k ≡ true → (r : ℕ) → r < length k.screen.rows → (list : List ℕ)
    → piece-size * length (left-of (work k r) k r) ≤ length list → (row_out r list (canvas-words k)).answer.finished ≡ true
unfolding row_out row-painted
row-ended k w b r h list room =
    let s = w.sound in
    let c : k.screen.state.frame.c ≤ 1024 = leb-true _ _ (and_right (leb 1 k.screen.state.frame.c) _ s.c-room) in
    let d : k.screen.state.frame.d ≤ 1024 = leb-true _ _ (and_right (leb 1 k.screen.state.frame.d) _ s.d-room) in
    let q = s.rows r in
    let g = standing (canvas-words k).tables.depth (canvas-words k).tables.painting list in
    ends r (canvas-words k) most (work k r) 0 g k
    (record { words = refl; whole = w; goes_on = b; there = h; holds = omega arith })
    (omega arith) (omega (arith, c, d, q.commands, q.fills)) room

-- While painting goes on, one call of `paint_row` into any list that is long enough says finished.
pub row_ends : {f : Frame} {xs : List Step} {l : ScreenLent} → Reached f xs l → l.screen.painting ≡ true → (r : ℕ) → r < rows_of f.viewport
    → (n : ℕ) × ((list : List ℕ) → n ≤ length list → (row_out r list l).answer.finished ≡ true)
row_ends {f} {xs} {l} h b r there =
    let s = reached h in
    let k = s.canvas in
    let begun : k.begun ≡ true = unfold lent_of in (sym (ap (λ (m : ScreenLent). m.screen.painting) s.same) ∙ b) in
    let on : paints-on k ≡ true = rw (s.whole.closed begun) begun in
    let row = (kept-on f xs k.screen s.built r there).1 in
    (piece-size * length (left-of (work k r) k r), λ list long. ap (λ (m : ScreenLent). (row_out r list m).answer.finished) s.same ∙ row-ended k s.whole on r row list long)
