-- A row that waits is painted to its end by one call of `paint_row` into a list of the programs' length: it has at most 64 buckets and 64 commands, and
-- gives at most one piece for each bucket and 32 for each command. So `row_text` writes the rules' text of it wherever that fits. Assumes nothing.
use Rattle.std.proofs.Common.{◌≡◌, refl, ap, ◌∙◌, Bool, true, false, cond, List, [], ◌∷◌, Option, None, Some, ℕ, zero, suc, ◌+◌, ◌*◌, ◌/◌, ◌≤◌, arith, ltb, eqb, length, get_or, length-append, length-drop, length-take-le, le-ltb, ltb-false}
use lib.ListN.{length-replicate}
use Rattle.sizes.specs.Sizes.{piece-size}
use Rattle.rules.specs.Answers.{Done}
use Rattle.rules.specs.Rows.{Row, fresh-row}
use Rattle.rules.specs.Commands.{DepthFill}
use Rattle.rules.specs.Attributes.{Attrs}
use Rattle.rules.specs.Plans.{bucket, buckets-across}
use Rattle.rules.specs.Steps.{Screen}
use Rattle.rules.specs.Painting as rules
use Rattle.rules.specs.Painting.{Piece, Painter, begin, paint-id, paint-row}
use Rattle.rules.specs.Calls.{Canvas, bucket-on, painter-of}
use Rattle.rules.proofs.All.{All}
use Rattle.screen.specs.declared.Screen as declared
use Rattle.screen.specs.Depths.{Depths}
use Rattle.screen.specs.Tables.{ScreenLent}
use Rattle.paint.specs.Painting as paint
use Rattle.paint.specs.Painting.{StepOut, out, refused, left, settled, painted-row}
use Rattle.paint.proofs.Spreading.{length-pieces}
use Rattle.paint.specs.Stepping.{Attributes, attributes, number, row_step, stepped}
use Rattle.paint.specs.Running.{goes_on, ended, one_more, run, most, standing, row-painted}
use Rattle.text.specs.Listed.{written, begun-with}
use Rattle.text.specs.Details as detail
use Rattle.text.specs.Bytes.{details-text}
use Rattle.text.specs.Pieces.{most-pieces, piece-list}
use Rattle.text.specs.Dumped.{with-text, row-most, row-dumped}
use Rattle.refine_steps.specs.Sound.{Fitting}
use Rattle.refine_paint.proofs.Painters.{all-taken}
use Rattle.rules_picture.proofs.Finishes.{work}
use Rattle.rules_picture.proofs.Few.{step-few, steps-few, row-few}
use Rattle.theorem_picture.specs.Standing.{canvas-words}
use Rattle.theorem_picture.specs.Rows.{row_out}
use Rattle.theorem_picture.proofs.Words.{paint-gives}
use Rattle.theorem_picture.proofs.Rows.{step, next, Holds, one_holds, row_number}
use Rattle.theorem_picture.proofs.RowEnds.{room-done, row-ended}
use Rattle.theorem_text.proofs.Lines.{row-text-few}
use Rattle.theorem_text.proofs.Attrs.{rows-parts}
pub use Rattle.theorem_text.specs.Waits.{Waits, Whole}
use Rattle.theorem_text.proofs.Rows.{many, row-gave, waiting-printed}

-- a list keeps its length, step by step
settled-long : (x : Option rules.Painted) (ms : List ℕ) (d : Depths) (p l : List ℕ) → length (settled x ms d p l).list ≡ length l
unfolding settled
settled-long None ms d p l = refl
settled-long (Some o) ms d p l = go (ltb (length l / piece-size) (length o.pieces)) refl
  where
    go : (b : Bool) → ltb (length l / piece-size) (length o.pieces) ≡ b → length (cond b (out (refused 14) d p l) (left o ms l)).list ≡ length l
    go true e = refl
    go false e = rw (length-append, length-drop, length-pieces o.pieces) (omega (arith, ltb-false (length l / piece-size) (length o.pieces) e))

step-long : (s : declared.Screen) (r : ℕ) (a : Attributes) (l : paint.RowLent) → length (stepped s r a l).list ≡ length l.list
unfolding stepped row_step painted-row
step-long s r a l = go (eqb (number s r a l) Done)
  where
    go : (b : Bool) → length (cond b (row_step s r a l) (out (refused (number s r a l)) l.depth l.painting l.list)).list ≡ length l.list
    go true = settled-long _ _ _ _ _
    go false = refl

module _ (i : ℕ) (l : ScreenLent) where
  one-long : (g : StepOut) → Holds i l g → length (one_more (step i l) g).list ≡ length g.list
  unfolding one_more
  one-long g h =
      let o = step-long l.screen i (attributes l.tables.paint-attrs l.tables.layer-attrs) (paint.words_lent l.tables.rows l.tables.render l.tables.fills g.depth g.painting (next i l g).list) in
      rw (length-append, length-take-le (piece-size * g.answer.pieces) g.list h, o, length-drop) (omega arith)

  run_long : (f k : ℕ) (g : StepOut) → Holds i l g → length (run (step i l) f k g).list ≡ length g.list
  unfolding run
  run_long zero k g h = refl
  run_long (suc f) k g h = go (goes_on (one_more (step i l) g).answer) (run_long f (k + 1) (one_more (step i l) g) (one_holds i l g h)) (one-long g h)
    where
      go : (b : Bool) → length (run (step i l) f (k + 1) (one_more (step i l) g)).list ≡ length (one_more (step i l) g).list → length (one_more (step i l) g).list ≡ length g.list
          → length (cond b (run (step i l) f (k + 1) (one_more (step i l) g)) (ended k (one_more (step i l) g))).list ≡ length g.list
      go true j e = j ∙ e
      go false j e = e

  -- `paint_row` keeps the length of its list
  pub row-long : (list : List ℕ) → length (row_out i list l).list ≡ length list
  unfolding row_out row-painted
  row-long list = run_long most 0 (standing l.tables.depth l.tables.painting list) (omega arith)

module _ {s : Screen Row} {r : ℕ} {m : ScreenLent} (h : Waits s r m) (few : length (get_or s.rows r fresh-row).commands ≤ 64)
    (narrow : buckets-across s.state.frame ≤ 64) (list : List ℕ) (long : piece-list ≤ length list) where
  abbrev k : Canvas
  k = h.canvas

  abbrev row : Row
  row = get_or k.screen.rows r fresh-row

  wide : length (painter-of k r).buckets ≤ 64
  wide = rw (h.fresh, h.screen, length-replicate {A = ℕ} (buckets-across s.state.frame) 0) narrow

  busy : length row.commands ≤ 64
  busy = rw h.screen few

  -- each of its depth fills has an id that a draw took
  taken : All (λ (f : DepthFill). 1 ≤ paint-id k.screen.state.attrs f.attribute) row.fills
  taken = all-taken k.screen.state.attrs (buckets-across k.screen.state.frame) row (h.whole.fair r)

  ended-there : (row_out r list (canvas-words k)).answer.finished ≡ true
  ended-there =
      row-ended k h.whole h.goes_on r h.there list
      (omega (arith, steps-few (bucket-on k) k.screen.state.attrs (work k r) row (painter-of k r) wide taken, wide, busy, long))

  started-there : (row_out r list (canvas-words k)).answer.number ≡ 0
  started-there =
      row_number r (canvas-words k) list ∙ ap (λ (o : StepOut). o.answer.number) (paint-gives k h.whole r list)
      ∙ room-done k r (length list / piece-size) h.there h.goes_on (omega (arith, (step-few (bucket-on k) k.screen.state.attrs row (painter-of k r) wide).pieces, long))

  few-there : (row_out r list (canvas-words k)).answer.pieces ≤ most-pieces
  few-there =
      let o = row_out r list (canvas-words k) in
      let e = ap (λ (ps : List Piece). length ps) (row-gave k h.whole r h.there h.fresh list ended-there) in
      let n : buckets-across k.screen.state.frame ≤ 64 = rw h.screen narrow in
      omega (arith, many o.answer.pieces o.list, e, row-few (bucket-on k) k.screen.state.attrs (buckets-across k.screen.state.frame) row n taken, n, busy)

  pub row-whole : Whole (row_out r list m)
  row-whole = rw h.same (record { number = started-there; finished = ended-there; pieces = few-there })

  -- the rules' text of the row
  abbrev pub theirs-text : Bool → List ℕ
  theirs-text v = details-text v (detail.painted-row r (paint-row (bucket s.state.frame) s.state.attrs (buckets-across s.state.frame) (get_or s.rows r fresh-row)))

  -- `row_text` writes it wherever it fits
  pub row_written : (v : Bool) (bs : List ℕ) → length (theirs-text v) ≤ length bs
      → row-dumped v m.screen r (attributes m.tables.paint-attrs m.tables.layer-attrs)
      (paint.words_lent m.tables.rows m.tables.render m.tables.fills m.tables.depth m.tables.painting list)
      bs
      ≡ with-text (row_out r list m) (begun-with (theirs-text v) bs)
  unfolding written
  row_written v bs fits =
      waiting-printed v h list bs row-whole.number row-whole.finished (omega (arith, row-whole.pieces))
      ∙ rw (le-ltb (length bs) (length (theirs-text v)) fits)

-- What a file's screen prints of its rows has its most of each row.
pub rows-text-few : (v : Bool) (w : ℕ) (a : Attrs) (n i : ℕ) (rs : List Row) → n ≤ 64 → ((j : ℕ) → Fitting 64 64 (get_or rs j fresh-row))
    → ((j : ℕ) → All (λ (f : DepthFill). 1 ≤ paint-id a f.attribute) (get_or rs j fresh-row).fills) → length (details-text v (detail.painted-lines w a n i rs)) ≤ length rs * row-most
unfolding detail.painted-lines
rows-text-few v w a n i [] h f g = omega arith
rows-text-few v w a n i (r ∷ rs) h f g =
    let t = ap (λ (ts : List ℕ). length ts) (rows-parts v w a n i r rs) ∙ length-append (details-text v (detail.painted-row i (paint-row w a n r))) (details-text v (detail.painted-lines w a n (suc i) rs)) in
    omega (arith, t, row-text-few v i (paint-row w a n r), row-few w a n r h (g 0), (f 0).commands, rows-text-few v w a n (suc i) rs h (λ j. f (suc j)) (λ j. g (suc j)))
