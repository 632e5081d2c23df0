-- What `row_text` writes of a row at the words of a canvas is the rules' text of the row, painted alone from its first step. Assumes nothing.
use Rattle.std.proofs.Common.{◌≡◌, refl, sym, ap, ◌∙◌, Bool, true, false, cond, List, [], ◌∷◌, ◌++◌, map, ℕ, zero, suc, ◌+◌, ◌-◌, ◌*◌, ◌/◌, ◌≤◌, ◌<◌, arith, leb, eqb, length, get_or, drop, drop-drop}
use Rattle.std.proofs.Common.{le-leb, leb-true, leb-false, le-ltb, eq-eqb, eqb-true}
use borrow.Author.Tests.{lt-leb}
use Rattle.sizes.specs.Sizes.{piece-size}
use Rattle.rules.specs.Lists.{every}
use Rattle.rules.specs.Answers.{Answer, Done}
use Rattle.rules.specs.Boxes.{rows_of}
use Rattle.rules.specs.Plans.{Frame, bucket, buckets-across, Step}
use Rattle.rules.specs.Steps.{Screen}
use Rattle.rules.specs.Rows.{Row, fresh-row}
use Rattle.rules.specs.Painting.{Piece, Painted, begin, paint-steps, paint-row}
use Rattle.rules.specs.Calls.{Canvas, bucket-on, painter-of, begin-call, paint-call}
use Rattle.text.specs.Details.{piece-line, painted-row}
use Rattle.screen.specs.Tables.{ScreenLent}
use Rattle.paint.specs.Painting as paint
use Rattle.paint.specs.Stepping.{attributes}
use Rattle.text.specs.Places.{joined}
use Rattle.text.specs.Listed.{written}
use Rattle.text.specs.Bytes.{details-text}
use Rattle.text.specs.Pieces.{word, piece-at, row-lines}
use Rattle.text.specs.Dumped.{with-text, pieces-written, row-dumped}
use Rattle.refine_paint.specs.Canvases.{WholeCanvas}
use Rattle.rules_picture.specs.Turns.{Gave, from, steps_of, said-finished, turns, has-finished}
use Rattle.refine_paint.proofs.Whole.{begin-whole}
use Rattle.rules.proofs.All.{and_left, and_right}
use Rattle.rules_picture.proofs.Turns.{all-given, by-turns, said-so, next-at, turns-screen, turns-paints, call-other, begun-is, begun-paints, begun-painter}
use Rattle.rules_picture.proofs.CompactedFollows.{kept-on}
use Rattle.theorem_picture.specs.Reached.{begin-at}
use Rattle.theorem_picture.specs.Standing.{canvas-words, Stands}
use Rattle.theorem_picture.specs.Turns.{Turn, turn-of, piece-in, pieces-in, turned}
use Rattle.theorem_picture.specs.Rows.{row_out, row_at}
use Rattle.theorem_picture.proofs.Words.{begin-words}
use Rattle.theorem_picture.proofs.Turns.{log-words, turned-words, turns-whole}
use Rattle.theorem_picture.proofs.Rows.{row-turns}
pub use Rattle.theorem_text.specs.Waits.{Waits}

-- a tag is a paint's or a layer's
either : {A : Type 0} (t : ℕ) (x y : A) → cond (leb t 2) x y ≡ cond (leb 3 t) y x
either t x y = go (leb t 2) refl
  where
    go : (b : Bool) → leb t 2 ≡ b → cond b x y ≡ cond (leb 3 t) y x
    go true e = rw (lt-leb 3 t (omega (arith, leb-true t 2 e)))
    go false e = rw (le-leb 3 t (omega (arith, leb-false t 2 e)))

-- the line of a piece's words is the line of the piece that they say
piece-same : (ws : List ℕ) (k : ℕ) → piece-at ws k ≡ piece-line (piece-in (drop (piece-size * k) ws))
unfolding piece-at
piece-same ws k = either (word (drop (piece-size * k) ws) 0) _ _

-- the pieces in a list, the last apart
last-piece : (n : ℕ) (ws : List ℕ) → pieces-in (suc n) ws ≡ pieces-in n ws ++ (piece-in (drop (piece-size * n) ws) ∷ [])
unfolding pieces-in
last-piece zero ws = refl
last-piece (suc n) ws =
    let e : piece-size + piece-size * n ≡ piece-size * suc n = omega arith in
    ap (λ (ps : List Piece). piece-in ws ∷ ps) (last-piece n (drop piece-size ws)) ∙ rw (drop-drop (piece-size * n) piece-size ws, e)

pub many : (n : ℕ) (ws : List ℕ) → length (pieces-in n ws) ≡ n
unfolding pieces-in
many zero ws = refl
many (suc n) ws = ap suc (many n (drop piece-size ws))

map-two : {A B : Type 0} (f : A → B) (xs ys : List A) → map f (xs ++ ys) ≡ map f xs ++ map f ys
map-two f [] ys = refl
map-two f (x ∷ xs) ys = ap (λ l. f x ∷ l) (map-two f xs ys)

pieces-same : (n : ℕ) (ws : List ℕ) → joined (λ (k : ℕ). piece-at ws k ∷ []) n ≡ map piece-line (pieces-in n ws)
unfolding joined pieces-in
pieces-same zero ws = refl
pieces-same (suc n) ws =
    rw (pieces-same n ws, piece-same ws n) (sym (ap (map piece-line) (last-piece n ws) ∙ map-two piece-line (pieces-in n ws) (piece-in (drop (piece-size * n) ws) ∷ [])))

lines_same : (r n : ℕ) (ws : List ℕ) → row-lines r ws n ≡ painted-row r (pieces-in n ws)
unfolding row-lines
lines_same r n ws = rw (many n ws, pieces-same n ws)

sub-zero : (n : ℕ) → n - 0 ≡ n
sub-zero n = omega arith

module _ (k : Canvas) (w : WholeCanvas k) (r : ℕ) (there : r < length k.screen.rows) (fresh : painter-of k r ≡ begin (buckets-across k.screen.state.frame))
    (list : List ℕ) where
  abbrev l : ScreenLent
  l = canvas-words k

  abbrev o : paint.StepOut
  o = row_out r list l

  -- what the rules paint of the row
  abbrev pub theirs : List Piece
  theirs = paint-row (bucket-on k) k.screen.state.attrs (buckets-across k.screen.state.frame) (get_or k.screen.rows r fresh-row)

  -- a call of `paint_row` that says finished has listed the rules' pieces
  pub row-gave : o.answer.finished ≡ true → pieces-in o.answer.pieces o.list ≡ theirs
  unfolding has-finished paint-row
  row-gave f =
      let z = row-turns r l list in
      let ts = map turn-of z.turns in
      let t = turns ts k in
      let p = begin (buckets-across k.screen.state.frame) in
      let row = get_or k.screen.rows r fresh-row in
      let same = log-words z.turns k w in
      let in_place : r < length k.painters = rw w.count there in
      let a = by-turns ts k k.screen r p refl in_place fresh in
      let said = said-so ts k r in_place (sym (ap (λ (gs : List Gave). said-finished r gs) same) ∙ z.said ∙ f) in
      let fin = sym (ap (λ (x : Painted). x.finished) (next-at t.canvas k.screen r _ (turns-screen ts k) a.painter)) ∙ said in
      sym z.pieces ∙ ap (λ (gs : List Gave). from r gs) same ∙ a.pieces
      ∙ all-given (bucket-on k) k.screen.state.attrs (steps_of r t.log) row p fin
      ∙ ap (λ (n : ℕ). paint-steps (bucket-on k) k.screen.state.attrs n row p) (sub-zero (length row.fills + length row.commands))

  -- The text that `row_text` writes then is that of the rules' own lines.
  pub row-printed : (v : Bool) (bs : List ℕ) → o.answer.number ≡ 0 → o.answer.finished ≡ true → o.answer.pieces ≤ 65536
      → row-dumped v l.screen r (attributes l.tables.paint-attrs l.tables.layer-attrs)
      (paint.words_lent l.tables.rows l.tables.render l.tables.fills l.tables.depth l.tables.painting list)
      bs
      ≡ with-text o (written (details-text v (painted-row r theirs)) bs)
  unfolding row-dumped row_out pieces-written
  row-printed v bs z f h =
      let e : row-lines r o.list o.answer.pieces ≡ painted-row r theirs = lines_same r o.answer.pieces o.list ∙ ap (painted-row r) (row-gave f) in
      rw (eq-eqb o.answer.number 0 z, f, le-ltb 65536 o.answer.pieces h, e)

-- steps of another row leave it there
others : (i r : ℕ) → (i ≡ r → ⊥) → (ts : List Turn) → every (λ (t : Turn). eqb t.row i) ts ≡ true → (k : Canvas)
    → painter-of (turns (map turn-of ts) k).canvas r ≡ painter-of k r
unfolding turns
others i r d [] e k = refl
others i r d (t ∷ ts) e k =
    let g = paint-call t.row (length t.list / piece-size) k in
    let o : t.row ≡ r → ⊥ = λ q. d (sym (eqb-true t.row i (and_left _ _ e)) ∙ q) in
    others i r d ts (and_right (eqb t.row i) _ e) g.value.canvas ∙ call-other t.row (length t.list / piece-size) k r o

-- Once painting has begun at reached words, every row does, ..
pub stands-wait : {f : Frame} {xs : List Step} {l : ScreenLent} (s : Stands f xs l) → (begin-at l).number ≡ Done → (r : ℕ) → r < rows_of f.viewport
    → Waits s.canvas.screen r (begin-at l).value
stands-wait {f} {xs} {l} s e r there =
    let k = s.canvas in
    let words = ap begin-at s.same ∙ begin-words k s.whole in
    let d : (begin-call k).number ≡ Done = sym (ap (λ (a : Answer ScreenLent). a.number) words) ∙ e in
    let row = (kept-on f xs k.screen s.built r there).1 in
    let p : (begin-call k).value.screen ≡ k.screen = ap (λ (c : Canvas). c.screen) (begun-is k d) in
    record {
      canvas = (begin-call k).value;
      whole = begin-whole k s.whole;
      screen = p;
      goes_on = begun-paints k d;
      there = rw p row;
      fresh = begun-painter k r d row ∙ rw p;
      same = ap (λ (a : Answer ScreenLent). a.value) words;
    }

-- .. and still does after another row was painted: so `rowdump` prints of each row, in their order, the rules' text.
pub row-waits : {s : Screen Row} {r : ℕ} {m : ScreenLent} → Waits s r m → (i : ℕ) (list : List ℕ) → (i ≡ r → ⊥) → Waits s r (row_at i list m)
row-waits {s} {r} {m} h i list d =
    let z = row-turns i m list in
    let k = h.canvas in
    let ts = map turn-of z.turns in
    let p = turns-screen ts k in
    record {
      canvas = (turns ts k).canvas;
      whole = turns-whole ts k h.whole;
      screen = p ∙ h.screen;
      goes_on = turns-paints ts k ∙ h.goes_on;
      there = rw p h.there;
      fresh = others i r d z.turns z.own k ∙ h.fresh ∙ rw p;
      same = sym z.words ∙ ap (turned z.turns) h.same ∙ turned-words z.turns k h.whole;
    }

-- The text that `row_text` writes of a row that waits is that of the rules' own lines of the row.
pub waiting-printed : (v : Bool) {s : Screen Row} {r : ℕ} {m : ScreenLent} (h : Waits s r m) (list bs : List ℕ) → (row_out r list m).answer.number ≡ 0 → (row_out r list m).answer.finished ≡ true
    → (row_out r list m).answer.pieces ≤ 65536
    → row-dumped v m.screen r (attributes m.tables.paint-attrs m.tables.layer-attrs)
    (paint.words_lent m.tables.rows m.tables.render m.tables.fills m.tables.depth m.tables.painting list)
    bs
    ≡ with-text (row_out r list m)
    (written (details-text v (painted-row r (paint-row (bucket s.state.frame) s.state.attrs (buckets-across s.state.frame) (get_or s.rows r fresh-row)))) bs)
waiting-printed v {s} {r} {m} h list bs z f g =
    let q = h.same in
    rw (q, ← h.screen) (row-printed h.canvas h.whole r h.there h.fresh list v bs (rw q at z) (rw q at f) (rw q at g))
