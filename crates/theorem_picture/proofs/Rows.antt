-- A row painted by one call is painting steps of it, one after the other; so the picture speaks of such calls too. Assumes nothing.
use Rattle.std.proofs.Common.{◌≡◌, refl, sym, ap, ◌∙◌, Bool, true, false, ◌&&◌, ◌||◌, not, cond, List, [], ◌∷◌, ◌++◌, map, append-nil, append_assoc, Option, None, Some, ℕ, zero, suc, ◌+◌, ◌-◌, ◌*◌, ◌/◌}
use Rattle.std.proofs.Common.{◌≤◌, ◌<◌, zero-add, suc-add, arith, ltb, eqb, length, take, drop, length-append, length-drop, take-append-drop, length-take-le, take-add, eq-eqb, ne_eqb, eqb-true}
use Rattle.sizes.specs.Sizes.{piece-size}
use Rattle.rules.specs.Lists.{every}
use Rattle.rules.specs.Answers.{Answer, Done}
use Rattle.rules.specs.Plans.{Frame, Step}
use Rattle.rules.specs.Painting as rules
use Rattle.rules.specs.Painting.{Piece, received}
use Rattle.rules.specs.Calls.{begin-call}
use Rattle.screen.specs.declared.Screen.{Screen}
use Rattle.screen.specs.Depths.{Depths}
use Rattle.screen.specs.Tables.{ScreenLent}
use Rattle.paint.specs.Painting as paint
use Rattle.paint.specs.Painting.{StepOut, out, refused, left, settled, painted-row}
use Rattle.paint.proofs.Spreading.{length-pieces}
use Rattle.paint.specs.Stepping.{Attributes, attributes, number, row_step, stepped}
use Rattle.paint.specs.Running.{goes_on, ended, one_more, run, most, standing, call_step, row-painted}
use Rattle.paint.proofs.WholeRuns.{stops, more}
use Rattle.refine_paint.proofs.Whole.{begin-whole}
use Rattle.rules_picture.specs.Turns.{Gave, from, said-finished, turns}
use Rattle.rules.proofs.All.{and_left, and_right}
use Rattle.rules_picture.proofs.Cases.{by}
use Rattle.rules_picture.proofs.Turns.{painted-screen}
use Rattle.theorem_picture.specs.Reached.{ReachedBy, by-paint, with-canvas, begin-at, paint-out, paint-at}
use Rattle.theorem_picture.specs.Standing.{canvas-words, StandsBy}
use Rattle.theorem_picture.specs.Turns.{Turn, turn-of, piece-in, pieces-in, gave-out, turned, log}
use Rattle.theorem_picture.specs.Picture.{finished}
use Rattle.theorem_picture.specs.Rows.{row_out, row_at, RowTurns, CallTurns, Call, one-step, whole_row, called, call-log, PictureByRows}
use Rattle.theorem_picture.proofs.Pieces.{pieces-first}
use Rattle.theorem_picture.proofs.Answers.{begin-answer}
use Rattle.theorem_picture.proofs.Turns.{turned-words, turns-whole}
use Rattle.theorem_picture.proofs.Picture.{picture}

-- pieces that stand after n others
pub pieces-split : (n m : ℕ) (xs ys : List ℕ) → piece-size * n ≤ length xs → pieces-in (n + m) (take (piece-size * n) xs ++ ys) ≡ pieces-in n xs ++ pieces-in m ys
unfolding pieces-in
pieces-split zero m xs ys h = rw (zero-add m)
pieces-split (suc n) m xs ys h =
    let own = take piece-size xs in
    let later = drop piece-size xs in
    let long : length own ≡ piece-size = length-take-le piece-size xs (omega arith) in
    let next : piece-size * suc n ≡ piece-size + piece-size * n = omega arith in
    let front : take (piece-size * suc n) xs ++ ys ≡ own ++ (take (piece-size * n) later ++ ys) = rw (next, take-add piece-size (piece-size * n) xs, append_assoc) in
    let fits : piece-size * n ≤ length later = rw (length-drop piece-size xs) (omega arith) in
    ap (λ (k : ℕ). pieces-in k (take (piece-size * suc n) xs ++ ys)) (suc-add n m)
    ∙ ap (pieces-in (suc (n + m))) front
    ∙ pieces-first own (take (piece-size * n) later ++ ys) (n + m) long
    ∙ ap (λ (ps : List Piece). piece-in own ∷ ps) (pieces-split n m later ys fits)
    ∙ ap (λ (ps : List Piece). ps ++ pieces-in m ys) (sym (pieces-first own later n long) ∙ ap (pieces-in (suc n)) (take-append-drop piece-size xs))

-- a step's list holds its pieces
settled-holds : (x : Option rules.Painted) (ms : List ℕ) (d : Depths) (p l : List ℕ) → piece-size * (settled x ms d p l).answer.pieces ≤ length (settled x ms d p l).list
unfolding settled
settled-holds None ms d p l = omega arith
settled-holds (Some o) ms d p l = go (ltb (length l / piece-size) (length o.pieces))
  where
    go : (b : Bool) → piece-size * (cond b (out (refused 14) d p l) (left o ms l)).answer.pieces ≤ length (cond b (out (refused 14) d p l) (left o ms l)).list
    go true = omega arith
    go false = rw (length-append, length-pieces o.pieces) (omega arith)

step-holds : (s : Screen) (r : ℕ) (a : Attributes) (l : paint.RowLent) → piece-size * (stepped s r a l).answer.pieces ≤ length (stepped s r a l).list
unfolding stepped row_step painted-row
step-holds s r a l = go (eqb (number s r a l) Done)
  where
    go : (b : Bool)
        → piece-size * (cond b (row_step s r a l) (out (refused (number s r a l)) l.depth l.painting l.list)).answer.pieces
        ≤ length (cond b (row_step s r a l) (out (refused (number s r a l)) l.depth l.painting l.list)).list
    go true = settled-holds _ _ _ _ _
    go false = omega arith

not_yes : (b : Bool) → not b ≡ true → b ≡ false
not_yes true e = sym e
not_yes false e = refl

or_no : (b : Bool) → (b || false) ≡ b
or_no true = refl
or_no false = refl

-- the calls of row i at the words l, one after the other
module _ (i : ℕ) (l : ScreenLent) where
  abbrev pub step : Depths → List ℕ → List ℕ → StepOut
  step = call_step l.screen i (attributes l.tables.paint-attrs l.tables.layer-attrs) l.tables.rows l.tables.render l.tables.fills

  -- the words where the row's painting stands at g
  abbrev pub at : StepOut → ScreenLent
  at g = with-canvas l l.screen g.depth g.painting

  -- the next step, on what is left of the list
  abbrev pub next : StepOut → Turn
  next g = record { row = i; list = drop (piece-size * g.answer.pieces) g.list }

  -- the list holds the pieces so far
  abbrev pub Holds : StepOut → Type 0
  Holds g = piece-size * g.answer.pieces ≤ length g.list

  pub one-words : (g : StepOut) → paint-at i (next g).list (at g) ≡ at (one_more step g)
  unfolding one_more paint-out
  one-words g = refl

  pub one_holds : (g : StepOut) → Holds g → Holds (one_more step g)
  unfolding one_more
  one_holds g h =
      let o = step-holds l.screen i (attributes l.tables.paint-attrs l.tables.layer-attrs) (paint.words_lent l.tables.rows l.tables.render l.tables.fills g.depth g.painting (next g).list) in
      rw (length-append, length-take-le (piece-size * g.answer.pieces) g.list h) (omega (arith, o))

  one-pieces : (g : StepOut) → Holds g
      → pieces-in (one_more step g).answer.pieces (one_more step g).list
      ≡ pieces-in g.answer.pieces g.list ++ (gave-out i (paint-out i (next g).list (at g))).pieces
  unfolding one_more paint-out
  one-pieces g h = pieces-split g.answer.pieces _ g.list _ h

  one-said : (g : StepOut) → (gave-out i (paint-out i (next g).list (at g))).finished ≡ (one_more step g).answer.finished
  unfolding one_more paint-out
  one-said g = refl

  -- steps that lead from g to o
  record Leads (g o : StepOut) : Type 0 where
    turns : List Turn
    own : every (λ (t : Turn). eqb t.row i) turns ≡ true
    words : turned turns (at g) ≡ at o
    pieces : pieces-in o.answer.pieces o.list ≡ pieces-in g.answer.pieces g.list ++ from i (log turns (at g))
    said : said-finished i (log turns (at g)) ≡ o.answer.finished

  none_yet : (g : StepOut) → g.answer.finished ≡ false → Leads g g
  none_yet g e =
      record {
        turns = [];
        own = refl;
        words = unfold turned in refl;
        pieces = unfold from log in sym (append-nil _);
        said = unfold said-finished log in sym e;
      }

  -- one more before them
  first : (g o : StepOut) → Holds g → (one_more step g).answer.finished ≡ false → Leads (one_more step g) o → Leads g o
  unfolding turned log from said-finished
  first g o h e z =
      record {
        turns = next g ∷ z.turns;
        own = rw (eq-eqb i i refl) z.own;
        words = ap (turned z.turns) (one-words g) ∙ z.words;
        pieces = z.pieces ∙ rw (one-pieces g h, one-words g, eq-eqb i i refl) (append_assoc (pieces-in g.answer.pieces g.list) (gave-out i (paint-out i (next g).list (at g))).pieces (from i (log z.turns (at (one_more step g)))));
        said = rw (one-words g, eq-eqb i i refl, one-said g, e) z.said;
      }

  -- the last one
  last : (g : StepOut) (k : ℕ) → Holds g → Leads g (ended k (one_more step g))
  unfolding turned log from said-finished
  last g k h =
      record {
        turns = next g ∷ [];
        own = rw (eq-eqb i i refl);
        words = one-words g;
        pieces = one-pieces g h ∙ rw (eq-eqb i i refl, append-nil);
        said = rw (eq-eqb i i refl, one-said g) (or_no _);
      }

  run-leads : (f k : ℕ) (g : StepOut) → Holds g → g.answer.finished ≡ false → Leads g (run step f k g)
  unfolding run
  run-leads zero k g h e = none_yet g e
  run-leads (suc f) k g h e = go (goes_on (one_more step g).answer) refl (run-leads f (k + 1) (one_more step g) (one_holds g h))
    where
      go : (b : Bool) → goes_on (one_more step g).answer ≡ b
          → ((one_more step g).answer.finished ≡ false → Leads (one_more step g) (run step f (k + 1) (one_more step g)))
          → Leads g (cond b (run step f (k + 1) (one_more step g)) (ended k (one_more step g)))
      go true y rest =
          let n = not_yes _ (and_right (eqb (one_more step g).answer.number Done) _ y) in
          first g _ h n (rest n)
      go false y rest = last g k h

  -- A call of `paint_row` is painting steps of its row, at any words.
  pub row-turns : (list : List ℕ) → RowTurns i list l
  unfolding row_out row-painted pieces-in
  row-turns list =
      let z = run-leads most 0 (standing l.tables.depth l.tables.painting list) (omega arith) refl in
      record { turns = z.turns; own = z.own; words = z.words; pieces = sym z.pieces; said = z.said }

  -- a refusal after the first step is none of the call
  later-done : (f k : ℕ) (g : StepOut) → 0 < k → g.answer.number ≡ Done → (run step f k g).answer.number ≡ Done
  unfolding run
  later-done zero k g h e = e
  later-done (suc f) k g h e = go (goes_on (one_more step g).answer) refl (later-done f (k + 1) (one_more step g) (omega arith))
    where
      go : (b : Bool) → goes_on (one_more step g).answer ≡ b
          → ((one_more step g).answer.number ≡ Done → (run step f (k + 1) (one_more step g)).answer.number ≡ Done)
          → (cond b (run step f (k + 1) (one_more step g)) (ended k (one_more step g))).answer.number ≡ Done
      go true y rest = rest (eqb-true _ Done (and_left _ _ y))
      go false y rest = rw (ne_eqb k 0 (λ z. omega arith))

  -- It has the number that one step has: it is refused exactly where that step is.
  pub row_number : (list : List ℕ) → (row_out i list l).answer.number ≡ (paint-out i list l).answer.number
  unfolding row_out row-painted
  row_number list =
      let g = standing l.tables.depth l.tables.painting list in
      let same : (one_more step g).answer.number ≡ (paint-out i list l).answer.number = unfold one_more paint-out in refl in
      by (goes_on (one_more step g).answer)
      (λ y.
      let d : (one_more step g).answer.number ≡ Done = eqb-true _ Done (and_left _ _ y) in
      ap (λ (o : StepOut). o.answer.number) (more step most 0 g (omega arith) y) ∙ later-done (most - 1) (0 + 1) (one_more step g) (omega arith) d ∙ sym d ∙ same)
      (λ n. ap (λ (o : StepOut). o.answer.number) (stops step most 0 g (omega arith) n) ∙ same)

-- Schedules one after the other.
turned-append : (ts us : List Turn) (l : ScreenLent) → turned (ts ++ us) l ≡ turned us (turned ts l)
unfolding turned
turned-append [] us l = refl
turned-append (t ∷ ts) us l = turned-append ts us _

log-append : (ts us : List Turn) (l : ScreenLent) → log (ts ++ us) l ≡ log ts l ++ log us (turned ts l)
unfolding turned log
log-append [] us l = refl
log-append (t ∷ ts) us l = rw (log-append ts us (paint-at t.row t.list l))

from-append : (r : ℕ) (gs hs : List Gave) → from r (gs ++ hs) ≡ from r gs ++ from r hs
unfolding from
from-append r [] hs = refl
from-append r (g ∷ gs) hs = rw (from-append r gs hs) (sym (append_assoc (cond (eqb g.row r) g.pieces []) _ _))

or_assoc : (a b c : Bool) → (a || (b || c)) ≡ (a || b || c)
or_assoc true b c = refl
or_assoc false b c = refl

said-append : (r : ℕ) (gs hs : List Gave) → said-finished r (gs ++ hs) ≡ (said-finished r gs || said-finished r hs)
unfolding said-finished
said-append r [] hs = refl
said-append r (g ∷ gs) hs =
    ap (λ (b : Bool). (eqb g.row r && g.finished) || b) (said-append r gs hs) ∙ or_assoc (eqb g.row r && g.finished) _ _

-- steps of row i give nothing to another row
module _ (i r : ℕ) (d : eqb i r ≡ false) where
  other_row : (t : Turn) → eqb t.row i ≡ true → eqb t.row r ≡ false
  other_row t e = ap (λ (j : ℕ). eqb j r) (eqb-true t.row i e) ∙ d

  other_from : (ts : List Turn) (l : ScreenLent) → every (λ (t : Turn). eqb t.row i) ts ≡ true → from r (log ts l) ≡ []
  unfolding from log
  other_from [] l e = refl
  other_from (t ∷ ts) l e = rw (other_row t (and_left _ _ e), other_from ts (paint-at t.row t.list l) (and_right (eqb t.row i) _ e))

  other-said : (ts : List Turn) (l : ScreenLent) → every (λ (t : Turn). eqb t.row i) ts ≡ true → said-finished r (log ts l) ≡ false
  unfolding said-finished log
  other-said [] l e = refl
  other-said (t ∷ ts) l e = rw (other_row t (and_left _ _ e)) (other-said ts (paint-at t.row t.list l) (and_right (eqb t.row i) _ e))

-- what the steps of a row's call give to any row
module _ (i : ℕ) (list : List ℕ) (l : ScreenLent) (z : RowTurns i list l) (r : ℕ) where
  row_from : from r (log z.turns l) ≡ cond (eqb i r) (pieces-in (row_out i list l).answer.pieces (row_out i list l).list) []
  row_from =
      by (eqb i r)
      (λ y. rw y (ap (λ (j : ℕ). from j (log z.turns l)) (sym (eqb-true i r y)) ∙ z.pieces))
      (λ n. rw n (other_from i r n z.turns l z.own))

  row-said : said-finished r (log z.turns l) ≡ (eqb i r && (row_out i list l).answer.finished)
  row-said =
      by (eqb i r)
      (λ y. rw y (ap (λ (j : ℕ). said-finished j (log z.turns l)) (sym (eqb-true i r y)) ∙ z.said))
      (λ n. rw n (other-said i r n z.turns l z.own))

-- one call before a mixture
module _ (t : Turn) (cs : List Call) (l : ScreenLent) where
  step-first : CallTurns cs (paint-at t.row t.list l) → CallTurns (one-step t ∷ cs) l
  unfolding turned log from said-finished called call-log
  step-first z =
      record {
        turns = t ∷ z.turns;
        words = z.words;
        pieces = λ r. rw (z.pieces r);
        said = λ r. ap (λ (b : Bool). (eqb t.row r && (paint-out t.row t.list l).answer.finished) || b) (z.said r);
      }

  row_first : RowTurns t.row t.list l → CallTurns cs (row_at t.row t.list l) → CallTurns (whole_row t ∷ cs) l
  unfolding from said-finished called call-log
  row_first y z =
      record {
        turns = y.turns ++ z.turns;
        words = turned-append y.turns z.turns l ∙ ap (turned z.turns) y.words ∙ z.words;
        pieces = λ r.
            ap (from r) (log-append y.turns z.turns l) ∙ from-append r (log y.turns l) _
            ∙ rw (y.words, row_from t.row t.list l y r, z.pieces r);
        said = λ r.
            ap (said-finished r) (log-append y.turns z.turns l) ∙ said-append r (log y.turns l) _
            ∙ rw (y.words, row-said t.row t.list l y r)
            (ap (λ (b : Bool). (eqb t.row r && (row_out t.row t.list l).answer.finished) || b) (z.said r));
      }

-- A mixture of calls is painting steps alone.
pub calls-turns : (cs : List Call) (l : ScreenLent) → CallTurns cs l
calls-turns [] l = record { turns = []; words = unfold turned called in refl; pieces = λ r. unfold log call-log in refl; said = λ r. unfold log call-log in refl }
calls-turns (one-step t ∷ cs) l = step-first t cs l (calls-turns cs (paint-at t.row t.list l))
calls-turns (whole_row t ∷ cs) l = row_first t cs l (row-turns t.row l t.list) (calls-turns cs (row_at t.row t.list l))

pub rows-picture : PictureByRows
rows-picture f xs l h e cs r t there on fin =
    let z = calls-turns cs (begin-at l).value in
    let y : finished r z.turns (begin-at l).value ≡ true = rw (z.said r, z.words) fin in
    ap (received t) (sym (z.pieces r)) ∙ picture f xs l h e z.turns r t there on y

-- Words from which painting steps are called stay reached, ..
turned-reached : {c : Bool} {f : Frame} {xs : List Step} (ts : List Turn) {l : ScreenLent} → ReachedBy c f xs l → ReachedBy c f xs (turned ts l)
unfolding turned
turned-reached [] h = h
turned-reached (t ∷ ts) h = turned-reached ts (by-paint t.row t.list h)

-- .. and so they do by a row's call: `Reached` needs no case for it
pub row-reached : {c : Bool} {f : Frame} {xs : List Step} {l : ScreenLent} (i : ℕ) (list : List ℕ) → ReachedBy c f xs l → ReachedBy c f xs (row_at i list l)
row-reached {l = l} i list h = let z = row-turns i l list in rw (← z.words) (turned-reached z.turns h)

-- Painting changes no screen: after painting is begun at words of a canvas, and any calls, stands a canvas with the same screen.
pub called-stands : {c : Bool} {f : Frame} {xs : List Step} {l : ScreenLent} (s : StandsBy c f xs l) → (begin-at l).number ≡ Done → (cs : List Call)
    → (t : StandsBy c f xs (called cs (begin-at l).value)) × (t.canvas.screen ≡ s.canvas.screen)
called-stands {l = l} s e cs =
    let k = s.canvas in
    let q = begin-answer s in
    let d : (begin-call k).number ≡ Done = sym (ap (λ (a : Answer ScreenLent). a.number) q) ∙ e in
    let v : (begin-at l).value ≡ canvas-words (begin-call k).value = ap (λ (a : Answer ScreenLent). a.value) q in
    let b = (begin-call k).value in
    let w = begin-whole k s.whole in
    let z = calls-turns cs (canvas-words b) in
    let ts = map turn-of z.turns in
    let p = painted-screen ts k d in (
      record {
        canvas = (turns ts b).canvas;
        whole = turns-whole ts b w;
        built = rw p s.built;
        same = ap (called cs) v ∙ sym z.words ∙ turned-words z.turns b w;
      },
      p,
    )
