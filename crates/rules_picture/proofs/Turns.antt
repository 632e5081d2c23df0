-- Rows painted by turns: each gives what it gives alone, and one that has finished gives nothing more.
use Rattle.std.proofs.Common.{ℕ, zero, suc, ◌+◌, ◌-◌, ◌≤◌, ◌<◌, arith, ◌≡◌, refl, sym, ◌∙◌, ap, Bool, true, false, ◌&&◌, not, cond, List, [], ◌∷◌, ◌++◌, length, get_or, length-set, get_or-set_same}
use Rattle.std.proofs.Common.{get_or-set_other, ltb, eqb, ltb-true, ltb-false, le-ltb, eqb-true}
use native.Mathlib.Nat.{sub-zero}
use lib.ListN.{length-replicate, get_or-replicate}
use borrow.Author.Tests.{eqb-false}
use Rattle.rules.specs.Lists.{is-empty}
use Rattle.rules.specs.Answers.{first_of, Done, BadRun, Open, NoRoom}
use Rattle.rules.specs.Commands.{Command, paint-fill, layer-fill, push-buf, pop-buf}
use Rattle.rules.specs.Attributes.{Attrs}
use Rattle.rules.specs.Rows.{Row, fresh-row}
use Rattle.rules.specs.Plans.{bucket, buckets-across}
use Rattle.rules.specs.Steps.{Screen}
use Rattle.rules.specs.Painting.{Piece, Painter, Painted, begin, paint-depth, paint-fill-runs, paint-command, paint-when, paint-step, paint-steps, paint-row}
use Rattle.rules.specs.Calls.{paints-on, Canvas, bucket-on, blank, begin-call, painter-of, no_row, with-painter, Given, given, paint-call}
use Rattle.rules.proofs.All.{never, and_left, and_right}
use Rattle.rules.proofs.laws.Answers.{settle-number, settle-done, settle-kept}
use Rattle.rules_picture.specs.Turns.{Turn, Gave, Turned, gave, turns, from, steps_of, said-finished, next-step, has-finished}
use Rattle.rules_picture.proofs.Cases.{by}

-- One row alone.
module _ (w : ℕ) (attrs : Attrs) where
  command-counts : (c : Command) (p : Painter) → ((paint-command w attrs c p).finished ≡ false) × ((paint-command w attrs c p).painter.steps ≡ p.steps + 1)
  unfolding paint-command paint-fill-runs
  command-counts (paint-fill s a i) p = (refl, refl)
  command-counts (layer-fill s a i) p = (refl, refl)
  command-counts (push-buf s) p = (refl, refl)
  command-counts pop-buf p = (refl, refl)

  module _ (r : Row) (p : Painter) where
    when-counts : (a b : Bool) → (paint-when w attrs a b r p).finished ≡ false → (paint-when w attrs a b r p).painter.steps ≡ p.steps + 1
    unfolding paint-when paint-depth
    when-counts true b e = refl
    when-counts false true e = (command-counts (get_or r.commands (p.steps - length r.fills) pop-buf) p).1
    when-counts false false e = never e

    when-ended : (a b : Bool) → (paint-when w attrs a b r p).finished ≡ true → (a ≡ false) × (b ≡ false)
    unfolding paint-when paint-depth
    when-ended true b e = never (sym e)
    when-ended false true e = never (sym e ∙ (command-counts (get_or r.commands (p.steps - length r.fills) pop-buf) p).0)
    when-ended false false e = (refl, refl)

    -- a step counts as one unless it says finished
    pub step_counts : (paint-step w attrs r p).finished ≡ false → (paint-step w attrs r p).painter.steps ≡ p.steps + 1
    unfolding paint-step
    step_counts e = when-counts _ _ e

    -- a step that says finished gives no piece and leaves the painter where it stands
    pub step-ended : (paint-step w attrs r p).finished ≡ true → paint-step w attrs r p ≡ record { finished = true; pieces = []; painter = p }
    unfolding paint-step paint-when
    step-ended e =
        let (a, b) = when-ended (ltb p.steps (length r.fills)) (ltb (p.steps - length r.fills) (length r.commands)) e in
        rw (a, b)

    -- it says so exactly when as many steps are done as the row has depth fills and commands
    pub ended-late : (paint-step w attrs r p).finished ≡ true → length r.fills + length r.commands ≤ p.steps
    unfolding paint-step
    ended-late e =
        let (a, b) = when-ended (ltb p.steps (length r.fills)) (ltb (p.steps - length r.fills) (length r.commands)) e in
        let c = ltb-false p.steps (length r.fills) a in
        let d = ltb-false (p.steps - length r.fills) (length r.commands) b in
        omega arith

    pub late-ended : length r.fills + length r.commands ≤ p.steps → (paint-step w attrs r p).finished ≡ true
    unfolding paint-step paint-when
    late-ended h =
        let a : ltb p.steps (length r.fills) ≡ false = le-ltb p.steps (length r.fills) (omega arith) in
        let b : ltb (p.steps - length r.fills) (length r.commands) ≡ false = le-ltb (p.steps - length r.fills) (length r.commands) (omega arith) in
        rw (a, b)

    pub not-ended : (paint-step w attrs r p).finished ≡ false → p.steps < length r.fills + length r.commands
    not-ended e = by (ltb p.steps (length r.fills + length r.commands))
        (λ y. ltb-true p.steps (length r.fills + length r.commands) y)
        (λ n. never (sym (late-ended (ltb-false p.steps (length r.fills + length r.commands) n)) ∙ e))

  -- the painter k steps on
  unfoldable pub painter-on : ℕ → Row → Painter → Painter
  painter-on zero r p = p
  painter-on (suc k) r p = painter-on k r (paint-step w attrs r p).painter

  -- steps after the end give nothing and change nothing
  pub idle : (k : ℕ) (r : Row) (p : Painter) → (paint-step w attrs r p).finished ≡ true → (paint-steps w attrs k r p ≡ []) × (painter-on k r p ≡ p)
  unfolding paint-steps painter-on
  idle zero r p e = (refl, refl)
  idle (suc k) r p e = rw (step-ended r p e) (idle k r p e)

  -- a row that has finished after k steps has given what it gives in as many steps as it had left
  pub all-given : (k : ℕ) (r : Row) (p : Painter) → (paint-step w attrs r (painter-on k r p)).finished ≡ true
      → paint-steps w attrs k r p ≡ paint-steps w attrs (length r.fills + length r.commands - p.steps) r p
  unfolding paint-steps painter-on
  all-given zero r p e =
      let h = ended-late r p e in
      let z : length r.fills + length r.commands - p.steps ≡ 0 = omega arith in
      rw z
  all-given (suc k) r p e = by (paint-step w attrs r p).finished
      (λ y.
      let h = ended-late r p y in
      let z : length r.fills + length r.commands - p.steps ≡ 0 = omega arith in
      (idle (suc k) r p y).0 ∙ rw z)
      (λ n.
      let h = not-ended r p n in
      let q = (paint-step w attrs r p).painter in
      let c = step_counts r p n in
      let z : length r.fills + length r.commands - p.steps ≡ suc (length r.fills + length r.commands - q.steps) = omega arith in
      rw z (ap (λ (ps : List Piece). (paint-step w attrs r p).pieces ++ ps) (all-given k r q e)))

  -- and after that many steps it has finished
  pub ends : (k : ℕ) (r : Row) (p : Painter) → length r.fills + length r.commands ≤ p.steps + k → (paint-step w attrs r (painter-on k r p)).finished ≡ true
  unfolding painter-on
  ends zero r p h = late-ended r p (omega arith)
  ends (suc k) r p h = by (paint-step w attrs r p).finished
      (λ y. rw (step-ended r p y, (idle k r p y).1) y)
      (λ n. let c = step_counts r p n in ends k r (paint-step w attrs r p).painter (omega arith))

-- One call.
module _ (i n : ℕ) (k : Canvas) where
  -- its number, what it gives refused, and what done
  abbrev number_of : ℕ
  number_of = first_of ((no_row k i, BadRun) ∷ (not (paints-on k), Open) ∷ (ltb n (length (next-step k i).pieces), NoRoom) ∷ [])

  abbrev kept : Given Painted
  kept = given (record { finished = false; pieces = []; painter = painter-of k i }) k

  abbrev stepped : Given Painted
  stepped = given (next-step k i) (with-painter k k.begun i (next-step k i).painter)

  -- a refused call gives nothing and leaves the canvas as it was
  pub call-refused : eqb (paint-call i n k).number Done ≡ false
      → ((paint-call i n k).value.canvas ≡ k) × ((paint-call i n k).value.result.pieces ≡ []) × ((paint-call i n k).value.result.finished ≡ false)
  unfolding paint-call
  call-refused e =
      let g = settle-kept number_of kept stepped e in
      (ap (λ (x : Given Painted). x.canvas) g, ap (λ (x : Given Painted). x.result.pieces) g, ap (λ (x : Given Painted). x.result.finished) g)

  -- a done call gives the row's next step, and puts its painter in the place of row i's
  pub call-given : eqb (paint-call i n k).number Done ≡ true
      → ((paint-call i n k).value.result ≡ next-step k i) × ((paint-call i n k).value.canvas ≡ with-painter k k.begun i (next-step k i).painter)
  unfolding paint-call
  call-given e =
      let g = settle-done number_of kept stepped (sym (settle-number number_of kept stepped) ∙ eqb-true _ Done e) in
      (ap (λ (x : Given Painted). x.result) g, ap (λ (x : Given Painted). x.canvas) g)

  -- the screen stays, and so does what has begun
  pub call-screen : (paint-call i n k).value.canvas.screen ≡ k.screen
  call-screen = by (eqb (paint-call i n k).number Done)
      (λ y. ap (λ (c : Canvas). c.screen) (call-given y).1)
      (λ m. ap (λ (c : Canvas). c.screen) (call-refused m).0)

  pub call-begun : (paint-call i n k).value.canvas.begun ≡ k.begun
  call-begun = by (eqb (paint-call i n k).number Done)
      (λ y. ap (λ (c : Canvas). c.begun) (call-given y).1)
      (λ m. ap (λ (c : Canvas). c.begun) (call-refused m).0)

  pub call-count : length (paint-call i n k).value.canvas.painters ≡ length k.painters
  call-count = by (eqb (paint-call i n k).number Done)
      (λ y. ap (λ (c : Canvas). length c.painters) (call-given y).1 ∙ length-set k.painters i (next-step k i).painter)
      (λ m. ap (λ (c : Canvas). length c.painters) (call-refused m).0)

  -- the painter of any other row stays
  pub call-other : (r : ℕ) → (i ≡ r → ⊥) → painter-of (paint-call i n k).value.canvas r ≡ painter-of k r
  call-other r h = by (eqb (paint-call i n k).number Done)
      (λ y. ap (λ (c : Canvas). painter-of c r) (call-given y).1 ∙ get_or-set_other k.painters i r (next-step k i).painter (begin 0) (λ e. h (sym e)))
      (λ m. ap (λ (c : Canvas). painter-of c r) (call-refused m).0)

  pub call-own : i < length k.painters → eqb (paint-call i n k).number Done ≡ true
      → painter-of (paint-call i n k).value.canvas i ≡ (next-step k i).painter
  call-own h y = ap (λ (c : Canvas). painter-of c i) (call-given y).1 ∙ get_or-set_same k.painters i (next-step k i).painter (begin 0) h

-- Any schedule.
pub turns-screen : (ts : List Turn) (k : Canvas) → (turns ts k).canvas.screen ≡ k.screen
unfolding turns
turns-screen [] k = refl
turns-screen (t ∷ ts) k = turns-screen ts (paint-call t.row t.room k).value.canvas ∙ call-screen t.row t.room k

pub call-paints : (i n : ℕ) (k : Canvas) → paints-on (paint-call i n k).value.canvas ≡ paints-on k
call-paints i n k = rw (call-screen i n k, call-begun i n k)

pub turns-paints : (ts : List Turn) (k : Canvas) → paints-on (turns ts k).canvas ≡ paints-on k
unfolding turns
turns-paints [] k = refl
turns-paints (t ∷ ts) k = turns-paints ts (paint-call t.row t.room k).value.canvas ∙ call-paints t.row t.room k

pub turns-count : (ts : List Turn) (k : Canvas) → length (turns ts k).canvas.painters ≡ length k.painters
unfolding turns
turns-count [] k = refl
turns-count (t ∷ ts) k = turns-count ts (paint-call t.row t.room k).value.canvas ∙ call-count t.row t.room k

-- On the screen s, row r, whose painter was p, has given what it gives alone in as many steps as its done calls, and stands there.
pub record Alone (s : Screen Row) (r : ℕ) (p : Painter) (o : Turned) : Type 0 where
  pub pieces : from r o.log ≡ paint-steps (bucket s.state.frame) s.state.attrs (steps_of r o.log) (get_or s.rows r fresh-row) p
  pub painter : painter-of o.canvas r ≡ painter-on (bucket s.state.frame) s.state.attrs (steps_of r o.log) (get_or s.rows r fresh-row) p

-- a call of another row, or a refused one, before
other-first : (s : Screen Row) (r : ℕ) (p : Painter) (o : Turned) (g : Gave) → (eqb g.row r && eqb g.number Done) ≡ false
    → cond (eqb g.row r) g.pieces [] ≡ [] → Alone s r p o → Alone s r p (record { canvas = o.canvas; log = g ∷ o.log })
unfolding from steps_of
other-first s r p o g e z a = record { pieces = rw (e, z) a.pieces; painter = rw e a.painter }

-- a done call of the row before
own_first : (s : Screen Row) (r : ℕ) (p : Painter) (o : Turned) (g : Gave) → eqb g.row r ≡ true → eqb g.number Done ≡ true
    → g.pieces ≡ (paint-step (bucket s.state.frame) s.state.attrs (get_or s.rows r fresh-row) p).pieces
    → Alone s r (paint-step (bucket s.state.frame) s.state.attrs (get_or s.rows r fresh-row) p).painter o → Alone s r p (record { canvas = o.canvas; log = g ∷ o.log })
unfolding from steps_of paint-steps painter-on
own_first s r p o g y d z a = record { pieces = rw (y, d, z, a.pieces); painter = rw (y, d) a.painter }

pub next-at : (k : Canvas) (s : Screen Row) (r : ℕ) (p : Painter) → k.screen ≡ s → painter-of k r ≡ p
    → next-step k r ≡ paint-step (bucket s.state.frame) s.state.attrs (get_or s.rows r fresh-row) p
next-at k s r p e q = rw (e, q)

own_turn : (t : Turn) (ts : List Turn) (k : Canvas) (s : Screen Row) (r : ℕ) (p : Painter) → k.screen ≡ s → r < length k.painters → painter-of k r ≡ p
    → t.row ≡ r → eqb t.row r ≡ true → eqb (paint-call t.row t.room k).number Done ≡ true
    → ((q : Painter) → painter-of (paint-call t.row t.room k).value.canvas r ≡ q → Alone s r q (turns ts (paint-call t.row t.room k).value.canvas))
    → Alone s r p (turns (t ∷ ts) k)
unfolding turns
own_turn t ts k s r p e h q i y d rest =
    let n = next-at k s r p e q in
    let g = paint-call t.row t.room k in
    let v : g.value.result ≡ paint-step (bucket s.state.frame) s.state.attrs (get_or s.rows r fresh-row) p = (call-given t.row t.room k d).0 ∙ ap (next-step k) i ∙ n in
    let there : t.row < length k.painters = rw i h in
    let m : painter-of g.value.canvas r ≡ (paint-step (bucket s.state.frame) s.state.attrs (get_or s.rows r fresh-row) p).painter =
    ap (painter-of g.value.canvas) (sym i) ∙ call-own t.row t.room k there d ∙ ap (λ (j : ℕ). (next-step k j).painter) i ∙ ap (λ (o : Painted). o.painter) n in
    own_first s r p (turns ts g.value.canvas) (gave t.row g) y d (ap (λ (o : Painted). o.pieces) v) (rest _ m)

pub by-turns : (ts : List Turn) (k : Canvas) (s : Screen Row) (r : ℕ) (p : Painter) → k.screen ≡ s → r < length k.painters → painter-of k r ≡ p → Alone s r p (turns ts k)
unfolding turns
by-turns [] k s r p e h q = record { pieces = unfold from steps_of paint-steps in refl; painter = unfold steps_of painter-on in q }
by-turns (t ∷ ts) k s r p e h q =
    let g = paint-call t.row t.room k in
    let rest : (x : Painter) → painter-of g.value.canvas r ≡ x → Alone s r x (turns ts g.value.canvas) =
    λ x m. by-turns ts g.value.canvas s r x (call-screen t.row t.room k ∙ e) (rw (call-count t.row t.room k) h) m in
    by (eqb t.row r)
    (λ y. by (eqb g.number Done)
    (λ d. own_turn t ts k s r p e h q (eqb-true t.row r y) y d rest)
    (λ d.
    let (c, z, f) = call-refused t.row t.room k d in
    other-first s r p (turns ts g.value.canvas) (gave t.row g) (rw (y, d)) (rw y z) (rest p (ap (λ (x : Canvas). painter-of x r) c ∙ q))))
    (λ n. other-first s r p (turns ts g.value.canvas) (gave t.row g) (rw n) (rw n) (rest p (call-other t.row t.room k r (eqb-false t.row r n) ∙ q)))

-- a row that has finished stays finished
pub stays-finished : (ts : List Turn) (k : Canvas) (r : ℕ) → r < length k.painters → has-finished k r ≡ true → has-finished (turns ts k).canvas r ≡ true
unfolding has-finished
stays-finished ts k r h e =
    let a = by-turns ts k k.screen r (painter-of k r) refl h refl in
    let m = steps_of r (turns ts k).log in
    let still = a.painter ∙ (idle (bucket-on k) k.screen.state.attrs m (get_or k.screen.rows r fresh-row) (painter-of k r) e).1 in
    ap (λ (o : Painted). o.finished) (next-at (turns ts k).canvas k.screen r (painter-of k r) (turns-screen ts k) still) ∙ e

-- a call that said finished shows that the row has finished
said-by : (t : Turn) (k : Canvas) (r : ℕ) → r < length k.painters → t.row ≡ r → (paint-call t.row t.room k).value.result.finished ≡ true
    → has-finished (paint-call t.row t.room k).value.canvas r ≡ true
unfolding has-finished
said-by t k r h i e = by (eqb (paint-call t.row t.room k).number Done)
    (λ d.
    let g = paint-call t.row t.room k in
    let v : g.value.result ≡ next-step k r = (call-given t.row t.room k d).0 ∙ ap (next-step k) i in
    let f : (next-step k r).finished ≡ true = sym (ap (λ (o : Painted). o.finished) v) ∙ e in
    let there : t.row < length k.painters = rw i h in
    let m : painter-of g.value.canvas r ≡ painter-of k r =
    ap (painter-of g.value.canvas) (sym i) ∙ call-own t.row t.room k there d ∙ ap (λ (j : ℕ). (next-step k j).painter) i
    ∙ ap (λ (o : Painted). o.painter) (step-ended (bucket-on k) k.screen.state.attrs (get_or k.screen.rows r fresh-row) (painter-of k r) f) in
    ap (λ (o : Painted). o.finished) (next-at g.value.canvas k.screen r (painter-of k r) (call-screen t.row t.room k) m) ∙ f)
    (λ d. never (sym e ∙ (call-refused t.row t.room k d).2))

pub said-so : (ts : List Turn) (k : Canvas) (r : ℕ) → r < length k.painters → said-finished r (turns ts k).log ≡ true → has-finished (turns ts k).canvas r ≡ true
unfolding turns said-finished
said-so [] k r h e = never (sym e)
said-so (t ∷ ts) k r h e =
    let g = paint-call t.row t.room k in
    let there : r < length g.value.canvas.painters = rw (call-count t.row t.room k) h in
    by (eqb t.row r && g.value.result.finished)
    (λ y. stays-finished ts g.value.canvas r there (said-by t k r h (eqb-true t.row r (and_left _ _ y)) (and_right (eqb t.row r) _ y)))
    (λ n. said-so ts g.value.canvas r there (rw n at e))

-- begun: every row at its first step
pub begun-is : (k : Canvas) → (begin-call k).number ≡ Done → (begin-call k).value ≡ record { screen = k.screen; begun = true; painters = blank k.screen }
unfolding begin-call
begun-is k e = by (is-empty k.screen.state.layers)
    (λ y. rw y)
    (λ n. let z : ◌≡◌ {A = ℕ} Open Done = rw n at e in absurd (omega arith))

-- painting goes on after a done begin
pub begun-paints : (k : Canvas) → (begin-call k).number ≡ Done → paints-on (begin-call k).value ≡ true
unfolding begin-call
begun-paints k e = by (is-empty k.screen.state.layers)
    (λ y. rw (y, y))
    (λ n. let z : ◌≡◌ {A = ℕ} Open Done = rw n at e in absurd (omega arith))

-- painting leaves the screen as it is
pub painted-screen : (ts : List Turn) (k : Canvas) → (begin-call k).number ≡ Done → (turns ts (begin-call k).value).canvas.screen ≡ k.screen
painted-screen ts k e = turns-screen ts (begin-call k).value ∙ ap (λ (c : Canvas). c.screen) (begun-is k e)

pub begun-there : (k : Canvas) (r : ℕ) → (begin-call k).number ≡ Done → r < length k.screen.rows → r < length (begin-call k).value.painters
begun-there k r e h = rw (begun-is k e, length-replicate {A = Painter} (length k.screen.rows) (begin (buckets-across k.screen.state.frame))) h

pub begun-painter : (k : Canvas) (r : ℕ) → (begin-call k).number ≡ Done → r < length k.screen.rows
    → painter-of (begin-call k).value r ≡ begin (buckets-across k.screen.state.frame)
begun-painter k r e h = rw (begun-is k e) (get_or-replicate (length k.screen.rows) r (begin (buckets-across k.screen.state.frame)) (begin 0) h)

-- After begin, in any schedule, what a row has given is what it gives alone, from its first step, in as many steps as its done calls.
pub begun-by-turns : (ts : List Turn) (k : Canvas) (r : ℕ) → (begin-call k).number ≡ Done → r < length k.screen.rows
    → Alone k.screen r (begin (buckets-across k.screen.state.frame)) (turns ts (begin-call k).value)
begun-by-turns ts k r e h =
    by-turns ts (begin-call k).value k.screen r (begin (buckets-across k.screen.state.frame))
    (ap (λ (c : Canvas). c.screen) (begun-is k e)) (begun-there k r e h) (begun-painter k r e h)

-- a row of which a call since begin said finished has finished
pub begun-said : (ts : List Turn) (k : Canvas) (r : ℕ) → (begin-call k).number ≡ Done → r < length k.screen.rows
    → said-finished r (turns ts (begin-call k).value).log ≡ true → has-finished (turns ts (begin-call k).value).canvas r ≡ true
begun-said ts k r e h f = said-so ts (begin-call k).value r (begun-there k r e h) f

-- A row that has finished has given what it gives when it is painted alone to its end.
pub finished-gave : (ts : List Turn) (k : Canvas) (r : ℕ) → (begin-call k).number ≡ Done → r < length k.screen.rows
    → has-finished (turns ts (begin-call k).value).canvas r ≡ true
    → from r (turns ts (begin-call k).value).log
    ≡ paint-row (bucket-on k) k.screen.state.attrs (buckets-across k.screen.state.frame) (get_or k.screen.rows r fresh-row)
unfolding has-finished paint-row
finished-gave ts k r e h f =
    let a = begun-by-turns ts k r e h in
    let o = turns ts (begin-call k).value in
    let row = get_or k.screen.rows r fresh-row in
    let fin = sym (ap (λ (x : Painted). x.finished) (next-at o.canvas k.screen r _ (painted-screen ts k e) a.painter)) ∙ f in
    let p = begin (buckets-across k.screen.state.frame) in
    a.pieces
    ∙ all-given (bucket-on k) k.screen.state.attrs (steps_of r o.log) row p fin
    ∙ ap (λ (n : ℕ). paint-steps (bucket-on k) k.screen.state.attrs n row p) (sub-zero (length row.fills + length row.commands))
