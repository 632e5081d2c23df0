-- A map of rows that follows every row operation follows every act, every list of puts and every step. Assumes nothing.
use Rattle.std.proofs.Common.{◌≡◌, refl, sym, ap, ◌∙◌, Bool, true, false, cond, List, [], ◌∷◌, map, Option, None, ℕ, zero, suc, ◌+◌, ◌-◌, ◌≤◌, ◌<◌, arith, ltb, eqb, length, ltb-false, eqb-true}
use mathlib.Core.List.{foldl}
use Rattle.rules.specs.Lists.{times, change}
use Rattle.rules.specs.Answers.{Answer, answer, settle, Done, Deep}
use Rattle.rules.specs.Spans.{Span}
use Rattle.rules.specs.Split.{Part, regular, buckets, split}
use Rattle.rules.specs.Commands.{paint-fill, layer-fill}
use Rattle.rules.specs.Rows.{RowOps}
use Rattle.rules.specs.Plans.{bucket, Step, Act, paint, opaque, touch, close, pop, Put, Plan, plan}
use Rattle.rules.specs.Steps.{Screen, ensure, put-part, do-act, do-puts, done, row-passes, passes, refusal, perform, touched, call}
use Rattle.rules.proofs.All.{All, nil, cons}

-- Every span in it is `Ok`.
pub data PartOk (Ok : Span → Type 0) : Part → Type 0 where
  of-tiles : {s : Span} → Ok s → PartOk Ok (regular s)
  of-buckets : {s : Span} → Ok s → PartOk Ok (buckets s)

pub data ActOk (Ok : Span → Type 0) : Act → Type 0 where
  paints : {s : Span} {a : Option ℕ} {i : ℕ} → Ok s → ActOk Ok (paint s a i)
  splits : {s : Span} {i id : ℕ} → Ok s → ActOk Ok (opaque s i id)
  touches : ActOk Ok touch
  closes : {s : Span} {a : Option ℕ} {i : ℕ} → Ok s → ActOk Ok (close s a i)
  pops : ActOk Ok pop

pub record PutOk (Ok : Span → Type 0) (p : Put) : Type 0 where
  pub act : ActOk Ok p.act

-- the operation f does to the row a what g does to its image, and leaves it fine
abbrev pub goes : {A B : Type 0} → (A → B) → (A → Type 0) → (A → A) → (B → B) → A → Type 0
goes h Fine f g a = (h (f a) ≡ g (h a)) × Fine (f a)

-- h takes rows A to rows B and follows each operation. Fine: what holds of every row that steps make. Ok: what holds of every span.
pub record Follows (A B : Type 0) (oa : RowOps A) (ob : RowOps B) (h : A → B) (Fine : A → Type 0) (Ok : Span → Type 0) : Type 0 where
  pub renders : (a : A) → Fine a → ob.renders (h a) ≡ oa.renders a
  pub depths : (a : A) → Fine a → ob.depths (h a) ≡ oa.depths a
  pub levels : (a : A) → Fine a → ob.levels-of (h a) ≡ oa.levels-of a
  pub few : (a : A) → Fine a → oa.levels-of a ≤ 16
  pub deeper : (a : A) → Fine a → oa.levels-of a < 16 → oa.levels-of (oa.put-push a) ≡ oa.levels-of a + 1
  pub paints : (s : Span) (i : Option ℕ) (k : ℕ) → Ok s → (a : A) → Fine a → goes h Fine (oa.put (paint-fill s i k)) (ob.put (paint-fill s i k)) a
  pub closes : (s : Span) (i : Option ℕ) (k : ℕ) → Ok s → (a : A) → Fine a → goes h Fine (oa.put (layer-fill s i k)) (ob.put (layer-fill s i k)) a
  pub pushes : (a : A) → Fine a → oa.levels-of a < 16 → goes h Fine oa.put-push ob.put-push a
  pub pops : (a : A) → Fine a → goes h Fine oa.put-pop ob.put-pop a
  pub fills : (w : ℕ) (s : Span) (k id : ℕ) → Ok s → (a : A) → Fine a → goes h Fine (oa.put-depth w (record { buckets = s; attribute = k }) id) (ob.put-depth w (record { buckets = s; attribute = k }) id) a
  pub parts : (w : ℕ) (s : Span) → Ok s → All (PartOk Ok) (split w s)

-- a screen, row by row, and an answer
abbrev pub screen-by : {A B : Type 0} → (A → B) → Screen A → Screen B
screen-by h s = record { state = s.state; rows = map h s.rows }

abbrev pub answer-by : {S T : Type 0} → (S → T) → Answer S → Answer T
answer-by g a = answer a.number (g a.value)

-- the plan of a step on a screen
abbrev pub planned : (R : Type 0) → RowOps R → Step → Screen R → Plan
planned R ops x s = plan x (touched R ops (length s.state.layers) 0 s.rows) s.state

-- a plan is refused by its own number or by 6, whatever the rows, and then alters nothing
module _ (p : Plan) (R : Type 0) (ops : RowOps R) (t : Screen R) where
  abbrev refused-by : ℕ → Type 0
  refused-by n = perform R ops p t ≡ answer n t

  own-number : eqb p.refused Done ≡ false → refused-by p.refused
  unfolding perform refusal
  own-number e = rw (e, e)

  too-deep : eqb p.refused Done ≡ true → ltb 16 (length p.layers) ≡ true → refused-by Deep
  unfolding perform refusal
  too-deep e d = rw (e, d)

module _ {A B : Type 0} {oa : RowOps A} {ob : RowOps B} {h : A → B} {Fine : A → Type 0} {Ok : Span → Type 0} (r : Follows A B oa ob h Fine Ok) where
  layers : (j : ℕ) (a : A) → Fine a → oa.levels-of a + j ≤ 16 → goes h Fine (times j oa.put-push) (times j ob.put-push) a
  layers zero a f l = (refl, f)
  layers (suc j) a f l =
      let p = r.pushes a f (omega arith) in
      let q = layers j (oa.put-push a) p.1 (omega (arith, r.deeper a f (omega arith))) in
      (q.0 ∙ ap (times j ob.put-push) p.0, q.1)

  pub follows-ensure : (n : ℕ) → n ≤ 16 → (a : A) → Fine a → goes h Fine (ensure A oa n) (ensure B ob n) a
  follows-ensure n m a f =
      let p = layers (n - oa.levels-of a) a f (omega (arith, r.few a f)) in
      (p.0 ∙ ap (λ (k : ℕ). times (n - k) ob.put-push (h a)) (sym (r.levels a f)), p.1)

  -- at any width
  module _ (w : ℕ) where
    one-part : (i id : ℕ) {p : Part} → PartOk Ok p → (a : A) → Fine a → goes h Fine (λ (x : A). put-part A oa w i id x p) (λ (y : B). put-part B ob w i id y p) a
    one-part i id (of-tiles {s} o) a f = r.paints s None i o a f
    one-part i id (of-buckets {s} o) a f = r.fills w s i id o a f

    all-parts : (i id : ℕ) {ps : List Part} → All (PartOk Ok) ps → (a : A) → Fine a → goes h Fine (λ (x : A). foldl (put-part A oa w i id) x ps) (λ (y : B). foldl (put-part B ob w i id) y ps) a
    all-parts i id nil a f = (refl, f)
    all-parts i id (cons {x = p} {xs = ps} o os) a f =
        let c = one-part i id o a f in
        let d = all-parts i id os (put-part A oa w i id a p) c.1 in
        (d.0 ∙ ap (λ (y : B). foldl (put-part B ob w i id) y ps) c.0, d.1)

    module _ (n : ℕ) (m : n ≤ 16) where
      pub follows-act : {t : Act} → ActOk Ok t → (a : A) → Fine a → goes h Fine (do-act A oa w n t) (do-act B ob w n t) a
      unfolding do-act
      follows-act (paints {s} {a = i} {i = k} o) a f =
          let e = follows-ensure n m a f in
          let p = r.paints s i k o (ensure A oa n a) e.1 in
          (p.0 ∙ ap (ob.put (paint-fill s i k)) e.0, p.1)
      follows-act (splits {s} {i = k} {id} o) a f =
          let e = follows-ensure n m a f in
          let p = all-parts k id (r.parts w s o) (ensure A oa n a) e.1 in
          (p.0 ∙ ap (λ (y : B). foldl (put-part B ob w k id) y (split w s)) e.0, p.1)
      follows-act touches a f = follows-ensure n m a f
      follows-act (closes {s} {a = i} {i = k} o) a f = r.closes s i k o a f
      follows-act pops a f = r.pops a f

      one-change : {t : Act} → ActOk Ok t → (x : ℕ) {rows : List A} → All Fine rows
          → (map h (change (do-act A oa w n t) x rows) ≡ change (do-act B ob w n t) x (map h rows)) × All Fine (change (do-act A oa w n t) x rows)
      one-change o zero nil = (refl, nil)
      one-change o (suc x) nil = (refl, nil)
      one-change o zero (cons {x = a} {xs = us} f fs) =
          let p = follows-act o a f in
          (ap (λ (b : B). b ∷ map h us) p.0, cons p.1 fs)
      one-change o (suc x) (cons {x = a} {xs = us} f fs) =
          let p = one-change o x fs in
          (ap (λ (bs : List B). h a ∷ bs) p.0, cons f p.1)

      -- every step's puts
      pub follows-puts : {ps : List Put} → All (PutOk Ok) ps → (rows : List A) → All Fine rows
          → (map h (do-puts A oa w n ps rows) ≡ do-puts B ob w n ps (map h rows)) × All Fine (do-puts A oa w n ps rows)
      unfolding do-puts
      follows-puts nil rows f = (refl, f)
      follows-puts (cons {x = p} {xs = ps} o os) rows f =
          let c = one-change o.act p.row f in
          let d = follows-puts os (change (do-act A oa w n p.act) p.row rows) c.1 in
          (d.0 ∙ ap (do-puts B ob w n ps) c.0, d.1)

  pub follows-done : (p : Plan) → length p.layers ≤ 16 → All (PutOk Ok) p.puts → (s : Screen A) → All Fine s.rows
      → (screen-by h (done A oa p s) ≡ done B ob p (screen-by h s)) × All Fine (done A oa p s).rows
  unfolding done
  follows-done p m o s f = let e = follows-puts (bucket s.state.frame) (length p.layers) m o s.rows f in (rw e.0, e.1)

  -- a count that h keeps passes a limit in the same rows
  module _ (f : A → ℕ) (g : B → ℕ) (e : (a : A) → Fine a → g (h a) ≡ f a) (n : ℕ) where
    one_passes : (i : ℕ) {rows : List A} → All Fine rows → row-passes B ob g n i (map h rows) ≡ row-passes A oa f n i rows
    one_passes zero nil = refl
    one_passes (suc i) nil = refl
    one_passes zero (cons {x = a} o os) = ap (ltb n) (e a o)
    one_passes (suc i) (cons o os) = one_passes i os

    pub follows-passes : (ps : List Put) {rows : List A} → All Fine rows → passes B ob g n ps (map h rows) ≡ passes A oa f n ps rows
    unfolding passes
    follows-passes [] o = refl
    follows-passes (p ∷ ps) o = rw (one_passes p.row o, follows-passes ps o)

  pub follows-refusal : (p : Plan) (t : Screen A) → All Fine t.rows → refusal B ob p (screen-by h t) ≡ refusal A oa p t
  unfolding refusal
  follows-refusal p t f =
      rw (
        follows-passes oa.renders ob.renders r.renders t.state.frame.c p.puts f,
        follows-passes oa.depths ob.depths r.depths t.state.frame.d p.puts f,
      )

  settles : (n : ℕ) (s t : Screen A) → All Fine s.rows → All Fine t.rows
      → (settle n (screen-by h s) (screen-by h t) ≡ answer-by (screen-by h) (settle n s t)) × All Fine (settle n s t).value.rows
  settles n s t f g = go (eqb n Done)
    where
      go : (c : Bool)
          → (cond c (answer Done (screen-by h t)) (answer n (screen-by h s)) ≡ answer-by (screen-by h) (cond c (answer Done t) (answer n s)))
          × All Fine (cond c (answer Done t) (answer n s)).value.rows
      go true = (refl, g)
      go false = (refl, f)

  module _ (p : Plan) (o : p.refused ≡ Done → All (PutOk Ok) p.puts) (s : Screen A) (f : All Fine s.rows) where
    abbrev same_answer : Type 0
    same_answer = (perform B ob p (screen-by h s) ≡ answer-by (screen-by h) (perform A oa p s)) × All Fine (perform A oa p s).value.rows

    still : (n : ℕ) → refused-by p A oa s n → refused-by p B ob (screen-by h s) n → same_answer
    still n a b = rw (a, b) (refl, f)

    made : p.refused ≡ Done → length p.layers ≤ 16 → same_answer
    unfolding perform
    made e m =
        let d = follows-done p m (o e) s f in
        rw (← d.0, follows-refusal p (done A oa p s) d.1) (settles (refusal A oa p (done A oa p s)) s (done A oa p s) f d.1)

    -- a plan whose spans are `Ok`, unless it is refused by its own number, has the same answer, and gives the same rows
    pub follows-perform : same_answer
    follows-perform = go (eqb p.refused Done) (ltb 16 (length p.layers)) refl refl
      where
        go : (a b : Bool) → eqb p.refused Done ≡ a → ltb 16 (length p.layers) ≡ b → same_answer
        go false b d e = still p.refused (own-number p A oa s d) (own-number p B ob (screen-by h s) d)
        go true true d e = still Deep (too-deep p A oa s d e) (too-deep p B ob (screen-by h s) d e)
        go true false d e = made (eqb-true p.refused Done d) (ltb-false 16 (length p.layers) e)

  pub follows-touched : (n i : ℕ) {rows : List A} → All Fine rows → touched B ob n i (map h rows) ≡ touched A oa n i rows
  unfolding touched
  follows-touched n i nil = refl
  follows-touched n i (cons {x = a} f fs) = rw (r.levels a f, follows-touched n (suc i) fs)

  -- every step
  pub follows-call : (x : Step) (s : Screen A) → ((planned A oa x s).refused ≡ Done → All (PutOk Ok) (planned A oa x s).puts) → All Fine s.rows
      → (call B ob x (screen-by h s) ≡ answer-by (screen-by h) (call A oa x s)) × All Fine (call A oa x s).value.rows
  unfolding call
  follows-call x s o f = rw (follows-touched (length s.state.layers) 0 f) (follows-perform (planned A oa x s) o s f)
