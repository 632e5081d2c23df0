-- A walk with a log does what the walk does: done steps from the screen before to the screen after, and every layer that it opens it closes.
use Rattle.std.proofs.Common.{ℕ, zero, suc, ◌+◌, ◌-◌, ◌≤◌, ◌<◌, arith, ◌≡◌, refl, sym, ◌∙◌, ap, Bool, true, false, not, cond, List, [], ◌∷◌, ◌++◌, append_assoc, append-nil, length, get_or, ltb, eqb, eqb-true, eq-eqb, ltb-false}
use Rattle.rules.specs.Lists.{every, slice}
use Rattle.rules.specs.Answers.{Answer, answer, first_of, Done, BadRecord, BadOrder, Deep, Ids, FullAttrs, FullRow, FullDepth}
use Rattle.rules.specs.Boxes.{Box}
use Rattle.rules.specs.Segments.{Segment, good-segment, ordered, judge-segments}
use Rattle.rules.specs.Inputs.{Paint, Draw, Props, Filter, good-filter-fill, good-props, needs-buffer}
use Rattle.rules.specs.Attributes.{attrs-full}
use Rattle.rules.specs.Rows.{Row, RowOps, row-ops}
use Rattle.rules.specs.Plans.{Layer, State, Step, a-fill, a-push, a-pop, a-filter, Plan, still, box_of, filter-box, draws-nothing, plan-fill, plan-push, plan-pop, plan-filter-in, plan-filter, plan}
use Rattle.rules.specs.Steps.{Screen, done, passes, refusal, perform, touched, call}
use Rattle.rules.specs.Recording.{Recording, LayerRec, Node, layer-rec}
use Rattle.rules.specs.Walk.{◌then◌, when, each, props-of, walk-filter, walk-node, walk-nodes, walk-layer, walk-all}
use Rattle.rules.specs.Logged.{Logged, logged-call}
use Rattle.rules.proofs.All.{All, nil, cons, never}
use Rattle.rules_picture.specs.Built.{Built, no_step, then as then_step}
use Rattle.rules_picture.proofs.Cases.{by}
use Rattle.rules_picture.proofs.Stepped.{call-done}

-- a number that refuses is past 3
abbrev pub Late : ℕ → Type 0
Late n = eqb n Done ≡ false → 3 < n

pub not_done : {n : ℕ} → eqb n Done ≡ false → n ≡ Done → ⊥
not_done {n} e z = never (sym (eq-eqb n Done z) ∙ e)

pub late-done : Late Done
late-done e = never e

-- of several, the first that refuses
pub first-late : (ts : List (Bool × ℕ)) → All (λ (t : Bool × ℕ). 3 < t.1) ts → Late (first_of ts)
first-late [] nil = late-done
first-late (t ∷ ts) (cons p a) = by t.0 (λ y. rw y (λ e. p)) (λ n. rw n (first-late ts a))

judge-late : (bad : Bool) (ss : List Segment) → Late (judge-segments bad ss)
unfolding judge-segments
judge-late bad ss = first-late ((bad, BadRecord) ∷ (not (every good-segment ss), BadRecord) ∷ (not (ordered ss), BadOrder) ∷ []) (cons (omega arith) (cons (omega arith) (cons (omega arith) nil)))

pop-late : (ls : List Layer) (ss : List Segment) (js : List ℕ) (s : State) → Late (plan-pop ls ss js s).refused
unfolding plan-pop
pop-late [] ss js s = λ e. omega arith
pop-late (l ∷ ls) ss js s = judge-late _ _

push-late : (b : Bool) → Late (cond b Done BadRecord)
push-late true = late-done
push-late false = λ e. omega arith

-- a filter's refusal, and its layers, which stay
filter-tests : (a b : Bool) (n : ℕ) (f : Filter) (q : ℕ) (s : State) (x : Box)
    → let p = cond a (still BadRecord s) (cond b (still Done s) (plan-filter-in x n f q s)) in Late p.refused × (p.layers ≡ s.layers)
unfolding plan-filter-in
filter-tests true b n f q s x = (λ e. omega arith, refl)
filter-tests false true n f q s x = (late-done, refl)
filter-tests false false n f q s x = (late-done, refl)

filter-facts : (n : ℕ) (f : Filter) (q : ℕ) (s : State) → Late (plan-filter n f q s).refused × ((plan-filter n f q s).layers ≡ s.layers)
unfolding plan-filter
filter-facts n f q s =
    let x = filter-box s.frame.viewport (box_of s) f in
    filter-tests (not (good-filter-fill n f q)) (draws-nothing f x) n f q s x

pub plan-late : (x : Step) (js : List ℕ) (s : State) → Late (plan x js s).refused
unfolding plan plan-fill plan-push
plan-late (a-fill ps ss d) js s = judge-late _ _
plan-late (a-push p) js s = push-late (good-props p)
plan-late (a-pop ss) js s = pop-late s.layers ss js s
plan-late (a-filter n f q) js s = (filter-facts n f q s).0

-- what refuses a plan on rows of any kind is past 3
pub refusal-late : {R : Type 0} (ops : RowOps R) (p : Plan) (t : Screen R) → Late p.refused → Late (refusal R ops p t)
unfolding refusal
refusal-late {R} ops p t h = by (eqb p.refused Done)
    (λ y. rw y (first-late
    ((ltb 16 (length p.layers), Deep)
    ∷ (ltb 1048577 p.next, Ids)
    ∷ (attrs-full p.attrs, FullAttrs)
    ∷ (passes R ops ops.renders t.state.frame.c p.puts t.rows, FullRow)
    ∷ (passes R ops ops.depths t.state.frame.d p.puts t.rows, FullDepth)
    ∷ [])
    (cons (omega arith) (cons (omega arith) (cons (omega arith) (cons (omega arith) (cons (omega arith) nil)))))))
    (λ n. rw n h)

-- a refused step's number is past 3
pub call-late : (x : Step) (s : Screen Row) → Late (call Row row-ops x s).number
unfolding call perform
call-late x s =
    let p = plan x (touched Row row-ops (length s.state.layers) 0 s.rows) s.state in
    let n = refusal Row row-ops p (done Row row-ops p s) in
    by (eqb n Done)
    (λ y. rw y late-done)
    (λ m. rw m (refusal-late row-ops p (done Row row-ops p s) (plan-late x _ s.state)))

-- a done step leaves at most 16 layers open
deep-most : (p : Plan) (t : Screen Row) → refusal Row row-ops p t ≡ Done → length p.layers ≤ 16
unfolding refusal
deep-most p t e = by (ltb 16 (length p.layers))
    (λ y. by (eqb p.refused Done)
    (λ z. let k : ◌≡◌ {A = ℕ} Deep Done = rw (z, y) at e in absurd (omega arith))
    (λ z. let k : p.refused ≡ Done = rw z at e in never (sym (eq-eqb p.refused Done k) ∙ z)))
    (λ n. ltb-false 16 (length p.layers) n)

pub call-deep : (x : Step) (s : Screen Row) → (call Row row-ops x s).number ≡ Done → length (call Row row-ops x s).value.state.layers ≤ 16
unfolding call perform done
call-deep x s e =
    let p = plan x (touched Row row-ops (length s.state.layers) 0 s.rows) s.state in
    let n = refusal Row row-ops p (done Row row-ops p s) in
    by (eqb n Done)
    (λ y. rw y (deep-most p (done Row row-ops p s) (eqb-true n Done y)))
    (λ m. let k : n ≡ Done = rw m at e in never (sym (eq-eqb n Done k) ∙ m))

-- the layers that a step leaves open
call-layers : (x : Step) (s : Screen Row) → (call Row row-ops x s).number ≡ Done
    → (call Row row-ops x s).value.state.layers ≡ (plan x (touched Row row-ops (length s.state.layers) 0 s.rows) s.state).layers
call-layers x s e = ap (λ (k : Screen Row). k.state.layers) (call-done x s e).1 ∙ unfold done in refl

-- the layers are ls; they are one more than ls
abbrev pub Same : List Layer → List Layer → Type 0
Same ls x = x ≡ ls

pub record More (ls x : List Layer) : Type 0 where
  pub layer : Layer
  pub is : x ≡ layer ∷ ls

-- The walk with a log has answered a, and the walk b, from l on. If it is done, its log has grown by the steps that built the screen after, and the open layers are as B says.
pub record Walked (B : List Layer → Type 0) (a : Answer (Logged Row)) (b : Answer (Screen Row)) (l : Logged Row) : Type 0 where
  pub number : a.number ≡ b.number
  pub screen : a.value.screen ≡ b.value
  pub steps : List Step
  pub log : a.value.log ≡ l.log ++ steps
  pub built : a.number ≡ Done → Built steps l.screen a.value.screen
  pub late : Late a.number
  pub layers : a.number ≡ Done → B a.value.screen.state.layers

-- the same from wherever the open layers are as A says
pub record Walks (A B : List Layer → Type 0) (g : Logged Row → Answer (Logged Row)) (f : Screen Row → Answer (Screen Row)) : Type 0 where
  pub at : (l : Logged Row) → A l.screen.state.layers → Walked B (g l) (f l.screen) l

pub built-append : {xs ys : List Step} {s u v : Screen Row} → Built xs s u → Built ys u v → Built (xs ++ ys) s v
built-append no_step b = b
built-append (then_step e a) b = then_step e (built-append a b)

joined : {B C : List Layer → Type 0} {a c : Answer (Logged Row)} {b d : Answer (Screen Row)} {l : Logged Row}
    → Walked B a b l → a.number ≡ Done → Walked C c d a.value → Walked C c d l
joined {l = l} r y q = record {
  number = q.number;
  screen = q.screen;
  steps = r.steps ++ q.steps;
  log = q.log ∙ ap (λ (xs : List Step). xs ++ q.steps) r.log ∙ append_assoc l.log r.steps q.steps;
  built = λ z. built-append (r.built y) (q.built z);
  late = q.late;
  layers = q.layers;
}

stopped : {B C : List Layer → Type 0} {a : Answer (Logged Row)} {b : Answer (Screen Row)} {l : Logged Row} → Walked B a b l → eqb a.number Done ≡ false → Walked C a b l
stopped r e = record {
  number = r.number;
  screen = r.screen;
  steps = r.steps;
  log = r.log;
  built = r.built;
  late = r.late;
  layers = λ z. absurd (not_done e z);
}

then-walks : {A B C : List Layer → Type 0} {g g' : Logged Row → Answer (Logged Row)} {f f' : Screen Row → Answer (Screen Row)}
    → Walks A B g f → Walks B C g' f' → Walks A C (g then g') (f then f')
unfolding ◌then◌
then-walks {g = g} {g' = g'} {f = f} {f' = f'} a b = record {
  at = λ l h.
      let r = a.at l h in
      by (eqb (g l).number Done)
      (λ y.
      let d = eqb-true (g l).number Done y in
      let y' : eqb (f l.screen).number Done ≡ true = rw r.number at y in
      rw (y, y', ← r.screen) (joined r d (b.at (g l).value (r.layers d))))
      (λ n.
      let n' : eqb (f l.screen).number Done ≡ false = rw r.number at n in
      rw (n, n') (stopped r n));
}

nothing-walks : {A : List Layer → Type 0} → Walks A A (λ l. answer Done l) (λ s. answer Done s)
nothing-walks = record {
  at = λ l h. record {
    number = refl;
    screen = refl;
    steps = [];
    log = sym (append-nil l.log);
    built = λ z. no_step;
    late = late-done;
    layers = λ z. h;
  };
}

when-walks : (b : Bool) {A : List Layer → Type 0} {g : Logged Row → Answer (Logged Row)} {f : Screen Row → Answer (Screen Row)} → Walks A A g f → Walks A A (when b g) (when b f)
unfolding when
when-walks true a = record { at = a.at }
when-walks false a = record { at = nothing-walks.at }

each-walks : {X : Type 0} {A : List Layer → Type 0} {g : X → Logged Row → Answer (Logged Row)} {f : X → Screen Row → Answer (Screen Row)}
    → ((x : X) → Walks A A (g x) (f x)) → (xs : List X) → Walks A A (each g xs) (each f xs)
unfolding each
each-walks a [] = record { at = nothing-walks.at }
each-walks a (x ∷ xs) = record { at = (then-walks (a x) (each-walks a xs)).at }

-- one step
step-walks : (x : Step) {A B : List Layer → Type 0}
    → ((s : Screen Row) → A s.state.layers → (call Row row-ops x s).number ≡ Done → B (call Row row-ops x s).value.state.layers)
    → Walks A B (logged-call Row row-ops x) (call Row row-ops x)
unfolding logged-call
step-walks x k = record {
  at = λ l h. record {
    number = refl;
    screen = refl;
    steps = x ∷ [];
    log = refl;
    built = λ z. then_step z no_step;
    late = call-late x l.screen;
    layers = λ z. k l.screen h z;
  };
}

pub fill_walks : (ps : List Paint) (ss : List Segment) (d : Draw) (ls : List Layer) → Walks (Same ls) (Same ls) (logged-call Row row-ops (a-fill ps ss d)) (call Row row-ops (a-fill ps ss d))
fill_walks ps ss d ls = step-walks (a-fill ps ss d) (λ s h z. call-layers (a-fill ps ss d) s z ∙ (unfold plan plan-fill in h))

pub filter-walks : (n : ℕ) (f : Filter) (q : ℕ) (ls : List Layer) → Walks (Same ls) (Same ls) (logged-call Row row-ops (a-filter n f q)) (call Row row-ops (a-filter n f q))
filter-walks n f q ls = step-walks (a-filter n f q) (λ s h z. call-layers (a-filter n f q) s z ∙ (unfold plan in (filter-facts n f q s.state).1 ∙ h))

-- what keeps every list of open layers keeps one more than ls
under : {g : Logged Row → Answer (Logged Row)} {f : Screen Row → Answer (Screen Row)} (ls : List Layer) → ((m : Layer) → Walks (Same (m ∷ ls)) (Same (m ∷ ls)) g f) → Walks (More ls) (More ls) g f
under ls a = record {
  at = λ l h. let r = (a h.layer).at l h.is in record {
    number = r.number;
    screen = r.screen;
    steps = r.steps;
    log = r.log;
    built = r.built;
    late = r.late;
    layers = λ z. record { layer = h.layer; is = r.layers z };
  };
}

pub push-walks : (p : Props) (ls : List Layer) → Walks (Same ls) (More ls) (logged-call Row row-ops (a-push p)) (call Row row-ops (a-push p))
push-walks p ls = step-walks (a-push p) (λ s h z. record {
  layer = get_or (call Row row-ops (a-push p) s).value.state.layers 0 (record { props = p; bounds = record { x0 = 0; y0 = 0; x1 = 0; y1 = 0 } });
  is = pushed s h z;
})
  where
    pushed : (s : Screen Row) → s.state.layers ≡ ls → (call Row row-ops (a-push p) s).number ≡ Done
        → (call Row row-ops (a-push p) s).value.state.layers
        ≡ get_or (call Row row-ops (a-push p) s).value.state.layers 0 (record { props = p; bounds = record { x0 = 0; y0 = 0; x1 = 0; y1 = 0 } }) ∷ ls
    pushed s h z = rw (call-layers (a-push p) s z) (unfold plan plan-push in rw h)

pop-layers : (ms ls : List Layer) (m : Layer) (ss : List Segment) (js : List ℕ) (s : State) → ms ≡ m ∷ ls → (plan-pop ms ss js s).layers ≡ ls
pop-layers ms ls m ss js s e = rw e (unfold plan-pop in refl)

pub pop-walks : (ss : List Segment) (ls : List Layer) → Walks (More ls) (Same ls) (logged-call Row row-ops (a-pop ss)) (call Row row-ops (a-pop ss))
pop-walks ss ls = step-walks (a-pop ss) (λ s h z. call-layers (a-pop ss) s z ∙ (unfold plan in pop-layers s.state.layers ls h.layer ss _ s.state h.is))

-- with 16 layers open a push is refused
push-full : (p : Props) (ls : List Layer) → length ls ≡ 16 → Walks (Same ls) (Same ls) (logged-call Row row-ops (a-push p)) (call Row row-ops (a-push p))
unfolding logged-call
push-full p ls e = record {
  at = λ l h.
      let r = (push-walks p ls).at l h in
      record {
        number = r.number;
        screen = r.screen;
        steps = r.steps;
        log = r.log;
        built = r.built;
        late = r.late;
        layers = λ z.
            let m = call-deep (a-push p) l.screen z in
            let k = ap (λ (x : List Layer). length x) (r.layers z).is in
            absurd (omega arith);
      };
}

module _ (r : Recording) where
  abbrev G : Step → Logged Row → Answer (Logged Row)
  G = logged-call Row row-ops

  abbrev F : Step → Screen Row → Answer (Screen Row)
  F = call Row row-ops

  filter-layer-walks : (x : LayerRec) (ls : List Layer) → Walks (Same ls) (Same ls) (walk-filter (Logged Row) G r x) (walk-filter (Screen Row) F r x)
  unfolding walk-filter when
  filter-layer-walks x ls = go (needs-buffer (props-of x))
    where
      go : (b : Bool) → Walks (Same ls) (Same ls)
          (when b (G (a-push (props-of x))) then G (a-filter (length r.paints) x.filter x.panel) then when b (G (a-pop r.segments)))
          (when b (F (a-push (props-of x))) then F (a-filter (length r.paints) x.filter x.panel) then when b (F (a-pop r.segments)))
      go true = then-walks (then-walks (push-walks (props-of x) ls) (under ls (λ m. filter-walks (length r.paints) x.filter x.panel (m ∷ ls)))) (pop-walks r.segments ls)
      go false = then-walks (then-walks nothing-walks (filter-walks (length r.paints) x.filter x.panel ls)) nothing-walks

  -- nodes, where the layers under them are walked well
  nodes-walk : (ls : List Layer) (g : LayerRec → Logged Row → Answer (Logged Row)) (f : LayerRec → Screen Row → Answer (Screen Row))
      → ((x : LayerRec) → Walks (Same ls) (Same ls) (g x) (f x))
      → (a b : ℕ) → Walks (Same ls) (Same ls) (walk-nodes (Logged Row) G r g a b) (walk-nodes (Screen Row) F r f a b)
  unfolding walk-nodes walk-node
  nodes-walk ls g f h a b = each-walks (λ (n : Node).
      then-walks (each-walks (λ (d : Draw). fill_walks r.paints r.segments d ls) (slice n.start n.end r.draws))
      (when-walks (not (eqb n.layer 0)) (h (get_or r.layers (n.layer - 1) (layer-rec []))))) (slice a b r.nodes)

  layer-walks : (d : ℕ) (ls : List Layer) → length ls + d ≡ 16 → (x : LayerRec) → Walks (Same ls) (Same ls) (walk-layer (Logged Row) G r d x) (walk-layer (Screen Row) F r d x)
  unfolding walk-layer
  layer-walks zero ls e x =
      then-walks (when-walks (eqb x.kind 0) (push-full (props-of x) ls (omega arith))) (when-walks (eqb x.kind 1) (filter-layer-walks x ls))
  layer-walks (suc d) ls e x =
      then-walks (when-walks (eqb x.kind 0) (then-walks (then-walks (push-walks (props-of x) ls) (under ls (λ m. nodes-walk (m ∷ ls) (walk-layer (Logged Row) G r d) (walk-layer (Screen Row) F r d) (layer-walks d (m ∷ ls) (omega arith)) x.start x.end))) (pop-walks r.segments ls)))
      (when-walks (eqb x.kind 1) (filter-layer-walks x ls))

  -- the whole walk, from a screen with no layer open
  pub all-walks : Walks (Same []) (Same []) (walk-all (Logged Row) G r) (walk-all (Screen Row) F r)
  unfolding walk-all
  all-walks = nodes-walk [] (walk-layer (Logged Row) G r 16) (walk-layer (Screen Row) F r 16) (layer-walks 16 [] (omega arith)) r.start r.end
