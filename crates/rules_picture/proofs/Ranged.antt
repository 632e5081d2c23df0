-- Each command and each depth fill of a row names an attribute that is there, on any screen that steps have built.
use Rattle.std.proofs.Common.{ℕ, zero, suc, ◌-◌, ◌≤◌, ◌<◌, arith, ◌≡◌, refl, sym, Bool, true, false, Option, None, Some, List, [], ◌∷◌, ◌++◌, append-nil, length, set, length-append, eqb}
use Rattle.std.specs.Prelude.{⊤}
use mathlib.Core.List.{foldl}
use Rattle.rules.specs.Lists.{change, times, some_of, is-empty}
use Rattle.rules.specs.Answers.{Done}
use Rattle.rules.specs.Boxes.{Box, rows_in, span_of}
use Rattle.rules.specs.Spans.{Span}
use Rattle.rules.specs.Split.{Part, regular, buckets, split}
use Rattle.rules.specs.Segments.{Segment, Cut, cuts}
use Rattle.rules.specs.Inputs.{Paint, Draw, draw-segments, Clip, Props, Filter, good-filter-fill}
use Rattle.rules.specs.Commands.{Command, paint-fill, layer-fill, push-buf, pop-buf, DepthFill}
use Rattle.rules.specs.Rows.{Row, Level, row-ops, fresh-row, put-command, put-push-buf, pop-levels, put-pop-buf, put-depth-fill}
use Rattle.rules.specs.Plans.{Frame, Layer, State, Step, a-fill, a-push, a-pop, a-filter, Act, paint, opaque, touch, close, pop, Put, on, Plan, box_of, draw-act, draw-puts, plan-fill, touches-all, layer-box, plan-push, close-puts, closing, plan-pop, filter-box, draws-nothing, filter-puts, plan-filter-in, plan-filter, plan}
use Rattle.rules.specs.Steps.{Screen, reset, ensure, put-part, do-act, do-puts, done, touched, call}
use Rattle.rules.proofs.All.{All, nil, cons, all_append, all_map, all-if, all-mapped, all_replicate, never}
use Rattle.rules_picture.proofs.Cases.{by}
use Rattle.rules_picture.proofs.Stepped.{call-done, step-leads}

module _ {A : Type 0} {P : A → Type 0} where
  pub all_set : {xs : List A} → All P xs → (i : ℕ) (y : A) → P y → All P (set xs i y)
  all_set nil i y p = nil
  all_set (cons q a) zero y p = cons p a
  all_set (cons q a) (suc i) y p = cons q (all_set a i y p)

  all_change : (f : A → A) → ((x : A) → P x → P (f x)) → {xs : List A} → All P xs → (i : ℕ) → All P (change f i xs)
  all_change f h nil i = nil
  all_change f h (cons q a) zero = cons (h _ q) a
  all_change f h (cons q a) (suc i) = cons q (all_change f h a i)

-- with p paint attributes and l layer attributes
module _ (p l : ℕ) where
  abbrev pub Names : Command → Type 0
  Names (paint-fill s x i) = i < p
  Names (layer-fill s x i) = i < l
  Names (push-buf s) = ⊤
  Names pop-buf = ⊤

  pub record Ranged (r : Row) : Type 0 where
    pub commands : All Names r.commands
    pub fills : All (λ (f : DepthFill). f.attribute < p) r.fills

  abbrev pub ActNames : Act → Type 0
  ActNames (paint s x i) = i < p
  ActNames (opaque s i id) = i < p
  ActNames touch = ⊤
  ActNames (close s x i) = i < l
  ActNames pop = ⊤

  abbrev pub PutNames : Put → Type 0
  PutNames q = ActNames q.act

  put-ranged : (c : Command) → Names c → (r : Row) → Ranged r → Ranged (put-command c r)
  unfolding put-command
  put-ranged c h r g = record { commands = all_append g.commands (cons h nil); fills = g.fills }

  push-ranged : (r : Row) → Ranged r → Ranged (put-push-buf r)
  unfolding put-push-buf
  push-ranged r g = record { commands = all_append g.commands (cons tt nil); fills = g.fills }

  levels-ranged : (ls : List Level) (r : Row) → Ranged r → Ranged (pop-levels ls r)
  levels-ranged [] r g = g
  levels-ranged (v ∷ ls) r g = record { commands = all_append (all_set g.commands v.place (push-buf v.union) tt) (cons tt nil); fills = g.fills }

  depth-ranged : (w : ℕ) (f : DepthFill) (id : ℕ) → f.attribute < p → (r : Row) → Ranged r → Ranged (put-depth-fill w f id r)
  unfolding put-depth-fill
  depth-ranged w f id h r g = record { commands = g.commands; fills = all_append g.fills (cons h nil) }

  pushes-ranged : (k : ℕ) (r : Row) → Ranged r → Ranged (times k put-push-buf r)
  pushes-ranged zero r g = g
  pushes-ranged (suc k) r g = pushes-ranged k (put-push-buf r) (push-ranged r g)

  parts-ranged : (w i id : ℕ) → i < p → (ps : List Part) (r : Row) → Ranged r → Ranged (foldl (put-part Row row-ops w i id) r ps)
  parts-ranged w i id h [] r g = g
  parts-ranged w i id h (regular x ∷ ps) r g = parts-ranged w i id h ps (put-command (paint-fill x None i) r) (put-ranged (paint-fill x None i) h r g)
  parts-ranged w i id h (buckets x ∷ ps) r g =
      parts-ranged w i id h ps (put-depth-fill w (record { buckets = x; attribute = i }) id r) (depth-ranged w (record { buckets = x; attribute = i }) id h r g)

  act-ranged : (w n : ℕ) (a : Act) → ActNames a → (r : Row) → Ranged r → Ranged (do-act Row row-ops w n a r)
  unfolding do-act put-pop-buf
  act-ranged w n (paint s x i) h r g = put-ranged (paint-fill s x i) h (ensure Row row-ops n r) (pushes-ranged (n - length r.levels) r g)
  act-ranged w n (opaque s i id) h r g = parts-ranged w i id h (split w s) (ensure Row row-ops n r) (pushes-ranged (n - length r.levels) r g)
  act-ranged w n touch h r g = pushes-ranged (n - length r.levels) r g
  act-ranged w n (close s x i) h r g = put-ranged (layer-fill s x i) h r g
  act-ranged w n pop h r g = levels-ranged r.levels r g

  puts-ranged : (w n : ℕ) {ps : List Put} → All PutNames ps → (rs : List Row) → All Ranged rs → All Ranged (do-puts Row row-ops w n ps rs)
  unfolding do-puts
  puts-ranged w n nil rs g = g
  puts-ranged w n (cons {x = q} {xs = ps} h a) rs g =
      puts-ranged w n a (change (do-act Row row-ops w n q.act) q.row rs) (all_change (do-act Row row-ops w n q.act) (act-ranged w n q.act h) g q.row)

  -- the puts of each plan
  draw-named : (e : Bool) (i id : ℕ) → i < p → (s : Span) (x : Option ℕ) → ActNames (draw-act e i id s x)
  unfolding draw-act
  draw-named true i id h s None = h
  draw-named true i id h s (Some a) = h
  draw-named false i id h s x = h

  draws-named : (e : Bool) (i id : ℕ) → i < p → (ks : List Cut) → All PutNames (draw-puts e i id ks)
  unfolding draw-puts
  draws-named e i id h [] = nil
  draws-named e i id h (k ∷ ks) = cons (draw-named e i id h k.stretch.tiles k.stretch.alpha) (draws-named e i id h ks)

  closes-named : (i : ℕ) → i < l → (js : List ℕ) (ks : List Cut) → All PutNames (close-puts i js ks)
  unfolding close-puts
  closes-named i h js [] = nil
  closes-named i h js (k ∷ ks) = all-if (some_of (eqb k.row) js) (cons h (closes-named i h js ks)) (closes-named i h js ks)

  closing-named : (c : Option Clip) (v own parent : Box) (i : ℕ) → i < l → (ss : List Segment) (js : List ℕ) → All PutNames (closing c v own parent i ss js)
  unfolding closing
  closing-named None v own parent i h ss js = all-mapped (on (close (span_of own) None i)) (λ j. h) js
  closing-named (Some c) v own parent i h ss js = closes-named i h js _

names-more : (p l q m : ℕ) → p ≤ q → l ≤ m → (c : Command) → Names p l c → Names q m c
names-more p l q m h k (paint-fill s x i) e = omega arith
names-more p l q m h k (layer-fill s x i) e = omega arith
names-more p l q m h k (push-buf s) e = e
names-more p l q m h k pop-buf e = e

-- more attributes
ranged-more : (p l q m : ℕ) → p ≤ q → l ≤ m → (r : Row) → Ranged p l r → Ranged q m r
ranged-more p l q m h k r g = record { commands = all_map (names-more p l q m h k) g.commands; fills = all_map (λ (f : DepthFill) (e : f.attribute < p). omega arith) g.fills }

abbrev PlanNames : Plan → Type 0
PlanNames x = All (PutNames (length x.attrs.paints) (length x.attrs.layers)) x.puts

one-more-long : {A : Type 0} (xs : List A) (x : A) → length xs < length (xs ++ (x ∷ []))
one-more-long xs x = rw (length-append xs (x ∷ [])) (omega arith)

none-in : {A : Type 0} (xs : List A) → is-empty xs ≡ true → xs ≡ []
none-in [] e = refl
none-in (x ∷ xs) e = never (sym e)

fill-named : (ps : List Paint) (ss : List Segment) (d : Draw) (s : State) → PlanNames (plan-fill ps ss d s)
unfolding plan-fill cuts draw-puts
fill-named ps ss d s = by (is-empty (draw-segments ss d))
    (λ y. rw (none-in (draw-segments ss d) y) nil)
    (λ n. rw n (draws-named _ _ _ _ _ (one-more-long s.attrs.paints _) _))

push-named : (x : Props) (s : State) → PlanNames (plan-push x s)
unfolding plan-push
push-named x s =
    let b = layer-box s.frame.viewport (box_of s) x.clip in
    all-if (touches-all x b) (all-mapped (on touch) (λ j. tt) (rows_in b)) nil

pop-named : (ls : List Layer) (ss : List Segment) (js : List ℕ) (s : State) → PlanNames (plan-pop ls ss js s)
unfolding plan-pop
pop-named [] ss js s = nil
pop-named (l ∷ ls) ss js s =
    all_append (closing-named _ _ l.props.clip _ _ _ _ (one-more-long s.attrs.layers _) ss js) (all-mapped (on pop) (λ j. tt) js)

filter-named : (n : ℕ) (x : Filter) (q : ℕ) (s : State) → PlanNames (plan-filter n x q s)
unfolding plan-filter plan-filter-in filter-puts
filter-named n x q s = by (good-filter-fill n x q)
    (λ y. by (draws-nothing x (filter-box s.frame.viewport (box_of s) x))
    (λ z. rw (y, z) nil)
    (λ z. rw (y, z) (all-mapped (on (paint (span_of (filter-box s.frame.viewport (box_of s) x)) None (length s.attrs.paints))) (λ j. one-more-long s.attrs.paints _) _)))
    (λ y. rw y nil)

plan-named : (x : Step) (js : List ℕ) (s : State) → PlanNames (plan x js s)
unfolding plan
plan-named (a-fill ps ss d) js s = fill-named ps ss d s
plan-named (a-push x) js s = push-named x s
plan-named (a-pop ss) js s = pop-named s.layers ss js s
plan-named (a-filter n x q) js s = filter-named n x q s

-- Every row of a screen.
abbrev pub AllRanged : Screen Row → Type 0
AllRanged s = All (Ranged (length s.state.attrs.paints) (length s.state.attrs.layers)) s.rows

pub reset-ranged : (f : Frame) → AllRanged (reset fresh-row f)
unfolding reset
reset-ranged f = all_replicate _ fresh-row (record { commands = nil; fills = nil })

pub step-ranged : (x : Step) (s : Screen Row) → (call Row row-ops x s).number ≡ Done → AllRanged s → AllRanged (call Row row-ops x s).value
unfolding done
step-ranged x s e g =
    let js = touched Row row-ops (length s.state.layers) 0 s.rows in
    let t = plan x js s.state in
    let k = step-leads 0 t.attrs 0 s.state.frame.viewport 0 x js s.state
    (record { paints-more = []; paints = sym (append-nil t.attrs.paints); layers-more = []; layers = sym (append-nil t.attrs.layers) }) in
    let a : length s.state.attrs.paints ≤ length t.attrs.paints = rw (k.paints, length-append s.state.attrs.paints k.paints-more) (omega arith) in
    let b : length s.state.attrs.layers ≤ length t.attrs.layers = rw (k.layers, length-append s.state.attrs.layers k.layers-more) (omega arith) in
    rw (call-done x s e).1
    (puts-ranged _ _ _ _ (plan-named x js s.state) s.rows (all_map (λ (r : Row). ranged-more _ _ _ _ a b r) g))
