-- Panels decide nothing: steps, histories, painting and plain draw order with every panel 0.
use Rattle.std.proofs.Common.{ℕ, zero, suc, ◌+◌, arith, ◌≡◌, refl, sym, ◌∙◌, ap, Bool, true, false, ◌&&◌, not, cond, Option, None, Some, List, [], ◌∷◌, ◌++◌, map, length, eqb}
use mathlib.Core.List.{map-append, map-map}
use lib.ListN.{length-map, get_or-map}
use Rattle.rules.specs.Lists.{is-empty, some_of}
use Rattle.rules.specs.Answers.{answer, settle, Done, BadRecord}
use Rattle.rules.specs.Boxes.{Box, span_of}
use Rattle.rules.specs.Spans.{Span, solid-tiles}
use Rattle.rules.specs.Segments.{Segment, judge-segments, Cut}
use Rattle.rules.specs.Inputs.{Paint, Draw, draw-segments, draw-paint, good-panel, few-paints, Clip, Props, Filter, good-filter}
use Rattle.rules.specs.Attributes.{PaintAttr, no-paint, LayerAttr, no-layer, Attrs}
use Rattle.rules.specs.Commands.{Command, paint-fill, layer-fill, push-buf, pop-buf, DepthFill}
use Rattle.rules.specs.Rows.{Row, row-ops, fresh-row}
use Rattle.rules.specs.Plans.{Layer, State, Step, a-fill, a-push, a-pop, a-filter, Plan, clip-box, box_of, eligible, layer-box, touches-all, filter-box, draws-nothing, plan-fill, plan-push, plan-pop, plan-filter-in, plan-filter, plan}
use Rattle.rules.specs.Steps.{Screen, reset, done, refusal, perform, touched, call}
use Rattle.rules.specs.Painting.{Painter, Painted, paint-id, layer-id, paint-panel, layer-panel, begin, paint-depth, paint-fill-runs, paint-command, paint-when, paint-step, paint-steps, paint-row}
use Rattle.rules.specs.Plain.{Told, OpenLayer, Story, untold, touch-all, box-now, here, in_rows, closers, tell, tell-fill, tell-push, tell-pop, tell-filter, tell-step, tell-steps, shown, plain}
use Rattle.rules_picture.specs.Built.{Built, no_step, then}
use Rattle.rules_picture.specs.Panels.{panelless-draw, panelless-props, panelless-step, panelless-layer, panelless-paint-attr, panelless-layer-attr, panelless-attrs, panelless-state, panelless-screen, panelless-piece, panelless-entry, good-step-panel, Answered-alike, Built-alike, Panel-blind, Painted-alike, Told-alike}
use Rattle.rules_picture.proofs.Cases.{by}
use Rattle.rules_picture.proofs.Stepped.{call-done}

-- what a step would do, with every panel 0
abbrev panelless-plan : Plan → Plan
panelless-plan p =
    record { refused = p.refused; next = p.next; attrs = panelless-attrs p.attrs; layers = map panelless-layer p.layers; puts = p.puts }

clip-alike : (v : Box) (ls : List Layer) → clip-box v (map panelless-layer ls) ≡ clip-box v ls
clip-alike v [] = refl
clip-alike v (l ∷ ls) = refl

empty-map : {A B : Type 0} (f : A → B) (xs : List A) → is-empty (map f xs) ≡ is-empty xs
empty-map f [] = refl
empty-map f (x ∷ xs) = refl

fill-alike : (ps : List Paint) (ss : List Segment) (d : Draw) (s : State) → good-panel d.panel ≡ true
    → plan-fill ps ss (panelless-draw d) (panelless-state s) ≡ panelless-plan (plan-fill ps ss d s)
unfolding plan-fill
fill-alike ps ss d s g =
    rw (g, length-map, clip-alike, empty-map)
    (by (is-empty (draw-segments ss d)) (λ y. rw y) (λ n. rw (n, map-append)))

push-alike : (p : Props) (s : State) → good-panel p.panel ≡ true → plan-push (panelless-props p) (panelless-state s) ≡ panelless-plan (plan-push p s)
unfolding plan-push
push-alike p s g = rw (g, clip-alike)

pop-alike : (ls : List Layer) (ss : List Segment) (js : List ℕ) (s : State)
    → plan-pop (map panelless-layer ls) ss js (panelless-state s) ≡ panelless-plan (plan-pop ls ss js s)
unfolding plan-pop
pop-alike [] ss js s = refl
pop-alike (l ∷ ls) ss js s =
    rw (clip-alike s.frame.viewport ls, length-map s.attrs.layers panelless-layer-attr, map-append panelless-layer-attr s.attrs.layers)

filter-in-alike : (b : Box) (n : ℕ) (f : Filter) (q : ℕ) (s : State)
    → plan-filter-in b n f 0 (panelless-state s) ≡ panelless-plan (plan-filter-in b n f q s)
unfolding plan-filter-in
filter-in-alike b n f q s = rw (length-map, map-append)

filter_alike : (n : ℕ) (f : Filter) (q : ℕ) (s : State) → good-panel q ≡ true
    → plan-filter n f 0 (panelless-state s) ≡ panelless-plan (plan-filter n f q s)
unfolding plan-filter
filter_alike n f q s g =
    let b = filter-box s.frame.viewport (box_of s) f in
    rw (g, clip-alike)
    (by (good-filter f && few-paints n)
    (λ y. rw y (by (draws-nothing f b) (λ z. rw z) (λ z. rw z (filter-in-alike b n f q s))))
    (λ m. rw m))

plan-alike : (x : Step) (js : List ℕ) (s : State) → good-step-panel x ≡ true
    → plan (panelless-step x) js (panelless-state s) ≡ panelless-plan (plan x js s)
unfolding plan
plan-alike (a-fill ps ss d) js s g = fill-alike ps ss d s g
plan-alike (a-push p) js s g = push-alike p s g
plan-alike (a-pop ss) js s g = pop-alike s.layers ss js s
plan-alike (a-filter n f q) js s g = filter_alike n f q s g

done-alike : (p : Plan) (s : Screen Row) → done Row row-ops (panelless-plan p) (panelless-screen s) ≡ panelless-screen (done Row row-ops p s)
unfolding done
done-alike p s = rw length-map

refusal-alike : (p : Plan) (t : Screen Row) → refusal Row row-ops (panelless-plan p) (panelless-screen t) ≡ refusal Row row-ops p t
unfolding refusal
refusal-alike p t =
    rw (
      length-map p.layers panelless-layer,
      length-map p.attrs.paints panelless-paint-attr,
      length-map p.attrs.layers panelless-layer-attr,
    )

settle-alike : (n : ℕ) (s t : Screen Row)
    → settle n (panelless-screen s) (panelless-screen t) ≡ answer (settle n s t).number (panelless-screen (settle n s t).value)
settle-alike n s t = by (eqb n Done) (λ y. rw y) (λ m. rw m)

pub answered-alike : Answered-alike
unfolding call perform
answered-alike x s g =
    let p = plan x (touched Row row-ops (length s.state.layers) 0 s.rows) s.state in
    rw (length-map, plan-alike x (touched Row row-ops (length s.state.layers) 0 s.rows) s.state g, done-alike p s, refusal-alike p (done Row row-ops p s))
    (settle-alike (refusal Row row-ops p (done Row row-ops p s)) s (done Row row-ops p s))

-- a done step's panel is in range
and-false : (a : Bool) → (a && false) ≡ false
and-false true = refl
and-false false = refl

plan-panel : (x : Step) (js : List ℕ) (s : State) → (plan x js s).refused ≡ Done → good-step-panel x ≡ true
unfolding plan plan-fill plan-push plan-filter judge-segments
plan-panel (a-fill ps ss d) js s e =
    by (good-panel d.panel) (λ y. y) (λ n. let k : ◌≡◌ {A = ℕ} BadRecord Done = rw (n, and-false, and-false) at e in absurd (omega arith))
plan-panel (a-push p) js s e =
    by (good-panel p.panel) (λ y. y) (λ n. let k : ◌≡◌ {A = ℕ} BadRecord Done = rw (n, and-false) at e in absurd (omega arith))
plan-panel (a-pop ss) js s e = refl
plan-panel (a-filter n f q) js s e =
    by (good-panel q) (λ y. y) (λ m. let k : ◌≡◌ {A = ℕ} BadRecord Done = rw (m, and-false) at e in absurd (omega arith))

pub built_alike : Built-alike
built_alike xs s u b = go b
  where
    go : {xs : List Step} {s u : Screen Row} → Built xs s u → Built (map panelless-step xs) (panelless-screen s) (panelless-screen u)
    go no_step = no_step
    go (then {x = x} {xs = xs} {s = s} {u = u} e b) =
        let q = answered-alike x s (plan-panel x _ s.state (call-done x s e).0) in
        let h : (call Row row-ops (panelless-step x) (panelless-screen s)).number ≡ Done = rw q e in
        let c : Built (map panelless-step xs) (call Row row-ops (panelless-step x) (panelless-screen s)).value (panelless-screen u) = rw q (go b) in
        (then) h c

-- the same steps from the same screen lead to one screen
one-screen : {xs : List Step} {s u v : Screen Row} → Built xs s u → Built xs s v → u ≡ v
one-screen no_step no_step = refl
one-screen (then e b) (then h c) = one-screen b c

pub panel-blind : Panel-blind
unfolding reset
panel-blind f xs ys e u v b c =
    one-screen (built_alike xs (reset fresh-row f) u b) (rw e (built_alike ys (reset fresh-row f) v c))

-- Painting: an attribute's id is read, its panel only copied into the pieces.
module _ (w : ℕ) (a : Attrs) where
  abbrev panelless-painted : Painted → Painted
  panelless-painted o = record { finished = o.finished; pieces = map panelless-piece o.pieces; painter = o.painter }

  paint-id-alike : (i : ℕ) → paint-id (panelless-attrs a) i ≡ paint-id a i
  paint-id-alike i = ap (λ (x : PaintAttr). x.id) (get_or-map panelless-paint-attr a.paints i no-paint)

  layer-id-alike : (i : ℕ) → layer-id (panelless-attrs a) i ≡ layer-id a i
  layer-id-alike i = ap (λ (x : LayerAttr). x.id) (get_or-map panelless-layer-attr a.layers i no-layer)

  paint-panel-none : (i : ℕ) → paint-panel (panelless-attrs a) i ≡ 0
  paint-panel-none i = ap (λ (x : PaintAttr). x.panel) (get_or-map panelless-paint-attr a.paints i no-paint)

  layer-panel-none : (i : ℕ) → layer-panel (panelless-attrs a) i ≡ 0
  layer-panel-none i = ap (λ (x : LayerAttr). x.panel) (get_or-map panelless-layer-attr a.layers i no-layer)

  depth-alike : (f : DepthFill) (p : Painter) → paint-depth w (panelless-attrs a) f p ≡ panelless-painted (paint-depth w a f p)
  unfolding paint-depth
  depth-alike f p = rw (paint-id-alike, paint-panel-none, map-map)

  runs-alike : (l : Bool) (id i q : ℕ) (s : Span) (x : Option ℕ) (p : Painter)
      → paint-fill-runs w (panelless-attrs a) l id i 0 s x p ≡ panelless-painted (paint-fill-runs w a l id i q s x p)
  unfolding paint-fill-runs
  runs-alike l id i q s x p = rw map-map

  command-alike : (c : Command) (p : Painter) → paint-command w (panelless-attrs a) c p ≡ panelless-painted (paint-command w a c p)
  unfolding paint-command
  command-alike (paint-fill s x i) p = rw (paint-id-alike, paint-panel-none) (runs-alike false (paint-id a i) i (paint-panel a i) s x p)
  command-alike (layer-fill s x i) p = rw (layer-id-alike, layer-panel-none) (runs-alike true (layer-id a i) i (layer-panel a i) s x p)
  command-alike (push-buf s) p = refl
  command-alike pop-buf p = refl

  when-alike : (t u : Bool) (r : Row) (p : Painter) → paint-when w (panelless-attrs a) t u r p ≡ panelless-painted (paint-when w a t u r p)
  unfolding paint-when
  when-alike true u r p = depth-alike _ p
  when-alike false true r p = command-alike _ p
  when-alike false false r p = refl

  steps_alike : (k : ℕ) (r : Row) (p : Painter) → paint-steps w (panelless-attrs a) k r p ≡ map panelless-piece (paint-steps w a k r p)
  unfolding paint-steps paint-step
  steps_alike zero r p = refl
  steps_alike (suc k) r p =
      rw (when-alike, steps_alike k r)
      (sym (map-append panelless-piece (paint-step w a r p).pieces (paint-steps w a k r (paint-step w a r p).painter)))

pub painted-alike : Painted-alike
unfolding paint-row
painted-alike w a n r = steps_alike w a (length r.fills + length r.commands) r (begin n)

-- Plain draw order: a story with every panel 0.
abbrev panelless-open : OpenLayer → OpenLayer
panelless-open l = record { layer = panelless-layer l.layer; touched = l.touched }

abbrev panelless-told : Told → Told
panelless-told t = record { entry = panelless-entry t.entry; id = t.id; hides = t.hides }

abbrev panelless-story : Story → Story
panelless-story s =
    record {
      next = s.next;
      paints = s.paints;
      layers = s.layers;
      open-layers = map panelless-open s.open-layers;
      told = map panelless-told s.told;
    }

touch-alike : (b : Bool) (ls : List OpenLayer) → touch-all b (map panelless-open ls) ≡ map panelless-open (touch-all b ls)
touch-alike true [] = refl
touch-alike true (l ∷ ls) = ap (λ (ms : List OpenLayer). record { layer = panelless-layer l.layer; touched = true } ∷ ms) (touch-alike true ls)
touch-alike false ls = refl

now-alike : (v : Box) (ls : List OpenLayer) → box-now v (map panelless-open ls) ≡ box-now v ls
now-alike v [] = refl
now-alike v (l ∷ ls) = refl

-- what is left of a list of entries
hides-alike : (ts : List Told) → some_of (λ (u : Told). u.hides) (map panelless-told ts) ≡ some_of (λ (u : Told). u.hides) ts
hides-alike [] = refl
hides-alike (t ∷ ts) = rw (hides-alike ts)

shown-alike : (ts : List Told) → shown (map panelless-told ts) ≡ map panelless-told (shown ts)
unfolding shown
shown-alike [] = refl
shown-alike (t ∷ ts) = rw (hides-alike ts, shown-alike ts) (by (some_of (λ (u : Told). u.hides) ts) (λ y. rw y) (λ n. rw n))

module _ (w : ℕ) (v : Box) (row tile : ℕ) where
  -- the entries of a step after those of the steps before it
  tell-alike : (ts : List Told) (l : Bool) (i q n id : ℕ) (e : Bool) (ks : List Cut)
      → map panelless-told ts ++ tell w v row tile l i 0 n id e ks ≡ map panelless-told (ts ++ tell w v row tile l i q n id e ks)
  tell-alike ts l i q n id e ks = rw (map-append panelless-told ts, map-map)

  fill-told-alike : (ps : List Paint) (ss : List Segment) (d : Draw) (s : Story)
      → tell-fill w v row tile ps ss (panelless-draw d) (panelless-story s) ≡ panelless-story (tell-fill w v row tile ps ss d s)
  fill-told-alike ps ss d s =
      let ls = s.open-layers in
      let ks = here w v row tile ls (draw-segments ss d) in
      rw (
        now-alike v ls,
        empty-map panelless-open ls,
        length-map ls panelless-open,
        touch-alike (not (is-empty ks)) ls,
        tell-alike s.told false s.paints d.panel (length ls) s.next (eligible (is-empty ls) (draw-paint ps d) d) ks,
      )

  push-told-alike : (p : Props) (s : Story)
      → tell-push w v row tile (panelless-props p) (panelless-story s) ≡ panelless-story (tell-push w v row tile p s)
  push-told-alike p s =
      let ls = s.open-layers in
      let b = layer-box v (box-now v ls) p.clip in
      let l : OpenLayer = record { layer = record { props = p; bounds = b }; touched = false } in
      rw (now-alike v ls, touch-alike (touches-all p b && in_rows w v row tile b) (l ∷ ls))

  closers-alike : (c : Option Clip) (own : Box) (ls : List OpenLayer) (ss : List Segment)
      → closers w v row tile c own (map panelless-open ls) ss ≡ closers w v row tile c own ls ss
  closers-alike None own ls ss = refl
  closers-alike (Some c) own ls ss = rw (now-alike v ls)

  pop-told-alike : (ls : List OpenLayer) (ss : List Segment) (s : Story)
      → tell-pop w v row tile (map panelless-open ls) ss (panelless-story s) ≡ panelless-story (tell-pop w v row tile ls ss s)
  pop-told-alike [] ss s = refl
  pop-told-alike (l ∷ ls) ss s =
      let ks = closers w v row tile l.layer.props.clip l.layer.bounds ls ss in
      rw (closers-alike l.layer.props.clip l.layer.bounds ls ss, length-map s.open-layers panelless-open)
      (by l.touched
      (λ y. rw (y, tell-alike s.told true s.layers l.layer.props.panel (length s.open-layers) s.next false ks))
      (λ n. rw (n, map-append panelless-told s.told)))

  filter-told-alike : (f : Filter) (q : ℕ) (s : Story)
      → tell-filter w v row tile f 0 (panelless-story s) ≡ panelless-story (tell-filter w v row tile f q s)
  filter-told-alike f q s =
      let ls = s.open-layers in
      let b = filter-box v (box-now v ls) f in
      let ks : List Cut = cond (in_rows w v row tile b) (record { row = row; stretch = solid-tiles (span_of b) } ∷ []) [] in
      rw (now-alike v ls, length-map ls panelless-open)
      (by (draws-nothing f b)
      (λ y. rw y)
      (λ n. rw (n, touch-alike (in_rows w v row tile b) ls, tell-alike s.told false s.paints q (length ls) s.next false ks)))

  step-alike : (x : Step) (s : Story) → tell-step w v row tile (panelless-step x) (panelless-story s) ≡ panelless-story (tell-step w v row tile x s)
  unfolding tell-step
  step-alike (a-fill ps ss d) s = fill-told-alike ps ss d s
  step-alike (a-push p) s = push-told-alike p s
  step-alike (a-pop ss) s = pop-told-alike s.open-layers ss s
  step-alike (a-filter n f q) s = filter-told-alike f q s

  steps-told : (xs : List Step) (s : Story) → tell-steps w v row tile (map panelless-step xs) (panelless-story s) ≡ panelless-story (tell-steps w v row tile xs s)
  unfolding tell-steps
  steps-told [] s = refl
  steps-told (x ∷ xs) s = ap (tell-steps w v row tile (map panelless-step xs)) (step-alike x s) ∙ steps-told xs (tell-step w v row tile x s)

pub told-alike : Told-alike
unfolding plain
told-alike w v row tile xs =
    let ts = shown (tell-steps w v row tile xs untold).told in
    rw (steps-told w v row tile xs untold, shown-alike, map-map (λ (t : Told). t.entry) panelless-told ts)
    (sym (map-map panelless-entry (λ (t : Told). t.entry) ts))
