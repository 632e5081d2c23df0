-- A judged step is refused by the engine of one tile by the number that refuses it on rows that are never full.
use Rattle.std.proofs.Common.{ℕ, suc, ◌+◌, ◌≤◌, arith, ◌≡◌, refl, sym, ◌∙◌, ap, Bool, true, false, ◌&&◌, ◌||◌, not, cond, List, [], ◌∷◌, ◌++◌, map, append-nil, length, length-append, leb, ltb, le-ltb, eq-eqb}
use Rattle.std.proofs.lemmas.Bool.Decides.{nat_tests}
use Rattle.sizes.specs.Sizes.{most-layers, most-attrs, most-filters, last-id}
use Rattle.rules.specs.Lists.{is-empty}
use Rattle.rules.specs.Answers.{first_of, Done, Deep, Ids, FullAttrs}
use Rattle.rules.specs.Boxes.{Box}
use Rattle.rules.specs.Segments.{Segment, judge-segments}
use Rattle.rules.specs.Inputs.{Paint, Draw, draw-segments, good-fill, Props, good-props, Filter, good-filter-fill}
use Rattle.rules.specs.Attributes.{attrs-full}
use Rattle.rules.specs.Plans.{Layer, State, Step, a-fill, a-push, a-pop, a-filter, Plan, still, box_of, with-paint, with-layer, clip-segments, clip-fits, filter-box, draws-nothing, plan-fill, plan-push, plan-pop, plan-filter-in, plan-filter, plan}
use Rattle.rules.specs.Plain.{OpenLayer, Story, box-now}
use Rattle.rules.specs.Recording.{Recording}
use Rattle.rules.proofs.All.{All, cons, head, tail}
use Rattle.rules.proofs.laws.Answers.{settle-number}
use Rattle.rules_picture.proofs.Cases.{by}
use Rattle.rules_picture.proofs.Follows.{layer-in}
use Rattle.rules_picture.proofs.Limits.{Limits, limit}
use Rattle.rules_picture.proofs.Stepped.{filter_none, filter-some}
use Rattle.tile.specs.Telling.{Line, tell-fill, tell-push, tell-pop, tell-filter, tell-at}
use Rattle.refine_tile.proofs.Stories.{Stands}
use Rattle.refine_tile.proofs.Tells.{telling, few}

-- an open layer whose clip's segments are good in the list lent to its pop
abbrev pub Closes : List Segment → Layer → Type 0
Closes ss l = judge-segments (not (clip-fits l.props.clip ss)) (clip-segments l.props.clip ss) ≡ Done

-- A step of a recording whose inputs are good; a push too has a clip that its pop will find good
unfoldable pub Judged : Recording → Step → Type 0
Judged r (a-fill ps ss d) = judge-segments (not (good-fill ps ss d)) (draw-segments ss d) ≡ Done
Judged r (a-push p) = (good-props p ≡ true) × (judge-segments (not (clip-fits p.clip r.segments)) (clip-segments p.clip r.segments) ≡ Done)
Judged r (a-pop ss) = ss ≡ r.segments
Judged r (a-filter n f q) = good-filter-fill n f q ≡ true

-- the layers that it leaves open
module _ (ss : List Segment) where
  pop-closes : (ls : List Layer) (ts : List Segment) (js : List ℕ) (s : State) → All (Closes ss) s.layers → All (Closes ss) ls → All (Closes ss) (plan-pop ls ts js s).layers
  unfolding plan-pop
  pop-closes [] ts js s c d = c
  pop-closes (l ∷ ls) ts js s c d = tail d

  filter-closes : (n : ℕ) (f : Filter) (q : ℕ) (s : State) → All (Closes ss) s.layers → All (Closes ss) (plan-filter n f q s).layers
  unfolding plan-filter plan-filter-in
  filter-closes n f q s c = by (good-filter-fill n f q)
      (λ y. by (draws-nothing f (filter-box s.frame.viewport (box_of s) f)) (λ z. rw (y, z) c) (λ z. rw (y, z) c))
      (λ y. rw y c)

pub step-closes : (r : Recording) (x : Step) (js : List ℕ) (s : State) → Judged r x → All (Closes r.segments) s.layers → All (Closes r.segments) (plan x js s).layers
unfolding plan plan-fill plan-push Judged
step-closes r (a-fill ps ss d) js s j c = c
step-closes r (a-push p) js s j c = cons j.1 c
step-closes r (a-pop ss) js s j c = pop-closes r.segments s.layers ss js s c c
step-closes r (a-filter n f q) js s j c = filter-closes r.segments n f q s c

-- one past the last id, and one more than there is room for
last-left : (n : ℕ) → ltb 1048577 (n + 1) ≡ ltb last-id n
last-left n = grind (arith, nat_tests)

one-past : (n k : ℕ) → ltb n (k + 1) ≡ leb n k
one-past n k = grind (arith, nat_tests)

one-longer : {A : Type 0} (xs : List A) (x : A) (n : ℕ) → ltb n (length (xs ++ (x ∷ []))) ≡ leb n (length xs)
one-longer xs x n = rw length-append (one-past n (length xs))

within : (n : ℕ) {k : ℕ} → k ≤ n → ltb n k ≡ false
within n {k} h = le-ltb n k h

or-false : (b : Bool) → (b || false) ≡ b
or-false true = refl
or-false false = refl

-- the limit of a plan that isn't refused for its inputs, where no layer is too deep
limit-is : (p : Plan) (i c : Bool) → p.refused ≡ Done → ltb most-layers (length p.layers) ≡ false → ltb 1048577 p.next ≡ i → attrs-full p.attrs ≡ c
    → limit p ≡ first_of ((i, Ids) ∷ (c, FullAttrs) ∷ [])
limit-is p i c j d e f = rw (eq-eqb p.refused Done j, d, e, f)

module _ (w : ℕ) (v : Box) (row tile : ℕ) (ws : List ℕ) where
  fill-limit : (ps : List Paint) (ss : List Segment) (d : Draw) (o : Story) (s : State) (said : List Line) (m : ℕ) → Stands v o s → Limits (still Done s)
      → judge-segments (not (good-fill ps ss d)) (draw-segments ss d) ≡ Done
      → (tell-at w v row tile (a-fill ps ss d) (telling ws o said m (length s.attrs.filters))).number ≡ limit (plan-fill ps ss d s)
  unfolding tell-at tell-fill plan-fill
  fill-limit ps ss d o s said m h q j =
      let own = draw-segments ss d in
      let new = with-paint s d.paint d.blend d.mask d.thread d.panel [] in
      let k = few s.attrs q.attrs in
      let i : ltb 1048577 (s.next + 1) ≡ ltb last-id o.next = last-left s.next ∙ ap (ltb last-id) h.next in
      let full : attrs-full new ≡ leb most-attrs o.paints =
      rw (append-nil, within most-attrs k.layers, within most-filters k.filters) (simp or-false (one-longer s.attrs.paints _ most-attrs ∙ ap (leb most-attrs) h.paints)) in
      let c : attrs-full (cond (is-empty own) s.attrs new) ≡ (not (is-empty own) && leb most-attrs o.paints) =
      by (is-empty own) (λ y. rw y q.attrs) (λ z. rw z full) in
      settle-number _ _ _ ∙ sym (limit-is (plan-fill ps ss d s) _ _ j q.deep i c)

  push-limit : (p : Props) (o : Story) (s : State) (said : List Line) (m : ℕ) → Stands v o s → Limits (still Done s) → good-props p ≡ true
      → (tell-at w v row tile (a-push p) (telling ws o said m (length s.attrs.filters))).number ≡ limit (plan-push p s)
  unfolding tell-at tell-push plan-push
  push-limit p o s said m h q j =
      let e : ltb most-layers (suc (length s.layers)) ≡ leb most-layers (length (map layer-in o.open-layers)) =
      ap (λ (n : ℕ). ltb most-layers n) (omega arith) ∙ one-past most-layers (length s.layers) ∙ ap (λ (ls : List Layer). leb most-layers (length ls)) h.opened in
      let z : limit (plan-push p s) ≡ first_of ((leb most-layers (length (map layer-in o.open-layers)), Deep) ∷ []) = rw (j, e, q.ids, q.attrs) in
      settle-number _ _ _ ∙ sym z

  pop-limit : (ls : List OpenLayer) (ss : List Segment) (js : List ℕ) (o : Story) (s : State) (said : List Line) (m : ℕ) → Stands v o s → Limits (still Done s)
      → (ms : List Layer) → ms ≡ map layer-in ls → ltb most-layers (length ms) ≡ false → All (Closes ss) ms
      → (tell-pop w v row tile (map layer-in ls) ss (telling ws o said m (length s.attrs.filters))).number ≡ limit (plan-pop ms ss js s)
  unfolding tell-pop plan-pop
  pop-limit [] ss js o s said m h q ms e d c = rw e
  pop-limit (l ∷ ls) ss js o s said m h q ms e d c =
      let k = few s.attrs q.attrs in
      let i : ltb 1048577 (s.next + 1) ≡ ltb last-id o.next = last-left s.next ∙ ap (ltb last-id) h.next in
      let full : attrs-full (with-layer s l.layer.props) ≡ leb most-attrs o.layers =
      rw (within most-attrs k.paints, within most-filters k.filters, or-false) (one-longer s.attrs.layers _ most-attrs ∙ ap (leb most-attrs) h.layers) in
      let deep : ltb most-layers (length (map layer-in ls)) ≡ false = grind (arith, nat_tests, rw e at d) in
      rw e (settle-number _ _ _ ∙ sym (limit-is (plan-pop (layer-in l ∷ map layer-in ls) ss js s) _ _ (head (rw e at c)) deep i full))

  filter-limit : (n : ℕ) (f : Filter) (u : ℕ) (o : Story) (s : State) (said : List Line) (m : ℕ) → Stands v o s → Limits (still Done s) → good-filter-fill n f u ≡ true
      → (tell-at w v row tile (a-filter n f u) (telling ws o said m (length s.attrs.filters))).number ≡ limit (plan-filter n f u s)
  unfolding tell-at tell-filter plan-filter-in
  filter-limit n f u o s said m h q j =
      let b = filter-box v (box-now v o.open-layers) f in
      let e : filter-box s.frame.viewport (box_of s) f ≡ b = rw (h.view, h.opened) in
      let d : draws-nothing f (filter-box s.frame.viewport (box_of s) f) ≡ draws-nothing f b = ap (draws-nothing f) e in
      let k = few s.attrs q.attrs in
      let i : ltb 1048577 (s.next + 1) ≡ ltb last-id o.next = last-left s.next ∙ ap (ltb last-id) h.next in
      let p = plan-filter-in b n f u s in
      let full : attrs-full p.attrs ≡ (leb most-attrs o.paints || leb most-filters (length s.attrs.filters)) =
      rw (within most-attrs k.layers, or-false, one-longer s.attrs.paints _ most-attrs, one-longer s.attrs.filters _ most-filters, h.paints) in
      by (draws-nothing f b)
      (λ y. let z = filter_none n f u s j (d ∙ y) in rw (y, z, q.deep, q.ids, q.attrs))
      (λ y. let z = filter-some n f u s b e j (d ∙ y) in rw (y, z) (settle-number _ _ _ ∙ sym (limit-is p _ _ refl q.deep i full)))

  -- x, from a state within the limits whose open layers close
  pub step-limit : (r : Recording) (x : Step) (js : List ℕ) (o : Story) (s : State) (said : List Line) (m : ℕ) → Stands v o s → Limits (still Done s)
      → Judged r x → All (Closes r.segments) s.layers
      → (tell-at w v row tile x (telling ws o said m (length s.attrs.filters))).number ≡ limit (plan x js s)
  unfolding plan Judged
  step-limit r (a-fill ps ss d) js o s said m h q j c = fill-limit ps ss d o s said m h q j
  step-limit r (a-push p) js o s said m h q j c = push-limit p o s said m h q j.0
  step-limit r (a-pop ss) js o s said m h q j c = unfold tell-at in pop-limit o.open-layers ss js o s said m h q s.layers h.opened q.deep (rw j c)
  step-limit r (a-filter n f u) js o s said m h q j c = filter-limit n f u o s said m h q j
