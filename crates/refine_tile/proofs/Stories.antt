-- Done steps of the rules fit the story of a tile: a screen's state and the story go together, and what was judged of a step is known of the story.
use Rattle.std.proofs.Common.{ℕ, ◌+◌, arith, ◌≡◌, refl, sym, ◌∙◌, ap, true, false, ◌&&◌, not, cond, List, [], ◌∷◌, map, length, length-append}
use Rattle.rules.specs.Lists.{is-empty}
use Rattle.rules.specs.Answers.{Done, BadRecord, NoLayer}
use Rattle.rules.specs.Boxes.{Box}
use Rattle.rules.specs.Segments.{Segment}
use Rattle.rules.specs.Inputs.{Paint, Draw, draw-segments, Props, Filter, good-filter-fill}
use Rattle.rules.specs.Rows.{Row, RowOps, fresh-row, row-ops}
use Rattle.rules.specs.Plans.{Frame, Layer, State, Step, a-fill, a-push, a-pop, a-filter, Plan, still, box_of, with-paint, layer-box, touches-all, filter-box, draws-nothing, plan-fill, plan-push, plan-pop, plan-filter-in, plan-filter, plan}
use Rattle.rules.specs.Steps.{Screen, reset, done, touched, call}
use Rattle.rules.specs.Plain.{Told, OpenLayer, Story, untold, touch-all, box-now, here, in_rows, tell-fill, tell-push, tell-pop, tell-filter, tell-step}
use Rattle.rules_picture.proofs.Cases.{by}
use Rattle.rules_picture.proofs.Shape.{touched-layers}
use Rattle.rules_picture.proofs.Stepped.{call-carried}
use Rattle.rules_picture.proofs.Follows.{layer-in}
use Rattle.refine_tile.proofs.Inside.{PopFits, Fits}

-- a screen's state and the story: the viewport is v
pub record Stands (v : Box) (o : Story) (s : State) : Type 0 where
  pub view : s.frame.viewport ≡ v
  pub next : s.next ≡ o.next
  pub paints : length s.attrs.paints ≡ o.paints
  pub layers : length s.attrs.layers ≡ o.layers
  pub opened : s.layers ≡ map layer-in o.open-layers

-- the state that a plan leaves
abbrev pub planned : Plan → State → State
planned p s = record { frame = s.frame; next = p.next; attrs = p.attrs; layers = p.layers }

-- the plan of a filter that isn't refused, in the box b
filter-good : (n : ℕ) (f : Filter) (q : ℕ) (s : State) → (plan-filter n f q s).refused ≡ Done → good-filter-fill n f q ≡ true
unfolding plan-filter
filter-good n f q s j = by (good-filter-fill n f q) (λ y. y) (λ z. let k : ◌≡◌ {A = ℕ} BadRecord Done = rw z at j in absurd (omega arith))

pub filter-planned : (n : ℕ) (f : Filter) (q : ℕ) (s : State) (b : Box) → filter-box s.frame.viewport (box_of s) f ≡ b → (plan-filter n f q s).refused ≡ Done
    → plan-filter n f q s ≡ cond (draws-nothing f b) (still Done s) (plan-filter-in b n f q s)
unfolding plan-filter
filter-planned n f q s b e j = rw (filter-good n f q s j) (ap (λ (c : Box). cond (draws-nothing f c) (still Done s) (plan-filter-in c n f q s)) e)

pub done-state : {R : Type 0} (ops : RowOps R) (p : Plan) (s : Screen R) → (done R ops p s).state ≡ planned p s.state
unfolding done
done-state ops p s = refl

module _ (w : ℕ) (v : Box) (row tile : ℕ) where
  fill-stands : (ps : List Paint) (ss : List Segment) (d : Draw) (o : Story) (s : State) → Stands v o s
      → Stands v (tell-fill w v row tile ps ss d o) (planned (plan-fill ps ss d s) s)
  unfolding plan-fill
  fill-stands ps ss d o s h =
      let own = draw-segments ss d in
      let new = with-paint s d.paint d.blend d.mask d.thread d.panel [] in
      let p : length (cond (is-empty own) s.attrs new).paints ≡ cond (is-empty own) o.paints (o.paints + 1) =
      by (is-empty own) (λ y. rw y h.paints) (λ n. rw (n, length-append) (ap (λ (m : ℕ). m + 1) h.paints)) in
      let l : length (cond (is-empty own) s.attrs new).layers ≡ o.layers = by (is-empty own) (λ y. rw y h.layers) (λ n. rw n h.layers) in
      record {
        view = h.view;
        next = ap (λ (m : ℕ). m + 1) h.next;
        paints = p;
        layers = l;
        opened = h.opened ∙ sym (touched-layers (not (is-empty (here w v row tile o.open-layers own))) o.open-layers);
      }

  push-stands : (p : Props) (o : Story) (s : State) → Stands v o s → Stands v (tell-push w v row tile p o) (planned (plan-push p s) s)
  unfolding plan-push
  push-stands p o s h =
      let b = layer-box v (box-now v o.open-layers) p.clip in
      let l : OpenLayer = record { layer = record { props = p; bounds = b }; touched = false } in
      record {
        view = h.view;
        next = h.next;
        paints = h.paints;
        layers = h.layers;
        opened = rw (h.view, h.opened) (sym (touched-layers (touches-all p b && in_rows w v row tile b) (l ∷ o.open-layers)));
      }

  pop-stands : (ss : List Segment) (js : List ℕ) (o : Story) (s : State) → Stands v o s → (ls : List OpenLayer) → o.open-layers ≡ ls → (ms : List Layer) → ms ≡ map layer-in ls
      → (plan-pop ms ss js s).refused ≡ Done → PopFits ls ss × Stands v (tell-pop w v row tile ls ss o) (planned (plan-pop ms ss js s) s)
  unfolding plan-pop PopFits
  pop-stands ss js o s h [] q ms e j = let k : ◌≡◌ {A = ℕ} NoLayer Done = rw e at j in absurd (omega arith)
  pop-stands ss js o s h (l ∷ ls) q ms e j =
      rw e (
        rw e at j,
        record {
          view = h.view;
          next = ap (λ (m : ℕ). m + 1) h.next;
          paints = h.paints;
          layers = rw length-append (ap (λ (m : ℕ). m + 1) h.layers);
          opened = refl;
        },
      )

  filter-in-stands : (n : ℕ) (f : Filter) (q : ℕ) (o : Story) (s : State) (b : Box) (ts : List Told) → Stands v o s
      → Stands v
      (record {
        next = o.next + 1;
        paints = o.paints + 1;
        layers = o.layers;
        open-layers = touch-all (in_rows w v row tile b) o.open-layers;
        told = ts;
      })
      (planned (plan-filter-in b n f q s) s)
  unfolding plan-filter-in
  filter-in-stands n f q o s b ts h =
      record {
        view = h.view;
        next = ap (λ (m : ℕ). m + 1) h.next;
        paints = rw length-append (ap (λ (m : ℕ). m + 1) h.paints);
        layers = h.layers;
        opened = h.opened ∙ sym (touched-layers (in_rows w v row tile b) o.open-layers);
      }

  filter-stands : (n : ℕ) (f : Filter) (q : ℕ) (o : Story) (s : State) → Stands v o s → (plan-filter n f q s).refused ≡ Done → Stands v (tell-filter w v row tile f q o) (planned (plan-filter n f q s) s)
  filter-stands n f q o s h j =
      let b = filter-box v (box-now v o.open-layers) f in
      let e : filter-box s.frame.viewport (box_of s) f ≡ b = rw (h.view, h.opened) in
      let p = filter-planned n f q s b e j in
      by (draws-nothing f b)
      (λ y. let z : plan-filter n f q s ≡ still Done s = p ∙ rw y in rw (y, z) h)
      (λ m. let z : plan-filter n f q s ≡ plan-filter-in b n f q s = p ∙ rw m in rw (m, z) (filter-in-stands n f q o s b _ h))

  -- a step that isn't refused for its inputs fits the story, and state and story go together after it
  pub step-stands : (x : Step) (js : List ℕ) (o : Story) (s : State) → Stands v o s → (plan x js s).refused ≡ Done
      → Fits x o × Stands v (tell-step w v row tile x o) (planned (plan x js s) s)
  unfolding plan tell-step Fits
  step-stands (a-fill ps ss d) js o s h j = (unfold plan-fill in j, fill-stands ps ss d o s h)
  step-stands (a-push p) js o s h j = (tt, push-stands p o s h)
  step-stands (a-pop ss) js o s h j = pop-stands ss js o s h o.open-layers refl s.layers h.opened j
  step-stands (a-filter n f q) js o s h j = (tt, filter-stands n f q o s h j)

  -- a done step, on rows of any kind
  pub call-stands : {R : Type 0} (ops : RowOps R) (x : Step) (o : Story) (s : Screen R) → Stands v o s.state → (call R ops x s).number ≡ Done
      → Fits x o × Stands v (tell-step w v row tile x o) (call R ops x s).value.state
  call-stands {R} ops x o s h e =
      let js = touched R ops (length s.state.layers) 0 s.rows in
      let (j, q) = call-carried ops x s e in
      let r = step-stands x js o s.state h j in
      (r.0, rw (q, done-state ops (plan x js s.state) s) r.1)

-- a reset screen and an untold story
pub reset-stands : (f : Frame) → Stands f.viewport untold (reset fresh-row f).state
unfolding reset
reset-stands f = record { view = refl; next = refl; paints = refl; layers = refl; opened = refl }
