-- What each step said stands at its place to the end: tables only grow.
use Rattle.std.proofs.Common.{ℕ, suc, ◌+◌, ◌<◌, arith, ◌≡◌, refl, sym, ◌∙◌, ap, false, List, [], ◌∷◌, ◌++◌, map, append-nil, append_assoc, length, length-append, get_or}
use lib.Seq.{get_or-append_seam}
use Rattle.rules.specs.Lists.{is-empty}
use Rattle.rules.specs.Answers.{Done, BadRecord}
use Rattle.rules.specs.Boxes.{Box}
use Rattle.rules.specs.Segments.{Segment}
use Rattle.rules.specs.Inputs.{draw-segments, Filter, good-filter-fill}
use Rattle.rules.specs.Attributes.{no-paint, no-layer, Attrs}
use Rattle.rules.specs.Rows.{Row, row-ops}
use Rattle.rules.specs.Plans.{bucket, Layer, State, Step, a-fill, a-push, a-pop, a-filter, box_of, filter-box, filter-paint, draws-nothing, plan-fill, plan-push, plan-pop, plan-filter-in, plan-filter, plan}
use Rattle.rules.specs.Steps.{Screen, done, touched, call}
use Rattle.rules.specs.Plain.{OpenLayer, Story, untold, box-now, tell-step}
use Rattle.rules.proofs.laws.Widths.{bucket-some}
use Rattle.rules_picture.specs.Built.{Built, no_step, then}
use Rattle.rules_picture.specs.Places.{draw-attr, filter-attr, props-attr, no-filter, HoldsAt, FilterPlaced, LayerPlaced, StepPlaced, Placed, all-placed, placed-then, AttributesPlaced}
use Rattle.rules_picture.proofs.Cases.{by}
use Rattle.rules_picture.proofs.Follows.{layer-in, Leads, Follows}
use Rattle.rules_picture.proofs.Stepped.{call-done, filter-some, filter-bad, step_follows}
use Rattle.rules_picture.proofs.Picture.{built-leads, reset-follows}

module _ {A : Type 0} where
  -- a longer list
  record Longer (xs ys : List A) : Type 0 where
    more : List A
    is : ys ≡ xs ++ more

  longer-same : (xs : List A) → Longer xs xs
  longer-same xs = record { more = []; is = sym (append-nil xs) }

  longer-both : {xs ys zs : List A} → Longer xs ys → Longer ys zs → Longer xs zs
  longer-both {xs} a b = record { more = a.more ++ b.more; is = b.is ∙ ap (λ (l : List A). l ++ b.more) a.is ∙ append_assoc xs a.more b.more }

  -- one that was added
  added : (ps : List A) (x none : A) (more ys : List A) → ys ≡ (ps ++ (x ∷ [])) ++ more → HoldsAt ys none (length ps) x
  added ps x none more ys e =
      let q : ys ≡ ps ++ (x ∷ more) = e ∙ append_assoc ps (x ∷ []) more in
      let h : length ys ≡ length ps + suc (length more) = ap (λ (l : List A). length l) q ∙ length-append ps (x ∷ more) in
      (omega arith, ap (λ (l : List A). get_or l (length ps) none) q ∙ get_or-append_seam ps x more none)

-- filter paints are only added
pop-filters : (ms : List Layer) (ss : List Segment) (js : List ℕ) (s : State) → Longer s.attrs.filters (plan-pop ms ss js s).attrs.filters
unfolding plan-pop
pop-filters [] ss js s = longer-same s.attrs.filters
pop-filters (m ∷ ms) ss js s = longer-same s.attrs.filters

filter-filters : (n : ℕ) (x : Filter) (q : ℕ) (s : State) → Longer s.attrs.filters (plan-filter n x q s).attrs.filters
unfolding plan-filter plan-filter-in
filter-filters n x q s = by (good-filter-fill n x q)
    (λ y. by (draws-nothing x (filter-box s.frame.viewport (box_of s) x))
    (λ z. rw (y, z) (longer-same s.attrs.filters))
    (λ z. rw (y, z) (record { more = filter-paint x ∷ []; is = refl })))
    (λ n₁. rw n₁ (longer-same s.attrs.filters))

step-filters : (x : Step) (js : List ℕ) (s : State) → Longer s.attrs.filters (plan x js s).attrs.filters
unfolding plan plan-fill plan-push
step-filters (a-fill ps ss d) js s = by (is-empty (draw-segments ss d)) (λ y. rw y (longer-same s.attrs.filters)) (λ n. rw n (record { more = []; is = refl }))
step-filters (a-push p) js s = longer-same s.attrs.filters
step-filters (a-pop ss) js s = pop-filters s.layers ss js s
step-filters (a-filter n f q) js s = filter-filters n f q s

built-filters : {xs : List Step} {s u : Screen Row} → Built xs s u → Longer s.state.attrs.filters u.state.attrs.filters
unfolding done
built-filters {u = u} no_step = longer-same u.state.attrs.filters
built-filters {u = u} (then {x = x} {s = s} e b) =
    let js = touched Row row-ops (length s.state.layers) 0 s.rows in
    let l : Longer (call Row row-ops x s).value.state.attrs.filters u.state.attrs.filters = built-filters b in
    longer-both (step-filters x js s.state) (rw (ap (λ (k : Screen Row). k.state.attrs.filters) (call-done x s e).1) at l)

module _ (w : ℕ) (attrs : Attrs) (t : ℕ) (v : Box) (row : ℕ) where
  -- the place of a pop's attribute, by the open layers
  pop-placed : (ds : List OpenLayer) (ss : List Segment) (js : List ℕ) (o : Story) (s : Screen Row) → Follows w attrs t v row o s → (ms : List Layer) → ms ≡ map layer-in ds
      → Leads w attrs t v row (plan-pop ms ss js s.state).attrs → LayerPlaced attrs ds o
  unfolding plan-pop
  pop-placed [] ss js o s f ms m l = tt
  pop-placed (d ∷ ds) ss js o s f ms m l =
      let k = rw m at l in
      rw (f.layers, f.next) at (added s.state.attrs.layers (props-attr d.layer.props s.state.next) no-layer k.layers-more attrs.layers k.layers)

  filter-placed : (n : ℕ) (x : Filter) (q : ℕ) (o : Story) (s : Screen Row) → Follows w attrs t v row o s → (plan-filter n x q s.state).refused ≡ Done
      → Leads w attrs t v row (plan-filter n x q s.state).attrs → Longer (plan-filter n x q s.state).attrs.filters attrs.filters
      → draws-nothing x (filter-box v (box-now v o.open-layers) x) ≡ false → FilterPlaced attrs v n x q o
  unfolding plan-filter-in
  filter-placed n x q o s f j l g z =
      let b = filter-box v (box-now v o.open-layers) x in
      let e : filter-box s.state.frame.viewport (box_of s.state) x ≡ b = rw (f.view, f.opened) in
      let d : draws-nothing x (filter-box s.state.frame.viewport (box_of s.state) x) ≡ false = ap (draws-nothing x) e ∙ z in
      by (good-filter-fill n x q)
      (λ y.
      let p = filter-some n x q s.state b e y d in
      let k = rw p at l in
      let h = rw p at g in
      let a = added s.state.attrs.paints (filter-attr s.state.frame.viewport (n + length s.state.attrs.filters) q s.state.next) no-paint k.paints-more attrs.paints k.paints in
      record {
        picture = length s.state.attrs.filters;
        paint = added s.state.attrs.filters (filter-paint x) no-filter h.more attrs.filters h.is;
        attribute = rw (f.paints, f.next, f.view) at a;
      })
      (λ y. let k : ◌≡◌ {A = ℕ} BadRecord Done = sym (filter-bad n x q s.state y) ∙ j in absurd (omega arith))

  step-placed : (x : Step) (js : List ℕ) (o : Story) (s : Screen Row) → Follows w attrs t v row o s → (plan x js s.state).refused ≡ Done
      → Leads w attrs t v row (plan x js s.state).attrs → Longer (plan x js s.state).attrs.filters attrs.filters → StepPlaced attrs v x o
  unfolding plan plan-fill
  step-placed (a-fill ps ss d) js o s f j l g = λ n.
      let k = rw n at l in
      rw (f.paints, f.next, f.view) at (added s.state.attrs.paints (draw-attr s.state.frame.viewport d s.state.next) no-paint k.paints-more attrs.paints k.paints)
  step-placed (a-push p) js o s f j l g = tt
  step-placed (a-pop ss) js o s f j l g = pop-placed o.open-layers ss js o s f s.state.layers f.opened l
  step-placed (a-filter n x q) js o s f j l g = λ z. filter-placed n x q o s f j l g z

module _ (w t : ℕ) (v : Box) (row : ℕ) where
  built-placed : 0 < w → {xs : List Step} {s u : Screen Row} → Built xs s u → (o : Story) → Follows w u.state.attrs t v row o s
      → Placed u.state.attrs w v row t xs o
  unfolding done
  built-placed pos no_step o f = all-placed
  built-placed pos {u = u} (then {x = x} {s = s} e b) o f =
      let js = touched Row row-ops (length s.state.layers) 0 s.rows in
      let (j, q) = call-done x s e in
      let l : Leads w u.state.attrs t v row (call Row row-ops x s).value.state.attrs = built-leads w t v row b in
      let m : Longer (call Row row-ops x s).value.state.attrs.filters u.state.attrs.filters = built-filters b in
      let ld = rw (ap (λ (k : Screen Row). k.state.attrs) q) at l in
      let lf = rw (ap (λ (k : Screen Row). k.state.attrs.filters) q) at m in
      let g = step_follows w u.state.attrs t v row pos x o s f j ld in
      placed-then (step-placed w u.state.attrs t v row x js o s f j ld lf) (built-placed pos b (tell-step w v row t x o) (rw q g))

pub attributes-placed : AttributesPlaced
attributes-placed f xs s b r t h = built-placed (bucket f) t f.viewport r (bucket-some f.width) b untold (reset-follows s.state.attrs t r f h)
