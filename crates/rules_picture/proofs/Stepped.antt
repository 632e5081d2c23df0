-- Any done step follows the story of a tile.
use Rattle.std.proofs.Common.{ℕ, ◌<◌, arith, ◌≡◌, refl, sym, ◌∙◌, ap, Bool, true, false, cond, List, [], ◌∷◌, ◌++◌, map, append_assoc, append-nil, length, eqb, eq-eqb, eqb-true}
use lib.ListN.{length-map}
use Rattle.rules.specs.Lists.{is-empty}
use Rattle.rules.specs.Answers.{Done, BadRecord, NoLayer}
use Rattle.rules.specs.Boxes.{Box}
use Rattle.rules.specs.Segments.{Segment}
use Rattle.rules.specs.Inputs.{Filter, good-filter-fill, draw-segments}
use Rattle.rules.specs.Attributes.{PaintAttr, LayerAttr, Attrs}
use Rattle.rules.specs.Rows.{Row, RowOps, row-ops}
use Rattle.rules.specs.Plans.{Layer, State, Step, a-fill, a-push, a-pop, a-filter, box_of, filter-box, draws-nothing, plan-fill, plan-push, plan-pop, plan-filter-in, plan-filter, plan, still}
use Rattle.rules.specs.Steps.{Screen, do-puts, done, refusal, perform, touched, call}
use Rattle.rules.specs.Plain.{Story, OpenLayer, box-now, tell-pop, tell-filter, tell-step}
use Rattle.rules_picture.proofs.Cases.{by}
use Rattle.rules_picture.proofs.Follows.{layer-in, Leads, Follows, fill-follows}
use Rattle.rules_picture.proofs.Pushes.{push-follows, filter-in}
use Rattle.rules_picture.proofs.Pops.{pop-follows}

-- a done call carries its plan out
pub call-carried : {R : Type 0} (ops : RowOps R) (x : Step) (s : Screen R) → (call R ops x s).number ≡ Done
    → ((plan x (touched R ops (length s.state.layers) 0 s.rows) s.state).refused ≡ Done)
    × ((call R ops x s).value ≡ done R ops (plan x (touched R ops (length s.state.layers) 0 s.rows) s.state) s)
unfolding call perform refusal
call-carried {R} ops x s e =
    let p = plan x (touched R ops (length s.state.layers) 0 s.rows) s.state in
    let n = refusal R ops p (done R ops p s) in
    let q : n ≡ Done = by (eqb n Done) (λ y. eqb-true n Done y) (λ z. rw z at e) in
    (by (eqb p.refused Done) (λ y. eqb-true p.refused Done y) (λ z. rw z at q), rw (eq-eqb n Done q))

-- .. over the rules' own rows
pub call-done : (x : Step) (s : Screen Row) → (call Row row-ops x s).number ≡ Done
    → ((plan x (touched Row row-ops (length s.state.layers) 0 s.rows) s.state).refused ≡ Done)
    × ((call Row row-ops x s).value ≡ done Row row-ops (plan x (touched Row row-ops (length s.state.layers) 0 s.rows) s.state) s)
call-done x s e = call-carried row-ops x s e

-- a call, done or refused, keeps the frame, and so the width
pub call-frame : {R : Type 0} (ops : RowOps R) (x : Step) (s : Screen R) → (call R ops x s).value.state.frame ≡ s.state.frame
unfolding call perform done
call-frame {R} ops x s =
    let p = plan x (touched R ops (length s.state.layers) 0 s.rows) s.state in
    by (eqb (refusal R ops p (done R ops p s)) Done) (λ y. rw y) (λ n. rw n)

-- the plan of a filter by what it draws in the box b
pub filter_none : (n : ℕ) (x : Filter) (q : ℕ) (s : State) → (good-filter-fill n x q) ≡ true → draws-nothing x (filter-box s.frame.viewport (box_of s) x) ≡ true → plan-filter n x q s ≡ still Done s
unfolding plan-filter
filter_none n x q s y z = rw (y, z)

pub filter-some : (n : ℕ) (x : Filter) (q : ℕ) (s : State) (b : Box) → filter-box s.frame.viewport (box_of s) x ≡ b → (good-filter-fill n x q) ≡ true
    → draws-nothing x (filter-box s.frame.viewport (box_of s) x) ≡ false → plan-filter n x q s ≡ plan-filter-in b n x q s
unfolding plan-filter
filter-some n x q s b e y z = rw (y, z) (ap (λ (c : Box). plan-filter-in c n x q s) e)

pub filter-bad : (n : ℕ) (x : Filter) (q : ℕ) (s : State) → (good-filter-fill n x q) ≡ false → (plan-filter n x q s).refused ≡ BadRecord
unfolding plan-filter
filter-bad n x q s z = rw z

module _ (w : ℕ) (attrs : Attrs) (t : ℕ) (v : Box) (row : ℕ) where
  still-follows : (o : Story) (s : Screen Row) → Follows w attrs t v row o s → Follows w attrs t v row o (done Row row-ops (still Done s.state) s)
  unfolding done do-puts
  still-follows o s f =
      record { view = f.view; wide = f.wide; next = f.next; first = f.first; paints = f.paints; layers = f.layers; opened = f.opened; there = f.there; grown = f.grown }

  pub filter-follows : 0 < w → (n : ℕ) (x : Filter) (q : ℕ) (o : Story) (s : Screen Row) → Follows w attrs t v row o s
      → (plan-filter n x q s.state).refused ≡ Done → Leads w attrs t v row (plan-filter n x q s.state).attrs
      → Follows w attrs t v row (tell-filter w v row t x q o) (done Row row-ops (plan-filter n x q s.state) s)
  filter-follows pos n x q o s f j l =
      let b = filter-box v (box-now v o.open-layers) x in
      let e : filter-box s.state.frame.viewport (box_of s.state) x ≡ b = rw (f.view, f.opened) in
      let d : draws-nothing x (filter-box s.state.frame.viewport (box_of s.state) x) ≡ draws-nothing x b = ap (draws-nothing x) e in
      by (good-filter-fill n x q)
      (λ y. by (draws-nothing x b)
      (λ z. rw (z, filter_none n x q s.state y (d ∙ z)) (still-follows o s f))
      (λ z.
      let p = filter-some n x q s.state b e y (d ∙ z) in
      rw (z, p) (filter-in w attrs t v row pos n x q b o s f (rw p at l))))
      (λ z. let k : ◌≡◌ {A = ℕ} BadRecord Done = sym (filter-bad n x q s.state z) ∙ j in absurd (omega arith))

  pop-any : (ss : List Segment) (o : Story) (ds : List OpenLayer) (s : Screen Row) → Follows w attrs t v row o s → o.open-layers ≡ ds → (ms : List Layer) → ms ≡ map layer-in ds
      → (plan-pop ms ss (touched Row row-ops (length ms) 0 s.rows) s.state).refused ≡ Done
      → Leads w attrs t v row (plan-pop ms ss (touched Row row-ops (length ms) 0 s.rows) s.state).attrs
      → Follows w attrs t v row (tell-pop w v row t ds ss o) (done Row row-ops (plan-pop ms ss (touched Row row-ops (length ms) 0 s.rows) s.state) s)
  unfolding plan-pop
  pop-any ss o [] s f e ms m j l = let k : ◌≡◌ {A = ℕ} NoLayer Done = rw m at j in absurd (omega arith)
  pop-any ss o (d ∷ ds) s f e ms m j l = rw (m, length-map) (pop-follows w attrs t v row ss o d ds s f e (rw m at j) (rw m at l))

  -- any done step: the row holds afterwards what plain draw order has told the tile
  pub step_follows : 0 < w → (x : Step) (o : Story) (s : Screen Row) → Follows w attrs t v row o s
      → (plan x (touched Row row-ops (length s.state.layers) 0 s.rows) s.state).refused ≡ Done
      → Leads w attrs t v row (plan x (touched Row row-ops (length s.state.layers) 0 s.rows) s.state).attrs
      → Follows w attrs t v row (tell-step w v row t x o) (done Row row-ops (plan x (touched Row row-ops (length s.state.layers) 0 s.rows) s.state) s)
  unfolding plan tell-step
  step_follows pos (a-fill ps ss d) o s f j l = fill-follows w attrs t v row pos ps ss d o s f j l
  step_follows pos (a-push p) o s f j l = push-follows w attrs t v row p o s f
  step_follows pos (a-pop ss) o s f j l = pop-any ss o o.open-layers s f refl s.state.layers f.opened j l
  step_follows pos (a-filter n x q) o s f j l = filter-follows pos n x q o s f j l

  -- attributes are only added
  leads-more : (a b : Attrs) (p : List PaintAttr) (q : List LayerAttr) → b.paints ≡ a.paints ++ p → b.layers ≡ a.layers ++ q → Leads w attrs t v row b → Leads w attrs t v row a
  leads-more a b p q e h l = record {
    paints-more = p ++ l.paints-more;
    paints = l.paints ∙ ap (λ (xs : List PaintAttr). xs ++ l.paints-more) e ∙ append_assoc a.paints p l.paints-more;
    layers-more = q ++ l.layers-more;
    layers = l.layers ∙ ap (λ (xs : List LayerAttr). xs ++ l.layers-more) h ∙ append_assoc a.layers q l.layers-more;
  }

  leads-pop : (ms : List Layer) (ss : List Segment) (js : List ℕ) (s : State) → Leads w attrs t v row (plan-pop ms ss js s).attrs → Leads w attrs t v row s.attrs
  unfolding plan-pop
  leads-pop [] ss js s l = l
  leads-pop (m ∷ ms) ss js s l = leads-more s.attrs _ [] _ (sym (append-nil s.attrs.paints)) refl l

  leads-cond : (b : Bool) (s : State) (a : Attrs) (p : List PaintAttr) → a.paints ≡ s.attrs.paints ++ p → a.layers ≡ s.attrs.layers
      → Leads w attrs t v row (cond b s.attrs a) → Leads w attrs t v row s.attrs
  leads-cond true s a p e h l = l
  leads-cond false s a p e h l = leads-more s.attrs a p [] e (h ∙ sym (append-nil s.attrs.layers)) l

  leads-filter : (n : ℕ) (x : Filter) (q : ℕ) (s : State) → Leads w attrs t v row (plan-filter n x q s).attrs → Leads w attrs t v row s.attrs
  unfolding plan-filter plan-filter-in
  leads-filter n x q s l = by (good-filter-fill n x q)
      (λ y. by (draws-nothing x (filter-box s.frame.viewport (box_of s) x))
      (λ z. rw (filter_none n x q s y z) at l)
      (λ z.
      let k = rw (filter-some n x q s (filter-box s.frame.viewport (box_of s) x) refl y z) at l in
      leads-more s.attrs _ _ [] refl (sym (append-nil s.attrs.layers)) k))
      (λ z. rw z at l)

  pub step-leads : (x : Step) (js : List ℕ) (s : State) → Leads w attrs t v row (plan x js s).attrs → Leads w attrs t v row s.attrs
  unfolding plan plan-fill plan-push
  step-leads (a-fill ps ss d) js s l = leads-cond (is-empty (draw-segments ss d)) s _ _ refl refl l
  step-leads (a-push p) js s l = l
  step-leads (a-pop ss) js s l = leads-pop s.layers ss js s l
  step-leads (a-filter n x q) js s l = leads-filter n x q s l
