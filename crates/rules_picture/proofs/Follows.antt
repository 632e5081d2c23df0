-- A screen and the story of one tile of one row, step by step: after each done step the row holds what has been told.
use Rattle.std.proofs.Common.{ℕ, ◌+◌, ◌<◌, arith, ◌≡◌, refl, sym, ◌∙◌, ap, Bool, true, not, cond, List, [], ◌∷◌, ◌++◌, map, append-nil, append_assoc, length, get_or, length-append}
use lib.ListN.{length-map}
use lib.Seq.{get_or-append_seam}
use Rattle.rules.specs.Lists.{is-empty}
use Rattle.rules.specs.Answers.{Done}
use Rattle.rules.specs.Boxes.{Box}
use Rattle.rules.specs.Segments.{Segment, judge-segments, cuts}
use Rattle.rules.specs.Inputs.{Paint, Draw, draw-segments, draw-paint, good-fill}
use Rattle.rules.specs.Attributes.{PaintAttr, no-paint, LayerAttr, Attrs}
use Rattle.rules.specs.Rows.{Row, fresh-row, row-ops}
use Rattle.rules.specs.Plans.{bucket, Layer, Act, eligible, box_of, draw-puts, with-paint, plan-fill}
use Rattle.rules.specs.Steps.{Screen, do-puts, done}
use Rattle.rules.specs.Plain.{OpenLayer, Story, box-now, here, tell-fill}
use Rattle.rules.proofs.All.{never, and_left}
use Rattle.rules.proofs.laws.Changes.{puts-length}
use Rattle.rules.proofs.laws.Bounds.{judged-facts}
use Rattle.rules_picture.proofs.Cases.{by}
use Rattle.rules_picture.proofs.Acts.{do-acts, row-by-row}
use Rattle.rules_picture.proofs.Rows.{PaintHas}
use Rattle.rules_picture.proofs.Acted.{adds_none}
use Rattle.rules_picture.proofs.Shape.{touched-layers}
use Rattle.rules_picture.proofs.Listed.{cut-act, draw-acts}
use Rattle.rules_picture.proofs.Single.{single}
use Rattle.rules_picture.proofs.Holds.{holds-still}
use Rattle.rules_picture.proofs.Grown.{Grown, draw-grows}

abbrev pub layer-in : OpenLayer → Layer
layer-in l = l.layer

pub map-empty : (ls : List OpenLayer) → is-empty (map layer-in ls) ≡ is-empty ls
map-empty [] = refl
map-empty (l ∷ ls) = refl

pub empty-length : {A : Type 0} (xs : List A) → is-empty xs ≡ true → length xs ≡ 0
empty-length [] e = refl
empty-length (x ∷ xs) e = let z : ◌≡◌ {A = ℕ} 0 1 = ap (λ (b : Bool). cond b 1 0) e in absurd (omega arith)

module _ (w : ℕ) (attrs : Attrs) (t : ℕ) (v : Box) (row : ℕ) where
  -- the attributes that stand at the end begin with these
  pub record Leads (a : Attrs) : Type 0 where
    pub paints-more : List PaintAttr
    pub paints : attrs.paints ≡ a.paints ++ paints-more
    pub layers-more : List LayerAttr
    pub layers : attrs.layers ≡ a.layers ++ layers-more

  pub record Follows (o : Story) (s : Screen Row) : Type 0 where
    pub view : s.state.frame.viewport ≡ v
    pub wide : bucket s.state.frame ≡ w
    pub next : s.state.next ≡ o.next
    pub first : 0 < o.next
    pub paints : length s.state.attrs.paints ≡ o.paints
    pub layers : length s.state.attrs.layers ≡ o.layers
    pub opened : s.state.layers ≡ map layer-in o.open-layers
    pub there : row < length s.rows
    pub grown : Grown w attrs t v row o.told o.next o.open-layers (get_or s.rows row fresh-row)

  -- the id and the panel of an attribute that a step adds
  pub new-paint : (ps : List PaintAttr) (x : PaintAttr) (more : List PaintAttr) → attrs.paints ≡ (ps ++ (x ∷ [])) ++ more → PaintHas attrs (length ps) x.id x.panel
  new-paint ps x more e =
      let is : get_or attrs.paints (length ps) no-paint ≡ x =
      ap (λ (l : List PaintAttr). get_or l (length ps) no-paint) (e ∙ append_assoc ps (x ∷ []) more) ∙ get_or-append_seam ps x more no-paint in
      record { id-is = ap (λ (a : PaintAttr). a.id) is; panel-is = ap (λ (a : PaintAttr). a.panel) is }

  -- the draw of a fill that has segments, on the row
  fill-row : 0 < w → (ps : List Paint) (ss : List Segment) (d : Draw) (o : Story) (s : Screen Row) → Follows o s
      → judge-segments (not (good-fill ps ss d)) (draw-segments ss d) ≡ Done
      → PaintHas attrs o.paints o.next d.panel
      → Grown w attrs t v row (tell-fill w v row t ps ss d o).told (o.next + 1) (tell-fill w v row t ps ss d o).open-layers
      (get_or (done Row row-ops (plan-fill ps ss d s.state) s).rows row fresh-row)
  unfolding done plan-fill
  fill-row pos ps ss d o s f j has =
      let own = draw-segments ss d in
      let e = eligible (is-empty o.open-layers) (draw-paint ps d) d in
      let ks = here w v row t o.open-layers own in
      let (_, good, ord) = judged-facts (not (good-fill ps ss d)) own j in
      let g = draw-grows w attrs t v row pos f.grown f.first e o.paints d.panel has
      (λ y. empty-length o.open-layers (and_left _ _ (and_left _ _ (and_left _ _ y)))) ks (single v (box-now v o.open-layers) row t own good ord) in
      let same : do-acts Row row-ops w (length o.open-layers) (map (cut-act e o.paints o.next) ks) (get_or s.rows row fresh-row)
      ≡ get_or (do-puts Row row-ops w (length s.state.layers) (draw-puts (eligible (is-empty s.state.layers) (draw-paint ps d) d) (length s.state.attrs.paints) s.state.next (cuts s.state.frame.viewport (box_of s.state) own)) s.rows) row fresh-row =
      rw (f.view, f.next, f.paints, f.opened, length-map, map-empty o.open-layers)
      (sym (row-by-row Row row-ops w (length o.open-layers) row fresh-row (draw-puts e o.paints o.next (cuts v (box-now v o.open-layers) own)) s.rows f.there
      ∙ ap (λ (xs : List Act). do-acts Row row-ops w (length o.open-layers) xs (get_or s.rows row fresh-row)) (draw-acts e o.paints o.next row (cuts v (box-now v o.open-layers) own)))) in
      rw f.wide (rw same at g)

  -- .. and of one that has none
  fill_none : (ps : List Paint) (ss : List Segment) (d : Draw) (o : Story) (s : Screen Row) → Follows o s → draw-segments ss d ≡ []
      → Grown w attrs t v row (tell-fill w v row t ps ss d o).told (o.next + 1) (tell-fill w v row t ps ss d o).open-layers
      (get_or (done Row row-ops (plan-fill ps ss d s.state) s).rows row fresh-row)
  unfolding done plan-fill cuts draw-puts do-puts
  fill_none ps ss d o s f e =
      let r = get_or s.rows row fresh-row in
      rw (e, append-nil o.told)
      (record {
        holds = holds-still w attrs t f.grown.holds (adds_none w attrs t r f.grown.holds.sound) (o.next + 1) (omega arith);
        shape = f.grown.shape;
      })

  pub empty-list : {A : Type 0} (xs : List A) → is-empty xs ≡ true → xs ≡ []
  empty-list [] e = refl
  empty-list (x ∷ xs) e = never (sym e)

  -- a done fill
  pub fill-follows : 0 < w → (ps : List Paint) (ss : List Segment) (d : Draw) (o : Story) (s : Screen Row) → Follows o s
      → (plan-fill ps ss d s.state).refused ≡ Done → Leads (plan-fill ps ss d s.state).attrs
      → Follows (tell-fill w v row t ps ss d o) (done Row row-ops (plan-fill ps ss d s.state) s)
  unfolding done plan-fill
  fill-follows pos ps ss d o s f j l =
      let own = draw-segments ss d in
      let ks = here w v row t o.open-layers own in
      let st = s.state in
      let puts = draw-puts (eligible (is-empty st.layers) (draw-paint ps d) d) (length st.attrs.paints) st.next (cuts st.frame.viewport (box_of st) own) in
      let rest : (length (cond (is-empty own) st.attrs (with-paint st d.paint d.blend d.mask d.thread d.panel [])).paints ≡ cond (is-empty own) o.paints (o.paints + 1))
      × (length (cond (is-empty own) st.attrs (with-paint st d.paint d.blend d.mask d.thread d.panel [])).layers ≡ o.layers)
      × Grown w attrs t v row (tell-fill w v row t ps ss d o).told (o.next + 1) (tell-fill w v row t ps ss d o).open-layers
      (get_or (done Row row-ops (plan-fill ps ss d s.state) s).rows row fresh-row) =
      by (is-empty own)
      (λ y. (rw y f.paints, rw y f.layers, fill_none ps ss d o s f (empty-list own y)))
      (λ n.
      let p = rw n at l.paints in
      let has = new-paint st.attrs.paints _ l.paints-more p in (
        rw (n, length-append) (ap (λ m. m + 1) f.paints),
        rw n f.layers,
        fill-row pos ps ss d o s f j (rw (f.paints, f.next) at has),
      )) in
      record {
        view = f.view;
        wide = f.wide;
        next = ap (λ m. m + 1) f.next;
        first = omega arith;
        paints = rest.0;
        layers = rest.1;
        opened = f.opened ∙ sym (touched-layers (not (is-empty ks)) o.open-layers);
        there = rw (puts-length Row row-ops (bucket st.frame) (length st.layers) puts s.rows) f.there;
        grown = rest.2;
      }
