-- Any done step keeps the buffers of plain draw order and those of a row together.
use Rattle.std.proofs.Common.{ℕ, suc, ◌+◌, ◌<◌, zero-add, arith, ◌≡◌, refl, sym, ◌∙◌, ap, Bool, true, false, ◌&&◌, not, cond, Option, None, Some, List, [], ◌∷◌, ◌++◌, map, append_assoc, length, get_or, length-append}
use Rattle.std.proofs.Common.{eqb}
use lib.ListN.{length-map}
use lib.Seq.{get_or-append_seam}
use Rattle.rules.specs.Lists.{keep, is-empty, some_of}
use Rattle.rules.specs.Answers.{Done, BadRecord, NoLayer}
use Rattle.rules.specs.Boxes.{Box, rows_in, span_of}
use Rattle.rules.specs.Spans.{solid-tiles}
use Rattle.rules.specs.Segments.{Segment, judge-segments, Cut, cuts}
use Rattle.rules.specs.Inputs.{Paint, Draw, draw-segments, draw-paint, good-fill, Clip, Props, Filter, good-filter-fill}
use Rattle.rules.specs.Attributes.{LayerAttr, no-layer, Attrs}
use Rattle.rules.specs.Rows.{Row, fresh-row, row-ops}
use Rattle.rules.specs.Plans.{Layer, Step, a-fill, a-push, a-pop, a-filter, Act, Put, on, touch, paint, pop, eligible, box_of, draw-puts, plan-fill, layer-box, touches-all, plan-push, with-layer, plan-pop, closing, filter-box, draws-nothing, filter-puts, plan-filter-in, plan-filter, plan}
use Rattle.rules.specs.Steps.{Screen, do-puts, done, touched}
use Rattle.rules.specs.Plain.{Told, OpenLayer, Story, touch-all, box-now, here, closers, tell, tell-fill, tell-push, tell-pop, tell-filter, tell-step, in_rows}
use Rattle.rules.proofs.All.{All, cons, never, and_left}
use Rattle.rules.proofs.laws.Bounds.{judged-facts}
use Rattle.rules_picture.specs.Colours.{Colours, opened, ended, dropped, drawn, step-entries, Opaque}
use Rattle.rules_picture.proofs.Cases.{by}
use Rattle.rules_picture.proofs.Acts.{acts-at, do-acts, row-by-row}
use Rattle.rules_picture.proofs.Rows.{cons_tail, PaintHas, LayerHas}
use Rattle.rules_picture.proofs.Listed.{cut-act, draw-acts, Rows, acts-once}
use Rattle.rules_picture.proofs.Shape.{shape-inner}
use Rattle.rules_picture.proofs.Single.{single}
use Rattle.rules_picture.proofs.Grown.{Grown, close-act}
use Rattle.rules_picture.proofs.Follows.{layer-in, Leads, Follows, new-paint, map-empty, empty-length, empty-list}
use Rattle.rules_picture.proofs.Pushes.{box-acts, push-acts, cut-single, cut-acts, cut-some}
use Rattle.rules_picture.proofs.Pops.{acts-both, touched-rows, touched-has, closing-acts, new-layer}
use Rattle.rules_picture.proofs.Stepped.{filter_none, filter-some, filter-bad}
use Rattle.rules_picture.proofs.Stacked.{entries, Stacked}
use Rattle.rules_picture.proofs.Restacked.{draw-stacks, push-stacks, close-stacks, leave-stacks}

append-cancel : {A : Type 0} (xs ys zs : List A) → xs ++ ys ≡ xs ++ zs → ys ≡ zs
append-cancel [] ys zs e = e
append-cancel (x ∷ xs) ys zs e = append-cancel xs ys zs (cons_tail e)

module _ {B : Type 0} (c : Colours B) (closes : OpenLayer → Bool) (w : ℕ) (attrs : Attrs) (t : ℕ) (v : Box) (row : ℕ) where
  -- an open layer that closes where its row is touched, and, where it closes in a row that is not, leaves what was there
  pub record Fair (l : OpenLayer) : Type 0 where
    pub touched-closes : l.touched ≡ true → closes l ≡ true
    pub leaves : l.touched ≡ false → closes l ≡ true → (i : ℕ) → i < length attrs.layers → (get_or attrs.layers i no-layer).blend ≡ l.layer.props.blend → (a : Option ℕ) (d : B) → c.close i a c.blank d ≡ d

  abbrev Stack : List OpenLayer → Row → List B → Type 0
  Stack ls r bs = Stacked c w attrs t v row ls r bs

  abbrev Tells : Bool → ℕ → ℕ → ℕ → ℕ → Bool → List Cut → List Told
  Tells l i q n id e ks = tell w v row t l i q n id e ks

  abbrev mark : OpenLayer → OpenLayer
  mark l = record { layer = l.layer; touched = closes l }

  mark-box : (ls : List OpenLayer) → box-now v (map mark ls) ≡ box-now v ls
  mark-box [] = refl
  mark-box (l ∷ ls) = refl

  mark-empty : (ls : List OpenLayer) → is-empty (map mark ls) ≡ is-empty ls
  mark-empty [] = refl
  mark-empty (l ∷ ls) = refl

  -- a fill that has segments
  fill-stacks : 0 < w → (ps : List Paint) (ss : List Segment) (d : Draw) (o : Story) (s : Screen Row) (bs : List B) → Follows w attrs t v row o s
      → Stack o.open-layers (get_or s.rows row fresh-row) bs
      → judge-segments (not (good-fill ps ss d)) (draw-segments ss d) ≡ Done
      → PaintHas attrs o.paints o.next d.panel
      → Opaque c (Tells false o.paints d.panel (length o.open-layers) o.next (eligible (is-empty o.open-layers) (draw-paint ps d) d) (here w v row t o.open-layers (draw-segments ss d)))
      → Stack (tell-fill w v row t ps ss d o).open-layers (get_or (done Row row-ops (plan-fill ps ss d s.state) s).rows row fresh-row)
      (drawn c (entries (Tells false o.paints d.panel (length o.open-layers) o.next (eligible (is-empty o.open-layers) (draw-paint ps d) d) (here w v row t o.open-layers (draw-segments ss d)))) bs)
  unfolding done plan-fill
  fill-stacks pos ps ss d o s bs f k j has op =
      let own = draw-segments ss d in
      let e = eligible (is-empty o.open-layers) (draw-paint ps d) d in
      let ks = here w v row t o.open-layers own in
      let (_, good, ord) = judged-facts (not (good-fill ps ss d)) own j in
      let g = draw-stacks c w attrs t v row pos f.grown k f.first e o.paints d.panel has
      (λ y. empty-length o.open-layers (and_left _ _ (and_left _ _ (and_left _ _ y)))) ks (single v (box-now v o.open-layers) row t own good ord) op in
      let same : do-acts Row row-ops w (length o.open-layers) (map (cut-act e o.paints o.next) ks) (get_or s.rows row fresh-row)
      ≡ get_or (do-puts Row row-ops w (length s.state.layers) (draw-puts (eligible (is-empty s.state.layers) (draw-paint ps d) d) (length s.state.attrs.paints) s.state.next (cuts s.state.frame.viewport (box_of s.state) own)) s.rows) row fresh-row =
      rw (f.view, f.next, f.paints, f.opened, length-map, map-empty o.open-layers)
      (sym (row-by-row Row row-ops w (length o.open-layers) row fresh-row (draw-puts e o.paints o.next (cuts v (box-now v o.open-layers) own)) s.rows f.there
      ∙ ap (λ (xs : List Act). do-acts Row row-ops w (length o.open-layers) xs (get_or s.rows row fresh-row)) (draw-acts e o.paints o.next row (cuts v (box-now v o.open-layers) own)))) in
      rw f.wide (rw same at g)

  -- .. and one that has none
  fill-stays : (ps : List Paint) (ss : List Segment) (d : Draw) (o : Story) (s : Screen Row) (bs : List B) → Follows w attrs t v row o s
      → Stack o.open-layers (get_or s.rows row fresh-row) bs → draw-segments ss d ≡ []
      → Stack (tell-fill w v row t ps ss d o).open-layers (get_or (done Row row-ops (plan-fill ps ss d s.state) s).rows row fresh-row)
      (drawn c (entries (Tells false o.paints d.panel (length o.open-layers) o.next (eligible (is-empty o.open-layers) (draw-paint ps d) d) (here w v row t o.open-layers (draw-segments ss d)))) bs)
  unfolding done plan-fill cuts draw-puts do-puts drawn
  fill-stays ps ss d o s bs f k e = rw e k

  fill-any : 0 < w → (ps : List Paint) (ss : List Segment) (d : Draw) (o : Story) (s : Screen Row) (bs : List B) → Follows w attrs t v row o s
      → Stack o.open-layers (get_or s.rows row fresh-row) bs
      → (plan-fill ps ss d s.state).refused ≡ Done → Leads w attrs t v row (plan-fill ps ss d s.state).attrs
      → Opaque c (Tells false o.paints d.panel (length o.open-layers) o.next (eligible (is-empty o.open-layers) (draw-paint ps d) d) (here w v row t o.open-layers (draw-segments ss d)))
      → Stack (tell-fill w v row t ps ss d o).open-layers (get_or (done Row row-ops (plan-fill ps ss d s.state) s).rows row fresh-row) (drawn c (step-entries c closes w v row t (a-fill ps ss d) o) bs)
  unfolding plan-fill tell-step
  fill-any pos ps ss d o s bs f k j l op =
      let own = draw-segments ss d in
      rw (mark-box o.open-layers, mark-empty o.open-layers, length-map)
      (by (is-empty own)
      (λ y. fill-stays ps ss d o s bs f k (empty-list w attrs t v row own y))
      (λ n.
      let p = rw n at l.paints in
      let has = new-paint w attrs t v row s.state.attrs.paints _ l.paints-more p in
      fill-stacks pos ps ss d o s bs f k j (rw (f.paints, f.next) at has) op))

  -- a layer pushed
  push-any : (p : Props) (o : Story) (s : Screen Row) (bs : List B) → Follows w attrs t v row o s → Stack o.open-layers (get_or s.rows row fresh-row) bs
      → Stack (tell-push w v row t p o).open-layers (get_or (done Row row-ops (plan-push p s.state) s).rows row fresh-row) (drawn c (step-entries c closes w v row t (a-push p) o) (c.blank ∷ bs))
  unfolding done plan-push tell-step drawn
  push-any p o s bs f k =
      let b = layer-box v (box-now v o.open-layers) p.clip in
      let l : OpenLayer = record { layer = record { props = p; bounds = b }; touched = false } in
      let x = touches-all p b && in_rows w v row t b in
      let g = push-stacks c w attrs t v row f.grown k l x in
      let puts : List Put = cond (touches-all p b) (map (on touch) (rows_in b)) [] in
      let same : do-acts Row row-ops w (suc (length o.open-layers)) (keep x touch []) (get_or s.rows row fresh-row)
      ≡ get_or (do-puts Row row-ops w (suc (length o.open-layers)) puts s.rows) row fresh-row =
      sym (row-by-row Row row-ops w (suc (length o.open-layers)) row fresh-row puts s.rows f.there
      ∙ ap (λ (xs : List Act). do-acts Row row-ops w (suc (length o.open-layers)) xs (get_or s.rows row fresh-row)) (push-acts w attrs t v row (touches-all p b) b)) in
      rw (f.view, f.wide, f.opened, length-map) (rw same at g)

  -- a filter that draws something in the box b
  filter-stacks : 0 < w → (n : ℕ) (x : Filter) (q : ℕ) (b : Box) (o : Story) (s : Screen Row) (bs : List B) → Follows w attrs t v row o s → Stack o.open-layers (get_or s.rows row fresh-row) bs
      → Leads w attrs t v row (plan-filter-in b n x q s.state).attrs
      → Opaque c (Tells false o.paints q (length o.open-layers) o.next false (cond (in_rows w v row t b) (record { row = row; stretch = solid-tiles (span_of b) } ∷ []) []))
      → Stack (touch-all (in_rows w v row t b) o.open-layers) (get_or (done Row row-ops (plan-filter-in b n x q s.state) s).rows row fresh-row)
      (drawn c (entries (Tells false o.paints q (length o.open-layers) o.next false (cond (in_rows w v row t b) (record { row = row; stretch = solid-tiles (span_of b) } ∷ []) []))) bs)
  unfolding done plan-filter-in filter-puts
  filter-stacks pos n x q b o s bs f k l op =
      let st = s.state in
      let y = in_rows w v row t b in
      let ks : List Cut = cond y (record { row = row; stretch = solid-tiles (span_of b) } ∷ []) [] in
      let has : PaintHas attrs o.paints o.next q = rw (f.paints, f.next) at (new-paint w attrs t v row st.attrs.paints _ l.paints-more l.paints) in
      let g = draw-stacks c w attrs t v row pos f.grown k f.first false o.paints q has (λ y. never (sym y)) ks (cut-single w attrs t v row b y) op in
      let puts = map (on (paint (span_of b) None o.paints)) (rows_in b) in
      let r = get_or s.rows row fresh-row in
      let same : do-acts Row row-ops w (length o.open-layers) (map (cut-act false o.paints o.next) ks) r
      ≡ get_or (do-puts Row row-ops w (length o.open-layers) puts s.rows) row fresh-row =
      ap (λ (xs : List Act). do-acts Row row-ops w (length o.open-layers) xs r) (cut-acts w attrs t v row b o.paints o.next y ∙ sym (box-acts w attrs t v row (paint (span_of b) None o.paints) b))
      ∙ sym (row-by-row Row row-ops w (length o.open-layers) row fresh-row puts s.rows f.there) in
      rw (f.wide, f.paints, f.opened, length-map) (rw (cut-some w attrs t v row b y, same) at g)

  filter-any : 0 < w → (n : ℕ) (x : Filter) (q : ℕ) (o : Story) (s : Screen Row) (bs : List B) → Follows w attrs t v row o s → Stack o.open-layers (get_or s.rows row fresh-row) bs
      → (plan-filter n x q s.state).refused ≡ Done → Leads w attrs t v row (plan-filter n x q s.state).attrs
      → (draws-nothing x (filter-box v (box-now v o.open-layers) x) ≡ false
      → (let b = filter-box v (box-now v o.open-layers) x in Opaque c (Tells false o.paints q (length o.open-layers) o.next false (cond (in_rows w v row t b) (record { row = row; stretch = solid-tiles (span_of b) } ∷ []) []))))
      → Stack (tell-filter w v row t x q o).open-layers (get_or (done Row row-ops (plan-filter n x q s.state) s).rows row fresh-row) (drawn c (step-entries c closes w v row t (a-filter n x q) o) bs)
  unfolding tell-step
  filter-any pos n x q o s bs f k j l op =
      let b = filter-box v (box-now v o.open-layers) x in
      let e : filter-box s.state.frame.viewport (box_of s.state) x ≡ b = rw (f.view, f.opened) in
      let d : draws-nothing x (filter-box s.state.frame.viewport (box_of s.state) x) ≡ draws-nothing x b = ap (draws-nothing x) e in
      rw (mark-box o.open-layers, length-map)
      (by (good-filter-fill n x q)
      (λ y. by (draws-nothing x b)
      (λ z. rw (z, filter_none n x q s.state y (d ∙ z)) (unfold done do-puts drawn in k))
      (λ z.
      let p = filter-some n x q s.state b e y (d ∙ z) in
      rw (z, p) (filter-stacks pos n x q b o s bs f k (rw p at l) (op z))))
      (λ z. let k : ◌≡◌ {A = ℕ} BadRecord Done = sym (filter-bad n x q s.state z) ∙ j in absurd (omega arith)))

  -- the blend of an attribute that a pop adds
  new-blend : (ps : List LayerAttr) (x : LayerAttr) (more : List LayerAttr) → attrs.layers ≡ (ps ++ (x ∷ [])) ++ more → (get_or attrs.layers (length ps) no-layer).blend ≡ x.blend
  new-blend ps x more e =
      ap (λ (a : LayerAttr). a.blend) (ap (λ (l : List LayerAttr). get_or l (length ps) no-layer) (e ∙ append_assoc ps (x ∷ []) more) ∙ get_or-append_seam ps x more no-layer)

  new-there : (ps : List LayerAttr) (x : LayerAttr) (more : List LayerAttr) → attrs.layers ≡ (ps ++ (x ∷ [])) ++ more → length ps < length attrs.layers
  new-there ps x more e =
      let h : length attrs.layers ≡ length ps + suc (length more) = ap length (e ∙ append_assoc ps (x ∷ []) more) ∙ length-append ps (x ∷ more) in
      omega arith

  -- the row after the acts of a pop, by whether it is touched
  pop-rows : {ts : List Told} {id : ℕ} (l : OpenLayer) (ls : List OpenLayer) {r : Row} {bs : List B} → Grown w attrs t v row ts id (l ∷ ls) r → Stack (l ∷ ls) r bs → 0 < id
      → (n i q : ℕ) → LayerHas attrs i id q → i < length attrs.layers → (get_or attrs.layers i no-layer).blend ≡ l.layer.props.blend → Fair l → (ks : List Cut)
      → (b : Bool) → l.touched ≡ b
      → Stack ls (do-acts Row row-ops w n (cond b (map (close-act w attrs t v row i) ks) [] ++ keep b pop []) r)
      (dropped c (drawn c (entries (cond (closes l) (Tells true i q (suc (length ls)) id false ks) [])) bs))
  unfolding do-acts
  pop-rows l ls g k num n i q has th bl fair ks true e = rw (fair.touched-closes e) (close-stacks c w attrs t v row g k num e n i q has ks)
  pop-rows {id = id} l ls g k num n i q has th bl fair ks false e = leave-stacks c w attrs t v row {id = id} g k e i q (suc (length ls)) (closes l) (λ y. fair.leaves e y i th bl) ks

  -- a done pop of the innermost layer l
  pop-stacks : (ss : List Segment) (o : Story) (l : OpenLayer) (ls : List OpenLayer) (s : Screen Row) (bs : List B) → Follows w attrs t v row o s → o.open-layers ≡ (l ∷ ls)
      → Stack (l ∷ ls) (get_or s.rows row fresh-row) bs → Fair l
      → Leads w attrs t v row (with-layer s.state l.layer.props)
      → Stack ls (get_or (done Row row-ops (plan-pop (layer-in l ∷ map layer-in ls) ss (touched Row row-ops (suc (length ls)) 0 s.rows) s.state) s).rows row fresh-row)
      (dropped c (drawn c (entries (cond (closes l) (Tells true o.layers l.layer.props.panel (suc (length ls)) o.next false (closers w v row t l.layer.props.clip l.layer.bounds ls ss)) [])) bs))
  unfolding done plan-pop
  pop-stacks ss o l ls s bs f e k fair ld =
      let st = s.state in
      let x = l.layer.props.clip in
      let r = get_or s.rows row fresh-row in
      let ks = closers w v row t x l.layer.bounds ls ss in
      let js = touched Row row-ops (suc (length ls)) 0 s.rows in
      let n = length (map layer-in ls) in
      let g : Grown w attrs t v row o.told o.next (l ∷ ls) r = rw e at f.grown in
      let has : LayerHas attrs o.layers o.next l.layer.props.panel = rw (f.layers, f.next) at (new-layer w attrs t v row st.attrs.layers _ ld.layers-more ld.layers) in
      let bl : (get_or attrs.layers o.layers no-layer).blend ≡ l.layer.props.blend = rw f.layers at (new-blend st.attrs.layers _ ld.layers-more ld.layers) in
      let th : o.layers < length attrs.layers = rw f.layers at (new-there st.attrs.layers _ ld.layers-more ld.layers) in
      let h = pop-rows l ls g k f.first n o.layers l.layer.props.panel has th bl fair ks l.touched refl in
      let tt : some_of (eqb row) js ≡ l.touched =
      ap (λ m. some_of (eqb m) js) (sym (zero-add row)) ∙ touched-has (suc (length ls)) 0 row s.rows f.there ∙ sym (shape-inner g.shape) in
      let rows : Rows 0 js = touched-rows (suc (length ls)) 0 s.rows in
      let puts = closing x v l.layer.bounds (box-now v ls) o.layers ss js ++ map (on pop) js in
      let acts : acts-at row puts ≡ cond l.touched (map (close-act w attrs t v row o.layers) ks) [] ++ keep l.touched pop [] =
      acts-both row (closing x v l.layer.bounds (box-now v ls) o.layers ss js) (map (on pop) js)
      ∙ rw (closing-acts w attrs t v row x l.layer.bounds ls o.layers ss js rows, acts-once pop row rows, tt) in
      let same : do-acts Row row-ops w n (cond l.touched (map (close-act w attrs t v row o.layers) ks) [] ++ keep l.touched pop []) r
      ≡ get_or (do-puts Row row-ops w n puts s.rows) row fresh-row =
      ap (λ (xs : List Act). do-acts Row row-ops w n xs r) (sym acts) ∙ sym (row-by-row Row row-ops w n row fresh-row puts s.rows f.there) in
      rw (f.view, f.wide, f.layers) (rw same at h)

  mark-closers : (x : Option Clip) (own : Box) (ls : List OpenLayer) (ss : List Segment) → closers w v row t x own (map mark ls) ss ≡ closers w v row t x own ls ss
  mark-closers None own ls ss = refl
  mark-closers (Some k) own ls ss = rw (mark-box ls)

  pop-entries : (ss : List Segment) (o : Story) (l : OpenLayer) (ls : List OpenLayer) → o.open-layers ≡ (l ∷ ls)
      → step-entries c closes w v row t (a-pop ss) o ≡ entries (cond (closes l) (Tells true o.layers l.layer.props.panel (suc (length ls)) o.next false (closers w v row t l.layer.props.clip l.layer.bounds ls ss)) [])
  unfolding tell-step
  pop-entries ss o l ls e = rw (e, mark-closers l.layer.props.clip l.layer.bounds ls ss, length-map)

  pop-any : (ss : List Segment) (o : Story) (ds : List OpenLayer) (s : Screen Row) (bs : List B) → Follows w attrs t v row o s → o.open-layers ≡ ds → (ms : List Layer) → ms ≡ map layer-in ds
      → Stack ds (get_or s.rows row fresh-row) bs → All Fair ds
      → (plan-pop ms ss (touched Row row-ops (length ms) 0 s.rows) s.state).refused ≡ Done
      → Leads w attrs t v row (plan-pop ms ss (touched Row row-ops (length ms) 0 s.rows) s.state).attrs
      → Stack (tell-pop w v row t ds ss o).open-layers (get_or (done Row row-ops (plan-pop ms ss (touched Row row-ops (length ms) 0 s.rows) s.state) s).rows row fresh-row)
      (dropped c (drawn c (step-entries c closes w v row t (a-pop ss) o) bs))
  unfolding plan-pop
  pop-any ss o [] s bs f e ms m k fair j l = let z : ◌≡◌ {A = ℕ} NoLayer Done = rw m at j in absurd (omega arith)
  pop-any ss o (d ∷ ds) s bs f e ms m k (cons fair rest) j l =
      rw (pop-entries ss o d ds e, m, length-map) (pop-stacks ss o d ds s bs f e k fair (rw m at l))

  -- Any done step.
  pub step-stacks : 0 < w → (x : Step) (o : Story) (s : Screen Row) (bs : List B) → Follows w attrs t v row o s → Stack o.open-layers (get_or s.rows row fresh-row) bs
      → All Fair o.open-layers
      → (plan x (touched Row row-ops (length s.state.layers) 0 s.rows) s.state).refused ≡ Done
      → Leads w attrs t v row (plan x (touched Row row-ops (length s.state.layers) 0 s.rows) s.state).attrs
      → (ts : List Told) → (tell-step w v row t x o).told ≡ o.told ++ ts → Opaque c ts
      → Stack (tell-step w v row t x o).open-layers (get_or (done Row row-ops (plan x (touched Row row-ops (length s.state.layers) 0 s.rows) s.state) s).rows row fresh-row)
      (ended c x (drawn c (step-entries c closes w v row t x o) (opened c x bs)))
  unfolding plan tell-step
  step-stacks pos (a-fill ps ss d) o s bs f k fair j l ts e op =
      fill-any pos ps ss d o s bs f k j l (rw (append-cancel o.told _ ts e) op)
  step-stacks pos (a-push p) o s bs f k fair j l ts e op = push-any p o s bs f k
  step-stacks pos (a-pop ss) o s bs f k fair j l ts e op = pop-any ss o o.open-layers s bs f refl s.state.layers f.opened k fair j l
  step-stacks pos (a-filter n x q) o s bs f k fair j l ts e op =
      filter-any pos n x q o s bs f k j l (λ z. rw (append-cancel o.told _ ts (rw z at e)) op)
