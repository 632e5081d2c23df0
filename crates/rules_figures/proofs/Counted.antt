-- A built row holds each entry that does not hide as a command: none is lost and none is added, seen or not.
use Rattle.std.proofs.Common.{ℕ, suc, ◌≤◌, ◌<◌, zero-add, arith, ◌≡◌, refl, sym, ◌∙◌, ap, Bool, true, false, ◌&&◌, cond, None, List, [], ◌∷◌, ◌++◌, map, append-nil, length, get_or, replicate, eqb}
use lib.ListN.{length-map, get_or-replicate}
use Rattle.rules.specs.Lists.{such, keep, some_of, is-empty}
use Rattle.rules.specs.Answers.{Done, BadRecord, NoLayer}
use Rattle.rules.specs.Boxes.{Box, rows_of, rows_in, span_of}
use Rattle.rules.specs.Spans.{solid-tiles}
use Rattle.rules.specs.Segments.{Segment, Cut, cuts}
use Rattle.rules.specs.Inputs.{Paint, Draw, draw-segments, draw-paint, Props, Filter, good-filter-fill}
use Rattle.rules.specs.Attributes.{Attrs}
use Rattle.rules.specs.Rows.{Row, fresh-row, row-ops}
use Rattle.rules.specs.Plans.{bucket, Layer, Act, Put, on, touch, paint, pop, eligible, box_of, draw-puts, layer-box, touches-all, filter-box, draws-nothing, closing, filter-puts, with-layer, plan-fill, plan-push, plan-pop, plan-filter-in, plan-filter, plan, Frame, Step, a-fill, a-push, a-pop, a-filter}
use Rattle.rules.specs.Steps.{Screen, reset, do-puts, done, touched, call}
use Rattle.rules.specs.Plain.{Told, OpenLayer, Story, untold, box-now, here, in_rows, closers, tell, tell-fill, tell-push, tell-pop, tell-filter, tell-step, tell-steps}
use Rattle.rules.proofs.All.{never, and_left}
use Rattle.rules.proofs.laws.Widths.{bucket-some}
use Rattle.rules_picture.specs.Built.{Built, no_step, then}
use Rattle.rules_picture.proofs.Cases.{by}
use Rattle.rules_picture.proofs.Acts.{acts-at, do-acts, row-by-row}
use Rattle.rules_picture.proofs.Held.{stays}
use Rattle.rules_picture.proofs.Rows.{PaintHas, LayerHas, told-commands}
use Rattle.rules_picture.proofs.Acted.{Sound, Adds, act-touch, act-pop}
use Rattle.rules_picture.proofs.Shape.{shape-most, shape-inner, shape-closed}
use Rattle.rules_picture.proofs.Listed.{such-append, cut-act, draw-acts, draws-add, Rows, acts-once}
use Rattle.rules_picture.proofs.Grown.{Grown, acts-append, close-act, closes-add}
use Rattle.rules_picture.proofs.Follows.{layer-in, map-empty, empty-length, empty-list, Leads, Follows, new-paint}
use Rattle.rules_picture.proofs.Pushes.{push-acts, box-acts, cut-acts}
use Rattle.rules_picture.proofs.Pops.{acts-both, touched-rows, touched-has, closing-acts, new-layer}
use Rattle.rules_picture.proofs.Stepped.{filter_none, filter-some, filter-bad, call-done, step_follows}
use Rattle.rules_picture.proofs.Picture.{built-leads, reset-follows}

module _ (w : ℕ) (attrs : Attrs) (t : ℕ) (v : Box) (row : ℕ) where
  -- the commands over the tile are the entries ts that do not hide
  abbrev Each : List Told → Row → Type 0
  Each ts r = such stays ts ≡ told-commands w attrs t 0 r.commands

  abbrev pub Counted : Story → Screen Row → Type 0
  Counted o s = Each o.told (get_or s.rows row fresh-row)

  more-told : {us hs : List Told} {m : ℕ} {r q : Row} (ts new : List Told) → Each ts r → such stays new ≡ us → Adds w attrs t us hs m r q → Each (ts ++ new) q
  more-told {us} ts new h e a =
      such-append stays ts new ∙ ap (λ (xs : List Told). such stays ts ++ xs) e ∙ ap (λ (xs : List Told). xs ++ us) h ∙ sym a.commands

  as-told : {hs : List Told} {m : ℕ} {r q : Row} (ts : List Told) → Each ts r → Adds w attrs t [] hs m r q → Each ts q
  as-told ts h a = h ∙ sym (append-nil _) ∙ sym a.commands

  -- the cuts of one draw
  draw-each : 0 < w → (e : Bool) (i q id n : ℕ) (ts : List Told) (r : Row) → Each ts r → PaintHas attrs i id q → 0 < id → (e ≡ true → n ≡ 0) → Sound r → length r.levels ≤ n → (ks : List Cut)
      → Each (ts ++ tell w v row t false i q n id e ks) (do-acts Row row-ops w n (map (cut-act e i id) ks) r)
  draw-each pos e i q id n ts r h has num z s m ks =
      more-told ts (tell w v row t false i q n id e ks) h refl (draws-add w attrs t v row pos e i q id n has num z ks r s m)

  fill-some : 0 < w → (ps : List Paint) (ss : List Segment) (d : Draw) (o : Story) (s : Screen Row) → Follows w attrs t v row o s → Counted o s
      → PaintHas attrs o.paints o.next d.panel
      → Counted (tell-fill w v row t ps ss d o) (done Row row-ops (plan-fill ps ss d s.state) s)
  unfolding done plan-fill
  fill-some pos ps ss d o s f h has =
      let own = draw-segments ss d in
      let e = eligible (is-empty o.open-layers) (draw-paint ps d) d in
      let ks = here w v row t o.open-layers own in
      let g = draw-each pos e o.paints d.panel o.next (length o.open-layers) o.told (get_or s.rows row fresh-row) h has f.first
      (λ y. empty-length o.open-layers (and_left _ _ (and_left _ _ (and_left _ _ y)))) f.grown.holds.sound (shape-most f.grown.shape) ks in
      let same : do-acts Row row-ops w (length o.open-layers) (map (cut-act e o.paints o.next) ks) (get_or s.rows row fresh-row)
      ≡ get_or (do-puts Row row-ops w (length s.state.layers) (draw-puts (eligible (is-empty s.state.layers) (draw-paint ps d) d) (length s.state.attrs.paints) s.state.next (cuts s.state.frame.viewport (box_of s.state) own)) s.rows) row fresh-row =
      rw (f.view, f.next, f.paints, f.opened, length-map, map-empty o.open-layers)
      (sym (row-by-row Row row-ops w (length o.open-layers) row fresh-row (draw-puts e o.paints o.next (cuts v (box-now v o.open-layers) own)) s.rows f.there
      ∙ ap (λ (xs : List Act). do-acts Row row-ops w (length o.open-layers) xs (get_or s.rows row fresh-row)) (draw-acts e o.paints o.next row (cuts v (box-now v o.open-layers) own)))) in
      rw f.wide (rw same at g)

  fill-bare : (ps : List Paint) (ss : List Segment) (d : Draw) (o : Story) (s : Screen Row) → Counted o s → draw-segments ss d ≡ []
      → Counted (tell-fill w v row t ps ss d o) (done Row row-ops (plan-fill ps ss d s.state) s)
  unfolding done plan-fill cuts draw-puts do-puts
  fill-bare ps ss d o s h e = rw (e, append-nil o.told) h

  fill-counted : 0 < w → (ps : List Paint) (ss : List Segment) (d : Draw) (o : Story) (s : Screen Row) → Follows w attrs t v row o s → Counted o s
      → Leads w attrs t v row (plan-fill ps ss d s.state).attrs
      → Counted (tell-fill w v row t ps ss d o) (done Row row-ops (plan-fill ps ss d s.state) s)
  unfolding plan-fill
  fill-counted pos ps ss d o s f h l =
      let own = draw-segments ss d in
      by (is-empty own)
      (λ y. fill-bare ps ss d o s h (empty-list w attrs t v row own y))
      (λ n.
      let p = rw n at l.paints in
      let has = new-paint w attrs t v row s.state.attrs.paints _ l.paints-more p in
      fill-some pos ps ss d o s f h (rw (f.paints, f.next) at has))

  touch-each : (b : Bool) (n : ℕ) (ts : List Told) (r : Row) → Each ts r → Sound r → length r.levels ≤ n → Each ts (do-acts Row row-ops w n (keep b touch []) r)
  unfolding do-acts
  touch-each false n ts r h s m = h
  touch-each true n ts r h s m = as-told ts h (act-touch w attrs t n r s m)

  push-counted : (p : Props) (o : Story) (s : Screen Row) → Follows w attrs t v row o s → Counted o s
      → Counted (tell-push w v row t p o) (done Row row-ops (plan-push p s.state) s)
  unfolding done plan-push
  push-counted p o s f h =
      let b = layer-box v (box-now v o.open-layers) p.clip in
      let c = touches-all p b && in_rows w v row t b in
      let n = suc (length o.open-layers) in
      let m = shape-most f.grown.shape in
      let g = touch-each c n o.told (get_or s.rows row fresh-row) h f.grown.holds.sound (omega arith) in
      let puts : List Put = cond (touches-all p b) (map (on touch) (rows_in b)) [] in
      let same : do-acts Row row-ops w n (keep c touch []) (get_or s.rows row fresh-row) ≡ get_or (do-puts Row row-ops w n puts s.rows) row fresh-row =
      sym (row-by-row Row row-ops w n row fresh-row puts s.rows f.there
      ∙ ap (λ (xs : List Act). do-acts Row row-ops w n xs (get_or s.rows row fresh-row)) (push-acts w attrs t v row (touches-all p b) b)) in
      rw (f.view, f.wide, f.opened, length-map) (rw same at g)

  filter-some-counted : 0 < w → (n : ℕ) (x : Filter) (q : ℕ) (b : Box) (o : Story) (s : Screen Row) → Follows w attrs t v row o s → Counted o s
      → Leads w attrs t v row (plan-filter-in b n x q s.state).attrs
      → Each (o.told ++ tell w v row t false o.paints q (length o.open-layers) o.next false (cond (in_rows w v row t b) (record { row = row; stretch = solid-tiles (span_of b) } ∷ []) []))
      (get_or (done Row row-ops (plan-filter-in b n x q s.state) s).rows row fresh-row)
  unfolding done plan-filter-in filter-puts
  filter-some-counted pos n x q b o s f h l =
      let c = in_rows w v row t b in
      let ks : List Cut = cond c (record { row = row; stretch = solid-tiles (span_of b) } ∷ []) [] in
      let has : PaintHas attrs o.paints o.next q = rw (f.paints, f.next) at (new-paint w attrs t v row s.state.attrs.paints _ l.paints-more l.paints) in
      let r = get_or s.rows row fresh-row in
      let g = draw-each pos false o.paints q o.next (length o.open-layers) o.told r h has f.first (λ y. never (sym y)) f.grown.holds.sound (shape-most f.grown.shape) ks in
      let puts = map (on (paint (span_of b) None o.paints)) (rows_in b) in
      let same : do-acts Row row-ops w (length o.open-layers) (map (cut-act false o.paints o.next) ks) r ≡ get_or (do-puts Row row-ops w (length o.open-layers) puts s.rows) row fresh-row =
      ap (λ (xs : List Act). do-acts Row row-ops w (length o.open-layers) xs r) (cut-acts w attrs t v row b o.paints o.next c ∙ sym (box-acts w attrs t v row (paint (span_of b) None o.paints) b))
      ∙ sym (row-by-row Row row-ops w (length o.open-layers) row fresh-row puts s.rows f.there) in
      rw (f.wide, f.paints, f.opened, length-map) (rw same at g)

  filter-counted : 0 < w → (n : ℕ) (x : Filter) (q : ℕ) (o : Story) (s : Screen Row) → Follows w attrs t v row o s → Counted o s
      → (plan-filter n x q s.state).refused ≡ Done → Leads w attrs t v row (plan-filter n x q s.state).attrs
      → Counted (tell-filter w v row t x q o) (done Row row-ops (plan-filter n x q s.state) s)
  filter-counted pos n x q o s f h j l =
      let b = filter-box v (box-now v o.open-layers) x in
      let e : filter-box s.state.frame.viewport (box_of s.state) x ≡ b = rw (f.view, f.opened) in
      let d : draws-nothing x (filter-box s.state.frame.viewport (box_of s.state) x) ≡ draws-nothing x b = ap (draws-nothing x) e in
      by (good-filter-fill n x q)
      (λ y. by (draws-nothing x b)
      (λ z. rw (z, filter_none n x q s.state y (d ∙ z)) (unfold done do-puts in h))
      (λ z.
      let p = filter-some n x q s.state b e y (d ∙ z) in
      rw (z, p) (filter-some-counted pos n x q b o s f h (rw p at l))))
      (λ z. let k : ◌≡◌ {A = ℕ} BadRecord Done = sym (filter-bad n x q s.state z) ∙ j in absurd (omega arith))

  -- the row after the acts of a pop, by whether it is touched
  pop-each : {ts : List Told} {id : ℕ} (l : OpenLayer) (ls : List OpenLayer) {r : Row} → Grown w attrs t v row ts id (l ∷ ls) r → Each ts r
      → (n i q : ℕ) → LayerHas attrs i id q → (ks : List Cut) (b : Bool) → l.touched ≡ b
      → Each (ts ++ cond b (tell w v row t true i q (suc (length ls)) id false ks) []) (do-acts Row row-ops w n (cond b (map (close-act w attrs t v row i) ks) [] ++ keep b pop []) r)
  unfolding do-acts
  pop-each {ts} {id} l ls {r} g h n i q has ks true e =
      let (m, rest) = shape-closed g.shape e in
      let us = tell w v row t true i q (suc (length ls)) id false ks in
      let a = closes-add w attrs t v row n (suc (length ls)) i q id has ks r g.holds.sound m in
      let p = act-pop w attrs t n (length ls) (do-acts Row row-ops w n (map (close-act w attrs t v row i) ks) r) a.sound a.levels in
      rw (acts-append w n (map (close-act w attrs t v row i) ks) (pop ∷ []) r) (as-told (ts ++ us) (more-told ts us h refl a) p)
  pop-each {ts} l ls g h n i q has ks false e = rw (append-nil ts) h

  pop-some : (ss : List Segment) (o : Story) (l : OpenLayer) (ls : List OpenLayer) (s : Screen Row) → Follows w attrs t v row o s → o.open-layers ≡ (l ∷ ls) → Counted o s
      → Leads w attrs t v row (with-layer s.state l.layer.props)
      → Counted (tell-pop w v row t (l ∷ ls) ss o)
      (done Row row-ops (plan-pop (layer-in l ∷ map layer-in ls) ss (touched Row row-ops (suc (length ls)) 0 s.rows) s.state) s)
  unfolding done plan-pop
  pop-some ss o l ls s f e h ld =
      let st = s.state in
      let c = l.layer.props.clip in
      let r = get_or s.rows row fresh-row in
      let ks = closers w v row t c l.layer.bounds ls ss in
      let js = touched Row row-ops (suc (length ls)) 0 s.rows in
      let n = length (map layer-in ls) in
      let g : Grown w attrs t v row o.told o.next (l ∷ ls) r = rw e at f.grown in
      let has : LayerHas attrs o.layers o.next l.layer.props.panel = rw (f.layers, f.next) at (new-layer w attrs t v row st.attrs.layers _ ld.layers-more ld.layers) in
      let p = pop-each l ls g h n o.layers l.layer.props.panel has ks l.touched refl in
      let has : some_of (eqb row) js ≡ l.touched =
      ap (λ m. some_of (eqb m) js) (sym (zero-add row)) ∙ touched-has (suc (length ls)) 0 row s.rows f.there ∙ sym (shape-inner g.shape) in
      let rows : Rows 0 js = touched-rows (suc (length ls)) 0 s.rows in
      let puts = closing c v l.layer.bounds (box-now v ls) o.layers ss js ++ map (on pop) js in
      let acts : acts-at row puts ≡ cond l.touched (map (close-act w attrs t v row o.layers) ks) [] ++ keep l.touched pop [] =
      acts-both row (closing c v l.layer.bounds (box-now v ls) o.layers ss js) (map (on pop) js)
      ∙ rw (closing-acts w attrs t v row c l.layer.bounds ls o.layers ss js rows, acts-once pop row rows, has) in
      let same : do-acts Row row-ops w n (cond l.touched (map (close-act w attrs t v row o.layers) ks) [] ++ keep l.touched pop []) r
      ≡ get_or (do-puts Row row-ops w n puts s.rows) row fresh-row =
      ap (λ (xs : List Act). do-acts Row row-ops w n xs r) (sym acts) ∙ sym (row-by-row Row row-ops w n row fresh-row puts s.rows f.there) in
      let deep : length o.open-layers ≡ suc (length ls) = ap (λ (xs : List OpenLayer). length xs) e in
      rw (f.view, f.wide, f.layers, deep) (rw same at p)

  pop-counted : (ss : List Segment) (o : Story) (ds : List OpenLayer) (s : Screen Row) → Follows w attrs t v row o s → o.open-layers ≡ ds → Counted o s → (ms : List Layer) → ms ≡ map layer-in ds
      → (plan-pop ms ss (touched Row row-ops (length ms) 0 s.rows) s.state).refused ≡ Done
      → Leads w attrs t v row (plan-pop ms ss (touched Row row-ops (length ms) 0 s.rows) s.state).attrs
      → Counted (tell-pop w v row t ds ss o) (done Row row-ops (plan-pop ms ss (touched Row row-ops (length ms) 0 s.rows) s.state) s)
  unfolding plan-pop
  pop-counted ss o [] s f e h ms m j l = let k : ◌≡◌ {A = ℕ} NoLayer Done = rw m at j in absurd (omega arith)
  pop-counted ss o (d ∷ ds) s f e h ms m j l = rw (m, length-map) (pop-some ss o d ds s f e h (rw m at l))

  -- any done step
  pub step-counted : 0 < w → (x : Step) (o : Story) (s : Screen Row) → Follows w attrs t v row o s → Counted o s
      → (plan x (touched Row row-ops (length s.state.layers) 0 s.rows) s.state).refused ≡ Done
      → Leads w attrs t v row (plan x (touched Row row-ops (length s.state.layers) 0 s.rows) s.state).attrs
      → Counted (tell-step w v row t x o) (done Row row-ops (plan x (touched Row row-ops (length s.state.layers) 0 s.rows) s.state) s)
  unfolding plan tell-step
  step-counted pos (a-fill ps ss d) o s f h j l = fill-counted pos ps ss d o s f h l
  step-counted pos (a-push p) o s f h j l = push-counted p o s f h
  step-counted pos (a-pop ss) o s f h j l = pop-counted ss o o.open-layers s f refl h s.state.layers f.opened j l
  step-counted pos (a-filter n x q) o s f h j l = filter-counted pos n x q o s f h j l

module _ (w t : ℕ) (v : Box) (row : ℕ) where
  -- .. and all of them, one after another
  built-counted : 0 < w → {xs : List Step} {s u : Screen Row} → Built xs s u → (o : Story) → Follows w u.state.attrs t v row o s
      → Counted w u.state.attrs t v row o s → Counted w u.state.attrs t v row (tell-steps w v row t xs o) u
  unfolding tell-steps
  built-counted pos no_step o f h = h
  built-counted pos {u = u} (then {x = x} {s = s} e b) o f h =
      let a = u.state.attrs in
      let (j, q) = call-done x s e in
      let l : Leads w a t v row (call Row row-ops x s).value.state.attrs = built-leads w t v row b in
      let k : Leads w a t v row (plan x (touched Row row-ops (length s.state.layers) 0 s.rows) s.state).attrs = unfold done in rw (ap (λ (c : Screen Row). c.state.attrs) q) at l in
      built-counted pos b (tell-step w v row t x o) (rw q (step_follows w a t v row pos x o s f j k)) (rw q (step-counted w a t v row pos x o s f h j k))

-- A screen built from its reset has in each of its rows, at each tile, the commands of what the tile has been told.
pub counted : (f : Frame) (xs : List Step) (u : Screen Row) → Built xs (reset fresh-row f) u → (row t : ℕ) → row < rows_of f.viewport
    → such stays (tell-steps (bucket f) f.viewport row t xs untold).told ≡ told-commands (bucket f) u.state.attrs t 0 (get_or u.rows row fresh-row).commands
unfolding reset
counted f xs u b row t h =
    let e : get_or (replicate (rows_of f.viewport) fresh-row) row fresh-row ≡ fresh-row = get_or-replicate (rows_of f.viewport) row fresh-row fresh-row h in
    built-counted (bucket f) t f.viewport row (bucket-some f.width) b untold (reset-follows u.state.attrs t row f h) (rw e (unfold told-commands in refl))
