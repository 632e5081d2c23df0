-- Past the screen's right edge nothing is told: every box lies within the screen.
use Rattle.std.proofs.Common.{ℕ, ◌+◌, ◌-◌, ◌/◌, ◌%◌, ◌≤◌, min, max, arith, ◌≡◌, refl, Bool, true, false, ◌&&◌, cond, Option, None, Some, List, [], ◌∷◌, length, leb, ltb}
use Rattle.rules.specs.Lists.{such}
use Rattle.rules.specs.Boxes.{Box, width, empty-box, span_of, scene-tiles}
use Rattle.rules.specs.Spans.{span, covers, cut_to, meeting, solid-tiles}
use Rattle.rules.specs.Segments.{Segment, Cut, cut_in, cuts}
use Rattle.rules.specs.Inputs.{Paint, Draw, Clip, Props, Filter}
use Rattle.rules.specs.Plans.{Step, a-fill, a-push, a-pop, a-filter, layer-box, filter-box, draws-nothing}
use Rattle.rules.specs.Plain.{OpenLayer, Story, untold, touch-all, box-now, here, closers, in_rows, tell, tell-fill, tell-push, tell-pop, tell-filter, tell-step, tell-steps}
use Rattle.rules.proofs.All.{All, nil, cons, all_append, all-over}
use Rattle.rules_picture.proofs.Cases.{by, covers-no}

module _ (w : ℕ) (v : Box) (row t : ℕ) (whole : v.x0 % 4 ≡ 0) (past : width v / 4 ≤ t) where
  abbrev Missed : Cut → Type 0
  Missed k = covers k.stretch.tiles t ≡ false

  missed-tell : (l : Bool) (i q n id : ℕ) (e : Bool) (ks : List Cut) → All Missed ks → tell w v row t l i q n id e ks ≡ []
  missed-tell l i q n id e [] nil = refl
  missed-tell l i q n id e (k ∷ ks) (cons m a) = rw m (missed-tell l i q n id e ks a)

  missed-such : (p : Cut → Bool) {ks : List Cut} → All Missed ks → All Missed (such p ks)
  missed-such p nil = nil
  missed-such p (cons {x = k} m a) = by (p k) (λ y. rw y (cons m (missed-such p a))) (λ n. rw n (missed-such p a))

  -- a cut ends where the clip box ends
  cut-missed : (c : Box) → c.x1 ≤ width v → (s : Segment) → All Missed (cut_in v (scene-tiles v c) s)
  unfolding cut_in cut_to meeting scene-tiles
  cut-missed c h s =
      by (ltb (max s.first ((v.x0 + c.x0) / 4)) (min s.end ((v.x0 + c.x1) / 4)))
      (λ y. by (leb ((v.y0 + c.y0) / 4) s.row && ltb s.row ((v.y0 + c.y1) / 4))
      (λ z. rw (y, z) (cons (covers-no (span (max s.first ((v.x0 + c.x0) / 4) - v.x0 / 4) (min s.end ((v.x0 + c.x1) / 4) - v.x0 / 4)) t (λ p q. omega arith)) nil))
      (λ z. rw (y, z) nil))
      (λ n. by (leb ((v.y0 + c.y0) / 4) s.row && ltb s.row ((v.y0 + c.y1) / 4)) (λ z. rw (n, z) nil) (λ z. rw (n, z) nil))

  cuts-missed : (c : Box) → c.x1 ≤ width v → (ss : List Segment) → All Missed (cuts v c ss)
  unfolding cuts
  cuts-missed c h [] = nil
  cuts-missed c h (s ∷ ss) = all_append (cut-missed c h s) (cuts-missed c h ss)

  -- a box's span
  span-missed : (b : Box) → b.x1 ≤ width v → covers (span_of b) t ≡ false
  unfolding span_of
  span-missed b h = by (empty-box b)
      (λ y. rw y (covers-no (span (b.x0 / 4) (b.x0 / 4)) t (λ p q. omega arith)))
      (λ n. rw n (covers-no (span (b.x0 / 4) (b.x1 / 4)) t (λ p q. omega arith)))

  abbrev In : OpenLayer → Type 0
  In l = l.layer.bounds.x1 ≤ width v

  now-in : {ls : List OpenLayer} → All In ls → (box-now v ls).x1 ≤ width v
  now-in nil = omega arith
  now-in (cons h a) = h

  touch-in : (b : Bool) {ls : List OpenLayer} → All In ls → All In (touch-all b ls)
  touch-in true a = all-over (λ (l : OpenLayer). record { layer = l.layer; touched = true }) (λ l h. h) a
  touch-in false a = a

  record Narrow (o : Story) : Type 0 where
    boxes : All In o.open-layers
    none : o.told ≡ []

  fill-narrow : (ps : List Paint) (ss : List Segment) (d : Draw) (o : Story) → Narrow o → Narrow (tell-fill w v row t ps ss d o)
  fill-narrow ps ss d o h =
      record {
        boxes = touch-in _ h.boxes;
        none = rw (h.none, missed-tell false o.paints d.panel (length o.open-layers) o.next _ (here w v row t o.open-layers _) (missed-such _ (cuts-missed (box-now v o.open-layers) (now-in h.boxes) _)));
      }

  layer-in : (p : Box) → p.x1 ≤ width v → (c : Option Clip) → (layer-box v p c).x1 ≤ width v
  layer-in p h None = h
  layer-in p h (Some c) = omega arith

  push-narrow : (p : Props) (o : Story) → Narrow o → Narrow (tell-push w v row t p o)
  push-narrow p o h =
      let b = layer-box v (box-now v o.open-layers) p.clip in
      record {
        boxes = touch-in _ (cons {x = record { layer = record { props = p; bounds = b }; touched = false }} (layer-in (box-now v o.open-layers) (now-in h.boxes) p.clip) h.boxes);
        none = h.none;
      }

  closers-missed : (c : Option Clip) (own : Box) (ls : List OpenLayer) (ss : List Segment) → own.x1 ≤ width v → All In ls → All Missed (closers w v row t c own ls ss)
  closers-missed None own ls ss h a = cons {x = record { row = row; stretch = solid-tiles (span_of own) }} (span-missed own h) nil
  closers-missed (Some c) own ls ss h a = missed-such _ (cuts-missed (box-now v ls) (now-in a) _)

  pop-narrow : (ls : List OpenLayer) (ss : List Segment) (o : Story) → All In ls → Narrow o → Narrow (tell-pop w v row t ls ss o)
  pop-narrow [] ss o a h = h
  pop-narrow (l ∷ ls) ss o (cons i a) h =
      let ks = closers w v row t l.layer.props.clip l.layer.bounds ls ss in
      let m = missed-tell true o.layers l.layer.props.panel (length o.open-layers) o.next false ks (closers-missed l.layer.props.clip l.layer.bounds ls ss i a) in
      record { boxes = a; none = rw (h.none, m) (by l.touched (λ y. rw y) (λ n. rw n)) }

  filter-narrow : (f : Filter) (q : ℕ) (o : Story) → Narrow o → Narrow (tell-filter w v row t f q o)
  filter-narrow f q o h =
      let c = box-now v o.open-layers in
      let b = filter-box v c f in
      let n = now-in h.boxes in
      let k : All Missed (cond (in_rows w v row t b) (record { row = row; stretch = solid-tiles (span_of b) } ∷ []) []) =
      by (in_rows w v row t b) (λ y. rw y (cons {x = record { row = row; stretch = solid-tiles (span_of b) }} (span-missed b (omega arith)) nil)) (λ m. rw m nil) in
      let e = missed-tell false o.paints q (length o.open-layers) o.next false _ k in
      by (draws-nothing f b)
      (λ y. rw y h)
      (λ m. rw m (record { boxes = touch-in _ h.boxes; none = rw (h.none, e) }))

  step-narrow : (x : Step) (o : Story) → Narrow o → Narrow (tell-step w v row t x o)
  unfolding tell-step
  step-narrow (a-fill ps ss d) o h = fill-narrow ps ss d o h
  step-narrow (a-push p) o h = push-narrow p o h
  step-narrow (a-pop ss) o h = pop-narrow o.open-layers ss o h.boxes h
  step-narrow (a-filter n f q) o h = filter-narrow f q o h

  steps-narrow : (xs : List Step) (o : Story) → Narrow o → Narrow (tell-steps w v row t xs o)
  unfolding tell-steps
  steps-narrow [] o h = h
  steps-narrow (x ∷ xs) o h = steps-narrow xs (tell-step w v row t x o) (step-narrow x o h)

  pub nothing-past : (xs : List Step) → (tell-steps w v row t xs untold).told ≡ []
  nothing-past xs = (steps-narrow xs untold (record { boxes = nil; none = refl })).none
