-- Steps keep within bounds: what they put on rows ends at tile 8,192 at the latest, and layers' boxes stay on the screen. Assumes nothing.
use Rattle.std.proofs.Common.{◌≡◌, refl, Bool, true, false, ◌&&◌, ◌||◌, not, cond, List, [], ◌∷◌, Option, None, Some, ℕ, ◌+◌, ◌-◌, ◌*◌, ◌/◌, ◌≤◌, ◌<◌, min, max, arith, leb, ltb, eqb, length, leb-true, ltb-true, eqb-true}
use Rattle.rules.specs.Lists.{every, some_of}
use Rattle.rules.specs.Answers.{answer, first_of, Done, BadRecord, BadOrder}
use Rattle.rules.specs.Boxes.{Box, width, height, by_4, bounded, good-box, good-dest, good_viewport, empty-box, rows_in, span_of, scene-tiles}
use Rattle.rules.specs.Spans.{Span, span, Stretch, common, meeting, cut_at, cut-when, cut_to}
use Rattle.rules.specs.Segments.{Segment, good-segment, ordered, judge-segments, stretch-of, Cut, localised, cut_in, cuts}
use Rattle.rules.specs.Inputs.{Paint, Draw, Clip, Props, good-clip, good-handle, all-good, good-props, Filter, good-pixmap, good-filter, good-panel, good-filter-fill, draw-segments, good-fill}
use Rattle.rules.specs.Blends.{good-blend}
use Rattle.rules.specs.Rows.{RowOps}
use Rattle.rules.specs.Plans.{Frame, Layer, State, Step, a-fill, a-push, a-pop, a-filter, paint, touch, close, pop, on, Plan, still, clip-box, box_of, draw-act, draw-puts, plan-fill, layer-box, touches-all, plan-push, clip-segments, clip-fits, close-puts, closing, plan-pop, filter-box, draws-nothing, filter-puts, plan-filter-in, plan-filter, plan}
use Rattle.rules.specs.Steps.{Screen, reset, done, refusal, perform, touched, call}
use Rattle.rules.proofs.All.{All, nil, cons, head, tail, both, all-if, all_append, all-mapped, all_join, every-all}
use Rattle.rules.proofs.laws.Maps.{ActOk, paints, splits, touches, closes, pops, PutOk, planned}

-- both ends at tile 8,192 at the latest
pub record BoundedSpan (s : Span) : Type 0 where
  pub first : s.first ≤ 8192
  pub end : s.end ≤ 8192

pub record BoundedCut (k : Cut) : Type 0 where
  pub tiles : BoundedSpan k.stretch.tiles

-- a box that lies on the screen of the viewport v, unless it is empty
pub record Inside (v b : Box) : Type 0 where
  pub left : b.x0 ≤ 32768
  pub right : b.x1 ≤ width v
  pub bottom : b.y1 ≤ height v

-- what holds of the state of every screen that steps make
pub record Framed (s : State) : Type 0 where
  pub wide : width s.frame.viewport ≤ 4096
  pub tall : height s.frame.viewport ≤ 2048
  pub boxes : All (λ (l : Layer). Inside s.frame.viewport l.bounds) s.layers

-- the bounds of answer 4, as facts
pub record Good (s : Segment) : Type 0 where
  pub row : s.row < 8192
  pub order : s.first < s.end
  pub end : s.end ≤ 8192
  pub alpha : s.alpha + 16 * (s.end - s.first) < 4294967296

pub good-facts : (s : Segment) → good-segment s ≡ true → Good s
good-facts s g =
    let a = leb s.kind 1 in
    let b = ltb s.row 8192 in
    let c = ltb s.first s.end in
    let d = leb s.end 8192 in
    let k = eqb s.kind 1 || eqb s.alpha 0 in
    let h5 = both (a && b && c && d && k) (ltb (s.alpha + 16 * (s.end - s.first)) 4294967296) g in
    let h4 = both (a && b && c && d) k h5.0 in
    let h3 = both (a && b && c) d h4.0 in
    let h2 = both (a && b) c h3.0 in
    let h1 = both a b h2.0 in
    record { row = ltb-true _ _ h1.1; order = ltb-true _ _ h2.1; end = leb-true _ _ h3.1; alpha = ltb-true _ _ h5.1 }

pub record Bounded (b : Box) : Type 0 where
  pub across : b.x0 ≤ b.x1
  pub down : b.y0 ≤ b.y1
  pub right : b.x1 ≤ 32768
  pub bottom : b.y1 ≤ 32768

pub bounded-facts : (b : Box) → bounded b ≡ true → Bounded b
bounded-facts b g =
    let h3 = both (leb b.x0 b.x1 && leb b.y0 b.y1 && leb b.x1 32768) (leb b.y1 32768) g in
    let h2 = both (leb b.x0 b.x1 && leb b.y0 b.y1) (leb b.x1 32768) h3.0 in
    let h1 = both (leb b.x0 b.x1) (leb b.y0 b.y1) h2.0 in
    record { across = leb-true _ _ h1.0; down = leb-true _ _ h1.1; right = leb-true _ _ h2.1; bottom = leb-true _ _ h3.1 }

pub clip-facts : (c : Clip) → good-clip c ≡ true → Bounded c.bounds
clip-facts c g =
    let b = c.bounds in
    let h2 = both (good-box b && leb c.start c.end) (ltb c.thread 256) g in
    let h1 = both (good-box b) (leb c.start c.end) h2.0 in
    bounded-facts c.bounds (both (by_4 b.x0 && by_4 b.x1 && by_4 b.y0 && by_4 b.y1) (bounded b) h1.0).1

pub dest-facts : (f : Filter) → good-filter f ≡ true → Bounded f.dest
dest-facts f g =
    let b = f.dest in
    let h3 = both (good-pixmap f.pixmap && good-dest b && leb f.source-x 32768) (leb f.source-y 32768) g in
    let h2 = both (good-pixmap f.pixmap && good-dest b) (leb f.source-x 32768) h3.0 in
    let h1 = both (good-pixmap f.pixmap) (good-dest b) h2.0 in
    bounded-facts f.dest (both (by_4 b.x0 && by_4 b.x1) (bounded b) h1.1).1

-- a list that is not refused: its range is good, and so is each segment, and their order
judged : (b e o : Bool) → first_of ((b, BadRecord) ∷ (not e, BadRecord) ∷ (not o, BadOrder) ∷ []) ≡ Done → (b ≡ false) × (e ≡ true) × (o ≡ true)
judged true e o p = absurd (omega arith)
judged false false o p = absurd (omega arith)
judged false true false p = absurd (omega arith)
judged false true true p = (refl, refl, refl)

pub judged-facts : (bad : Bool) (ss : List Segment) → judge-segments bad ss ≡ Done → (bad ≡ false) × All (λ (s : Segment). good-segment s ≡ true) ss × (ordered ss ≡ true)
unfolding judge-segments
judged-facts bad ss p = let h = judged bad (every good-segment ss) (ordered ss) p in (h.0, every-all good-segment ss h.1, h.2)

-- rule 4: what is left of a good segment
data Left : Option Stretch → Type 0 where
  nothing : Left None
  something : (k : Stretch) → BoundedSpan k.tiles → Left (Some k)

localised-short : (v : Box) (row : ℕ) {o : Option Stretch} → Left o → All BoundedCut (localised v row o)
localised-short v row nothing = nil
localised-short v row (something k s) =
    let t : BoundedSpan (span (k.tiles.first - v.x0 / 4) (k.tiles.end - v.x0 / 4)) = record { first = omega (arith, s.first); end = omega (arith, s.end) } in
    cons (record { tiles = t }) nil

left-if : (t : Bool) {o : Option Stretch} → Left o → Left (cond t o None)
left-if true l = l
left-if false l = nothing

cut_short : (b : Span) (s : Stretch) → s.tiles.end ≤ 8192 → Left (cut_to b s)
unfolding cut_to meeting
cut_short b s h = go (ltb (common s.tiles b).first (common s.tiles b).end) refl
  where
    go : (t : Bool) → ltb (common s.tiles b).first (common s.tiles b).end ≡ t → Left (cut-when s (cond t (Some (common s.tiles b)) None))
    go true e = something (cut_at s (common s.tiles b)) (record { first = omega (arith, ltb-true (max s.tiles.first b.first) (min s.tiles.end b.end) e); end = omega arith })
    go false e = nothing

pub cut-in-short : (v b : Box) (s : Segment) → good-segment s ≡ true → All BoundedCut (cut_in v b s)
unfolding cut_in
cut-in-short v b s g = localised-short v s.row (left-if (leb b.y0 s.row && ltb s.row b.y1) (cut_short (span b.x0 b.x1) (stretch-of s) (good-facts s g).end))

pub cuts-short : (v c : Box) {ss : List Segment} → All (λ (s : Segment). good-segment s ≡ true) ss → All BoundedCut (cuts v c ss)
unfolding cuts
cuts-short v c a = all_join (cut_in v (scene-tiles v c)) (cut-in-short v (scene-tiles v c)) a

-- a box's span
span-short : (b : Box) → b.x0 ≤ 32768 → b.x1 ≤ 32768 → BoundedSpan (span_of b)
unfolding span_of
span-short b l r = record { first = omega arith; end = go (empty-box b) }
  where
    go : (t : Bool) → cond t (b.x0 / 4) (b.x1 / 4) ≤ 8192
    go true = omega arith
    go false = omega arith

-- what fills put on rows
draw-ok : (e : Bool) (i id : ℕ) {s : Span} (a : Option ℕ) → BoundedSpan s → ActOk BoundedSpan (draw-act e i id s a)
unfolding draw-act
draw-ok true i id None h = splits h
draw-ok true i id (Some a) h = paints h
draw-ok false i id None h = paints h
draw-ok false i id (Some a) h = paints h

draws-ok : (e : Bool) (i id : ℕ) {ks : List Cut} → All BoundedCut ks → All (PutOk BoundedSpan) (draw-puts e i id ks)
unfolding draw-puts
draws-ok e i id nil = nil
draws-ok e i id (cons {x = k} h hs) = cons (record { act = draw-ok e i id k.stretch.alpha h.tiles }) (draws-ok e i id hs)

closes-ok : (i : ℕ) (touched : List ℕ) {ks : List Cut} → All BoundedCut ks → All (PutOk BoundedSpan) (close-puts i touched ks)
unfolding close-puts
closes-ok i touched nil = nil
closes-ok i touched (cons {x = k} h hs) =
    all-if (some_of (eqb k.row) touched) (cons (record { act = closes h.tiles }) (closes-ok i touched hs)) (closes-ok i touched hs)

-- boxes
module _ (s : State) (f : Framed s) where
  clip-inside : (ls : List Layer) → All (λ (l : Layer). Inside s.frame.viewport l.bounds) ls → Inside s.frame.viewport (clip-box s.frame.viewport ls)
  clip-inside [] a = record { left = omega arith; right = omega arith; bottom = omega arith }
  clip-inside (l ∷ ls) a = head a

  pub box-inside : Inside s.frame.viewport (box_of s)
  box-inside = clip-inside s.layers f.boxes

  layer-inside : (p : Box) (c : Option Clip) → all-good c ≡ true → Inside s.frame.viewport p → Inside s.frame.viewport (layer-box s.frame.viewport p c)
  layer-inside p None g i = i
  layer-inside p (Some c) g i =
      let b = clip-facts c g in
      record { left = omega (arith, b.across, b.right, i.left); right = omega (arith, i.right); bottom = omega (arith, i.bottom) }

  -- rule 11: the box of a filter
  filter-inside : (q : Filter) → good-filter q ≡ true → Inside s.frame.viewport (filter-box s.frame.viewport (box_of s) q)
  filter-inside q g =
      let b = dest-facts q g in
      let i = box-inside in
      record { left = omega (arith, b.across, b.right, i.left); right = omega (arith, i.right); bottom = omega (arith, i.bottom) }

  inside-short : (b : Box) → Inside s.frame.viewport b → BoundedSpan (span_of b)
  inside-short b i = span-short b i.left (omega (arith, i.right, f.wide))

  -- every span that a plan puts on rows is short, unless the plan is refused by its own number
  fill-ok : (ps : List Paint) (ss : List Segment) (d : Draw) → (plan-fill ps ss d s).refused ≡ Done → All (PutOk BoundedSpan) (plan-fill ps ss d s).puts
  unfolding plan-fill
  fill-ok ps ss d e =
      draws-ok _ (length s.attrs.paints) s.next
      (cuts-short s.frame.viewport (box_of s) (judged-facts (not (good-fill ps ss d)) (draw-segments ss d) e).1)

  push_ok : (p : Props) → All (PutOk BoundedSpan) (plan-push p s).puts
  unfolding plan-push
  push_ok p = all-if (touches-all p (layer-box s.frame.viewport (box_of s) p.clip)) (all-mapped (on touch) (λ i. record { act = touches }) (rows_in (layer-box s.frame.viewport (box_of s) p.clip))) nil

  closing-ok : (c : Option Clip) (v own parent : Box) (i : ℕ) (ss : List Segment) (touched : List ℕ) → BoundedSpan (span_of own)
      → All (λ (x : Segment). good-segment x ≡ true) (clip-segments c ss) → All (PutOk BoundedSpan) (closing c v own parent i ss touched)
  unfolding closing
  closing-ok None v own parent i ss touched h g = all-mapped (on (close (span_of own) None i)) (λ x. record { act = closes h }) touched
  closing-ok (Some c) v own parent i ss touched h g = closes-ok i touched (cuts-short v parent g)

  pop_ok : (ls : List Layer) (ss : List Segment) (touched : List ℕ) → All (λ (l : Layer). Inside s.frame.viewport l.bounds) ls
      → (plan-pop ls ss touched s).refused ≡ Done → All (PutOk BoundedSpan) (plan-pop ls ss touched s).puts
  unfolding plan-pop
  pop_ok [] ss touched a e = nil
  pop_ok (l ∷ ls) ss touched a e =
      all_append
      (closing-ok l.props.clip s.frame.viewport l.bounds (clip-box s.frame.viewport ls) (length s.attrs.layers) ss touched (inside-short l.bounds (head a))
      (judged-facts (not (clip-fits l.props.clip ss)) (clip-segments l.props.clip ss) e).1)
      (all-mapped (on pop) (λ x. record { act = pops }) touched)

  filter-in-ok : (b : Box) (count : ℕ) (q : Filter) (g : ℕ) → Inside s.frame.viewport b → All (PutOk BoundedSpan) (plan-filter-in b count q g s).puts
  unfolding plan-filter-in filter-puts
  filter-in-ok b count q g i = all-mapped (on (paint (span_of b) None (length s.attrs.paints))) (λ x. record { act = paints (inside-short b i) }) (rows_in b)

  filter-ok : (count : ℕ) (q : Filter) (g : ℕ) → All (PutOk BoundedSpan) (plan-filter count q g s).puts
  unfolding plan-filter
  filter-ok count q g = go (good-filter-fill count q g) (draws-nothing q (filter-box s.frame.viewport (box_of s) q)) refl
    where
      b : Box
      b = filter-box s.frame.viewport (box_of s) q

      go : (t u : Bool) → good-filter-fill count q g ≡ t
          → All (PutOk BoundedSpan) (cond (not t) (still BadRecord s) (cond u (still Done s) (plan-filter-in (filter-box s.frame.viewport (box_of s) q) count q g s))).puts
      go false u e = nil
      go true true e = nil
      go true false e = filter-in-ok (filter-box s.frame.viewport (box_of s) q) count q g (filter-inside q (both (good-filter q) (leb count 4096) (both (good-filter q && leb count 4096) (good-panel g) e).0).0)

  pub plan-ok : (x : Step) (touched : List ℕ) → (plan x touched s).refused ≡ Done → All (PutOk BoundedSpan) (plan x touched s).puts
  unfolding plan
  plan-ok (a-fill ps ss d) touched e = fill-ok ps ss d e
  plan-ok (a-push p) touched e = push_ok p
  plan-ok (a-pop ss) touched e = pop_ok s.layers ss touched f.boxes e
  plan-ok (a-filter count q g) touched e = filter-ok count q g

  -- the boxes of the layers that a plan leaves open are inside
  good-layers : (p : Props) → good-props p ≡ true → Inside s.frame.viewport (layer-box s.frame.viewport (box_of s) p.clip)
  good-layers p g = layer-inside (box_of s) p.clip (both (good-blend p.blend && good-handle p.mask) (all-good p.clip) (both (good-blend p.blend && good-handle p.mask && all-good p.clip) (good-panel p.panel) g).0).1 box-inside

  not-refused : (t : Bool) → cond t Done BadRecord ≡ Done → t ≡ true
  not-refused true e = refl
  not-refused false e = absurd (omega arith)

  push-boxes : (p : Props) → (plan-push p s).refused ≡ Done → All (λ (l : Layer). Inside s.frame.viewport l.bounds) (plan-push p s).layers
  unfolding plan-push
  push-boxes p e = cons {x = record { props = p; bounds = layer-box s.frame.viewport (box_of s) p.clip }} (good-layers p (not-refused (good-props p) e)) f.boxes

  pop-boxes : (ls : List Layer) (ss : List Segment) (touched : List ℕ) → s.layers ≡ ls → All (λ (l : Layer). Inside s.frame.viewport l.bounds) (plan-pop ls ss touched s).layers
  unfolding plan-pop
  pop-boxes [] ss touched e = f.boxes
  pop-boxes (l ∷ ls) ss touched e = tail (rw e at f.boxes)

  filter-boxes : (count : ℕ) (q : Filter) (g : ℕ) → All (λ (l : Layer). Inside s.frame.viewport l.bounds) (plan-filter count q g s).layers
  unfolding plan-filter plan-filter-in
  filter-boxes count q g = go (not (good-filter-fill count q g)) (draws-nothing q (filter-box s.frame.viewport (box_of s) q))
    where
      go : (t u : Bool)
          → All (λ (l : Layer). Inside s.frame.viewport l.bounds) (cond t (still BadRecord s) (cond u (still Done s) (plan-filter-in (filter-box s.frame.viewport (box_of s) q) count q g s))).layers
      go true u = f.boxes
      go false true = f.boxes
      go false false = f.boxes

  pub plan-boxes : (x : Step) (touched : List ℕ) → (plan x touched s).refused ≡ Done → All (λ (l : Layer). Inside s.frame.viewport l.bounds) (plan x touched s).layers
  unfolding plan plan-fill
  plan-boxes (a-fill ps ss d) touched e = f.boxes
  plan-boxes (a-push p) touched e = push-boxes p e
  plan-boxes (a-pop ss) touched e = pop-boxes s.layers ss touched refl
  plan-boxes (a-filter count q g) touched e = filter-boxes count q g

-- a step leaves the state framed
module _ (R : Type 0) (ops : RowOps R) where
  own-done : (p : Plan) (t : Screen R) → refusal R ops p t ≡ Done → p.refused ≡ Done
  unfolding refusal
  own-done p t e = go (eqb p.refused Done) refl
    where
      go : (c : Bool) → eqb p.refused Done ≡ c → p.refused ≡ Done
      go true q = eqb-true p.refused Done q
      go false q = rw q at e

  done-framed : (x : Step) (s : Screen R) → Framed s.state → (planned R ops x s).refused ≡ Done → Framed (done R ops (planned R ops x s) s).state
  unfolding done
  done-framed x s f e = record { wide = f.wide; tall = f.tall; boxes = plan-boxes s.state f x (touched R ops (length s.state.layers) 0 s.rows) e }

  pub call-framed : (x : Step) (s : Screen R) → Framed s.state → Framed (call R ops x s).value.state
  unfolding call perform
  call-framed x s f = go (eqb (refusal R ops (planned R ops x s) (done R ops (planned R ops x s) s)) Done) refl
    where
      go : (c : Bool) → eqb (refusal R ops (planned R ops x s) (done R ops (planned R ops x s) s)) Done ≡ c
          → Framed (cond c (answer Done (done R ops (planned R ops x s) s)) (answer (refusal R ops (planned R ops x s) (done R ops (planned R ops x s) s)) s)).value.state
      go true e = done-framed x s f (own-done (planned R ops x s) (done R ops (planned R ops x s) s) (eqb-true _ Done e))
      go false e = f

  -- and so does a reset
  pub reset-framed : (fresh : R) (f : Frame) → good_viewport f.viewport ≡ true → Framed (reset fresh f).state
  unfolding reset good_viewport
  reset-framed fresh f g =
      let v = f.viewport in
      let h2 = both (good-box v && leb (width v) 4096) (leb (height v) 2048) g in
      let h1 = both (good-box v) (leb (width v) 4096) h2.0 in
      record { wide = leb-true (width f.viewport) 4096 h1.1; tall = leb-true (height f.viewport) 2048 h2.1; boxes = nil }
