-- What steps put on rows is fair under the attributes that they leave. Assumes nothing.
use Rattle.std.proofs.Common.{◌≡◌, refl, Bool, true, false, ◌&&◌, not, cond, List, [], ◌∷◌, ◌++◌, Option, None, Some, ℕ, ◌+◌, ◌-◌, ◌/◌, ◌%◌, ◌≤◌, ◌<◌, min, max, arith, leb, ltb, eqb, length, get_or, leb-false, ltb-true, eqb-true}
use borrow.Author.Tests.{not-false}
use Rattle.sizes.specs.declared.width.Width.{Width}
use Rattle.sizes.specs.Widths.{bucket-tiles}
use Rattle.sizes.specs.Sizes.{last-id}
use Rattle.rules.specs.Lists.{some_of, is-empty}
use Rattle.rules.specs.Answers.{Done, BadRecord}
use Rattle.rules.specs.Boxes.{Box, width, height, by_4, good-box, bounded, good_viewport, empty-box, rows_in, span_of, scene-tiles}
use Rattle.rules.specs.Spans.{Span, span, Stretch, common, moved, meeting, cut_at, cut-when, cut_to}
use Rattle.rules.specs.Segments.{Segment, good-segment, alpha-of, stretch-of, Cut, localised, cut_in, cuts}
use Rattle.rules.specs.Inputs.{Paint, Draw, Clip, Props, Filter, good-panel, good-draw, few-paints, good-props, good-filter, good-filter-fill, draw-segments, draw-paint, good-fill}
use Rattle.rules.specs.Blends.{Blend, default-blend}
use Rattle.rules.specs.Attributes.{PaintAttr, LayerAttr, FilterPaint, Attrs, no-paint, no-layer, no-attrs}
use Rattle.rules.specs.Painting.{paint-id}
use Rattle.rules.specs.Plans.{buckets-across, Layer, State, Step, a-fill, a-push, a-pop, a-filter, paint, touch, close, pop, on, Put, still, clip-box, box_of, with-paint, with-layer, eligible, draw-act, draw-puts, plan-fill, layer-box, touches-all, plan-push, clip-segments, clip-fits, close-puts, closing, plan-pop, filter-box, filter-paint, draws-nothing, filter-puts, plan-filter-in, plan-filter, plan}
use Rattle.rules.proofs.All.{All, nil, cons, head, both, and_left, and_right, neither, all-if, all_append, all-mapped, all_join}
use Rattle.rules.proofs.laws.Bounds.{Framed, Inside, judged-facts, good-facts, dest-facts, box-inside}
use Rattle.rules.proofs.laws.Widths.{each}
use Rattle.cmd.specs.Good.{GoodSpan, GoodAlpha}
use Rattle.paint.specs.Painting.{good-paint, good-layer}
use Rattle.refine_paint.proofs.Acts.{FairPut}
use Rattle.refine_paint.proofs.Attributes.{Extends, same-attrs, paint-extends, paint-new, paint-good, layer-extends, layer-good}

-- what is left of a good segment: in order, its alpha index can be moved over it, it ends within w tiles
record FairCut (w : ℕ) (k : Cut) : Type 0 where
  pub tiles : GoodSpan 8192 k.stretch.tiles
  pub alpha : GoodAlpha k.stretch.tiles k.stretch.alpha
  pub near : k.stretch.tiles.end ≤ w

data Left (b : Span) : Option Stretch → Type 0 where
  nothing : Left b None
  something : (k : Stretch) → GoodSpan 8192 k.tiles → GoodAlpha k.tiles k.alpha → k.tiles.end ≤ b.end → Left b (Some k)

alpha-local : (x : ℕ) (s : Span) (a : Option ℕ) → GoodAlpha s a → GoodAlpha (span (s.first - x) (s.end - x)) a
alpha-local x s None h = tt
alpha-local x s (Some a) h = omega arith

alpha-cut : (s c : Span) (a : Option ℕ) → GoodAlpha s a → s.first ≤ c.first → c.first ≤ c.end → c.end ≤ s.end → GoodAlpha c (moved a (c.first - s.first))
alpha-cut s c None h l m r = tt
alpha-cut s c (Some a) h l m r = omega arith

localised-fair : (v : Box) (w row : ℕ) (b : Span) → b.end - v.x0 / 4 ≤ w → {o : Option Stretch} → Left b o → All (FairCut w) (localised v row o)
localised-fair v w row b n nothing = nil
localised-fair v w row b n (something k s a m) =
    let t : GoodSpan 8192 (span (k.tiles.first - v.x0 / 4) (k.tiles.end - v.x0 / 4)) = record { in_order = omega (arith, s.in_order); in-limit = omega (arith, s.in-limit) } in
    cons (record { tiles = t; alpha = alpha-local (v.x0 / 4) k.tiles k.alpha a; near = omega arith }) nil

left-if : (b : Span) (t : Bool) {o : Option Stretch} → Left b o → Left b (cond t o None)
left-if b true l = l
left-if b false l = nothing

cut-fair : (b : Span) (s : Stretch) → s.tiles.end ≤ 8192 → GoodAlpha s.tiles s.alpha → Left b (cut_to b s)
unfolding cut_to meeting
cut-fair b s h a = go (ltb (common s.tiles b).first (common s.tiles b).end) refl
  where
    go : (t : Bool) → ltb (common s.tiles b).first (common s.tiles b).end ≡ t → Left b (cut-when s (cond t (Some (common s.tiles b)) None))
    go true e =
        let l : max s.tiles.first b.first < min s.tiles.end b.end = ltb-true (max s.tiles.first b.first) (min s.tiles.end b.end) e in
        something (cut_at s (common s.tiles b)) (record { in_order = omega arith; in-limit = omega arith })
        (alpha-cut s.tiles (common s.tiles b) s.alpha a (omega arith) (omega arith) (omega arith)) (omega arith)
    go false e = nothing

segment-alpha : (s : Segment) → good-segment s ≡ true → GoodAlpha (span s.first s.end) (alpha-of s)
segment-alpha s g = go (eqb s.kind 0)
  where
    go : (t : Bool) → GoodAlpha (span s.first s.end) (cond t None (Some s.alpha))
    go true = tt
    go false = (good-facts s g).alpha

cut-in-fair : (v b : Box) (w : ℕ) → b.x1 - v.x0 / 4 ≤ w → (s : Segment) → good-segment s ≡ true → All (FairCut w) (cut_in v b s)
unfolding cut_in
cut-in-fair v b w n s g =
    localised-fair v w s.row (span b.x0 b.x1) n
    (left-if (span b.x0 b.x1) (leb b.y0 s.row && ltb s.row b.y1) (cut-fair (span b.x0 b.x1) (stretch-of s) (good-facts s g).end (segment-alpha s g)))

view-4 : (v : Box) → good_viewport v ≡ true → v.x0 % 4 ≡ 0
unfolding good_viewport
view-4 v g =
    let h = (both (good-box v) (leb (width v) 4096) (both (good-box v && leb (width v) 4096) (leb (height v) 2048) g).0).0 in
    let k = (both (by_4 v.x0 && by_4 v.x1 && by_4 v.y0 && by_4 v.y1) (bounded v) h).0 in
    let k3 = (both (by_4 v.x0 && by_4 v.x1 && by_4 v.y0) (by_4 v.y1) k).0 in
    let k2 = (both (by_4 v.x0 && by_4 v.x1) (by_4 v.y0) k3).0 in
    eqb-true _ _ (both (by_4 v.x0) (by_4 v.x1) k2).0

cuts-fair : (v c : Box) → good_viewport v ≡ true → c.x1 ≤ width v → {ss : List Segment} → All (λ (s : Segment). good-segment s ≡ true) ss → All (FairCut (width v / 4)) (cuts v c ss)
unfolding cuts scene-tiles
cuts-fair v c g r a =
    let n : (v.x0 + c.x1) / 4 - v.x0 / 4 ≤ width v / 4 = omega (arith, view-4 v g) in
    all_join (cut_in v (scene-tiles v c)) (cut-in-fair v (scene-tiles v c) (width v / 4) n) a

-- a box's span
span-fair : (b : Box) → b.x0 ≤ 32768 → b.x1 ≤ 32768 → GoodSpan 8192 (span_of b)
unfolding span_of
span-fair b l r = go (empty-box b) refl
  where
    go : (t : Bool) → empty-box b ≡ t → GoodSpan 8192 (span (b.x0 / 4) (cond t (b.x0 / 4) (b.x1 / 4)))
    go true e = record { in_order = omega arith; in-limit = omega arith }
    go false e =
        let h = neither (leb b.x1 b.x0) (leb b.y1 b.y0) e in
        let k : b.x0 < b.x1 = leb-false b.x1 b.x0 h.0 in
        record { in_order = omega arith; in-limit = omega arith }

module _ (u : Width) (a : Attrs) (w : ℕ) where
  -- the buckets of w tiles
  abbrev wide : ℕ
  wide = (w + (bucket-tiles u - 1)) / bucket-tiles u

  -- tiles that end within w tiles end within their buckets
  bucket-near : (x : ℕ) → x ≤ w → x / bucket-tiles u ≤ wide
  bucket-near x h = each (λ v. x / v ≤ (w + (v - 1)) / v) (omega arith) (omega arith) (omega arith) u

  draw-fair : (e : Bool) (i id r : ℕ) (s : Span) (x : Option ℕ) → good-paint a i ≡ true → paint-id a i ≡ id → GoodSpan 8192 s → GoodAlpha s x → s.end ≤ w → FairPut u a wide (on (draw-act e i id s x) r)
  unfolding draw-act
  draw-fair true i id r s None p q g h n = record { act = (g, bucket-near s.end n, p, q) }
  draw-fair true i id r s (Some x) p q g h n = record { act = record { good = (g, h); attributed = p } }
  draw-fair false i id r s x p q g h n = record { act = record { good = (g, h); attributed = p } }

  draws-fair : (e : Bool) (i id : ℕ) → good-paint a i ≡ true → paint-id a i ≡ id → {ks : List Cut} → All (FairCut w) ks → All (FairPut u a wide) (draw-puts e i id ks)
  unfolding draw-puts
  draws-fair e i id p q nil = nil
  draws-fair e i id p q (cons {x = k} h hs) = cons (draw-fair e i id k.row k.stretch.tiles k.stretch.alpha p q h.tiles h.alpha h.near) (draws-fair e i id p q hs)

  closes-fair : (i : ℕ) → good-layer a i ≡ true → (ts : List ℕ) {ks : List Cut} → All (FairCut w) ks → All (FairPut u a wide) (close-puts i ts ks)
  unfolding close-puts
  closes-fair i p ts nil = nil
  closes-fair i p ts (cons {x = k} h hs) =
      all-if (some_of (eqb k.row) ts)
      (cons {x = on (close k.stretch.tiles k.stretch.alpha i) k.row} (record { act = record { good = (h.tiles, h.alpha); attributed = p } }) (closes-fair i p ts hs)) (closes-fair i p ts hs)

-- the attribute that a step adds: what it adds to none
abbrev bare : State → State
bare s = record { frame = s.frame; next = s.next; attrs = no-attrs; layers = s.layers }

abbrev paint-of : State → ℕ → Blend → ℕ → ℕ → ℕ → PaintAttr
paint-of s p b m th q = get_or (with-paint (bare s) p b m th q []).paints 0 no-paint

abbrev layer-of : State → Props → LayerAttr
layer-of s p = get_or (with-layer (bare s) p).layers 0 no-layer

-- .. has a panel
and-false : (t : Bool) → (t && false) ≡ false
and-false true = refl
and-false false = refl

draw-panel : (ps : List Paint) (ss : List Segment) (d : Draw) → not (good-fill ps ss d) ≡ false → good-panel d.panel ≡ true
draw-panel ps ss d e = go (good-panel d.panel) refl
  where
    good : good-draw ps ss d ≡ true
    good = and_right (few-paints (length ps)) (good-draw ps ss d) (not-false (good-fill ps ss d) e)

    go : (t : Bool) → good-panel d.panel ≡ t → t ≡ true
    go true q = refl
    go false q = (rw (q, and-false) at good)

props-panel : (p : Props) → good-props p ≡ true → good-panel p.panel ≡ true
props-panel p g = go (good-panel p.panel) refl
  where
    go : (t : Bool) → good-panel p.panel ≡ t → t ≡ true
    go true q = refl
    go false q = (rw (q, and-false) at g)

abbrev GoodProps : Layer → Type 0
GoodProps l = good-props l.props ≡ true

module _ (s : State) (f : Framed s) (g : good_viewport s.frame.viewport ≡ true) (one : 1 ≤ s.next) (props : All GoodProps s.layers) where
  abbrev v : Box
  v = s.frame.viewport

  abbrev FairPuts : Attrs → List Put → Type 0
  FairPuts a ps = All (FairPut s.frame.width a (buckets-across s.frame)) ps

  new-paint : (p : ℕ) (b : Blend) (m th q : ℕ) (fs : List FilterPaint) → s.next ≤ last-id → good-panel q ≡ true → good-paint (with-paint s p b m th q fs) (length s.attrs.paints) ≡ true
  new-paint p b m th q fs h k = paint-good s.attrs.paints s.attrs.layers [] [] (paint-of s p b m th q) one h k

  new-paint-id : (p : ℕ) (b : Blend) (m th q : ℕ) (fs : List FilterPaint) → paint-id (with-paint s p b m th q fs) (length s.attrs.paints) ≡ s.next
  new-paint-id p b m th q fs = paint-new s.attrs.paints s.attrs.layers [] [] (paint-of s p b m th q)

  new-layer : (p : Props) → s.next ≤ last-id → good-panel p.panel ≡ true → good-layer (with-layer s p) (length s.attrs.layers) ≡ true
  new-layer p h k = layer-good s.attrs.paints s.attrs.layers [] [] (layer-of s p) one h k

  fill-fair : (ps : List Paint) (ss : List Segment) (d : Draw) → (plan-fill ps ss d s).refused ≡ Done → (plan-fill ps ss d s).next ≤ 1048577 → FairPuts (plan-fill ps ss d s).attrs (plan-fill ps ss d s).puts
  unfolding plan-fill cuts draw-puts
  fill-fair ps ss d e n = go (draw-segments ss d) (judged-facts (not (good-fill ps ss d)) (draw-segments ss d) e).1
    where
      panel : good-panel d.panel ≡ true
      panel = draw-panel ps ss d (judged-facts (not (good-fill ps ss d)) (draw-segments ss d) e).0

      go : (own : List Segment) → All (λ (x : Segment). good-segment x ≡ true) own
          → FairPuts (cond (is-empty own) s.attrs (with-paint s d.paint d.blend d.mask d.thread d.panel []))
          (draw-puts (eligible (is-empty s.layers) (draw-paint ps d) d) (length s.attrs.paints) s.next (cuts v (box_of s) own))
      go [] a = nil
      go (x ∷ xs) a =
          draws-fair s.frame.width (with-paint s d.paint d.blend d.mask d.thread d.panel []) (width v / 4) (eligible (is-empty s.layers) (draw-paint ps d) d) (length s.attrs.paints) s.next
          (new-paint d.paint d.blend d.mask d.thread d.panel [] (omega arith) panel)
          (new-paint-id d.paint d.blend d.mask d.thread d.panel [])
          (cuts-fair v (box_of s) g (box-inside s f).right a)

  push-fair : (p : Props) → FairPuts (plan-push p s).attrs (plan-push p s).puts
  unfolding plan-push
  push-fair p =
      let b = layer-box v (box_of s) p.clip in
      all-if (touches-all p b) (all-mapped (on touch) (λ i. record { act = tt }) (rows_in b)) nil

  inside-fair : (b : Box) → Inside v b → GoodSpan 8192 (span_of b)
  inside-fair b i = span-fair b i.left (omega (arith, i.right, f.wide))

  clip-right : (ls : List Layer) → All (λ (l : Layer). Inside v l.bounds) ls → (clip-box v ls).x1 ≤ width v
  clip-right [] a = omega arith
  clip-right (l ∷ ls) a = (head a).right

  closing-fair : (a : Attrs) (c : Option Clip) (own parent : Box) (i : ℕ) (ss : List Segment) (ts : List ℕ) → good-layer a i ≡ true → GoodSpan 8192 (span_of own) → parent.x1 ≤ width v
      → All (λ (x : Segment). good-segment x ≡ true) (clip-segments c ss) → FairPuts a (closing c v own parent i ss ts)
  unfolding closing
  closing-fair a None own parent i ss ts p h r o = all-mapped (on (close (span_of own) None i)) (λ x. record { act = record { good = (h, tt); attributed = p } }) ts
  closing-fair a (Some c) own parent i ss ts p h r o = closes-fair s.frame.width a (width v / 4) i p ts (cuts-fair v parent g r o)

  pop-fair : (ls : List Layer) (ss : List Segment) (ts : List ℕ) → All (λ (l : Layer). Inside v l.bounds) ls → All GoodProps ls → (plan-pop ls ss ts s).refused ≡ Done → (plan-pop ls ss ts s).next ≤ 1048577
      → FairPuts (plan-pop ls ss ts s).attrs (plan-pop ls ss ts s).puts
  unfolding plan-pop
  pop-fair [] ss ts a q e n = nil
  pop-fair (l ∷ ls) ss ts (cons i is) (cons q qs) e n =
      all_append
      (closing-fair (with-layer s l.props) l.props.clip l.bounds (clip-box v ls) (length s.attrs.layers) ss ts
      (new-layer l.props (omega arith) (props-panel l.props q)) (inside-fair l.bounds i) (clip-right ls is)
      (judged-facts (not (clip-fits l.props.clip ss)) (clip-segments l.props.clip ss) e).1)
      (all-mapped (on pop) (λ x. record { act = tt }) ts)

  filter-inside : (q : Filter) → good-filter q ≡ true → Inside v (filter-box v (box_of s) q)
  filter-inside q h =
      let b = dest-facts q h in
      let i = box-inside s f in
      record { left = omega (arith, b.across, b.right, i.left); right = omega (arith, i.right); bottom = omega (arith, i.bottom) }

  filter-in-fair : (b : Box) (count : ℕ) (q : Filter) (z : ℕ) → Inside v b → good-panel z ≡ true → (plan-filter-in b count q z s).next ≤ 1048577
      → FairPuts (plan-filter-in b count q z s).attrs (plan-filter-in b count q z s).puts
  unfolding plan-filter-in filter-puts
  filter-in-fair b count q z i k n =
      let p = new-paint (count + length s.attrs.filters) default-blend 0 0 z (filter-paint q ∷ []) (omega arith) k in
      all-mapped (on (paint (span_of b) None (length s.attrs.paints))) (λ x. record { act = record { good = (inside-fair b i, tt); attributed = p } }) (rows_in b)

  filter-fair : (count : ℕ) (q : Filter) (z : ℕ) → (plan-filter count q z s).next ≤ 1048577 → FairPuts (plan-filter count q z s).attrs (plan-filter count q z s).puts
  unfolding plan-filter
  filter-fair count q z n = go (good-filter-fill count q z) (draws-nothing q (filter-box v (box_of s) q)) refl n
    where
      go : (t u : Bool) → good-filter-fill count q z ≡ t
          → (cond (not t) (still BadRecord s) (cond u (still Done s) (plan-filter-in (filter-box v (box_of s) q) count q z s))).next ≤ 1048577
          → FairPuts (cond (not t) (still BadRecord s) (cond u (still Done s) (plan-filter-in (filter-box v (box_of s) q) count q z s))).attrs
          (cond (not t) (still BadRecord s) (cond u (still Done s) (plan-filter-in (filter-box v (box_of s) q) count q z s))).puts
      go false u e m = nil
      go true true e m = nil
      go true false e m =
          let h = both (good-filter q && few-paints count) (good-panel z) e in
          filter-in-fair (filter-box v (box_of s) q) count q z (filter-inside q (and_left (good-filter q) (few-paints count) h.0)) h.1 m

  pub plan-fair : (x : Step) (ts : List ℕ) → (plan x ts s).refused ≡ Done → (plan x ts s).next ≤ 1048577 → FairPuts (plan x ts s).attrs (plan x ts s).puts
  unfolding plan
  plan-fair (a-fill ps ss d) ts e n = fill-fair ps ss d e n
  plan-fair (a-push p) ts e n = push-fair p
  plan-fair (a-pop ss) ts e n = pop-fair s.layers ss ts f.boxes props e n
  plan-fair (a-filter count q z) ts e n = filter-fair count q z n

-- the attributes that a plan leaves
module _ (s : State) where
  paint-added : (p : ℕ) (b : Blend) (m th q : ℕ) (fs : List FilterPaint) → Extends s.attrs (with-paint s p b m th q fs)
  paint-added p b m th q fs = paint-extends s.attrs.paints s.attrs.layers s.attrs.filters (s.attrs.filters ++ fs) (paint-of s p b m th q)

  fill-extends : (ps : List Paint) (ss : List Segment) (d : Draw) → Extends s.attrs (plan-fill ps ss d s).attrs
  unfolding plan-fill
  fill-extends ps ss d = go (is-empty (draw-segments ss d))
    where
      go : (t : Bool) → Extends s.attrs (cond t s.attrs (with-paint s d.paint d.blend d.mask d.thread d.panel []))
      go true = same-attrs s.attrs
      go false = paint-added d.paint d.blend d.mask d.thread d.panel []

  pop-extends : (ls : List Layer) (ss : List Segment) (ts : List ℕ) → Extends s.attrs (plan-pop ls ss ts s).attrs
  unfolding plan-pop
  pop-extends [] ss ts = same-attrs s.attrs
  pop-extends (l ∷ ls) ss ts = layer-extends s.attrs.paints s.attrs.layers s.attrs.filters s.attrs.filters (layer-of s l.props)

  filter-extends : (count : ℕ) (q : Filter) (z : ℕ) → Extends s.attrs (plan-filter count q z s).attrs
  unfolding plan-filter plan-filter-in
  filter-extends count q z = go (not (good-filter-fill count q z)) (draws-nothing q (filter-box s.frame.viewport (box_of s) q))
    where
      go : (t u : Bool) → Extends s.attrs (cond t (still BadRecord s) (cond u (still Done s) (plan-filter-in (filter-box s.frame.viewport (box_of s) q) count q z s))).attrs
      go true u = same-attrs s.attrs
      go false true = same-attrs s.attrs
      go false false = paint-added (count + length s.attrs.filters) default-blend 0 0 z (filter-paint q ∷ [])

  pub plan-extends : (x : Step) (ts : List ℕ) → Extends s.attrs (plan x ts s).attrs
  unfolding plan plan-push
  plan-extends (a-fill ps ss d) ts = fill-extends ps ss d
  plan-extends (a-push p) ts = same-attrs s.attrs
  plan-extends (a-pop ss) ts = pop-extends s.layers ss ts
  plan-extends (a-filter count q z) ts = filter-extends count q z
