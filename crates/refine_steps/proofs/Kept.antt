-- Steps keep a screen sound. Assumes nothing.
use Rattle.std.proofs.lemmas.Bool.Decides.{nat_tests}
use Rattle.std.proofs.Common.{◌≡◌, refl, sym, ◌∙◌, Bool, true, false, ◌&&◌, not, cond, List, [], ◌∷◌, Option, None, Some, ℕ, zero, suc, ◌-◌, ◌/◌, ◌%◌, ◌≤◌, ◌<◌, min, max, arith, leb, ltb, eqb, length}
use Rattle.std.proofs.Common.{get_or, replicate, leb-false, ltb-true, ltb-false, eqb-true}
use lib.ListN.{length-replicate}
use Rattle.rules.specs.Lists.{some_of}
use Rattle.rules.specs.Answers.{answer, Done, BadRecord}
use Rattle.rules.specs.Boxes.{Box, by_4, good-box, bounded, good_viewport, empty-box, rows_of, rows_in, span_of, scene-tiles}
use Rattle.rules.specs.Spans.{Span, span, Stretch, common, meeting, cut_at, cut-when, cut_to}
use Rattle.rules.specs.Segments.{Segment, good-segment, stretch-of, Cut, localised, cut_in, cuts}
use Rattle.rules.specs.Blends.{good-blend}
use Rattle.rules.specs.Inputs.{Paint, Draw, Clip, Props, good-handle, good-panel, few-paints, all-good, good-props, Filter, good-filter, draw-segments, good-fill}
use Rattle.rules.specs.Attributes.{attrs-full}
use Rattle.rules.specs.Rows.{Row, fresh-row, row-ops}
use Rattle.rules.specs.Plans.{Frame, bucket, Layer, State, Step, a-fill, a-push, a-pop, a-filter, paint, touch, close, pop, on, Put, Plan, clip-box, box_of, draw-act, draw-puts, plan-fill, layer-box, touches-all, plan-push, clip-segments, clip-fits, close-puts, closing, plan-pop, filter-box, filter-puts, plan-filter-in, plan-filter, plan}
use Rattle.rules.specs.Steps.{Screen, reset, do-puts, done, row-passes, passes, refusal, perform, touched, call}
use Rattle.rules.specs.Walk.{good-room}
use Rattle.rules.proofs.All.{All, nil, cons, head, tail, both, and_left, and_right, neither, never, all-if, all_append, all-mapped, all_join}
use Rattle.rules.proofs.laws.Changes.{puts-on, puts-length, untouched}
use Rattle.rules.proofs.laws.Maps.{paints, splits, touches, closes, pops, planned}
use Rattle.rules.proofs.laws.Bounds.{Framed, Inside, judged-facts, good-facts, bounded-facts, clip-facts, dest-facts, box-inside}
use Rattle.screen.proofs.ScreenLaws as screens
use Rattle.refine_row.proofs.Refines.{Built, called, reset-built}
use Rattle.refine_layers.specs.Touched.{Reaching}
use Rattle.refine_layers.proofs.Laws.{call-reaching, reset-reaching, filter-plans}
use Rattle.refine_steps.specs.Sound.{Ordered, Good, Sound}
use Rattle.refine_steps.proofs.Acts.{PutFine, puts-sane}

-- what is left of a good segment is in order
pub record CutFine (k : Cut) : Type 0 where
  pub tiles : Ordered k.stretch.tiles

data Left : Option Stretch → Type 0 where
  nothing : Left None
  something : (k : Stretch) → Ordered k.tiles → Left (Some k)

localised-fine : (v : Box) (row : ℕ) {o : Option Stretch} → Left o → All CutFine (localised v row o)
localised-fine v row nothing = nil
localised-fine v row (something k s) =
    let t : Ordered (span (k.tiles.first - v.x0 / 4) (k.tiles.end - v.x0 / 4)) = record { order = omega (arith, s.order); end = omega (arith, s.end) } in
    cons (record { tiles = t }) nil

left-if : (t : Bool) {o : Option Stretch} → Left o → Left (cond t o None)
left-if true l = l
left-if false l = nothing

cut-fine : (b : Span) (s : Stretch) → s.tiles.end ≤ 8192 → Left (cut_to b s)
unfolding cut_to meeting
cut-fine b s h = go (ltb (common s.tiles b).first (common s.tiles b).end) refl
  where
    go : (t : Bool) → ltb (common s.tiles b).first (common s.tiles b).end ≡ t → Left (cut-when s (cond t (Some (common s.tiles b)) None))
    go true e =
        let l : max s.tiles.first b.first < min s.tiles.end b.end = ltb-true (max s.tiles.first b.first) (min s.tiles.end b.end) e in
        something (cut_at s (common s.tiles b)) (record { order = omega arith; end = omega arith })
    go false e = nothing

cut-in-fine : (v b : Box) (s : Segment) → good-segment s ≡ true → All CutFine (cut_in v b s)
unfolding cut_in
cut-in-fine v b s g = localised-fine v s.row (left-if (leb b.y0 s.row && ltb s.row b.y1) (cut-fine (span b.x0 b.x1) (stretch-of s) (good-facts s g).end))

cuts-fine : (v c : Box) {ss : List Segment} → All (λ (s : Segment). good-segment s ≡ true) ss → All CutFine (cuts v c ss)
unfolding cuts
cuts-fine v c a = all_join (cut_in v (scene-tiles v c)) (cut-in-fine v (scene-tiles v c)) a

-- a box's span
span-fine : (b : Box) → b.x0 ≤ 32768 → b.x1 ≤ 32768 → Ordered (span_of b)
unfolding span_of
span-fine b l r = go (empty-box b) refl
  where
    go : (t : Bool) → empty-box b ≡ t → Ordered (span (b.x0 / 4) (cond t (b.x0 / 4) (b.x1 / 4)))
    go true e = record { order = omega arith; end = omega arith }
    go false e =
        let h = neither (leb b.x1 b.x0) (leb b.y1 b.y0) e in
        let k : b.x0 < b.x1 = leb-false b.x1 b.x0 h.0 in
        record { order = omega arith; end = omega arith }

-- what steps put on rows
draw-fine : (e : Bool) (i id r : ℕ) {s : Span} (a : Option ℕ) → id ≤ 1048576 → Ordered s → PutFine (on (draw-act e i id s a) r)
unfolding draw-act
draw-fine true i id r None g h = record { act = splits h; id = g }
draw-fine true i id r (Some a) g h = record { act = paints h; id = omega arith }
draw-fine false i id r None g h = record { act = paints h; id = omega arith }
draw-fine false i id r (Some a) g h = record { act = paints h; id = omega arith }

draws-fine : (e : Bool) (i id : ℕ) → id ≤ 1048576 → {ks : List Cut} → All CutFine ks → All PutFine (draw-puts e i id ks)
unfolding draw-puts
draws-fine e i id g nil = nil
draws-fine e i id g (cons {x = k} h hs) = cons (draw-fine e i id k.row k.stretch.alpha g h.tiles) (draws-fine e i id g hs)

closes-fine : (i : ℕ) (ts : List ℕ) {ks : List Cut} → All CutFine ks → All PutFine (close-puts i ts ks)
unfolding close-puts
closes-fine i ts nil = nil
closes-fine i ts (cons {x = k} h hs) =
    all-if (some_of (eqb k.row) ts) (cons (record { act = closes h.tiles; id = omega arith }) (closes-fine i ts hs)) (closes-fine i ts hs)

closing-fine : (c : Option Clip) (v own parent : Box) (i : ℕ) (ss : List Segment) (ts : List ℕ) → Ordered (span_of own)
    → All (λ (x : Segment). good-segment x ≡ true) (clip-segments c ss) → All PutFine (closing c v own parent i ss ts)
unfolding closing
closing-fine None v own parent i ss ts h g = all-mapped (on (close (span_of own) None i)) (λ x. record { act = closes h; id = omega arith }) ts
closing-fine (Some c) v own parent i ss ts h g = closes-fine i ts (cuts-fine v parent g)

module _ (s : State) (f : Framed s) where
  fill-fine : (ps : List Paint) (ss : List Segment) (d : Draw) → (plan-fill ps ss d s).refused ≡ Done → (plan-fill ps ss d s).next ≤ 1048577 → All PutFine (plan-fill ps ss d s).puts
  unfolding plan-fill
  fill-fine ps ss d e n =
      draws-fine _ (length s.attrs.paints) s.next (omega arith)
      (cuts-fine s.frame.viewport (box_of s) (judged-facts (not (good-fill ps ss d)) (draw-segments ss d) e).1)

  push-fine : (p : Props) → All PutFine (plan-push p s).puts
  unfolding plan-push
  push-fine p =
      let b = layer-box s.frame.viewport (box_of s) p.clip in
      all-if (touches-all p b) (all-mapped (on touch) (λ i. record { act = touches; id = omega arith }) (rows_in b)) nil

  inside-fine : (b : Box) → Inside s.frame.viewport b → Ordered (span_of b)
  inside-fine b i = span-fine b i.left (omega (arith, i.right, f.wide))

  pop-fine : (ls : List Layer) (ss : List Segment) (ts : List ℕ) → All (λ (l : Layer). Inside s.frame.viewport l.bounds) ls
      → (plan-pop ls ss ts s).refused ≡ Done → All PutFine (plan-pop ls ss ts s).puts
  unfolding plan-pop
  pop-fine [] ss ts a e = nil
  pop-fine (l ∷ ls) ss ts a e =
      all_append
      (closing-fine l.props.clip s.frame.viewport l.bounds (clip-box s.frame.viewport ls) (length s.attrs.layers) ss ts (inside-fine l.bounds (head a))
      (judged-facts (not (clip-fits l.props.clip ss)) (clip-segments l.props.clip ss) e).1)
      (all-mapped (on pop) (λ x. record { act = pops; id = omega arith }) ts)

  filter-inside : (q : Filter) → good-filter q ≡ true → Inside s.frame.viewport (filter-box s.frame.viewport (box_of s) q)
  filter-inside q g =
      let b = dest-facts q g in
      let i = box-inside s f in
      record { left = omega (arith, b.across, b.right, i.left); right = omega (arith, i.right); bottom = omega (arith, i.bottom) }

  filter-in-fine : (b : Box) (count : ℕ) (q : Filter) (j : ℕ) → Inside s.frame.viewport b → All PutFine (plan-filter-in b count q j s).puts
  unfolding plan-filter-in filter-puts
  filter-in-fine b count q j i = all-mapped (on (paint (span_of b) None (length s.attrs.paints))) (λ x. record { act = paints (inside-fine b i); id = omega arith }) (rows_in b)

  filter-fine : (count : ℕ) (q : Filter) (j : ℕ) → All PutFine (plan-filter count q j s).puts
  filter-fine count q j =
      filter-plans (λ p. All PutFine p.puts) count q j s nil nil
      (λ e. filter-in-fine (filter-box s.frame.viewport (box_of s) q) count q j (filter-inside q (and_left (good-filter q) (few-paints count) (and_left (good-filter q && few-paints count) (good-panel j) e))))

  plan-fine : (x : Step) (ts : List ℕ) → (plan x ts s).refused ≡ Done → (plan x ts s).next ≤ 1048577 → All PutFine (plan x ts s).puts
  unfolding plan
  plan-fine (a-fill ps ss d) ts e n = fill-fine ps ss d e n
  plan-fine (a-push p) ts e n = push-fine p
  plan-fine (a-pop ss) ts e n = pop-fine s.layers ss ts f.boxes e
  plan-fine (a-filter count q j) ts e n = filter-fine count q j

-- a plan that nothing refuses
pub record Passing (p : Plan) (t : Screen Row) : Type 0 where
  pub own : p.refused ≡ Done
  pub deep : length p.layers ≤ 16
  pub ids : p.next ≤ 1048577
  pub attrs : attrs-full p.attrs ≡ false
  pub renders : passes Row row-ops (λ (r : Row). length r.commands) t.state.frame.c p.puts t.rows ≡ false
  pub depths : passes Row row-ops (λ (r : Row). length r.fills) t.state.frame.d p.puts t.rows ≡ false

pub passing : (p : Plan) (t : Screen Row) → refusal Row row-ops p t ≡ Done → Passing p t
unfolding refusal
passing p t e =
    record {
      own = grind (arith, nat_tests);
      deep = grind (arith, nat_tests);
      ids = grind (arith, nat_tests);
      attrs = grind (arith, nat_tests);
      renders = grind (arith, nat_tests);
      depths = grind (arith, nat_tests);
    }

-- counts stay within their limit
module _ (count : Row → ℕ) (n : ℕ) (z : count fresh-row ≤ n) where
  row_fits : (i : ℕ) (rs : List Row) → row-passes Row row-ops count n i rs ≡ false → count (get_or rs i fresh-row) ≤ n
  row_fits i [] e = z
  row_fits zero (r ∷ rs) e = ltb-false n (count r) e
  row_fits (suc i) (r ∷ rs) e = row_fits i rs e

  put-fits : (x : ℕ) (ps : List Put) (rs : List Row) → passes Row row-ops count n ps rs ≡ false → puts-on x ps ≡ true → count (get_or rs x fresh-row) ≤ n
  unfolding passes puts-on
  put-fits x [] rs e h = never (sym h)
  put-fits x (p ∷ ps) rs e h =
      let k = neither (row-passes Row row-ops count n p.row rs) (passes Row row-ops count n ps rs) e in
      go (eqb p.row x) refl k.0 (put-fits x ps rs k.1)
    where
      go : (t : Bool) → eqb p.row x ≡ t → row-passes Row row-ops count n p.row rs ≡ false → (puts-on x ps ≡ true → count (get_or rs x fresh-row) ≤ n) → count (get_or rs x fresh-row) ≤ n
      go true q a more = rw (eqb-true p.row x q) at (row_fits p.row rs a)
      go false q a more = more (rw q at h)

  fits_after : (v m : ℕ) (ps : List Put) (rs : List Row) → passes Row row-ops count n ps (do-puts Row row-ops v m ps rs) ≡ false
      → (x : ℕ) → count (get_or rs x fresh-row) ≤ n → count (get_or (do-puts Row row-ops v m ps rs) x fresh-row) ≤ n
  fits_after v m ps rs e x h = go (puts-on x ps) refl
    where
      go : (t : Bool) → puts-on x ps ≡ t → count (get_or (do-puts Row row-ops v m ps rs) x fresh-row) ≤ n
      go true q = put-fits x ps (do-puts Row row-ops v m ps rs) e q
      go false q = rw (untouched Row row-ops v m x fresh-row ps rs q) h

-- the layers that a plan leaves open
boxes-4 : (v : Box) → good-box v ≡ true → (v.x0 % 4 ≡ 0) × (v.x1 % 4 ≡ 0) × (v.y0 % 4 ≡ 0) × (v.y1 % 4 ≡ 0)
boxes-4 v g = (grind (arith, nat_tests), grind (arith, nat_tests), grind (arith, nat_tests), grind (arith, nat_tests))

view-box : (v : Box) → good_viewport v ≡ true → good-box v ≡ true
unfolding good_viewport
view-box v g = grind (arith, nat_tests)

module _ (v : Box) (g : good_viewport v ≡ true) where
  whole-good : screens.Clip v (clip-box v [])
  whole-good =
      let k = boxes-4 v (view-box v g) in
      let b = bounded-facts v (both (by_4 v.x0 && by_4 v.x1 && by_4 v.y0 && by_4 v.y1) (bounded v) (view-box v g)).1 in
      record {
        x0-by-4 = refl;
        y0-by-4 = refl;
        x1-by-4 = omega (arith, k.0, k.1, b.across);
        y1-by-4 = omega (arith, k.2, k.3, b.down);
        left = omega arith;
        top = omega arith;
        right = omega arith;
        bottom = omega arith;
      }

  pub clip-good : (ls : List Layer) → All (Good v) ls → screens.Clip v (clip-box v ls)
  clip-good [] a = whole-good
  clip-good (l ∷ ls) a = (head a).bounds

  layer-good : (p : Box) (c : Option Clip) → all-good c ≡ true → screens.Clip v p → screens.Clip v (layer-box v p c)
  layer-good p None e k = k
  layer-good p (Some c) e k =
      let q = boxes-4 v (view-box v g) in
      let b = clip-facts c e in
      let o = boxes-4 c.bounds (both (good-box c.bounds) (leb c.start c.end) (both (good-box c.bounds && leb c.start c.end) (ltb c.thread 256) e).0).0 in
      record {
        x0-by-4 = omega (arith, q.0, o.0, k.x0-by-4);
        y0-by-4 = omega (arith, q.2, o.2, k.y0-by-4);
        x1-by-4 = omega (arith, q.0, o.1, k.x1-by-4);
        y1-by-4 = omega (arith, q.2, o.3, k.y1-by-4);
        left = omega (arith, b.across, b.right, k.left);
        top = omega (arith, b.down, b.bottom, k.top);
        right = omega (arith, k.right);
        bottom = omega (arith, k.bottom);
      }

not-refused : (t : Bool) → cond t Done BadRecord ≡ Done → t ≡ true
not-refused true e = refl
not-refused false e = absurd (omega arith)

module _ (s : State) (g : good_viewport s.frame.viewport ≡ true) (a : All (Good s.frame.viewport) s.layers) where
  push-layers : (p : Props) → (plan-push p s).refused ≡ Done → All (Good s.frame.viewport) (plan-push p s).layers
  unfolding plan-push
  push-layers p e =
      let q : good-props p ≡ true = not-refused (good-props p) e in
      let c : all-good p.clip ≡ true = and_right (good-blend p.blend && good-handle p.mask) (all-good p.clip) (and_left (good-blend p.blend && good-handle p.mask && all-good p.clip) (good-panel p.panel) q) in
      cons {x = record { props = p; bounds = layer-box s.frame.viewport (box_of s) p.clip }}
      (record { props = q; bounds = layer-good s.frame.viewport g (box_of s) p.clip c (clip-good s.frame.viewport g s.layers a) }) a

  pop-layers : (ls : List Layer) (ss : List Segment) (ts : List ℕ) → s.layers ≡ ls → All (Good s.frame.viewport) (plan-pop ls ss ts s).layers
  unfolding plan-pop
  pop-layers [] ss ts e = a
  pop-layers (l ∷ ls) ss ts e = tail (rw e at a)

  filter-layers : (count : ℕ) (q : Filter) (j : ℕ) → All (Good s.frame.viewport) (plan-filter count q j s).layers
  unfolding plan-filter plan-filter-in
  filter-layers count q j = filter-plans (λ p. All (Good s.frame.viewport) p.layers) count q j s a a (λ e. a)

  plan-layers : (x : Step) (ts : List ℕ) → (plan x ts s).refused ≡ Done → All (Good s.frame.viewport) (plan x ts s).layers
  unfolding plan plan-fill
  plan-layers (a-fill ps ss d) ts e = a
  plan-layers (a-push p) ts e = push-layers p e
  plan-layers (a-pop ss) ts e = pop-layers s.layers ss ts refl
  plan-layers (a-filter count q j) ts e = filter-layers count q j

  -- no step gives an id back
  pop_next : (ls : List Layer) (ss : List Segment) (ts : List ℕ) → s.next ≤ (plan-pop ls ss ts s).next
  unfolding plan-pop
  pop_next [] ss ts = omega arith
  pop_next (l ∷ ls) ss ts = omega arith

  filter-next : (count : ℕ) (q : Filter) (j : ℕ) → s.next ≤ (plan-filter count q j s).next
  unfolding plan-filter plan-filter-in
  filter-next count q j = filter-plans (λ p. s.next ≤ p.next) count q j s (omega arith) (omega arith) (λ e. omega arith)

  plan-next : (x : Step) (ts : List ℕ) → s.next ≤ (plan x ts s).next
  unfolding plan plan-fill plan-push
  plan-next (a-fill ps ss d) ts = omega arith
  plan-next (a-push p) ts = omega arith
  plan-next (a-pop ss) ts = pop_next s.layers ss ts
  plan-next (a-filter count q j) ts = filter-next count q j

-- the calls
abbrev after : Step → Screen Row → Screen Row
after x s = done Row row-ops (planned Row row-ops x s) s

done-sound : (x : Step) (s : Screen Row) → Sound s → Passing (planned Row row-ops x s) (after x s) → Built (after x s) → Reaching (after x s) → Sound (after x s)
unfolding done
done-sound x s h n b r =
    let p = planned Row row-ops x s in
    let ts = touched Row row-ops (length s.state.layers) 0 s.rows in
    record {
      built = b;
      reaching = r;
      viewport = h.viewport;
      c-room = h.c-room;
      d-room = h.d-room;
      some_id = omega (arith, h.some_id, plan-next s.state h.viewport h.layers x ts);
      ids = n.ids;
      attrs = n.attrs;
      deep = n.deep;
      layers = plan-layers s.state h.viewport h.layers x ts n.own;
      count = puts-length Row row-ops (bucket s.state.frame) (length p.layers) p.puts s.rows ∙ h.count;
      rows = λ i. record {
        commands = fits_after (λ (r : Row). length r.commands) s.state.frame.c (omega arith) (bucket s.state.frame) (length p.layers) p.puts s.rows n.renders i (h.rows i).commands;
        fills = fits_after (λ (r : Row). length r.fills) s.state.frame.d (omega arith) (bucket s.state.frame) (length p.layers) p.puts s.rows n.depths i (h.rows i).fills;
        sane = puts-sane s.state.frame.width (length p.layers) (plan-fine s.state h.built.framed x ts n.own n.ids) s.rows (λ j. (h.rows j).sane) i;
      };
    }

-- every step, refused or done
pub call-sound : (x : Step) (s : Screen Row) → Sound s → Sound (call Row row-ops x s).value
unfolding call perform
call-sound x s h = go (eqb (refusal Row row-ops (planned Row row-ops x s) (after x s)) Done) refl (called 0 0 x s h.built).1 (call-reaching x s h.reaching)
  where
    go : (c : Bool) → eqb (refusal Row row-ops (planned Row row-ops x s) (after x s)) Done ≡ c
        → Built (cond c (answer Done (after x s)) (answer (refusal Row row-ops (planned Row row-ops x s) (after x s)) s)).value
        → Reaching (cond c (answer Done (after x s)) (answer (refusal Row row-ops (planned Row row-ops x s) (after x s)) s)).value
        → Sound (cond c (answer Done (after x s)) (answer (refusal Row row-ops (planned Row row-ops x s) (after x s)) s)).value
    go true e b r = done-sound x s h (passing (planned Row row-ops x s) (after x s) (eqb-true _ Done e)) b r
    go false e b r = h

-- .. and a reset of a good frame
pub reset-sound : (f : Frame) → good_viewport f.viewport ≡ true → good-room f.c ≡ true → good-room f.d ≡ true → Sound (reset fresh-row f)
unfolding reset
reset-sound f g c d =
    record {
      built = reset-built f g;
      reaching = reset-reaching f;
      viewport = g;
      c-room = c;
      d-room = d;
      some_id = omega arith;
      ids = omega arith;
      attrs = refl;
      deep = omega arith;
      layers = nil;
      count = length-replicate (rows_of f.viewport) fresh-row;
      rows = λ i. rw (fresh_at (rows_of f.viewport) i) (record { commands = omega arith; fills = omega arith; sane = record { unions = nil; depth = tt; largest = omega arith } });
    }
  where
    fresh_at : (n i : ℕ) → get_or (replicate n fresh-row) i fresh-row ≡ fresh-row
    fresh_at zero i = refl
    fresh_at (suc n) zero = refl
    fresh_at (suc n) (suc i) = fresh_at n i
