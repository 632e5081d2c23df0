-- A present clip's segments, of a recording whose records are good and whose lists are in order.
use Rattle.std.proofs.Common.{ℕ, ◌-◌, ◌/◌, ◌≤◌, ◌<◌, ◌≡◌, refl, sym, ap, ◌∙◌, true, false, ◌&&◌, cond, List, [], length, get_or, leb, eqb, leb-true, eqb-true, le-leb, eq-eqb}
use Rattle.rules.specs.Lists.{slice, every}
use Rattle.rules.specs.Boxes.{good-box}
use Rattle.rules.specs.Spans.{good-range}
use Rattle.rules.specs.Inputs.{Draw, draw-segments, good-handle, good-filter, good-panel, good-thread}
use Rattle.rules.specs.Blends.{good-blend}
use Rattle.rules.specs.Segments.{good-segment, ordered, judge-segments}
use Rattle.rules.specs.Recording.{Recording, LayerRec, good-records, good-order, good-layer-rec, good-clip-order, good-clip-rec, zero-clip, zero-filter, layer-rec}
use Rattle.rules.proofs.All.{both}
use Rattle.segments.specs.Segs.{segs, segs-of}
use Rattle.segments.proofs.Laws.{segs-count}
use Rattle.file.proofs.Laws.{record-facts, good-layer-at}
use Rattle.file.proofs.Counted.{every-getD}
use Rattle.file.proofs.Listed.{range-judged}

-- no segments
pub none-known : (ws : List ℕ) → judge-segments false (segs ws 0 0) ≡ 0
unfolding judge-segments segs ordered
none-known ws = refl

-- the range of a present clip
module _ (r : Recording) (y : LayerRec) (e : good-layer-rec r y ≡ true) (p : y.flag ≡ 1) where
  present : good-clip-rec r y.clip ≡ true
  present =
      let k = leb y.kind 1 in
      let g = good-range y.start y.end (length r.nodes) in
      let b = good-blend y.blend in
      let m = good-handle y.mask in
      let f = leb y.flag 1 in
      let c = cond (eqb y.flag 1) (good-clip-rec r y.clip) (zero-clip y.clip) in
      let x = cond (eqb y.kind 1) (good-filter y.filter) (zero-filter y.filter) in
      let h7 = both (k && g && b && m && f && c && x) (good-panel y.panel) e in
      let h6 = both (k && g && b && m && f && c) x h7.0 in
      let h5 = both (k && g && b && m && f) c h6.0 in
      sym (ap (λ t. cond t (good-clip-rec r y.clip) (zero-clip y.clip)) (eq-eqb y.flag 1 p)) ∙ h5.1

  clip-range : (y.clip.start ≤ y.clip.end) × (y.clip.end ≤ length r.segments)
  clip-range =
      let c = y.clip in
      let h2 = both (good-box c.bounds && leb c.start c.end && good-thread c.thread) (leb c.end (length r.segments)) present in
      let h1 = both (good-box c.bounds && leb c.start c.end) (good-thread c.thread) h2.0 in
      let h0 = both (good-box c.bounds) (leb c.start c.end) h1.0 in
      (leb-true _ _ h0.1, leb-true _ _ h2.1)

module _ (r : Recording) (good : good-records r ≡ true) (order : good-order r ≡ true) (i : ℕ) (h : i < length r.layers) where
  clip-order : {y : LayerRec} → y ≡ get_or r.layers i (layer-rec []) → good-clip-order r y ≡ true
  unfolding good-order
  clip-order q =
      let o = both (every (λ (d : Draw). ordered (draw-segments r.segments d)) r.draws) (every (good-clip-order r) r.layers) order in
      rw q (every-getD (good-clip-order r) r.layers i (layer-rec []) h o.1)

  -- .. are good and in order
  pub clip-known : (ws : List ℕ) {y : LayerRec} → y ≡ get_or r.layers i (layer-rec []) → y.flag ≡ 1 → segs-of ws ≡ r.segments
      → judge-segments false (segs ws y.clip.start (y.clip.end - y.clip.start)) ≡ 0
  clip-known ws {y} q p k =
      let f : good-layer-rec r y ≡ true = rw q (good-layer-at r good i (layer-rec []) h) in
      let z = clip-range r y f p in
      let n : length ws / 5 ≡ length r.segments = sym (segs-count ws) ∙ ap length k in
      let g : good-range y.clip.start y.clip.end (length ws / 5) ≡ true = rw (n, le-leb y.clip.start y.clip.end z.0, le-leb y.clip.end (length r.segments) z.1) refl in
      let s : every good-segment (segs-of ws) ≡ true = rw k (record-facts r good).segments in
      let o : ordered (slice y.clip.start y.clip.end (segs-of ws)) ≡ true =
      rw k (sym (ap (λ t. cond t (ordered (slice y.clip.start y.clip.end r.segments)) true) (eq-eqb y.flag 1 p)) ∙ clip-order q) in
      eqb-true (judge-segments false (segs ws y.clip.start (y.clip.end - y.clip.start))) 0 (range-judged ws y.clip.start y.clip.end g s ∙ o)
