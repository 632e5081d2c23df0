-- Laws for callers: what answer 0 says of every record, and the segment section as a list of its own.
use Rattle.std.proofs.Common.{ℕ, ◌≤◌, ◌<◌, arith, ◌≡◌, refl, sym, ◌∙◌, Bool, true, false, ◌&&◌, not, cond, List, length, get_or, leb, leb-true}
use Rattle.rules.specs.Lists.{every}
use Rattle.rules.specs.Segments.{good-segment}
use Rattle.rules.specs.Spans.{good-range}
use Rattle.rules.specs.Inputs.{good-paint, Draw, good-draw}
use Rattle.rules.specs.Recording.{Recording, LayerRec, Node, recording, good-records, good-order, good-layer-rec, good-node}
use Rattle.segments.specs.Segs.{segs-of}
use Rattle.file.specs.declared.form.Layout.{Layout}
use Rattle.file.specs.Layouts.{Fits, sections_at}
use Rattle.rules.proofs.All.{both}
use Rattle.file.proofs.Reading.{segments-are}
use Rattle.file.specs.Judging.{judged}
use Rattle.file.proofs.Counted.{every-getD}
use Rattle.file.proofs.Listed.{lent, lent-segments}

-- answer 0: every record is good, and every list is in order
pub record Sound (r : Recording) : Type 0 where
  pub records : good-records r ≡ true
  pub order : good-order r ≡ true

by_answer : (r : Recording) (s t : Bool) → good-records r ≡ s → good-order r ≡ t → ◌≡◌ {A = ℕ} (cond (not s) 4 (cond (not t) 5 0)) 0 → Sound r
by_answer r true true p q e = record { records = p; order = q }
by_answer r true false p q e = absurd (omega arith)
by_answer r false t p q e = absurd (omega arith)

pub sound : (r : Recording) → judged r ≡ 0 → Sound r
sound r e = by_answer r _ _ refl refl e

-- the tests of good records, one by one
pub record Records (r : Recording) : Type 0 where
  pub paints : every good-paint r.paints ≡ true
  pub segments : every good-segment r.segments ≡ true
  pub draws : every (good-draw r.paints r.segments) r.draws ≡ true
  pub layers : every (good-layer-rec r) r.layers ≡ true
  pub nodes : every (good-node r) r.nodes ≡ true
  pub root : good-range r.start r.end (length r.nodes) ≡ true

pub record-facts : (r : Recording) → good-records r ≡ true → Records r
unfolding good-records
record-facts r g =
    let p = every good-paint r.paints in
    let s = every good-segment r.segments in
    let d = every (good-draw r.paints r.segments) r.draws in
    let y = every (good-layer-rec r) r.layers in
    let n = every (good-node r) r.nodes in
    let h5 = both (p && s && d && y && n) (good-range r.start r.end (length r.nodes)) g in
    let h4 = both (p && s && d && y) n h5.0 in
    let h3 = both (p && s && d) y h4.0 in
    let h2 = both (p && s) d h3.0 in
    let h1 = both p s h2.0 in
    record { paints = h1.0; segments = h1.1; draws = h2.1; layers = h3.1; nodes = h4.1; root = h5.1 }

module _ (r : Recording) (g : good-records r ≡ true) where
  pub good-draw-at : (i : ℕ) (d : Draw) → i < length r.draws → good-draw r.paints r.segments (get_or r.draws i d) ≡ true
  good-draw-at i d h = every-getD (good-draw r.paints r.segments) r.draws i d h (record-facts r g).draws

  pub good-layer-at : (i : ℕ) (d : LayerRec) → i < length r.layers → good-layer-rec r (get_or r.layers i d) ≡ true
  good-layer-at i d h = every-getD (good-layer-rec r) r.layers i d h (record-facts r g).layers

  pub good-node-at : (i : ℕ) (d : Node) → i < length r.nodes → good-node r (get_or r.nodes i d) ≡ true
  good-node-at i d h = every-getD (good-node r) r.nodes i d h (record-facts r g).nodes

  -- the root's and a node's ranges, as facts
  pub root-range : (r.start ≤ r.end) × (r.end ≤ length r.nodes)
  root-range =
      let h = both (leb r.start r.end) (leb r.end (length r.nodes)) (record-facts r g).root in
      (leb-true _ _ h.0, leb-true _ _ h.1)

  node-range : (n : Node) → good-node r n ≡ true → (n.start ≤ n.end) × ((n.end ≤ length r.draws) × (n.layer ≤ length r.layers))
  node-range n q =
      let h2 = both (good-range n.start n.end (length r.draws)) (leb n.layer (length r.layers)) q in
      let h1 = both (leb n.start n.end) (leb n.end (length r.draws)) h2.0 in
      (leb-true _ _ h1.0, (leb-true _ _ h1.1, leb-true _ _ h2.1))

  pub node-range-at : (i : ℕ) (d : Node) → i < length r.nodes
      → ((get_or r.nodes i d).start ≤ (get_or r.nodes i d).end)
      × (((get_or r.nodes i d).end ≤ length r.draws) × ((get_or r.nodes i d).layer ≤ length r.layers))
  node-range-at i d h = node-range (get_or r.nodes i d) (good-node-at i d h)

-- the segment section, lent as a part of the words, is the recording's segment list
module _ (l : Layout) (ws : List ℕ) (f : Fits ws l) where
  pub segments-part : segs-of (lent ws l.segments.at l.segments.count) ≡ (recording (sections_at l ws)).segments
  segments-part = lent-segments ws l.segments.at l.segments.count f.segments.ends ∙ sym (segments-are l ws f)
