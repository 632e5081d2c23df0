-- A judged recording's nodes and layers.
use Rattle.std.proofs.Common.{ℕ, ◌≤◌, ◌<◌, ◌≡◌, true, ◌&&◌, cond, [], length, get_or, leb, eqb, leb-true}
use Rattle.rules.specs.Spans.{good-range}
use Rattle.rules.specs.Inputs.{good-handle, good-filter, good-panel}
use Rattle.rules.specs.Blends.{good-blend}
use Rattle.rules.specs.Recording.{Recording, LayerRec, Node, good-records, good-layer-rec, good-clip-rec, zero-clip, zero-filter, layer-rec}
use Rattle.rules.proofs.All.{both}
use Rattle.file.proofs.Laws.{node-range-at, good-layer-at}

pub some-node : Node
some-node = record { start = 0; end = 0; layer = 0 }

-- the tests of a layer that the walk goes by
pub record Walkable (r : Recording) (y : LayerRec) : Type 0 where
  pub kind : y.kind ≤ 1
  pub order : y.start ≤ y.end
  pub ends : y.end ≤ length r.nodes

walkable : (r : Recording) (y : LayerRec) → good-layer-rec r y ≡ true → Walkable r y
walkable r y e =
    let k = leb y.kind 1 in
    let g = good-range y.start y.end (length r.nodes) in
    let b = good-blend y.blend in
    let m = good-handle y.mask in
    let f = leb y.flag 1 in
    let c = cond (eqb y.flag 1) (good-clip-rec r y.clip) (zero-clip y.clip) in
    let x = cond (eqb y.kind 1) (good-filter y.filter) (zero-filter y.filter) in
    let h7 = both (k && g && b && m && f && c && x) (good-panel y.panel) e in
    let h6 = both (k && g && b && m && f && c) x h7.0 in
    let h5 = both (k && g && b && m && f) c h6.0 in
    let h4 = both (k && g && b && m) f h5.0 in
    let h3 = both (k && g && b) m h4.0 in
    let h2 = both (k && g) b h3.0 in
    let h1 = both k g h2.0 in
    let h0 = both (leb y.start y.end) (leb y.end (length r.nodes)) h1.1 in
    record { kind = leb-true _ _ h1.0; order = leb-true _ _ h0.0; ends = leb-true _ _ h0.1 }

module _ (r : Recording) (g : good-records r ≡ true) where
  -- a node's draws, and the layer that it names
  pub node-range : (i : ℕ) → i < length r.nodes → {n : Node} → n ≡ get_or r.nodes i some-node
      → (n.start ≤ n.end) × ((n.end ≤ length r.draws) × (n.layer ≤ length r.layers))
  node-range i h e = rw e (node-range-at r g i some-node h)

  pub layer-fit : (i : ℕ) → i < length r.layers → {y : LayerRec} → y ≡ get_or r.layers i (layer-rec []) → Walkable r y
  layer-fit i h e = rw e (walkable r (get_or r.layers i (layer-rec [])) (good-layer-at r g i (layer-rec []) h))
