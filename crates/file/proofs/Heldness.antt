-- A record that a recording has stands within its words.
use Rattle.std.proofs.Common.{ℕ, suc, ◌+◌, ◌*◌, ◌<◌, ◌≤◌, ◌≡◌, ◌∙◌, arith, List, length, mul-suc, mul-le-mul_right}
use Rattle.std.proofs.Math.Nat.{mul_comm}
use Rattle.sizes.specs.Editions.{draw-size, layer-size}
use Rattle.file.specs.declared.form.Layout.{Layout}
use Rattle.file.specs.Layouts.{Fits}
use Rattle.file.specs.Places.{paint_from, segment_from, draw_from, layer_from, node_from, recorded}
use Rattle.file.proofs.Eaches.{each-length}

module _ (l : Layout) (ws : List ℕ) (f : Fits ws l) (i : ℕ) where
  -- record i of n ends within the words
  within : (k a n : ℕ) → i < n → a + n * k ≤ length ws → a + k * i + k ≤ length ws
  within k a n few ends =
      let e : suc i * k ≤ n * k = mul-le-mul_right k (omega arith) in
      let g = mul_comm (suc i) k ∙ mul-suc k i in
      omega (arith, e, g)

  pub draw_few : i < length (recorded l ws).draws → i < l.draws.count
  unfolding recorded
  draw_few h = rw (each-length (draw_from l.edition) (draw-size l.edition) ws l.draws.at l.draws.count) at h

  pub draw_within : i < length (recorded l ws).draws → l.draws.at + draw-size l.edition * i + draw-size l.edition ≤ length ws
  draw_within h = within (draw-size l.edition) l.draws.at l.draws.count (draw_few h) f.draws.ends

  pub layer_few : i < length (recorded l ws).layers → i < l.layers.count
  unfolding recorded
  layer_few h = rw (each-length (layer_from l.edition) (layer-size l.edition) ws l.layers.at l.layers.count) at h

  pub layer_within : i < length (recorded l ws).layers → l.layers.at + layer-size l.edition * i + layer-size l.edition ≤ length ws
  layer_within h = within (layer-size l.edition) l.layers.at l.layers.count (layer_few h) f.layers.ends

  pub node_few : i < length (recorded l ws).nodes → i < l.nodes.count
  unfolding recorded
  node_few h = rw (each-length node_from 3 ws l.nodes.at l.nodes.count) at h

  pub node_within : i < length (recorded l ws).nodes → l.nodes.at + 3 * i + 3 ≤ length ws
  node_within h = let few = node_few h in let ends = f.nodes.ends in omega arith

module _ (l : Layout) (ws : List ℕ) where
  pub paint_count : length (recorded l ws).paints ≡ l.paints.count
  unfolding recorded
  paint_count = each-length paint_from 4 ws l.paints.at l.paints.count

  pub segment_count : length (recorded l ws).segments ≡ l.segments.count
  unfolding recorded
  segment_count = each-length segment_from 5 ws l.segments.at l.segments.count

  pub draw_count : length (recorded l ws).draws ≡ l.draws.count
  unfolding recorded
  draw_count = each-length (draw_from l.edition) (draw-size l.edition) ws l.draws.at l.draws.count
