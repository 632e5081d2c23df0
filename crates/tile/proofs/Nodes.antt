-- Runs of draws and of nodes, one more at a time.
use Rattle.std.proofs.Common.{ℕ, ◌+◌, ◌-◌, ◌≤◌, ◌<◌, ◌≡◌, refl, not, List, [], length, get_or, eqb}
use Rattle.rules.specs.Lists.{slice}
use Rattle.rules.specs.Answers.{Answer}
use Rattle.rules.specs.Inputs.{Draw}
use Rattle.rules.specs.Recording.{Recording, Node, layer-rec}
use Rattle.rules.specs.Plans.{Layer, a-fill}
use Rattle.rules.specs.Walk.{each, when, walk-node, walk-nodes, walk-layer}
use Rattle.rect.specs.Rects.{box_of}
use Rattle.walk.proofs.Draws.{some-draw}
use Rattle.walk.proofs.Places.{some-node}
use Rattle.tile.specs.declared.steps.Spot.{Spot}
use Rattle.tile.specs.declared.steps.Within.{Within}
use Rattle.tile.specs.Telling.{Telling}
use Rattle.tile.specs.Places.{Holds, Says}
use Rattle.tile.proofs.Said.{stops, goes_on, Left, all_said, one-refused, one-turned}
use Rattle.tile.proofs.WalkSteps.{told}

module _ (s : Spot) (r : Recording) where
  abbrev pub draw : Draw → Telling → Answer Telling
  draw d = told s (a-fill r.paints r.segments d)

  -- draws a to b
  abbrev pub draws : ℕ → ℕ → Telling → Answer Telling
  draws b a = each draw (slice a b r.draws)

  -- the layer that a node names, with layers d deep, the node, and nodes a to b
  abbrev pub layer : ℕ → ℕ → Telling → Answer Telling
  layer d k = when (not (eqb k 0)) (walk-layer Telling (told s) r d (get_or r.layers (k - 1) (layer-rec [])))

  abbrev node : ℕ → Node → Telling → Answer Telling
  node d n = walk-node Telling (told s) r (walk-layer Telling (told s) r d) n

  abbrev pub nodes : ℕ → ℕ → ℕ → Telling → Answer Telling
  nodes d b a = walk-nodes Telling (told s) r (walk-layer Telling (told s) r d) a b

module _ (s : Spot) (r : Recording) {b a i : ℕ} {h : Within} {x y : List Layer → Telling} (left : Left (draws s r b) (box_of s.viewport) h a x i y) where
  pub all-drawn : b ≤ i → (ls : List Layer) → Holds (box_of s.viewport) h ls → Says (draws s r b a (x ls)) 0 (y ls)
  all-drawn = all_said (draw s r) r.draws b (draws s r b) (λ j t. refl) left

  module _ (k : i < b) (few : b ≤ length r.draws) (n : ℕ) (z : List Layer → Telling)
      (e : (ls : List Layer) → Holds (box_of s.viewport) h ls → Says (draw s r (get_or r.draws i some-draw) (y ls)) n (z ls)) where
    pub draw-refused : (n ≡ 0 → ⊥) → (ls : List Layer) → Holds (box_of s.viewport) h ls → Says (draws s r b a (x ls)) n (z ls)
    draw-refused = one-refused (draw s r) r.draws b (draws s r b) (λ j t. refl) left some-draw k few n z e

    pub draw-turned : n ≡ 0 → Left (draws s r b) (box_of s.viewport) h a x (i + 1) z
    draw-turned = one-turned (draw s r) r.draws b (draws s r b) (λ j t. refl) left some-draw k few n z e

module _ (s : Spot) (r : Recording) (d b : ℕ) where
  by-each : (j : ℕ) (t : Telling) → nodes s r d b j t ≡ each (node s r d) (slice j b r.nodes) t
  unfolding walk-nodes
  by-each j t = refl

module _ (s : Spot) (r : Recording) (d : ℕ) {b a i : ℕ} {h : Within} {x y : List Layer → Telling} (left : Left (nodes s r d b) (box_of s.viewport) h a x i y) where
  pub all-walked : b ≤ i → (ls : List Layer) → Holds (box_of s.viewport) h ls → Says (nodes s r d b a (x ls)) 0 (y ls)
  all-walked = all_said (node s r d) r.nodes b (nodes s r d b) (by-each s r d b) left

  module _ (k : i < b) (few : b ≤ length r.nodes) (that : Node) (same : that ≡ get_or r.nodes i some-node) (n : ℕ) (z : List Layer → Telling)
      (e : (ls : List Layer) → Holds (box_of s.viewport) h ls
      → Says (draws s r that.end that.start (y ls)) n (z ls)) where
    first-refused : (n ≡ 0 → ⊥) → (ls : List Layer) → Holds (box_of s.viewport) h ls → Says (node s r d that (y ls)) n (z ls)
    unfolding walk-node
    first-refused q ls o = stops (draws s r that.end that.start) (layer s r d that.layer) (y ls) (e ls o) q (z ls)

    pub draws-refused : (n ≡ 0 → ⊥) → (ls : List Layer) → Holds (box_of s.viewport) h ls → Says (nodes s r d b a (x ls)) n (z ls)
    draws-refused q = one-refused (node s r d) r.nodes b (nodes s r d b) (by-each s r d b) left some-node k few n z (rw same at (first-refused q)) q

    module _ (p : n ≡ 0) (m : ℕ) (u : List Layer → Telling)
        (f : (ls : List Layer) → Holds (box_of s.viewport) h ls → Says (layer s r d that.layer (z ls)) m (u ls)) where
      both-done : (ls : List Layer) → Holds (box_of s.viewport) h ls → Says (node s r d that (y ls)) m (u ls)
      unfolding walk-node
      both-done ls o = goes_on (draws s r that.end that.start) (layer s r d that.layer) (y ls) (e ls o) p (f ls o)

      done : (ls : List Layer) → Holds (box_of s.viewport) h ls → Says (node s r d (get_or r.nodes i some-node) (y ls)) m (u ls)
      done = rw same at both-done

      pub layer-refused : (m ≡ 0 → ⊥) → (ls : List Layer) → Holds (box_of s.viewport) h ls → Says (nodes s r d b a (x ls)) m (u ls)
      layer-refused = one-refused (node s r d) r.nodes b (nodes s r d b) (by-each s r d b) left some-node k few m u done

      pub node-turned : m ≡ 0 → Left (nodes s r d b) (box_of s.viewport) h a x (i + 1) u
      node-turned = one-turned (node s r d) r.nodes b (nodes s r d b) (by-each s r d b) left some-node k few m u done
