-- A run of nodes, one more node at a time.
use Rattle.std.proofs.Common.{ℕ, ◌+◌, ◌-◌, ◌≤◌, ◌<◌, ◌≡◌, sym, ◌∙◌, not, [], length, get_or, eqb}
use Rattle.rules.specs.Lists.{slice}
use Rattle.rules.specs.Answers.{Answer, answer}
use Rattle.rules.specs.Recording.{Recording, Node, layer-rec}
use Rattle.rules.specs.Walk.{each, when, walk-node, walk-nodes, walk-layer}
use Rattle.screen.specs.Tables.{ScreenLent}
use Rattle.walk.specs.Steps.{call_at, draw_step}
use Rattle.walk.proofs.Runs.{ended, refused, turned, stopped, onward}
use Rattle.walk.proofs.Places.{some-node}

module _ (r : Recording) (d : ℕ) where
  -- nodes a to b, with layers d deep
  abbrev pub nodes : ℕ → ℕ → ScreenLent → Answer ScreenLent
  nodes a b = walk-nodes ScreenLent call_at r (walk-layer ScreenLent call_at r d) a b

  abbrev node : Node → ScreenLent → Answer ScreenLent
  node n = walk-node ScreenLent call_at r (walk-layer ScreenLent call_at r d) n

  -- draws a to b, and the layer that a node names
  abbrev draws : ℕ → ℕ → ScreenLent → Answer ScreenLent
  draws a b = each (draw_step r) (slice a b r.draws)

  abbrev layer : ℕ → ScreenLent → Answer ScreenLent
  layer k = when (not (eqb k 0)) (walk-layer ScreenLent call_at r d (get_or r.layers (k - 1) (layer-rec [])))

module _ (r : Recording) (d i b : ℕ) (y : ScreenLent) where
  pub all_walked : b ≤ i → answer 0 y ≡ nodes r d i b y
  unfolding walk-nodes
  all_walked h = sym (ended (node r d) r.nodes i b y h)

  module _ (h : i < b) (k : b ≤ length r.nodes) (this : Node) (s : this ≡ get_or r.nodes i some-node) (n : ℕ) (z : ScreenLent)
      (e : answer n z ≡ draws r d this.start this.end y) where
    first-refused : (n ≡ 0 → ⊥) → answer n z ≡ node r d this y
    unfolding walk-node
    first-refused q = stopped (draws r d this.start this.end) (layer r d this.layer) y n z e q

    pub draws_refused : (n ≡ 0 → ⊥) → answer n z ≡ nodes r d i b y
    unfolding walk-nodes
    draws_refused q = refused (node r d) r.nodes i b y some-node h k n z (rw s at (first-refused q)) q

    module _ (o : n ≡ 0) (m : ℕ) (u : ScreenLent) (f : answer m u ≡ layer r d this.layer z) where
      both-done : answer m u ≡ node r d this y
      unfolding walk-node
      both-done = f ∙ sym (onward (draws r d this.start this.end) (layer r d this.layer) y n z e o)

      done : answer m u ≡ node r d (get_or r.nodes i some-node) y
      done = rw s at both-done

      pub layer_refused : (m ≡ 0 → ⊥) → answer m u ≡ nodes r d i b y
      unfolding walk-nodes
      layer_refused q = refused (node r d) r.nodes i b y some-node h k m u done q

      pub node_turned : m ≡ 0 → nodes r d (i + 1) b u ≡ nodes r d i b y
      unfolding walk-nodes
      node_turned q = sym (turned (node r d) r.nodes i b y some-node h k m u done q)
