-- What is stored of an open layer, layer k of the table t, is read back as that layer, and every other layer's words stay.
use Rattle.std.specs.Prelude.{ℕ, ◌*◌, ◌<◌, ◌≡◌, List, length}
use Rattle.sizes.specs.Sizes.{most-layers, open-layer-size, open-layer-table}
use Rattle.rules.specs.Plans.{Layer}
use Rattle.cmd.specs.Attrs.{words-at}
use Rattle.screen.specs.Layers.{layer-words, layer-word, layer-at, open_at}

-- the table with a layer at place k
abbrev pub with-layer : List ℕ → ℕ → Layer → ℕ → List ℕ
with-layer t k l nan = words-at t (open-layer-size * k) (layer-words l nan)

-- what the table keeps of a layer: all but its opacity, which stands apart as an f32
abbrev pub without-opacity : Layer → Layer
without-opacity l =
    record { props = record { blend = l.props.blend; opacity = 0; mask = l.props.mask; clip = l.props.clip; panel = l.props.panel }; bounds = l.bounds }

-- the layer is read back ..
abbrev pub LayerReadBack : Type 0
LayerReadBack =
    (t : List ℕ) (k : ℕ) → k < most-layers → length t ≡ open-layer-table → (l : Layer) (nan : ℕ)
    → layer-at (with-layer t k l nan) k ≡ without-opacity l

-- .. and the pattern of an opacity that is NaN ..
abbrev pub PatternReadBack : Type 0
PatternReadBack =
    (t : List ℕ) (k : ℕ) → k < most-layers → length t ≡ open-layer-table → (l : Layer) (nan : ℕ)
    → (open_at (with-layer t k l nan) k).nan ≡ nan

-- .. and each word of any other layer is as it was.
abbrev pub OthersStay : Type 0
OthersStay =
    (t : List ℕ) (k : ℕ) → k < most-layers → length t ≡ open-layer-table → (l : Layer) (nan j i : ℕ) → (j ≡ k → ⊥) → i < open-layer-size
    → layer-word (with-layer t k l nan) j i ≡ layer-word t j i
