-- A row's words in which nothing is forged: they stand for a row of the rules, and the tables for the rules' attributes.
use Rattle.std.specs.Prelude.{ℕ, ◌+◌, ◌-◌, ◌*◌, ◌≤◌, ◌<◌, ◌≡◌, true, cond, List, length, get_or, ltb}
use Rattle.std.specs.Prelude.{Some}
use Rattle.sizes.specs.Sizes.{most-layers}
use Rattle.rules.specs.Commands.{pop-buf}
use Rattle.rules.specs.Rows.{Row}
use Rattle.rules.specs.Attributes.{Attrs}
use Rattle.rules.specs.Painting.{Painter, paint-id, paint-panel, layer-id, layer-panel, no-fill}
use Rattle.rules.specs.Depth.{write-runs, written}
use Rattle.rules.specs.Minima.{halvings, mended-runs}
use Rattle.paint.specs.Summaries.{good-summary}
use Rattle.paint.specs.Painting.{word, paint-at, layer-at, command-at, depth-fill-at, good-paint, good-command}

-- the counts, a summary within bounds, and at each place the row's command or depth fill; n buckets
pub record Stands (attrs : Attrs) (n : ℕ) (r : Row) (state render fills : List ℕ) : Type 0 where
  pub renders : word state 0 ≡ length r.commands
  pub depths : word state 1 ≡ length r.fills
  pub few-renders : 4 * length r.commands ≤ length render
  pub few-depths : 2 * length r.fills ≤ length fills
  pub commands-at : (k : ℕ) → k < length r.commands → command-at render k ≡ Some (get_or r.commands k pop-buf)
  pub fills-at : (k : ℕ) → k < length r.fills → depth-fill-at n fills k ≡ Some (get_or r.fills k no-fill)
  pub summary : good-summary state ≡ true
  pub good-fills : (k : ℕ) → k < length r.fills → good-paint attrs (get_or r.fills k no-fill).attribute ≡ true

-- a painter within the row; its next command, if that is what is next, is good at its nesting
pub record PainterReady (attrs : Attrs) (r : Row) (p : Painter) : Type 0 where
  pub steps-left : p.steps ≤ length r.fills + length r.commands
  pub shallow : p.nesting ≤ most-layers
  pub good-next : length r.fills ≤ p.steps → p.steps - length r.fills < length r.commands
      → good-command attrs p.nesting (get_or r.commands (p.steps - length r.fills) pop-buf) ≡ true

-- the minima ms of the painter's depth words after the rules' step: those over a bucket that a depth fill writes are worked out again
unfoldable pub step-minima : Attrs → Row → Painter → List ℕ → List ℕ
step-minima attrs r p ms =
    let f = get_or r.fills (length r.fills - (p.steps + 1)) no-fill in
    cond (ltb p.steps (length r.fills))
    (mended-runs (halvings (length p.buckets)) ms (written p.buckets (paint-id attrs f.attribute) f.buckets) (write-runs p.buckets f.buckets))
    ms

-- the tables hold the attributes' ids and panels
pub record Holds (attrs : Attrs) (paint-table : List ℕ) (paints : ℕ) (layer-table : List ℕ) (layers : ℕ) : Type 0 where
  pub paint-count : paints ≡ length attrs.paints
  pub layer-count : layers ≡ length attrs.layers
  pub paint-ids : (i : ℕ) → i < paints → (paint-at paint-table i).id ≡ paint-id attrs i
  pub paint-panels : (i : ℕ) → i < paints → (paint-at paint-table i).panel ≡ paint-panel attrs i
  pub layer-ids : (i : ℕ) → i < layers → (layer-at layer-table i).id ≡ layer-id attrs i
  pub layer-panels : (i : ℕ) → i < layers → (layer-at layer-table i).panel ≡ layer-panel attrs i
