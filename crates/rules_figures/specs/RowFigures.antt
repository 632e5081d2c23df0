-- What one row adds to the figures, read off its depth fills, its commands and the newest ids of its buckets, with nothing painted. At w tiles a bucket.
use Rattle.std.specs.Prelude.{ℕ, ◌+◌, ◌-◌, ◌/◌, Bool, cond, List, [], ◌∷◌, ◌++◌, map, length, get_or, ltb}
use Rattle.rules.specs.Spans.{Span}
use Rattle.rules.specs.Commands.{Command, paint-fill, layer-fill, push-buf, pop-buf, DepthFill}
use Rattle.rules.specs.Attributes.{Attrs}
use Rattle.rules.specs.Rows.{Row}
use Rattle.rules.specs.Plans.{bucket, buckets-across}
use Rattle.rules.specs.Steps.{Screen}
use Rattle.rules.specs.Depth.{tiles-of}
use Rattle.rules.specs.Painting.{paint-id, layer-id}
use Rattle.rules.specs.Compacted.{newest-ids}
use Rattle.rules_figures.specs.Figures.{sum-to, sum-of, Figures, total}

-- a fill of a row: its tiles, and its attribute's id
pub record Fill : Type 0 where
  pub tiles : Span
  pub id : ℕ

abbrev pub a-fill : Span → ℕ → Fill
a-fill s id = record { tiles = s; id = id }

module _ (w : ℕ) (a : Attrs) where
  abbrev pub depth-fills : List DepthFill → List Fill
  depth-fills [] = []
  depth-fills (f ∷ fs) = a-fill (tiles-of w f.buckets) (paint-id a f.attribute) ∷ depth-fills fs

  -- buffers ask for nothing
  abbrev pub command-fills : List Command → List Fill
  command-fills [] = []
  command-fills (paint-fill s x i ∷ cs) = a-fill s (paint-id a i) ∷ command-fills cs
  command-fills (layer-fill s x i ∷ cs) = a-fill s (layer-id a i) ∷ command-fills cs
  command-fills (push-buf s ∷ cs) = command-fills cs
  command-fills (pop-buf ∷ cs) = command-fills cs

  abbrev pub fills-of : Row → List Fill
  fills-of r = depth-fills r.fills ++ command-fills r.commands

-- the sum of a figure over the tiles of a span
abbrev pub over-tiles : Span → (ℕ → ℕ) → ℕ
over-tiles s g = sum-to (s.end - s.first) (λ k. g (s.first + k))

-- of the newest ids bs of a row's buckets
module _ (w : ℕ) (bs : List ℕ) where
  -- a newer id than this stands in the tile's bucket
  abbrev pub newer : ℕ → ℕ → Bool
  newer id tile = ltb id (get_or bs (tile / w) 0)

  -- how many of a fill's tiles are asked for, are painted, are hidden: each counted by itself
  abbrev pub tiles-asked : Fill → ℕ
  tiles-asked x = x.tiles.end - x.tiles.first

  unfoldable pub tiles-painted : Fill → ℕ
  tiles-painted x = over-tiles x.tiles (λ t. cond (newer x.id t) 0 1)

  unfoldable pub tiles-hidden : Fill → ℕ
  tiles-hidden x = over-tiles x.tiles (λ t. cond (newer x.id t) 1 0)

  -- what fills add, of a row that has so many commands and depth fills
  abbrev pub fills-add : ℕ → ℕ → List Fill → Figures
  fills-add commands fills xs =
      record {
        asked = sum-of (map tiles-asked xs);
        painted = sum-of (map tiles-painted xs);
        hidden = sum-of (map tiles-hidden xs);
        commands = commands;
        fills = fills;
        refused = 0;
      }

-- a row of n buckets
unfoldable pub row-figures : ℕ → ℕ → Attrs → Row → Figures
row-figures w n a r = fills-add w (newest-ids a n r.fills) (length r.commands) (length r.fills) (fills-of w a r)

-- all rows of a screen
unfoldable pub screen-figures : Screen Row → Figures
screen-figures u =
    let f = u.state.frame in
    total (map (row-figures (bucket f) (buckets-across f) u.state.attrs) u.rows)
