-- The six numbers as the code has them, how large they can be, and fills added to them one by one.
use Rattle.std.specs.Prelude.{ℕ, ◌+◌, ◌*◌, ◌≤◌, List, [], ◌∷◌}
use Rattle.sizes.specs.Sizes.{tile-end, most-room, most-rows}
use Rattle.rules.specs.Attributes.{Attrs}
use Rattle.rules.specs.Commands.{DepthFill}
use Rattle.rules.specs.Depth.{tiles-of}
use Rattle.rules.specs.Painting.{paint-id}
use Rattle.rules_figures.specs.Figures as rule
use Rattle.rules_figures.specs.Accounted.{most-recordings}
use Rattle.rules_figures.specs.RowFigures.{Fill, a-fill, tiles-asked, tiles-painted, tiles-hidden}
use Rattle.span.specs.Spans.{tiles}
use Rattle.compact.specs.declared.commands.Kind.{Kind}
use Rattle.compact.specs.declared.commands.Kind.TheVariants as kind
use Rattle.compact.specs.Passing.{tile-span}
use Rattle.tally.specs.declared.counts.Figures.{Figures}

abbrev pub figures-of : Figures → rule.Figures
figures-of g =
    record { asked = g.asked; painted = g.painted; hidden = g.hidden; commands = g.commands; fills = g.fills; refused = g.refused }

-- none is more than n
pub record Within (n : ℕ) (g : rule.Figures) : Type 0 where
  pub asked : g.asked ≤ n
  pub painted : g.painted ≤ n
  pub hidden : g.hidden ≤ n
  pub commands : g.commands ≤ n
  pub fills : g.fills ≤ n
  pub refused : g.refused ≤ n

-- what one row adds at most: its commands or depth fills, and as many tiles as a span has for each of them
abbrev pub row-most : ℕ
row-most = most-room + 2 * most-room * tile-end

-- .. a screen, and a list of recordings
abbrev pub screen-most : ℕ
screen-most = most-rows * row-most

abbrev pub list-most : ℕ
list-most = most-recordings * screen-most

-- a depth fill as a fill of its tiles
abbrev pub depth-kind : ℕ → Attrs → DepthFill → Kind
depth-kind w a f = kind.Fill (tile-span (tiles-of w f.buckets)) (paint-id a f.attribute)

-- Against the newest ids bs of a row, at w tiles a bucket.
module _ (w : ℕ) (bs : List ℕ) where
  -- one fill more
  abbrev pub with-fill : Fill → rule.Figures → rule.Figures
  with-fill x g =
      record {
        asked = g.asked + tiles-asked w bs x;
        painted = g.painted + tiles-painted w bs x;
        hidden = g.hidden + tiles-hidden w bs x;
        commands = g.commands;
        fills = g.fills;
        refused = g.refused;
      }

  abbrev pub with-fills : List Fill → rule.Figures → rule.Figures
  with-fills [] g = g
  with-fills (x ∷ xs) g = with-fills xs (with-fill x g)

  -- .. where what there is is a fill
  abbrev pub with-kind : Kind → rule.Figures → rule.Figures
  with-kind (kind.Fill s id) g = with-fill (a-fill (tiles s) id) g
  with-kind kind.Push g = g
  with-kind kind.Pop g = g
