-- What holds of every screen of the rules that a reset and steps make: what the calls judge of their state and of the rows' records
-- (answers 1, 2 and 4) is never wrong there.
use Rattle.std.specs.Prelude.{ℕ, ◌≤◌, ◌≡◌, true, false, length, get_or, Option, None, Some}
use Rattle.sizes.specs.Sizes.{tile-end, most-layers, last-id}
use Rattle.rules.specs.Boxes.{Box, good_viewport, rows_of}
use Rattle.rules.specs.Spans.{Span}
use Rattle.rules.specs.Inputs.{good-props}
use Rattle.rules.specs.Attributes.{attrs-full}
use Rattle.rules.specs.Rows.{Row, Level, fresh-row}
use Rattle.rules.specs.Plans.{Layer}
use Rattle.rules.specs.Steps.{Screen}
use Rattle.rules.specs.Walk.{good-room}
use Rattle.rules.proofs.All.{All}
use Rattle.screen.proofs.ScreenLaws.{Clip}
use Rattle.refine_row.proofs.Refines.{Built}
use Rattle.refine_layers.specs.Touched.{Reaching}

-- a span in order, ending at tile 8,192 at the latest
pub record Ordered (s : Span) : Type 0 where
  pub order : s.first ≤ s.end
  pub end : s.end ≤ tile-end

abbrev pub OrderedUnion : Option Span → Type 0
OrderedUnion None = Unit {0}
OrderedUnion (Some s) = Ordered s

-- a row's unions and its summary
pub record Sane (r : Row) : Type 0 where
  pub unions : All (λ (l : Level). OrderedUnion l.union) r.levels
  pub depth : OrderedUnion r.depth.union
  pub largest : r.depth.largest ≤ last-id

-- .. and its counts, with room for c commands and d depth fills
pub record Fitting (c d : ℕ) (r : Row) : Type 0 where
  pub commands : length r.commands ≤ c
  pub fills : length r.fills ≤ d
  pub sane : Sane r

-- an open layer of the viewport v
pub record Good (v : Box) (l : Layer) : Type 0 where
  pub props : good-props l.props ≡ true
  pub bounds : Clip v l.bounds

pub record Sound (s : Screen Row) : Type 0 where
  pub built : Built s
  pub reaching : Reaching s
  pub viewport : good_viewport s.state.frame.viewport ≡ true
  pub c-room : good-room s.state.frame.c ≡ true
  pub d-room : good-room s.state.frame.d ≡ true
  pub some_id : 1 ≤ s.state.next
  pub ids : s.state.next ≤ 1048577
  pub attrs : attrs-full s.state.attrs ≡ false
  pub deep : length s.state.layers ≤ most-layers
  pub layers : All (Good s.state.frame.viewport) s.state.layers
  pub count : length s.rows ≡ rows_of s.state.frame.viewport
  pub rows : (i : ℕ) → Fitting s.state.frame.c s.state.frame.d (get_or s.rows i fresh-row)
