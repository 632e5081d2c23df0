-- A month's figures: what the depth stage saves, of a history of done steps and of the screen that it leaves.
use Rattle.std.specs.Prelude.{ℕ, zero, suc, ◌+◌, ◌-◌, ◌/◌, cond, List, [], ◌∷◌, ◌++◌, map, length, get_or}
use Rattle.rules.specs.Lists.{some_of, join}
use Rattle.rules.specs.Boxes.{width, rows_of}
use Rattle.rules.specs.Rows.{Row, fresh-row}
use Rattle.rules.specs.Plans.{Frame, bucket, buckets-across, Step}
use Rattle.rules.specs.Steps.{Screen}
use Rattle.rules.specs.Painting.{Piece, paint-row}
use Rattle.rules.specs.Plain.{Told, untold, tell-steps}

-- g 0 + .. + g (n - 1)
unfoldable pub sum-to : ℕ → (ℕ → ℕ) → ℕ
sum-to zero g = 0
sum-to (suc n) g = sum-to n g + g n

unfoldable pub sum-of : List ℕ → ℕ
sum-of [] = 0
sum-of (n ∷ ns) = n + sum-of ns

-- what the picture takes away: the entries that came before the newest that hides
unfoldable pub dropped : List Told → List Told
dropped [] = []
dropped (t ∷ ts) = cond (some_of (λ (u : Told). u.hides) ts) (t ∷ dropped ts) []

-- On a screen of the frame f, after the steps xs.
module _ (f : Frame) (xs : List Step) where
  -- what plain draw order tells a tile of a row
  abbrev pub told-at : ℕ → ℕ → List Told
  told-at row tile = (tell-steps (bucket f) f.viewport row tile xs untold).told

  -- the sum of a figure over the screen's tiles
  abbrev pub over-screen : (ℕ → ℕ → ℕ) → ℕ
  over-screen g = sum-to (rows_of f.viewport) (λ row. sum-to (width f.viewport / 4) (g row))

  -- every entry, at every tile
  unfoldable pub asked : ℕ
  asked = over-screen (λ row tile. length (told-at row tile))

  -- .. and each that the picture leaves out
  unfoldable pub hidden : ℕ
  hidden = over-screen (λ row tile. length (dropped (told-at row tile)))

-- the tiles of a piece
abbrev pub tiles-in : Piece → ℕ
tiles-in p = p.tiles.end - p.tiles.first

-- the pieces of a row, painted to its end
abbrev pub pieces-at : Screen Row → ℕ → List Piece
pieces-at u row = paint-row (bucket u.state.frame) u.state.attrs (buckets-across u.state.frame) (get_or u.rows row fresh-row)

-- the tiles of all pieces
unfoldable pub painted : Screen Row → ℕ
painted u = sum-to (length u.rows) (λ row. sum-of (map tiles-in (pieces-at u row)))

-- how many render commands and depth fills the rows hold
abbrev pub commands-held : Screen Row → ℕ
commands-held u = sum-of (map (λ (r : Row). length r.commands) u.rows)

abbrev pub fills-held : Screen Row → ℕ
fills-held u = sum-of (map (λ (r : Row). length r.fills) u.rows)

-- tiles asked for, painted and hidden; render commands; depth fills; refused recordings
pub record Figures : Type 0 where
  pub asked : ℕ
  pub painted : ℕ
  pub hidden : ℕ
  pub commands : ℕ
  pub fills : ℕ
  pub refused : ℕ

abbrev pub nothing : Figures
nothing = record { asked = 0; painted = 0; hidden = 0; commands = 0; fills = 0; refused = 0 }

-- a refused recording adds to its own column alone
abbrev pub one-refused : Figures
one-refused = record { asked = 0; painted = 0; hidden = 0; commands = 0; fills = 0; refused = 1 }

-- the screen u that the steps have left
abbrev pub figures : Frame → List Step → Screen Row → Figures
figures f xs u =
    record {
      asked = asked f xs;
      painted = painted u;
      hidden = hidden f xs;
      commands = commands-held u;
      fills = fills-held u;
      refused = 0;
    }

abbrev pub plus : Figures → Figures → Figures
plus a b =
    record {
      asked = a.asked + b.asked;
      painted = a.painted + b.painted;
      hidden = a.hidden + b.hidden;
      commands = a.commands + b.commands;
      fills = a.fills + b.fills;
      refused = a.refused + b.refused;
    }

unfoldable pub total : List Figures → Figures
total [] = nothing
total (g ∷ gs) = plus g (total gs)

-- six numbers, in this order
abbrev pub numbers : Figures → List ℕ
numbers a = a.asked ∷ a.painted ∷ a.hidden ∷ a.commands ∷ a.fills ∷ a.refused ∷ []

-- six numbers a recording, then the six totals
unfoldable pub table : List Figures → List ℕ
table gs = join numbers gs ++ numbers (total gs)
