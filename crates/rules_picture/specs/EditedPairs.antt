-- Pairs of recordings to be computed: two that are edits of one another outside row 0, and three of which the row is not the same.
use Rattle.std.specs.Prelude.{ℕ, ◌+◌, ◌≡◌, List, [], ◌∷◌, ◌++◌, length, get_or, None, Some}
use Rattle.sizes.specs.declared.width.Width.TheVariants.{W128}
use Rattle.sizes.specs.declared.edition.Edition.TheVariants.{One}
use Rattle.rules.specs.Answers.{Answer}
use Rattle.rules.specs.Spans.{span}
use Rattle.rules.specs.Boxes.{box}
use Rattle.rules.specs.Segments.{Segment}
use Rattle.rules.specs.Inputs.{Draw, draw-segments}
use Rattle.rules.specs.Rows.{Row, fresh-row}
use Rattle.rules.specs.Setups.{exact}
use Rattle.rules.specs.Steps.{Screen}
use Rattle.rules.specs.Recording.{Recording, in-one}
use Rattle.rules.specs.Words.{file}
use Rattle.rules.specs.Lines.{Line, row, P, L, B, E, row-lines, usual, rowlist-screen}
use Rattle.rules.specs.cases.Samples.{solid, alpha, draw, clipped, node, rec, pieces}
use Rattle.rules_picture.specs.Edited.{on-row, EditedFile, SameRow}

-- what is left of a recording that is played at 64 commands and depth fills a row
abbrev pub left : Recording → Answer (Screen Row)
left r = rowlist-screen (usual exact W128) (in-one (file One r))

-- .. and row i of it, as its lines
abbrev pub lines : ℕ → Answer (Screen Row) → List Line
lines i a = row-lines i (get_or a.value.rows i fresh-row ∷ [])

-- Two rows of 16 tiles: an opaque panel over the right half of both, and beside it a layer, clipped by a segment in each row, with text in each. Before them
-- stand segments that no range holds; the clip's segment and the text of row 1 are given.
abbrev pub comment : List Segment → Segment → Segment → Segment → Recording
comment unused clip a b =
    let n = length unused in
    rec (box 0 0 64 8)
    (unused ++ (solid 0 8 16 ∷ solid 1 8 16 ∷ alpha 0 0 8 0 ∷ clip ∷ alpha 0 1 3 256 ∷ a ∷ b ∷ []))
    (draw n (n + 2) ∷ draw (n + 4) (n + 7) ∷ []) (clipped (box 0 0 32 8) (n + 2) (n + 4) 1 2 ∷ []) (node 0 1 1 ∷ node 1 2 0 ∷ []) 0 1

abbrev pub one : Recording
one = comment [] (alpha 1 0 8 128) (alpha 1 1 2 300) (alpha 1 3 5 320)

abbrev pub other : Recording
other = comment (solid 0 0 1 ∷ []) (alpha 1 0 6 700) (alpha 1 2 4 500) (alpha 1 6 7 600)

-- draws of the same segments, three rows high
abbrev pub drawn : List Segment → List Draw → Recording
drawn ss ds = rec (box 0 0 64 12) ss ds [] (node 0 (length ds) 0 ∷ []) 0 1

-- a draw that holds no segment, and one that holds a segment of row 1, before one of row 0
abbrev pub holds-none : Recording
holds-none = drawn (alpha 0 0 4 0 ∷ alpha 1 0 4 64 ∷ []) (draw 0 0 ∷ draw 0 1 ∷ [])

abbrev pub holds-one : Recording
holds-one = drawn (alpha 0 0 4 0 ∷ alpha 1 0 4 64 ∷ []) (draw 1 2 ∷ draw 0 1 ∷ [])

-- a segment of row 0, and moved by one tile
abbrev pub unmoved : Recording
unmoved = drawn (alpha 0 0 4 0 ∷ []) (draw 0 1 ∷ [])

abbrev pub moved : Recording
moved = drawn (alpha 0 1 5 0 ∷ []) (draw 0 1 ∷ [])

-- three segments in three rows, and two of them in one row; with room for one command in each row
abbrev pub apart : Recording
apart = drawn (alpha 0 0 1 0 ∷ alpha 1 0 1 16 ∷ alpha 2 0 1 32 ∷ []) (draw 0 3 ∷ [])

abbrev pub crowded : Recording
crowded = drawn (alpha 0 0 1 0 ∷ alpha 1 0 1 16 ∷ alpha 1 2 3 32 ∷ []) (draw 0 3 ∷ [])

abbrev pub narrow : Recording → Answer (Screen Row)
narrow r = rowlist-screen (record { c = 1; d = 1; mode = exact; width = W128 }) (in-one (file One r))

pub record EditedPairs : Type 0 where
  -- row 0 is the same, word for word, and row 1 is not
  pub edited : EditedFile 0 one other
  pub done : ((left one).number ≡ 0) × ((left other).number ≡ 0)
  pub same : SameRow 0 (left one).value (left other).value
  pub same-pieces : get_or (pieces one) 0 [] ≡ get_or (pieces other) 0 []
  pub one-line : lines 1 (left one)
      ≡ row 1 0 6 ∷ P 8 16 None 0 ∷ B (Some (span 0 8)) ∷ P 1 2 (Some 300) 1 ∷ P 3 5 (Some 320) 1 ∷ L 0 8 (Some 128) 0 ∷ E ∷ []
  pub other-line : lines 1 (left other)
      ≡ row 1 0 6 ∷ P 8 16 None 0 ∷ B (Some (span 0 7)) ∷ P 2 4 (Some 500) 1 ∷ P 6 7 (Some 600) 1 ∷ L 0 6 (Some 700) 0 ∷ E ∷ []
  -- a range that held no segment holds one of another row: the attributes of the row's commands are moved
  pub own-the_same : on-row 0 (draw-segments holds-none.segments (draw 0 0)) ≡ on-row 0 (draw-segments holds-one.segments (draw 1 2))
  pub none-held : ((left holds-none).number ≡ 0) × (lines 0 (left holds-none) ≡ row 0 0 1 ∷ P 0 4 (Some 0) 0 ∷ [])
  pub one_held : ((left holds-one).number ≡ 0) × (lines 0 (left holds-one) ≡ row 0 0 1 ∷ P 0 4 (Some 0) 1 ∷ [])
  -- a segment of the row itself is moved by one tile
  pub before-move : ((left unmoved).number ≡ 0) × (lines 0 (left unmoved) ≡ row 0 0 1 ∷ P 0 4 (Some 0) 0 ∷ [])
  pub after_move : ((left moved).number ≡ 0) × (lines 0 (left moved) ≡ row 0 0 1 ∷ P 1 5 (Some 0) 0 ∷ [])
  -- one side is refused by 10: another row is full
  pub crowding : EditedFile 0 apart crowded
  pub accepted : ((narrow apart).number ≡ 0) × (lines 0 (narrow apart) ≡ row 0 0 1 ∷ P 0 1 (Some 0) 0 ∷ [])
  pub refused : ((narrow crowded).number ≡ 10) × (lines 0 (narrow crowded) ≡ row 0 0 0 ∷ [])
