-- Tests: a tile's list without rows, each answer at its edge and in its order, and what `tilelist` prints, by computation.
use Rattle.std.proofs.Common.{ℕ, ◌≡◌, refl, true, false, List, [], ◌∷◌, ◌++◌, None, Some, codes, length, replicate}
use Rattle.sizes.specs.declared.width.Width.{Width}
use Rattle.sizes.specs.declared.width.Width.TheVariants.{W64, W128}
use Rattle.sizes.specs.declared.edition.Edition.TheVariants.{One, Two}
use Rattle.rules.specs.Answers.{Answer, answer, Done, BadViewport, BadForm, BadRecord, BadOrder, Deep, FullRow, BadRun, NoRoom}
use Rattle.rules.specs.Boxes.{box}
use Rattle.rules.specs.Setups.{exact, snapping}
use Rattle.rules.specs.Lines.{rowlist-screen, usual, bytes-of}
use Rattle.rules.specs.Painting.{Entry}
use Rattle.rules.specs.Recording.{Recording, Node, in-one, in-edition}
use Rattle.rules.specs.Words.{file}
use Rattle.rules.specs.cases.Samples.{solid, alpha, draw, layer, node, rec}
use Rattle.rules.specs.cases.WorkedExample.{worked-bytes}
use Rattle.rules.specs.cases.Editions.{worked-two}
use Rattle.rules.proofs.Cases.{panel, parent-cut, unreached, left_cut}
use Rattle.rules_reason.specs.TileList.{tile-listed, tile-list, entry-bytes, list-text, no-width-text, list-line}
use Rattle.rules_reason.proofs.Cases.{computing-reasons}

-- all that has to unfold to compute a list
unfoldable pub computing-lists : Unit {0}
unfolding computing-reasons tile-listed tile-list entry-bytes list-text no-width-text list-line
computing-lists = tt

-- an entry of panel 0: a draw's, with an alpha index or without, a layer's
abbrev drawn : ℕ → ℕ → Entry
drawn i n = record { layer = false; attribute = i; alpha = None; nesting = n; panel = 0 }

abbrev at-alpha : ℕ → ℕ → Entry
at-alpha i a = record { layer = false; attribute = i; alpha = Some a; nesting = 0; panel = 0 }

abbrev closing : ℕ → ℕ → Entry
closing i n = record { layer = true; attribute = i; alpha = None; nesting = n; panel = 0 }

-- a recording's tile, with room for `room` entries
abbrev lists : Width → Recording → ℕ → ℕ → ℕ → Answer (List Entry)
lists w r row tile room = tile-list exact w (in-one (file One r)) row tile room

abbrev number-of : Recording → ℕ → ℕ → ℕ → ℕ
number-of r row tile room = (lists W128 r row tile room).number

-- The panel hides in its bucket what came before it, and beside that bucket all is listed, oldest first
pub panel-70 : lists W128 panel 0 70 1 ≡ answer Done (drawn 2 0 ∷ [])
unfolding computing-lists
panel-70 = refl

pub panel-50 : lists W128 panel 0 50 3 ≡ answer Done (drawn 0 0 ∷ at-alpha 1 800 ∷ drawn 2 0 ∷ [])
unfolding computing-lists
panel-50 = refl

-- .. with buckets of 16 tiles it hides there too
pub panel-narrow-50 : lists W64 panel 0 50 1 ≡ answer Done (drawn 2 0 ∷ [])
unfolding computing-lists
panel-narrow-50 = refl

-- a tile that receives nothing
pub nothing-listed : lists W128 unreached 1 10 0 ≡ answer Done []
unfolding computing-lists
nothing-listed = refl

-- nested layers: the draw at nesting 2, then the inner layer, then the outer one
pub nested-10 : lists W128 parent-cut 0 10 9 ≡ answer Done (drawn 0 2 ∷ closing 0 2 ∷ closing 1 1 ∷ [])
unfolding computing-lists
nested-10 = refl

-- an alpha index is that of the tile: the segment's first tile is 4 tiles left of the screen
pub alpha-3 : (lists W128 left_cut 0 3 1).value ≡ at-alpha 0 272 ∷ []
unfolding computing-lists
alpha-3 = refl

-- 14 by the entries that are listed, not by all that are told; 12 before it
pub room_for_one : number-of panel 0 70 0 ≡ NoRoom
unfolding computing-lists
room_for_one = refl

pub one-short : lists W128 panel 0 50 2 ≡ answer NoRoom []
unfolding computing-lists
one-short = refl

pub off-before-room : number-of panel 1 50 0 ≡ BadRun
unfolding computing-lists
off-before-room = refl

-- the last tile and the tile after it
pub last-tile : number-of unreached 1 63 0 ≡ Done
unfolding computing-lists
last-tile = refl

pub tile-off : number-of unreached 1 64 0 ≡ BadRun
unfolding computing-lists
tile-off = refl

pub row-off : number-of unreached 2 0 0 ≡ BadRun
unfolding computing-lists
row-off = refl

-- 3, then 2 by the mode, then 4, then 5, then the walk, then 12
pub bad-form : (tile-list exact W128 (in-one (1 ∷ [])) 9 9 0).number ≡ BadForm
unfolding computing-lists
bad-form = refl

pub other-edition : (tile-list exact W128 (in-edition Two (file One panel)) 0 0 0).number ≡ BadForm
unfolding computing-lists
other-edition = refl

abbrev snapped : Recording
snapped = rec (box 3 1 61 3) [] [] [] [] 1 0

pub bad-viewport : number-of snapped 9 9 0 ≡ BadViewport
unfolding computing-lists
bad-viewport = refl

pub bad-record : (tile-list snapping W128 (in-one (file One snapped)) 9 9 0).number ≡ BadRecord
unfolding computing-lists
bad-record = refl

pub bad-order : number-of (rec (box 0 0 256 8) (solid 0 0 9 ∷ solid 0 8 12 ∷ []) (draw 0 2 ∷ []) [] [] 0 0) 9 9 0 ≡ BadOrder
unfolding computing-lists
bad-order = refl

abbrev cyclic : Recording
cyclic = rec (box 0 0 64 4) [] [] (layer 0 1 ∷ []) (node 0 0 1 ∷ []) 0 1

pub cyclic-off : number-of cyclic 9 9 0 ≡ Deep
unfolding computing-lists
cyclic-off = refl

-- A row that is full at C = 64 stops nothing here. A draw on 65 nodes: elsewhere the 65th is refused by 10; the list has all 65
abbrev again : List Node
again = replicate 65 (node 0 1 0)

abbrev crowded : Recording
crowded = rec (box 0 0 64 4) (alpha 0 0 4 0 ∷ []) (draw 0 1 ∷ []) [] again 0 65

pub crowded-screen : (rowlist-screen (usual exact W128) (in-one (file One crowded))).number ≡ FullRow
unfolding computing-lists
crowded-screen = refl

pub crowded-list : length (lists W128 crowded 0 0 65).value ≡ 65
unfolding computing-lists
crowded-list = refl

-- .. and where a layer that reaches itself comes after them, 6 in place of 10
abbrev crowded-cyclic : Recording
crowded-cyclic =
    rec (box 0 0 64 4) (alpha 0 0 4 0 ∷ []) (draw 0 1 ∷ []) (layer 65 66 ∷ []) (again ++ (node 0 0 1 ∷ [])) 0 66

pub cyclic-screen : (rowlist-screen (usual exact W128) (in-one (file One crowded-cyclic))).number ≡ FullRow
unfolding computing-lists
cyclic-screen = refl

pub cyclic-list : number-of crowded-cyclic 0 0 99 ≡ Deep
unfolding computing-lists
cyclic-list = refl

-- in snapping mode the screen is the snapped box: 16 tiles, the last of them number 15
abbrev outward : Recording
outward = rec (box 3 1 61 3) [] [] [] [] 0 0

pub snapped-tile : (tile-list snapping W128 (in-one (file One outward)) 0 15 0).number ≡ Done
unfolding computing-lists
snapped-tile = refl

pub snapped-off : (tile-list snapping W128 (in-one (file One outward)) 0 16 0).number ≡ BadRun
unfolding computing-lists
snapped-off = refl

-- What is printed, of the worked example's bytes
pub worked-text :
    list-text One exact W128 worked-bytes 1 7 ≡
    codes "p 1 7 8 - 1 0\nl 0 7 8 - 1 0\n"
unfolding computing-lists
worked-text = refl

-- .. as edition two, its draws for panel 5 and its layer for panel 6
pub worked-panels :
    list-text Two exact W128 (bytes-of worked-two) 1 7 ≡
    codes "p 1 7 8 - 1 5\nl 0 7 8 - 1 6\n"
unfolding computing-lists
worked-panels = refl

pub empty-text : list-text One exact W128 worked-bytes 0 0 ≡ []
unfolding computing-lists
empty-text = refl

pub off-text : list-text One exact W128 worked-bytes 2 0 ≡ codes "refused 12\n"
unfolding computing-lists
off-text = refl

pub bytes_left : list-text One exact W128 (1 ∷ []) 0 0 ≡ codes "refused 3\n"
unfolding computing-lists
bytes_left = refl

-- a width that is none: 2, after 3
pub no-width : no-width-text One worked-bytes ≡ codes "refused 2\n"
unfolding computing-lists
no-width = refl

pub no-width-form : no-width-text One (1 ∷ []) ≡ codes "refused 3\n"
unfolding computing-lists
no-width-form = refl

-- in a stream
pub first-list : list-line 0 ≡ codes "list 0\n"
unfolding computing-lists
first-list = refl
