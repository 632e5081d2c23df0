-- What a list of fills is, by single fills, and cases of it that compute.
use Rattle.std.specs.Prelude.{ℕ, ◌≡◌, Bool, true, false, List, [], ◌∷◌, map, take, replicate}
use Rattle.sizes.specs.Sizes.{paint-attr-table}
use Rattle.sizes.specs.declared.width.Width.TheVariants.{W128}
use Rattle.rules.specs.Answers.{answer, Done, BadRecord}
use Rattle.rules.specs.Walk.{each}
use Rattle.row.specs.Words.{words}
use Rattle.rect.specs.declared.Rect.{Rect}
use Rattle.screen.specs.declared.Screen.{Screen}
use Rattle.inputs.specs.declared.Draw.{Draw}
use Rattle.fill.specs.Fills.{FillLent, fill_lent, filled}
use Rattle.fill.specs.Lists.{FillsOut, fills_out, fills_in_order, fills_listed}

-- number and value are those of the single fills, each in its turn, up to the first that is refused
abbrev pub EachInTurn : Type 0
EachInTurn = (ps ss : List ℕ) (ds : List Draw) (l : FillLent) → let o = fills_in_order ps ss ds l in answer o.number o.value ≡ each (λ d x. filled x ps ss d) ds l

-- what is left is what the first draws leave, as many as are told; each of those is done
abbrev pub DoneOnes : Type 0
DoneOnes = (ps ss : List ℕ) (ds : List Draw) (l : FillLent) → let o = fills_in_order ps ss ds l in fills_in_order ps ss (take o.done ds) l ≡ fills_out Done o.done o.value

-- a screen of two rows, room for 64 commands and 64 depth fills in each; good with right = 256
abbrev pub a-screen : ℕ → Bool → FillLent
a-screen right begun =
    let b : Rect = record { x0 = 0; y0 = 0; x1 = right; y1 = 8 } in
    let s : Screen =
    record {
      viewport = b;
      clip_bbox = b;
      c = 64;
      d = 64;
      next_draw_id = 1;
      paint_attrs = 0;
      layer_attrs = 0;
      filter_paints = 0;
      layers = 0;
      painting = begun;
      width = W128;
    } in
    fill_lent s (words (replicate 108 0) (replicate 512 0) (replicate 256 0)) (replicate paint-attr-table 0)

-- one opaque paint; a solid segment on row 0, tiles 10 to 64
abbrev pub one-paint : List ℕ
one-paint = 1 ∷ 0 ∷ 0 ∷ 0 ∷ []

abbrev pub one-segment : List ℕ
one-segment = 0 ∷ 0 ∷ 10 ∷ 64 ∷ 0 ∷ []

-- three draws of the segment by panel 7, with paints p, q and r, of which only 0 is there
abbrev pub three : ℕ → ℕ → ℕ → List ℕ
three p q r = 0 ∷ 0 ∷ 1 ∷ p ∷ 0 ∷ 3 ∷ 0 ∷ 7 ∷ 0 ∷ 0 ∷ 1 ∷ q ∷ 0 ∷ 3 ∷ 0 ∷ 7 ∷ 0 ∷ 0 ∷ 1 ∷ r ∷ 0 ∷ 3 ∷ 0 ∷ 7 ∷ []

-- the draws from a to b
abbrev pub listed : List ℕ → ℕ → ℕ → FillLent → FillsOut
listed ws a b l = fills_listed one-paint one-segment ws a b l

-- number, fills done, the id that is next
abbrev pub said : FillsOut → List ℕ
said o = o.number ∷ o.done ∷ o.value.screen.next_draw_id ∷ []

-- what is asked, and what is said
abbrev pub TurnPoints : Type 0
TurnPoints =
    (map said
    ( -- all three, the second alone, the first refused, the middle one, the last
    listed (three 0 0 0) 0 3 (a-screen 256 false)
    ∷ listed (three 9 0 9) 1 2 (a-screen 256 false)
    ∷ listed (three 9 0 0) 0 3 (a-screen 256 false)
    ∷ listed (three 0 9 0) 0 3 (a-screen 256 false)
    ∷ listed (three 0 0 9) 0 3 (a-screen 256 false)
    -- a bad range comes before a bad viewport: past the end, end before start, no whole draws; then the viewport
    ∷ listed (three 0 0 0) 0 4 (a-screen 3 false)
    ∷ listed (three 0 0 0) 2 1 (a-screen 3 false)
    ∷ listed (0 ∷ three 0 0 0) 0 1 (a-screen 3 false)
    ∷ listed (three 0 0 0) 0 1 (a-screen 3 false)
    ∷ [])
    ≡ (Done ∷ 3 ∷ 4 ∷ []) ∷ (Done ∷ 1 ∷ 2 ∷ []) ∷ (BadRecord ∷ 0 ∷ 1 ∷ []) ∷ (BadRecord ∷ 1 ∷ 2 ∷ []) ∷ (BadRecord ∷ 2 ∷ 3 ∷ [])
    ∷ (BadRecord ∷ 0 ∷ 1 ∷ []) ∷ (BadRecord ∷ 0 ∷ 1 ∷ []) ∷ (BadRecord ∷ 0 ∷ 1 ∷ []) ∷ (2 ∷ 0 ∷ 1 ∷ []) ∷ [])
    -- an empty range is done on any screen, also on one that is painted, and changes nothing
    × (listed (three 9 9 9) 2 2 (a-screen 256 true) ≡ fills_out Done 0 (a-screen 256 true))
    × (listed [] 0 0 (a-screen 3 true) ≡ fills_out Done 0 (a-screen 3 true))
