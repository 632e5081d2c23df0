-- A tile of a good viewport's screen, and what its story goes by before the first step.
use Rattle.std.proofs.Common.{ℕ, ◌/◌, ◌<◌, arith, ◌≡◌, refl, sym, Bool, true, false, ◌||◌, cond, List, [], length, leb, leb-false}
use Rattle.sizes.specs.Sizes.{most-layers, most-rows, line-table, tile-end}
use Rattle.sizes.specs.declared.width.Width.{Width}
use Rattle.rules.specs.Answers.{Answer}
use Rattle.rules.specs.Boxes.{Box, width, whole, rows_of, good_viewport}
use Rattle.rules.specs.Plans.{Step}
use Rattle.rules.specs.Walk.{walk-all, walk-nodes, walk-layer}
use Rattle.rules.proofs.laws.Widths.{bucket-some, bucket-most}
use Rattle.rect.specs.declared.Rect.{Rect}
use Rattle.rect.specs.Rects.{box_of, Small}
use Rattle.rect.proofs.Boxes.{view, small-viewport}
use Rattle.rules.specs.Recording as rule
use Rattle.file.specs.declared.recording.Recording.{Recording}
use Rattle.walk.specs.Ready.{ReadyIn}
use Rattle.tile.specs.declared.steps.Spot.{Spot}
use Rattle.tile.specs.declared.steps.Within.{Within}
use Rattle.tile.specs.declared.steps.Tale.{Tale}
use Rattle.tile.specs.Telling.{Telling, tell-at}
use Rattle.tile.specs.Places.{Spotted, spot-at, Bounded, Holds, Says}
use Rattle.tile.specs.Ready.{TaleReady}
use Rattle.rules_reason.specs.Answers.{off-screen}

neither : (a b : Bool) → (a || b) ≡ false → (a ≡ false) × (b ≡ false)
neither true b e = let z : ◌≡◌ {A = ℕ} 0 1 = cc in absurd (omega arith)
neither false b e = (refl, e)

abbrev pub outermost : Rect → Within
outermost clip = record { clip = clip; «open» = 0 }

abbrev pub beginning : Tale
beginning = record { next = 1; paints = 0; layers = 0; filters = 0; levels = 0 }

module _ (v : Rect) (g : good_viewport (box_of v) ≡ true) (w : Width) (row tile : ℕ) where
  at-place : row < most-rows → tile < tile-end → Spotted (spot-at v w row tile)
  at-place row_in tile-in =
      record {
        small = small-viewport (box_of v) g;
        row = row_in;
        tile = tile-in;
        some-tiles = bucket-some w;
        few-tiles = omega (arith, bucket-most w);
      }

  pub spotted : off-screen (box_of v) row tile ≡ false → Spotted (spot-at v w row tile)
  spotted o =
      let f = view (box_of v) g in
      let h = neither (leb (rows_of (box_of v)) row) (leb (width (box_of v) / 4) tile) o in
      let row_in = leb-false (rows_of (box_of v)) row h.0 in
      let tile-in = leb-false (width (box_of v) / 4) tile h.1 in
      at-place (omega (arith, row_in, f.high)) (omega (arith, tile-in, f.wide))

-- .. or where it is off the screen the first tile, also of a screen that has none
pub spotted_somewhere : (v : Rect) → good_viewport (box_of v) ≡ true → (w : Width) (row tile : ℕ) (off : Bool) → off ≡ off-screen (box_of v) row tile
    → Spotted (spot-at v w (cond off 0 row) (cond off 0 tile))
spotted_somewhere v g w row tile true e = at-place v g w 0 0 (omega arith) (omega arith)
spotted_somewhere v g w row tile false e = spotted v g w row tile (sym e)

module _ (s : Spot) (p : Spotted s) (clip : Rect) (e : box_of clip ≡ whole (box_of s.viewport)) where
  bounded : Bounded (outermost clip)
  bounded =
      let v = p.small in
      let small : Small (whole (box_of s.viewport)) =
      record { left = omega arith; top = omega arith; right = omega (arith, v.right); bottom = omega (arith, v.bottom) } in
      record { small = rw e small; few = omega arith }

  pub ready_at : (r : Recording) (lines : List ℕ) → ReadyIn r → length lines ≡ line-table → TaleReady r s (outermost clip) beginning lines
  ready_at r lines y n =
      record {
        walk = y;
        spotted = p;
        bounded = bounded;
        low = record { next = omega arith; paints = omega arith; layers = omega arith; filters = omega arith; levels = omega arith };
        room = n;
      }

  pub holds-nothing : Holds (box_of s.viewport) (outermost clip) []
  holds-nothing = record { clip = sym e; count = refl }

-- the walk from the root is the walk of the whole recording, at w tiles a bucket
module _ (r : rule.Recording) (w : ℕ) (v : Box) (row tile : ℕ) (t : Telling) where
  abbrev step : Step → Telling → Answer Telling
  step = tell-at w v row tile

  from-root : walk-nodes Telling step r (walk-layer Telling step r most-layers) r.start r.end t ≡ walk-all Telling step r t
  unfolding walk-all
  from-root = refl

  pub all_told : (n : ℕ) (u : Telling) → Says (walk-nodes Telling step r (walk-layer Telling step r most-layers) r.start r.end t) n u
      → Says (walk-all Telling step r t) n u
  all_told n u s = rw from-root at s
