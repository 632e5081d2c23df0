-- Where the one look says yes, the exact judge says 0. Assumes nothing.
use mathlib.Core.Path.{◌≡◌}
use mathlib.Core.Bool.{true, false, ◌&&◌}
use Prim.Native.Nat.{ℕ, ◌*◌, ◌-◌}
use Rattle.std.proofs.Common.{List, sym}
use Rattle.std.proofs.Math.Path.{subst}
use Rattle.fill.specs.Fills.{fill_lent, first-of-lent}
use lib.Dec.{leb, eqb}
use borrow.Author.Tests.{eqb-true}
use Rattle.std.specs.Prelude.{Some}
use Rattle.sizes.specs.Sizes.{paint-attr-table, layer-attr-table}
use Rattle.rules.proofs.All.{and_left, and_right}
use Rattle.rules.specs.Boxes.{box, good_viewport, rows_of}
use Rattle.rules.specs.Minima.{minima-room}
use Rattle.rect.specs.Rects.{box_of, same-box}
use Rattle.screen.specs.declared.Screen.{Screen}
use Rattle.screen.specs.Screens.{good_screen, good_clip}
use Rattle.screen.specs.Judging as screen
use Rattle.paint.specs.Judging.{count, wide, arenas-long, tables-long, judged, step_number}
use Rattle.host.specs.declared.state.StateWords.{StateWords}
use Rattle.host.specs.State.{screen-at, screen_of}
use Rattle.host.specs.Held.{words_in}
use Rattle.row.specs.Words.{Words}
use Rattle.screen.specs.declared.lent.Lent.{Lent}
use Rattle.host.specs.Called.{fill_out}
use Rattle.host.specs.OneLook.{corner-box, Counted, clip-in, rows-long, FillSure}

module _ (w : StateWords) where
  abbrev s : Screen
  s = screen-at (words_in w)

  -- the screen's own numbers, by its clip box
  good : Counted w → leb w.layers 16 ≡ true → clip-in w (w.viewport.x1 - w.viewport.x0) (w.viewport.y1 - w.viewport.y0) ≡ true → good_screen s ≡ true
  unfolding good_screen good_clip
  good k z b = rw (k.counts, z, b)

  -- the whole viewport is its clip box with no layer open
  whole : eqb w.layers 0 ≡ true → same-box (corner-box w.clip) (box 0 0 (w.viewport.x1 - w.viewport.x0) (w.viewport.y1 - w.viewport.y0)) ≡ true
      → (leb w.layers 16 ≡ true) × (clip-in w (w.viewport.x1 - w.viewport.x0) (w.viewport.y1 - w.viewport.y0) ≡ true)
  whole z b = let l : w.layers ≡ 0 = eqb-true _ _ z in (rw l, rw (z, b))

  -- the lengths of the words of n rows, one by one
  long : (n rows render fills : ℕ) → rows-long n w rows render fills ≡ true
      → (eqb render (n * (4 * w.c)) ≡ true) × (eqb fills (n * (2 * w.d)) ≡ true) × (eqb rows (n * 54) ≡ true)
  long n rows render fills h =
      let a = eqb render (n * (4 * w.c)) in
      let b = eqb fills (n * (2 * w.d)) in
      let c = eqb rows (n * 54) in
      let g : (a && b) ≡ true = and_left (a && b) c h in
      (and_left a b g, and_right a b g, and_right (a && b) c h)

  -- a painting step on a row below their number, which is not at most it
  pub sure : (r render fills depth minima rows painting ps ls : ℕ) → good_viewport (corner-box w.viewport) ≡ true → Counted w → eqb w.layers 0 ≡ true
      → eqb w.painting 1 ≡ true
      → same-box (corner-box w.clip) (box 0 0 (w.viewport.x1 - w.viewport.x0) (w.viewport.y1 - w.viewport.y0)) ≡ true
      → leb (count s) r ≡ false → rows-long (count s) w rows render fills ≡ true
      → (eqb depth (count s * wide s) && eqb minima (count s * minima-room (wide s)) && eqb painting (count s * 2)) ≡ true
      → (eqb ps paint-attr-table && eqb ls layer-attr-table) ≡ true
      → step_number s r (arenas-long s render fills depth minima) (tables-long s rows painting ps ls) ≡ 0
  unfolding step_number judged
  sure r render fills depth minima rows painting ps ls v k z b h below l q t =
      let o = whole z h in
      let g = good k o.0 o.1 in
      let e = long (count s) rows render fills l in
      let de = eqb depth (count s * wide s) in
      let mi = eqb minima (count s * minima-room (wide s)) in
      let pa = eqb painting (count s * 2) in
      let i = eqb ps paint-attr-table in
      let j = eqb ls layer-attr-table in
      let dm : (de && mi) ≡ true = and_left (de && mi) pa q in
      rw (v, k.c, k.d, e.0, e.1, and_left de mi dm, and_right de mi dm, e.2, and_right (de && mi) pa q, and_left i j t, and_right i j t, g, below, z, b)

  -- a building step
  pub passes : (rows render fills : ℕ) → good_viewport (corner-box w.viewport) ≡ true → Counted w → leb w.layers 16 ≡ true
      → clip-in w (w.viewport.x1 - w.viewport.x0) (w.viewport.y1 - w.viewport.y0) ≡ true
      → rows-long (rows_of (box_of s.viewport)) w rows render fills ≡ true → screen.judged s rows render fills ≡ 0
  unfolding screen.judged
  passes rows render fills v k z b l =
      let g = good k z b in
      let e = long (rows_of (box_of s.viewport)) rows render fills l in
      rw (v, k.c, k.d, e.0, e.1, e.2, g)

  -- words that are looked at so stand for a screen
  pub stands : leb w.painting 1 ≡ true → leb w.width 2 ≡ true → Some s ≡ screen_of true (words_in w)
  unfolding screen_of
  stands b m = rw (b, m)
