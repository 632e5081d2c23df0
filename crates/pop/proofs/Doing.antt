-- What a number 0 gives the doing half, and what it leaves. Assumes nothing.
use Rattle.std.proofs.Common.{◌≡◌, refl, sym, ap, ◌∙◌, subst, Bool, true, false, ◌||◌, List, [], ◌++◌, map, None, Some, ℕ, ◌+◌, ◌-◌, ◌/◌, ◌≤◌, ◌<◌, arith, eqb, length, eqb-true}
use Rattle.std.proofs.lemmas.Bool.Decides.{nat_tests}
use borrow.Author.Tests.{eqb-false}
use Rattle.sizes.specs.Widths.{bucket-tiles}
use Rattle.rules.specs.Lists.{join, range}
use Rattle.rules.specs.Boxes.{Box, rows_of, rows_in, span_of, scene-tiles}
use Rattle.rules.specs.Segments.{judge-segments, Cut, cut_in}
use Rattle.rules.specs.Plans.{Layer, Put, on, close, pop, clip-box, closing, close-puts}
use Rattle.rules.specs.Steps.{done}
use Rattle.row.specs.Words.{Words, word-ops}
use Rattle.row.specs.Cmds.{Short}
use Rattle.row.specs.Arena.{lay}
use Rattle.rect.specs.declared.Rect.{Rect}
use Rattle.rect.specs.Rects.{box_of}
use Rattle.rect.proofs.Boxes as boxes
use Rattle.rect.proofs.Boxes.{small-viewport}
use Rattle.span.specs.declared.TileSpan.{TileSpan}
use Rattle.span.specs.Spans.{tiles}
use Rattle.screen.specs.declared.Screen as code
use Rattle.screen.specs.Screens.{frame-of}
use Rattle.segments.specs.declared.Scene.{Scene}
use Rattle.segments.specs.Segs.{segs, origin, bounds as scene-bounds, SceneOf}
use Rattle.segments.proofs.Laws.{scene-starts, judged as judged-list}
use Rattle.row.specs.Building.{rows_at, Whole, screen-at}
use Rattle.screen.specs.declared.layers.OpenLayer.{OpenLayer}
use Rattle.screen.specs.Layers.{layer-at, clip-in, open_at, good_layer, good_own_box}
use Rattle.screen.proofs.LayersLaws.{without-clip, has-clip}
use Rattle.pop.specs.Closing.{touched-in, good-pops, full_by, runs-full, done-puts, clip-puts, Roomy, Fillable, Poppable, Each, Clips}
use Rattle.pop.proofs.Running.{cuts-sorted}
use Rattle.pop.specs.Pop.{pop_lent, layers-in, state-in, pop-plan, Judged, closing-puts, words-after}
use Rattle.pop.proofs.Ready.{Closeable, Fits, fits, full-plain, full-clip, ready-fill, ready-puts, ready-pop, closed-words}
use Rattle.pop.proofs.Numbers.{layers-length, open-first, plan-is, plain-closeable, clip-closeable, number-plain, number-long, number-clip, cuts-is, Cleared, late-zero}
use Rattle.screen.proofs.ScreenLaws.{bounds}
use Rattle.screen.proofs.Passed.{passed}
use Rattle.layers.proofs.Passing.{PassedOn, passed-whole}
use Rattle.pop.proofs.Opening.{OwnBox, own-facts, Ranged, layer-facts, last_row, own-span}

-- the rows can be closed and popped, and an id and an attribute are left
pub record Set (s : code.Screen) (t ws : List ℕ) (w : Words) : Type 0 where
  pub rows : Closeable (frame-of s) s.layers ((layer-at t (s.layers - 1)).bounds.y0 / 4) (((layer-at t (s.layers - 1)).bounds.y1 + 3) / 4) (closing-puts s t ws w) w
  pub room : Fits (frame-of s) s.layers ((layer-at t (s.layers - 1)).bounds.y0 / 4) (((layer-at t (s.layers - 1)).bounds.y1 + 3) / 4) (closing-puts s t ws w) w
  pub ids : s.next_draw_id ≤ 1048576
  pub attrs : s.layer_attrs < 1024

module _ {s : code.Screen} {t ws : List ℕ} {w : Words} (j : Judged s t ws w) where
  pub seen : PassedOn s w
  seen = passed s (length w.state) (length w.render) (length w.fills) j.screen

  pub deep : s.layers ≤ 16
  deep = (bounds s seen.screen).deep

  pub whole : Whole (frame-of s) w
  whole = passed-whole s w seen

  abbrev layer : Layer
  layer = layer-at t (s.layers - 1)

  abbrev view : Box
  view = box_of s.viewport

  abbrev parent : Box
  parent = clip-box (box_of s.viewport) (layers-in t (s.layers - 1))

  abbrev xs : List ℕ
  xs = touched-in s.layers (rows_at (frame-of s) w) (rows_in (layer-at t (s.layers - 1)).bounds)

  tests : (good_layer (open_at t (s.layers - 1)) ≡ true) × (good_own_box view layer.bounds ≡ true) × (good_own_box view parent ≡ true)
  tests =
      let g = sym (open-first t view s.layers j.some) ∙ j.layer in
      (grind (arith, nat_tests), grind (arith, nat_tests), grind (arith, nat_tests))

  own-box : OwnBox view layer.bounds
  own-box = own-facts view layer.bounds tests.1

  ranged : Ranged (open_at t (s.layers - 1))
  ranged = layer-facts (open_at t (s.layers - 1)) tests.0

  pub bottom : ((layer-at t (s.layers - 1)).bounds.y1 + 3) / 4 ≤ rows_of (box_of s.viewport)
  bottom = last_row own-box

  pub short-span : Short (span_of (layer-at t (s.layers - 1)).bounds)
  short-span = own-span own-box (boxes.view view seen.view).wide

  -- without a clip
  module _ (c : (layer-at t (s.layers - 1)).props.clip ≡ None) where
    pub plain-puts : closing-puts s t ws w ≡ map (on (close (span_of (layer-at t (s.layers - 1)).bounds) None s.layer_attrs)) xs
    unfolding closing
    plain-puts = rw c

    plain-set : Set s t ws w
    plain-set =
        let p = late-zero _ _ _ _ _ (number-plain s (pop_lent w t [] []) ws j.some seen bottom c ∙ j.rows) in
        let v = plain-closeable s (pop_lent w t [] []) ws j.some seen bottom p.good (span_of layer.bounds) s.layer_attrs in
        record {
          rows = rw plain-puts v;
          room = rw plain-puts (fits (frame-of s) s.layers (layer.bounds.y0 / 4) ((layer.bounds.y1 + 3) / 4) (map (on (close (span_of layer.bounds) None s.layer_attrs)) xs) w (full-plain v (span_of layer.bounds) s.layer_attrs refl ∙ p.room));
          ids = p.ids;
          attrs = p.attrs;
        }

  -- with one: its range lies in the list, which is good
  module _ (c : (layer-at t (s.layers - 1)).props.clip ≡ Some (clip-in t (s.layers - 1))) where
    pub clip-within : (clip-in t (s.layers - 1)).end ≤ length ws / 5
    clip-within =
        let f : length ws / 5 < (clip-in t (s.layers - 1)).end → ⊥ =
        λ h. omega (arith, number-long s (pop_lent w t [] []) ws j.some seen bottom (clip-in t (s.layers - 1)) c ranged.range h ∙ j.rows) in
        omega arith

    module _ (d : Scene) (e : SceneOf (box_of s.viewport) (clip-box (box_of s.viewport) (layers-in t (s.layers - 1))) d) where
      abbrev ks : List Cut
      ks = join (cut_in (origin d) (scene-bounds d)) (segs ws (clip-in t (s.layers - 1)).start ((clip-in t (s.layers - 1)).end - (clip-in t (s.layers - 1)).start))

      pub scene-puts : closing-puts s t ws w ≡ close-puts s.layer_attrs xs ks
      unfolding closing
      scene-puts =
          rw c
          (ap (close-puts s.layer_attrs xs) (sym (cuts-is s (pop_lent w t [] []) ws j.some seen bottom (clip-in t (s.layers - 1)) c ranged.range clip-within d e)))

      cleared : Cleared (good-pops s.c s.d s.layers (rows_at (frame-of s) w) (rows_in layer.bounds))
          (judge-segments false (segs ws (clip-in t (s.layers - 1)).start ((clip-in t (s.layers - 1)).end - (clip-in t (s.layers - 1)).start))) s.next_draw_id s.layer_attrs
          (full_by s.c 1 (rows_at (frame-of s) w) xs || runs-full s.c xs (rows_at (frame-of s) w) 0 0 ks)
      cleared = late-zero _ _ _ _ _ (number-clip s (pop_lent w t [] []) ws j.some seen bottom (clip-in t (s.layers - 1)) c ranged.range clip-within d e ∙ j.rows)

      clip-set : Set s t ws w
      clip-set =
          let p = cleared in
          let v = clip-closeable s (pop_lent w t [] []) ws j.some seen bottom p.good s.layer_attrs ks in
          let o = cuts-sorted (origin d) (scene-bounds d) (segs ws (clip-in t (s.layers - 1)).start ((clip-in t (s.layers - 1)).end - (clip-in t (s.layers - 1)).start)) (judged-list _ p.listed).order in
          record {
            rows = rw scene-puts v;
            room = rw scene-puts (fits (frame-of s) s.layers (layer.bounds.y0 / 4) ((layer.bounds.y1 + 3) / 4) (close-puts s.layer_attrs xs ks) w (full-clip v s.layer_attrs ks o refl ∙ p.room));
            ids = p.ids;
            attrs = p.attrs;
          }

  -- some scene of the viewport and the parent's box
  a-scene : Scene
  a-scene =
      record {
        x = view.x0;
        y = view.y0;
        columns = record { first = (view.x0 + parent.x0) / 4; end = (view.x0 + parent.x1) / 4 };
        rows = record { first = (view.y0 + parent.y0) / 4; end = (view.y0 + parent.y1) / 4 };
      }

  a-scene-of : SceneOf view parent a-scene
  unfolding scene-tiles a-scene
  a-scene-of = record { corner = refl; area = refl }

  pub flag-none : (open_at t (s.layers - 1)).flag ≡ 0 → (layer-at t (s.layers - 1)).props.clip ≡ None
  flag-none z = without-clip t (s.layers - 1) z

  pub flag-some : ((open_at t (s.layers - 1)).flag ≡ 0 → ⊥) → (layer-at t (s.layers - 1)).props.clip ≡ Some (clip-in t (s.layers - 1))
  flag-some z = has-clip t (s.layers - 1) (omega (arith, ranged.flag))

  pub ready : Set s t ws w
  ready = go (eqb (open_at t (s.layers - 1)).flag 0) refl
    where
      go : (b : Bool) → eqb (open_at t (s.layers - 1)).flag 0 ≡ b → Set s t ws w
      go true z = plain-set (flag-none (eqb-true (open_at t (s.layers - 1)).flag 0 z))
      go false z = clip-set (flag-some (eqb-false (open_at t (s.layers - 1)).flag 0 z)) a-scene a-scene-of

  -- the layer y as the code has read it, and its rows a to b
  module _ (y : OpenLayer) (e : y ≡ open_at t (s.layers - 1)) (a b : ℕ) (ea : a ≡ y.bbox.y0 / 4) (eb : b ≡ (y.bbox.y1 + 3) / 4) where
    a-is : a ≡ (layer-at t (s.layers - 1)).bounds.y0 / 4
    a-is = ea ∙ ap (λ (z : OpenLayer). z.bbox.y0 / 4) e

    b-is : b ≡ ((layer-at t (s.layers - 1)).bounds.y1 + 3) / 4
    b-is = eb ∙ ap (λ (z : OpenLayer). (z.bbox.y1 + 3) / 4) e

    flag_is : y.flag ≡ (open_at t (s.layers - 1)).flag
    flag_is = ap (λ (z : OpenLayer). z.flag) e

    pub b-bottom : b ≤ rows_of (box_of s.viewport)
    b-bottom = rw b-is bottom

    module _ (f : y.flag ≡ 0) (p : TileSpan) (k : tiles p ≡ span_of (box_of y.bbox)) where
      span-is : tiles p ≡ span_of (layer-at t (s.layers - 1)).bounds
      span-is = k ∙ ap (λ (z : OpenLayer). span_of (box_of z.bbox)) e

      no-clip : (layer-at t (s.layers - 1)).props.clip ≡ None
      no-clip = flag-none (sym flag_is ∙ f)

      pub plain-requires : Whole (frame-of s) w × (b ≤ rows_of (box_of s.viewport)) × Short (tiles p)
          × Each (Fillable (tiles p) None s.layer_attrs) (rows_at (frame-of s) w) (touched-in s.layers (rows_at (frame-of s) w) (range a b))
      plain-requires =
          (whole, b-bottom, subst Short (sym span-is) short-span, rw (a-is, b-is) (ready-fill ready.rows ready.room (tiles p) None s.layer_attrs))

      pub plain_done : {rs : List Words} → rs ≡ done-puts (bucket-tiles s.width) (s.layers - 1) (map (on (close (tiles p) None s.layer_attrs)) (touched-in s.layers (rows_at (frame-of s) w) (range a b))) (rows_at (frame-of s) w)
          → rs ≡ done-puts (bucket-tiles s.width) (s.layers - 1) (closing-puts s t ws w) (rows_at (frame-of s) w)
      plain_done h = h ∙ rw (a-is, b-is, span-is) (ap (λ (ps : List Put). done-puts (bucket-tiles s.width) (s.layers - 1) ps (rows_at (frame-of s) w)) (sym (plain-puts no-clip)))

    module _ (f : y.flag ≡ 0 → ⊥) {x z : ℕ} (ex : x ≡ y.start) (ez : z ≡ y.«end») (q : Rect) (p : box_of q ≡ clip-box (box_of s.viewport) (layers-in t (s.layers - 1)))
        (d : Scene) (k : SceneOf (box_of s.viewport) (box_of q) d) where
      start_is : x ≡ (clip-in t (s.layers - 1)).start
      start_is = ex ∙ ap (λ (k : OpenLayer). k.start) e

      end_is : z ≡ (clip-in t (s.layers - 1)).end
      end_is = ez ∙ ap (λ (k : OpenLayer). k.«end») e

      a-clip : (layer-at t (s.layers - 1)).props.clip ≡ Some (clip-in t (s.layers - 1))
      a-clip = flag-some (λ (i : (open_at t (s.layers - 1)).flag ≡ 0). f (flag_is ∙ i))

      scene-is : SceneOf (box_of s.viewport) (clip-box (box_of s.viewport) (layers-in t (s.layers - 1))) d
      scene-is = rw p at k

      clip-room : Roomy (bucket-tiles s.width) (s.layers - 1) (close-puts s.layer_attrs xs (ks a-clip d scene-is)) (rows_at (frame-of s) w)
      clip-room = rw (scene-puts a-clip d scene-is) at (ready-puts ready.rows ready.room (s.layers - 1))

      pub clip-requires : Clips (frame-of s) s.layers s.layer_attrs ws x z d a b w
      clip-requires =
          rw (a-is, b-is, start_is, end_is)
          (record {
            whole = whole;
            layers = deep;
            bottom = bottom;
            starts = scene-starts k;
            before = ranged.range;
            within = omega (arith, clip-within a-clip);
            good = (judged-list _ (cleared a-clip d scene-is).listed).good;
            room = clip-room;
          })

      pub clip-done : {rs : List Words} → rs ≡ done-puts (bucket-tiles s.width) (s.layers - 1) (clip-puts s.layer_attrs (touched-in s.layers (rows_at (frame-of s) w) (range a b)) d (segs ws x (z - x))) (rows_at (frame-of s) w)
          → rs ≡ done-puts (bucket-tiles s.width) (s.layers - 1) (closing-puts s t ws w) (rows_at (frame-of s) w)
      clip-done h = h ∙ rw (a-is, b-is, start_is, end_is) (ap (λ (ps : List Put). done-puts (bucket-tiles s.width) (s.layers - 1) ps (rows_at (frame-of s) w)) (sym (scene-puts a-clip d scene-is)))

    -- the PopBufs
    module _ (u : Words) (o : Whole (frame-of s) u) (h : rows_at (frame-of s) u ≡ done-puts (bucket-tiles s.width) (s.layers - 1) (closing-puts s t ws w) (rows_at (frame-of s) w)) where
      pub pop-requires : Each Poppable (rows_at (frame-of s) u) (touched-in s.layers (rows_at (frame-of s) u) (range a b))
      pop-requires = rw (a-is, b-is) (ready-pop ready.rows ready.room (s.layers - 1) u o h)

      plan-rows : (done Words word-ops (pop-plan s (pop_lent w t [] []) ws) (screen-at (state-in s t) w)).rows ≡ done-puts (bucket-tiles s.width) (s.layers - 1) (closing-puts s t ws w ++ map (on pop) xs) (rows_at (frame-of s) w)
      unfolding done
      plan-rows = rw (plan-is s (pop_lent w t [] []) ws j.some seen, layers-length t (s.layers - 1))

      pub pop-done : (v : Words) → Whole (frame-of s) v → rows_at (frame-of s) v ≡ done-puts (bucket-tiles s.width) (s.layers - 1) (map (on pop) (touched-in s.layers (rows_at (frame-of s) u) (range a b))) (rows_at (frame-of s) u)
          → v ≡ words-after s t ws w
      pop-done v i g = closed-words ready.rows ready.room (s.layers - 1) u o h v i (rw (a-is, b-is) at g) ∙ ap lay (sym plan-rows)
