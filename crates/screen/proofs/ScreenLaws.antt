-- Laws of screens, for this crate and its callers.
use Rattle.std.proofs.Common.{◌≡◌, refl, sym, Bool, true, ◌&&◌, ℕ, zero, suc, ◌≤◌, ◌%◌, arith, length, replicate, leb, eqb, leb-true, eqb-true, eq-eqb, ne_eqb, le-leb}
use lib.ListN.{length-replicate}
use Rattle.sizes.specs.declared.width.Width.{Width}
use Rattle.sizes.specs.Widths.{bucket-tiles}
use Rattle.rules.specs.Lists.{is-empty}
use Rattle.rules.specs.Boxes.{Box, width, height, by_4, whole, rows_of, buckets-of, good_viewport}
use Rattle.rules.specs.Attributes.{no-paint, no-layer}
use Rattle.rules.specs.Plans as plans
use Rattle.rules.specs.Plans.{Frame, Plan, clip-box}
use Rattle.rules.specs.Walk.{good-room}
use Rattle.rules.proofs.laws.Widths.{each}
use Rattle.rect.specs.Rects.{box_of, same-box}
use Rattle.rect.proofs.Boxes.{View, view}
use Rattle.screen.specs.declared.Screen.{Screen}
use Rattle.screen.specs.Screens.{in-tiles, good_clip, good-counts, good_screen, some-filter, layer-in, state-of, screen-after, counted}
use Rattle.rules.proofs.All.{and_left, and_right}

pub record Room (n : ℕ) : Type 0 where
  pub some : 1 ≤ n
  pub few : n ≤ 1024

pub room : (n : ℕ) → good-room n ≡ true → Room n
room n h =
    record { some = leb-true _ _ (and_left (leb 1 n) (leb n 1024) h); few = leb-true _ _ (and_right (leb 1 n) (leb n 1024) h) }

module _ (v : Box) (g : good_viewport v ≡ true) where
  pub few_rows : rows_of v ≤ 512
  few_rows = omega (arith, (view v g).high)

  pub few-buckets : (w : Width) → buckets-of (bucket-tiles w) v ≤ 64
  few-buckets w = each (λ w. buckets-of w v ≤ 64) (omega (arith, (view v g).wide)) (omega (arith, (view v g).wide)) (omega (arith, (view v g).wide)) w

pub record Bounds (s : Screen) : Type 0 where
  pub some_id : 1 ≤ s.next_draw_id
  pub ids : s.next_draw_id ≤ 1048577
  pub paints : s.paint_attrs ≤ 1024
  pub layer-attrs : s.layer_attrs ≤ 1024
  pub filters : s.filter_paints ≤ 256
  pub deep : s.layers ≤ 16

-- boxes that the test calls the same are
same : (a b : Box) → same-box a b ≡ true → a ≡ b
same a b h =
    let t1 = eqb a.x0 b.x0 in
    let t2 = eqb a.y0 b.y0 in
    let t3 = eqb a.x1 b.x1 in
    let t4 = eqb a.y1 b.y1 in
    let h3 : (t1 && t2 && t3) ≡ true = and_left (t1 && t2 && t3) t4 h in
    let h2 : (t1 && t2) ≡ true = and_left (t1 && t2) t3 h3 in
    let p : a.x0 ≡ b.x0 = eqb-true _ _ (and_left t1 t2 h2) in
    let q : a.y0 ≡ b.y0 = eqb-true _ _ (and_right t1 t2 h2) in
    let r : a.x1 ≡ b.x1 = eqb-true _ _ (and_right (t1 && t2) t3 h3) in
    let s : a.y1 ≡ b.y1 = eqb-true _ _ (and_right (t1 && t2 && t3) t4 h) in
    rw (p, q, r, s)

-- what a good clip box is, with layers open or none
pub record Clip (v b : Box) : Type 0 where
  pub x0-by-4 : b.x0 % 4 ≡ 0
  pub y0-by-4 : b.y0 % 4 ≡ 0
  pub x1-by-4 : b.x1 % 4 ≡ 0
  pub y1-by-4 : b.y1 % 4 ≡ 0
  pub left : b.x0 ≤ 32768
  pub top : b.y0 ≤ 32768
  pub right : b.x1 ≤ width v
  pub bottom : b.y1 ≤ height v

whole-clip : (v : Box) → View v → Clip v (whole v)
whole-clip v g =
    record {
      x0-by-4 = refl;
      y0-by-4 = refl;
      x1-by-4 = omega (arith, g.x0-by-4, g.x1-by-4, g.in_order);
      y1-by-4 = omega (arith, g.y0-by-4, g.y1-by-4, g.in-order-y);
      left = omega arith;
      top = omega arith;
      right = omega arith;
      bottom = omega arith;
    }

module _ (v b : Box) where
  abbrev inside : Bool
  inside = in-tiles b && leb b.x0 32768 && leb b.y0 32768 && leb b.x1 (width v) && leb b.y1 (height v)

  inside-clip : inside ≡ true → Clip v b
  inside-clip h =
      let a1 = by_4 b.x0 in
      let a2 = by_4 b.y0 in
      let a3 = by_4 b.x1 in
      let a4 = by_4 b.y1 in
      let t = in-tiles b in
      let l1 = leb b.x0 32768 in
      let l2 = leb b.y0 32768 in
      let l3 = leb b.x1 (width v) in
      let l4 = leb b.y1 (height v) in
      let h3 : (t && l1 && l2 && l3) ≡ true = and_left (t && l1 && l2 && l3) l4 h in
      let h2 : (t && l1 && l2) ≡ true = and_left (t && l1 && l2) l3 h3 in
      let h1 : (t && l1) ≡ true = and_left (t && l1) l2 h2 in
      let k4 : (a1 && a2 && a3 && a4) ≡ true = and_left t l1 h1 in
      let k3 : (a1 && a2 && a3) ≡ true = and_left (a1 && a2 && a3) a4 k4 in
      let k2 : (a1 && a2) ≡ true = and_left (a1 && a2) a3 k3 in
      record {
        x0-by-4 = eqb-true _ _ (and_left a1 a2 k2);
        y0-by-4 = eqb-true _ _ (and_right a1 a2 k2);
        x1-by-4 = eqb-true _ _ (and_right (a1 && a2) a3 k3);
        y1-by-4 = eqb-true _ _ (and_right (a1 && a2 && a3) a4 k4);
        left = leb-true _ _ (and_right t l1 h1);
        top = leb-true _ _ (and_right (t && l1) l2 h2);
        right = leb-true _ _ (and_right (t && l1 && l2) l3 h3);
        bottom = leb-true _ _ (and_right (t && l1 && l2 && l3) l4 h);
      }

  -- of a good viewport
  pub clip : (n : ℕ) → good_viewport v ≡ true → good_clip v b n ≡ true → Clip v b
  unfolding good_clip
  clip zero g h = rw (same b (whole v) h) (whole-clip v (view v g))
  clip (suc n) g h = inside-clip (rw (ne_eqb (suc n) 0 (λ e. omega arith)) at h)

  -- .. and the other way, with a layer open
  pub clip-good : (n : ℕ) → Clip v b → good_clip v b (suc n) ≡ true
  unfolding good_clip
  clip-good n k =
      rw (
        ne_eqb (suc n) 0 (λ e. omega arith),
        eq-eqb _ _ k.x0-by-4,
        eq-eqb _ _ k.y0-by-4,
        eq-eqb _ _ k.x1-by-4,
        eq-eqb _ _ k.y1-by-4,
        le-leb _ _ k.left,
        le-leb _ _ k.top,
        le-leb _ _ k.right,
        le-leb _ _ k.bottom,
      )

  clip-is : (n : ℕ) → good_clip v b n ≡ true → clip-box v (replicate n (layer-in b)) ≡ b
  unfolding good_clip
  clip-is zero h = sym (same b (whole v) h)
  clip-is (suc n) h = refl

module _ (s : Screen) (g : good_screen s ≡ true) where
  -- the counts of a good screen
  pub bounds : Bounds s
  unfolding good_screen
  bounds =
      let t1 = leb 1 s.next_draw_id in
      let t2 = leb s.next_draw_id 1048577 in
      let t3 = leb s.paint_attrs 1024 in
      let t4 = leb s.layer_attrs 1024 in
      let t5 = leb s.filter_paints 256 in
      let t6 = leb s.layers 16 in
      let h6 : (t1 && t2 && t3 && t4 && t5 && t6) ≡ true = and_left (good-counts s) _ g in
      let h5 : (t1 && t2 && t3 && t4 && t5) ≡ true = and_left (t1 && t2 && t3 && t4 && t5) t6 h6 in
      let h4 : (t1 && t2 && t3 && t4) ≡ true = and_left (t1 && t2 && t3 && t4) t5 h5 in
      let h3 : (t1 && t2 && t3) ≡ true = and_left (t1 && t2 && t3) t4 h4 in
      let h2 : (t1 && t2) ≡ true = and_left (t1 && t2) t3 h3 in
      record {
        some_id = leb-true _ _ (and_left t1 t2 h2);
        ids = leb-true _ _ (and_right t1 t2 h2);
        paints = leb-true _ _ (and_right (t1 && t2) t3 h3);
        layer-attrs = leb-true _ _ (and_right (t1 && t2 && t3) t4 h4);
        filters = leb-true _ _ (and_right (t1 && t2 && t3 && t4) t5 h5);
        deep = leb-true _ _ (and_right (t1 && t2 && t3 && t4 && t5) t6 h6);
      }

  pub good-clip-of : good_clip (box_of s.viewport) (box_of s.clip_bbox) s.layers ≡ true
  unfolding good_screen
  good-clip-of = and_right (good-counts s) _ g

  -- its clip box is the rules'
  pub clip-of : plans.box_of (state-of s) ≡ box_of s.clip_bbox
  unfolding state-of
  clip-of = clip-is _ _ s.layers good-clip-of

  -- a plan that leaves the layers as they are
  pub same-layers : (p : Plan) → p.layers ≡ (state-of s).layers
      → screen-after s p ≡ counted s p.next (length p.attrs.paints) (length p.attrs.layers) (length p.attrs.filters)
  unfolding screen-after state-of
  same-layers p e = rw (e, length-replicate s.layers (layer-in (box_of s.clip_bbox)), clip-is (box_of s.viewport) (box_of s.clip_bbox) s.layers good-clip-of)

-- how many there are of each
module _ (s : Screen) where
  pub paint-count : length (state-of s).attrs.paints ≡ s.paint_attrs
  unfolding state-of
  paint-count = length-replicate s.paint_attrs no-paint

  pub layer-attr-count : length (state-of s).attrs.layers ≡ s.layer_attrs
  unfolding state-of
  layer-attr-count = length-replicate s.layer_attrs no-layer

  pub filter-count : length (state-of s).attrs.filters ≡ s.filter_paints
  unfolding state-of
  filter-count = length-replicate s.filter_paints some-filter

  pub layer-count : length (state-of s).layers ≡ s.layers
  unfolding state-of
  layer-count = length-replicate s.layers (layer-in (box_of s.clip_bbox))

none_in : {A : Type 0} (n : ℕ) (x : A) → is-empty (replicate n x) ≡ eqb n 0
none_in zero x = refl
none_in (suc n) x = sym (ne_eqb (suc n) 0 (λ e. omega arith))

pub none_open : (s : Screen) → is-empty (state-of s).layers ≡ eqb s.layers 0
unfolding state-of
none_open s = none_in s.layers _
