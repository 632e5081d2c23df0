-- What good records say of the lists whose order is asked, and the order by sections.
use Rattle.std.proofs.Common.{ℕ, ◌/◌, ◌≡◌, refl, sym, ◌∙◌, Bool, true, false, ◌&&◌, List, [], ◌∷◌, length, leb, ltb, eqb}
use Rattle.rules.specs.Lists.{every}
use Rattle.rules.specs.Boxes.{good-box}
use Rattle.rules.specs.Blends.{good-blend}
use Rattle.rules.specs.Segments.{good-segment}
use Rattle.rules.specs.Spans.{good-range}
use Rattle.rules.specs.Inputs.{Draw, Clip, good-thread, good-handle, good-panel}
use Rattle.rules.specs.Recording.{LayerRec, recording, good-records, good-order}
use Rattle.segments.specs.Segs.{segs-of}
use Rattle.file.specs.declared.form.Layout.{Layout}
use Rattle.file.specs.Layouts.{Fits, sections_at}
use Rattle.file.specs.Places.{draws-at, layers-at, recorded}
use Rattle.rules.proofs.All.{both}
use Rattle.file.proofs.Reading.{reads}
use Rattle.inputs.specs.Inputs.{draw_fields, clip_fields}
use Rattle.file.specs.Judging.{clip_part, filter_part, layer_fields, draw_range, clip_range, draw_ordered, clip_ordered}
use Rattle.file.specs.Counted.{paints-good, segments-good, draws-good, layers-good, nodes-good, root-good, counted}
use Rattle.file.proofs.Counted.{all-counted}
use Rattle.file.proofs.Listed.{lent, lent-count, lent-segments}

every-too : {A : Type 0} (p q : A → Bool) → ((x : A) → p x ≡ true → q x ≡ true) → (xs : List A) → every p xs ≡ true → every q xs ≡ true
every-too p q h [] e = refl
every-too p q h (x ∷ xs) e =
    let b = both (p x) (every p xs) e in
    rw (h x b.0) (every-too p q h xs b.1)

draw-in : (paints segments : ℕ) (d : Draw) → draw_fields paints segments d ≡ true → draw_range segments d ≡ true
unfolding draw_fields draw_range
draw-in paints segments d e =
    let t = good-thread d.thread in
    let r = good-range d.start d.end segments in
    let p = ltb d.paint paints in
    let b = good-blend d.blend in
    let m = good-handle d.mask in
    let h5 = both (t && r && p && b && m) (good-panel d.panel) e in
    let h4 = both (t && r && p && b) m h5.0 in
    let h3 = both (t && r && p) b h4.0 in
    let h2 = both (t && r) p h3.0 in
    (both t r h2.0).1

by-clip : (segments : ℕ) (c : Clip) → clip_fields segments c ≡ true → good-range c.start c.end segments ≡ true
unfolding clip_fields
by-clip segments c e =
    let b = good-box c.bounds in
    let o = leb c.start c.end in
    let h3 = both (b && o && good-thread c.thread) (leb c.end segments) e in
    let h2 = both (b && o) (good-thread c.thread) h3.0 in
    let h1 = both b o h2.0 in
    rw (h1.1, h3.1)

by_flag : (segments : ℕ) (y : LayerRec) (t : Bool) → eqb y.flag 1 ≡ t → clip_part segments y ≡ true → clip_range segments y ≡ true
unfolding clip_part clip_range
by_flag segments y true q e = rw q (by-clip segments y.clip (rw q at e))
by_flag segments y false q e = rw q

clip-in : (nodes segments : ℕ) (y : LayerRec) → layer_fields nodes segments y ≡ true → clip_range segments y ≡ true
unfolding layer_fields
clip-in nodes segments y e =
    let k = leb y.kind 1 in
    let r = good-range y.start y.end nodes in
    let b = good-blend y.blend in
    let m = good-handle y.mask in
    let g = leb y.flag 1 in
    let h7 = both (k && r && b && m && g && clip_part segments y && filter_part y) (good-panel y.panel) e in
    let h6 = both (k && r && b && m && g && clip_part segments y) (filter_part y) h7.0 in
    let h5 = both (k && r && b && m && g) (clip_part segments y) h6.0 in
    by_flag segments y _ refl h5.1

-- what good records say of the lent segments xs, the draws and the layers
pub record OrdersReady (l : Layout) (ws xs : List ℕ) : Type 0 where
  pub draws : every (draw_range (length xs / 5)) (draws-at ws l) ≡ true
  pub layers : every (clip_range (length xs / 5)) (layers-at ws l) ≡ true
  pub segments : every good-segment (segs-of xs) ≡ true

module _ {l : Layout} {ws : List ℕ} (f : Fits ws l) (g : good-records (recording (sections_at l ws)) ≡ true) where
  pub ready : OrdersReady l ws (lent ws l.segments.at l.segments.count)
  unfolding counted
  ready =
      let h5 = both (paints-good l ws && segments-good l ws && draws-good l ws && layers-good l ws && nodes-good l ws) (root-good l ws) (sym (all-counted l ws f) ∙ g) in
      let h4 = both (paints-good l ws && segments-good l ws && draws-good l ws && layers-good l ws) (nodes-good l ws) h5.0 in
      let h3 = both (paints-good l ws && segments-good l ws && draws-good l ws) (layers-good l ws) h4.0 in
      let h2 = both (paints-good l ws && segments-good l ws) (draws-good l ws) h3.0 in
      let h1 = both (paints-good l ws) (segments-good l ws) h2.0 in
      record {
        draws = rw (lent-count ws l.segments.at l.segments.count f.segments.ends) (every-too _ _ (draw-in l.paints.count l.segments.count) (draws-at ws l) h2.1);
        layers = rw (lent-count ws l.segments.at l.segments.count f.segments.ends) (every-too _ _ (clip-in l.nodes.count l.segments.count) (layers-at ws l) h3.1);
        segments = rw (lent-segments ws l.segments.at l.segments.count f.segments.ends) h1.1;
      }

-- the order by sections
module _ {l : Layout} {ws : List ℕ} (f : Fits ws l) where
  by-sections : good-order (recorded l ws)
      ≡ (every (draw_ordered (recorded l ws).segments) (recorded l ws).draws && every (clip_ordered (recorded l ws).segments) (recorded l ws).layers)
  unfolding good-order draw_ordered clip_ordered
  by-sections = refl

  orders : good-order (recording (sections_at l ws))
      ≡ (every (draw_ordered (segs-of (lent ws l.segments.at l.segments.count))) (draws-at ws l)
      && every (clip_ordered (segs-of (lent ws l.segments.at l.segments.count))) (layers-at ws l))
  unfolding recorded
  orders = rw (reads l ws f, lent-segments ws l.segments.at l.segments.count f.segments.ends) by-sections

  pub bad-draw-order : every (draw_ordered (segs-of (lent ws l.segments.at l.segments.count))) (draws-at ws l) ≡ false
      → false ≡ good-order (recording (sections_at l ws))
  bad-draw-order d = rw (orders, d)

  pub clips-left : every (draw_ordered (segs-of (lent ws l.segments.at l.segments.count))) (draws-at ws l) ≡ true
      → every (clip_ordered (segs-of (lent ws l.segments.at l.segments.count))) (layers-at ws l) ≡ good-order (recording (sections_at l ws))
  clips-left d = rw (orders, d)
