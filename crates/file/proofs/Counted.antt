-- The rules' tests of a recording, by the counts of its sections.
use Rattle.std.proofs.Common.{ℕ, zero, suc, ◌<◌, arith, ◌≡◌, refl, ◌∙◌, Bool, true, false, ◌&&◌, List, [], ◌∷◌, length, get_or, ltb, ltb-true}
use Rattle.rules.specs.Lists.{every}
use Rattle.rules.specs.Segments.{Segment}
use Rattle.rules.specs.Blends.{good-blend}
use Rattle.rules.specs.Spans.{good-range}
use Rattle.rules.specs.Inputs.{Paint, good-paint, Draw, good-draw, draw-paint, good-thread, good-handle, good-panel}
use Rattle.rules.specs.Recording.{Recording, recording, good-records, good-layer-rec, good-node}
use Rattle.sizes.specs.Editions.{draw-size, layer-size}
use Rattle.file.specs.declared.form.Layout.{Layout}
use Rattle.file.specs.Each.{each}
use Rattle.file.specs.Layouts.{Fits, sections_at}
use Rattle.file.specs.Places.{paint_from, segment_from, draw_from, layer_from, node_from, recorded}
use Rattle.rules.proofs.All.{both}
use Rattle.file.proofs.Eaches.{each-length}
use Rattle.file.proofs.Reading.{reads}
use Rattle.file.specs.Counted.{paints-good, draws-good, layers-good, nodes-good, root-good, counted}
use Rattle.inputs.specs.Inputs.{draw_fields, clip_fields}
use Rattle.file.specs.Judging.{clip_part, filter_part, layer_fields, node_fields}

-- what a test says of every element, it says of each
pub every-getD : {A : Type 0} (test : A → Bool) (xs : List A) (i : ℕ) (d : A) → i < length xs → every test xs ≡ true → test (get_or xs i d) ≡ true
every-getD test [] i d h q = absurd (omega arith)
every-getD test (x ∷ xs) zero d h q = (both (test x) (every test xs) q).0
every-getD test (x ∷ xs) (suc i) d h q = every-getD test xs i d (omega arith) (both (test x) (every test xs) q).1

-- where every paint is good, a draw's own paint is good too
module _ (ps : List Paint) (ss : List Segment) (q : every good-paint ps ≡ true) where
  by_place : (d : Draw) (t : Bool) → ltb d.paint (length ps) ≡ t → (x y z u : Bool)
      → (x && t && good-paint (draw-paint ps d) && y && z && u) ≡ (x && t && y && z && u)
  by_place d true e true y z u = rw (every-getD good-paint ps d.paint (record { opaque = 0; handle = 0 }) (ltb-true _ _ e) q)
  by_place d true e false y z u = refl
  by_place d false e true y z u = refl
  by_place d false e false y z u = refl

  own-paint : (d : Draw) → good-draw ps ss d ≡ draw_fields (length ps) (length ss) d
  unfolding draw_fields
  own-paint d = by_place d _ refl (good-thread d.thread && good-range d.start d.end (length ss)) (good-blend d.blend) (good-handle d.mask) (good-panel d.panel)

  pub own-paints : (ds : List Draw) → every (good-draw ps ss) ds ≡ every (draw_fields (length ps) (length ss)) ds
  own-paints [] = refl
  own-paints (d ∷ ds) = rw (own-paint d, own-paints ds)

-- a layer and a node are judged by the counts alone
module _ (r : Recording) where
  by-layers : every (good-layer-rec r) r.layers ≡ every (layer_fields (length r.nodes) (length r.segments)) r.layers
  unfolding layer_fields clip_part clip_fields filter_part
  by-layers = refl

  by-nodes : every (good-node r) r.nodes ≡ every (node_fields (length r.draws) (length r.layers)) r.nodes
  unfolding node_fields
  by-nodes = refl

-- .. which are the tests by the counts of the layout
module _ (l : Layout) (ws : List ℕ) where
  draws-same : every good-paint (each paint_from 4 ws l.paints.at l.paints.count) ≡ true
      → every (good-draw (recorded l ws).paints (recorded l ws).segments) (recorded l ws).draws ≡ draws-good l ws
  unfolding recorded
  draws-same q =
      own-paints (recorded l ws).paints (recorded l ws).segments q (recorded l ws).draws
      ∙ rw (each-length paint_from 4 ws l.paints.at l.paints.count, each-length segment_from 5 ws l.segments.at l.segments.count)

  layers-same : every (good-layer-rec (recorded l ws)) (recorded l ws).layers ≡ layers-good l ws
  unfolding recorded
  layers-same =
      by-layers (recorded l ws)
      ∙ rw (each-length node_from 3 ws l.nodes.at l.nodes.count, each-length segment_from 5 ws l.segments.at l.segments.count)

  nodes-same : every (good-node (recorded l ws)) (recorded l ws).nodes ≡ nodes-good l ws
  unfolding recorded
  nodes-same =
      by-nodes (recorded l ws)
      ∙ rw (each-length (draw_from l.edition) (draw-size l.edition) ws l.draws.at l.draws.count, each-length (layer_from l.edition) (layer-size l.edition) ws l.layers.at l.layers.count)

  root-same : good-range (recorded l ws).start (recorded l ws).end (length (recorded l ws).nodes) ≡ root-good l ws
  unfolding recorded
  root-same = rw (each-length node_from 3 ws l.nodes.at l.nodes.count)

  by-paints : (t : Bool) → paints-good l ws ≡ t → good-records (recorded l ws) ≡ counted l ws
  unfolding counted good-records recorded
  by-paints true q = rw (q, draws-same q, layers-same, nodes-same, root-same)
  by-paints false q = rw q

  -- the draws' own paints are judged with all the others
  pub all-counted : Fits ws l → good-records (recording (sections_at l ws)) ≡ counted l ws
  all-counted f = rw (reads l ws f) (by-paints _ refl)
