-- The recording of a layout's sections, read off the words place by place.
use Rattle.std.proofs.Common.{ℕ, zero, suc, refl, ◌∷◌, ◌+◌, ◌-◌, ◌*◌, ◌≤◌, add-zero, add_assoc, arith, ◌≡◌, sym, ap, ◌∙◌, true, List, [], length, get_or, take, drop, length-take, length-drop, get_or-take, get_or-drop, ltb, ltb-true}
use Rattle.sizes.specs.Editions.{draw-size, layer-size}
use Rattle.sizes.specs.declared.edition.Edition.{Edition}
use Rattle.sizes.specs.declared.edition.Edition.TheVariants.{One, Two}
use Rattle.rules.specs.Recording.{records, recording, Recording, paint-rec, segment-rec, draw-rec, layer-rec, node-rec}
use Rattle.rules.specs.Boxes.{box}
use Rattle.file.specs.declared.form.Layout.{Layout}
use Rattle.file.specs.Each.{each}
use Rattle.file.specs.Layouts.{Fits, sections_at}
use Rattle.file.specs.Places.{word, paint_from, segment_from, draw_from, clip_from, filter_from, layer_from, node_from, recorded}
use Rattle.file.proofs.Eaches.{each-record, each_part}

-- word i of a record of k words that stands at place p
cell : (k p : ℕ) (ws : List ℕ) (i : ℕ) → ltb i k ≡ true → get_or (take k (drop p ws)) i 0 ≡ get_or ws (p + i) 0
cell k p ws i h = get_or-take k (drop p ws) i 0 (ltb-true i k h) ∙ get_or-drop p ws i 0

-- no word stands behind them
no-cell : (k : ℕ) (xs : List ℕ) → get_or (take k xs) k 0 ≡ 0
no-cell zero [] = refl
no-cell zero (x ∷ xs) = refl
no-cell (suc k) [] = refl
no-cell (suc k) (x ∷ xs) = no-cell k xs

module _ (ws : List ℕ) (p : ℕ) where
  paint-cut : paint-rec (take 4 (drop p ws)) ≡ paint_from ws p
  unfolding paint_from
  paint-cut = simp (cell, add-zero)

  segment-cut : segment-rec (take 5 (drop p ws)) ≡ segment_from ws p
  unfolding segment_from
  segment-cut = simp (cell, add-zero)

  draw-cut : (e : Edition) → draw-rec (take (draw-size e) (drop p ws)) ≡ draw_from e ws p
  unfolding draw_from
  draw-cut One = simp (get_or-drop, cell, no-cell, add-zero)
  draw-cut Two = simp (get_or-drop, cell, add-zero)

  layer-cut : (e : Edition) → layer-rec (take (layer-size e) (drop p ws)) ≡ layer_from e ws p
  unfolding layer_from clip_from filter_from
  layer-cut One = simp (get_or-drop, cell, no-cell, add-zero)
  layer-cut Two = simp (get_or-drop, cell, add-zero)

  node-cut : node-rec (take 3 (drop p ws)) ≡ node_from ws p
  unfolding node_from
  node-cut = simp (cell, add-zero)

-- the one record of a section of one record
only-cut : (k p n : ℕ) (ws : List ℕ) → n ≡ 1 → get_or (records k n (drop p ws)) 0 [] ≡ take k (drop p ws)
only-cut k p n ws e = rw e

module _ (l : Layout) (ws : List ℕ) (f : Fits ws l) where
  pub reads : recording (sections_at l ws) ≡ recorded l ws
  unfolding recording sections_at recorded
  reads =
      rw (
        each-record paint_from 4 ws paint-rec (paint-cut ws) l.paints.at l.paints.count,
        each-record segment_from 5 ws segment-rec (segment-cut ws) l.segments.at l.segments.count,
        each-record (draw_from l.edition) (draw-size l.edition) ws draw-rec (λ p. draw-cut ws p l.edition) l.draws.at l.draws.count,
        each-record (layer_from l.edition) (layer-size l.edition) ws layer-rec (λ p. layer-cut ws p l.edition) l.layers.at l.layers.count,
        each-record node_from 3 ws node-rec (node-cut ws) l.nodes.at l.nodes.count,
        only-cut 4 l.viewport.at l.viewport.count ws f.one-viewport,
        only-cut 2 l.root.at l.root.count ws f.one-root,
      )
      (simp (cell, add-zero))

-- the recording of a layout, section by section
module _ (l : Layout) (ws : List ℕ) (f : Fits ws l) where
  abbrev held : Recording
  held = recording (sections_at l ws)

  pub viewport-is : held.viewport ≡ box (get_or ws l.viewport.at 0) (word ws l.viewport.at 1) (word ws l.viewport.at 2) (word ws l.viewport.at 3)
  unfolding recorded
  viewport-is = ap (λ (r : Recording). r.viewport) (reads l ws f)

  pub paints-are : held.paints ≡ each paint_from 4 ws l.paints.at l.paints.count
  unfolding recorded
  paints-are = ap (λ (r : Recording). r.paints) (reads l ws f)

  pub segments-are : held.segments ≡ each segment_from 5 ws l.segments.at l.segments.count
  unfolding recorded
  segments-are = ap (λ (r : Recording). r.segments) (reads l ws f)

-- a paint reads only its own words
near-paint : (ws : List ℕ) (a m i : ℕ) → i + 4 ≤ m → paint_from (take m (drop a ws)) i ≡ paint_from ws (a + i)
unfolding paint_from
near-paint ws a m i h =
    rw (get_or-take m (drop a ws) i 0 (omega arith), get_or-drop a ws i 0, get_or-take m (drop a ws) (i + 1) 0 (omega arith), get_or-drop a ws (i + 1) 0, add_assoc a i 1)

-- the paint section, lent as a part of the words from a to a + 4 * n, is a list of the recording's paints, four words each
module _ (l : Layout) (ws : List ℕ) (f : Fits ws l) where
  abbrev pub lent-paints : List ℕ
  lent-paints = take (l.paints.at + 4 * l.paints.count - l.paints.at) (drop l.paints.at ws)

  pub paints-width : length lent-paints ≡ 4 * l.paints.count
  paints-width = let h = f.paints.ends in simp (length-take, length-drop) (omega arith)

  pub paints-part : each paint_from 4 lent-paints 0 l.paints.count ≡ (recording (sections_at l ws)).paints
  paints-part =
      each_part paint_from 4 ws l.paints.at (l.paints.at + 4 * l.paints.count - l.paints.at) (near-paint ws l.paints.at _) l.paints.count (omega arith)
      ∙ sym (paints-are l ws f)
