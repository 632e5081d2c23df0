-- Sections in another edition say the same recording.
use Rattle.std.proofs.Common.{ℕ, suc, ◌≤◌, arith, ◌≡◌, refl, sym, ap, ◌∙◌, Bool, true, false, ◌&&◌, List, [], ◌∷◌, map, length, get_or, drop, get_or-drop, eqb, eqb-true}
use Rattle.sizes.specs.Editions.{draw-size, layer-size}
use Rattle.sizes.specs.declared.edition.Edition.{Edition}
use Rattle.sizes.specs.declared.edition.Edition.TheVariants.{One, Two}
use Rattle.rules.specs.Lists.{every}
use Rattle.rules.specs.Boxes.{box}
use Rattle.rules.specs.Inputs.{Draw}
use Rattle.rules.specs.Recording.{LayerRec, good-count, shape, draw-rec, layer-rec, pixmap-of, recording}
use Rattle.rules.specs.Conversions.{resized, keeps, converted, all-kept}
use Rattle.rules.proofs.All.{both}
use Rattle.convert.specs.Written.{of-words, shaped}
use Rattle.convert.specs.Theorems.{no-panels}
use Rattle.convert.proofs.Parsing.{never}
use Rattle.convert.proofs.Resized.{resized-same, words-read, short, last-kept}

-- a draw and a layer, by what each of their words is read as
abbrev draw-read : (ℕ → ℕ) → Draw
draw-read f = record { thread = f 0; start = f 1; end = f 2; paint = f 3; blend = record { mix = f 4; compose = f 5 }; mask = f 6; panel = f 7 }

abbrev layer-read : (ℕ → ℕ) → LayerRec
layer-read f =
    record {
      kind = f 0;
      start = f 1;
      end = f 2;
      blend = record { mix = f 3; compose = f 4 };
      opacity = f 5;
      mask = f 6;
      flag = f 7;
      clip = record { bounds = box (f 8) (f 9) (f 10) (f 11); start = f 12; end = f 13; thread = f 14 };
      filter = record { pixmap = pixmap-of (f 15); dest = box (f 16) (f 17) (f 18) (f 19); source-x = f 20; source-y = f 21 };
      panel = f 22;
    }

module _ (r : List ℕ) where
  draw-reads : draw-rec r ≡ draw-read (λ i. get_or r i 0)
  draw-reads = rw (get_or-drop 4 r 0 0, get_or-drop 4 r 1 0) refl

  layer-reads : layer-rec r ≡ layer-read (λ i. get_or r i 0)
  layer-reads =
      rw (get_or-drop 3 r 0 0, get_or-drop 3 r 1 0)
      (rw (get_or-drop 8 r 0 0, get_or-drop 8 r 1 0, get_or-drop 8 r 2 0, get_or-drop 8 r 3 0)
      (rw (get_or-drop 16 r 0 0, get_or-drop 16 r 1 0, get_or-drop 16 r 2 0, get_or-drop 16 r 3 0) refl))

-- read alike where no word but 0 is cut away
module _ (k : ℕ) where
  draws-alike : (x : List (List ℕ)) → every (keeps k) x ≡ true → map draw-rec (map (resized k) x) ≡ map draw-rec x
  draws-alike [] h = refl
  draws-alike (r ∷ x) h =
      let b = both (keeps k r) (every (keeps k) x) h in
      let e : draw-rec (resized k r) ≡ draw-rec r = draw-reads (resized k r) ∙ ap draw-read (λ j i. words-read k i r b.0 j) ∙ sym (draw-reads r) in
      rw (e, draws-alike x b.1) refl

  layers-alike : (x : List (List ℕ)) → every (keeps k) x ≡ true → map layer-rec (map (resized k) x) ≡ map layer-rec x
  layers-alike [] h = refl
  layers-alike (r ∷ x) h =
      let b = both (keeps k r) (every (keeps k) x) h in
      let e : layer-rec (resized k r) ≡ layer-rec r = layer-reads (resized k r) ∙ ap layer-read (λ j i. words-read k i r b.0 j) ∙ sym (layer-reads r) in
      rw (e, layers-alike x b.1) refl

  -- records of the size itself stay, with nothing cut away
  all-same : (x : List (List ℕ)) → every (of-words k) x ≡ true → map (resized k) x ≡ x
  all-same [] h = refl
  all-same (r ∷ x) h =
      let b = both (of-words k r) (every (of-words k) x) h in
      let e : resized k r ≡ r = rw (eqb-true (length r) k b.0) at (resized-same r) in
      rw (e, all-same x b.1) refl

  all-kept-in : (m : ℕ) (x : List (List ℕ)) → m ≤ k → every (of-words m) x ≡ true → every (keeps k) x ≡ true
  all-kept-in m [] l h = refl
  all-kept-in m (r ∷ x) l h =
      let b = both (of-words m r) (every (of-words m) x) h in
      let e : length r ≤ k = omega (arith, eqb-true (length r) m b.0) in
      rw (short k r e, all-kept-in m x l b.1) refl

  -- the panel of a draw or a layer is the word that is cut away
  drawn-kept : k ≡ 7 → (x : List (List ℕ)) → every (of-words (suc k)) x ≡ true → every (keeps k) x ≡ every (λ (d : Draw). eqb d.panel 0) (map draw-rec x)
  drawn-kept z [] h = refl
  drawn-kept z (r ∷ x) h =
      let b = both (of-words (suc k) r) (every (of-words (suc k)) x) h in
      rw (last-kept k r (eqb-true (length r) (suc k) b.0), drawn-kept z x b.1, z)

  layered-kept : k ≡ 22 → (x : List (List ℕ)) → every (of-words (suc k)) x ≡ true → every (keeps k) x ≡ every (λ (l : LayerRec). eqb l.panel 0) (map layer-rec x)
  layered-kept z [] h = refl
  layered-kept z (r ∷ x) h =
      let b = both (of-words (suc k) r) (every (of-words (suc k)) x) h in
      rw (last-kept k r (eqb-true (length r) (suc k) b.0), layered-kept z x b.1, z)

-- seven sections, each of the records of its size
pub record Seven (d : Edition) (xs : List (List (List ℕ))) : Type 0 where
  pub viewport : List (List ℕ)
  pub paints : List (List ℕ)
  pub segments : List (List ℕ)
  pub draws : List (List ℕ)
  pub layers : List (List ℕ)
  pub nodes : List (List ℕ)
  pub root : List (List ℕ)
  pub same : xs ≡ viewport ∷ paints ∷ segments ∷ draws ∷ layers ∷ nodes ∷ root ∷ []
  pub of-viewport : every (of-words 4) viewport ≡ true
  pub of-paints : every (of-words 4) paints ≡ true
  pub of-segments : every (of-words 5) segments ≡ true
  pub of-draws : every (of-words (draw-size d)) draws ≡ true
  pub of-layers : every (of-words (layer-size d)) layers ≡ true
  pub of-nodes : every (of-words 3) nodes ≡ true
  pub of-root : every (of-words 2) root ≡ true

-- the first section of a shape, and the others
record Peeled (s : ℕ × Bool) (ss : List (ℕ × Bool)) (xs : List (List (List ℕ))) : Type 0 where
  one : List (List ℕ)
  others : List (List (List ℕ))
  same : xs ≡ one ∷ others
  of-one : every (of-words s.0) one ≡ true
  of-others : shaped ss others ≡ true

peel : (s : ℕ × Bool) (ss : List (ℕ × Bool)) (xs : List (List (List ℕ))) → shaped (s ∷ ss) xs ≡ true → Peeled s ss xs
unfolding shaped
peel s ss [] h = absurd (never h)
peel s ss (x ∷ xs) h =
    let b = both (good-count s.1 (length x) && every (of-words s.0) x) (shaped ss xs) h in
    record { one = x; others = xs; same = refl; of-one = (both (good-count s.1 (length x)) (every (of-words s.0) x) b.0).1; of-others = b.1 }

none : (xs : List (List (List ℕ))) → shaped [] xs ≡ true → xs ≡ []
unfolding shaped
none [] z = refl
none (x ∷ xs) z = absurd (never z)

before : (x : List (List ℕ)) {ys zs : List (List (List ℕ))} → ys ≡ zs → ◌≡◌ {A = List (List (List ℕ))} (x ∷ ys) (x ∷ zs)
before x e = ap (λ (l : List (List (List ℕ))). x ∷ l) e

module _ (d : Edition) where
  abbrev after : ℕ → List (ℕ × Bool)
  after n = drop n (shape d)

  pub seven : (xs : List (List (List ℕ))) → shaped (shape d) xs ≡ true → Seven d xs
  seven xs h =
      let v = peel (4, true) (after 1) xs h in
      let p = peel (4, false) (after 2) v.others v.of-others in
      let s = peel (5, false) (after 3) p.others p.of-others in
      let w = peel (draw-size d, false) (after 4) s.others s.of-others in
      let l = peel (layer-size d, false) (after 5) w.others w.of-others in
      let n = peel (3, false) (after 6) l.others l.of-others in
      let r = peel (2, true) [] n.others n.of-others in
      let last = n.same ∙ before n.one (r.same ∙ before r.one (none r.others r.of-others)) in
      record {
        viewport = v.one;
        paints = p.one;
        segments = s.one;
        draws = w.one;
        layers = l.one;
        nodes = n.one;
        root = r.one;
        same = v.same ∙ before v.one (p.same ∙ before p.one (s.same ∙ before s.one (w.same ∙ before w.one (l.same ∙ before l.one last))));
        of-viewport = v.of-one;
        of-paints = p.of-one;
        of-segments = s.of-one;
        of-draws = w.of-one;
        of-layers = l.of-one;
        of-nodes = n.of-one;
        of-root = r.of-one;
      }

  module _ (e : Edition) (xs : List (List (List ℕ))) (t : Seven d xs) where
    kept-parts : all-kept (shape e) xs ≡ true → (every (keeps (draw-size e)) t.draws ≡ true) × (every (keeps (layer-size e)) t.layers ≡ true)
    unfolding all-kept
    kept-parts h =
        let x = rw t.same at h in
        let a = both (every (keeps 4) t.viewport) _ x in
        let b = both (every (keeps 4) t.paints) _ a.1 in
        let c = both (every (keeps 5) t.segments) _ b.1 in
        let f = both (every (keeps (draw-size e)) t.draws) _ c.1 in
        let g = both (every (keeps (layer-size e)) t.layers) _ f.1 in
        (f.0, g.0)

    pub recorded-alike : all-kept (shape e) xs ≡ true → recording (converted (shape e) xs) ≡ recording xs
    unfolding converted recording
    recorded-alike h =
        let k = kept-parts h in
        rw t.same
        (rw (all-same 4 t.viewport t.of-viewport, all-same 4 t.paints t.of-paints, all-same 5 t.segments t.of-segments, all-same 3 t.nodes t.of-nodes, all-same 2 t.root t.of-root)
        (rw (draws-alike (draw-size e) t.draws k.0, layers-alike (layer-size e) t.layers k.1) refl))

-- to edition two nothing is cut away; to edition one the panels are
ended : (a b : Bool) → (a && (b && true)) ≡ (a && b)
ended true true = refl
ended true false = refl
ended false b = refl

module _ (xs : List (List (List ℕ))) where
  pub kept-in-two : Seven One xs → all-kept (shape Two) xs ≡ true
  unfolding all-kept
  kept-in-two t =
      rw t.same
      (rw (all-kept-in 4 4 t.viewport (omega arith) t.of-viewport, all-kept-in 4 4 t.paints (omega arith) t.of-paints, all-kept-in 5 5 t.segments (omega arith) t.of-segments)
      (rw (all-kept-in 8 7 t.draws (omega arith) t.of-draws, all-kept-in 23 22 t.layers (omega arith) t.of-layers, all-kept-in 3 3 t.nodes (omega arith) t.of-nodes, all-kept-in 2 2 t.root (omega arith) t.of-root) refl))

  pub kept-in-one : Seven Two xs → all-kept (shape One) xs ≡ no-panels (recording xs)
  unfolding all-kept recording
  kept-in-one t =
      rw t.same
      (rw (all-kept-in 4 4 t.viewport (omega arith) t.of-viewport, all-kept-in 4 4 t.paints (omega arith) t.of-paints, all-kept-in 5 5 t.segments (omega arith) t.of-segments)
      (rw (all-kept-in 3 3 t.nodes (omega arith) t.of-nodes, all-kept-in 2 2 t.root (omega arith) t.of-root)
      (rw (drawn-kept 7 refl t.draws t.of-draws, layered-kept 22 refl t.layers t.of-layers) (ended _ _))))
