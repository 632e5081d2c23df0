-- A judged recording's own steps are judged: its fills, the pushes and filter fills of its layers, its pops.
use Rattle.std.proofs.Common.{ℕ, zero, suc, ◌-◌, ◌*◌, ◌≤◌, arith, ◌≡◌, refl, sym, Bool, true, false, ◌&&◌, not, cond, List, [], ◌∷◌, Option, None, Some, option_map, length, get_or, drop, leb, eqb, leb-true, le-leb, eqb-true}
use lib.ListN.{length-map}
use Rattle.rules.specs.Lists.{every, slice}
use Rattle.rules.specs.Answers.{Done}
use Rattle.rules.specs.Boxes.{good-box}
use Rattle.rules.specs.Blends.{good-blend}
use Rattle.rules.specs.Segments.{Segment, good-segment, ordered, judge-segments}
use Rattle.rules.specs.Spans.{good-range}
use Rattle.rules.specs.Inputs.{Draw, Clip, draw-segments, good-paint, good-thread, good-handle, good-panel, few-paints, good-draw, good-fill, good-clip, all-good, good-filter}
use Rattle.rules.specs.Plans.{a-fill, clip-segments, clip-fits}
use Rattle.rules.specs.Recording.{Recording, LayerRec, layer-rec, File, shape, head, starts, good-count, records, sections, parsed, recording, good-records, good-order, good-clip-rec, good-layer-rec, good-node, good-clip-order, zero-clip, zero-filter}
use Rattle.rules.proofs.All.{All, nil, cons, never, both, and_left, and_both, all_take, all_drop, all_map, all_both, every-all}
use Rattle.rules.proofs.Follows.{OwnLayer, Owns}
use Rattle.refine_tile.proofs.Limited.{Judged}

-- what is known of a recording whose records and order are good; its paints are a section of a file
pub record Good (r : Recording) : Type 0 where
  pub records : good-records r ≡ true
  pub order : good-order r ≡ true
  pub paints : few-paints (length r.paints) ≡ true

-- a test of every element, of a part of them
module _ {A : Type 0} (p : A → Bool) where
  all-every : {xs : List A} → All (λ (x : A). p x ≡ true) xs → every p xs ≡ true
  all-every nil = refl
  all-every (cons {x} {xs} h a) = and_both (p x) (every p xs) h (all-every a)

  every-slice : (a b : ℕ) (xs : List A) → every p xs ≡ true → every p (slice a b xs) ≡ true
  every-slice a b xs e = all-every (all_take (b - a) (all_drop a (every-all p xs e)))

segments-good : (b : Bool) (ss : List Segment) → b ≡ true → every good-segment ss ≡ true → ordered ss ≡ true → judge-segments (not b) ss ≡ Done
unfolding judge-segments
segments-good b ss e f g = rw (e, f, g)

module _ (r : Recording) (segments : every good-segment r.segments ≡ true) (paints : few-paints (length r.paints) ≡ true) where
  draw-judged : (d : Draw) → (good-draw r.paints r.segments d ≡ true) × (ordered (draw-segments r.segments d) ≡ true) → Judged r (a-fill r.paints r.segments d)
  unfolding Judged
  draw-judged d h =
      segments-good (good-fill r.paints r.segments d) (draw-segments r.segments d) (and_both (few-paints (length r.paints)) _ paints h.0)
      (every-slice good-segment d.start d.end r.segments segments) h.1

  -- a layer's clip, where it is present
  clip-judged : (t : Bool) (c : Clip) → cond t (good-clip-rec r c) (zero-clip c) ≡ true → cond t (ordered (slice c.start c.end r.segments)) true ≡ true
      → (all-good (cond t (Some c) None) ≡ true)
      × (judge-segments (not (clip-fits (cond t (Some c) None) r.segments)) (clip-segments (cond t (Some c) None) r.segments) ≡ Done)
  unfolding judge-segments ordered
  clip-judged false c g o = (refl, refl)
  clip-judged true c g o =
      let e = leb c.end (length r.segments) in
      let h = both (good-clip c) e g in
      let k = both (good-box c.bounds && leb c.start c.end) (good-thread c.thread) h.0 in
      let l = both (good-box c.bounds) (leb c.start c.end) k.0 in
      (h.0, segments-good (good-range c.start c.end (length r.segments)) (slice c.start c.end r.segments) (and_both (leb c.start c.end) e l.1 h.1) (every-slice good-segment c.start c.end r.segments segments) o)

  layer-judged : (y : LayerRec) → (good-layer-rec r y ≡ true) × (good-clip-order r y ≡ true) → OwnLayer (Judged r) r y
  unfolding Judged
  layer-judged y (g, o) =
      let k = leb y.kind 1 in
      let n = good-range y.start y.end (length r.nodes) in
      let b = good-blend y.blend in
      let m = good-handle y.mask in
      let f = leb y.flag 1 in
      let c = cond (eqb y.flag 1) (good-clip-rec r y.clip) (zero-clip y.clip) in
      let x = cond (eqb y.kind 1) (good-filter y.filter) (zero-filter y.filter) in
      let h6 = both (k && n && b && m && f && c && x) (good-panel y.panel) g in
      let h5 = both (k && n && b && m && f && c) x h6.0 in
      let h4 = both (k && n && b && m && f) c h5.0 in
      let h3 = both (k && n && b && m) f h4.0 in
      let h2 = both (k && n && b) m h3.0 in
      let h1 = both (k && n) b h2.0 in
      let q = clip-judged (eqb y.flag 1) y.clip h4.1 o in
      record {
        push = (rw (h1.1, h2.1, q.0, h6.1), q.1);
        filter = λ e. let z : good-filter y.filter ≡ true = rw e at h5.1 in rw (z, paints, h6.1);
      }

  none-judged : OwnLayer (Judged r) r (layer-rec [])
  unfolding Judged judge-segments ordered
  none-judged = record { push = (refl, refl); filter = λ e. never (sym e) }

pub owned : (r : Recording) → Good r → Owns (Judged r) r
unfolding good-records good-order Judged
owned r good =
    let p = every good-paint r.paints in
    let s = every good-segment r.segments in
    let d = every (good-draw r.paints r.segments) r.draws in
    let y = every (good-layer-rec r) r.layers in
    let n = every (good-node r) r.nodes in
    let h4 = and_left (p && s && d && y && n) (good-range r.start r.end (length r.nodes)) good.records in
    let h3 = and_left (p && s && d && y) n h4 in
    let h2 = both (p && s && d) y h3 in
    let h1 = both (p && s) d h2.0 in
    let h0 = both p s h1.0 in
    let order = both (every (λ (d : Draw). ordered (draw-segments r.segments d)) r.draws) (every (good-clip-order r) r.layers) good.order in
    record {
      fills = all_map (draw-judged r h0.1 good.paints) (all_both (every-all _ r.draws h1.1) (every-all _ r.draws order.0));
      layers = all_map (layer-judged r h0.1 good.paints) (all_both (every-all _ r.layers h2.1) (every-all _ r.layers order.1));
      no-layer = none-judged r h0.1 good.paints;
      pops = refl;
    }

-- A file's sections have at most 4,096 records each.
abbrev Short : List (List ℕ) → Type 0
Short x = length x ≤ 4096

abbrev Sections : Option (List (List (List ℕ))) → Type 0
Sections None = Unit {0}
Sections (Some ss) = All Short ss

count-few : (b : Bool) (n : ℕ) → good-count b n ≡ true → n ≤ 4096
count-few true n h = omega (arith, eqb-true n 1 h)
count-few false n h = leb-true n 4096 h

records-count : (k n : ℕ) (ws : List ℕ) → length (records k n ws) ≡ n
records-count k zero ws = refl
records-count k (suc n) ws = rw (records-count k n (drop k ws))

sections-more : (x : List (List ℕ)) → Short x → (o : Option (List (List (List ℕ)))) → Sections o → Sections (option_map (λ xs. x ∷ xs) o)
sections-more x h None a = tt
sections-more x h (Some ss) a = cons h a

sections-short : (sh : List (ℕ × Bool)) (ws : List ℕ) → Sections (sections sh ws)
unfolding sections
sections-short [] [] = nil
sections-short [] (n ∷ ws) = tt
sections-short (s ∷ sh) [] = tt
sections-short (s ∷ sh) (n ∷ ws) = go (good-count s.1 n && leb (n * s.0) (length ws)) refl (sections-short sh (drop (n * s.0) ws))
  where
    go : (b : Bool) → (good-count s.1 n && leb (n * s.0) (length ws)) ≡ b → Sections (sections sh (drop (n * s.0) ws))
        → Sections (elim b [ true ↦ option_map (λ xs. records s.0 n ws ∷ xs) (sections sh (drop (n * s.0) ws)) | false ↦ None ])
    go true q h =
        let few = count-few s.1 n (and_left (good-count s.1 n) (leb (n * s.0) (length ws)) q) in
        sections-more (records s.0 n ws) (rw (records-count s.0 n ws) few) (sections sh (drop (n * s.0) ws)) h
    go false q h = tt

parsed-short : (f : File) → Sections (parsed f)
unfolding parsed
parsed-short f = go (starts (head f.edition) f.words)
  where
    go : (b : Bool) → Sections (cond b (sections (shape f.edition) (drop (length (head f.edition)) f.words)) None)
    go true = sections-short (shape f.edition) (drop (length (head f.edition)) f.words)
    go false = tt

short-at : {xs : List (List (List ℕ))} → All Short xs → (i : ℕ) → length (get_or xs i []) ≤ 4096
short-at nil i = omega arith
short-at (cons p a) zero = p
short-at (cons p a) (suc i) = short-at a i

-- so that a file's paints are few
pub paints-few : (f : File) (ss : List (List (List ℕ))) → parsed f ≡ Some ss → few-paints (length (recording ss).paints) ≡ true
unfolding recording
paints-few f ss e =
    let a : All Short ss = rw e at (parsed-short f) in
    let h = short-at a 1 in
    rw length-map (le-leb _ 4096 h)
