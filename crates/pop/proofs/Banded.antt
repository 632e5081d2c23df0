-- A clip's segments outside the band's rows put nothing. Assumes nothing.
use Rattle.std.proofs.Common.{◌≡◌, refl, sym, ap, ◌∙◌, Bool, true, false, ◌&&◌, cond, List, [], ◌∷◌, Option, None, Some, ℕ, ◌-◌, ◌/◌, ◌≤◌, ◌<◌, arith, leb, ltb, eqb, length, leb-true, ltb-true, ltb-false}
use Rattle.std.proofs.lemmas.Bool.Decides.{nat_tests}
use Rattle.std.specs.declared.ops.Range.{Range}
use Rattle.rules.specs.Lists.{some_of, join, range}
use Rattle.rules.specs.Boxes.{Box}
use Rattle.rules.specs.Spans.{span, Stretch, cut_to}
use Rattle.rules.specs.Segments.{Segment, Cut, localised, cut_in, stretch-of}
use Rattle.rules.specs.Plans.{Frame, close-puts}
use Rattle.rules.proofs.All.{head, both}
use Rattle.span.specs.declared.TileSpan.{TileSpan}
use Rattle.row.specs.Words.{Words}
use Rattle.segments.specs.declared.Scene.{Scene}
use Rattle.segments.specs.Segs.{origin, bounds, Starts}
use Rattle.pop.specs.Closing.{touched-in, clip-puts, Clips}
use Rattle.pop.specs.Named.{in-scene, in-band, Among, OfBand}
use Rattle.pop.proofs.Touched.{below, above}
use Rattle.pop.proofs.Running.{cut-row}
use Rattle.pop.proofs.Clipping.{close-join}

-- a segment of which something is left lies on one of the box's rows
in-rows : (v b : Box) (s : Segment) (k : Cut) → k ∷ [] ≡ cut_in v b s → (leb b.y0 s.row && ltb s.row b.y1) ≡ true
unfolding cut_in
in-rows v b s k e = go (leb b.y0 s.row && ltb s.row b.y1) e
  where
    go : (t : Bool) → k ∷ [] ≡ localised v s.row (cond t (cut_to (span b.x0 b.x1) (stretch-of s)) None) → t ≡ true
    go true h = refl
    go false h = let z : ◌≡◌ {A = ℕ} 1 0 = ap length h in absurd (omega arith)

cut-at : (v b : Box) (s : Segment) (k : Cut) → k ∷ [] ≡ cut_in v b s → k.row ≡ s.row - v.y0 / 4
cut-at v b s k e = head (rw (← e) at (cut-row v b s))

pub cut-among : (e : Scene) (b : Range ℕ) (s : Segment) (k : Cut) → Among e b → k ∷ [] ≡ cut_in (origin e) (bounds e) s → (b.start ≤ k.row) × (k.row < b.«end»)
cut-among e b s k a h =
    let p = both (leb b.start (s.row - e.y / 4)) (ltb (s.row - e.y / 4) b.«end») (a s.row (in-rows (origin e) (bounds e) s k h)) in
    let q = cut-at (origin e) (bounds e) s k h in
    (omega (arith, q, leb-true b.start (s.row - e.y / 4) p.0), omega (arith, q, ltb-true (s.row - e.y / 4) b.«end» p.1))

-- a row outside the band is not touched
out : (n : ℕ) (rs : List Words) (a b x : ℕ) → (leb a x && ltb x b) ≡ false → some_of (eqb x) (touched-in n rs (range a b)) ≡ false
out n rs a b x h = go (ltb x a) refl
  where
    go : (t : Bool) → ltb x a ≡ t → some_of (eqb x) (touched-in n rs (range a b)) ≡ false
    go true e = below n rs (b - a) a x (ltb-true x a e)
    go false e =
        let l : a ≤ x = ltb-false x a e in
        let g : b ≤ x = grind (arith, nat_tests) in
        above n rs a b x g l

dropped : (v : Box) (row i : ℕ) (xs : List ℕ) (p q : Bool) (o : Option Stretch) → (q ≡ false → some_of (eqb (row - v.y0 / 4)) xs ≡ false)
    → close-puts i xs (localised v row (cond (p && q) o None)) ≡ close-puts i xs (localised v row (cond p o None))
unfolding close-puts
dropped v row i xs false q o f = refl
dropped v row i xs true true o f = refl
dropped v row i xs true false None f = refl
dropped v row i xs true false (Some k) f = rw (f refl)

module _ {e : Scene} {b : Range ℕ} {u : Scene} (o : OfBand e b u) (t : e.y / 4 ≤ e.rows.first) (n : ℕ) (rs : List Words) (i : ℕ) where
  abbrev xs : List ℕ
  xs = touched-in n rs (range b.start b.«end»)

  same-cut : (s : Segment) → close-puts i xs (cut_in (origin u) (bounds u) s) ≡ close-puts i xs (cut_in (origin e) (bounds e) s)
  unfolding cut_in
  same-cut s =
      let r = o.rows s.row t in
      let d = dropped (origin e) s.row i xs (in-scene e s.row) (in-band e b s.row) (cut_to (span e.columns.first e.columns.end) (stretch-of s)) (λ h. out n rs b.start b.«end» (s.row - e.y / 4) h) in
      rw (o.corner, o.columns, r) d

  pub same-puts : (ss : List Segment) → clip-puts i xs u ss ≡ clip-puts i xs e ss
  same-puts [] = refl
  same-puts (s ∷ ss) =
      close-join i xs (cut_in (origin u) (bounds u) s) (join (cut_in (origin u) (bounds u)) ss)
      ∙ rw (same-cut s, same-puts ss) (sym (close-join i xs (cut_in (origin e) (bounds e) s) (join (cut_in (origin e) (bounds e)) ss)))

  pub among : Among u b
  among r h =
      let p = both (in-scene e r) (in-band e b r) (sym (o.rows r t) ∙ h) in
      let y : u.y ≡ e.y = ap (λ (v : Box). v.y0) o.corner in
      rw y p.1

pub own-starts : {e : Scene} {b : Range ℕ} {u : Scene} → OfBand e b u → Starts (origin e) (bounds e) → Starts (origin u) (bounds u)
own-starts {e} {b} {u} o t =
    let x : u.x ≡ e.x = ap (λ (v : Box). v.x0) o.corner in
    let y : u.y ≡ e.y = ap (λ (v : Box). v.y0) o.corner in
    let c : u.columns.first ≡ e.columns.first = ap (λ (c : TileSpan). c.first) o.columns in
    record { left = rw (x, c) t.left; top = let p = t.top in let q = o.top in rw y (omega arith) }

pub own-ready : {f : Frame} {n k : ℕ} {ws : List ℕ} {i j : ℕ} {e : Scene} {b : Range ℕ} {w : Words} {u : Scene} → Clips f n k ws i j e b.start b.«end» w → OfBand e b u
    → Clips f n k ws i j u b.start b.«end» w
own-ready {f} {n} {k} {ws} {i} {j} {e} {b} {w} {u} v o =
    record {
      whole = v.whole;
      layers = v.layers;
      bottom = v.bottom;
      starts = own-starts o v.starts;
      before = v.before;
      within = v.within;
      good = v.good;
      room = rw (same-puts o v.starts.top n _ k _) v.room;
    }
