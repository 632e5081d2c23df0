-- A run of segments on one row: on the row's words it is one change of the screen's rows. Assumes nothing.
use Rattle.std.proofs.Common.{◌≡◌, refl, sym, ap, ◌∙◌, Bool, true, false, ◌&&◌, cond, List, [], ◌∷◌, ◌++◌, append_assoc, Option, None, Some, ℕ, zero, suc, ◌+◌, ◌-◌, ◌*◌, ◌/◌, ◌≤◌, ◌<◌, arith, leb, ltb}
use Rattle.std.proofs.Common.{eqb, length, get_or, take, drop, leb-true, ltb-true, ltb-false, ne_eqb, eqb-true}
use Rattle.std.proofs.lemmas.Bool.Decides.{nat_tests}
use borrow.Rule.Slice.PartMut.{put_mid}
use borrow.Author.Tests.{eqb-false}
use Rattle.rules.specs.Lists.{join, every, change, times}
use Rattle.rules.specs.Boxes.{Box}
use Rattle.rules.specs.Spans.{span, Stretch, moved, shifted, cut_to}
use Rattle.rules.specs.Segments.{Segment, Cut, good-segment, alpha-of, stretch-of, localised, on_row, cut_in}
use Rattle.rules.specs.Commands.{paint-fill}
use Rattle.rules.specs.Plans.{Put, draw-puts}
use Rattle.rules.specs.Steps.{do-puts}
use Rattle.rules.proofs.All.{All, nil, cons, all_append, both}
use Rattle.rules.proofs.laws.Changes.{change-same}
use Rattle.sizes.specs.Widths.{bucket-tiles}
use Rattle.row.specs.Words.{Words, words, word, put_buf, put_command, Room, Grown}
use Rattle.row.specs.Cmds.{Short}
use Rattle.row.proofs.WordsLaws.{cmd-levels, buf-levels, buf-grown}
use Rattle.row.specs.Acts.{ensured}
use Rattle.row.proofs.ActsLaws.{Sound, sound-trans, same-sound, room_after, ensured-sound, first_room, drawn-sound, drawn-alpha}
use Rattle.row.specs.declared.rows.Place.{Place}
use Rattle.row.specs.Arena.{nowhere, sizes, cut, Long, Stands}
use Rattle.row.proofs.RowsLaws.{cut-length, lent, back}
use Rattle.segments.specs.Segs.{seg-at, segs, origin, bounds}
use Rattle.segments.proofs.Laws.{segs-end, segs-first, good-first, good-rest, landed}
use Rattle.segments.proofs.Cutting.{left_in}
use Rattle.fill.specs.declared.rows.FillJob.{FillJob}
use Rattle.fill.specs.Filling.{draws, puts_of, puts, done, draw-all, cuts-of, run_of, OnRow, Roomy, one_more, FillReady, RunReady}
use Rattle.fill.proofs.RowsLaws.{puts-join, done-append, room-one, room-more, Filling}

-- what is left of a segment
pub record Piece (v b : Box) (g : Segment) (k : Cut) : Type 0 where
  pub row : k.row ≡ g.row - v.y0 / 4
  pub low : b.y0 ≤ g.row
  pub high : g.row < b.y1
  pub shift : ℕ
  pub alpha : k.stretch.alpha ≡ moved (alpha-of g) shift

module _ (v b : Box) (g : Segment) (k : Cut) where
  none_left : {P : Type 0} → k ∷ [] ≡ [] → P
  none_left e = let z : ◌≡◌ {A = ℕ} 1 0 = ap length e in absurd (omega arith)

  by_rows : (t : Bool) → (leb b.y0 g.row && ltb g.row b.y1) ≡ t
      → (m : Option Stretch) → m ≡ cut_to (span b.x0 b.x1) (stretch-of g)
      → k ∷ [] ≡ localised v g.row (cond t m None) → Piece v b g k
  by_rows true q (Some l) p e =
      let h = both (leb b.y0 g.row) (ltb g.row b.y1) q in
      let i : k ≡ record { row = g.row - v.y0 / 4; stretch = shifted (v.x0 / 4) l } = cc in
      rw i (record { row = refl; low = leb-true _ _ h.0; high = ltb-true _ _ h.1; shift = l.tiles.first - g.first; alpha = (left_in (span b.x0 b.x1) (stretch-of g) l p).index })
  by_rows true q None p e = none_left e
  by_rows false q m p e = none_left e

  pub piece : k ∷ [] ≡ cut_in v b g → Piece v b g k
  unfolding cut_in
  piece e = by_rows _ refl _ refl e

-- of a segment that is not solid, an alpha index is left
record Indexed (k : Cut) : Type 0 where
  at : ℕ
  is : k.stretch.alpha ≡ Some at

index-left : (v b : Box) (g : Segment) (k : Cut) → (g.kind ≡ 0 → ⊥) → k ∷ [] ≡ cut_in v b g → Indexed k
index-left v b g k n e =
    let p = piece v b g k e in
    record { at = g.alpha + 16 * p.shift; is = rw (ne_eqb g.kind 0 n) at p.alpha }

-- one row changed twice
module _ {A : Type 0} where
  change-twice : (f g : A → A) (r : ℕ) (xs : List A) → change f r (change g r xs) ≡ change (λ (x : A). f (g x)) r xs
  change-twice f g zero [] = refl
  change-twice f g (suc r) [] = refl
  change-twice f g zero (x ∷ xs) = refl
  change-twice f g (suc r) (x ∷ xs) = ap (λ (t : List A). x ∷ t) (change-twice f g r xs)

  change-none : (r : ℕ) (xs : List A) → change (λ (x : A). x) r xs ≡ xs
  change-none zero [] = refl
  change-none (suc r) [] = refl
  change-none zero (x ∷ xs) = refl
  change-none (suc r) (x ∷ xs) = ap (λ (t : List A). x ∷ t) (change-none r xs)

-- cut segments on row r
abbrev AllOn : ℕ → List Cut → Type 0
AllOn r ks = All (λ (k : Cut). k.row ≡ r) ks

module _ (j : FillJob) where
  -- .. come to one change
  one-change : (r : ℕ) {ks : List Cut} → AllOn r ks → (rs : List Words) → done j (puts_of j ks) rs ≡ change (draw-all j ks) r rs
  unfolding do-puts draw-puts
  one-change r nil rs = sym (change-none r rs)
  one-change r (cons {x = k} {xs = ks} e a) rs =
      one-change r a (change (draws j k.stretch.tiles k.stretch.alpha) k.row rs)
      ∙ rw e (change-twice (draw-all j ks) (draws j k.stretch.tiles k.stretch.alpha) r rs)

  draw-append : (ks ls : List Cut) (w : Words) → draw-all j (ks ++ ls) w ≡ draw-all j ls (draw-all j ks w)
  draw-append [] ls w = refl
  draw-append (k ∷ ks) ls w = draw-append ks ls (draws j k.stretch.tiles k.stretch.alpha w)

  draw-sound : j.layers ≤ 16 → (ks : List Cut) (w : Words) → length w.state ≡ 54 → word 5 w ≤ 16 → Sound w (draw-all j ks w)
  draw-sound m [] w l k = same-sound w l k
  draw-sound m (c ∷ cs) w l k =
      let s = drawn-sound (bucket-tiles j.width) j.layers j.attr j.id c.stretch.tiles w l k m j.eligible c.stretch.alpha in
      sound-trans s (draw-sound m cs (draws j c.stretch.tiles c.stretch.alpha w) (s.grown.state ∙ l) s.levels)

-- the layers that a row lacks
bufs-level : (i : ℕ) (w : Words) → length w.state ≡ 54 → word 5 w + i ≤ 16 → word 5 (times i put_buf w) ≡ word 5 w + i
bufs-level zero w l h = omega arith
bufs-level (suc i) w l h =
    let e = buf-levels w l (omega arith) in
    bufs-level i (put_buf w) ((buf-grown w l (omega arith)).state ∙ l) (omega arith) ∙ omega (arith, e)

all-layers : (n : ℕ) (w : Words) → n ≤ 16 → length w.state ≡ 54 → word 5 w ≤ 16 → n ≤ word 5 (ensured n w)
all-layers n w m l k = omega (arith, bufs-level (n - word 5 w) w l (omega arith))

no_more : (n : ℕ) (w : Words) → n ≤ word 5 w → ensured n w ≡ w
no_more n w h = let z : n - word 5 w ≡ 0 = omega arith in rw z

-- rule 4 leaves at most one
one_left : (v : Box) (r : ℕ) (m : Option Stretch) → length (localised v r m) ≤ 1
one_left v r None = omega arith
one_left v r (Some k) = omega arith

pub at_most_one : (v b : Box) (g : Segment) → length (cut_in v b g) ≤ 1
unfolding cut_in
at_most_one v b g = one_left v g.row (on_row b g (cut_to (span b.x0 b.x1) (stretch-of g)))

-- the segments of a list in two parts
join-append : (f : Segment → List Cut) (xs ys : List Segment) → join f (xs ++ ys) ≡ join f xs ++ join f ys
join-append f [] ys = refl
join-append f (x ∷ xs) ys = rw (join-append f xs ys) (sym (append_assoc (f x) (join f xs) (join f ys)))

module _ (ws : List ℕ) where
  segs-split : (k m i x n : ℕ) → n ≡ k + m → x ≡ i + k → segs ws i n ≡ segs ws i k ++ segs ws x m
  unfolding segs
  segs-split zero m i x n p q = let a : n ≡ m = omega arith in let b : x ≡ i = omega arith in rw (a, b)
  segs-split (suc k) m i x zero p q = absurd (omega arith)
  segs-split (suc k) m i x (suc n) p q = ap (λ (t : List Segment). seg-at ws i ∷ t) (segs-split k m (i + 1) x n (omega arith) (omega arith))

  segs-parts : (a t b : ℕ) → a ≤ t → t ≤ b → segs ws a (b - a) ≡ segs ws a (t - a) ++ segs ws t (b - t)
  segs-parts a t b h g = segs-split (t - a) (b - t) a t (b - a) (omega arith) (omega arith)

  segs-one : (i : ℕ) → segs ws i (i + 1 - i) ≡ seg-at ws i ∷ []
  segs-one i = segs-first ws i (i + 1) (omega arith) ∙ ap (λ (t : List Segment). seg-at ws i ∷ t) (segs-end ws (i + 1) (i + 1) (omega arith))

  pub good-each : (k a b : ℕ) → b ≤ a + k → every good-segment (segs ws a (b - a)) ≡ true → (i : ℕ) → a ≤ i → i < b → good-segment (seg-at ws i) ≡ true
  good-each zero a b h g i p q = absurd (omega arith)
  good-each (suc k) a b h g i p q = go (eqb a i) refl (λ z. good-each k (a + 1) b (omega arith) (good-rest ws a b (omega arith) g) i (omega (arith, z)) q)
    where
      go : (t : Bool) → eqb a i ≡ t → ((a ≡ i → ⊥) → good-segment (seg-at ws i) ≡ true) → good-segment (seg-at ws i) ≡ true
      go true e f = rw (eqb-true a i e) at (good-first ws a b (omega arith) g)
      go false e f = f (eqb-false a i e)

module _ (j : FillJob) (ws : List ℕ) where
  cuts-parts : (a t b : ℕ) → a ≤ t → t ≤ b → cuts-of j ws a b ≡ cuts-of j ws a t ++ cuts-of j ws t b
  cuts-parts a t b h g = rw (segs-parts ws a t b h g) (join-append (cut_in (origin j.scene) (bounds j.scene)) (segs ws a (t - a)) (segs ws t (b - t)))

  cuts-one : (i : ℕ) → cuts-of j ws i (i + 1) ≡ cut_in (origin j.scene) (bounds j.scene) (seg-at ws i) ++ []
  cuts-one i = rw (segs-one ws i)

  -- those of a row stand on one row of the screen
  on_one : (k a b row : ℕ) → b ≤ a + k → OnRow ws row a b → AllOn (row - j.scene.y / 4) (cuts-of j ws a b)
  on_one zero a b row h o = rw (segs-end ws a b (omega arith)) nil
  on_one (suc k) a b row h o = go (ltb a b) refl (λ g. on_one k (a + 1) b row (omega arith) (λ i p q. o i (omega arith) q))
    where
      own : a < b → (ks : List Cut) → ks ≡ cut_in (origin j.scene) (bounds j.scene) (seg-at ws a) → length ks ≤ 1 → AllOn (row - j.scene.y / 4) ks
      own g [] e l = nil
      own g (c ∷ []) e l = cons ((piece (origin j.scene) (bounds j.scene) (seg-at ws a) c e).row ∙ ap (λ (x : ℕ). x - j.scene.y / 4) (o a (omega arith) g)) nil
      own g (c ∷ d ∷ ks) e l = absurd (omega arith)

      go : (t : Bool) → ltb a b ≡ t → (a < b → AllOn (row - j.scene.y / 4) (cuts-of j ws (a + 1) b)) → AllOn (row - j.scene.y / 4) (cuts-of j ws a b)
      go true e f =
          let g = ltb-true a b e in
          rw (segs-first ws a b g) (all_append (own g (cut_in (origin j.scene) (bounds j.scene) (seg-at ws a)) refl (at_most_one _ _ (seg-at ws a))) (f g))
      go false e f = rw (segs-end ws a b (ltb-false a b e)) nil

  -- one more segment of a run
  module _ (a i : ℕ) (h : a ≤ i) (w : Words) where
    run_more : run_of j ws a (i + 1) w ≡ draw-all j (cut_in (origin j.scene) (bounds j.scene) (seg-at ws i)) (run_of j ws a i w)
    run_more =
        rw (cuts-parts a i (i + 1) h (omega arith), cuts-one i, draw-append j (cuts-of j ws a i) (cut_in (origin j.scene) (bounds j.scene) (seg-at ws i) ++ []) w)
        (draw-append j (cut_in (origin j.scene) (bounds j.scene) (seg-at ws i)) [] (run_of j ws a i w))

    run-nothing : [] ≡ cut_in (origin j.scene) (bounds j.scene) (seg-at ws i) → run_of j ws a (i + 1) w ≡ run_of j ws a i w
    run-nothing e = run_more ∙ rw (← e)

    run-one : (k : Cut) → k ∷ [] ≡ cut_in (origin j.scene) (bounds j.scene) (seg-at ws i)
        → run_of j ws a (i + 1) w ≡ draws j k.stretch.tiles k.stretch.alpha (run_of j ws a i w)
    run-one k e = run_more ∙ rw (← e)

  run_none : (a : ℕ) (w : Words) → run_of j ws a a w ≡ w
  run_none a w = rw (segs-end ws a a (omega arith))

-- an alpha index, on a row that has its layers and on one that gets them
module _ (j : FillJob) (k : Cut) (x : Indexed k) (w : Words) where
  indexed-draw : draws j k.stretch.tiles k.stretch.alpha w ≡ put_command (paint-fill k.stretch.tiles k.stretch.alpha j.attr) (ensured j.layers w)
  indexed-draw = rw x.is (drawn-alpha (bucket-tiles j.width) j.layers k.stretch.tiles j.attr j.id w j.eligible x.at)

  drawn-there : j.layers ≤ word 5 w → draws j k.stretch.tiles k.stretch.alpha w ≡ put_command (paint-fill k.stretch.tiles k.stretch.alpha j.attr) w
  drawn-there h = indexed-draw ∙ ap (put_command (paint-fill k.stretch.tiles k.stretch.alpha j.attr)) (no_more j.layers w h)

  drawn-layered : j.layers ≤ word 5 (ensured j.layers w)
      → draws j k.stretch.tiles k.stretch.alpha (ensured j.layers w) ≡ draws j k.stretch.tiles k.stretch.alpha w
  drawn-layered h = rw (indexed-draw) (drawn-alone h)
    where
      drawn-alone : j.layers ≤ word 5 (ensured j.layers w)
          → draws j k.stretch.tiles k.stretch.alpha (ensured j.layers w) ≡ put_command (paint-fill k.stretch.tiles k.stretch.alpha j.attr) (ensured j.layers w)
      drawn-alone h =
          rw x.is
          (drawn-alpha (bucket-tiles j.width) j.layers k.stretch.tiles j.attr j.id (ensured j.layers w) j.eligible x.at
          ∙ ap (put_command (paint-fill k.stretch.tiles (Some x.at) j.attr)) (no_more j.layers (ensured j.layers w) h))

-- a run that begins with an alpha index gives its row its layers
module _ {j : FillJob} {ws : List ℕ} {row a b : ℕ} {w : Words} (v : RunReady j ws row a b w) where
  first-index : Indexed v.first
  first-index = index-left (origin j.scene) (bounds j.scene) (seg-at ws a) v.first v.index v.left

  first-there : OnRow ws row a (a + 1)
  first-there i p q = let e : i ≡ a = omega arith in rw e v.here

  first-draw : run_of j ws a (a + 1) w ≡ draws j v.first.stretch.tiles v.first.stretch.alpha w
  first-draw = run-one j ws a a (omega arith) w v.first v.left ∙ ap (draws j v.first.stretch.tiles v.first.stretch.alpha) (run_none j ws a w)

  own_room : Room w (draws j v.first.stretch.tiles v.first.stretch.alpha w)
  own_room = rw first-draw at (v.room (a + 1) (omega arith) (omega (arith, v.before)) first-there)

  pub layers-room : Room w (ensured j.layers w)
  layers-room =
      let o = own_room in
      first_room (bucket-tiles j.width) j.layers j.attr j.id v.first.stretch.tiles w o.state o.levels v.layers j.eligible v.first.stretch.alpha o

  layered : Sound w (ensured j.layers w)
  layered = ensured-sound j.layers w v.layers own_room.state own_room.levels

  there : j.layers ≤ word 5 (ensured j.layers w)
  there = all-layers j.layers w v.layers own_room.state own_room.levels

  -- with the layers put first it is the same run
  same-run : (t : ℕ) → a < t → run_of j ws a t (ensured j.layers w) ≡ run_of j ws a t w
  same-run t h =
      rw (cuts-parts j ws a (a + 1) t (omega arith) (omega arith), cuts-one j ws a, ← v.left)
      (ap (draw-all j (cuts-of j ws (a + 1) t)) (drawn-layered j v.first first-index w there))

  layered-ready : RunReady j ws row a b (ensured j.layers w)
  layered-ready =
      record {
        before = v.before;
        within = v.within;
        layers = v.layers;
        starts = v.starts;
        good = v.good;
        here = v.here;
        index = v.index;
        first = v.first;
        left = v.left;
        room = λ t p q o. rw (same-run t p) (room_after layered (v.room t p q o));
      }

-- at segment i of a run from a, on its way from the words w₀, which have their layers
pub record Running (j : FillJob) (ws : List ℕ) (row a b : ℕ) (w₀ : Words) (i : ℕ) (w : Words) : Type 0 where
  pub ready : RunReady j ws row a b w₀
  pub start : a ≤ i
  pub stop : i ≤ b
  pub same : OnRow ws row a i
  pub is : w ≡ run_of j ws a i w₀
  pub there : j.layers ≤ word 5 w

pub set-off : {j : FillJob} {ws : List ℕ} {row a b : ℕ} {w u : Words} → RunReady j ws row a b w → u ≡ ensured j.layers w → Running j ws row a b u a u
set-off {j} {ws} {row} {a} {b} {w} {u} v e =
    rw e
    (record {
      ready = layered-ready v;
      start = omega arith;
      stop = omega (arith, v.before);
      same = λ i p q. absurd (omega arith);
      is = sym (run_none j ws a (ensured j.layers w));
      there = there v;
    })

module _ {j : FillJob} {ws : List ℕ} {row a b : ℕ} {w₀ : Words} {i : ℕ} {w : Words} (v : Running j ws row a b w₀ i w) where
  run_sound : Sound w₀ w
  run_sound = let o = own_room v.ready in rw v.is (draw-sound j v.ready.layers (cuts-of j ws a i) w₀ o.state o.levels)

  -- where the run ends, it has begun
  pub row-left : ((seg-at ws i).row ≡ row → ⊥) → a < i
  row-left n = let f : a ≡ i → ⊥ = λ e. n (rw e at v.ready.here) in omega (arith, v.start)

  pub solid-met : (seg-at ws i).kind ≡ 0 → a < i
  solid-met n = let f : a ≡ i → ⊥ = λ e. (rw e at v.ready.index) n in omega (arith, v.start)

  module _ (h : i < b) where
    pub good-next : good-segment (seg-at ws i) ≡ true
    good-next = v.ready.good i v.start h

    module _ (p : (seg-at ws i).row ≡ row) where
      on-to : OnRow ws row a (i + 1)
      on-to x q r =
          let last : x ≡ i → (seg-at ws x).row ≡ row = λ e. rw e p in
          let before = v.same x q in
          grind (arith, nat_tests)

      pub runs_past : [] ≡ cut_in (origin j.scene) (bounds j.scene) (seg-at ws i) → Running j ws row a b w₀ (i + 1) w
      runs_past e =
          record { ready = v.ready; start = omega (arith, v.start); stop = omega arith; same = on-to; is = v.is ∙ sym (run-nothing j ws a i v.start w₀ e); there = v.there }

      module _ (n : (seg-at ws i).kind ≡ 0 → ⊥) (k : Cut) (e : k ∷ [] ≡ cut_in (origin j.scene) (bounds j.scene) (seg-at ws i)) where
        painted : run_of j ws a (i + 1) w₀ ≡ put_command (paint-fill k.stretch.tiles k.stretch.alpha j.attr) w
        painted =
            run-one j ws a i v.start w₀ k e ∙ ap (draws j k.stretch.tiles k.stretch.alpha) (sym v.is)
            ∙ drawn-there j k (index-left (origin j.scene) (bounds j.scene) (seg-at ws i) k n e) w v.there

        pub paint-asks : Short k.stretch.tiles × Room w (put_command (paint-fill k.stretch.tiles k.stretch.alpha j.attr) w)
        paint-asks =
            let l = landed (origin j.scene) (bounds j.scene) (seg-at ws i) k good-next v.ready.starts e in
            ((omega (arith, l.order, l.ends), l.ends), rw painted at (room_after run_sound (v.ready.room (i + 1) (omega (arith, v.start)) (omega arith) on-to)))

        pub runs_on : {u : Words} → u ≡ put_command (paint-fill k.stretch.tiles k.stretch.alpha j.attr) w → Running j ws row a b w₀ (i + 1) u
        runs_on q =
            rw q
            (record {
              ready = v.ready;
              start = omega (arith, v.start);
              stop = omega arith;
              same = on-to;
              is = sym painted;
              there = omega (arith, v.there, cmd-levels w (run_sound.grown.state ∙ (own_room v.ready).state) (paint-fill k.stretch.tiles k.stretch.alpha j.attr));
            })

-- the whole run, from the words before its layers
pub run-done : {j : FillJob} {ws : List ℕ} {row a b : ℕ} {w u : Words} {i : ℕ} {x : Words} → RunReady j ws row a b w → u ≡ ensured j.layers w → Running j ws row a b u i x → a < i
    → (a < i) × (i ≤ b) × OnRow ws row a i × (x ≡ run_of j ws a i w)
run-done {j} {ws} {row} {a} {b} {w} {u} {i} {x} v e r h = (h, r.stop, r.same, r.is ∙ ap (run_of j ws a i) e ∙ same-run v i h)

-- on the whole screen
module _ {j : FillJob} {n : ℕ} {ws : List ℕ} {a b : ℕ} {w : Words} (v : FillReady j n ws a b w) (h : a < b) where
  split-puts : (t : ℕ) → a ≤ t → t ≤ b → puts j ws a (b - a) ≡ puts j ws a (t - a) ++ puts j ws t (b - t)
  split-puts t p q = rw (cuts-parts j ws a t b p q) (puts-join j (cuts-of j ws a t) (cuts-of j ws t b))

  module _ (k : Cut) (e : k ∷ [] ≡ cut_in (origin j.scene) (bounds j.scene) (seg-at ws a)) where
    its-row : k.row ≡ (seg-at ws a).row - j.scene.y / 4
    its-row = (piece (origin j.scene) (bounds j.scene) (seg-at ws a) k e).row

    pub row-there : k.row < n
    row-there =
        let l = landed (origin j.scene) (bounds j.scene) (seg-at ws a) k (good-first ws a b h v.good) v.fits.starts e in
        omega (arith, l.row, v.fits.bottom)

    on-it : {t : ℕ} → OnRow ws (seg-at ws a).row a t → AllOn k.row (cuts-of j ws a t)
    on-it {t} o = rw its-row (on_one j ws t a t (seg-at ws a).row (omega arith) o)

    -- a run's puts are one change of its row
    pub run-puts : (t : ℕ) → OnRow ws (seg-at ws a).row a t → (rs : List Words) → done j (puts j ws a (t - a)) rs ≡ change (run_of j ws a t) k.row rs
    run-puts t o rs = one-change j k.row (on-it o) rs

    first-put : (t : ℕ) → a < t → (ks : List Cut) → ks ≡ cuts-of j ws a t → {rs ts : List Words} → Roomy (puts_of j ks) rs ts → Room (get_or rs k.row nowhere) (get_or ts k.row nowhere)
    unfolding draw-puts
    first-put t p ks q {rs} {ts} m =
        let z : k ∷ cuts-of j ws (a + 1) t ≡ cuts-of j ws a t = rw (cuts-parts j ws a (a + 1) t (omega arith) (omega arith), cuts-one j ws a, ← e) in
        go (rw (q ∙ sym z) at m)
      where
        go : {ps : List Put} {q : Put} → Roomy (q ∷ ps) rs ts → Room (get_or rs q.row nowhere) (get_or ts q.row nowhere)
        go (one_more r m) = r

    run_room : (t : ℕ) → a < t → t ≤ b → OnRow ws (seg-at ws a).row a t → Room (get_or (cut (sizes j.c j.d) n w) k.row nowhere) (run_of j ws a t (get_or (cut (sizes j.c j.d) n w) k.row nowhere))
    run_room t p q o =
        let rs = cut (sizes j.c j.d) n w in
        let m = room-one j v.fits.layers (puts j ws a (t - a)) (puts j ws t (b - t)) (cut (sizes j.c j.d) n w) (rw (split-puts t (omega arith) q) at v.room) in
        rw (run-puts t o (cut (sizes j.c j.d) n w), change-same (run_of j ws a t) k.row (cut (sizes j.c j.d) n w) nowhere (rw (cut-length (sizes j.c j.d) n w) row-there))
        at (first-put t p (cuts-of j ws a t) refl m)

    pub run-ready : ((seg-at ws a).kind ≡ 0 → ⊥) → RunReady j ws (seg-at ws a).row a b (get_or (cut (sizes j.c j.d) n w) k.row nowhere)
    run-ready x =
        record {
          before = h;
          within = v.within;
          layers = v.fits.layers;
          starts = v.fits.starts;
          good = good-each ws b a b (omega arith) v.good;
          here = refl;
          index = x;
          first = k;
          left = e;
          room = run_room;
        }

    -- a run of words that had room has grown
    pub run-grows : (t : ℕ) → a < t → t ≤ b → OnRow ws (seg-at ws a).row a t → Grown (get_or (cut (sizes j.c j.d) n w) k.row nowhere) (run_of j ws a t (get_or (cut (sizes j.c j.d) n w) k.row nowhere))
    run-grows t p q o =
        let r = run_room t p q o in
        (draw-sound j v.fits.layers (cuts-of j ws a t) (get_or (cut (sizes j.c j.d) n w) k.row nowhere) r.state r.levels).grown

    -- its row lent by its place, and back
    module _ {row : ℕ} (q : row ≡ (seg-at ws a).row) {p : Place} (s : Stands j.c j.d k.row p) where
      abbrev out : Words
      out = words (take (p.x1 - p.x0) (drop p.x0 w.state)) (take (p.y1 - p.y0) (drop p.y0 w.render)) (take (p.z1 - p.z0) (drop p.z0 w.fills))

      pub run_lent : ((seg-at ws a).kind ≡ 0 → ⊥) → RunReady j ws row a b out
      run_lent x = rw (q, lent v.fits.arenas row-there s) (run-ready x)

      pub run-back : (t : ℕ) → a < t → t ≤ b → OnRow ws row a t → (x y z : List ℕ) → words x y z ≡ run_of j ws a t out
          → cut (sizes j.c j.d) n (words (put_mid p.x0 (p.x1 - p.x0) w.state x) (put_mid p.y0 (p.y1 - p.y0) w.render y) (put_mid p.z0 (p.z1 - p.z0) w.fills z))
          ≡ done j (puts j ws a (t - a)) (cut (sizes j.c j.d) n w)
      run-back t m l o x y z e =
          let u : OnRow ws (seg-at ws a).row a t = rw (← q) o in
          back v.fits.arenas row-there s (run_of j ws a t) x y z (rw (lent v.fits.arenas row-there s) (run-grows t m l u)) e
          ∙ sym (run-puts t u (cut (sizes j.c j.d) n w))

-- a segment of which nothing is left
pub nothing_put : (j : FillJob) (ws : List ℕ) (a : ℕ) (rs : List Words) → [] ≡ cut_in (origin j.scene) (bounds j.scene) (seg-at ws a) → rs ≡ done j (puts j ws a (a + 1 - a)) rs
unfolding do-puts draw-puts
nothing_put j ws a rs e = rw (cuts-one j ws a, ← e)

-- the loop over all segments, after a run
every_rest : (f : Segment → Bool) (xs ys : List Segment) → every f (xs ++ ys) ≡ true → every f ys ≡ true
every_rest f [] ys e = e
every_rest f (x ∷ xs) ys e = every_rest f xs ys (both (f x) (every f (xs ++ ys)) e).1

pub after_run : {j : FillJob} {n : ℕ} {ws : List ℕ} {a b : ℕ} {w₀ : Words} {i : ℕ} {w : Words} → Filling j n ws a b w₀ i w → (t : ℕ) → i < t → t ≤ b → (u : Words)
    → Long (sizes j.c j.d) n u → cut (sizes j.c j.d) n u ≡ done j (puts j ws i (t - i)) (cut (sizes j.c j.d) n w) → Filling j n ws a b w₀ t u
after_run {j} {n} {ws} {a} {b} {w₀} {i} {w} v t p q u l e =
    let o = v.rest.fits in
    let z = split-puts v.rest (omega arith) t (omega arith) q in
    record {
      rest =
          record {
            fits = record { arenas = record { rows = o.arenas.rows; c = o.arenas.c; d = o.arenas.d; long = l }; layers = o.layers; starts = o.starts; bottom = o.bottom };
            before = q;
            within = v.rest.within;
            good = every_rest good-segment (segs ws i (t - i)) (segs ws t (b - t)) (rw (segs-parts ws i t b (omega arith) q) at v.rest.good);
            room = rw e (room-more j o.layers (puts j ws i (t - i)) (puts j ws t (b - t)) (cut (sizes j.c j.d) n w) (rw z at v.rest.room));
          };
      all = rw e (sym (done-append j o.layers (puts j ws i (t - i)) (puts j ws t (b - t)) (cut (sizes j.c j.d) n w)) ∙ (rw z at v.all));
    }

-- a segment's kind, as the code reads it
pub kind-read : (ws : List ℕ) (i : ℕ) → (get_or ws (5 * i) 0 ≡ 0 → ⊥) → (seg-at ws i).kind ≡ 0 → ⊥
unfolding seg-at
kind-read ws i n = n
