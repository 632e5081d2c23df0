-- Closing, and counting, by a clip's segments. Assumes nothing.
use Rattle.std.proofs.Common.{◌≡◌, refl, sym, ap, ◌∙◌, Bool, true, false, ◌||◌, cond, List, [], ◌∷◌, ◌++◌, ℕ, ◌+◌, ◌-◌, ◌≤◌, ◌<◌, arith, ltb, eqb, length, get_or, eq-eqb, ne_eqb, le-ltb, ltb-false}
use Rattle.std.proofs.lemmas.Bool.Decides.{nat_tests}
use Rattle.rules.specs.Lists.{some_of, every, join, change, range}
use Rattle.rules.specs.Segments.{Segment, good-segment, Cut, cut_in}
use Rattle.rules.specs.Commands.{layer-fill}
use Rattle.rules.specs.Plans.{Frame, bucket, close, Put, on, close-puts}
use Rattle.rules.specs.Steps.{do-act, do-puts}
use Rattle.rules.proofs.All.{All, nil, cons, head, never}
use Rattle.rules.proofs.laws.Changes.{change-same, puts-append}
use Rattle.row.specs.Words.{Words, word, word-ops, put_command, Room}
use Rattle.row.specs.Cmds.{Short}
use Rattle.row.specs.Arena.{nowhere}
use Rattle.row.specs.Building.{rows_at, Whole}
use Rattle.segments.specs.declared.Scene.{Scene}
use Rattle.segments.specs.Segs.{seg-at, segs, origin, bounds, Starts}
use Rattle.segments.proofs.Laws.{segs-end, segs-first, good-first, good-rest, landed}
use Rattle.row.specs.Room.{Counted as Hand, hand_of, limits, loaded, added_to}
use Rattle.pop.specs.Closing.{row_of, touched-in, so_far, runs-full, runs_on, done-puts, Roomy, Fillable, clip-puts, Clips, Clean, Counted}
use Rattle.pop.proofs.Touched.{touched-same}
use Rattle.pop.proofs.Closed.{closing, Close, closes-row}
use Rattle.pop.proofs.Running.{at-found}
use Rattle.pop.proofs.Rooms.{records, touched-inside, room-one, room-more}

-- .. has tiles that fit a command
pub placed-short : (s : Scene) (g : Segment) (k : Cut) → good-segment g ≡ true → Starts (origin s) (bounds s) → k ∷ [] ≡ cut_in (origin s) (bounds s) g → Short k.stretch.tiles
placed-short s g k t o e = let l = landed (origin s) (bounds s) g k t o e in (omega (arith, l.order, l.ends), l.ends)

-- the puts of one segment, whose cut is cs
module _ (v m i : ℕ) (xs : List ℕ) (rs : List Words) (cs : List Cut) where
  pub one_none : [] ≡ cs → done-puts v m (close-puts i xs cs) rs ≡ rs
  unfolding do-puts close-puts
  one_none e = rw (← e)

  module _ (k : Cut) (e : k ∷ [] ≡ cs) where
    pub one_out : some_of (eqb k.row) xs ≡ false → done-puts v m (close-puts i xs cs) rs ≡ rs
    unfolding do-puts close-puts
    one_out h = rw (← e, h)

    pub one_in : some_of (eqb k.row) xs ≡ true → done-puts v m (close-puts i xs cs) rs ≡ change (put_command (layer-fill k.stretch.tiles k.stretch.alpha i)) k.row rs
    unfolding do-puts do-act close-puts
    one_in h = rw (← e, h)

    puts-in : some_of (eqb k.row) xs ≡ true → close-puts i xs cs ≡ on (close k.stretch.tiles k.stretch.alpha i) k.row ∷ []
    unfolding close-puts
    puts-in h = rw (← e, h)

    pub one-fillable : some_of (eqb k.row) xs ≡ true → k.row < length rs → Roomy v m (close-puts i xs cs) rs → Fillable k.stretch.tiles k.stretch.alpha i (row_of rs k.row)
    one-fillable h g a =
        let f = put_command (layer-fill k.stretch.tiles k.stretch.alpha i) in
        let p : All (λ (p : Put). Room (row_of rs p.row) (row_of (change (put_command (layer-fill k.stretch.tiles k.stretch.alpha i)) k.row rs) p.row)) (on (close k.stretch.tiles k.stretch.alpha i) k.row ∷ []) = rw (one_in h, puts-in h) at a in
        rw (change-same f k.row rs nowhere g) at (head p)

-- a list's puts
module _ (i : ℕ) (xs : List ℕ) where
  pub close-join : (ks ls : List Cut) → close-puts i xs (ks ++ ls) ≡ close-puts i xs ks ++ close-puts i xs ls
  unfolding close-puts
  close-join [] ls = refl
  close-join (k ∷ ks) ls = go (some_of (eqb k.row) xs) (close-join ks ls)
    where
      go : (b : Bool) → close-puts i xs (ks ++ ls) ≡ close-puts i xs ks ++ close-puts i xs ls
          → cond b (on (close k.stretch.tiles k.stretch.alpha i) k.row ∷ close-puts i xs (ks ++ ls)) (close-puts i xs (ks ++ ls))
          ≡ cond b (on (close k.stretch.tiles k.stretch.alpha i) k.row ∷ close-puts i xs ks) (close-puts i xs ks) ++ close-puts i xs ls
      go true e = ap (λ (t : List Put). on (close k.stretch.tiles k.stretch.alpha i) k.row ∷ t) e
      go false e = e

  all-cond : {P : Put → Type 0} (b : Bool) (p : Put) {ps : List Put} → (b ≡ true → P p) → All P ps → All P (cond b (p ∷ ps) ps)
  all-cond true p f a = cons (f refl) a
  all-cond false p f a = a

  pub close-in : (ks : List Cut) → All (λ (p : Put). some_of (eqb p.row) xs ≡ true) (close-puts i xs ks)
  unfolding close-puts
  close-in [] = nil
  close-in (k ∷ ks) = all-cond (some_of (eqb k.row) xs) (on (close k.stretch.tiles k.stretch.alpha i) k.row) (λ e. e) (close-in ks)

  pub close-all : (l : ℕ) → All (λ (x : ℕ). x < l) xs → (ks : List Cut) → All (Close l) (close-puts i xs ks)
  unfolding close-puts
  close-all l a [] = nil
  close-all l a (k ∷ ks) =
      all-cond (some_of (eqb k.row) xs) (on (close k.stretch.tiles k.stretch.alpha i) k.row) (λ e. record { row = at-found a k.row e; act = closing }) (close-all l a ks)

-- the loop over the segments from start to j, at segment i, on its way from the words w₀
pub record Clipping (f : Frame) (n k : ℕ) (ws : List ℕ) (start j : ℕ) (e : Scene) (a b : ℕ) (w₀ : Words) (i : ℕ) (w : Words) : Type 0 where
  pub rest : Clips f n k ws i j e a b w
  pub all : done-puts (bucket f) (n - 1) (clip-puts k (touched-in n (rows_at f w) (range a b)) e (segs ws i (j - i))) (rows_at f w)
      ≡ done-puts (bucket f) (n - 1) (clip-puts k (touched-in n (rows_at f w₀) (range a b)) e (segs ws start (j - start))) (rows_at f w₀)

module _ {f : Frame} {n k : ℕ} {ws : List ℕ} {start j : ℕ} {e : Scene} {a b : ℕ} {w₀ : Words} {i : ℕ} {w : Words} (v : Clipping f n k ws start j e a b w₀ i w) where
  pub clipping-done : j ≤ i → rows_at f w ≡ done-puts (bucket f) (n - 1) (clip-puts k (touched-in n (rows_at f w₀) (range a b)) e (segs ws start (j - start))) (rows_at f w₀)
  unfolding do-puts close-puts
  clipping-done h = rw (segs-end ws i j h) at v.all

  module _ (h : i < j) where
    abbrev xs : List ℕ
    xs = touched-in n (rows_at f w) (range a b)

    abbrev one : List Put
    one = close-puts k (touched-in n (rows_at f w) (range a b)) (cut_in (origin e) (bounds e) (seg-at ws i))

    abbrev more : List Put
    more = clip-puts k (touched-in n (rows_at f w) (range a b)) e (segs ws (i + 1) (j - (i + 1)))

    split-puts : clip-puts k xs e (segs ws i (j - i)) ≡ one ++ more
    split-puts = rw (segs-first ws i j h) (close-join k xs (cut_in (origin e) (bounds e) (seg-at ws i)) (join (cut_in (origin e) (bounds e)) (segs ws (i + 1) (j - (i + 1)))))

    few : n - 1 ≤ 16
    few = omega (arith, v.rest.layers)

    split-room : Roomy (bucket f) (n - 1) (one ++ more) (rows_at f w)
    split-room = rw split-puts at v.rest.room

    pub good-here : good-segment (seg-at ws i) ≡ true
    good-here = good-first ws i j h v.rest.good

    pub room-here : Roomy (bucket f) (n - 1) one (rows_at f w)
    room-here = room-one (bucket f) (n - 1) few one more (rows_at f w) split-room

    -- a LayerFill leaves the levels
    same-touched : touched-in n (done-puts (bucket f) (n - 1) one (rows_at f w)) (range a b) ≡ xs
    same-touched =
        touched-same n (rows_at f w) (done-puts (bucket f) (n - 1) one (rows_at f w))
        (λ (x : ℕ).
        (closes-row (bucket f) (n - 1) one (rows_at f w)
        (close-all k xs (length (rows_at f w)) (touched-inside v.rest.whole a b n v.rest.bottom) (cut_in (origin e) (bounds e) (seg-at ws i)))
        (records v.rest.whole) x).levels)
        (range a b)

    pub clipping-on : (u : Words) → Whole f u → rows_at f u ≡ done-puts (bucket f) (n - 1) one (rows_at f w) → Clipping f n k ws start j e a b w₀ (i + 1) u
    clipping-on u o p =
        let t : touched-in n (rows_at f u) (range a b) ≡ xs = rw p same-touched in
        record {
          rest =
              record {
                whole = o;
                layers = v.rest.layers;
                bottom = v.rest.bottom;
                starts = v.rest.starts;
                before = omega arith;
                within = v.rest.within;
                good = good-rest ws i j h v.rest.good;
                room = rw (t, p) (room-more (bucket f) (n - 1) few one more (rows_at f w) split-room);
              };
          all = rw (t, p) (sym (puts-append Words word-ops (bucket f) (n - 1) one more (rows_at f w)) ∙ (rw split-puts at v.all));
        }

-- counting, with n layers open
module _ (c d n : ℕ) (xs : List ℕ) (rs : List Words) (h : Hand) (o : Clean d h) (cs : List Cut) where
  no-ten : eqb h.code 10 ≡ false
  no-ten = rw o.code

  pub counted_none : [] ≡ cs → Counted c d xs rs h cs h
  counted_none e = record { runs = λ ks. rw (← e, no-ten); clean = λ z. o }

  module _ (k : Cut) (e : k ∷ [] ≡ cs) where
    pub counted-out : some_of (eqb k.row) xs ≡ false → Counted c d xs rs h cs h
    unfolding runs-full
    counted-out g = record { runs = λ ks. rw (← e, g, no-ten); clean = λ z. o }

    module _ (g : some_of (eqb k.row) xs ≡ true) (b : k.row ≤ 8191) (small : c ≤ 1024) where
      -- the row's commands so far
      so : ℕ
      so = so_far rs (cond (eqb h.row 8192) 0 (h.row + 1)) (h.renders - 1) k.row

      last : (q : ℕ) → q + 1 + 1 - 1 ≡ q + 1
      last q = omega arith

      counted-by : (q y : ℕ) → q ≡ so → y ≤ d → (f : Bool) → ltb c (q + 1 + 1) ≡ f → Counted c d xs rs h cs (hand_of (q + 1 + 1) y k.row (cond f 10 0))
      unfolding runs-full so
      counted-by q y i m true p = record { runs = λ ks. rw (← e, g, ← i, p); clean = λ z. never z }
      counted-by q y i m false p =
          record {
            runs = λ ks. rw (← e, g, ← i, p, ne_eqb k.row 8192 (λ (z : k.row ≡ 8192). omega arith), last q);
            clean = λ z. record { renders = omega (arith, ltb-false c (q + 1 + 1) p); depths = m; code = refl; popped = λ z. omega arith };
          }

      -- one command more on the row at hand, u
      module _ {u w : Hand} (q : ℕ) (i : q ≡ so) (r : u.row ≡ k.row) (t : u.renders ≡ q + 1) (m : u.depths ≤ d) (z : u.code ≡ 0) where
        counted-in : w ≡ added_to (limits c d n 1) u 1 0 → Counted c d xs rs h cs w
        unfolding added_to
        counted-in p =
            let v : u.depths + 0 ≤ d = omega arith in
            rw p (rw (r, t, z, le-ltb d (u.depths + 0) v) (counted-by q (u.depths + 0) i v (ltb c (q + 1 + 1)) refl))

      pub counted-held : {w : Hand} → h.row ≡ k.row → w ≡ added_to (limits c d n 1) h 1 0 → Counted c d xs rs h cs w
      unfolding so
      counted-held r p =
          let v : 1 ≤ h.renders = o.popped (omega arith) in
          counted-in (h.renders - 1) (rw (r, ne_eqb k.row 8192 (λ (z : k.row ≡ 8192). omega arith), eq-eqb (k.row + 1) (k.row + 1) refl)) r (omega arith) o.depths o.code p

      else-so : (h.row ≡ k.row → ⊥) → word 0 (row_of rs k.row) ≡ so
      unfolding so
      else-so r = grind (arith, nat_tests)

      -- .. or on another, whose record is s
      pub counted-else : {u w : Hand} (s : List ℕ) → (h.row ≡ k.row → ⊥) → u ≡ loaded (limits c d n 1) s h.code k.row
          → get_or s 0 0 ≡ word 0 (row_of rs k.row) → get_or s 5 0 ≡ n → get_or s 1 0 ≤ d → w ≡ added_to (limits c d n 1) u 1 0 → Counted c d xs rs h cs w
      counted-else {u} {w} s r i x y m p =
          let t : get_or s 0 0 + (n - get_or s 5 0) + 1 ≡ get_or s 0 0 + 1 = omega arith in
          counted-in (get_or s 0 0) (x ∙ else-so r) refl t m o.code (p ∙ ap (λ (v : Hand). added_to (limits c d n 1) v 1 0) i)

-- the counting loop over the segments from start to j, at segment i
pub record Counting (c d : ℕ) (xs : List ℕ) (rs : List Words) (ws : List ℕ) (start j : ℕ) (e : Scene) (i : ℕ) (h : Hand) : Type 0 where
  pub before : i ≤ j
  pub good : every good-segment (segs ws i (j - i)) ≡ true
  pub clean : Clean d h
  pub rest : runs_on c xs rs h (join (cut_in (origin e) (bounds e)) (segs ws i (j - i)))
      ≡ runs-full c xs rs 0 0 (join (cut_in (origin e) (bounds e)) (segs ws start (j - start)))

module _ {c d : ℕ} {xs : List ℕ} {rs : List Words} {ws : List ℕ} {start j : ℕ} {e : Scene} {i : ℕ} {r : Hand} (v : Counting c d xs rs ws start j e i r) where
  pub counting-done : j ≤ i → false ≡ runs-full c xs rs 0 0 (join (cut_in (origin e) (bounds e)) (segs ws start (j - start)))
  unfolding runs-full
  counting-done h = rw (segs-end ws i j h) at v.rest

  module _ (h : i < j) where
    pub counting-good : good-segment (seg-at ws i) ≡ true
    counting-good = good-first ws i j h v.good

    module _ {u : Hand} (o : Counted c d xs rs r (cut_in (origin e) (bounds e) (seg-at ws i)) u) where
      here : (eqb u.code 10 || runs_on c xs rs u (join (cut_in (origin e) (bounds e)) (segs ws (i + 1) (j - (i + 1)))))
          ≡ runs-full c xs rs 0 0 (join (cut_in (origin e) (bounds e)) (segs ws start (j - start)))
      here = sym (o.runs (join (cut_in (origin e) (bounds e)) (segs ws (i + 1) (j - (i + 1))))) ∙ (rw (segs-first ws i j h) at v.rest)

      pub counting-full : (u.code ≡ 0 → ⊥) → true ≡ runs-full c xs rs 0 0 (join (cut_in (origin e) (bounds e)) (segs ws start (j - start)))
      counting-full p =
          let clean : eqb u.code 10 ≡ false → u.code ≡ 0 = λ q. (o.clean q).code in
          let t = here in
          grind (arith, nat_tests)

      pub counting-on : u.code ≡ 0 → Counting c d xs rs ws start j e (i + 1) u
      counting-on p =
          let q : eqb u.code 10 ≡ false = rw p in
          record { before = omega arith; good = good-rest ws i j h v.good; clean = o.clean q; rest = rw q at here }
