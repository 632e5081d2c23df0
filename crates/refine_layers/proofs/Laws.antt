-- Every screen that a reset and steps make is `Reaching`. Assumes nothing.
use Rattle.std.proofs.Common.{◌≡◌, refl, sym, ap, ◌∙◌, Bool, true, false, ◌&&◌, ◌||◌, not, cond, List, [], ◌∷◌, ◌++◌, map, Option, None, Some, ℕ, zero, suc, ◌+◌, ◌-◌, ◌/◌, ◌≤◌, ◌<◌, max, arith, leb}
use Rattle.std.proofs.Common.{ltb, eqb, length, replicate, leb-true, ltb-true, ltb-false, eqb-true, eq-eqb}
use borrow.Author.Tests.{eqb-false}
use Rattle.rules.specs.Lists.{some_of, change, count-from}
use Rattle.rules.specs.Answers.{answer, Done, BadRecord, NoLayer}
use Rattle.rules.specs.Boxes.{Box, meet, to-local, rows_of, rows_in, span_of, scene-tiles}
use Rattle.rules.specs.Spans.{Span, Stretch, cut_to, span}
use Rattle.rules.specs.Segments.{Segment, Cut, localised, on_row, stretch-of, cut_in, cuts}
use Rattle.rules.specs.Inputs.{Paint, Draw, Clip, Props, Filter, good-filter-fill, draw-segments}
use Rattle.rules.specs.Rows.{Row, fresh-row, row-ops}
use Rattle.rules.specs.Plans.{Frame, bucket, Layer, State, Step, a-fill, a-push, a-pop, a-filter, Act, paint, opaque, touch, close, pop, Put, on, Plan, still, clip-box, box_of, draw-act, draw-puts, plan-fill, layer-box, touches-all, plan-push, clip-segments, close-puts, closing, plan-pop, filter-box, draws-nothing, filter-puts, plan-filter-in, plan-filter, plan}
use Rattle.rules.specs.Steps.{Screen, reset, do-act, do-puts, done, refusal, perform, touched, call}
use Rattle.rules.proofs.All.{All, nil, cons, both, never, all-if, all-mapped, all-over, all_join, all_any, all_map}
use Rattle.rules.proofs.laws.Changes.{change-else, puts-append}
use Rattle.rules.proofs.laws.Maps.{planned}
use Rattle.refine_layers.specs.Touched.{In, Under, Nested, Boxed, levels-at, Reached, Reaching}
use Rattle.refine_layers.proofs.Levels.{levels, levels-after, act-levels, changed-at, past-levels}

-- fewer levels reach fewer layers
boxed-less : (ls : List Layer) (i m k : ℕ) → k ≤ m → Boxed ls i m → Boxed ls i k
boxed-less [] i m k h b = tt
boxed-less (l ∷ ls) i m k h b = (λ g. b.0 (omega arith), boxed-less ls i m k h b.1)

pub reached-less : (ls : List Layer) (i m k : ℕ) → k ≤ m → Reached ls i m → Reached ls i k
reached-less ls i m k h r = record { few = omega (arith, r.few); boxed = boxed-less ls i m k h r.boxed }

-- a row of a box that lies in the innermost layer's lies in every layer's
in-under : (i : ℕ) (b : Box) (ls : List Layer) → Under b ls → Nested ls → In b i → (m : ℕ) → Boxed ls i m
in-under i b [] u n r m = tt
in-under i b (l ∷ ls) u n r m =
    let q : In l.bounds i = record { from = omega (arith, r.from, u.0); to = omega (arith, r.to, u.1) } in
    (λ g. q, in-under i l.bounds ls n.0 n.1 q m)

pub in_all : (i : ℕ) (b : Box) (ls : List Layer) → Under b ls → Nested ls → In b i → Reached ls i (length ls)
in_all i b ls u n r = record { few = omega arith; boxed = in-under i b ls u n r (length ls) }

-- a put that gives its row no level of a layer whose box it doesn't lie in
pub data PutIn (ls : List Layer) : Put → Type 0 where
  inside : (p : Put) → Reached ls p.row (length ls) → PutIn ls p

module _ (ls : List Layer) where
  after-act : (t : Act) (i m : ℕ) → Reached ls i (length ls) → Reached ls i m → Reached ls i (levels-after (length ls) t m)
  after-act (paint s a k) i m g r = reached-less ls i (length ls) (max m (length ls)) (omega (arith, r.few)) g
  after-act (opaque s k id) i m g r = reached-less ls i (length ls) (max m (length ls)) (omega (arith, r.few)) g
  after-act touch i m g r = reached-less ls i (length ls) (max m (length ls)) (omega (arith, r.few)) g
  after-act (close s a k) i m g r = r
  after-act pop i m g r = reached-less ls i m (m - 1) (omega arith) r

  no-levels : (i m : ℕ) → Reached ls i m → Reached ls i 0
  no-levels i m r = reached-less ls i m 0 (omega arith) r

module _ (w : ℕ) (ls : List Layer) where
  module _ (rs : List Row) (h : (i : ℕ) → Reached ls i (levels-at rs i)) where
    one : (t : Act) (r i : ℕ) → (r ≡ i → Reached ls i (levels-after (length ls) t (levels-at rs i))) → Reached ls i (levels-at (change (do-act Row row-ops w (length ls) t) r rs) i)
    one t r i g =
        changed-at (Reached ls i) (do-act Row row-ops w (length ls) t) r i rs (no-levels ls i (levels-at rs i) (h i)) (h i) (λ e. rw (act-levels w (length ls) t) (g e))

    put_keeps : {p : Put} → PutIn ls p → (i : ℕ) → Reached ls i (levels-at (change (do-act Row row-ops w (length ls) p.act) p.row rs) i)
    put_keeps (inside p g) i = one p.act p.row i (λ e. after-act ls p.act i (levels-at rs i) (rw e at g) (h i))

  -- puts keep rows within their layers' boxes
  pub puts-keep : {ps : List Put} → All (PutIn ls) ps → (rs : List Row) → ((i : ℕ) → Reached ls i (levels-at rs i)) → (i : ℕ) → Reached ls i (levels-at (do-puts Row row-ops w (length ls) ps rs) i)
  unfolding do-puts
  puts-keep nil rs h i = h i
  puts-keep (cons {x = p} q qs) rs h i = puts-keep qs (change (do-act Row row-ops w (length ls) p.act) p.row rs) (put_keeps rs h q) i

-- the numbers of a range
counted : (a k lo hi : ℕ) → lo ≤ a → (0 < k → a + k ≤ hi) → All (λ (i : ℕ). (lo ≤ i) × (i < hi)) (count-from a k)
counted a zero lo hi l h = nil
counted a (suc k) lo hi l h =
    let g : a + suc k ≤ hi = h (omega arith) in
    cons (l, omega arith) (counted (suc a) k lo hi (omega arith) (λ z. omega arith))

pub rows_inside : (b : Box) → All (In b) (rows_in b)
rows_inside b =
    all_map (λ i p. record { from = p.0; to = p.1 })
    (counted (b.y0 / 4) ((b.y1 + 3) / 4 - b.y0 / 4) (b.y0 / 4) ((b.y1 + 3) / 4) (omega arith) (λ z. omega arith))

-- rule 4: a cut segment lies on a row of the clip box
module _ (v c : Box) where
  local-row : (s : Segment) (o : Option Stretch) → (scene-tiles v c).y0 ≤ s.row → s.row < (scene-tiles v c).y1 → All (λ (k : Cut). In c k.row) (localised v s.row o)
  unfolding scene-tiles
  local-row s None f t = nil
  local-row s (Some k) f t =
      let q : In c (s.row - v.y0 / 4) = record { from = omega arith; to = omega arith } in
      cons q nil

  cut-row : (s : Segment) (o : Option Stretch) → All (λ (k : Cut). In c k.row) (localised v s.row (on_row (scene-tiles v c) s o))
  cut-row s o = go (leb (scene-tiles v c).y0 s.row && ltb s.row (scene-tiles v c).y1) refl
    where
      go : (t : Bool) → (leb (scene-tiles v c).y0 s.row && ltb s.row (scene-tiles v c).y1) ≡ t → All (λ (k : Cut). In c k.row) (localised v s.row (cond t o None))
      go true e =
          let h = both (leb (scene-tiles v c).y0 s.row) (ltb s.row (scene-tiles v c).y1) e in
          local-row s o (leb-true (scene-tiles v c).y0 s.row h.0) (ltb-true s.row (scene-tiles v c).y1 h.1)
      go false e = nil

  one-cut : (s : Segment) → All (λ (k : Cut). In c k.row) (cut_in v (scene-tiles v c) s)
  unfolding cut_in
  one-cut s = cut-row s (cut_to (span (scene-tiles v c).x0 (scene-tiles v c).x1) (stretch-of s))

  pub cuts-inside : (ss : List Segment) → All (λ (k : Cut). In c k.row) (cuts v c ss)
  unfolding cuts
  cuts-inside ss = all_join (cut_in v (scene-tiles v c)) (λ s u. one-cut s) (all_any {P = λ (s : Segment). Unit {0}} (λ s. tt) ss)

-- the box of the innermost layer, and what is met with it
clip-under : (v : Box) (ls : List Layer) → Under (clip-box v ls) ls
clip-under v [] = tt
clip-under v (l ∷ ls) = (omega arith, omega arith)

meet-under : (v a : Box) (ls : List Layer) → Under (meet a (clip-box v ls)) ls
meet-under v a [] = tt
meet-under v a (l ∷ ls) = (omega arith, omega arith)

pub layer-under : (v : Box) (ls : List Layer) (c : Option Clip) → Under (layer-box v (clip-box v ls) c) ls
layer-under v ls None = clip-under v ls
layer-under v ls (Some c) = meet-under v (to-local v c.bounds) ls

-- a filter fill's plan is refused, draws nothing, or is the one of its box
pub filter-plans : (P : Plan → Type 0) (count : ℕ) (f : Filter) (q : ℕ) (s : State) → P (still BadRecord s) → P (still Done s)
    → (good-filter-fill count f q ≡ true → P (plan-filter-in (filter-box s.frame.viewport (box_of s) f) count f q s)) → P (plan-filter count f q s)
unfolding plan-filter
filter-plans P count f q s bad done drawn = go (good-filter-fill count f q) refl (draws-nothing f (filter-box s.frame.viewport (box_of s) f))
  where
    go : (t : Bool) → good-filter-fill count f q ≡ t → (u : Bool) → P (cond (not t) (still BadRecord s) (cond u (still Done s) (plan-filter-in (filter-box s.frame.viewport (box_of s) f) count f q s)))
    go true e true = done
    go true e false = drawn e
    go false e u = bad

module _ (s : State) (n : Nested s.layers) where
  draws-in : (e : Bool) (i id : ℕ) {ks : List Cut} → All (λ (k : Cut). In (box_of s) k.row) ks → All (PutIn s.layers) (draw-puts e i id ks)
  unfolding draw-puts
  draws-in e i id nil = nil
  draws-in e i id (cons {x = k} h hs) =
      cons (inside (on (draw-act e i id k.stretch.tiles k.stretch.alpha) k.row) (in_all k.row (box_of s) s.layers (clip-under s.frame.viewport s.layers) n h)) (draws-in e i id hs)

  fill-in : (ps : List Paint) (ss : List Segment) (d : Draw) → All (PutIn s.layers) (plan-fill ps ss d s).puts
  unfolding plan-fill
  fill-in ps ss d = draws-in _ (length s.attrs.paints) s.next (cuts-inside s.frame.viewport (box_of s) (draw-segments ss d))

  push-nested : (p : Props) → Nested (plan-push p s).layers
  unfolding plan-push
  push-nested p = (layer-under s.frame.viewport s.layers p.clip, n)

  push-in : (p : Props) → All (PutIn (plan-push p s).layers) (plan-push p s).puts
  unfolding plan-push
  push-in p =
      let b = layer-box s.frame.viewport (box_of s) p.clip in
      let ls : List Layer = record { props = p; bounds = b } ∷ s.layers in
      all-if (touches-all p b) (all-over (on touch) (λ i h. inside (on touch i) (in_all i b ls (omega arith, omega arith) (push-nested p) h)) (rows_inside b)) nil

  push-rows : (p : Props) (rs : List Row) → ((i : ℕ) → Reached s.layers i (levels-at rs i)) → (i : ℕ) → Reached (plan-push p s).layers i (levels-at rs i)
  unfolding plan-push
  push-rows p rs h i = record { few = omega (arith, (h i).few); boxed = (λ g. absurd (omega (arith, (h i).few)), (h i).boxed) }

  filter-in-in : (b : Box) → Under b s.layers → (count : ℕ) (f : Filter) (q : ℕ) → All (PutIn s.layers) (plan-filter-in b count f q s).puts
  unfolding plan-filter-in filter-puts
  filter-in-in b u count f q =
      all-over (on (paint (span_of b) None (length s.attrs.paints))) (λ i h. inside (on (paint (span_of b) None (length s.attrs.paints)) i) (in_all i b s.layers u n h)) (rows_inside b)

  filter-layers : (count : ℕ) (f : Filter) (q : ℕ) → (plan-filter count f q s).layers ≡ s.layers
  unfolding plan-filter plan-filter-in
  filter-layers count f q = filter-plans (λ p. p.layers ≡ s.layers) count f q s refl refl (λ g. refl)

  filter-in : (count : ℕ) (f : Filter) (q : ℕ) → All (PutIn s.layers) (plan-filter count f q s).puts
  filter-in count f q =
      filter-plans (λ p. All (PutIn s.layers) p.puts) count f q s nil nil
      (λ g. filter-in-in (filter-box s.frame.viewport (box_of s) f) (meet-under s.frame.viewport (to-local s.frame.viewport f.dest) s.layers) count f q)

-- a pop: closing fills change no levels, and each touched row loses its innermost
pub data Closes : Put → Type 0 where
  closed : (s : Span) (a : Option ℕ) (i r : ℕ) → Closes (on (close s a i) r)

module _ (w n : ℕ) where
  close-one : (s : Span) (a : Option ℕ) (k r i : ℕ) (rs : List Row) → levels-at (change (do-act Row row-ops w n (close s a k)) r rs) i ≡ levels-at rs i
  close-one s a k zero i [] = refl
  close-one s a k (suc r) i [] = refl
  close-one s a k zero zero (y ∷ ys) = act-levels w n (close s a k) y
  close-one s a k zero (suc i) (y ∷ ys) = refl
  close-one s a k (suc r) zero (y ∷ ys) = refl
  close-one s a k (suc r) (suc i) (y ∷ ys) = close-one s a k r i ys

  pub closes-levels : {ps : List Put} → All Closes ps → (rs : List Row) (i : ℕ) → levels-at (do-puts Row row-ops w n ps rs) i ≡ levels-at rs i
  unfolding do-puts
  closes-levels nil rs i = refl
  closes-levels (cons (closed s a k r) cs) rs i = closes-levels cs (change (do-act Row row-ops w n (close s a k)) r rs) i ∙ close-one s a k r i rs

  pop-here : (r : ℕ) (rs : List Row) → levels-at (change (do-act Row row-ops w n pop) r rs) r ≡ levels-at rs r - 1
  pop-here zero [] = refl
  pop-here (suc r) [] = refl
  pop-here zero (y ∷ ys) = act-levels w n pop y
  pop-here (suc r) (y ∷ ys) = pop-here r ys

  -- row i after the pops of some rows has no more levels than before, and at most k
  abbrev Falls : ℕ → ℕ → List ℕ → List Row → Type 0
  Falls i k is rs = (levels-at (do-puts Row row-ops w n (map (on pop) is) rs) i ≤ levels-at rs i) × (levels-at (do-puts Row row-ops w n (map (on pop) is) rs) i ≤ k)

  -- .. if it has at most one more before, and then is among them
  abbrev Due : ℕ → ℕ → List ℕ → List Row → Type 0
  Due i k is rs = (levels-at rs i ≤ suc k) × (levels-at rs i ≡ suc k → some_of (eqb i) is ≡ true)

  pub pops-levels : (i k : ℕ) (is : List ℕ) (rs : List Row) → Due i k is rs → Falls i k is rs
  unfolding do-puts
  pops-levels i k [] rs h = let f : levels-at rs i ≡ suc k → ⊥ = λ e. never (sym (h.1 e)) in (omega arith, omega (arith, h.0))
  pops-levels i k (j ∷ js) rs h = go (eqb i j) refl (pops-levels i k js (change (do-act Row row-ops w n pop) j rs))
    where
      go : (t : Bool) → eqb i j ≡ t → (Due i k js (change (do-act Row row-ops w n pop) j rs) → Falls i k js (change (do-act Row row-ops w n pop) j rs))
          → (levels-at (do-puts Row row-ops w n (map (on pop) js) (change (do-act Row row-ops w n pop) j rs)) i ≤ levels-at rs i)
          × (levels-at (do-puts Row row-ops w n (map (on pop) js) (change (do-act Row row-ops w n pop) j rs)) i ≤ k)
      go true e more =
          let q : i ≡ j = eqb-true i j e in
          let l : levels-at (change (do-act Row row-ops w n pop) j rs) i ≡ levels-at rs i - 1 = rw q (pop-here j rs) in
          let d = more (omega (arith, h.0), λ z. absurd (omega (arith, h.0))) in
          (omega (arith, d.0), d.1)
      go false e more =
          let l : levels-at (change (do-act Row row-ops w n pop) j rs) i ≡ levels-at rs i = ap levels (change-else (do-act Row row-ops w n pop) j i rs fresh-row (λ z. eqb-false i j e (sym z))) in
          let d = more (omega (arith, h.0), λ z. rw e at (h.1 (omega arith))) in
          (omega (arith, d.0), d.1)

-- rule 10: a row with as many levels as layers is among the touched ones
pub touched-has : (n i k : ℕ) (rs : List Row) → k < length rs → levels-at rs k ≡ n → some_of (eqb (i + k)) (touched Row row-ops n i rs) ≡ true
unfolding touched
touched-has n i k [] h e = absurd (omega arith)
touched-has n i zero (r ∷ rs) h e =
    let z : eqb (i + 0) i ≡ true = eq-eqb (i + 0) i (omega arith) in
    let y : eqb (levels r) n ≡ true = eq-eqb (levels r) n e in
    rw (y, z)
touched-has n i (suc k) (r ∷ rs) h e =
    let z : suc i + k ≡ i + suc k = omega arith in
    go (eqb (levels r) n) (rw z at (touched-has n (suc i) k rs (omega arith) e))
  where
    or-true : (a b : Bool) → b ≡ true → (a || b) ≡ true
    or-true true b q = refl
    or-true false b q = q

    go : (t : Bool) → some_of (eqb (i + suc k)) (touched Row row-ops n (suc i) rs) ≡ true
        → some_of (eqb (i + suc k)) (cond t (i ∷ touched Row row-ops n (suc i) rs) (touched Row row-ops n (suc i) rs)) ≡ true
    go true rest = or-true (eqb (i + suc k) i) (some_of (eqb (i + suc k)) (touched Row row-ops n (suc i) rs)) rest
    go false rest = rest

closes_in : (i : ℕ) (ts : List ℕ) (ks : List Cut) → All Closes (close-puts i ts ks)
unfolding close-puts
closes_in i ts [] = nil
closes_in i ts (k ∷ ks) = all-if (some_of (eqb k.row) ts) (cons (closed k.stretch.tiles k.stretch.alpha i k.row) (closes_in i ts ks)) (closes_in i ts ks)

closing-in : (c : Option Clip) (v own parent : Box) (i : ℕ) (ss : List Segment) (ts : List ℕ) → All Closes (closing c v own parent i ss ts)
unfolding closing
closing-in None v own parent i ss ts = all-mapped (on (close (span_of own) None i)) (λ r. closed (span_of own) None i r) ts
closing-in (Some c) v own parent i ss ts = closes_in i ts (cuts v parent (clip-segments (Some c) ss))

-- the calls
keep-plan : (p : Plan) (s : Screen Row) → Nested p.layers → All (PutIn p.layers) p.puts → ((i : ℕ) → Reached p.layers i (levels-at s.rows i)) → Reaching (done Row row-ops p s)
unfolding done
keep-plan p s n a h = record { nested = n; rows = puts-keep (bucket s.state.frame) p.layers a s.rows h }

abbrev pop-of : Screen Row → List Layer → List Segment → Plan
pop-of s ls ss = plan-pop ls ss (touched Row row-ops (length ls) 0 s.rows) s.state

lowered : (w n : ℕ) (l : Layer) (ls : List Layer) (rs : List Row) (cs : List Put) → All Closes cs → (ts : List ℕ) (i : ℕ) → Reached (l ∷ ls) i (levels-at rs i)
    → (levels-at rs i ≡ suc (length ls) → some_of (eqb i) ts ≡ true) → Reached ls i (levels-at (do-puts Row row-ops w n (cs ++ map (on pop) ts) rs) i)
lowered w n l ls rs cs c ts i h g =
    let e = closes-levels w n c rs i in
    let d = pops-levels w n i (length ls) ts (do-puts Row row-ops w n cs rs) (omega (arith, e, h.few), λ z. g (sym e ∙ z)) in
    let m = levels-at (do-puts Row row-ops w n (map (on pop) ts) (do-puts Row row-ops w n cs rs)) i in
    rw (puts-append Row row-ops w n cs (map (on pop) ts) rs)
    (record { few = d.1; boxed = boxed-less ls i (levels-at rs i) m (omega (arith, d.0, e)) h.boxed.1 })

has_all : (n i : ℕ) (rs : List Row) → levels-at rs i ≡ suc n → some_of (eqb i) (touched Row row-ops (suc n) 0 rs) ≡ true
has_all n i rs e =
    let whole : 0 + i ≡ i = omega arith in
    let f : length rs ≤ i → ⊥ = λ l. omega (arith, past-levels rs i l) in
    rw whole at (touched-has (suc n) 0 i rs (omega arith) e)

popped-row : (s : Screen Row) (l : Layer) (ls : List Layer) (ss : List Segment) → ((i : ℕ) → Reached (l ∷ ls) i (levels-at s.rows i))
    → (i : ℕ) → Reached ls i (levels-at (do-puts Row row-ops (bucket s.state.frame) (length ls) (pop-of s (l ∷ ls) ss).puts s.rows) i)
unfolding plan-pop
popped-row s l ls ss h i =
    lowered (bucket s.state.frame) (length ls) l ls s.rows
    (closing l.props.clip s.state.frame.viewport l.bounds (clip-box s.state.frame.viewport ls) (length s.state.attrs.layers) ss (touched Row row-ops (suc (length ls)) 0 s.rows))
    (closing-in l.props.clip s.state.frame.viewport l.bounds (clip-box s.state.frame.viewport ls) (length s.state.attrs.layers) ss (touched Row row-ops (suc (length ls)) 0 s.rows))
    (touched Row row-ops (suc (length ls)) 0 s.rows) i (h i) (has_all (length ls) i s.rows)

keep-pop : (ls : List Layer) (ss : List Segment) (s : Screen Row) → s.state.layers ≡ ls → Reaching s → Reaching (done Row row-ops (pop-of s ls ss) s)
unfolding plan-pop done
keep-pop [] ss s e r = keep-plan (still NoLayer s.state) s r.nested nil r.rows
keep-pop (l ∷ ls) ss s e r = record { nested = (rw e at r.nested).1; rows = popped-row s l ls ss (rw e at r.rows) }

fill-keeps : (ps : List Paint) (ss : List Segment) (d : Draw) (s : Screen Row) → Reaching s → Reaching (done Row row-ops (plan-fill ps ss d s.state) s)
unfolding plan-fill
fill-keeps ps ss d s r = keep-plan (plan-fill ps ss d s.state) s r.nested (fill-in s.state r.nested ps ss d) r.rows

-- a step done without limits
done-keeps : (x : Step) (s : Screen Row) → Reaching s → Reaching (done Row row-ops (planned Row row-ops x s) s)
unfolding plan
done-keeps (a-fill ps ss d) s r = fill-keeps ps ss d s r
done-keeps (a-push p) s r = keep-plan (plan-push p s.state) s (push-nested s.state r.nested p) (push-in s.state r.nested p) (push-rows s.state r.nested p s.rows r.rows)
done-keeps (a-pop ss) s r = keep-pop s.state.layers ss s refl r
done-keeps (a-filter count f q) s r =
    let e = filter-layers s.state r.nested count f q in
    keep-plan (plan-filter count f q s.state) s (rw e r.nested) (rw e (filter-in s.state r.nested count f q)) (rw e r.rows)

-- every step, refused or done
pub call-reaching : (x : Step) (s : Screen Row) → Reaching s → Reaching (call Row row-ops x s).value
unfolding call perform
call-reaching x s r = go (eqb (refusal Row row-ops (planned Row row-ops x s) (done Row row-ops (planned Row row-ops x s) s)) Done)
  where
    go : (c : Bool)
        → Reaching (cond c (answer Done (done Row row-ops (planned Row row-ops x s) s)) (answer (refusal Row row-ops (planned Row row-ops x s) (done Row row-ops (planned Row row-ops x s) s)) s)).value
    go true = done-keeps x s r
    go false = r

-- .. and a reset
pub reset-reaching : (f : Frame) → Reaching (reset fresh-row f)
unfolding reset
reset-reaching f = record { nested = tt; rows = λ i. record { few = rw (fresh-levels (rows_of f.viewport) i) (omega arith); boxed = tt } }
  where
    fresh-levels : (n i : ℕ) → levels-at (replicate n fresh-row) i ≡ 0
    fresh-levels zero i = refl
    fresh-levels (suc n) zero = refl
    fresh-levels (suc n) (suc i) = fresh-levels n i
