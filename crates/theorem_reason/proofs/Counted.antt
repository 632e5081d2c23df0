-- The numbers by which a tile's story is refused: 6, 8 and 9. It closes no layer that it has not opened, so that it is never refused by 7.
use Rattle.std.proofs.Common.{ℕ, zero, suc, ◌+◌, ◌-◌, arith, ◌≡◌, refl, sym, ◌∙◌, ap, Bool, true, false, ◌&&◌, ◌||◌, not, cond, List, [], ◌∷◌, length, get_or, leb, eqb, eqb-true, eq-eqb}
use Rattle.sizes.specs.Sizes.{most-layers, most-attrs, most-filters}
use Rattle.rules.specs.Lists.{some_of, is-empty, slice}
use Rattle.rules.specs.Answers.{Answer, answer, settle, first_of, Done, Deep, Ids, FullAttrs}
use Rattle.rules.specs.Boxes.{Box}
use Rattle.rules.specs.Segments.{Segment}
use Rattle.rules.specs.Inputs.{Paint, Draw, Props, Filter, needs-buffer}
use Rattle.rules.specs.Plans.{Layer, Step, a-fill, a-push, a-pop, a-filter, filter-box, clip-box, draws-nothing, layer-box, touches-all}
use Rattle.rules.specs.Recording.{Recording, LayerRec, Node, layer-rec}
use Rattle.rules.specs.Walk.{go_on, ◌then◌, when, each, props-of, walk-filter, walk-node, walk-nodes, walk-layer, walk-all}
use Rattle.rules.proofs.All.{never}
use Rattle.rules_picture.proofs.Cases.{by}
use Rattle.tile.specs.Telling.{Telling, in_row, no-id, undrawn, drawn, closed, filtered, tell-fill, tell-push, tell-pop, tell-filter, tell-at, nothing-told}

-- one of the story's numbers
abbrev pub Told-number : ℕ → Type 0
Told-number n = some_of (eqb n) (Done ∷ Deep ∷ Ids ∷ FullAttrs ∷ []) ≡ true

-- with k layers open afterwards
record Left (k : ℕ) (a : Answer Telling) : Type 0 where
  number : Told-number a.number
  opened : a.number ≡ Done → length a.value.opened ≡ k

-- from where j layers are open
abbrev Runs : (Telling → Answer Telling) → ℕ → ℕ → Type 0
Runs f j k = (t : Telling) → length t.opened ≡ j → Left k (f t)

settled-left : (n k : ℕ) (t u : Telling) → Told-number n → length u.opened ≡ k → Left k (settle n t u)
settled-left n k t u h e = by (eqb n Done)
    (λ y. rw y (record { number = refl; opened = λ z. e }))
    (λ y. rw y (record { number = h; opened = λ z. never (sym (eq-eqb n Done z) ∙ y) }))

one-deep : (a : Bool) → Told-number (first_of ((a, Deep) ∷ []))
one-deep true = refl
one-deep false = refl

ids-attrs : (a b : Bool) → Told-number (first_of ((a, Ids) ∷ (b, FullAttrs) ∷ []))
ids-attrs true b = refl
ids-attrs false true = refl
ids-attrs false false = refl

-- the steps that take an id and an attribute
adds-left : (a b : Bool) (k : ℕ) (t u : Telling) → length u.opened ≡ k → Left k (settle (first_of ((a, Ids) ∷ (b, FullAttrs) ∷ [])) t u)
adds-left a b k t u e = settled-left (first_of ((a, Ids) ∷ (b, FullAttrs) ∷ [])) k t u (ids-attrs a b) e

then-runs : {f g : Telling → Answer Telling} {i j k : ℕ} → Runs f i j → Runs g j k → Runs (f then g) i k
unfolding ◌then◌
then-runs {f} {g} {i} {j} {k} p q t h = go (eqb (f t).number Done) refl
  where
    go : (b : Bool) → eqb (f t).number Done ≡ b → Left k (go_on b (f t) g)
    go true e = q (f t).value ((p t h).opened (eqb-true _ _ e))
    go false e = record { number = (p t h).number; opened = λ z. never (sym (eq-eqb (f t).number Done z) ∙ e) }

nothing-runs : (k : ℕ) → Runs (answer Done) k k
nothing-runs k t h = record { number = refl; opened = λ z. h }

when-runs : (b : Bool) {f : Telling → Answer Telling} {k : ℕ} → Runs f k k → Runs (when b f) k k
unfolding when
when-runs true p = p
when-runs false p = nothing-runs _

each-runs : {A : Type 0} {f : A → Telling → Answer Telling} {k : ℕ} → ((x : A) → Runs (f x) k k) → (xs : List A) → Runs (each f xs) k k
unfolding each
each-runs p [] = nothing-runs _
each-runs p (x ∷ xs) = then-runs (p x) (each-runs p xs)

module _ (w : ℕ) (v : Box) (row tile : ℕ) where
  fill-runs : (own : List Segment) (e : Bool) (q k : ℕ) → Runs (tell-fill w v row tile own e q) k k
  unfolding tell-fill
  fill-runs own e q k t h =
      let u = cond (is-empty own) (undrawn w v row tile t) (drawn w v row tile own e q t) in
      let o : length u.opened ≡ k = by (is-empty own) (λ y. rw y h) (λ y. rw y h) in
      adds-left (no-id w v row tile t) (not (is-empty own) && leb most-attrs t.paints) k t u o

  pop-runs : (ss : List Segment) (k : ℕ) (ls : List Layer) (t : Telling) → length ls ≡ suc k → Left k (tell-pop w v row tile ls ss t)
  unfolding tell-pop
  pop-runs ss k [] t h = let z : ◌≡◌ {A = ℕ} 0 (suc k) = h in absurd (omega arith)
  pop-runs ss k (l ∷ ls) t h = adds-left (no-id w v row tile t) (leb most-attrs t.layers) k t (closed w v row tile l ls ss t) (omega arith)

  filter-runs : (f : Filter) (q k : ℕ) → Runs (tell-filter w v row tile f q) k k
  unfolding tell-filter
  filter-runs f q k t h =
      let b = filter-box v (clip-box v t.opened) f in
      by (draws-nothing f b)
      (λ y. rw y (record { number = refl; opened = λ z. h }))
      (λ y. rw y (adds-left (no-id w v row tile t) (leb most-attrs t.paints || leb most-filters t.filters) k t (filtered w v row tile b f q t) h))

  abbrev told : Step → Telling → Answer Telling
  told = tell-at w v row tile

  fill-told : (x : List Paint) (ss : List Segment) (d : Draw) (k : ℕ) → Runs (told (a-fill x ss d)) k k
  unfolding tell-at
  fill-told ps ss d k t h = fill-runs _ _ _ k t h

  push-told : (p : Props) (k : ℕ) → Runs (told (a-push p)) k (suc k)
  unfolding tell-at tell-push
  push-told p k t h =
      let b = layer-box v (clip-box v t.opened) p.clip in
      let u : Telling =
      record {
        next = t.next;
        paints = t.paints;
        layers = t.layers;
        filters = t.filters;
        levels = cond (touches-all p b && in_row b row) (length t.opened + 1) t.levels;
        opened = record { props = p; bounds = b } ∷ t.opened;
        lines = t.lines;
      } in
      settled-left (first_of ((leb most-layers (length t.opened), Deep) ∷ [])) (suc k) t u (one-deep (leb most-layers (length t.opened))) (ap (λ (n : ℕ). suc n) h)

  -- with 16 open it is refused
  deep-told : (p : Props) → Runs (told (a-push p)) most-layers most-layers
  unfolding tell-at tell-push
  deep-told p t h = rw h (record { number = refl; opened = λ z. absurd (omega arith) })

  pop-told : (ss : List Segment) (k : ℕ) → Runs (told (a-pop ss)) (suc k) k
  unfolding tell-at
  pop-told ss k t h = pop-runs ss k t.opened t h

  filter-told : (n : ℕ) (f : Filter) (q k : ℕ) → Runs (told (a-filter n f q)) k k
  unfolding tell-at
  filter-told n f q k = filter-runs f q k

  -- a filter layer's buffer, where it needs one
  when-push : (b : Bool) (p : Props) (k : ℕ) → Runs (when b (told (a-push p))) k (cond b (suc k) k)
  unfolding when
  when-push true p k = push-told p k
  when-push false p k = nothing-runs k

  when-pop : (b : Bool) (ss : List Segment) (k : ℕ) → Runs (when b (told (a-pop ss))) (cond b (suc k) k) k
  unfolding when
  when-pop true ss k = pop-told ss k
  when-pop false ss k = nothing-runs k

  module _ (r : Recording) where
    filter-layer-runs : (y : LayerRec) (k : ℕ) → Runs (walk-filter Telling told r y) k k
    unfolding walk-filter
    filter-layer-runs y k =
        let b = needs-buffer (props-of y) in
        then-runs (then-runs (when-push b (props-of y) k) (filter-told _ y.filter y.panel (cond b (suc k) k))) (when-pop b r.segments k)

    nodes-run : {f : LayerRec → Telling → Answer Telling} (k : ℕ) → ((y : LayerRec) → Runs (f y) k k) → (a b : ℕ) → Runs (walk-nodes Telling told r f a b) k k
    unfolding walk-nodes walk-node
    nodes-run k p a b =
        each-runs (λ (m : Node). then-runs (each-runs (λ (d : Draw). fill-told r.paints r.segments d k) (slice m.start m.end r.draws))
        (when-runs (not (eqb m.layer 0)) (p (get_or r.layers (m.layer - 1) (layer-rec [])))))
        (slice a b r.nodes)

    layer-runs : (d k : ℕ) → d + k ≡ most-layers → (y : LayerRec) → Runs (walk-layer Telling told r d y) k k
    unfolding walk-layer
    layer-runs zero k e y =
        let z : k ≡ most-layers = omega arith in
        rw z (then-runs (when-runs (eqb y.kind 0) (deep-told (props-of y))) (when-runs (eqb y.kind 1) (filter-layer-runs y most-layers)))
    layer-runs (suc d) k e y =
        then-runs
        (when-runs (eqb y.kind 0) (then-runs (then-runs (push-told (props-of y) k) (nodes-run (suc k) (layer-runs d (suc k) (omega arith)) y.start y.end)) (pop-told r.segments k)))
        (when-runs (eqb y.kind 1) (filter-layer-runs y k))

  -- of a whole recording
  pub told-number : (r : Recording) (ws : List ℕ) → Told-number (walk-all Telling (tell-at w v row tile) r (nothing-told ws)).number
  unfolding walk-all
  told-number r ws = (nodes-run r 0 (layer-runs r most-layers 0 refl) r.start r.end (nothing-told ws) refl).number
