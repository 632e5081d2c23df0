-- A walk over one kind of state follows the walk over another: what holds of each of a recording's own steps holds of its walk. Assumes nothing.
use Prim.{Unit, tt}
use Rattle.std.proofs.Common.{◌≡◌, refl, sym, ◌∙◌, subst, Bool, true, false, not, List, [], ℕ, zero, suc, ◌-◌, eqb, length, get_or, eqb-true, eq-eqb}
use Rattle.rules.specs.Lists.{slice}
use Rattle.rules.specs.Answers.{Answer, answer, Done}
use Rattle.rules.specs.Inputs.{Draw, needs-buffer}
use Rattle.rules.specs.Plans.{Step, a-fill, a-push, a-pop, a-filter}
use Rattle.rules.specs.Recording.{Recording, LayerRec, Node, layer-rec}
use Rattle.rules.specs.Walk.{go_on, ◌then◌, when, each, props-of, walk-filter, walk-node, walk-nodes, walk-layer, walk-all}
use Rattle.rules.proofs.All.{All, nil, cons, all_any, all_take, all_drop, never}

-- A fact of each of a recording's own steps: its fills, the pushes of its layers and the filter fills of its filter layers, its pops. Where a node names no
-- layer that there is the walk takes the record of no words.
pub record OwnLayer (Own : Step → Type 0) (r : Recording) (y : LayerRec) : Type 0 where
  pub push : Own (a-push (props-of y))
  pub filter : eqb y.kind 1 ≡ true → Own (a-filter (length r.paints) y.filter y.panel)

pub record Owns (Own : Step → Type 0) (r : Recording) : Type 0 where
  pub fills : All (λ (d : Draw). Own (a-fill r.paints r.segments d)) r.draws
  pub layers : All (OwnLayer Own r) r.layers
  pub no-layer : OwnLayer Own r (layer-rec [])
  pub pops : Own (a-pop r.segments)

-- .. that every step has
pub owns_any : {Own : Step → Type 0} → ((x : Step) → Own x) → (r : Recording) → Owns Own r
owns_any {Own = Own} f r =
    record {
      fills = all_any (λ (d : Draw). f (a-fill r.paints r.segments d)) r.draws;
      layers = all_any (λ (y : LayerRec). layer y) r.layers;
      no-layer = layer (layer-rec []);
      pops = f (a-pop r.segments);
    }
  where
    layer : (y : LayerRec) → OwnLayer Own r y
    layer y = record { push = f (a-push (props-of y)); filter = λ e. f (a-filter (length r.paints) y.filter y.panel) }

all_or : {A : Type 0} {P : A → Type 0} {xs : List A} → All P xs → {d : A} → P d → (i : ℕ) → P (get_or xs i d)
all_or nil q i = q
all_or (cons p a) q zero = p
all_or (cons p a) q (suc i) = all_or a q i

-- Q: the numbers that the other walk is known to give too
module _ (Q : ℕ → Type 0) (goes_on : Q Done) {S T : Type 0} (R : S → T → Type 0) where
  -- the same number where Q holds of it, and where nothing was refused, states that R relates
  pub record Agree (a : Answer S) (b : Answer T) : Type 0 where
    pub number : Q a.number → b.number ≡ a.number
    pub value : a.number ≡ Done → R a.value b.value

  abbrev pub Agrees : (S → Answer S) → (T → Answer T) → Type 0
  Agrees f g = (s : S) (t : T) → R s t → Agree (f s) (g t)

  module _ {f f' : S → Answer S} {g g' : T → Answer T} where
    then_agrees : Agrees f g → Agrees f' g' → Agrees (f then f') (g then g')
    unfolding ◌then◌
    then_agrees p q s t r = go (eqb (f s).number Done) refl
      where
        both-done : (f s).number ≡ Done → eqb (g t).number Done ≡ true
        both-done d = eq-eqb (g t).number Done ((p s t r).number (subst Q (sym d) goes_on) ∙ d)

        stops : (y : Bool) → eqb (g t).number Done ≡ y → eqb (f s).number Done ≡ false → Q (f s).number → (go_on y (g t) g').number ≡ (f s).number
        stops false e d k = (p s t r).number k
        stops true e d k = never (sym (eq-eqb (f s).number Done (sym ((p s t r).number k) ∙ eqb-true _ _ e)) ∙ d)

        go : (x : Bool) → eqb (f s).number Done ≡ x → Agree (go_on x (f s) f') (go_on (eqb (g t).number Done) (g t) g')
        go true d = let e = eqb-true _ _ d in rw (both-done e) (q (f s).value (g t).value ((p s t r).value e))
        go false d = record { number = stops (eqb (g t).number Done) refl d; value = λ e. never (sym (eq-eqb (f s).number Done e) ∙ d) }

  nothing-agrees : (s : S) (t : T) → R s t → Agree (answer Done s) (answer Done t)
  nothing-agrees s t r = record { number = λ k. refl; value = λ e. r }

  when-agrees : (b : Bool) {f : S → Answer S} {g : T → Answer T} → (b ≡ true → Agrees f g) → Agrees (when b f) (when b g)
  unfolding when
  when-agrees true p s t r = p refl s t r
  when-agrees false p s t r = nothing-agrees s t r

  each-agrees : {A : Type 0} {f : A → S → Answer S} {g : A → T → Answer T} {xs : List A} → All (λ (x : A). Agrees (f x) (g x)) xs → Agrees (each f xs) (each g xs)
  unfolding each
  each-agrees nil s t r = nothing-agrees s t r
  each-agrees (cons p a) s t r = then_agrees p (each-agrees a) s t r

  module _ (here : Step → S → Answer S) (there : Step → T → Answer T) where
    abbrev pub Own : Step → Type 0
    Own x = Agrees (here x) (there x)

    module _ (r : Recording) (own : Owns Own r) where
      filter-agrees : (y : LayerRec) → OwnLayer Own r y → eqb y.kind 1 ≡ true → Agrees (walk-filter S here r y) (walk-filter T there r y)
      unfolding walk-filter
      filter-agrees y o k =
          then_agrees (then_agrees (when-agrees (needs-buffer (props-of y)) (λ e. o.push)) (o.filter k))
          (when-agrees (needs-buffer (props-of y)) (λ e. own.pops))

      module _ {f : LayerRec → S → Answer S} {g : LayerRec → T → Answer T} (p : (y : LayerRec) → OwnLayer Own r y → Agrees (f y) (g y)) where
        node-agrees : (m : Node) → Agrees (walk-node S here r f m) (walk-node T there r g m)
        unfolding walk-node
        node-agrees m =
            then_agrees (each-agrees (all_take (m.end - m.start) (all_drop m.start own.fills)))
            (when-agrees (not (eqb m.layer 0)) (λ e. p (get_or r.layers (m.layer - 1) (layer-rec [])) (all_or own.layers own.no-layer (m.layer - 1))))

        nodes-agree : (a b : ℕ) → Agrees (walk-nodes S here r f a b) (walk-nodes T there r g a b)
        unfolding walk-nodes
        nodes-agree a b = each-agrees (all_any node-agrees (slice a b r.nodes))

      layer-agrees : (d : ℕ) (y : LayerRec) → OwnLayer Own r y → Agrees (walk-layer S here r d y) (walk-layer T there r d y)
      unfolding walk-layer
      layer-agrees zero y o = then_agrees (when-agrees (eqb y.kind 0) (λ e. o.push)) (when-agrees (eqb y.kind 1) (filter-agrees y o))
      layer-agrees (suc d) y o =
          then_agrees
          (when-agrees (eqb y.kind 0) (λ e. then_agrees (then_agrees o.push (nodes-agree (layer-agrees d) y.start y.end)) own.pops))
          (when-agrees (eqb y.kind 1) (filter-agrees y o))

      -- the walk of a recording whose own steps agree
      pub own-walk-agrees : Agrees (walk-all S here r) (walk-all T there r)
      unfolding walk-all
      own-walk-agrees = nodes-agree (layer-agrees 16) r.start r.end

    -- .. where all steps do
    pub walk-agrees : ((x : Step) → Agrees (here x) (there x)) → (r : Recording) → Agrees (walk-all S here r) (walk-all T there r)
    walk-agrees p r = own-walk-agrees r (owns_any p r)

-- .. with every number the same
module _ {S T : Type 0} (R : S → T → Type 0) where
  pub record Both (a : Answer S) (b : Answer T) : Type 0 where
    pub number : b.number ≡ a.number
    pub value : a.number ≡ Done → R a.value b.value

  abbrev pub Follow : (S → Answer S) → (T → Answer T) → Type 0
  Follow f g = (s : S) (t : T) → R s t → Both (f s) (g t)

  always : {a : Answer S} {b : Answer T} → Both a b → Agree (λ n. Unit {0}) tt R a b
  always b = record { number = λ e. b.number; value = b.value }

  ever : {a : Answer S} {b : Answer T} → Agree (λ n. Unit {0}) tt R a b → Both a b
  ever a = record { number = a.number tt; value = a.value }

  pub walk-follows : (here : Step → S → Answer S) (there : Step → T → Answer T) → ((x : Step) → Follow (here x) (there x)) → (r : Recording) → Follow (walk-all S here r) (walk-all T there r)
  walk-follows here there f r s t h = ever (walk-agrees (λ n. Unit {0}) tt R here there (λ x y z k. always (f x y z k)) r s t h)
