-- Every walk of the rules keeps what each of its steps keeps: a screen sound, its rows fair and its frame as it was. Assumes nothing.
use Rattle.std.proofs.Common.{◌≡◌, refl, ◌∙◌, Bool, true, false, not, cond, List, [], ◌∷◌, ℕ, zero, suc, ◌-◌, eqb, length, get_or}
use Rattle.rules.specs.Lists.{slice}
use Rattle.rules.specs.Answers.{Answer, answer, Done}
use Rattle.rules.specs.Inputs.{Draw, needs-buffer}
use Rattle.rules.specs.Rows.{Row, row-ops}
use Rattle.rules.specs.Plans.{Frame, Step, a-fill, a-push, a-pop, a-filter}
use Rattle.rules.specs.Steps.{Screen, refusal, done, perform, call}
use Rattle.rules.specs.Recording.{Recording, LayerRec, Node, layer-rec}
use Rattle.rules.specs.Walk.{go_on, ◌then◌, when, each, props-of, walk-filter, walk-node, walk-nodes, walk-layer, walk-all}
use Rattle.rules.proofs.laws.Maps.{planned}
use Rattle.refine_steps.specs.Sound.{Sound}
use Rattle.refine_steps.proofs.Kept.{call-sound}
use Rattle.refine_paint.specs.Fair.{FairRows}
use Rattle.refine_paint.proofs.Kept.{call-fair}

pub record Kept (f : Frame) (s : Screen Row) : Type 0 where
  pub sound : Sound s
  pub fair : FairRows s
  pub frame : s.state.frame ≡ f

-- a step does not change the frame
call-frame : (x : Step) (s : Screen Row) → (call Row row-ops x s).value.state.frame ≡ s.state.frame
unfolding call perform done
call-frame x s = go (eqb (refusal Row row-ops (planned Row row-ops x s) (done Row row-ops (planned Row row-ops x s) s)) Done)
  where
    go : (t : Bool)
        → (cond t (answer Done (done Row row-ops (planned Row row-ops x s) s)) (answer (refusal Row row-ops (planned Row row-ops x s) (done Row row-ops (planned Row row-ops x s) s)) s)).value.state.frame
        ≡ s.state.frame
    go true = refl
    go false = refl

-- f keeps what P says of a screen
pub record Keeps (P : Screen Row → Type 0) (f : Screen Row → Answer (Screen Row)) : Type 0 where
  pub kept : (s : Screen Row) → P s → P (f s).value

abbrev step : Step → Screen Row → Answer (Screen Row)
step = call Row row-ops

module _ {P : Screen Row → Type 0} where
  then_keeps : {f g : Screen Row → Answer (Screen Row)} → Keeps P f → Keeps P g → Keeps P (f then g)
  unfolding ◌then◌
  then_keeps {f} {g} p q = record { kept = λ s h. go s h (eqb (f s).number Done) }
    where
      go : (s : Screen Row) → P s → (t : Bool) → P (go_on t (f s) g).value
      go s h true = q.kept (f s).value (p.kept s h)
      go s h false = p.kept s h

  when-keeps : (t : Bool) {f : Screen Row → Answer (Screen Row)} → Keeps P f → Keeps P (when t f)
  unfolding when
  when-keeps true p = p
  when-keeps false p = record { kept = λ s h. h }

  each_keeps : {A : Type 0} {f : A → Screen Row → Answer (Screen Row)} → ((x : A) → Keeps P (f x)) → (xs : List A) → Keeps P (each f xs)
  unfolding each
  each_keeps p [] = record { kept = λ s h. h }
  each_keeps p (x ∷ xs) = then_keeps (p x) (each_keeps p xs)

  -- Every step of a walk keeps it, given what Own says of each layer record that the walk can reach.
  module _ (Own : LayerRec → Type 0) (r : Recording) (own : (k : ℕ) → Own (get_or r.layers k (layer-rec [])))
      (fills : (d : Draw) → Keeps P (step (a-fill r.paints r.segments d))) (pushes : (y : LayerRec) → Own y → Keeps P (step (a-push (props-of y))))
      (pops : Keeps P (step (a-pop r.segments))) (filters : (y : LayerRec) → Keeps P (step (a-filter (length r.paints) y.filter y.panel))) where
    filter-keeps : (y : LayerRec) → Own y → Keeps P (walk-filter (Screen Row) step r y)
    unfolding walk-filter
    filter-keeps y o = then_keeps (then_keeps (when-keeps (needs-buffer (props-of y)) (pushes y o)) (filters y)) (when-keeps (needs-buffer (props-of y)) pops)

    module _ {f : LayerRec → Screen Row → Answer (Screen Row)} (p : (y : LayerRec) → Own y → Keeps P (f y)) where
      node-keeps : (m : Node) → Keeps P (walk-node (Screen Row) step r f m)
      unfolding walk-node
      node-keeps m = then_keeps (each_keeps fills (slice m.start m.end r.draws)) (when-keeps (not (eqb m.layer 0)) (p _ (own (m.layer - 1))))

      nodes-keep : (a b : ℕ) → Keeps P (walk-nodes (Screen Row) step r f a b)
      unfolding walk-nodes
      nodes-keep a b = each_keeps node-keeps (slice a b r.nodes)

    layer-keeps : (d : ℕ) (y : LayerRec) → Own y → Keeps P (walk-layer (Screen Row) step r d y)
    unfolding walk-layer
    layer-keeps zero y o = then_keeps (when-keeps (eqb y.kind 0) (pushes y o)) (when-keeps (eqb y.kind 1) (filter-keeps y o))
    layer-keeps (suc d) y o =
        then_keeps
        (when-keeps (eqb y.kind 0) (then_keeps (then_keeps (pushes y o) (nodes-keep (layer-keeps d) y.start y.end)) pops))
        (when-keeps (eqb y.kind 1) (filter-keeps y o))

    pub walk-keeps-by : Keeps P (walk-all (Screen Row) step r)
    unfolding walk-all
    walk-keeps-by = nodes-keep (layer-keeps 16) r.start r.end

step_keeps : {k : Frame} (x : Step) → Keeps (Kept k) (step x)
step_keeps x = record { kept = λ s h. record { sound = call-sound x s h.sound; fair = call-fair x s h.sound h.fair; frame = call-frame x s ∙ h.frame } }

-- the walk of a recording
pub walk-keeps : {k : Frame} (r : Recording) → Keeps (Kept k) (walk-all (Screen Row) step r)
walk-keeps r =
    walk-keeps-by (λ y. Unit {0}) r (λ k. tt) (λ d. step_keeps (a-fill r.paints r.segments d)) (λ y o. step_keeps (a-push (props-of y))) (step_keeps (a-pop r.segments))
    (λ y. step_keeps (a-filter (length r.paints) y.filter y.panel))
