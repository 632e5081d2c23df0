-- The open layers of a tile's story: each box lies within the one around it, and a row that is touched for a layer is a row of its box.
use Rattle.std.proofs.Common.{ℕ, le_refl, ◌≡◌, refl, sym, ◌∙◌, Bool, true, false, ◌&&◌, not, Option, None, Some, List, [], ◌∷◌, ◌++◌}
use Rattle.rules.specs.Answers.{Done}
use Rattle.rules.specs.Boxes.{Box, to-local}
use Rattle.rules.specs.Segments.{Segment, judge-segments}
use Rattle.rules.specs.Inputs.{Clip, Props, Filter, draw-segments, good-fill}
use Rattle.rules.specs.Plans.{Step, a-fill, a-push, a-pop, a-filter, layer-box, touches-all, clip-fits, clip-segments, filter-box, draws-nothing}
use Rattle.rules.specs.Plain.{OpenLayer, Story, touch-all, box-now, in_rows, tell-push, tell-pop, tell-filter, tell-step, tell-steps}
use Rattle.rules.proofs.All.{All, nil, cons, tail, all-over, never, and_right}
use Rattle.rules_picture.proofs.Cases.{by}
use Rattle.tile.specs.Telling.{in_row}
use Rattle.refine_tile.proofs.Rows.{rows-met, Within, within-row, meet_within, Even}
use Rattle.refine_tile.proofs.Looks.{reached-inside}

pub data Nested (v : Box) : List OpenLayer → Type 0 where
  none_open : Nested v []
  inner : {l : OpenLayer} {ls : List OpenLayer} → Within l.layer.bounds (box-now v ls) → Nested v ls → Nested v (l ∷ ls)

module _ (v : Box) (row : ℕ) where
  abbrev pub Touched-in : OpenLayer → Type 0
  Touched-in l = l.touched ≡ true → in_row l.layer.bounds row ≡ true

  pub record Inside (ls : List OpenLayer) : Type 0 where
    pub nested : Nested v ls
    pub touched : All Touched-in ls

  -- a row of the innermost box is a row of every box
  rows_all : {ls : List OpenLayer} → Nested v ls → in_row (box-now v ls) row ≡ true → All (λ (l : OpenLayer). in_row l.layer.bounds row ≡ true) ls
  rows_all none_open e = nil
  rows_all (inner {l = l} {ls = ls} h n) e = cons e (rows_all n (within-row l.layer.bounds (box-now v ls) row h e))

  same-box : (b : Bool) (ls : List OpenLayer) → box-now v (touch-all b ls) ≡ box-now v ls
  same-box false ls = refl
  same-box true [] = refl
  same-box true (l ∷ ls) = refl

  nested-touch : {ls : List OpenLayer} → Nested v ls → Nested v (touch-all true ls)
  nested-touch none_open = none_open
  nested-touch (inner {l = l} {ls = ls} h n) =
      let k : Within l.layer.bounds (box-now v (touch-all true ls)) = rw (same-box true ls) h in
      inner k (nested-touch n)

  inside-touch : (b : Bool) {ls : List OpenLayer} → Inside ls → (b ≡ true → in_row (box-now v ls) row ≡ true) → Inside (touch-all b ls)
  inside-touch false i f = i
  inside-touch true i f =
      record {
        nested = nested-touch i.nested;
        touched = all-over (λ (l : OpenLayer). record { layer = l.layer; touched = true }) (λ l h e. h) (rows_all i.nested (f refl));
      }

  pub inside-rest : {l : OpenLayer} {ls : List OpenLayer} → Inside (l ∷ ls) → Inside ls
  inside-rest i = record { nested = rest i.nested; touched = tail i.touched }
    where
      rest : {l : OpenLayer} {ls : List OpenLayer} → Nested v (l ∷ ls) → Nested v ls
      rest (inner h n) = n

-- the box of a layer lies within the one in force
layer-within : (v p : Box) (c : Option Clip) → Within (layer-box v p c) p
layer-within v p None = record { top = le_refl p.y0; bottom = le_refl p.y1 }
layer-within v p (Some c) = meet_within (to-local v c.bounds) p

-- What is judged of a step, by the story before it: a fill's segments, and a pop's, which has a layer to close.
unfoldable pub PopFits : List OpenLayer → List Segment → Type 0
PopFits [] ss = ⊥
PopFits (l ∷ ls) ss = judge-segments (not (clip-fits l.layer.props.clip ss)) (clip-segments l.layer.props.clip ss) ≡ Done

unfoldable pub Fits : Step → Story → Type 0
Fits (a-fill ps ss d) o = judge-segments (not (good-fill ps ss d)) (draw-segments ss d) ≡ Done
Fits (a-push p) o = Unit {0}
Fits (a-pop ss) o = PopFits o.open-layers ss
Fits (a-filter n f q) o = Unit {0}

module _ (w : ℕ) (v : Box) (row tile : ℕ) where
  push-inside : (p : Props) (o : Story) → Inside v row o.open-layers → Inside v row (tell-push w v row tile p o).open-layers
  push-inside p o i =
      let b = layer-box v (box-now v o.open-layers) p.clip in
      let l : OpenLayer = record { layer = record { props = p; bounds = b }; touched = false } in
      let more : Inside v row (l ∷ o.open-layers) =
      record { nested = inner (layer-within v (box-now v o.open-layers) p.clip) i.nested; touched = cons (λ e. never (sym e)) i.touched } in
      inside-touch v row (touches-all p b && in_rows w v row tile b) more (λ e. sym (rows-met b row) ∙ and_right (touches-all p b) _ e)

  pop-inside : (ls : List OpenLayer) (ss : List Segment) (o : Story) → PopFits ls ss → Inside v row ls → Inside v row (tell-pop w v row tile ls ss o).open-layers
  unfolding PopFits
  pop-inside [] ss o f i = absurd f
  pop-inside (l ∷ ls) ss o f i = inside-rest v row i

  filter-inside : (f : Filter) (q : ℕ) (o : Story) → Inside v row o.open-layers → Inside v row (tell-filter w v row tile f q o).open-layers
  filter-inside f q o i =
      let c = box-now v o.open-layers in
      let b = filter-box v c f in
      by (draws-nothing f b)
      (λ y. rw y i)
      (λ n. rw n (inside-touch v row (in_rows w v row tile b) i (λ e. within-row b c row (meet_within (to-local v f.dest) c) (sym (rows-met b row) ∙ e))))

  -- a step that fits keeps this
  pub step-inside : Even v → (x : Step) (o : Story) → Fits x o → Inside v row o.open-layers → Inside v row (tell-step w v row tile x o).open-layers
  unfolding Fits tell-step
  step-inside ev (a-fill ps ss d) o f i = inside-touch v row _ i (reached-inside w v row tile (box-now v o.open-layers) ev (draw-segments ss d))
  step-inside ev (a-push p) o f i = push-inside p o i
  step-inside ev (a-pop ss) o f i = pop-inside o.open-layers ss o f i
  step-inside ev (a-filter n g q) o f i = filter-inside g q o i

  -- steps one after the other, each of which fits
  pub data Fitting : List Step → Story → Type 0 where
    no_step : {o : Story} → Fitting [] o
    and_then : {x : Step} {xs : List Step} {o : Story} → Fits x o → Fitting xs (tell-step w v row tile x o) → Fitting (x ∷ xs) o

  -- one step more
  pub one_more : (x : Step) {xs : List Step} {o : Story} → Fitting xs o → Fits x (tell-steps w v row tile xs o) → Fitting (xs ++ (x ∷ [])) o
  unfolding tell-steps
  one_more x no_step f = and_then f no_step
  one_more x (and_then g gs) f = and_then g (one_more x gs f)

  pub steps-more : (x : Step) (xs : List Step) (o : Story) → tell-steps w v row tile (xs ++ (x ∷ [])) o ≡ tell-step w v row tile x (tell-steps w v row tile xs o)
  unfolding tell-steps
  steps-more x [] o = refl
  steps-more x (y ∷ xs) o = steps-more x xs (tell-step w v row tile y o)

pub inside-none : (v : Box) (row : ℕ) → Inside v row []
inside-none v row = record { nested = none_open; touched = nil }
