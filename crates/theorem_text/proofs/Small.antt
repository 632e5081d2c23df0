-- The words of a file are below 2^32, since bytes are below 256, and so is every opacity of the screen that its walk leaves. Assumes nothing.
use Rattle.std.proofs.Common.{◌≡◌, refl, Bool, true, false, ◌&&◌, not, cond, List, [], ◌∷◌, map, Option, None, Some, option_map, ℕ, zero, suc, ◌+◌, ◌*◌, ◌/◌, ◌<◌, arith, leb, eqb, length, get_or, drop}
use Rattle.rules.specs.Lists.{is-empty}
use Rattle.rules.specs.Answers.{answer, Done, BadRecord}
use Rattle.rules.specs.Boxes.{Box}
use Rattle.rules.specs.Inputs.{Filter, draw-segments, good-filter-fill}
use Rattle.rules.specs.Attributes.{LayerAttr, Attrs}
use Rattle.rules.specs.Rows.{Row, row-ops}
use Rattle.rules.specs.Plans.{Layer, State, Step, a-fill, a-push, a-pop, a-filter, Plan, still, box_of, filter-box, draws-nothing, plan-fill, plan-push, plan-pop, plan-filter-in, plan-filter, plan}
use Rattle.rules.specs.Steps.{Screen, refusal, done, perform, call}
use Rattle.rules.specs.Recording.{LayerRec, layer-rec, good-count, records, sections, recording}
use Rattle.rules.specs.Walk.{props-of, walk-all}
use Rattle.rules.proofs.All.{All, nil, cons, all_append, all_take, all_drop, all-over}
use Rattle.rules.proofs.laws.Maps.{planned}
use Rattle.file.specs.Each.{each}
use Rattle.file.specs.Words.{word_from, words-in}
use Rattle.refine_text.proofs.Walked.{Keeps, walk-keeps-by}

abbrev pub Word : ℕ → Type 0
Word n = n < 4294967296

-- bytes make words
module _ (bs : List ℕ) (byte : (i : ℕ) → get_or bs i 0 < 256) where
  each_word : (p n : ℕ) → All Word (each word_from 4 bs p n)
  unfolding each word_from
  each_word p zero = nil
  each_word p (suc n) =
      let h : Word (word_from bs p) = omega (arith, byte p, byte (p + 1), byte (p + 2), byte (p + 3)) in
      cons h (each_word (p + 4) n)

  pub words_small : All Word (words-in bs)
  words_small = each_word 0 (length bs / 4)

all-or : {A : Type 0} {P : A → Type 0} {xs : List A} → All P xs → (i : ℕ) {d : A} → P d → P (get_or xs i d)
all-or nil i h = h
all-or (cons p a) zero h = p
all-or (cons p a) (suc i) h = all-or a i h

-- .. and the sections of words have words
records-small : (k n : ℕ) {ws : List ℕ} → All Word ws → All (All Word) (records k n ws)
records-small k zero a = nil
records-small k (suc n) a = cons (all_take k a) (records-small k n (all_drop k a))

abbrev Sections : Option (List (List (List ℕ))) → Type 0
Sections None = Unit {0}
Sections (Some ss) = All (All (All Word)) ss

cons-small : {x : List (List ℕ)} → All (All Word) x → (o : Option (List (List (List ℕ)))) → Sections o → Sections (option_map (λ xs. x ∷ xs) o)
cons-small a None h = tt
cons-small a (Some ss) h = cons a h

sections-small : (sh : List (ℕ × Bool)) {ws : List ℕ} → All Word ws → Sections (sections sh ws)
unfolding sections
sections-small [] nil = nil
sections-small [] (cons p a) = tt
sections-small (s ∷ sh) nil = tt
sections-small (s ∷ sh) (cons {x = n} {xs = ws} p a) = go (good-count s.1 n && leb (n * s.0) (length ws)) (sections-small sh (all_drop (n * s.0) a))
  where
    go : (b : Bool) → Sections (sections sh (drop (n * s.0) ws))
        → Sections (elim b [ true ↦ option_map (λ xs. records s.0 n ws ∷ xs) (sections sh (drop (n * s.0) ws)) | false ↦ None ])
    go true h = cons-small (records-small s.0 n a) (sections sh (drop (n * s.0) ws)) h
    go false h = tt

abbrev pub SmallLayer : LayerRec → Type 0
SmallLayer y = Word y.opacity

-- the layers of a recording
layers-small : (ss : List (List (List ℕ))) → All (All (All Word)) ss → (k : ℕ) → SmallLayer (get_or (recording ss).layers k (layer-rec []))
unfolding recording
layers-small ss a k =
    let zero_word : Word 0 = omega arith in
    let all : All SmallLayer (map layer-rec (get_or ss 4 [])) = all-over layer-rec (λ x h. all-or h 5 {d = 0} zero_word) (all-or a 4 {d = []} nil) in
    all-or all k {d = layer-rec []} zero_word

-- the opacities of the open layers and of the layer attributes
pub record Opacities (s : Screen Row) : Type 0 where
  pub layers : All (λ (l : Layer). Word l.props.opacity) s.state.layers
  pub attrs : All (λ (a : LayerAttr). Word a.opacity) s.state.attrs.layers

record Planned (p : Plan) : Type 0 where
  layers : All (λ (l : Layer). Word l.props.opacity) p.layers
  attrs : All (λ (a : LayerAttr). Word a.opacity) p.attrs.layers

-- what a step plans
abbrev SmallStep : Step → Type 0
SmallStep (a-fill ps ss d) = Unit {0}
SmallStep (a-push p) = Word p.opacity
SmallStep (a-pop ss) = Unit {0}
SmallStep (a-filter n f q) = Unit {0}

module _ (s : State) (ol : All (λ (l : Layer). Word l.props.opacity) s.layers) (oa : All (λ (a : LayerAttr). Word a.opacity) s.attrs.layers) where
  still-small : (n : ℕ) → Planned (still n s)
  still-small n = record { layers = ol; attrs = oa }

  drawn-small : (b : Bool) (a : Attrs) → a.layers ≡ s.attrs.layers → All (λ (x : LayerAttr). Word x.opacity) (cond b s.attrs a).layers
  drawn-small true a e = oa
  drawn-small false a e = rw e oa

  pop-small : (ls : List Layer) → All (λ (l : Layer). Word l.props.opacity) ls → (ss : _) (js : List ℕ) → Planned (plan-pop ls ss js s)
  unfolding plan-pop
  pop-small [] a ss js = still-small _
  pop-small (l ∷ ls) (cons p a) ss js = record { layers = a; attrs = all_append oa (cons p nil) }

  filter-small : (n : ℕ) (f : Filter) (q : ℕ) → Planned (plan-filter n f q s)
  unfolding plan-filter plan-filter-in
  filter-small n f q = let b = filter-box s.frame.viewport (box_of s) f in go (not (good-filter-fill n f q)) (draws-nothing f b) b
    where
      go : (x y : Bool) (b : Box) → Planned (cond x (still BadRecord s) (cond y (still Done s) (plan-filter-in b n f q s)))
      go true y b = still-small _
      go false true b = still-small _
      go false false b = record { layers = ol; attrs = oa }

  plan-small : (x : Step) → SmallStep x → (js : List ℕ) → Planned (plan x js s)
  unfolding plan plan-fill plan-push
  plan-small (a-fill ps ss d) h js = record { layers = ol; attrs = drawn-small (is-empty (draw-segments ss d)) _ refl }
  plan-small (a-push p) h js = record { layers = cons h ol; attrs = oa }
  plan-small (a-pop ss) h js = pop-small s.layers ol ss js
  plan-small (a-filter n f q) h js = filter-small n f q

step_small : (x : Step) → SmallStep x → Keeps Opacities (call Row row-ops x)
unfolding call perform done
step_small x h =
    record {
      kept = λ s o.
          let p = planned Row row-ops x s in
          go s o p (plan-small s.state o.layers o.attrs x h _) (refusal Row row-ops p (done Row row-ops p s)) (eqb (refusal Row row-ops p (done Row row-ops p s)) Done);
    }
  where
    go : (s : Screen Row) → Opacities s → (p : Plan) → Planned p → (n : ℕ) (b : Bool) → Opacities (cond b (answer Done (done Row row-ops p s)) (answer n s)).value
    go s o p q n true = record { layers = q.layers; attrs = q.attrs }
    go s o p q n false = o

-- The walk of a file whose words are words leaves opacities that are words.
pub walk-small : (ss : List (List (List ℕ))) → All (All (All Word)) ss → Keeps Opacities (walk-all (Screen Row) (call Row row-ops) (recording ss))
walk-small ss a =
    let r = recording ss in
    walk-keeps-by SmallLayer r (layers-small ss a) (λ d. step_small (a-fill r.paints r.segments d) tt) (λ y h. step_small (a-push (props-of y)) h)
    (step_small (a-pop r.segments) tt)
    (λ y. step_small (a-filter (length r.paints) y.filter y.panel) tt)

pub said-small : (sh : List (ℕ × Bool)) (ws : List ℕ) (ss : List (List (List ℕ))) → sections sh ws ≡ Some ss → All Word ws → All (All (All Word)) ss
said-small sh ws ss e a = rw e at (sections-small sh a)
