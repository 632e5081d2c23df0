-- What is said of steps one after another, up to the first that is refused.
use Rattle.std.proofs.Common.{ℕ, ◌+◌, ◌≤◌, ◌<◌, ◌≡◌, refl, sym, ap, ◌∙◌, List, length, get_or, Result, Ok, Err}
use Rattle.sizes.specs.declared.answers.Refusal.{Refusal}
use Rattle.sizes.specs.Refusals.{answer_number}
use Rattle.sizes.proofs.Refusals.{not_done}
use Rattle.rules.specs.Lists.{slice}
use Rattle.rules.specs.Answers.{Answer, answer}
use Rattle.rules.specs.Boxes.{Box}
use Rattle.rules.specs.Plans.{Layer}
use Rattle.rules.specs.Walk.{◌then◌, each}
use Rattle.walk.proofs.Runs as runs
use Rattle.tile.specs.declared.steps.Tale.{Tale}
use Rattle.tile.specs.declared.steps.Within.{Within}
use Rattle.tile.specs.Telling.{Telling}
use Rattle.tile.specs.Places.{Holds, Says, telling, left_by}

-- the same answer says the same
pub said-by : {a b : Answer Telling} {n : ℕ} {v : Telling} → b ≡ a → Says a n v → Says b n v
said-by e s = record { number = ap (λ (x : Answer Telling). x.number) e ∙ s.number; value = λ z. ap (λ (x : Answer Telling). x.value) e ∙ s.value z }

-- an answer says its own number and value
pub says-itself : {a : Answer Telling} {n : ℕ} {v : Telling} → a ≡ answer n v → Says a n v
says-itself e = record { number = ap (λ (x : Answer Telling). x.number) e; value = λ z. ap (λ (x : Answer Telling). x.value) e }

-- .. and so does a promise of one
pub says : {a : Answer Telling} {n : ℕ} {v : Telling} → answer n v ≡ a → Says a n v
says e = says-itself (sym e)

-- a layer that closes leaves those around it, where it is not refused
pub says-left : {a : Answer Telling} {T : Type 0} (r : Result T Refusal) (l : Layer) {t : Tale} {ls : List Layer} {ws : List ℕ}
    → answer (answer_number r) (telling t (left_by r l ls) ws) ≡ a → Says a (answer_number r) (telling t ls ws)
says-left (Ok x) l e = says e
says-left (Err r) l e = record { number = ap (λ (x : Answer Telling). x.number) (sym e); value = λ z. absurd (not_done r z) }

-- a first step f that said the number n and the value v, and a second one
module _ (f g : Telling → Answer Telling) (s : Telling) {n : ℕ} {v : Telling} (e : Says (f s) n v) where
  -- refused: its number stays, and no value is said
  pub stops : (n ≡ 0 → ⊥) → (t : Telling) → Says ((f then g) s) n t
  stops h t =
      let k : f s ≡ (f then g) s = runs.stopped f g s (f s).number (f s).value refl (λ z. h (sym e.number ∙ z)) in
      record { number = ap (λ (x : Answer Telling). x.number) (sym k) ∙ e.number; value = λ z. absurd (h z) }

  onward : n ≡ 0 → (f then g) s ≡ g v
  onward h = runs.onward f g s (f s).number (f s).value refl (e.number ∙ h) ∙ ap g (e.value h)

  -- done: the second one says what both say
  pub goes_on : n ≡ 0 → {m : ℕ} {u : Telling} → Says (g v) m u → Says ((f then g) s) m u
  goes_on h k = said-by (onward h) k

-- three of them
module _ (f g h : Telling → Answer Telling) (s : Telling) {n : ℕ} {v : Telling} (e : Says (f s) n v) where
  pub stops_first : (n ≡ 0 → ⊥) → (t : Telling) → Says ((f then g then h) s) n t
  stops_first q t = stops (f then g) h s (stops f g s e q t) q t

  module _ (q : n ≡ 0) {m : ℕ} {u : Telling} (k : Says (g v) m u) where
    pub stops_second : (m ≡ 0 → ⊥) → (t : Telling) → Says ((f then g then h) s) m t
    stops_second z t = stops (f then g) h s (goes_on f g s e q k) z t

    pub goes_through : m ≡ 0 → {j : ℕ} {t : Telling} → Says (h u) j t → Says ((f then g then h) s) j t
    goes_through z x = goes_on (f then g) h s (goes_on f g s e q k) z x

-- in a layer h of the viewport's box b, what `run` says from i on after y is what it says from a on after x
pub record Left (run : ℕ → Telling → Answer Telling) (b : Box) (h : Within) (a : ℕ) (x : List Layer → Telling) (i : ℕ) (y : List Layer → Telling) : Type 0 where
  pub same : (ls : List Layer) → Holds b h ls → run i (y ls) ≡ run a (x ls)

-- a run over the elements of a list up to place e, one more element at a time
module _ {A : Type 0} (f : A → Telling → Answer Telling) (xs : List A) (e : ℕ) (run : ℕ → Telling → Answer Telling)
    (is : (j : ℕ) (t : Telling) → run j t ≡ each f (slice j e xs) t) {b : Box} {h : Within} {a i : ℕ} {x y : List Layer → Telling} (left : Left run b h a x i y) where
  pub all_said : e ≤ i → (ls : List Layer) → Holds b h ls → Says (run a (x ls)) 0 (y ls)
  all_said k ls o = says-itself (sym (left.same ls o) ∙ is i (y ls) ∙ runs.ended f xs i e (y ls) k)

  module _ (d : A) (k : i < e) (room : e ≤ length xs) (n : ℕ) (z : List Layer → Telling)
      (said : (ls : List Layer) → Holds b h ls → Says (f (get_or xs i d) (y ls)) n (z ls)) where
    pub one-refused : (n ≡ 0 → ⊥) → (ls : List Layer) → Holds b h ls → Says (run a (x ls)) n (z ls)
    one-refused q ls o =
        let w = f (get_or xs i d) (y ls) in
        let r = runs.refused f xs i e (y ls) d k room w.number w.value refl (λ u. q (sym (said ls o).number ∙ u)) in
        said-by (sym (r ∙ sym (is i (y ls)) ∙ left.same ls o)) (said ls o)

    pub one-turned : n ≡ 0 → Left run b h a x (i + 1) z
    one-turned q =
        record {
          same = λ ls o.
              let w = f (get_or xs i d) (y ls) in
              let r = runs.turned f xs i e (y ls) d k room w.number w.value refl ((said ls o).number ∙ q) in
              is (i + 1) (z ls) ∙ ap (each f (slice (i + 1) e xs)) (sym ((said ls o).value q)) ∙ sym r ∙ sym (is i (y ls)) ∙ left.same ls o;
        }
