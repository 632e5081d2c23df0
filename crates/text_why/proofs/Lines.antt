-- The lines of an answer, one after the other. Assumes nothing.
use Rattle.std.proofs.Common.{◌≡◌, refl, Bool, true, false, List, [], ◌∷◌, ◌++◌, ℕ, zero, suc, ◌+◌, ◌*◌, ◌≤◌, add-one, arith, length}
use Rattle.sizes.specs.Sizes.{most-attrs}
use Rattle.rules.specs.Lines.{digits, number}
use Rattle.rules_reason.specs.Reasons.{Reason, unknown-attribute, no-segment, cut-away, row-untouched, hidden-by, shown-at, Asked}
use Rattle.rules_reason.specs.Answers.{Question, every, one, of-panel-text, panel-bytes, reason-text, reason-bytes, colon-text, kind-text, asked-bytes, attribute-line, kind-lines, answer-lines, question-line}
use Rattle.text.specs.declared.Out.{Out}
use Rattle.text.specs.Texts.{Writes}
use Rattle.text.proofs.Laws.{then, nothing}
use Rattle.text.proofs.Lengths.{plus, digits-few, number-few}
use Rattle.text_why.specs.Questions.{read_by, reason-most, line-most, answer-most}

-- how long reasons and lines are at most
ended-few : (m : ℕ) (r : Reason) → length (reason-text r) ≤ m → length (reason-bytes r) ≤ m + 1
unfolding reason-bytes
ended-few m r h = plus {a = m} {b = 1} (reason-text r) (10 ∷ []) h (omega arith)

reason-few : (r : Reason) → length (reason-bytes r) ≤ reason-most
reason-few unknown-attribute = omega (arith, ended-few 17 unknown-attribute (omega arith))
reason-few (no-segment q) = omega (arith, ended-few 44 (no-segment q) (omega (arith, number-few q)))
reason-few (cut-away q) = omega (arith, ended-few 40 (cut-away q) (omega (arith, number-few q)))
reason-few (row-untouched q) = omega (arith, ended-few 56 (row-untouched q) (omega (arith, number-few q)))
reason-few (hidden-by a b q) =
    let x = plus {a = 11} {b = 18} (number b) (panel-bytes q) (number-few b) (omega (arith, number-few q)) in
    let y = plus {a = 11} {b = 38} (number a) (of-panel-text ++ (number b ++ panel-bytes q)) (number-few a) (omega (arith, x)) in
    omega (arith, ended-few 88 (hidden-by a b q) (omega (arith, y)))
reason-few (shown-at p q) =
    let x = plus {a = 11} {b = 18} (number p) (panel-bytes q) (number-few p) (omega (arith, number-few q)) in
    omega (arith, ended-few 41 (shown-at p q) (omega (arith, x)))

kind-text-few : (b : Bool) → length (kind-text b) ≤ 5
kind-text-few true = omega arith
kind-text-few false = omega arith

asked-few : (a : Asked) → length (asked-bytes a) ≤ 18
unfolding asked-bytes
asked-few a =
    plus {a = 5} {b = 13} (kind-text a.layer) (number a.attribute ++ colon-text) (kind-text-few a.layer)
    (plus {a = 11} {b = 2} (number a.attribute) colon-text (number-few a.attribute) (omega arith))

module _ (why : Asked → Reason) (layer : Bool) where
  pub no_lines : (t : Out) → Writes (kind-lines why layer 0) t t
  unfolding kind-lines
  no_lines t = nothing t

  pub more-lines : (i : ℕ) {t u v : Out} → Writes (kind-lines why layer i) t u → Writes (attribute-line why (record { layer = layer; attribute = i })) u v
      → Writes (kind-lines why layer (i + 1)) t v
  unfolding kind-lines
  more-lines i w x = rw (add-one i) (then w x)

  pub kind-few : ((a : Asked) → length (reason-bytes (why a)) ≤ reason-most) → (n : ℕ) → length (kind-lines why layer n) ≤ line-most * n
  unfolding kind-lines
  kind-few h zero = omega arith
  kind-few h (suc n) =
      let a : Asked = record { layer = layer; attribute = n } in
      let x = plus {a = 18} {b = reason-most} (asked-bytes a) (reason-bytes (why a)) (asked-few a) (h a) in
      let y = plus {a = line-most * n} {b = line-most} (kind-lines why layer n) (attribute-line why a) (kind-few h n) x in
      omega (arith, y)

-- an answer of p draws and l layers, from n = p + l lines
module _ (ws : List ℕ) (n p l : ℕ) (e : n ≡ p + l) {t u : Out} where
  pub every-line : {v : Out} → Writes (kind-lines (read_by ws n) false p) t u → Writes (kind-lines (read_by ws n) true l) u v
      → Writes (answer-lines (read_by ws (p + l)) p l every) t v
  unfolding answer-lines
  every-line x y = rw (← e) (then x y)

  pub one_line : (a : Asked) (r : Reason) → r ≡ read_by ws n a → Writes (reason-bytes r) t u → Writes (answer-lines (read_by ws (p + l)) p l (one a)) t u
  unfolding answer-lines
  one_line a r f w = rw (← e, ← f) w

pub question-few : (i : ℕ) → length (question-line i) ≤ 30
unfolding question-line
question-few i = let e = plus {a = 20} {b = 1} (digits 20 i) (10 ∷ []) (digits-few 20 i) (omega arith) in omega (arith, e)

pub answer-few : (why : Asked → Reason) (p l : ℕ) (q : Question) → p ≤ most-attrs → l ≤ most-attrs → length (answer-lines why p l q) ≤ answer-most
unfolding answer-lines
answer-few why p l every g h =
    let x = plus {a = line-most * p} {b = line-most * l} (kind-lines why false p) (kind-lines why true l) (kind-few why false (λ a. reason-few (why a)) p) (kind-few why true (λ a. reason-few (why a)) l) in
    omega (arith, x)
answer-few why p l (one a) g h = omega (arith, reason-few (why a))

-- an answer depends on its reasons one by one
module _ (f g : Asked → Reason) (same : (a : Asked) → f a ≡ g a) where
  same_lines : (layer : Bool) (n : ℕ) → kind-lines f layer n ≡ kind-lines g layer n
  unfolding kind-lines
  same_lines layer zero = refl
  same_lines layer (suc n) = rw (same_lines layer n, same (record { layer = layer; attribute = n }))

  pub same_answer : (p l : ℕ) (q : Question) → answer-lines f p l q ≡ answer-lines g p l q
  unfolding answer-lines
  same_answer p l every = rw (same_lines false p, same_lines true l)
  same_answer p l (one a) = rw (same a)
