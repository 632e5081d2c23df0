-- How long the lines are at most. Assumes nothing.
use Rattle.std.proofs.Common.{List, [], ◌∷◌, ◌++◌, ℕ, ◌+◌, ◌≤◌, arith, length, codes}
use Rattle.rules.specs.Lines.{digits}
use Rattle.text.proofs.Lengths.{plus, digits-few}
use Rattle.rules_figures.specs.Figures.{Figures}
use Rattle.rules_figures.specs.Lines.{named, figures-text, recording-line, total-line}

named-few : (k : ℕ) (ws : List ℕ) (n : ℕ) → length ws ≤ k → length (named ws n) ≤ k + 21
named-few k ws n h = plus {a = k} {b = 21} ws (32 ∷ digits 20 n) h (omega (arith, digits-few 20 n))

more-few : (k m : ℕ) (ws ts : List ℕ) (n : ℕ) → length ws ≤ k → length ts ≤ m → length (named ws n ++ ts) ≤ k + 21 + m
more-few k m ws ts n h g = plus {a = k + 21} {b = m} (named ws n) ts (named-few k ws n h) g

figures-few : (g : Figures) → length (figures-text g) ≤ 171
unfolding figures-text
figures-few g =
    more-few 6 144 (codes " asked") _ g.asked (omega arith)
    (more-few 8 115 (codes " painted") _ g.painted (omega arith)
    (more-few 7 87 (codes " hidden") _ g.hidden (omega arith)
    (more-few 9 57 (codes " commands") _ g.commands (omega arith)
    (more-few 6 30 (codes " fills") _ g.fills (omega arith) (more-few 8 1 (codes " refused") (10 ∷ []) g.refused (omega arith) (omega arith))))))

pub recording-few : (i : ℕ) (g : Figures) → length (recording-line i g) ≤ 208
unfolding recording-line
recording-few i g =
    let few = more-few 9 171 (codes "recording") (figures-text g) i (omega arith) (figures-few g) in
    omega (arith, few)

pub total-few : (g : Figures) → length (total-line g) ≤ 208
unfolding total-line
total-few g = let few = plus {a = 5} {b = 171} (codes "total") (figures-text g) (omega arith) (figures-few g) in omega (arith, few)
