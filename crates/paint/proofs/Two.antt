-- A row's painting words are two; words that stay the lent ones twice stay them. Assumes nothing.
use Rattle.std.proofs.Common.{◌≡◌, refl, ◌∙◌, List, [], ◌∷◌, ℕ, arith, length, set}
use Rattle.paint.specs.declared.canvas.stored.RowWords.{RowWords}
use Rattle.paint.specs.Answers.{word}
use Rattle.paint.specs.declared.canvas.stored.Canvas.{Canvas}
use Rattle.paint.specs.Named.{SameCanvas, SameRow}

pub same_then : {a b c : RowWords} → SameRow a b → SameRow b c → SameRow a c
same_then x y =
    record {
      depth = y.depth ∙ x.depth;
      minima = y.minima ∙ x.minima;
      painting = y.painting ∙ x.painting;
      depth-long = y.depth-long ∙ x.depth-long;
      minima-long = y.minima-long ∙ x.minima-long;
      painting-long = y.painting-long ∙ x.painting-long;
    }

pub two_set : (p : List ℕ) (x : ℕ) → length p ≡ 2 → set p 0 x ≡ x ∷ word p 1 ∷ []
two_set [] x h = absurd (omega arith)
two_set (a ∷ []) x h = absurd (omega arith)
two_set (a ∷ b ∷ []) x h = refl
two_set (a ∷ b ∷ c ∷ p) x h = absurd (omega arith)

pub two_both : (p : List ℕ) (x y : ℕ) → length p ≡ 2 → set (set p 0 x) 1 y ≡ x ∷ y ∷ []
two_both p x y h = rw (two_set p x h)

pub two_same : (p : List ℕ) → length p ≡ 2 → p ≡ word p 0 ∷ word p 1 ∷ []
two_same [] h = absurd (omega arith)
two_same (a ∷ []) h = absurd (omega arith)
two_same (a ∷ b ∷ []) h = refl
two_same (a ∷ b ∷ c ∷ p) h = absurd (omega arith)

pub canvas_then : {a b c : Canvas} → SameCanvas a b → SameCanvas b c → SameCanvas a c
canvas_then x y =
    record {
      words = y.words ∙ x.words;
      minima = y.minima ∙ x.minima;
      painting = y.painting ∙ x.painting;
      words-long = y.words-long ∙ x.words-long;
      minima-long = y.minima-long ∙ x.minima-long;
      painting-long = y.painting-long ∙ x.painting-long;
    }
