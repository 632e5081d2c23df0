-- The words of a row of the rules. A row of words is a function of the rules' row.
use Rattle.std.specs.Prelude.{ℕ, ◌*◌, ◌≤◌, ◌<◌, ◌≡◌, List, [], ◌∷◌, ◌++◌, length, take, get_or, replicate}
use Rattle.std.specs.Prelude.{Option, None, Some}
use Rattle.sizes.specs.Sizes.{most-layers}
use Rattle.rules.specs.Lists.{join, is_none, is-empty}
use Rattle.rules.specs.Spans.{Span}
use Rattle.rules.specs.Commands.{Command, push-buf, pop-buf, command_words, depth-words, span-word}
use Rattle.rules.specs.Rows.{Row, Level}
use Rattle.rules.proofs.All.{All}
use Rattle.row.specs.Words.{Words, words}

-- n words: what is there, then zeros; what passes n is lost
unfoldable pub padded : ℕ → List ℕ → List ℕ
padded n xs = take n (xs ++ replicate n 0)

abbrev pub union-words : Option Span → List ℕ
union-words None = 5 ∷ 0 ∷ []
union-words (Some s) = 6 ∷ span-word s ∷ []

-- the outermost level first
unfoldable pub stack : List Level → List ℕ
stack [] = []
stack (l ∷ ls) = stack ls ++ (l.place ∷ union-words l.union)

abbrev pub first_of : Option Span → ℕ
first_of None = 0
first_of (Some s) = s.first

abbrev pub end_of : Option Span → ℕ
end_of None = 0
end_of (Some s) = s.end

abbrev pub state-of : Row → List ℕ
state-of r =
    length r.commands
    ∷ length r.fills
    ∷ first_of r.depth.union
    ∷ end_of r.depth.union
    ∷ r.depth.largest
    ∷ length r.levels
    ∷ padded 48 (stack r.levels)

unfoldable pub encode : ℕ → ℕ → Row → Words
encode c d r = words (state-of r) (padded (4 * c) (join command_words r.commands)) (padded (2 * d) (join depth-words r.fills))

-- each level's place is that of a PushBuf without a span, the innermost last
abbrev pub placed : List Command → ℕ → List Level → Type 0
placed cs b [] = Unit {0}
placed cs b (l ∷ ls) = (l.place < b) × (get_or cs l.place pop-buf ≡ push-buf None) × placed cs l.place ls

-- what holds of every row that steps make
pub record Fine (r : Row) : Type 0 where
  pub few : length r.levels ≤ most-layers
  pub spans : All (λ (l : Level). end_of l.union < 65536) r.levels
  pub summary : is_none r.depth.union ≡ is-empty r.fills
  pub places : placed r.commands (length r.commands) r.levels
