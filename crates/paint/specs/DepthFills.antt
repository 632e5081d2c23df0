-- What a depth fill leaves in a row's depth words, and the words of its pieces.
use Rattle.std.specs.Prelude.{ℕ, ◌*◌, ◌≤◌, ◌<◌, ◌≡◌, List, [], ◌∷◌, length, get_or}
use Rattle.rules.specs.Spans.{Span, span}
use Rattle.rules.specs.Depth.{written}

-- the unset buckets of bs from `first` on, before hi, end at `end`, and they have the id in bs'
pub record MarksRun (id hi first : ℕ) (bs bs' : List ℕ) (e : ℕ) : Type 0 where
  pub past : first < e
  pub within : e ≤ hi
  pub unset : (n : ℕ) → first ≤ n → n < e → get_or bs n 0 ≡ 0
  pub closed : e < hi → 0 < get_or bs e 0
  pub long : length bs' ≡ length bs
  pub rest : written bs' id (span e hi) ≡ written bs id (span first hi)
  pub same : (n : ℕ) → e ≤ n → get_or bs' n 0 ≡ get_or bs n 0

-- the words of the piece of a depth fill's run, at v tiles a bucket; i: the attribute, p: its panel
abbrev pub depth-words : ℕ → ℕ → ℕ → Span → List ℕ
depth-words v i p r = 1 ∷ i ∷ (r.first * v) ∷ (r.end * v) ∷ 0 ∷ 0 ∷ p ∷ []
