-- What the minima above a row's depth words are asked, and what a write leaves in them.
use Rattle.std.specs.Prelude.{ℕ, zero, suc, ◌+◌, ◌-◌, ◌%◌, ◌≤◌, ◌<◌, ◌≡◌, min, Bool, false, cond, List, ◌∷◌, ◌++◌, length, get_or, leb, ltb, eqb}
use Rattle.rules.specs.Answers.{Answer, answer, BadArena}
use Rattle.rules.specs.Spans.{Span}
use Rattle.depth.specs.declared.minima.Depth.{Depth}
use Rattle.rules.specs.Minima.{size, half, top, left-half, right-half, minima-room, hidden_answer}

-- the words of a group of 2 ^ k buckets, for some k
abbrev pub IsGroup : List ℕ → Type 0
IsGroup ws = (k : ℕ) × (length ws ≡ half k)

-- where bucket b's own word stands in a group of 2 ^ k
unfoldable pub leaf-place : ℕ → ℕ → ℕ
leaf-place zero b = 0
leaf-place (suc k) b = cond (ltb b (size k)) (1 + leaf-place k b) (1 + half k + leaf-place k (b - size k))

-- the groups that have bucket b are worked out again, from its own word up
unfoldable pub lifted : ℕ → List ℕ → ℕ → List ℕ
lifted zero ws b = ws
lifted (suc k) ws b =
    let low = ltb b (size k) in
    let l = cond low (lifted k (left-half k ws) b) (left-half k ws) in
    let r = cond low (right-half k ws) (lifted k (right-half k ws) (b - size k)) in
    min (top l) (top r) ∷ l ++ r

-- where the group above the number-th of those of as many buckets stands, which stands at `at`, and the other half of it: the group above has `size` buckets
abbrev pub above-place : ℕ → ℕ → ℕ → ℕ
above-place at number size = cond (eqb (number % 2) 0) (at - 1) (at - size)

abbrev pub beside-place : ℕ → ℕ → ℕ → ℕ
beside-place at number size = cond (eqb (number % 2) 0) (at + (size - 1)) (at - (size - 1))

-- both are among n words
pub record CanRaise (n at number size : ℕ) : Type 0 where
  pub some : 1 ≤ size
  pub within : at < n
  pub left : number % 2 ≡ 0 → (0 < at) × (at + (size - 1) < n)
  pub right : (number % 2 ≡ 0 → ⊥) → size ≤ at

-- the groups above the one of 2 ^ j that has bucket b alone are worked out again
unfoldable pub lifted-above : ℕ → ℕ → List ℕ → ℕ → List ℕ
lifted-above zero j ws b = ws
lifted-above (suc k) j ws b =
    let low = ltb b (size k) in
    let l = cond low (lifted-above k j (left-half k ws) b) (left-half k ws) in
    let r = cond low (right-half k ws) (lifted-above k j (right-half k ws) (b - size k)) in
    cond (leb (suc k) j) ws (min (top l) (top r) ∷ l ++ r)

-- the groups of at most `most` buckets that have bucket b are worked out again: once those above them are too, all are
pub record LiftedTo (k : ℕ) (old : List ℕ) (b most : ℕ) (now : List ℕ) : Type 0 where
  pub level : ℕ
  pub within : level ≤ k
  pub up-to : most < size (suc level)
  pub long : length now ≡ half k
  pub rest : lifted-above k level now b ≡ lifted k old b

-- each bucket from place a up to place b is there and holds the id
pub record Holds (ws : List ℕ) (a b id : ℕ) : Type 0 where
  pub there : b ≤ length ws
  pub holds : (n : ℕ) → a ≤ n → n < b → get_or ws n 0 ≡ id

-- the question about a row of n buckets: 1 for minima of another length
abbrev pub hidden-asked : List ℕ → ℕ → Span → ℕ → Answer Bool
hidden-asked ws n r id = cond (eqb (length ws) (minima-room n)) (hidden_answer ws n r id) (answer BadArena false)

-- the same two slices, whatever they hold; their lengths are said too, since no name tells them
pub record SameDepth (a b : Depth) : Type 0 where
  pub words : b.words.ghost_name ≡ a.words.ghost_name
  pub minima : b.minima.ghost_name ≡ a.minima.ghost_name
  pub words-long : length b.words.now ≡ length a.words.now
  pub minima-long : length b.minima.now ≡ length a.minima.now
