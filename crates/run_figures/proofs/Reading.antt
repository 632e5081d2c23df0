-- The next recording of a stream: what is read of it.
use Rattle.std.proofs.Common.{◌≡◌, ℕ, ◌-◌, ◌<◌, ◌≤◌, min, List, [], length, take, take_all, take-take, length-take, Option, None, Some, IfSome, refl, sym, ◌∙◌, arith}
use Rattle.std.specs.Io.KnownBytes.{Appends}
use Rattle.text_programs.specs.Streams.{Takes, Skips, Item, short, word_at, first_item, after_item}
use Rattle.text_programs.proofs.Inputs as input
use Rattle.text_programs.proofs.Streaming.{front_done}
use Rattle.run_figures.specs.Counting.{NextRead}

-- no whole head was left
pub none-left : (n : ℕ) (known mid : Option (List ℕ)) (h : List ℕ) → n ≤ length h → n < 4 → Takes 4 known mid (take n h) → IfSome known (λ bs. length bs < 4)
none-left n known mid h f g t = input.short 4 n known mid h f g t

-- a file as far as there is room
abbrev kept : ℕ → ℕ → Item → List ℕ
kept room i x = take room x.file

kept-cut : (room i : ℕ) (x : Item) → kept room i (short room x) ≡ kept room i x
kept-cut room i x = take-take room room x.file (omega arith)

-- a head was, and its file stands first
module _ (m n k : ℕ) (mid rest : Option (List ℕ)) (h cs : List ℕ) (e : 4 ≡ length h) (f : n ≤ length h) (g : n < 4 → ⊥) (w : m ≡ min (word_at h 0) (length cs))
    (few : k ≤ length cs) (read : Takes m mid rest (take k cs)) where
  pub one-read : (j : ℕ) (known new : Option (List ℕ)) → j ≡ word_at h 0 - length cs → Takes 4 known mid (take n h) → Skips j rest new → IfSome known (λ bs. NextRead bs new (Some k) cs)
  one-read j known new q t s = go known (front_done (kept room) room (kept-cut room) 4 0 m n mid rest h (take k cs) e f g w read j known new (Some []) (Some own) q t refl s)
    where
      room : ℕ
      room = length cs

      own : List ℕ
      own = take room (take k cs)

      go : (known : Option (List ℕ)) → IfSome known (λ bs. (4 ≤ length bs) × (new ≡ Some (after_item 4 bs)) × Appends (Some []) (Some own) (take room (first_item 4 bs).file))
          → IfSome known (λ bs. NextRead bs new (Some k) cs)
      go None p = tt
      go (Some bs) p = (p.0, p.1, sym (take_all room (take k cs) (omega (arith, length-take k cs))) ∙ p.2)
