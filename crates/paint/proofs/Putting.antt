-- A fill's runs put into the list as the search finds them. Assumes nothing.
use Rattle.std.proofs.Common.{◌≡◌, refl, sym, ap, ◌∙◌, List, [], ◌∷◌, ◌++◌, append_assoc, append-nil, ℕ, ◌+◌, ◌*◌, ◌≤◌, arith, length, take, drop, length-append, take-append-drop, take_at, drop-drop, length-take-le}
use lib.Seq.{drop-append-add}
use Rattle.sizes.specs.Sizes.{piece-size}
use Rattle.rules.specs.Lists.{join}
use Rattle.rules.specs.Spans.{Span, span}
use Rattle.rules.specs.Depth.{is-visible, runs-in}
use Rattle.cmd.specs.Attrs.{words-at}
use Rattle.cmd.specs.declared.command.CmdWords.{CmdWords}
use Rattle.cmd.proofs.Tables.{length_at}
use Rattle.paint.specs.Kinds.{low-met, run-words}
use Rattle.paint.specs.declared.whole.pieces.Cut.{Cut}
use Rattle.paint.specs.Cuts.{end_met}
use Rattle.paint.specs.Scales.{tiles_in}

-- words after words
module _ (xs : List ℕ) (at : ℕ) (vs ws : List ℕ) (h : at + length vs ≤ length xs) where
  front : length (take at xs ++ vs) ≡ at + length vs
  front = rw (length-append, length-take-le at xs (omega arith))

  past : drop (at + length vs + length ws) (take at xs ++ vs ++ drop (at + length vs) xs) ≡ drop (at + length vs + length ws) xs
  past =
      ap (λ (n : ℕ). drop (n + length ws) (take at xs ++ vs ++ drop (at + length vs) xs)) (sym front)
      ∙ drop-append-add (take at xs ++ vs) (drop (at + length vs) xs) (length ws)
      ∙ drop-drop (length ws) (at + length vs) xs

  sum : at + length vs + length ws ≡ at + length (vs ++ ws)
  sum = rw length-append (omega arith)

  pub words-on : words-at (words-at xs at vs) (at + length vs) ws ≡ words-at xs at (vs ++ ws)
  words-on = rw (take_at (take at xs ++ vs) (drop (at + length vs) xs) (at + length vs) front, past, sum, append_assoc (take at xs) vs ws)

pub words-none : (xs : List ℕ) (at : ℕ) → words-at xs at [] ≡ xs
words-none xs at = let e : at + 0 ≡ at = omega arith in rw (append-nil, e, take-append-drop at xs)

pub length_runs : (v : ℕ) (c : CmdWords) (m p : ℕ) (rs : List Span) → length (join (run-words v c m p) rs) ≡ piece-size * length rs
length_runs v c m p [] = refl
length_runs v c m p (r ∷ rs) = let h = length_runs v c m p rs in omega arith

module _ (D : List ℕ) (id hi v : ℕ) (c : CmdWords) (m p start k : ℕ) (l₀ : List ℕ) where
  abbrev runs : ℕ → List Span
  runs at = runs-in (is-visible id) D (span at hi)

  abbrev words : ℕ → List ℕ
  words at = join (run-words v c m p) (runs at)

  -- the pieces of the runs up to bucket `at` end at word n of the list l, and those from there on are still to come
  pub record Put (at n : ℕ) (l : List ℕ) : Type 0 where
    pub kept : length l ≡ length l₀
    pub words-left : n + piece-size * length (runs at) ≡ k + piece-size * length (runs start)
    pub rest : words-at l n (words at) ≡ words-at l₀ k (words start)

  module _ (at n : ℕ) (l : List ℕ) (s : Put at n l) where
    module _ (room : k + piece-size * length (runs start) ≤ length l₀) (r : Span) (j : ℕ) (e : runs at ≡ r ∷ runs j) where
      pub put_room : n + piece-size ≤ length l
      put_room = omega (arith, s.words-left, s.kept, ap length e)

      pub put_more : (l' : List ℕ) → l' ≡ words-at l n (run-words v c m p r) → Put j (n + piece-size) l'
      put_more l' q =
          let long : length (words-at l n (run-words v c m p r)) ≡ length l = length_at l n (run-words v c m p r) put_room in
          rw q (record {
            kept = long ∙ s.kept;
            words-left = omega (arith, s.words-left, ap length e);
            rest = words-on l n (run-words v c m p r) (words j) put_room ∙ (rw e at s.rest);
          })

-- a fill's pieces, from its first bucket on after k words
abbrev pub PutCut : Cut → List ℕ → ℕ → List ℕ → ℕ → ℕ → List ℕ → Type 0
PutCut c D k l₀ at n l =
    Put D c.mark.id (end_met c) (tiles_in c.scale) c.words c.nesting c.mark.panel (low-met (tiles_in c.scale) c.words.span.0) k l₀ at n l
