-- Runs at a list's start become pieces, from the last to the first. Assumes nothing.
use Rattle.std.proofs.Common.{◌≡◌, refl, sym, subst, ◌∙◌, List, [], ◌∷◌, ◌++◌, map, append_assoc, ℕ, zero, suc, ◌≤◌, ◌<◌, ◌+◌, ◌-◌, ◌*◌, arith, length, take, drop, length-append, length-take-le, drop_at}
use lib.ListN.{length-map}
use Rattle.sizes.specs.Sizes.{piece-size}
use Rattle.rules.specs.Lists.{join}
use Rattle.rules.specs.Spans.{Span}
use Rattle.rules.specs.Depth.{tiles-of}
use Rattle.rules.specs.Painting.{Piece}
use Rattle.cmd.specs.Attrs.{words-at}
use Rattle.cmd.proofs.Tables.{length_at, at-below}
use Rattle.paint.specs.declared.pieces.Brush.{Brush}
use Rattle.cmd.specs.Pieces.{piece-words, laid}
use Rattle.paint.specs.Pieces.{brush-piece, Fits, run_at, runs-at}

module _ {A B : Type 0} (f : A → List B) where
  join-append : (xs ys : List A) → join f (xs ++ ys) ≡ join f xs ++ join f ys
  join-append [] ys = refl
  join-append (x ∷ xs) ys = rw (join-append xs ys, append_assoc)

map-append : {A B : Type 0} (f : A → B) (xs ys : List A) → map f (xs ++ ys) ≡ map f xs ++ map f ys
map-append f [] ys = refl
map-append f (x ∷ xs) ys = rw (map-append f xs ys)

pub length-pieces : (ps : List Piece) → length (join piece-words ps) ≡ piece-size * length ps
length-pieces [] = refl
length-pieces (p ∷ ps) = let h = length-pieces ps in omega arith

length_runs : (n : ℕ) (l : List ℕ) → length (runs-at n l) ≡ n
unfolding runs-at
length_runs zero l = refl
length_runs (suc n) l = rw (length-append, length_runs n l) (omega arith)

same_runs : (n : ℕ) (l m : List ℕ) → ((j : ℕ) → j < n → run_at l j ≡ run_at m j) → runs-at n l ≡ runs-at n m
unfolding runs-at
same_runs zero l m h = refl
same_runs (suc n) l m h = rw (same_runs n l m (λ j g. h j (omega arith)), h n (omega arith))

module _ (w : ℕ) (b : Brush) where
  abbrev pub piece : Span → Piece
  piece r = brush-piece b (tiles-of w r)

  -- the list once the first k runs are pieces too
  pub words : ℕ → List ℕ → List ℕ
  words k l = join piece-words (map piece (runs-at k l)) ++ drop (piece-size * k) l

  -- k runs of n are still to become pieces
  pub record Spreading (l₀ : List ℕ) (n k : ℕ) (l : List ℕ) : Type 0 where
    pub kept : length l ≡ length l₀
    pub room : piece-size * k ≤ length l
    pub fits : (j : ℕ) → j < k → Fits w b (run_at l j)
    pub rest : words k l ≡ words n l₀

  module _ (l : List ℕ) (k : ℕ) (h : piece-size * suc k ≤ length l) where
    next : List ℕ
    next = words-at l (piece-size * k) (piece-words (piece (run_at l k)))

    same-run : (j : ℕ) → j < k → run_at l j ≡ run_at next j
    unfolding next
    same-run j g =
        let below = at-below l (piece-size * k) (piece-words (piece (run_at l k))) (omega arith) 0 in
        rw (below (2 * j) (omega arith), below (2 * j + 1) (omega arith))

    front : length (take (piece-size * k) l) ≡ piece-size * k
    front = length-take-le (piece-size * k) l (omega arith)

    behind : drop (piece-size * k) next ≡ piece-words (piece (run_at l k)) ++ drop (piece-size * suc k) l
    unfolding next
    behind =
        let next_place : piece-size * k + piece-size ≡ piece-size * suc k = omega arith in
        rw (append_assoc, drop_at (take (piece-size * k) l) _ (piece-size * k) front, next_place)

    step : words (suc k) l ≡ words k next
    unfolding words runs-at
    step =
        rw (← same_runs k l next same-run, behind, map-append piece (runs-at k l) (run_at l k ∷ []), join-append piece-words, append_assoc)

    turn : (l₀ : List ℕ) (n : ℕ) → Spreading l₀ n (suc k) l → Spreading l₀ n k next
    unfolding next
    turn l₀ n s =
        record {
          kept = length_at l (piece-size * k) (piece-words (piece (run_at l k))) (omega arith) ∙ s.kept;
          room = rw (length_at l (piece-size * k) (piece-words (piece (run_at l k))) (omega arith)) (omega arith);
          fits = λ j g. subst (Fits w b) (same-run j g) (s.fits j (omega arith));
          rest = sym step ∙ s.rest;
        }

  module _ (l₀ : List ℕ) (n k : ℕ) (l : List ℕ) (s : Spreading l₀ n k l) where
    pub spread-again : (l' : List ℕ) → 0 < k → l' ≡ words-at l (piece-size * (k - 1)) (piece-words (piece (run_at l (k - 1)))) → Spreading l₀ n (k - 1) l'
    unfolding next
    spread-again l' h e =
        let one : k ≡ suc (k - 1) = omega arith in
        rw e (turn l (k - 1) (omega (arith, s.room)) l₀ n (subst (λ (m : ℕ). Spreading l₀ n m l) one s))

    pub spread_end : k ≤ 0 → l ≡ laid (map piece (runs-at n l₀)) l₀
    unfolding words runs-at
    spread_end h =
        let none : k ≡ 0 = omega arith in
        let e : words 0 l ≡ words n l₀ = subst (λ (m : ℕ). words m l ≡ words n l₀) none s.rest in
        let long : length (join piece-words (map piece (runs-at n l₀))) ≡ piece-size * n = length-pieces (map piece (runs-at n l₀)) ∙ rw (length-map, length_runs n l₀) in
        e ∙ rw long
