-- Sections written and parsed are the same.
use Prim.Native.Nat.{ℕ, ◌*◌, ◌≤◌}
use native.Mathlib.Omega.{arith}
use mathlib.Core.Path.{◌≡◌, refl, ap, ◌∙◌}
use mathlib.Core.Bool.{Bool, true, false, ◌&&◌, cond}
use mathlib.Core.List.{List, [], ◌∷◌, ◌++◌}
use Rattle.std.specs.Prelude.{Option, None, Some, option_map}
use lib.ListN.{length, drop, length-append}
use lib.Dec.{leb}
use borrow.Author.Tests.{leb-true, le-leb}
use Rattle.rules.specs.Lists.{every}
use Rattle.rules.specs.Recording.{good-count, sections, records}
use Rattle.rules.proofs.All.{both}
use Rattle.rules.specs.Conversions.{written}
use Rattle.convert.specs.Written.{joined, of-words, shaped, WrittenParsed, Parsed, ParsedWritten}
use Rattle.convert.proofs.Records.{joined-length, cut-joined, past-joined, records-count, records-whole, records-joined}

pub never : (false ≡ true) → ⊥
never h = let z : ◌≡◌ {A = ℕ} 0 1 = ap (λ (b : Bool). cond b 1 0) h in omega arith

picked : {T : Type 0} (t : Bool) (x y : Option T) → elim t [ true ↦ x | false ↦ y ] ≡ cond t x y
picked true x y = refl
picked false x y = refl

pub opened : (s : ℕ × Bool) (ss : List (ℕ × Bool)) (n : ℕ) (ws : List ℕ)
    → sections (s ∷ ss) (n ∷ ws) ≡ cond (good-count s.1 n && leb (n * s.0) (length ws)) (option_map (λ xs. records s.0 n ws ∷ xs) (sections ss (drop (n * s.0) ws))) None
unfolding sections
opened s ss n ws = picked (good-count s.1 n && leb (n * s.0) (length ws)) _ _

pub written-parsed : WrittenParsed
unfolding sections shaped
written-parsed [] [] h = refl
written-parsed [] (x ∷ xs) h = absurd (never h)
written-parsed (s ∷ ss) [] h = absurd (never h)
written-parsed (s ∷ ss) (x ∷ xs) h =
    let b = both (good-count s.1 (length x) && every (of-words s.0) x) (shaped ss xs) h in
    let c = both (good-count s.1 (length x)) (every (of-words s.0) x) b.0 in
    let l : leb (length x * s.0) (length (joined x ++ written xs)) ≡ true = le-leb _ _ (rw (length-append (joined x) (written xs), joined-length s.0 x c.1) (omega arith)) in
    opened s ss (length x) (joined x ++ written xs) ∙ rw (c.0, l, cut-joined s.0 x (written xs) c.1, past-joined s.0 x (written xs) c.1, written-parsed ss xs b.1) refl

module _ (s : ℕ × Bool) (ss : List (ℕ × Bool)) (n : ℕ) (ws : List ℕ) (xs : List (List (List ℕ)))
    (more : (ys : List (List (List ℕ))) → sections ss (drop (n * s.0) ws) ≡ Some ys → Parsed ss (drop (n * s.0) ws) ys) where
  put : (good-count s.1 n ≡ true) × (n * s.0 ≤ length ws) → (ys : List (List (List ℕ))) → Parsed ss (drop (n * s.0) ws) ys → Parsed (s ∷ ss) (n ∷ ws) (records s.0 n ws ∷ ys)
  unfolding shaped
  put g ys m =
      record {
        words = rw (records-count s.0 n ws, m.words) (ap (λ (t : List ℕ). n ∷ t) (records-joined s.0 n ws));
        shape = rw (records-count s.0 n ws, g.0, records-whole s.0 n ws g.1, m.shape) refl;
      }

  by-rest : (good-count s.1 n ≡ true) × (n * s.0 ≤ length ws) → (o : Option (List (List (List ℕ)))) → sections ss (drop (n * s.0) ws) ≡ o
      → option_map (λ ys. records s.0 n ws ∷ ys) o ≡ Some xs → Parsed (s ∷ ss) (n ∷ ws) xs
  by-rest g None e h = let z : ◌≡◌ {A = ℕ} 0 1 = cc in absurd (omega arith)
  by-rest g (Some ys) e h = let p : records s.0 n ws ∷ ys ≡ xs = cc in rw (← p) (put g ys (more ys e))

  by-test : (t : Bool) → (good-count s.1 n && leb (n * s.0) (length ws)) ≡ t
      → elim t [ true ↦ option_map (λ ys. records s.0 n ws ∷ ys) (sections ss (drop (n * s.0) ws)) | false ↦ None ] ≡ Some xs → Parsed (s ∷ ss) (n ∷ ws) xs
  by-test true q h =
      let g = both (good-count s.1 n) (leb (n * s.0) (length ws)) q in
      by-rest (g.0, leb-true (n * s.0) (length ws) g.1) _ refl h
  by-test false q h = let z : ◌≡◌ {A = ℕ} 0 1 = cc in absurd (omega arith)

pub parsed-written : ParsedWritten
unfolding sections shaped
parsed-written [] [] xs e = let p : [] ≡ xs = cc in rw (← p) (record { words = refl; shape = refl })
parsed-written [] (n ∷ ws) xs e = let z : ◌≡◌ {A = ℕ} 0 1 = cc in absurd (omega arith)
parsed-written (s ∷ ss) [] xs e = let z : ◌≡◌ {A = ℕ} 0 1 = cc in absurd (omega arith)
parsed-written (s ∷ ss) (n ∷ ws) xs e = by-test s ss n ws xs (parsed-written ss (drop (n * s.0) ws)) _ refl e
