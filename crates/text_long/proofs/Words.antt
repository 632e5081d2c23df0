-- A long file's bytes as words.
use Rattle.std.proofs.Common.{◌≡◌, ℕ, ◌%◌, refl, sym, ap, ◌∙◌, Bool, true, false, ◌&&◌, cond, List, length, take, leb, ltb, eqb, None, Some, leb-true, leb-false, le-ltb, lt-ltb}
use Rattle.rules.specs.Lines.{words_of}
use Rattle.file.specs.Words.{Filled, filled, filled-with, words-in}
use Rattle.file.proofs.Bytes.{first-words, rules-words}
use Rattle.text_long.specs.Long.{good-long, words-of-long}

by-good : (bs : List ℕ) → words-of-long bs ≡ cond (good-long (length bs)) (Some (words-in bs)) None
by-good bs = go (leb (length bs) 1048576) (eqb (length bs % 4) 0) refl refl
  where
    go : (x y : Bool) → leb (length bs) 1048576 ≡ x → eqb (length bs % 4) 0 ≡ y → words-of-long bs ≡ cond (x && y) (Some (words-in bs)) None
    go false y p e = rw (lt-ltb 1048576 (length bs) (leb-false _ _ p))
    go true false p e = rw (le-ltb 1048576 (length bs) (leb-true _ _ p), rules-words bs, e)
    go true true p e = rw (le-ltb 1048576 (length bs) (leb-true _ _ p), rules-words bs, e)

pub none-read : (bs : List ℕ) → good-long (length bs) ≡ false → words-of-long bs ≡ None
none-read bs h = by-good bs ∙ rw h

-- the words that a file's bytes fill
pub some-read : (bs ws vs : List ℕ) (n : ℕ) → good-long (length bs) ≡ true → filled n vs ≡ filled-with bs ws → words-of-long bs ≡ Some (take n vs)
some-read bs ws vs n h f =
    let count = ap (λ (o : Filled). o.count) f in
    let words = ap (λ (o : Filled). o.words) f in
    by-good bs ∙ rw (h, count, words) (ap Some (sym (first-words bs ws)))

-- what depends on a file by its words, and is `bad` where it has none
pub by-words : {A : Type 0} (bad : A) (f : List ℕ → A) (bs : List ℕ)
    → ◌≡◌ {A = A} (elim (ltb 1048576 (length bs)) [ true ↦ bad | false ↦ elim (words_of bs) [ None ↦ bad | Some ws ↦ f ws ] ]) (elim (words-of-long bs) [ None ↦ bad | Some ws ↦ f ws ])
by-words {A} bad f bs = go (ltb 1048576 (length bs))
  where
    go : (b : Bool) → ◌≡◌ {A = A} (elim b [ true ↦ bad | false ↦ elim (words_of bs) [ None ↦ bad | Some ws ↦ f ws ] ]) (elim (cond b None (words_of bs)) [ None ↦ bad | Some ws ↦ f ws ])
    go true = refl
    go false = refl
