-- A file's bytes. Assumes nothing.
use Rattle.std.proofs.Common.{◌≡◌, refl, ap, ◌∙◌, Bool, true, false, ◌&&◌, ◌||◌, cond, List, ◌++◌, Option, None, Some, Result, Err, ℕ, ◌/◌, ◌%◌, length, take, drop, leb, ltb, eqb, le-ltb, lt-ltb, leb-true, leb-false}
use Rattle.sizes.specs.declared.answers.Refusal.{Refusal}
use Rattle.sizes.specs.declared.edition.Edition.{Edition}
use Rattle.sizes.specs.declared.answers.Refusal.TheVariants as refusal
use Rattle.sizes.specs.Refusals.{number_of}
use Rattle.rules.specs.Lists.{is_none}
use Rattle.rules.specs.Setups.{Setup}
use Rattle.rules.specs.Recording.{Recording, File, in-edition, parsed}
use Rattle.rules.specs.Lines.{words_of}
use Rattle.rules.specs.Lines as rules
use Rattle.file.specs.Held.{recording_of}
use Rattle.file.specs.Words.{Filled, filled, filled-with, words-in}
use Rattle.file.proofs.Bytes.{first-words, rules-words}
use Rattle.text.specs.declared.recording.Size.{Size}
use Rattle.text.specs.Files.{size_of, file-size, good-bytes, no-width-of, no-width-number}

-- What depends on a file by its words, and is `bad` for bytes that are too many or no whole words.
pub by-file : {A : Type 0} (bad : A) (f : List ℕ → A) (fs : List ℕ)
    → elim (ltb 65536 (length fs)) [ true ↦ bad | false ↦ elim (words_of fs) [ None ↦ bad | Some ws ↦ f ws ] ] ≡ cond (good-bytes (length fs)) (f (words-in fs)) bad
by-file {A} bad f fs = go (leb (length fs) 65536) (eqb (length fs % 4) 0) refl refl
  where
    go : (x y : Bool) → leb (length fs) 65536 ≡ x → eqb (length fs % 4) 0 ≡ y
        → elim (ltb 65536 (length fs)) [ true ↦ bad | false ↦ elim (words_of fs) [ None ↦ bad | Some ws ↦ f ws ] ] ≡ cond (x && y) (f (words-in fs)) bad
    go false y p e = rw (lt-ltb 65536 (length fs) (leb-false _ _ p))
    go true false p e = rw (le-ltb 65536 (length fs) (leb-true _ _ p), rules-words fs, e)
    go true true p e = rw (le-ltb 65536 (length fs) (leb-true _ _ p), rules-words fs, e)

-- the size, where the bytes are bad, and of the words of others
pub bad-size : (e : Edition) (fs : List ℕ) (q : Setup) → good-bytes (length fs) ≡ false → Err refusal.BadForm ≡ file-size e fs q
unfolding file-size
bad-size e fs q g = rw g refl

-- the words that they fill
module _ (fs ws : List ℕ) (g : good-bytes (length fs) ≡ true) {n : ℕ} {vs : List ℕ} (f : filled n vs ≡ filled-with fs ws) where
  count : n ≡ length fs / 4
  count = ap (λ (o : Filled). o.count) f

  words : vs ≡ words-in fs ++ drop (length fs / 4) ws
  words = ap (λ (o : Filled). o.words) f

  pub words-read : take n vs ≡ words-in fs
  words-read = rw (words, count) (first-words fs ws)

  pub size-read : (e : Edition) (q : Setup) {r : Result Size Refusal} → r ≡ size_of (in-edition e (take n vs)) q → r ≡ file-size e fs q
  unfolding file-size
  size-read e q h = rw g (rw words-read at h)

-- Where the width asked for is none: the number of the words' form, and of the bytes.
pub formless : (ws : File) {r : Refusal} → (r ≡ refusal.BadForm) × (parsed ws ≡ None) → number_of r ≡ no-width-of ws
unfolding no-width-of
formless ws e = rw (e.0, e.1)

pub well-formed : (ws : File) {y : Recording} → recording_of (parsed ws) ≡ Some y → 2 ≡ no-width-of ws
unfolding no-width-of
well-formed ws {y} e = go (parsed ws) e
  where
    go : (o : Option (List (List (List ℕ)))) → recording_of o ≡ Some y → ◌≡◌ {A = ℕ} 2 (cond (is_none o) 3 2)
    go None i = cc
    go (Some ss) i = refl

-- bytes that are no words, or too many, are bad of form, and others have the form of their words
either : (a b : Bool) → (a || b) ≡ elim a [ true ↦ true | false ↦ b ]
either true b = refl
either false b = refl

by-form : (e : Edition) (fs : List ℕ) → rules.bad-form e fs ≡ cond (good-bytes (length fs)) (is_none (parsed (in-edition e (words-in fs)))) true
by-form e fs =
    either (ltb 65536 (length fs)) (elim (words_of fs) [ None ↦ true | Some ws ↦ is_none (parsed (in-edition e ws)) ])
    ∙ by-file true (λ ws. is_none (parsed (in-edition e ws))) fs

pub no-width-bad : (e : Edition) (fs : List ℕ) → good-bytes (length fs) ≡ false → 3 ≡ no-width-number e fs
unfolding no-width-number
no-width-bad e fs g = rw (by-form e fs, g)

no-width-words : (e : Edition) (fs : List ℕ) → good-bytes (length fs) ≡ true → no-width-of (in-edition e (words-in fs)) ≡ no-width-number e fs
unfolding no-width-of no-width-number
no-width-words e fs g = rw (by-form e fs, g)

module _ (fs ws : List ℕ) (g : good-bytes (length fs) ≡ true) {n : ℕ} {vs : List ℕ} (f : filled n vs ≡ filled-with fs ws) where
  pub no-width-read : (e : Edition) {m : ℕ} → m ≡ no-width-of (in-edition e (take n vs)) → m ≡ no-width-number e fs
  no-width-read e h = (rw (words-read fs ws g f) at h) ∙ no-width-words e fs g
