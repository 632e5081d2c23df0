-- The bytes of a file: where its call refuses, the refusal is the rules' answer; where not, its words are accepted. Assumes nothing.
use Rattle.std.proofs.Common.{◌≡◌, refl, sym, ap, ◌∙◌, Bool, true, false, cond, List, [], ◌∷◌, append-nil, ℕ, ◌%◌, ◌≤◌, leb, eqb, length, take, leb-true, ne_eqb}
use Rattle.rules.proofs.All.{and_left}
use Rattle.rules.specs.Answers.{BadForm}
use Rattle.sizes.specs.declared.edition.Edition.{Edition}
use Rattle.rules.specs.Setups.{Setup}
use Rattle.rules.specs.Recording.{File, in-edition}
use Rattle.rules.specs.Lines.{refused, rowlist-screen, rowlist-words, rowlist, line-bytes}
use Rattle.rules_reason.specs.Answers.{Question, refused-bytes, why-words, why-text}
use Rattle.file.specs.Words.{words-in}
use Rattle.text.specs.Files.{good-bytes}
use Rattle.text.specs.Listed.{text_of}
use Rattle.text.proofs.Bytes.{by-file}
use Rattle.text_files.specs.Programs.{rowlist-number, rowlist-text, first}
use Rattle.text_files.proofs.Laws.{first_taken}

one_line : (n : ℕ) → text_of (refused n ∷ []) ≡ refused-bytes n
unfolding text_of
one_line n = append-nil (line-bytes (refused n))

module _ (e : Edition) (u : Setup) (fs : List ℕ) (row tile : ℕ) (q : Question) where
  -- the file
  abbrev words : File
  words = in-edition e (words-in fs)

  by-why : why-text e u fs row tile q ≡ cond (good-bytes (length fs)) (why-words u words row tile q) (refused-bytes BadForm)
  unfolding why-text
  by-why = by-file (refused-bytes BadForm) (λ ws. why-words u (in-edition e ws) row tile q) fs

  by-number : rowlist-number e u fs ≡ cond (good-bytes (length fs)) (rowlist-screen u words).number BadForm
  unfolding rowlist-number
  by-number = by-file BadForm (λ ws. (rowlist-screen u (in-edition e ws)).number) fs

  -- where the recording is refused, what is printed is the same line
  same-refusal : (f : File) → ((rowlist-screen u f).number ≡ 0 → ⊥) → why-words u f row tile q ≡ text_of (rowlist-words u f)
  unfolding why-words rowlist-words
  same-refusal f d = rw (ne_eqb (rowlist-screen u f).number 0 d) (sym (one_line (rowlist-screen u f).number))

  -- a refused file
  refused-same : (rowlist-number e u fs ≡ 0 → ⊥) → why-text e u fs row tile q ≡ rowlist-text e u fs
  unfolding rowlist
  refused-same d = by-why ∙ go (good-bytes (length fs)) (λ z. d (by-number ∙ z)) ∙ sym (ap text_of (by-file (refused BadForm ∷ []) (λ ws. rowlist-words u (in-edition e ws)) fs))
    where
      go : (b : Bool) → (cond b (rowlist-screen u words).number BadForm ≡ 0 → ⊥)
          → cond b (why-words u words row tile q) (refused-bytes BadForm) ≡ text_of (cond b (rowlist-words u words) (refused BadForm ∷ []))
      go true i = same-refusal words i
      go false i = sym (one_line BadForm)

  pub refused-text : (bs : List ℕ) {n : ℕ} {cs : List ℕ} → (rowlist-number e u fs ≡ 0 → ⊥) → n ≡ length (rowlist-text e u fs) → cs ≡ first (rowlist-text e u fs) bs
      → (n ≡ length (why-text e u fs row tile q)) × (take n cs ≡ why-text e u fs row tile q)
  refused-text bs {n} {cs} d h g = rw (refused-same d) (h, first_taken (rowlist-text e u fs) bs n cs h g)

  -- another: its words are accepted
  pub record Accepted : Type 0 where
    pub few : length fs ≤ 65536
    pub done : (rowlist-screen u words).number ≡ 0
    pub text : why-text e u fs row tile q ≡ why-words u words row tile q

  pub accepted-file : rowlist-number e u fs ≡ 0 → Accepted
  accepted-file z = go (good-bytes (length fs)) refl (sym by-number ∙ z) by-why
    where
      go : (b : Bool) → good-bytes (length fs) ≡ b → cond b (rowlist-screen u words).number BadForm ≡ 0
          → why-text e u fs row tile q ≡ cond b (why-words u words row tile q) (refused-bytes BadForm) → Accepted
      go true g i t = record { few = leb-true _ _ (and_left (leb (length fs) 65536) (eqb (length fs % 4) 0) g); done = i; text = t }
      go false g i t = cc
