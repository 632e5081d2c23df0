-- What is written of a file is the rules' text. Assumes nothing.
use Rattle.std.proofs.Common.{◌≡◌, refl, sym, ap, ◌∙◌, Bool, true, false, cond, List, append-nil, Result, Ok, Err, ℕ, ◌≤◌, arith, length, take, take_at, le-ltb}
use Rattle.std.specs.Result.{is_err}
use Rattle.sizes.specs.declared.answers.Refusal.{Refusal}
use Rattle.sizes.specs.declared.edition.Edition.{Edition}
use Rattle.sizes.specs.declared.answers.Refusal.TheVariants as refusal
use Rattle.sizes.specs.Refusals.{answer_number}
use Rattle.sizes.proofs.Refusals.{not_done}
use Rattle.rules.specs.Recording.{in-edition}
use Rattle.rules.specs.Answers.{BadForm}
use Rattle.rules.proofs.All.{never}
use Rattle.rules.specs.Setups.{Setup}
use Rattle.rules.specs.Lines.{rowlist-screen, refused, no-width, line-bytes}
use Rattle.file.specs.Words.{words-in}
use Rattle.text.specs.Listed.{Listing, TextOut, text-out, begun-with, written, refused-listed, text_of}
use Rattle.text.specs.Files.{Text, Showed, shows-as, Usual, size_of, good-bytes, file-size, refusing, sized-text, bytes-text, no-width-number}
use Rattle.text.proofs.Bytes.{by-file}
use Rattle.refine_text.proofs.Lengths.{line-few}
use Rattle.refine_text.proofs.Files.{shows, file-printed, words-print}
use Rattle.text_files.specs.Programs.{rowlist-number, rowlist-text, no-width-text, no-edition-text, first}

module _ (ed : Edition) (q : Setup) (u : Usual q) (fs bs : List ℕ) (room : 264256 ≤ length bs) where
  pub rowlist-shown : {x : Text} {cs : List ℕ} → shows-as x cs ≡ bytes-text ed fs q bs → (x.bytes ≡ length (rowlist-text ed q fs)) × (cs ≡ first (rowlist-text ed q fs) bs)
  rowlist-shown e =
      let p = ap shows e ∙ file-printed ed q u fs bs room in
      (ap (λ (y : ℕ × List ℕ). y.0) p, ap (λ (y : ℕ × List ℕ). y.1) p)

  number-there : (bytes-text ed fs q bs).text.number ≡ rowlist-number ed q fs
  unfolding bytes-text file-size refusing rowlist-number
  number-there = rw (by-file BadForm (λ ws. (rowlist-screen q (in-edition ed ws)).number) fs) (go (good-bytes (length fs)))
    where
      go : (b : Bool) → (sized-text (cond b (size_of (in-edition ed (words-in fs)) q) (Err refusal.BadForm)) (in-edition ed (words-in fs)) q bs).text.number ≡ cond b (rowlist-screen q (in-edition ed (words-in fs))).number BadForm
      go true = (words-print q u (in-edition ed (words-in fs)) bs room).number
      go false = refl

  pub number-shown : {x : Text} {cs : List ℕ} → shows-as x cs ≡ bytes-text ed fs q bs → x.number ≡ rowlist-number ed q fs
  number-shown e = ap (λ (o : Showed). o.text.number) e ∙ number-there

-- one refusal's line, where it fits
module _ (n : ℕ) (ts : List ℕ) (same : line-bytes (refused n) ≡ ts) where
  pub line-shown : (bs : List ℕ) → 64 ≤ length bs → {m : ℕ} → m ≡ n → {r : Listing} {cs : List ℕ} → text-out r cs ≡ refused-listed m bs
      → (r.bytes ≡ length ts) × (cs ≡ first ts bs)
  unfolding written
  line-shown bs room {m} h {r} {cs} e =
      let short : length (line-bytes (refused n)) ≤ 64 = line-few (refused n) in
      let o : text-out r cs ≡ begun-with (line-bytes (refused n)) bs = e ∙ rw (h, le-ltb (length bs) (length (line-bytes (refused n))) (omega (arith, short, room))) in
      rw (← same) (ap (λ (x : TextOut). x.answer.bytes) o, ap (λ (x : TextOut). x.bytes) o)

-- the line where the width asked for is none, and where the edition is
pub no-width-line : (e : Edition) (fs : List ℕ) → line-bytes (refused (no-width-number e fs)) ≡ no-width-text e fs
unfolding no-width-number no-width text_of
no-width-line e fs = sym (append-nil _)

pub no-edition-line : line-bytes (refused 3) ≡ no-edition-text
unfolding text_of
no-edition-line = sym (append-nil _)

-- a text that stands first is the bytes as far as it goes
pub first_taken : (ts bs : List ℕ) (n : ℕ) (cs : List ℕ) → n ≡ length ts → cs ≡ first ts bs → take n cs ≡ ts
first_taken ts bs n cs h e = rw (e, h) (take_at ts _ (length ts) (omega arith))

-- whether an answer is a refusal, by its number
pub is-refused : {T : Type 0} (x : Result T Refusal) → is_err x ≡ true → answer_number x ≡ 0 → ⊥
is-refused (Ok y) e z = never (sym e)
is-refused (Err r) e z = not_done r z

pub is-done : {T : Type 0} (x : Result T Refusal) → is_err x ≡ false → answer_number x ≡ 0
is-done (Ok y) e = refl
is-done (Err r) e = never e
