-- The figures of a file's bytes: refused where there is no size of a screen; where there is, the call's, in tables of that size.
use Rattle.std.proofs.Common.{◌≡◌, refl, sym, ◌∙◌, Bool, true, false, cond, List, Option, None, Some, Ok, Err, ℕ, ◌≤◌, arith, length, replicate, ne_eqb}
use Rattle.std.proofs.lemmas.List.{length-replicate}
use Rattle.sizes.specs.declared.edition.Edition.{Edition}
use Rattle.sizes.specs.declared.answers.Refusal.{Refusal}
use Rattle.sizes.specs.declared.answers.Refusal.TheVariants as refusal
use Rattle.sizes.specs.Refusals.{number_of}
use Rattle.sizes.proofs.Refusals.{not_done}
use Rattle.rules.specs.Rows.{fresh-row}
use Rattle.rules.specs.Steps.{reset}
use Rattle.rules.specs.Setups.{Setup}
use Rattle.rules.specs.Recording.{File, in-edition, parsed}
use Rattle.rules.specs.Walk.{Place}
use Rattle.rules.specs.Lines.{rowlist-place, rowlist-screen}
use Rattle.rules.specs.Lines as rules
use Rattle.rules_picture.specs.Recorded.{played}
use Rattle.rules_figures.specs.Figures.{Figures, one-refused}
use Rattle.rules_figures.specs.Recordings.{of-sections, of-file}
use Rattle.rules_figures.specs.Lines.{of-bytes}
use Rattle.screen.specs.declared.Screen as declared
use Rattle.screen.specs.Tables.{Tables, screen_lent}
use Rattle.file.specs.Words.{words-in}
use Rattle.tally.specs.Recordings.{recorded-figures}
use Rattle.text.specs.declared.recording.Size.{Size}
use Rattle.text.specs.Files.{nothing, refusing, Usual, Exact, size_of, good-bytes, file-size}
use Rattle.text.proofs.Bytes.{by-file}
use Rattle.refine_text.proofs.Files.{words-print}
use Rattle.refine_tally.proofs.Enough.{rowlist-counted}

-- a file whose play is not done is refused
refused-of : (p : Place) (f : File) → ((played p (reset fresh-row rules.nothing) f).number ≡ 0 → ⊥) → of-file p f ≡ one-refused
unfolding of-file
refused-of p f n = go (parsed f)
  where
    go : (o : Option (List (List (List ℕ)))) → of-sections p f o ≡ one-refused
    go None = refl
    go (Some ss) = rw (ne_eqb (played p (reset fresh-row rules.nothing) f).number 0 n)

roomy : (n : ℕ) → n ≤ length (replicate {A = ℕ} n 0)
roomy n = omega (arith, length-replicate {A = ℕ} n 0)

-- what the call counts in tables of the lengths of the file's screen
tallied : (q : Setup) → Usual q → (f : File) {z : Size} → Ok z ≡ size_of f q → (t : Tables) → Exact z t
    → recorded-figures f q (screen_lent nothing t) ≡ of-file (rowlist-place q f) f
tallied q u f i t k = rowlist-counted q u f t k i nothing

module _ (ed : Edition) (q : Setup) (u : Usual q) (fs : List ℕ) where
  -- the file, and its figures
  abbrev file : File
  file = in-edition ed (words-in fs)

  abbrev its : Figures
  its = of-file (rowlist-place q file) file

  by-bytes : of-bytes ed q fs ≡ cond (good-bytes (length fs)) its one-refused
  unfolding of-bytes
  by-bytes = by-file one-refused (λ ws. of-file (rowlist-place q (in-edition ed ws)) (in-edition ed ws)) fs

  -- in any bytes that have room for the longest text
  sizeless : (bs : List ℕ) → 264256 ≤ length bs → {r : Refusal} → Err r ≡ size_of file q → its ≡ one-refused
  sizeless bs room {r} h =
      let p = (words-print q u file bs room).number in
      let e : number_of r ≡ (rowlist-screen q file).number = unfold refusing in (rw (← h) at p) in
      refused-of (rowlist-place q file) file (λ z. not_done r (e ∙ z))

  pub unsized : {r : Refusal} → Err r ≡ file-size ed fs q → {g : Figures} → g ≡ one-refused → g ≡ of-bytes ed q fs
  unfolding file-size
  unsized {r} h e = e ∙ sym (by-bytes ∙ go (good-bytes (length fs)) h)
    where
      go : (b : Bool) → Err r ≡ cond b (size_of file q) (Err refusal.BadForm) → cond b its one-refused ≡ one-refused
      go true i = sizeless (replicate 264256 0) (roomy 264256) i
      go false i = refl

  pub sized : {z : Size} → Ok z ≡ file-size ed fs q → {t : Tables} → Exact z t → {ws : List ℕ} → ws ≡ words-in fs → {s : declared.Screen} → s ≡ nothing
      → {g : Figures} → g ≡ recorded-figures (in-edition ed ws) q (screen_lent s t) → g ≡ of-bytes ed q fs
  unfolding file-size
  sized {z} h {t} k {ws} w {s} y {g} e = e ∙ rw (w, y) (go (good-bytes (length fs)) h ∙ sym by-bytes)
    where
      go : (b : Bool) → Ok z ≡ cond b (size_of file q) (Err refusal.BadForm) → recorded-figures file q (screen_lent nothing t) ≡ cond b its one-refused
      go true i = tallied q u file i t k
      go false i = cc
