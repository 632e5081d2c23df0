-- What a file becomes that is cut where it is too long, and what is known of one that was read so far.
use Rattle.std.proofs.Common.{ℕ, ◌*◌, ◌<◌, ◌≤◌, ◌≡◌, sym, ap, ◌∙◌, subst, List, [], ◌∷◌, ◌++◌, length, take, None, Some, Option, IfSome, lt-ltb, ne_eqb}
use Rattle.std.proofs.KnownBytes.{Appends-nil}
use Rattle.std.specs.Io.KnownBytes.{Appends}
use Rattle.sizes.specs.Refusals.{number_of}
use Rattle.sizes.specs.declared.answers.Refusal.{Refusal}
use Rattle.sizes.specs.declared.edition.Edition.{Edition}
use Rattle.sizes.proofs.Refusals.{not_done}
use Rattle.rules.specs.Answers.{Answer, answer}
use Rattle.rules.specs.Setups.{Mode}
use Rattle.rules.specs.Lines.{word-bytes, bytes-of}
use Rattle.rules.specs.Conversions.{converted-bytes, stream-item}
use Rattle.text_programs.specs.Streams.{Takes, Item, short}
use Rattle.text_programs.specs.Failures.{Begins}
use Rattle.text_programs.proofs.Cut.{cut-at}
use Rattle.run_editions.specs.declared.conversion.Job.{Job}
use Rattle.run_editions.specs.Printed.{job_becomes}
use Rattle.run_editions.proofs.Putting.{bytes-long}

long-bytes : (m : Mode) (e d : Edition) (xs : List ℕ) → 1048576 < length xs → converted-bytes m e d xs ≡ answer 3 []
unfolding converted-bytes
long-bytes m e d xs h = rw (lt-ltb 1048576 (length xs) h, converted-bytes)

cut-bytes : (m : Mode) (e d : Edition) (fs : List ℕ) → converted-bytes m e d (take 1048577 fs) ≡ converted-bytes m e d fs
cut-bytes m e d = cut-at 1048576 (converted-bytes m e d) (λ xs ys h k. long-bytes m e d xs h ∙ sym (long-bytes m e d ys k))

becomes-cut : (j : Job) (fs : List ℕ) → job_becomes j (take 1048577 fs) ≡ job_becomes j fs
becomes-cut j fs = cut-bytes _ _ _ fs

pub item-cut : (j : Job) (x : Item) → stream-item (job_becomes j (short 1048577 x).file) ≡ stream-item (job_becomes j x.file)
item-cut j x = ap stream-item (becomes-cut j x.file)

-- what holds of what the bytes that were read of a file become holds of what the file becomes
module _ (j : Job) (n : ℕ) (known mid : Option (List ℕ)) (ts : List ℕ) (a : Answer (List ℕ)) (e : n ≡ 1048577) (t : Takes n known mid ts) (q : job_becomes j ts ≡ a) where
  of-read : (P : Answer (List ℕ) → Type 0) → P a → IfSome known (λ fs. P (job_becomes j fs))
  of-read P p = go known t
    where
      go : (known : Option (List ℕ)) → Takes n known mid ts → IfSome known (λ fs. P (job_becomes j fs))
      go None t = tt
      go (Some fs) t = subst P (sym q ∙ ap (job_becomes j) (t.0 ∙ ap (λ k. take k fs) e) ∙ becomes-cut j fs) p

  pub written-of : (old new : Option (List ℕ)) → Appends old new a.value → IfSome known (λ fs. Appends old new (job_becomes j fs).value)
  written-of old new p = of-read (λ (b : Answer (List ℕ)). Appends old new b.value) p

  pub begun-of : (old new : Option (List ℕ)) → Begins old new a.value → IfSome known (λ fs. Begins old new (job_becomes j fs).value)
  begun-of old new p = of-read (λ (b : Answer (List ℕ)). Begins old new b.value) p

  pub number-of : (k : ℕ) → k ≡ a.number → IfSome known (λ fs. k ≡ (job_becomes j fs).number)
  number-of k p = of-read (λ (b : Answer (List ℕ)). k ≡ b.number) p

-- nothing is written of nothing
pub none-written : (a : Option (List ℕ)) → Appends a a []
none-written a = Appends-nil a

pub none-begun : (a : Option (List ℕ)) → Begins a a []
none-begun a = (0, Appends-nil a)

-- an item is that of the rules' answer
pub item-done : (a : Answer (List ℕ)) (n : ℕ) (ws : List ℕ) → n ≤ length ws → a ≡ answer 0 (bytes-of (take n ws)) → word-bytes (4 * length (take n ws)) ++ bytes-of (take n ws) ≡ stream-item a
item-done a n ws h e = rw (e, bytes-long (take n ws))

pub item-refused : (a : Answer (List ℕ)) (r : Refusal) → a ≡ answer (number_of r) [] → bytes-of (4294967295 ∷ number_of r ∷ []) ≡ stream-item a
item-refused a r e = rw (e, ne_eqb (number_of r) 0 (not_done r))
