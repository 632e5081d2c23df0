-- A long file's bytes, and how many words a converted file has at most.
use Rattle.std.proofs.Common.{ℕ, ◌+◌, ◌*◌, ◌≤◌, ◌≡◌, refl, sym, ap, ◌∙◌, arith, Bool, true, false, ◌&&◌, cond, List, [], ◌∷◌, ◌++◌, length, take, drop, leb, eqb, eqb-true, leb-true, le-ltb, length-append}
use Rattle.std.proofs.Common.{Option, None, Some, option_map, Result, Ok, Err}
use Rattle.std.proofs.Math.Nat.{mul-le-mul_right}
use Rattle.std.proofs.lemmas.List.{take_at}
use Rattle.sizes.specs.declared.answers.Refusal.{Refusal}
use Rattle.sizes.specs.declared.edition.Edition.{Edition}
use Rattle.sizes.specs.declared.edition.Edition.TheVariants.{One, Two}
use Rattle.sizes.specs.Refusals.{number_of}
use Rattle.rules.specs.Answers.{Answer, answer, settle, BadForm, Done}
use Rattle.rules.specs.Setups.{Mode}
use Rattle.rules.specs.Recording.{File, in-edition, shape, head, starts, good-count, records, sections, parsed}
use Rattle.rules.specs.Lines.{bytes-of}
use Rattle.rules.specs.Conversions.{written, file-of, converted, judge-sections, conversion, convert-call, converted-bytes}
use Rattle.rules.proofs.All.{and_left}
use Rattle.convert.specs.Placed.{Placed, placed, put_first}
use Rattle.convert.proofs.Records.{resized-count, records-count}
use Rattle.text_long.specs.Long.{words-of-long}
use Rattle.text_long.proofs.Words.{by-words}
use Rattle.run_editions.specs.Conversions.{ConvertedAs}

-- sections of a shape have at most so many words
abbrev most : List (ℕ × Bool) → ℕ
most [] = 0
most (t ∷ ts) = 1 + 4096 * t.0 + most ts

-- .. whatever shape they are converted to
abbrev Few : Option (List (List (List ℕ))) → Type 0
Few None = Unit {0}
Few (Some ss) = (th : List (ℕ × Bool)) → length (written (converted th ss)) ≤ most th

no-few : Few (Some [])
unfolding converted
no-few [] = omega arith
no-few (t ∷ ts) = omega arith

few-more : (x : List (List ℕ)) → length x ≤ 4096 → (o : Option (List (List (List ℕ)))) → Few o → Few (option_map (λ xs. x ∷ xs) o)
unfolding converted
few-more x h None f = tt
few-more x h (Some ss) f = go
  where
    go : (th : List (ℕ × Bool)) → length (written (converted th (x ∷ ss))) ≤ most th
    go [] = omega arith
    go (t ∷ ts) =
        let e = resized-count t.0 x in
        let m = mul-le-mul_right t.0 h in
        let rest = f ts in
        rw (length-append, e) (omega (arith, m, rest))

good-few : (b : Bool) (n : ℕ) → good-count b n ≡ true → n ≤ 4096
good-few true n h = omega (arith, eqb-true n 1 h)
good-few false n h = leb-true n 4096 h

few-sections : (sh : List (ℕ × Bool)) (ws : List ℕ) → Few (sections sh ws)
unfolding sections
few-sections [] [] = no-few
few-sections [] (n ∷ ws) = tt
few-sections (s ∷ sh) [] = tt
few-sections (s ∷ sh) (n ∷ ws) = go (good-count s.1 n && leb (n * s.0) (length ws)) refl (few-sections sh (drop (n * s.0) ws))
  where
    go : (b : Bool) → (good-count s.1 n && leb (n * s.0) (length ws)) ≡ b → Few (sections sh (drop (n * s.0) ws))
        → Few (elim b [ true ↦ option_map (λ xs. records s.0 n ws ∷ xs) (sections sh (drop (n * s.0) ws)) | false ↦ None ])
    go true q h =
        let few : n ≤ 4096 = good-few s.1 n (and_left (good-count s.1 n) (leb (n * s.0) (length ws)) q) in
        few-more (records s.0 n ws) (rw (records-count s.0 n ws) few) (sections sh (drop (n * s.0) ws)) h
    go false q h = tt

few-parsed : (f : File) → Few (parsed f)
unfolding parsed
few-parsed f = go (starts (head f.edition) f.words)
  where
    go : (b : Bool) → Few (cond b (sections (shape f.edition) (drop (length (head f.edition)) f.words)) None)
    go true = few-sections (shape f.edition) (drop (length (head f.edition)) f.words)
    go false = tt

few-file : (e : Edition) (ss : List (List (List ℕ))) → Few (Some ss) → length (file-of e (converted (shape e) ss)) ≤ 200713
few-file One ss h = let k = h (shape One) in omega (arith, k)
few-file Two ss h = let k = h (shape Two) in omega (arith, k)

few-settled : (b : Bool) (n : ℕ) (v : List ℕ) → length v ≤ 200713 → length (cond b (answer Done v) (answer n [])).value ≤ 200713
few-settled true n v h = h
few-settled false n v h = omega arith

module _ (m : Mode) (e : Edition) (f : File) where
  abbrev by-sections : Option (List (List (List ℕ))) → Answer (List ℕ)
  by-sections o = elim o [ None ↦ answer BadForm [] | Some ss ↦ settle (judge-sections m e ss) [] (file-of e (converted (shape e) ss)) ]

  few-by : (o : Option (List (List (List ℕ)))) → Few o → length (by-sections o).value ≤ 200713
  few-by None h = omega arith
  few-by (Some ss) h = few-settled (eqb (judge-sections m e ss) Done) (judge-sections m e ss) (file-of e (converted (shape e) ss)) (few-file e ss h)

  few-words : length (conversion m e f).value ≤ 200713
  unfolding conversion
  few-words = few-by (parsed f) (few-parsed f)

  -- so that there is room
  roomy : (n : ℕ) → 200713 ≤ n → convert-call m e n f ≡ conversion m e f
  unfolding convert-call
  roomy n h = rw (le-ltb n (length (conversion m e f).value) (omega (arith, few-words, h)))

-- what is put is the answer
no-words : (xs : List ℕ) → 0 ≡ length xs → xs ≡ []
no-words [] h = refl
no-words (x ∷ xs) h = absurd (omega arith)

as-put : (a : Answer (List ℕ)) (r : Result ℕ Refusal) (old new : List ℕ) → placed r new ≡ put_first a old → ConvertedAs (answer a.number (bytes-of a.value)) r new
as-put a (Ok n) old new h =
    let number : 0 ≡ a.number = ap (λ (p : Placed). p.number) h in
    let count : n ≡ length a.value = ap (λ (p : Placed). p.count) h in
    let words : new ≡ a.value ++ drop (length a.value) old = ap (λ (p : Placed). p.words) h in
    let value : take n new ≡ a.value = ap (take n) words ∙ take_at a.value _ n (sym count) in
    rw (← number, value) refl
as-put a (Err x) old new h =
    let number : number_of x ≡ a.number = ap (λ (p : Placed). p.number) h in
    let none : a.value ≡ [] = no-words a.value (ap (λ (p : Placed). p.count) h) in
    rw (← number, none) refl

module _ (m : Mode) (d e : Edition) (fs : List ℕ) where
  by-read : converted-bytes m e d fs
      ≡ elim (words-of-long fs) [ None ↦ answer BadForm [] | Some ws ↦ let a = conversion m e (in-edition d ws) in answer a.number (bytes-of a.value) ]
  unfolding converted-bytes
  by-read = by-words (answer BadForm []) (λ ws. let a = conversion m e (in-edition d ws) in answer a.number (bytes-of a.value)) fs

  pub bad-bytes : words-of-long fs ≡ None → converted-bytes m e d fs ≡ answer 3 []
  bad-bytes g = by-read ∙ rw g

  pub good-bytes : (ws : List ℕ) → words-of-long fs ≡ Some ws → (r : Result ℕ Refusal) (n : ℕ) (old new : List ℕ) → 200713 ≤ n
      → placed r new ≡ put_first (convert-call m e n (in-edition d ws)) old → ConvertedAs (converted-bytes m e d fs) r new
  good-bytes ws g r n old new h p =
      let f = in-edition d ws in
      rw (by-read, g) (as-put (conversion m e f) r old new (rw (roomy m e f n h) at p))
