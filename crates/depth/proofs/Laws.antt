-- Runs that the form over tile numbers listed are written as spans, one for one. Assumes nothing.
use Rattle.std.proofs.Common.{◌≡◌, refl, sym, ap, ◌∙◌, List, [], ◌∷◌, ◌++◌, map, append_assoc, ℕ, zero, suc, ◌+◌, ◌*◌, ◌<◌, ◌≤◌, not-suc-le-zero, le_of_suc-le-suc, arith, length, get_or, take, drop}
use Rattle.std.proofs.Common.{length-append, take-suc, length-take-le, drop-cons, Ok, Err}
use mathlib.Core.List.{map-append}
use lib.ListN.{length-map}
use lib.Seq.{set_at, take-length}
use Rattle.sizes.specs.declared.answers.Refusal.{Refusal}
use Rattle.sizes.specs.Refusals.{number_of}
use Rattle.rules.specs.Answers as rules
use Rattle.rules.specs.Spans.{Span, span}
use Rattle.span.specs.declared.TileSpan.{TileSpan}
use Rattle.depth.specs.Listing as words
use Rattle.depth.specs.Listing.{numbers, over}
use Rattle.depth.proofs.Filling.{length-numbers}
use Rattle.depth.specs.Spans.{span-at, no_span, with-spans, as-span}
use Rattle.depth.specs.SpanLists.{out, listing}

twice : (k : ℕ) → suc k * 2 ≡ suc (suc (k * 2))
twice k = omega arith

twice-one : (k : ℕ) → suc k * 2 + 1 ≡ suc (suc (k * 2 + 1))
twice-one k = omega arith

ends : {a b c d : ℕ} → a ≡ c → b ≡ d → ◌≡◌ {A = TileSpan} (record { first = a; end = b }) (record { first = c; end = d })
ends p q = rw (p, q)

-- a run's numbers are its span
pub span-back : (rs : List Span) (rest : List ℕ) (k : ℕ) → k < length rs → span-at (numbers rs ++ rest) k ≡ as-span (get_or rs k (span 0 0))
unfolding numbers
span-back [] rest k h = absurd (not-suc-le-zero h)
span-back (r ∷ rs) rest zero h = refl
span-back (r ∷ rs) rest (suc k) h =
    let l : List ℕ = r.first ∷ r.end ∷ (numbers rs ++ rest) in
    ends (ap (λ (n : ℕ). get_or l n 0) (twice k)) (ap (λ (n : ℕ). get_or l n 0) (twice-one k))
    ∙ span-back rs rest k (le_of_suc-le-suc h)

-- the first n of them, then what stood there
written : (rs : List Span) (rest : List ℕ) (l : List TileSpan) (n : ℕ) → n ≤ length rs → n ≤ length l
    → with-spans (numbers rs ++ rest) n l ≡ map as-span (take n rs) ++ drop n l
unfolding with-spans
written rs rest l zero h g = refl
written rs rest l (suc n) h g =
    let k : n < length rs = omega arith in
    let m : n < length l = omega arith in
    let e : length (map as-span (take n rs)) ≡ n = length-map (take n rs) as-span ∙ length-take-le n rs (omega arith) in
    rw (written rs rest l n (omega arith) (omega arith), span-back rs rest n k, drop-cons l n no_span m)
    (set_at (map as-span (take n rs)) (get_or l n no_span) (drop (suc n) l) (as-span (get_or rs n (span 0 0))) n e
    ∙ sym (rw (take-suc rs n (span 0 0) k, map-append, append_assoc)))

-- all of them, where the form over tile numbers left them in a list
pub as-listed : (rs : List Span) (ws : List ℕ) (l : List TileSpan) → length rs ≤ length l
    → with-spans (over (numbers rs) ws) (length rs) l ≡ map as-span rs ++ drop (length rs) l
as-listed rs ws l h = written rs _ l (length rs) (omega arith) h ∙ rw (take-length rs)

-- What a caller of the form over tile numbers gives on, with a list of spans b.
module _ (n : ℕ) (m ws : List ℕ) (x : rules.Answer (List Span)) (e : words.out (Ok n) m ≡ words.listing x ws) where
  pub listed-fits : n * 2 ≤ length m
  unfolding words.listing
  listed-fits =
      let c : n ≡ length x.value = ap (λ (o : words.RunsOut). o.count) e in
      let l : m ≡ over (numbers x.value) ws = ap (λ (o : words.RunsOut). o.list) e in
      omega (arith, c, ap length l, length-append (numbers x.value) (drop (length (numbers x.value)) ws), length-numbers x.value)

  pub seen : (b : List TileSpan) → n ≤ length b → out (Ok n) (with-spans m n b) ≡ listing x b
  unfolding words.listing listing
  seen b h =
      let d : 0 ≡ x.number = ap (λ (o : words.RunsOut). o.number) e in
      let c : n ≡ length x.value = ap (λ (o : words.RunsOut). o.count) e in
      let l : m ≡ over (numbers x.value) ws = ap (λ (o : words.RunsOut). o.list) e in
      let g : length x.value ≤ length b = omega (arith, c) in
      rw (l, c, d) (ap (λ (v : List TileSpan). record { number = x.number; count = length x.value; spans = v }) (as-listed x.value ws b g))

-- .. where it is refused: no run is listed, so that the list stays
pub refused : (r : Refusal) (m ws : List ℕ) (x : rules.Answer (List Span)) → words.out (Err r) m ≡ words.listing x ws → (b : List TileSpan) → out (Err r) b ≡ listing x b
unfolding words.listing listing
refused r m ws x e b =
    let d : number_of r ≡ x.number = ap (λ (o : words.RunsOut). o.number) e in
    let c : 0 ≡ length x.value = ap (λ (o : words.RunsOut). o.count) e in
    none-listed x.value c d
  where
    none-listed : (rs : List Span) → 0 ≡ length rs → number_of r ≡ x.number
        → out (Err r) b ≡ record { number = x.number; count = length rs; spans = map as-span rs ++ drop (length rs) b }
    none-listed [] c d = rw d
    none-listed (s ∷ rs) c d = absurd (omega (arith, c))
