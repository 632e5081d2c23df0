-- The recordings of a stream, counted one after the other.
use Rattle.std.proofs.Common.{◌≡◌, ℕ, suc, ◌+◌, ◌-◌, ◌^◌, ◌<◌, ◌≤◌, List, [], ◌∷◌, ◌++◌, append_assoc, append-nil, length, length-append, map, take, set, Option, None, Some, IfSome, IsSomeAnd, refl, sym, ap, subst, ◌∙◌, arith}
use Rattle.std.proofs.lemmas.List.{take_more_set, map-append}
use Rattle.rules.proofs.All.{All, nil, cons, all_append}
use Rattle.rules_figures.specs.Figures as rule
use Rattle.text_programs.specs.Arguments.{ReadAs}
use Rattle.text_programs.specs.Streams.{Item, first_item, after_item, items}
use Rattle.text_programs.proofs.Inputs.{items-end, items-more}
use Rattle.tally.specs.declared.counts.Figures.{Figures}
use Rattle.tally.specs.Counts.{figures-of}
use Rattle.run_figures.specs.Printed.{figures_read, item_figures, recordings}
use Rattle.run_figures.specs.Counting.{NextRead, StreamRead, first-figures}
use Rattle.run_figures.proofs.Cut.{figures-cut}

-- one more is put after the first i
module _ (fs : List Figures) (i : ℕ) (f : Figures) (h : i < length fs) where
  pub first-more : first-figures (i + 1) (set fs i f) ≡ first-figures i fs ++ (figures-of f ∷ [])
  first-more = ap (map figures-of) (take_more_set fs i f h) ∙ map-append figures-of (take i fs) (f ∷ [])

  pub all-more : (P : rule.Figures → Type 0) → All P (first-figures i fs) → P (figures-of f) → All P (first-figures (i + 1) (set fs i f))
  all-more P a p = subst (All P) (sym first-more) (all_append a (cons p nil))

-- Of a stream: gs are the figures of its first i recordings, and others are still to come.
abbrev pub Counted : ReadAs → ℕ → Option (List ℕ) → Option (List ℕ) → List rule.Figures → Type 0
Counted r i known rest gs =
    IfSome known (λ stream. IsSomeAnd rest (λ bs. (xs : List Item) × (gs ≡ map (item_figures r) xs) × (recordings stream ≡ xs ++ items 4 (2 ^ 64 - 1 - i) bs) × (length xs ≡ i)))

pub counted-none : (r : ReadAs) (known : Option (List ℕ)) → Counted r 0 known known []
counted-none r None = tt
counted-none r (Some stream) = ([], refl, refl, refl)

module _ (r : ReadAs) (i : ℕ) where
  from_there : (bs : List ℕ) → i < 2 ^ 64 - 1 → 4 ≤ length bs → items 4 (2 ^ 64 - 1 - i) bs ≡ first_item 4 bs ∷ items 4 (2 ^ 64 - 1 - (i + 1)) (after_item 4 bs)
  from_there bs h q =
      let M = 2 ^ 64 - 1 in
      let n : M - i ≡ suc (M - (i + 1)) = omega arith in
      ap (λ j. items 4 j bs) n ∙ items-more 4 (M - (i + 1)) bs q

  module _ (h : i < 2 ^ 64 - 1) (n : ℕ) (cs : List ℕ) where
    pub counted-more : (known rest new : Option (List ℕ)) (gs : List rule.Figures) (g : rule.Figures) → length cs ≡ 65537 → Counted r i known rest gs
        → IfSome rest (λ bs. NextRead bs new (Some n) cs) → g ≡ figures_read r (take n cs) → Counted r (i + 1) known new (gs ++ (g ∷ []))
    counted-more None rest new gs g room p q e = tt
    counted-more (Some stream) None new gs g room p q e = absurd p
    counted-more (Some stream) (Some bs) new gs g room p q e =
        let x = first_item 4 bs in
        let later = items 4 (2 ^ 64 - 1 - (i + 1)) (after_item 4 bs) in
        let all : recordings stream ≡ (p.0 ++ (x ∷ [])) ++ later = p.2 ∙ ap (λ ys. p.0 ++ ys) (from_there bs h q.0) ∙ sym (append_assoc p.0 (x ∷ []) later) in
        let own : g ≡ item_figures r x = e ∙ ap (figures_read r) (q.2 ∙ ap (λ k. take k x.file) room) ∙ figures-cut r x.file in
        let listed : gs ++ (g ∷ []) ≡ map (item_figures r) (p.0 ++ (x ∷ [])) =
        ap (λ hs. hs ++ (g ∷ [])) p.1 ∙ ap (λ y. map (item_figures r) p.0 ++ (y ∷ [])) own ∙ sym (map-append (item_figures r) p.0 (x ∷ [])) in
        let many : length (p.0 ++ (x ∷ [])) ≡ i + 1 = length-append p.0 (x ∷ []) ∙ ap (λ j. j + 1) p.3 in
        subst
        (λ (o : Option (List ℕ)). IsSomeAnd o (λ ds. (xs : List Item) × (gs ++ (g ∷ []) ≡ map (item_figures r) xs) × (recordings stream ≡ xs ++ items 4 (2 ^ 64 - 1 - (i + 1)) ds) × (length xs ≡ i + 1)))
        (sym q.1)
        (p.0 ++ (x ∷ []), listed, all, many)

    -- there is one more than there is room for
    pub counted-over : (known rest new : Option (List ℕ)) (gs : List rule.Figures) (fs : List Figures) → length fs ≤ i → Counted r i known rest gs → IfSome rest (λ bs. NextRead bs new (Some n) cs)
        → IfSome known (λ stream. StreamRead r stream None fs)
    counted-over None rest new gs fs k p q = tt
    counted-over (Some stream) None new gs fs k p q = absurd p
    counted-over (Some stream) (Some bs) new gs fs k p q =
        let later = items 4 (2 ^ 64 - 1 - (i + 1)) (after_item 4 bs) in
        let all : length (recordings stream) ≡ length p.0 + suc (length later) = ap length (p.2 ∙ ap (λ ys. p.0 ++ ys) (from_there bs h q.0)) ∙ length-append p.0 (first_item 4 bs ∷ later) in
        omega (arith, all, p.3, k)

  -- no more are left
  pub counted-all : (m : ℕ) (known rest : Option (List ℕ)) (fs : List Figures) → m ≡ i → i ≤ length fs → Counted r i known rest (first-figures i fs) → IfSome rest (λ bs. length bs < 4)
      → IfSome known (λ stream. StreamRead r stream (Some m) fs)
  counted-all m None rest fs e k p q = tt
  counted-all m (Some stream) None fs e k p q = absurd p
  counted-all m (Some stream) (Some bs) fs e k p q =
      let all : recordings stream ≡ p.0 = p.2 ∙ ap (λ ys. p.0 ++ ys) (items-end 4 (2 ^ 64 - 1 - i) bs q) ∙ append-nil p.0 in
      (omega (arith, ap length all, p.3, k), ap (λ j. first-figures j fs) e ∙ p.1 ∙ ap (map (item_figures r)) (sym all))
