-- The id, written bucket by bucket from left to right. Assumes nothing.
use Rattle.std.proofs.Common.{◌≡◌, refl, sym, ◌∙◌, Bool, true, false, ◌&&◌, List, [], ◌∷◌, ℕ, zero, suc, ◌≤◌, ◌<◌, ◌+◌, add-one, zero-add, le_of_suc-le-suc, not-suc-le-zero, arith, length, get_or, set}
use Rattle.std.proofs.Common.{length-set, leb, ltb, ne_eqb, lt-ltb, le-ltb, le-leb, leb-true}
use lib.Seq.{set-get_or}
use borrow.Author.Rules.{read_above}
use borrow.Author.Tests.{lt-leb}
use Rattle.rules.specs.Spans.{span, covers}
use Rattle.rules.specs.Depth.{write, written_from, written}

module _ (id hi : ℕ) where
  -- where the range starts does not matter to the buckets after it
  started : (k a b : ℕ) (bs : List ℕ) → a ≤ k → b ≤ k → written_from k id (span a hi) bs ≡ written_from k id (span b hi) bs
  started k a b [] h g = refl
  started k a b (x ∷ bs) h g = rw (le-leb a k h, le-leb b k g, started (suc k) a b bs (omega arith) (omega arith))

  step : (k i a : ℕ) (bs : List ℕ) → i < length bs → a ≡ k + i → a < hi
      → written_from k id (span a hi) bs ≡ written_from k id (span (suc a) hi) (set bs i (write id (get_or bs i 0)))
  step k i a [] l e h = absurd (not-suc-le-zero l)
  step k zero a (x ∷ bs) l e h =
      let q : a ≡ k = omega arith in
      rw (le-leb a k (omega arith), lt-ltb k hi (omega arith), lt-leb (suc a) k (omega arith), started (suc k) a (suc a) bs (omega arith) (omega arith))
  step k (suc i) a (x ∷ bs) l e h =
      rw (lt-leb a k (omega arith), lt-leb (suc a) k (omega arith), step (suc k) i a bs (le_of_suc-le-suc l) (omega arith) h)

  outside : (k a : ℕ) → hi ≤ a → covers (span a hi) k ≡ false
  outside k a h = go (leb a k) refl
    where
      go : (t : Bool) → leb a k ≡ t → (t && ltb k hi) ≡ false
      go true e = le-ltb k hi (omega (arith, leb-true))
      go false e = refl

  nothing : (k a : ℕ) (bs : List ℕ) → hi ≤ a → written_from k id (span a hi) bs ≡ bs
  nothing k a [] h = refl
  nothing k a (x ∷ bs) h = rw (outside k a h, nothing (suc k) a bs h)

  mark-end : (i : ℕ) (bs : List ℕ) → hi ≤ i → written bs id (span i hi) ≡ bs
  unfolding written
  mark-end i bs h = nothing 0 i bs h

  module _ (i : ℕ) (bs : List ℕ) (l : i < length bs) (h : i < hi) where
    turn : written bs id (span i hi) ≡ written (set bs i (write id (get_or bs i 0))) id (span (i + 1) hi)
    unfolding written
    turn = rw add-one (step 0 i i bs l (sym (zero-add i)) h)

    mark_set : get_or bs i 0 ≡ 0 → written bs id (span i hi) ≡ written (set bs i id) id (span (i + 1) hi)
    mark_set e = rw e at turn

    mark-kept : (get_or bs i 0 ≡ 0 → ⊥) → written bs id (span i hi) ≡ written bs id (span (i + 1) hi)
    mark-kept e = rw (ne_eqb (get_or bs i 0) 0 e, set-get_or bs i 0) at turn

  module _ (bs₀ : List ℕ) (lo : ℕ) where
    -- the buckets before i are written; those from i on are as they were, and still to be written
    pub record Marked (i : ℕ) (bs : List ℕ) : Type 0 where
      pub long : length bs ≡ length bs₀
      pub rest : written bs id (span i hi) ≡ written bs₀ id (span lo hi)
      pub same : (k : ℕ) → i ≤ k → get_or bs k 0 ≡ get_or bs₀ k 0

    pub mark-first : Marked lo bs₀
    mark-first = record { long = refl; rest = refl; same = λ k h. refl }

    module _ (i : ℕ) (bs : List ℕ) (m : Marked i bs) where
      pub mark-done : hi ≤ i → bs ≡ written bs₀ id (span lo hi)
      mark-done h = sym (mark-end i bs h) ∙ m.rest

      module _ (fits : hi ≤ length bs₀) (h : i < hi) where
        -- an unset bucket is written ..
        pub mark-open : get_or bs₀ i 0 ≡ 0 → Marked (i + 1) (set bs i id)
        mark-open e =
            record {
              long = simp length-set m.long;
              rest = sym (mark_set i bs (omega (arith, m.long)) h (m.same i (omega arith) ∙ e)) ∙ m.rest;
              same = λ k g. read_above ℕ bs i k id 0 (get_or bs₀ k 0) (omega arith) (m.same k (omega arith));
            }

        -- .. another stays
        pub mark-closed : 0 < get_or bs₀ i 0 → Marked (i + 1) bs
        mark-closed e =
            record {
              long = m.long;
              rest = sym (mark-kept i bs (omega (arith, m.long)) h (λ z. omega (arith, m.same i (omega arith)))) ∙ m.rest;
              same = λ k g. m.same k (omega arith);
            }
