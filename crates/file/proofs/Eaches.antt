-- Laws of records of a fixed size.
use Rattle.std.proofs.Common.{ℕ, zero, suc, ◌+◌, ◌*◌, ◌≤◌, ◌<◌, add-zero, mul-zero, mul-suc, add_assoc, add_comm, add-one, arith, ◌≡◌, refl, ap, ◌∙◌, Bool, true, List, [], ◌∷◌, ◌++◌, map, length, get_or, take, drop, drop-drop}
use Rattle.std.specs.List.{list_all, range_with_len}
use Rattle.rules.specs.Lists.{every}
use Rattle.rules.specs.Recording.{records}
use Rattle.rules.proofs.All.{both}
use Rattle.file.specs.Each.{each}

module _ {A : Type 0} (f : List ℕ → ℕ → A) (k : ℕ) (ws : List ℕ) where
  pub each-length : (p n : ℕ) → length (each f k ws p n) ≡ n
  unfolding each
  each-length p zero = refl
  each-length p (suc n) = ap suc (each-length (p + k) n)

  -- record i stands k * i places on
  pub each_at : (p n i : ℕ) (d : A) → i < n → get_or (each f k ws p n) i d ≡ f ws (p + k * i)
  unfolding each
  each_at p zero i d h = absurd (omega arith)
  each_at p (suc n) zero d h = rw (mul-zero, add-zero)
  each_at p (suc n) (suc i) d h = each_at (p + k) n i d (omega arith) ∙ rw (mul-suc k i, add_assoc, add_comm k (k * i))

  pub each_more : (p n : ℕ) → each f k ws p (n + 1) ≡ each f k ws p n ++ (f ws (p + k * n) ∷ [])
  unfolding each
  each_more p zero = rw (mul-zero, add-zero)
  each_more p (suc n) =
      let e : p + k + k * n ≡ p + k * suc n = rw (mul-suc k n) (omega arith) in
      rw (add-one (suc n)) (ap (λ (l : List A). f ws p ∷ l) (rw (add-one n) at (rw e at (each_more (p + k) n))))

  -- records read one by one are the records cut out and then read
  pub each-record : (g : List ℕ → A) → ((p : ℕ) → g (take k (drop p ws)) ≡ f ws p) → (p n : ℕ)
      → map g (records k n (drop p ws)) ≡ each f k ws p n
  unfolding each
  each-record g e p zero = refl
  each-record g e p (suc n) = rw (e p, drop-drop k p ws, each-record g e (p + k) n)

  -- records within a part of the words, where f reads only its own k words
  module _ (a m : ℕ) (near : (i : ℕ) → i + k ≤ m → f (take m (drop a ws)) i ≡ f ws (a + i)) where
    by_part : (n i : ℕ) → i + k * n ≤ m → each f k (take m (drop a ws)) i n ≡ each f k ws (a + i) n
    unfolding each
    by_part zero i h = refl
    by_part (suc n) i h =
        let e : i + k * suc n ≡ i + k + k * n = rw (mul-suc k n) (omega arith) in
        rw (near i (omega arith), by_part n (i + k) (omega arith), add_assoc a i k)

    pub each_part : (n : ℕ) → k * n ≤ m → each f k (take m (drop a ws)) 0 n ≡ each f k ws a n
    each_part n h = rw (add-zero a) at (by_part n 0 (omega arith))

  module _ (test : A → Bool) where
    -- what a test says of every record, it says of record i
    pub every-at : (p n i : ℕ) → i < n → every test (each f k ws p n) ≡ true → test (f ws (p + k * i)) ≡ true
    unfolding each
    every-at p zero i h q = absurd (omega arith)
    every-at p (suc n) zero h q = rw (mul-zero, add-zero) (both (test (f ws p)) (every test (each f k ws (p + k) n)) q).0
    every-at p (suc n) (suc i) h q =
        let e : p + k + k * i ≡ p + k * suc i = rw (mul-suc k i) (omega arith) in
        rw e at (every-at (p + k) n i (omega arith) (both (test (f ws p)) (every test (each f k ws (p + k) n)) q).1)

    by_places : (p a n : ℕ) → list_all (λ (i : ℕ). test (f ws (p + k * i))) (range_with_len a n) ≡ every test (each f k ws (p + k * a) n)
    unfolding each
    by_places p a zero = refl
    by_places p a (suc n) =
        let e : p + k * (a + 1) ≡ p + k * a + k = omega arith in
        rw (by_places p (a + 1) n, e)

    -- a test of every place is a test of every record
    pub each_place : (p n : ℕ) → list_all (λ (i : ℕ). test (f ws (p + k * i))) (range_with_len 0 n) ≡ every test (each f k ws p n)
    each_place p n = rw (mul-zero, add-zero) at (by_places p 0 n)
