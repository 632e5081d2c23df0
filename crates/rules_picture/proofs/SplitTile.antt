-- Rule 7 seen from one tile t of bucket k: if the span covers the whole bucket, the depth fill has it and no regular piece has t;
-- otherwise the depth fill does not have it, and exactly one regular piece has t if the span has.
use Rattle.std.proofs.Common.{ℕ, suc, ◌+◌, ◌-◌, ◌*◌, ◌/◌, ◌%◌, ◌≤◌, ◌<◌, ◌≡◌, refl, Bool, true, false, ◌&&◌, cond, List, [], ◌∷◌, suc-mul, mod-lt, div-add-mod', mul-div_cancel, mul-le-mul_right}
use Rattle.std.proofs.Common.{lt_of_mul-lt-mul_right, lt_of_not-le, le_of_suc-le-suc, arith, leb, ltb, lt-ltb, le-ltb, le-leb, leb-true, leb-false, ltb-true, ltb-false}
use borrow.Author.Tests.{lt-leb}
use Rattle.rules.specs.Lists.{keep}
use Rattle.rules.specs.Spans.{Span, span, covers}
use Rattle.rules.specs.Split.{Part, regular, buckets, raised, lowered, split}

-- how many regular pieces have the tile, how many depth fills the bucket
abbrev pub regular-hits : ℕ → List Part → ℕ
regular-hits t [] = 0
regular-hits t (regular s ∷ ps) = cond (covers s t) (suc (regular-hits t ps)) (regular-hits t ps)
regular-hits t (buckets b ∷ ps) = regular-hits t ps

abbrev pub bucket-hits : ℕ → List Part → ℕ
bucket-hits k [] = 0
bucket-hits k (regular s ∷ ps) = bucket-hits k ps
bucket-hits k (buckets b ∷ ps) = cond (covers b k) (suc (bucket-hits k ps)) (bucket-hits k ps)

-- the span covers bucket k whole
abbrev pub whole-at : ℕ → ℕ → Span → Bool
whole-at w k s = leb s.first (k * w) && leb (suc k * w) s.end

abbrev parts : ℕ → ℕ → ℕ → ℕ → ℕ → ℕ → List Part
parts x e a b A B =
    cond (leb b a) (regular (span x e) ∷ []) (keep (ltb x a) (regular (span x a)) (buckets (span A B) ∷ keep (ltb b e) (regular (span b e)) []))

pub record Hit (w t k : ℕ) (s : Span) (ps : List Part) : Type 0 where
  pub regular-one : regular-hits t ps ≡ cond (covers s t) (cond (whole-at w k s) 0 1) 0
  pub bucket-one : bucket-hits k ps ≡ cond (whole-at w k s) 1 0

-- a and b are the ends A and B of the bucket range as tiles: what is needed of them
record Ends (w k x e a b A B : ℕ) : Type 0 where
  from-x : x ≤ a
  to-e : b ≤ e
  first-in : x ≤ k * w → A ≤ k
  first-low : A ≤ k → a ≤ k * w
  first-high : k < A → suc k * w ≤ a
  last-in : suc k * w ≤ e → k < B
  last-high : k < B → suc k * w ≤ b
  last-low : B ≤ k → b ≤ k * w

module _ (w t k x e a b A B : ℕ) (lo : k * w ≤ t) (hi : t < suc k * w) (n : Ends w k x e a b A B) where
  inside : A ≤ k → k < B → Hit w t k (span x e) (parts x e a b A B)
  inside h₁ h₂ =
      let f₁ : a ≤ k * w = n.first-low h₁ in
      let f₂ : suc k * w ≤ b = n.last-high h₂ in
      let f₃ : x ≤ a = n.from-x in
      let f₄ : b ≤ e = n.to-e in
      go (ltb x a) (ltb b e) (lt-leb b a (omega arith)) (le-leb x (k * w) (omega arith)) (le-leb (suc k * w) e (omega arith)) (le-leb A k h₁) (lt-ltb k B h₂) (le-ltb t a (omega arith)) (lt-leb b t (omega arith))
      (le-leb x t (omega arith)) (lt-ltb t e (omega arith))
    where
      go : (c d : Bool) → leb b a ≡ false → leb x (k * w) ≡ true → leb (suc k * w) e ≡ true → leb A k ≡ true → ltb k B ≡ true → ltb t a ≡ false → leb b t ≡ false → leb x t ≡ true → ltb t e ≡ true → Hit w t k (span x e) (cond (leb b a) (regular (span x e) ∷ []) (keep c (regular (span x a)) (buckets (span A B) ∷ keep d (regular (span b e)) [])))
      go true true q₁ q₂ q₃ q₄ q₅ q₆ q₇ q₈ q₉ = record { regular-one = simp (q₁, q₂, q₃, q₆, q₇, q₈, q₉); bucket-one = simp (q₁, q₂, q₃, q₄, q₅) }
      go true false q₁ q₂ q₃ q₄ q₅ q₆ q₇ q₈ q₉ = record { regular-one = simp (q₁, q₂, q₃, q₆, q₈, q₉); bucket-one = simp (q₁, q₂, q₃, q₄, q₅) }
      go false true q₁ q₂ q₃ q₄ q₅ q₆ q₇ q₈ q₉ = record { regular-one = simp (q₁, q₂, q₃, q₇, q₈, q₉); bucket-one = simp (q₁, q₂, q₃, q₄, q₅) }
      go false false q₁ q₂ q₃ q₄ q₅ q₆ q₇ q₈ q₉ = record { regular-one = simp (q₁, q₂, q₃, q₈, q₉); bucket-one = simp (q₁, q₂, q₃, q₄, q₅) }

  -- one regular piece, the span itself
  alone : whole-at w k (span x e) ≡ false → Hit w t k (span x e) (regular (span x e) ∷ [])
  alone q = record { regular-one = rw q; bucket-one = rw q }

  -- the span cut in three
  abbrev cut : Bool → Bool → List Part
  cut c d = keep c (regular (span x a)) (buckets (span A B) ∷ keep d (regular (span b e)) [])

  -- a bucket before the depth fill's
  before-cut : k < A → a < b → (c d g : Bool) → ltb x a ≡ c → leb x t ≡ g → leb x (k * w) ≡ false → leb A k ≡ false → ltb t a ≡ true → ltb t e ≡ true → leb b t ≡ false → Hit w t k (span x e) (cut c d)
  before-cut h l true true true q r v u₁ u₂ u₃ u₄ = record { regular-one = simp (v, r, u₂, u₃, u₄); bucket-one = simp (v, u₁) }
  before-cut h l true true false q r v u₁ u₂ u₃ u₄ = record { regular-one = simp (v, r, u₂, u₃, u₄); bucket-one = simp (v, u₁) }
  before-cut h l true false true q r v u₁ u₂ u₃ u₄ = record { regular-one = simp (v, r, u₂, u₃); bucket-one = simp (v, u₁) }
  before-cut h l true false false q r v u₁ u₂ u₃ u₄ = record { regular-one = simp (v, r, u₂, u₃); bucket-one = simp (v, u₁) }
  before-cut h l false d true q r v u₁ u₂ u₃ u₄ =
      let g₁ : a ≤ x = ltb-false x a q in
      let g₂ : x ≤ t = leb-true x t r in
      let g₃ : t < a = ltb-true t a u₂ in
      absurd (omega arith)
  before-cut h l false true false q r v u₁ u₂ u₃ u₄ = record { regular-one = simp (v, r, u₃, u₄); bucket-one = simp (v, u₁) }
  before-cut h l false false false q r v u₁ u₂ u₃ u₄ = record { regular-one = simp (v, r, u₃); bucket-one = simp (v, u₁) }

  before : k < A → Hit w t k (span x e) (parts x e a b A B)
  before h =
      let f₁ : suc k * w ≤ a = n.first-high h in
      let f₂ : k * w < x = lt_of_not-le (λ (g : x ≤ k * w). let i : A ≤ k = n.first-in g in omega arith) in
      go f₁ (lt-leb x (k * w) f₂) (leb b a) refl
    where
      go : suc k * w ≤ a → leb x (k * w) ≡ false → (o : Bool) → leb b a ≡ o → Hit w t k (span x e) (cond o (regular (span x e) ∷ []) (cut (ltb x a) (ltb b e)))
      go f v true p = alone (rw v)
      go f v false p =
          let l : a < b = leb-false b a p in
          let m : b ≤ e = n.to-e in
          before-cut h l (ltb x a) (ltb b e) (leb x t) refl refl v (lt-leb A k h) (lt-ltb t a (omega arith)) (lt-ltb t e (omega arith)) (lt-leb b t (omega arith))

  -- a bucket after it
  after-cut : (c d g : Bool) → ltb b e ≡ d → ltb t e ≡ g → b ≤ t → leb x (k * w) ≡ true → leb (suc k * w) e ≡ false → ltb k B ≡ false → leb A k ≡ true → ltb t a ≡ false → leb b t ≡ true → leb x t ≡ true → Hit w t k (span x e) (cut c d)
  after-cut true true true q r l v₁ v₂ u₁ u₂ u₃ u₄ u₅ = record { regular-one = simp (v₁, v₂, r, u₃, u₄, u₅); bucket-one = simp (v₁, v₂, u₁, u₂) }
  after-cut true true false q r l v₁ v₂ u₁ u₂ u₃ u₄ u₅ = record { regular-one = simp (v₁, v₂, r, u₃, u₄, u₅); bucket-one = simp (v₁, v₂, u₁, u₂) }
  after-cut false true true q r l v₁ v₂ u₁ u₂ u₃ u₄ u₅ = record { regular-one = simp (v₁, v₂, r, u₄, u₅); bucket-one = simp (v₁, v₂, u₁, u₂) }
  after-cut false true false q r l v₁ v₂ u₁ u₂ u₃ u₄ u₅ = record { regular-one = simp (v₁, v₂, r, u₄, u₅); bucket-one = simp (v₁, v₂, u₁, u₂) }
  after-cut c false true q r l v₁ v₂ u₁ u₂ u₃ u₄ u₅ =
      let g₁ : e ≤ b = ltb-false b e q in
      let g₂ : t < e = ltb-true t e r in
      absurd (omega arith)
  after-cut true false false q r l v₁ v₂ u₁ u₂ u₃ u₄ u₅ = record { regular-one = simp (v₁, v₂, r, u₃, u₅); bucket-one = simp (v₁, v₂, u₁, u₂) }
  after-cut false false false q r l v₁ v₂ u₁ u₂ u₃ u₄ u₅ = record { regular-one = simp (v₁, v₂, r, u₅); bucket-one = simp (v₁, v₂, u₁, u₂) }

  and-false : (c : Bool) → (c && false) ≡ false
  and-false true = refl
  and-false false = refl

  after : A ≤ k → B ≤ k → Hit w t k (span x e) (parts x e a b A B)
  after h₁ h₂ =
      let f₁ : b ≤ k * w = n.last-low h₂ in
      let f₂ : e < suc k * w = lt_of_not-le (λ (g : suc k * w ≤ e). let i : k < B = n.last-in g in omega arith) in
      go f₁ (lt-leb (suc k * w) e f₂) (leb b a) refl
    where
      go : b ≤ k * w → leb (suc k * w) e ≡ false → (o : Bool) → leb b a ≡ o → Hit w t k (span x e) (cond o (regular (span x e) ∷ []) (cut (ltb x a) (ltb b e)))
      go f v true p = alone (rw v (and-false (leb x (k * w))))
      go f v false p =
          let l : a < b = leb-false b a p in
          let m : x ≤ a = n.from-x in
          after-cut (ltb x a) (ltb b e) (ltb t e) refl refl (omega arith) (le-leb x (k * w) (omega arith)) v (le-ltb k B h₂) (le-leb A k h₁) (le-ltb t a (omega arith)) (le-leb b t (omega arith)) (le-leb x t (omega arith))

  any-bucket : Hit w t k (span x e) (parts x e a b A B)
  any-bucket = go (leb A k) refl (ltb k B) refl
    where
      go : (c : Bool) → leb A k ≡ c → (d : Bool) → ltb k B ≡ d → Hit w t k (span x e) (parts x e a b A B)
      go false p d q = before (leb-false A k p)
      go true p true q = inside (leb-true A k p) (ltb-true k B q)
      go true p false q = after (leb-true A k p) (ltb-false k B q)

-- the ends that rule 7 takes
rule-ends : (w k x e : ℕ) → 0 < w → Ends w k x e (raised w x) (lowered w e) ((x + (w - 1)) / w) (e / w)
rule-ends w k x e pos =
    let A : ℕ = (x + (w - 1)) / w in
    let r₁ : A * w + (x + (w - 1)) % w ≡ x + (w - 1) = div-add-mod' (x + (w - 1)) w in
    let r₂ : (x + (w - 1)) % w < w = mod-lt (x + (w - 1)) pos in
    let s₁ : e / w * w + e % w ≡ e = div-add-mod' e w in
    let s₂ : e % w < w = mod-lt e pos in
    let t₁ : suc k * w ≡ k * w + w = suc-mul k w in
    let t₂ : suc (e / w) * w ≡ e / w * w + w = suc-mul (e / w) w in
    record {
      from-x = omega arith;
      to-e = omega arith;
      first-in = λ h. le_of_suc-le-suc (lt_of_mul-lt-mul_right w (omega arith));
      first-low = λ h. mul-le-mul_right w h;
      first-high = λ h. mul-le-mul_right w h;
      last-in = λ h. le_of_suc-le-suc (lt_of_mul-lt-mul_right w (omega arith));
      last-high = λ h. mul-le-mul_right w h;
      last-low = λ h. mul-le-mul_right w h;
    }

pub split-tile : (w t k : ℕ) (s : Span) → 0 < w → k * w ≤ t → t < suc k * w → Hit w t k s (split w s)
unfolding split
split-tile w t k s pos lo hi =
    rw (mul-div_cancel ((s.first + (w - 1)) / w) pos, mul-div_cancel (s.end / w) pos)
    (any-bucket w t k s.first s.end (raised w s.first) (lowered w s.end) ((s.first + (w - 1)) / w) (s.end / w) lo hi (rule-ends w k s.first s.end pos))
