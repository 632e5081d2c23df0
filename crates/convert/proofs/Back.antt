-- Sections converted, and back, over any two shapes of a kind.
use Rattle.std.proofs.Common.{ℕ, arith, ◌≡◌, refl, Bool, true, false, ◌&&◌, cond, List, [], ◌∷◌, ◌++◌, None, Some, map, length, drop, eqb, eqb-true}
use Rattle.std.proofs.lemmas.List.{length-map}
use Rattle.rules.specs.Lists.{every}
use Rattle.rules.specs.Recording.{good-count, sections, shape, head, starts, in-edition, parsed}
use Rattle.rules.specs.Conversions.{written, file-of, resized, keeps, converted, all-kept}
use Rattle.rules.proofs.All.{both}
use Rattle.sizes.specs.declared.edition.Edition.{Edition}
use Rattle.sizes.specs.declared.edition.Edition.TheVariants.{One, Two}
use Rattle.convert.specs.Written.{of-words, shaped}
use Rattle.convert.proofs.Parsing.{never, written-parsed, parsed-written}
use Rattle.convert.proofs.Records.{resized-whole}
use Rattle.convert.proofs.Resized.{resized-back, keeps-back}

-- as many sections, the same counts fixed
pub kin : List (ℕ × Bool) → List (ℕ × Bool) → Bool
kin [] [] = true
kin [] (t ∷ ts) = false
kin (s ∷ ss) [] = false
kin (s ∷ ss) (t ∷ ts) = cond s.1 t.1 (cond t.1 false true) && kin ss ts

-- the records of a section, and back
mapped-back : (k m : ℕ) (x : List (List ℕ)) → every (of-words k) x ≡ true → every (keeps m) x ≡ true → map (resized k) (map (resized m) x) ≡ x
mapped-back k m [] h g = refl
mapped-back k m (r ∷ x) h g =
    let a = both (of-words k r) (every (of-words k) x) h in
    let b = both (keeps m r) (every (keeps m) x) g in
    let e : resized k (resized m r) ≡ r = rw (← eqb-true (length r) k a.0) (resized-back m r b.0) in
    rw (e, mapped-back k m x a.1 b.1) refl

mapped-kept : (k m : ℕ) (x : List (List ℕ)) → every (of-words k) x ≡ true → every (keeps k) (map (resized m) x) ≡ true
mapped-kept k m [] h = refl
mapped-kept k m (r ∷ x) h =
    let a = both (of-words k r) (every (of-words k) x) h in
    let e : keeps k (resized m r) ≡ true = rw (← eqb-true (length r) k a.0) (keeps-back m r) in
    rw (e, mapped-kept k m x a.1) refl

same-bits : (a b : Bool) → cond a b (cond b false true) ≡ true → a ≡ b
same-bits true true h = refl
same-bits true false h = absurd (never h)
same-bits false true h = absurd (never h)
same-bits false false h = refl

-- what is converted has the other shape, ..
converted-shaped : (ss ts : List (ℕ × Bool)) (xs : List (List (List ℕ))) → kin ss ts ≡ true → shaped ss xs ≡ true → shaped ts (converted ts xs) ≡ true
unfolding shaped converted kin
converted-shaped [] [] xs k h = refl
converted-shaped [] (t ∷ ts) xs k h = absurd (never k)
converted-shaped (s ∷ ss) [] xs k h = absurd (never k)
converted-shaped (s ∷ ss) (t ∷ ts) [] k h = absurd (never h)
converted-shaped (s ∷ ss) (t ∷ ts) (x ∷ xs) k h =
    let q = both (cond s.1 t.1 (cond t.1 false true)) (kin ss ts) k in
    let b = both (good-count s.1 (length x) && every (of-words s.0) x) (shaped ss xs) h in
    let c = both (good-count s.1 (length x)) (every (of-words s.0) x) b.0 in
    rw (length-map x (resized t.0), ← same-bits s.1 t.1 q.0, c.0, resized-whole t.0 x, converted-shaped ss ts xs q.1 b.1) refl

-- .. where no word but 0 was cut away it goes back to what it was, ..
converted-back : (ss ts : List (ℕ × Bool)) (xs : List (List (List ℕ))) → kin ss ts ≡ true → shaped ss xs ≡ true → all-kept ts xs ≡ true → converted ss (converted ts xs) ≡ xs
unfolding shaped converted kin all-kept
converted-back [] [] [] k h g = refl
converted-back [] [] (x ∷ xs) k h g = absurd (never h)
converted-back [] (t ∷ ts) xs k h g = absurd (never k)
converted-back (s ∷ ss) [] xs k h g = absurd (never k)
converted-back (s ∷ ss) (t ∷ ts) [] k h g = absurd (never h)
converted-back (s ∷ ss) (t ∷ ts) (x ∷ xs) k h g =
    let q = both (cond s.1 t.1 (cond t.1 false true)) (kin ss ts) k in
    let b = both (good-count s.1 (length x) && every (of-words s.0) x) (shaped ss xs) h in
    let c = both (good-count s.1 (length x)) (every (of-words s.0) x) b.0 in
    let r = both (every (keeps t.0) x) (all-kept ts xs) g in
    rw (mapped-back s.0 t.0 x c.1 r.0, converted-back ss ts xs q.1 b.1 r.1) refl

-- .. and on the way back none is cut away
converted-kept : (ss ts : List (ℕ × Bool)) (xs : List (List (List ℕ))) → shaped ss xs ≡ true → all-kept ss (converted ts xs) ≡ true
unfolding shaped converted all-kept
converted-kept [] [] xs h = refl
converted-kept [] (t ∷ ts) [] h = refl
converted-kept [] (t ∷ ts) (x ∷ xs) h = refl
converted-kept (s ∷ ss) [] xs h = refl
converted-kept (s ∷ ss) (t ∷ ts) [] h = refl
converted-kept (s ∷ ss) (t ∷ ts) (x ∷ xs) h =
    let b = both (good-count s.1 (length x) && every (of-words s.0) x) (shaped ss xs) h in
    let c = both (good-count s.1 (length x)) (every (of-words s.0) x) b.0 in
    rw (mapped-kept s.0 t.0 x c.1, converted-kept ss ts xs b.1) refl

-- the editions' shapes are of a kind
kindred : (d e : Edition) → kin (shape d) (shape e) ≡ true
unfolding kin
kindred One One = refl
kindred One Two = refl
kindred Two One = refl
kindred Two Two = refl

headed : (e : Edition) (t : List ℕ) → (starts (head e) (head e ++ t) ≡ true) × (drop (length (head e)) (head e ++ t) ≡ t)
headed One t = (refl, refl)
headed Two t = (refl, refl)

said : (h ws : List ℕ) → starts h ws ≡ true → h ++ drop (length h) ws ≡ ws
said [] ws e = refl
said (v ∷ h) [] e = absurd (never e)
said (v ∷ h) (w ∷ ws) e =
    let b = both (eqb w v) (starts h ws) e in
    rw (said h ws b.1, eqb-true w v b.0) refl

-- the sections of a file
module _ (d : Edition) (ws : List ℕ) (xs : List (List (List ℕ))) where
  -- they follow the head, have the edition's shape, and are written as they stood
  pub record Parts : Type 0 where
    pub headed : starts (head d) ws ≡ true
    pub shape : shaped (shape d) xs ≡ true
    pub words : written xs ≡ drop (length (head d)) ws

  by-head : (t : Bool) → starts (head d) ws ≡ t → cond t (sections (shape d) (drop (length (head d)) ws)) None ≡ Some xs → Parts
  by-head true q h =
      let p = parsed-written (shape d) (drop (length (head d)) ws) xs h in
      record { headed = q; shape = p.shape; words = p.words }
  by-head false q h = let z : ◌≡◌ {A = ℕ} 0 1 = cc in absurd (omega arith)

  pub parts : parsed (in-edition d ws) ≡ Some xs → Parts
  unfolding parsed
  parts h = by-head _ refl h

-- a file, and its sections in another edition
module _ (d e : Edition) (ws : List ℕ) (xs : List (List (List ℕ))) (h : parsed (in-edition d ws) ≡ Some xs) where
  abbrev ys : List (List (List ℕ))
  ys = converted (shape e) xs

  pub there-parsed : parsed (in-edition e (file-of e ys)) ≡ Some ys
  unfolding parsed
  there-parsed =
      let there = headed e (written ys) in
      let s = converted-shaped (shape d) (shape e) xs (kindred d e) (parts d ws xs h).shape in
      rw (there.0, there.1) (written-parsed (shape e) ys s)

  pub back-written : all-kept (shape e) xs ≡ true → file-of d (converted (shape d) ys) ≡ ws
  back-written g =
      let p = parts d ws xs h in
      rw (converted-back (shape d) (shape e) xs (kindred d e) p.shape g, p.words) (said (head d) ws p.headed)

  pub back-kept : all-kept (shape d) ys ≡ true
  back-kept = converted-kept (shape d) (shape e) xs (parts d ws xs h).shape
