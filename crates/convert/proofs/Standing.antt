-- How far the code has come in a file: which section stands next, and where.
use Rattle.std.proofs.Common.{ℕ, zero, suc, ◌+◌, ◌-◌, ◌*◌, ◌≤◌, ◌<◌, add-one, arith, ◌≡◌, refl, sym, ◌∙◌, Bool, true, false, ◌&&◌, cond, List, [], ◌∷◌, length, get_or, drop, drop-cons, drop-drop, length-drop}
use Rattle.std.proofs.Common.{Option, None, Some, option_map, leb, eqb, ltb, leb-true, eqb-true, ltb-true, ltb-false}
use Rattle.std.proofs.lemmas.List.{drop_all}
use Rattle.std.proofs.Math.Nat.{mul-le-mul_left}
use Rattle.sizes.specs.declared.edition.Edition.{Edition}
use Rattle.sizes.specs.declared.edition.Edition.TheVariants.{One, Two}
use Rattle.rules.specs.Recording.{shape, head, starts, good-count, records, sections, in-edition, parsed}
use Rattle.rules.proofs.All.{both}
use Rattle.convert.specs.Sections.{sections_of, Formed, sizes-of}
use Rattle.convert.proofs.Parsing.{never, opened}

few : (fixed : Bool) (n : ℕ) → good-count fixed n ≡ true → n ≤ 4096
few true n q = let e = eqb-true n 1 q in omega arith
few false n q = leb-true n 4096 q

-- a section of records of k words, which stands first among some words: its records, and the other sections after it
pub record First (k : ℕ) (ss : List (ℕ × Bool)) (n : ℕ) (ws : List ℕ) (xs : List (List (List ℕ))) : Type 0 where
  pub few : n ≤ 4096
  pub ends : n * k ≤ length ws
  pub here : xs ≡ records k n ws ∷ drop 1 xs
  pub rest : sections ss (drop (n * k) ws) ≡ Some (drop 1 xs)

module _ (s : ℕ × Bool) (ss : List (ℕ × Bool)) (n : ℕ) (ws : List ℕ) (xs : List (List (List ℕ))) where
  by-rest : n ≤ 4096 → n * s.0 ≤ length ws → (o : Option (List (List (List ℕ)))) → sections ss (drop (n * s.0) ws) ≡ o
      → option_map (λ ys. records s.0 n ws ∷ ys) o ≡ Some xs → First s.0 ss n ws xs
  by-rest f g None e h = let z : ◌≡◌ {A = ℕ} 0 1 = cc in absurd (omega arith)
  by-rest f g (Some ys) e h =
      let p : records s.0 n ws ∷ ys ≡ xs = cc in
      record { few = f; ends = g; here = rw (← p); rest = rw (← p) e }

  by-test : (t : Bool) → (good-count s.1 n && leb (n * s.0) (length ws)) ≡ t
      → cond t (option_map (λ ys. records s.0 n ws ∷ ys) (sections ss (drop (n * s.0) ws))) None ≡ Some xs → First s.0 ss n ws xs
  by-test true q h =
      let g = both (good-count s.1 n) (leb (n * s.0) (length ws)) q in
      by-rest (few s.1 n g.0) (leb-true (n * s.0) (length ws) g.1) _ refl h
  by-test false q h = let z : ◌≡◌ {A = ℕ} 0 1 = cc in absurd (omega arith)

  pub first : sections (s ∷ ss) (n ∷ ws) ≡ Some xs → First s.0 ss n ws xs
  first h = by-test _ refl (sym (opened s ss n ws) ∙ h)

-- the sections from number k on stand at a place
pub record Standing (e : Edition) (ws : List ℕ) (k at : ℕ) : Type 0 where
  pub within : at ≤ length ws
  pub rest : sections (drop k (shape e)) (drop at ws) ≡ Some (drop k (sections_of (in-edition e ws)))

starts-long : (hs ws : List ℕ) → starts hs ws ≡ true → length hs ≤ length ws
starts-long [] ws q = omega arith
starts-long (h ∷ hs) [] q = absurd (never q)
starts-long (h ∷ hs) (w ∷ ws) q = let more = starts-long hs ws (both (eqb w h) (starts hs ws) q).1 in omega arith

module _ (e : Edition) (ws : List ℕ) where
  abbrev xs : List (List (List ℕ))
  xs = sections_of (in-edition e ws)

  by-head : (t : Bool) → starts (head e) ws ≡ t → cond t (sections (shape e) (drop (length (head e)) ws)) None ≡ Some xs → Standing e ws 0 (length (head e))
  by-head true q h = record { within = starts-long (head e) ws q; rest = h }
  by-head false q h = let z : ◌≡◌ {A = ℕ} 0 1 = cc in absurd (omega arith)

  pub begin : Formed e ws → Standing e ws 0 (length (head e))
  unfolding parsed
  begin f = by-head _ refl f.parsed

-- seven sections, none of records of more than 23 words
abbrev pub size : Edition → ℕ → ℕ
size e k = get_or (sizes-of (shape e)) k 0

module _ (e : Edition) where
  -- the shape from number k on
  pub shape-next : (k : ℕ) → k < 7 → drop k (shape e) ≡ (size e k, (get_or (shape e) k (0, true)).1) ∷ drop (k + 1) (shape e)
  shape-next zero h = refl
  shape-next (suc zero) h = refl
  shape-next (suc (suc zero)) h = refl
  shape-next (suc (suc (suc zero))) h = refl
  shape-next (suc (suc (suc (suc zero)))) h = refl
  shape-next (suc (suc (suc (suc (suc zero))))) h = refl
  shape-next (suc (suc (suc (suc (suc (suc zero)))))) h = refl
  shape-next (suc (suc (suc (suc (suc (suc (suc k))))))) h = absurd (omega arith)

module _ (e : Edition) (ws : List ℕ) (k at : ℕ) where
  -- the count that stands at a place, the words of a record, and the sections from here on
  abbrev pub count : ℕ
  count = get_or ws at 0

  abbrev pub left : List (List (List ℕ))
  left = drop k (xs e ws)

  abbrev pub here : List (List ℕ)
  here = records (size e k) count (drop (at + 1) ws)

  -- the next section, and how far the code is past it
  pub record Next : Type 0 where
    pub there : at < length ws
    pub few : count ≤ 4096
    pub ends : at + 1 + count * size e k ≤ length ws
    pub here : left ≡ here ∷ drop (k + 1) (xs e ws)
    pub more : Standing e ws (k + 1) (at + 1 + count * size e k)

  module _ (h : k < 7) (t : Standing e ws k at) where
    abbrev flag : Bool
    flag = (get_or (shape e) k (0, true)).1

    by-first : at < length ws → First (size e k) (drop (k + 1) (shape e)) count (drop (at + 1) ws) left → Next
    by-first p f =
        let l : count * size e k ≤ length ws - (at + 1) = rw (length-drop (at + 1) ws) at f.ends in
        let r : drop 1 left ≡ drop (k + 1) (xs e ws) = drop-drop 1 k (xs e ws) in
        record {
          there = p;
          few = f.few;
          ends = omega arith;
          here = rw r at f.here;
          more = record { within = omega arith; rest = rw (drop-drop (count * size e k) (at + 1) ws, r) at f.rest };
        }

    by-place : (b : Bool) → ltb at (length ws) ≡ b → Next
    unfolding sections
    by-place true q =
        let p = ltb-true at (length ws) q in
        let w : drop at ws ≡ count ∷ drop (at + 1) ws = rw (add-one at) (drop-cons ws at 0 p) in
        by-first p (first (size e k, flag) (drop (k + 1) (shape e)) count (drop (at + 1) ws) left (rw (shape-next e k h, w) at t.rest))
    by-place false q =
        let w : drop at ws ≡ [] = drop_all at ws (omega (arith, ltb-false at (length ws) q)) in
        let z : ◌≡◌ {A = Option (List (List (List ℕ)))} None (Some left) = rw (shape-next e k h, w) at t.rest in
        let y : ◌≡◌ {A = ℕ} 0 1 = cc in
        absurd (omega arith)

    pub next : Next
    next = by-place _ refl

size-few : (e : Edition) (k : ℕ) → size e k ≤ 23
size-few One zero = omega arith
size-few One (suc zero) = omega arith
size-few One (suc (suc zero)) = omega arith
size-few One (suc (suc (suc zero))) = omega arith
size-few One (suc (suc (suc (suc zero)))) = omega arith
size-few One (suc (suc (suc (suc (suc zero))))) = omega arith
size-few One (suc (suc (suc (suc (suc (suc zero)))))) = omega arith
size-few One (suc (suc (suc (suc (suc (suc (suc k))))))) = omega arith
size-few Two zero = omega arith
size-few Two (suc zero) = omega arith
size-few Two (suc (suc zero)) = omega arith
size-few Two (suc (suc (suc zero))) = omega arith
size-few Two (suc (suc (suc (suc zero)))) = omega arith
size-few Two (suc (suc (suc (suc (suc zero))))) = omega arith
size-few Two (suc (suc (suc (suc (suc (suc zero)))))) = omega arith
size-few Two (suc (suc (suc (suc (suc (suc (suc k))))))) = omega arith

-- the words of a section are few
pub words-few : (e : Edition) (k n : ℕ) → n ≤ 4096 → n * size e k ≤ 94208
words-few e k n h =
    let a : n * size e k ≤ n * 23 = mul-le-mul_left n (size-few e k) in
    omega arith

pub head-few : (e : Edition) → length (head e) ≤ 2
head-few One = omega arith
head-few Two = omega arith
