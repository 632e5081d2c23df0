-- The runs' numbers, written to a list from its start. Assumes nothing.
use Rattle.std.proofs.Common.{◌≡◌, refl, sym, ap, ◌∙◌, Bool, false, List, [], ◌∷◌, map, ℕ, suc, ◌≤◌, ◌<◌, ◌+◌, ◌*◌, add-one, zero-add, arith, length, get_or, set, length-set}
use lib.ListN.{length-map}
use lib.Seq.{sets, sets-eq}
use Rattle.rules.specs.Answers.{answer}
use Rattle.rules.specs.Spans.{Span, span}
use Rattle.rules.specs.Depth.{runs-in}
use Rattle.depth.specs.Listing.{numbers, listing, done, over}
use Rattle.depth.proofs.Searching.{Ended, runs_closed, runs-end}

pub length-numbers : (rs : List Span) → length (numbers rs) ≡ length rs * 2
unfolding numbers
length-numbers [] = refl
length-numbers (r ∷ rs) = let h = length-numbers rs in omega arith

-- runs that are listed as they are
pub map_same : (rs : List Span) → map (λ (r : Span). r) rs ≡ rs
map_same [] = refl
map_same (r ∷ rs) = rw (map_same rs)

two-more : (n : ℕ) → (n + 1) * 2 ≡ suc (suc (n * 2))
two-more n = omega arith

sets-two : (n a b : ℕ) (vs l : List ℕ) → sets (set (set l (n * 2) a) (n * 2 + 1) b) ((n + 1) * 2) vs ≡ sets l (n * 2) (a ∷ b ∷ vs)
sets-two n a b vs l = rw (two-more n, add-one)

module _ (p : ℕ → Bool) (bs : List ℕ) (lo hi : ℕ) (f : Span → Span) (l₀ : List ℕ) where
  -- n runs are in the list l, and those from i on are still to come
  pub record Filled (i n : ℕ) (l : List ℕ) : Type 0 where
    pub few : n ≤ i
    pub kept : length l ≡ length l₀
    pub count : n + length (runs-in p bs (span i hi)) ≡ length (runs-in p bs (span lo hi))
    pub rest : sets l (n * 2) (numbers (map f (runs-in p bs (span i hi)))) ≡ sets l₀ 0 (numbers (map f (runs-in p bs (span lo hi))))

  pub fill-first : Filled lo 0 l₀
  fill-first = record { few = omega arith; kept = refl; count = zero-add _; rest = refl }

  module _ (i n : ℕ) (l : List ℕ) (s : Filled i n l) where
    pub fill-skip : hi ≤ length bs → i < hi → p (get_or bs i 0) ≡ false → Filled (i + 1) n l
    fill-skip fits h e =
        let q = sym (runs_closed p bs hi fits i h e) in
        record { few = omega (arith, s.few); kept = s.kept; count = rw q s.count; rest = rw q s.rest }

    module _ (room : length (runs-in p bs (span lo hi)) * 2 ≤ length l₀) where
      pub fill-room : (j : ℕ) → Ended p bs hi i j → n * 2 + 1 < length l
      fill-room j e = omega (arith, s.count, s.kept, ap length e.run)

      -- no run is left
      pub fill_all : runs-in p bs (span i hi) ≡ [] → done n l ≡ listing (answer 0 (map f (runs-in p bs (span lo hi)))) l₀
      unfolding listing numbers
      fill_all none =
          let ns : List ℕ = numbers (map f (runs-in p bs (span lo hi))) in
          let long : length ns ≡ length (runs-in p bs (span lo hi)) * 2 = length-numbers (map f (runs-in p bs (span lo hi))) ∙ rw length-map in
          let all : n ≡ length (runs-in p bs (span lo hi)) = omega (arith, s.count, ap length none) in
          let put : l ≡ over ns l₀ = (rw none at s.rest) ∙ sets-eq ns l₀ 0 (omega arith) ∙ rw zero-add in
          rw (all, put, length-map)

      pub fill_end : hi ≤ i → done n l ≡ listing (answer 0 (map f (runs-in p bs (span lo hi)))) l₀
      fill_end h = fill_all (runs-end p bs hi i h)

    -- the next run is r, and j is past it
    pub fill_next : (r : Span) (j a b : ℕ) → i < j → runs-in p bs (span i hi) ≡ r ∷ runs-in p bs (span j hi) → a ≡ (f r).first → b ≡ (f r).end
        → Filled j (n + 1) (set (set l (n * 2) a) (n * 2 + 1) b)
    unfolding numbers
    fill_next r j a b h e ea eb =
        record {
          few = omega (arith, s.few);
          kept = simp length-set s.kept;
          count = omega (arith, s.count, ap length e);
          rest = sets-two n a b (numbers (map f (runs-in p bs (span j hi)))) l ∙ rw (ea, eb) (rw e at s.rest);
        }

    pub fill_more : (j a b : ℕ) → Ended p bs hi i j → a ≡ (f (span i j)).first → b ≡ (f (span i j)).end
        → Filled j (n + 1) (set (set l (n * 2) a) (n * 2 + 1) b)
    fill_more j a b e = fill_next (span i j) j a b (omega (arith, e.past)) e.run
