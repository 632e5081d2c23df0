-- What is listed of the first lines, one more line at a time. Assumes nothing.
use Rattle.std.proofs.Common.{◌≡◌, refl, sym, ap, ◌∙◌, Bool, true, false, cond, List, [], ◌∷◌, ◌++◌, ℕ, ◌+◌, ◌-◌, ◌≤◌, arith, length, length-append}
use Rattle.rules.specs.Lists.{keep, such}
use Rattle.tile.specs.Telling.{Line}
use Rattle.tile.specs.Listed.{line_at, lines-from, was-told, line-hides, listed-lines}
use Rattle.tile.proofs.Told.{listed-last, told-from, lines_next, told_next}

-- of the first i lines those are listed that are told from line `from` on, so many
pub record ListedTo (ws : List ℕ) (i from count : ℕ) : Type 0 where
  pub low : from ≤ i
  pub few : count ≤ i
  pub listed : told-from ws from i ≡ listed-lines (lines-from ws 0 i)
  pub counted : count ≡ length (listed-lines (lines-from ws 0 i))

pub listed-none : (ws : List ℕ) → ListedTo ws 0 0 0
unfolding lines-from listed-lines
listed-none ws = record { low = omega arith; few = omega arith; listed = refl; counted = refl }

such-one : (l : Line) → length (such was-told (l ∷ [])) ≡ cond (was-told l) 1 0
such-one l = go (was-told l)
  where
    go : (b : Bool) → length (keep b l []) ≡ cond b 1 0
    go true = refl
    go false = refl

module _ (ws : List ℕ) (i from count : ℕ) (s : ListedTo ws i from count) where
  abbrev line : Line
  line = line_at ws i

  abbrev one : List Line
  one = such was-told (line ∷ [])

  all : listed-lines (lines-from ws 0 (i + 1)) ≡ cond (line-hides line) one (listed-lines (lines-from ws 0 i) ++ one)
  all = ap listed-lines together ∙ listed-last (lines-from ws 0 i) line
    where
      together : lines-from ws 0 (i + 1) ≡ lines-from ws 0 i ++ line ∷ []
      together =
          let e : i + 1 - 0 ≡ i + 1 = omega arith in
          let f : i - 0 ≡ i = omega arith in
          rw (e, f) at (lines_next ws 0 i (omega arith))

  none : told-from ws i i ≡ []
  unfolding lines-from
  none = let z : i - i ≡ 0 = omega arith in rw z refl

  -- what is listed with the line that stands so
  pub with-line : (h t : Bool) → line-hides line ≡ h → was-told line ≡ t → ListedTo ws (i + 1) (cond h i from) (cond h 0 count + cond t 1 0)
  with-line true t eh et =
      let e : listed-lines (lines-from ws 0 (i + 1)) ≡ one = all ∙ rw eh in
      let own : told-from ws i (i + 1) ≡ one = told_next ws i i (omega arith) ∙ rw none refl in
      let n : length one ≡ cond t 1 0 = such-one line ∙ rw et in
      record { low = omega arith; few = at-most t; listed = own ∙ sym e; counted = omega (arith, ap length e, n) }
    where
      at-most : (b : Bool) → 0 + cond b 1 0 ≤ i + 1
      at-most true = omega arith
      at-most false = omega arith
  with-line false t eh et =
      let e : listed-lines (lines-from ws 0 (i + 1)) ≡ listed-lines (lines-from ws 0 i) ++ one = all ∙ rw eh in
      let own : told-from ws from (i + 1) ≡ told-from ws from i ++ one = told_next ws from i s.low in
      let n : length one ≡ cond t 1 0 = such-one line ∙ rw et in
      record {
        low = omega (arith, s.low);
        few = at-most t;
        listed = own ∙ ap (λ (ls : List Line). ls ++ one) s.listed ∙ sym e;
        counted = omega (arith, s.counted, ap length e, length-append (listed-lines (lines-from ws 0 i)) one, n);
      }
    where
      at-most : (b : Bool) → count + cond b 1 0 ≤ i + 1
      at-most true = omega (arith, s.few)
      at-most false = omega (arith, s.few)
