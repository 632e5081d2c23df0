-- What of a row's words is found decides what they add.
use Rattle.std.proofs.Common.{◌≡◌, refl, ◌∙◌, ap, ℕ, zero, suc, ◌+◌, arith, true, false, List, [], ◌∷◌, ◌++◌, map, length, Option, None, Some, is_some, option_map, option_and_then}
use mathlib.Core.List.{map-append}
use Rattle.sizes.specs.Sizes.{renders-at, depths-at}
use Rattle.rules.specs.Attributes.{Attrs}
use Rattle.rules.specs.Commands.{Command, DepthFill}
use Rattle.rules.specs.Compacted.{newest-ids}
use Rattle.rules_figures.specs.Figures.{sum-of, Figures, nothing}
use Rattle.rules_figures.specs.RowFigures.{Fill, depth-fills, command-fills, tiles-asked, tiles-painted, tiles-hidden, row-figures}
use Rattle.row.specs.Words.{Words, word}
use Rattle.compact.specs.Reading.{all-from, commands-from, fills-from}
use Rattle.compact.specs.Row.{has-counts, row-with, row-read}
use Rattle.compact.proofs.OneRow.{Made}
use Rattle.tally.specs.Counts.{with-fill, with-fills}
use Rattle.tally.specs.Rows.{or-nothing, row-tallied}

-- as many are read as were asked for
one-longer : {A : Type 0} (o : Option A) (r : Option (List A)) (xs : List A) (n : ℕ) → option_and_then (λ x. option_map (λ ys. x ∷ ys) r) o ≡ Some xs
    → ((ys : List A) → r ≡ Some ys → length ys ≡ n) → length xs ≡ suc n
one-longer None r xs n e h = let z : ◌≡◌ {A = ℕ} 0 1 = cc in absurd (omega arith)
one-longer (Some x) None xs n e h = let z : ◌≡◌ {A = ℕ} 0 1 = cc in absurd (omega arith)
one-longer (Some x) (Some ys) xs n e h = let z : xs ≡ x ∷ ys = cc in rw z (ap suc (h ys refl))

pub all-long : {A : Type 0} (f : ℕ → Option A) (k j : ℕ) (xs : List A) → all-from f k j ≡ Some xs → length xs ≡ j
unfolding all-from
all-long f k zero xs e = let z : xs ≡ [] = cc in rw z refl
all-long f k (suc j) xs e = one-longer (f k) (all-from f (suc k) j) xs j e (λ ys q. all-long f (suc k) j ys q)

sum-append : (xs ys : List ℕ) → sum-of (xs ++ ys) ≡ sum-of xs + sum-of ys
unfolding sum-of
sum-append [] ys = omega arith
sum-append (x ∷ xs) ys = let h = sum-append xs ys in omega arith

sum-joined : (h : Fill → ℕ) (xs ys : List Fill) → sum-of (map h (xs ++ ys)) ≡ sum-of (map h xs) + sum-of (map h ys)
sum-joined h xs ys = ap sum-of (map-append h xs ys) ∙ sum-append (map h xs) (map h ys)

-- the numbers of a row before any fill is added
abbrev pub begun-with : ℕ → ℕ → Figures
begun-with commands fills = record { asked = 0; painted = 0; hidden = 0; commands = commands; fills = fills; refused = 0 }

module _ (v : ℕ) (bs : List ℕ) where
  -- fills added are sums
  abbrev sums : List Fill → Figures → Figures
  sums xs g =
      record {
        asked = g.asked + sum-of (map (tiles-asked v bs) xs);
        painted = g.painted + sum-of (map (tiles-painted v bs) xs);
        hidden = g.hidden + sum-of (map (tiles-hidden v bs) xs);
        commands = g.commands;
        fills = g.fills;
        refused = g.refused;
      }

  added-sums : (xs : List Fill) (g : Figures) → with-fills v bs xs g ≡ sums xs g
  unfolding sum-of
  added-sums [] g = grind arith
  added-sums (x ∷ xs) g = added-sums xs (with-fill v bs x g) ∙ grind arith

module _ (v n : ℕ) (a : Attrs) (w : Words) where
  -- sums on sums that begin with nothing
  no-zeros : (bs : List ℕ) (commands fills : ℕ) (xs ys : List Fill) → sums v bs ys (sums v bs xs (begun-with commands fills))
      ≡ record {
        asked = sum-of (map (tiles-asked v bs) xs) + sum-of (map (tiles-asked v bs) ys);
        painted = sum-of (map (tiles-painted v bs) xs) + sum-of (map (tiles-painted v bs) ys);
        hidden = sum-of (map (tiles-hidden v bs) xs) + sum-of (map (tiles-hidden v bs) ys);
        commands = commands;
        fills = fills;
        refused = 0;
      }
  no-zeros bs commands fills xs ys = grind arith

  pub bad-counts : has-counts w ≡ false → nothing ≡ row-tallied v n a w
  unfolding row-tallied row-read
  bad-counts h = rw h refl

  module _ (h : has-counts w ≡ true) where
    pub bad-fills : fills-from a n w.fills 0 (word depths-at w) ≡ None → nothing ≡ row-tallied v n a w
    unfolding row-tallied row-read
    bad-fills e = rw (h, e) refl

    not-there : {A : Type 0} (o : Option A) → is_some o ≡ false → o ≡ None
    not-there None e = refl
    not-there (Some x) e = let z : ◌≡◌ {A = ℕ} 0 1 = cc in absurd (omega arith)

    pub bad-commands : is_some (commands-from a w.render 0 (word renders-at w)) ≡ false → nothing ≡ row-tallied v n a w
    unfolding row-tallied row-read
    bad-commands e = rw (h, not-there _ e) (go (fills-from a n w.fills 0 (word depths-at w)))
      where
        go : (o : Option (List DepthFill)) → nothing
            ≡ or-nothing (option_map (row-figures v n a) (option_and_then (λ fs. option_map (row-with fs) None) o))
        go None = refl
        go (Some fs) = refl

    -- all are read: the row's figures, fill by fill
    pub all-added : (bs : List ℕ) (m : Made (newest-ids a n) (fills-from a n w.fills 0 (word depths-at w)) bs) (cs : List Command)
        → commands-from a w.render 0 (word renders-at w) ≡ Some cs → (start f g : Figures) → start ≡ begun-with (word renders-at w) (word depths-at w)
        → f ≡ with-fills v bs (depth-fills v a m.from) start → g ≡ with-fills v bs (command-fills v a cs) f → g ≡ row-tallied v n a w
    unfolding row-tallied row-read row-figures
    all-added bs m cs e start f g i j k =
        let fs = m.from in
        let some = m.some in
        let x = all-long _ 0 (word renders-at w) cs e in
        let y = all-long _ 0 (word depths-at w) fs some in
        let both = added-sums v bs (command-fills v a cs) (sums v bs (depth-fills v a fs) (begun-with (word renders-at w) (word depths-at w))) in
        let one = added-sums v bs (depth-fills v a fs) (begun-with (word renders-at w) (word depths-at w)) in
        let p = sum-joined (tiles-asked v bs) (depth-fills v a fs) (command-fills v a cs) in
        let q = sum-joined (tiles-painted v bs) (depth-fills v a fs) (command-fills v a cs) in
        let r = sum-joined (tiles-hidden v bs) (depth-fills v a fs) (command-fills v a cs) in
        k
        ∙ ap (with-fills v bs (command-fills v a cs)) (j ∙ ap (with-fills v bs (depth-fills v a fs)) i ∙ one)
        ∙ both
        ∙ rw (h, some, e, m.is, x, y, p, q, r) (no-zeros bs (word renders-at w) (word depths-at w) (depth-fills v a fs) (command-fills v a cs))
