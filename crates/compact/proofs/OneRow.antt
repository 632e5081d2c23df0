-- What of a row's words is found decides what compacting makes of them.
use Rattle.std.proofs.Common.{◌≡◌, refl, ℕ, arith, true, false, List, Option, None, Some, is_some, option_map, option_and_then, set}
use Rattle.sizes.specs.Sizes.{renders-at, depths-at}
use Rattle.rules.specs.Answers.{answer, Done, BadRecord}
use Rattle.rules.specs.Attributes.{Attrs}
use Rattle.rules.specs.Commands.{Command, DepthFill}
use Rattle.rules.specs.Compacted.{newest-ids, compacted}
use Rattle.row.specs.Words.{Words, words, word}
use Rattle.compact.specs.Reading.{fills-from, commands-from}
use Rattle.compact.specs.Passing.{Closed}
use Rattle.compact.specs.Row.{has-counts, row-with, row-read, with-commands, or-forged, compact-words}

-- what a list was made of
pub record Made {A B : Type 0} (f : A → B) (o : Option A) (y : B) : Type 0 where
  pub from : A
  pub some : o ≡ Some from
  pub is : f from ≡ y

pub made : {A B : Type 0} (f : A → B) (o : Option A) (y : B) → option_map f o ≡ Some y → Made f o y
made f None y e = let z : ◌≡◌ {A = ℕ} 0 1 = cc in absurd (omega arith)
made f (Some x) y e = record { from = x; some = refl; is = cc }

pub not-made : {A B : Type 0} (f : A → B) (o : Option A) → option_map f o ≡ None → o ≡ None
not-made f None e = refl
not-made f (Some x) e = let z : ◌≡◌ {A = ℕ} 0 1 = cc in absurd (omega arith)

pub there : {A : Type 0} (o : Option A) → is_some o ≡ true → (x : A) × (o ≡ Some x)
there None e = let z : ◌≡◌ {A = ℕ} 0 1 = cc in absurd (omega arith)
there (Some x) e = (x, refl)

not-there : {A : Type 0} (o : Option A) → is_some o ≡ false → o ≡ None
not-there None e = refl
not-there (Some x) e = let z : ◌≡◌ {A = ℕ} 0 1 = cc in absurd (omega arith)

module _ (v n : ℕ) (a : Attrs) (w : Words) where
  pub bad-counts : has-counts w ≡ false → answer BadRecord w ≡ compact-words v n a w
  unfolding compact-words row-read
  bad-counts h = rw h refl

  module _ (h : has-counts w ≡ true) where
    pub bad-fills : fills-from a n w.fills 0 (word depths-at w) ≡ None → answer BadRecord w ≡ compact-words v n a w
    unfolding compact-words row-read
    bad-fills e = rw (h, e) refl

    pub bad-commands : is_some (commands-from a w.render 0 (word renders-at w)) ≡ false → answer BadRecord w ≡ compact-words v n a w
    unfolding compact-words row-read
    bad-commands e = rw (h, not-there _ e) (go (fills-from a n w.fills 0 (word depths-at w)))
      where
        go : (o : Option (List DepthFill)) → answer BadRecord w
            ≡ or-forged w (option_map (λ r. with-commands (compacted v n a r) w) (option_and_then (λ fs. option_map (row-with fs) None) o))
        go None = refl
        go (Some fs) = refl

    pub all-done : (bs : List ℕ) → Made (newest-ids a n) (fills-from a n w.fills 0 (word depths-at w)) bs → (us : List ℕ) (k : ℕ) (cs : List Command)
        → commands-from a w.render 0 (word renders-at w) ≡ Some cs → Closed v a bs cs w.render us k
        → answer Done (words (set w.state renders-at k) us w.fills) ≡ compact-words v n a w
    unfolding compact-words row-read compacted
    all-done bs m us k cs e c = rw (h, m.some, e, m.is, c.words, c.count) refl
