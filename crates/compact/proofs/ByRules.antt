-- On a row in which nothing is forged the words are read as the row, and compacted as the rules compact it. Assumes nothing.
use Rattle.std.proofs.Common.{◌≡◌, refl, sym, ap, ◌∙◌, ℕ, suc, ◌+◌, ◌<◌, arith, true, List, [], ◌∷◌, Option, None, Some, length, get_or, le-leb}
use Rattle.rules.specs.Attributes.{Attrs}
use Rattle.rules.specs.Commands.{Command, paint-fill, layer-fill, push-buf, pop-buf, DepthFill}
use Rattle.rules.specs.Painting.{no-fill}
use Rattle.rules.specs.Rows.{Row}
use Rattle.rules.specs.Answers.{answer, Done}
use Rattle.rules.specs.Compacted.{newest-ids, kept, passed, turned-round, compacted}
use Rattle.rules.proofs.All.{and_both}
use Rattle.sizes.specs.Sizes.{renders-at, depths-at}
use Rattle.row.specs.Words.{Words, word}
use Rattle.paint.specs.Painting.{depth-fill-at, command-at}
use Rattle.paint.specs.Standing.{Stands}
use Rattle.paint.proofs.ByRules.{Same}
use Rattle.compact.specs.Reading.{all-from, good-fill, names-good, good-command, fills-from, commands-from}
use Rattle.compact.specs.Row.{has-counts, row-with, row-read, with-commands, compact-words}

-- Attributes that a step cannot tell apart: compacting cannot either.
module _ (v n : ℕ) (a b : Attrs) (s : Same a b) where
  same-fill : (o : Option DepthFill) → good-fill a o ≡ good-fill b o
  same-fill None = refl
  same-fill (Some f) = rw (s.paint-count, s.paint-ids f.attribute, s.paint-panels f.attribute)

  same-command : (o : Option Command) → good-command a o ≡ good-command b o
  same-command None = refl
  same-command (Some (paint-fill t x i)) = rw (s.paint-count, s.paint-ids i, s.paint-panels i)
  same-command (Some (layer-fill t x i)) = rw (s.layer-count, s.layer-ids i, s.layer-panels i)
  same-command (Some (push-buf t)) = refl
  same-command (Some pop-buf) = refl

  pub same-newest : (fs : List DepthFill) → newest-ids a n fs ≡ newest-ids b n fs
  same-newest [] = refl
  same-newest (f ∷ fs) = rw (same-newest fs, s.paint-ids f.attribute)

  same-kept : (bs : List ℕ) (c : Command) (st : List Command) → kept v a bs c st ≡ kept v b bs c st
  same-kept bs (paint-fill t x i) st = rw (s.paint-ids i)
  same-kept bs (layer-fill t x i) st = rw (s.layer-ids i)
  same-kept bs (push-buf t) st = refl
  same-kept bs pop-buf [] = refl
  same-kept bs pop-buf (paint-fill t x i ∷ st) = refl
  same-kept bs pop-buf (layer-fill t x i ∷ st) = refl
  same-kept bs pop-buf (push-buf t ∷ st) = refl
  same-kept bs pop-buf (pop-buf ∷ st) = refl

  same-passed : (bs : List ℕ) (cs st : List Command) → passed v a bs st cs ≡ passed v b bs st cs
  same-passed bs [] st = refl
  same-passed bs (c ∷ cs) st = ap (λ (ys : List Command). passed v a bs ys cs) (same-kept bs c st) ∙ same-passed bs cs (kept v b bs c st)

  pub same-compacted : (r : Row) → compacted v n a r ≡ compacted v n b r
  unfolding compacted
  same-compacted r =
      ap (λ (ys : List Command). turned-round ys [])
      (same-passed (newest-ids a n r.fills) r.commands [] ∙ ap (λ (bs : List ℕ). passed v b bs [] r.commands) (same-newest r.fills))

-- places that are read as the elements of a list
list-read : {A : Type 0} (f : ℕ → Option A) (d : A) (k : ℕ) (xs : List A) → ((i : ℕ) → i < length xs → f (k + i) ≡ Some (get_or xs i d)) → all-from f k (length xs) ≡ Some xs
unfolding all-from
list-read f d k [] h = refl
list-read f d k (x ∷ xs) h =
    let z : k + 0 ≡ k = omega arith in
    let first : f k ≡ Some x = ap f (sym z) ∙ h 0 (omega arith) in
    let rest : all-from f (suc k) (length xs) ≡ Some xs =
    list-read f d (suc k) xs (λ i l. let y : suc k + i ≡ k + suc i = omega arith in ap f y ∙ h (suc i) (omega arith))
    in
    rw (first, rest) refl

-- the words of a row stand for it, and each attribute that it names is good
module _ (v n : ℕ) (a : Attrs) (r : Row) (w : Words) (g : Stands a n r w.state w.render w.fills)
    (named : (k : ℕ) → k < length r.commands → names-good a (get_or r.commands k pop-buf) ≡ true) where
  counts-good : has-counts w ≡ true
  counts-good = rw (g.renders, g.depths) (and_both _ _ (le-leb _ _ g.few-renders) (le-leb _ _ g.few-depths))

  -- by the rules' attributes, or others that cannot be told from them
  module _ (b : Attrs) (s : Same b a) where
    fills-read : fills-from b n w.fills 0 (word depths-at w) ≡ Some r.fills
    fills-read =
        rw g.depths
        (list-read (λ k. good-fill b (depth-fill-at n w.fills k)) no-fill 0 r.fills
        (λ i h.
        let z : 0 + i ≡ i = omega arith in
        let e = g.fills-at i h in
        let q = g.good-fills i h in
        same-fill v n b a s (depth-fill-at n w.fills (0 + i)) ∙ rw (z, e, q) refl))

    commands-read : commands-from b w.render 0 (word renders-at w) ≡ Some r.commands
    commands-read =
        rw g.renders
        (list-read (λ k. good-command b (command-at w.render k)) pop-buf 0 r.commands
        (λ i h.
        let z : 0 + i ≡ i = omega arith in
        let e = g.commands-at i h in
        let q = named i h in
        same-command v n b a s (command-at w.render (0 + i)) ∙ rw (z, e, q) refl))

    pub read-by-rules : row-read b n w ≡ Some (row-with r.fills r.commands)
    unfolding row-read
    read-by-rules = rw (counts-good, fills-read, commands-read) refl

    pub by-rules : compact-words v n b w ≡ answer Done (with-commands (compacted v n a r) w)
    unfolding compact-words compacted
    by-rules = rw read-by-rules (ap (λ (cs : List Command). answer Done (with-commands cs w)) (same-compacted v n b a s r))
