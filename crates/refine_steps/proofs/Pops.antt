-- What a pop judges of a sound screen's rows is good (answer 4). Assumes nothing.
use Rattle.std.proofs.Common.{◌≡◌, refl, ap, ◌∙◌, Bool, true, false, ◌&&◌, cond, List, [], ◌∷◌, ◌++◌, map, None, Some, ℕ, zero, suc, ◌+◌, ◌*◌, ◌≤◌, ◌<◌, arith, ltb, eqb, length, get_or, replicate}
use Rattle.std.proofs.Common.{length-append, get_or-take, get_or-append-add, lt-ltb, ne_eqb, eqb-true}
use lib.ListN.{get_or-append}
use borrow.Author.Tests.{eqb-false}
use Rattle.rules.specs.Lists.{join}
use Rattle.rules.specs.Commands.{Command, paint-fill, layer-fill, push-buf, pop-buf, command_words}
use Rattle.rules.specs.Rows.{Row, Level, fresh-row}
use Rattle.rules.proofs.All.{All, head, tail}
use Rattle.row.specs.Words.{word}
use Rattle.row.specs.Arena.{nowhere}
use Rattle.row.specs.Building.{good_row}
use Rattle.pop.specs.Closing.{row_of, good-pop, good-pops}
use Rattle.refine_row.specs.Encode.{padded, placed, encode, Fine}
use Rattle.refine_row.proofs.Laws.{place-word}
use Rattle.refine_steps.specs.Sound.{Fitting}
use Rattle.refine_steps.proofs.Records.{record-good}

four : (c : Command) → length (command_words c) ≡ 4
unfolding command_words
four (paint-fill s None i) = refl
four (paint-fill s (Some a) i) = refl
four (layer-fill s None i) = refl
four (layer-fill s (Some a) i) = refl
four (push-buf None) = refl
four (push-buf (Some s)) = refl
four pop-buf = refl

flat-length : (cs : List Command) → length (join command_words cs) ≡ 4 * length cs
flat-length [] = refl
flat-length (c ∷ cs) = length-append (command_words c) (join command_words cs) ∙ omega (arith, four c, flat-length cs)

-- the tag of a command
tag-there : (cs : List Command) (p : ℕ) → p < length cs → get_or (join command_words cs) (4 * p) 0 ≡ get_or (command_words (get_or cs p pop-buf)) 0 0
tag-there [] p h = absurd (omega arith)
tag-there (c ∷ cs) zero h = get_or-append (command_words c) (join command_words cs) 0 0 (omega (arith, four c))
tag-there (c ∷ cs) (suc p) h =
    let i : 4 * suc p ≡ length (command_words c) + 4 * p = omega (arith, four c) in
    rw (i, get_or-append-add) (tag-there cs p (omega arith))

push-tag : (c : ℕ) (cs : List Command) (p : ℕ) → p < length cs → length cs ≤ c → get_or cs p pop-buf ≡ push-buf None → get_or (padded (4 * c) (join command_words cs)) (4 * p) 0 ≡ 5
unfolding padded command_words
push-tag c cs p h m e =
    get_or-take (4 * c) (join command_words cs ++ replicate (4 * c) 0) (4 * p) 0 (omega arith)
    ∙ get_or-append (join command_words cs) (replicate (4 * c) 0) 0 (4 * p) (omega (arith, flat-length cs))
    ∙ tag-there cs p h ∙ ap (λ (x : Command). get_or (command_words x) 0 0) e

drawn : (c d : ℕ) (r : Row) → Fitting c d r → (i : ℕ) → i < length r.commands → get_or r.commands i pop-buf ≡ push-buf None → get_or (encode c d r).render (4 * i) 0 ≡ 5
unfolding encode
drawn c d r f i h g = push-tag c r.commands i h f.commands g

module _ (c d n : ℕ) (some-open : 1 ≤ n) where
  tag-good : (r : Row) → Fitting c d r → Fine r → (ls : List Level) → r.levels ≡ ls → length ls ≡ n → get_or (encode c d r).render (4 * word (3 + 3 * n) (encode c d r)) 0 ≡ 5
  tag-good r f o [] e q = absurd (omega arith)
  tag-good r f o (l ∷ ls) e q =
      let p : placed r.commands (length r.commands) (l ∷ ls) = rw e at o.places in
      let m : length (l ∷ ls) ≤ 16 = rw e at o.few in
      let k : length r.levels ≡ n = ap length e ∙ q in
      let w : word (3 + 3 * n) (encode c d r) ≡ l.place = rw k at (place-word c d r l ls e (omega arith)) in
      ap (λ (i : ℕ). get_or (encode c d r).render (4 * i) 0) w ∙ drawn c d r f l.place p.0 p.1

  row-levels : (r : Row) → word 5 (encode c d r) ≡ length r.levels
  unfolding encode
  row-levels r = refl

  row-pops : (r : Row) → Fitting c d r → Fine r → length r.levels ≤ n → good-pop c d n (encode c d r) ≡ true
  unfolding good-pop
  row-pops r f o m = rw (row-levels r) (go (eqb (length r.levels) n) refl)
    where
      go : (t : Bool) → eqb (length r.levels) n ≡ t
          → cond t (good_row c d n (encode c d r).state && eqb (get_or (encode c d r).render (4 * word (3 + 3 * n) (encode c d r)) 0) 5) (ltb (length r.levels) n) ≡ true
      go true e = rw (record-good c d n r f o m, tag-good r f o r.levels refl (eqb-true (length r.levels) n e))
      go false e = lt-ltb (length r.levels) n (omega (arith, eqb-false (length r.levels) n e))

  nowhere-pops : good-pop c d n nowhere ≡ true
  unfolding good-pop
  nowhere-pops = rw (ne_eqb 0 n (λ e. omega arith)) (lt-ltb 0 n (omega arith))

  one-pops : (rs : List Row) → ((j : ℕ) → Fitting c d (get_or rs j fresh-row) × (length (get_or rs j fresh-row).levels ≤ n)) → All Fine rs → (i : ℕ) → good-pop c d n (row_of (map (encode c d) rs) i) ≡ true
  one-pops [] h o i = nowhere-pops
  one-pops (r ∷ rs) h o zero = row-pops r (h 0).0 (head o) (h 0).1
  one-pops (r ∷ rs) h o (suc i) = one-pops rs (λ j. h (suc j)) (tail o) i

  -- every row of some
  pub pops-good : (rs : List Row) → ((j : ℕ) → Fitting c d (get_or rs j fresh-row) × (length (get_or rs j fresh-row).levels ≤ n)) → All Fine rs → (is : List ℕ) → good-pops c d n (map (encode c d) rs) is ≡ true
  unfolding good-pops
  pops-good rs h o [] = refl
  pops-good rs h o (i ∷ is) = rw (one-pops rs h o i) (pops-good rs h o is)
