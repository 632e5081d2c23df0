-- What a call over runs leaves at the start of the result list, and the pieces made of it. Assumes nothing.
use Rattle.std.proofs.Common.{◌≡◌, refl, sym, ap, ◌∙◌, Bool, true, false, cond, List, [], ◌∷◌, ◌++◌, map, append_assoc, ℕ, zero, suc, ◌≤◌, ◌<◌, ◌+◌, ◌-◌, ◌*◌, ◌/◌, not-suc-le-zero, le_of_suc-le-suc}
use Rattle.std.proofs.Common.{arith, length, get_or, take, drop, length-append, length-drop, take-append-drop, length-take-le, take-suc, drop-drop, ltb, ltb-false, Ok, Err}
use lib.ListN.{length-map}
use lib.Seq.{take-length, drop-append-add, drop-append-le}
use Rattle.sizes.specs.Sizes.{piece-size}
use Rattle.rules.specs.Answers as rules
use Rattle.rules.specs.Lists.{join}
use Rattle.rules.specs.Spans.{Span, span}
use Rattle.rules.specs.Depth as rule
use Rattle.rules.specs.Painting.{Piece}
use Rattle.sizes.specs.declared.answers.Refusal.{Refusal}
use Rattle.sizes.specs.Refusals.{number_of}
use Rattle.sizes.proofs.Refusals.{not_done}
use Rattle.depth.specs.Listing.{RunsOut, out, numbers, over, listing}
use Rattle.depth.proofs.Filling.{length-numbers}
use Rattle.paint.specs.declared.pieces.Brush.{Brush}
use Rattle.cmd.specs.Pieces.{piece-words, laid}
use Rattle.paint.specs.Pieces.{run_at, runs-at}
use Rattle.paint.proofs.Spreading.{length-pieces, piece}
use Rattle.paint.proofs.Within.{Each, each_at}

-- the part of the list that is lent for runs: two words for each piece that the list has room for
abbrev pub lent : List ℕ → List ℕ
lent l = take (2 * (length l / piece-size)) l

pub lent_length : (l : List ℕ) → length (lent l) ≡ 2 * (length l / piece-size)
lent_length l = length-take-le (2 * (length l / piece-size)) l (omega arith)

pub lent-room : (l : List ℕ) → length (lent l) / 2 ≡ length l / piece-size
lent-room l = rw (lent_length l) (omega arith)

twice : (k : ℕ) → 2 * suc k ≡ suc (suc (2 * k))
twice k = omega arith

twice-one : (k : ℕ) → 2 * suc k + 1 ≡ suc (suc (2 * k + 1))
twice-one k = omega arith

spans : {a b c d : ℕ} → a ≡ c → b ≡ d → span a b ≡ span c d
spans p q = rw (p, q)

-- the numbers of runs, read back
run-back : (rs : List Span) (rest : List ℕ) (k : ℕ) → k < length rs → run_at (numbers rs ++ rest) k ≡ get_or rs k (span 0 0)
unfolding numbers
run-back [] rest k h = absurd (not-suc-le-zero h)
run-back (r ∷ rs) rest zero h = refl
run-back (r ∷ rs) rest (suc k) h =
    let l : List ℕ = r.first ∷ r.end ∷ (numbers rs ++ rest) in
    spans (ap (λ (n : ℕ). get_or l n 0) (twice k)) (ap (λ (n : ℕ). get_or l n 0) (twice-one k))
    ∙ run-back rs rest k (le_of_suc-le-suc h)

runs-back : (rs : List Span) (rest : List ℕ) (n : ℕ) → n ≤ length rs → runs-at n (numbers rs ++ rest) ≡ take n rs
unfolding runs-at
runs-back rs rest zero h = refl
runs-back rs rest (suc n) h =
    rw (runs-back rs rest n (omega arith), run-back rs rest n (omega arith), take-suc rs n (span 0 0))

-- n runs at the start of the list m, which is l otherwise
pub record Listed (rs : List Span) (l : List ℕ) (n : ℕ) (m : List ℕ) : Type 0 where
  pub many : n ≡ length rs
  pub roomy : ltb (length l / piece-size) (length rs) ≡ false
  pub start : m ≡ over (numbers rs) l

module _ (rs : List Span) (l : List ℕ) (n : ℕ) (m : List ℕ) (s : Listed rs l n m) where
  few : piece-size * n ≤ length l
  few = let h = ltb-false (length l / piece-size) (length rs) s.roomy in omega (arith, s.many)

  words : length (numbers rs) ≡ 2 * n
  words = length-numbers rs ∙ omega (arith, s.many)

  pub same-long : length m ≡ length l
  same-long = ap length s.start ∙ rw (length-append, length-drop, words) (omega (arith, few))

  pub listed-room : piece-size * n ≤ length m
  listed-room = rw same-long few

  pub listed_at : (P : Span → Type 0) → Each P rs → (k : ℕ) → k < n → P (run_at m k)
  listed_at P e k h =
      let g : k < length rs = omega (arith, s.many) in
      let q : run_at m k ≡ get_or rs k (span 0 0) = ap (λ (x : List ℕ). run_at x k) s.start ∙ run-back rs _ k g in
      rw q (each_at P rs k (span 0 0) e g)

  runs-are : runs-at n m ≡ rs
  runs-are =
      ap (λ (x : List ℕ). runs-at n x) s.start ∙ runs-back rs _ n (omega (arith, s.many)) ∙ rw (s.many, take-length)

  -- pieces laid over the runs cover them
  cover : (ps : List Piece) → length ps ≡ n → laid ps m ≡ laid ps l
  cover ps h =
      let long : length (join piece-words ps) ≡ length (numbers rs) + (piece-size - 2) * n = length-pieces ps ∙ omega (arith, words) in
      let past : drop (length (numbers rs) + (piece-size - 2) * n) m ≡ drop (length (numbers rs) + (piece-size - 2) * n) l =
      ap (λ (x : List ℕ). drop (length (numbers rs) + (piece-size - 2) * n) x) s.start
      ∙ drop-append-add (numbers rs) _ ((piece-size - 2) * n)
      ∙ drop-drop ((piece-size - 2) * n) (length (numbers rs)) l
      in
      rw (long, past)

  -- spreading the runs over m leaves their pieces over l
  pub listed-spread : (w : ℕ) (b : Brush) (l' : List ℕ) → l' ≡ laid (map (piece w b) (runs-at n m)) m → l' ≡ laid (map (piece w b) rs) l
  listed-spread w b l' e =
      e ∙ ap (λ (x : List Span). laid (map (piece w b) x) m) runs-are
      ∙ cover (map (piece w b) rs) (rw (length-map) (sym s.many))

-- the list that comes back with its lent part
abbrev pub back : List ℕ → List ℕ → List ℕ
back l ys = ys ++ drop (2 * (length l / piece-size)) l

-- what a call on a good range leaves, if there is room in the list or not
module _ (rs : List Span) (l ys : List ℕ) where
  told : Bool → RunsOut
  told t = listing (rules.settle (cond t 14 0) [] rs) (lent l)

  short : (k : Refusal) → out (Err k) ys ≡ told true → (number_of k ≡ 14) × (back l ys ≡ l)
  unfolding told listing numbers
  short k e = (ap (λ (o : RunsOut). o.number) e, ap (back l) (ap (λ (o : RunsOut). o.list) e) ∙ take-append-drop (2 * (length l / piece-size)) l)

  full : (n : ℕ) → out (Ok n) ys ≡ told false → ltb (length l / piece-size) (length rs) ≡ false → Listed rs l n (back l ys)
  unfolding told listing
  full n e q =
      let many : n ≡ length rs = ap (λ (o : RunsOut). o.count) e in
      let room = ltb-false (length l / piece-size) (length rs) q in
      let fits : length (numbers rs) ≤ length (lent l) = rw (length-numbers rs, lent_length l) (omega arith) in
      record {
        many = many;
        roomy = q;
        start =
            ap (back l) (ap (λ (o : RunsOut). o.list) e)
            ∙ rw (append_assoc, ← drop-append-le (length (numbers rs)) (lent l) (drop (2 * (length l / piece-size)) l) fits, take-append-drop (2 * (length l / piece-size)) l);
      }

  pub when_refused : (k : Refusal) → out (Err k) ys ≡ listing (rule.listed false (length l / piece-size) rs) (lent l)
      → (number_of k ≡ 14) × (back l ys ≡ l) × (ltb (length l / piece-size) (length rs) ≡ true)
  unfolding told listing
  when_refused k h = go (ltb (length l / piece-size) (length rs)) h
    where
      go : (t : Bool) → out (Err k) ys ≡ listing (rules.settle (cond t 14 0) [] rs) (lent l) → (number_of k ≡ 14) × (back l ys ≡ l) × (t ≡ true)
      go true e = let s = short k e in (s.0, s.1, refl)
      go false e = absurd (not_done k (ap (λ (o : RunsOut). o.number) e))

  pub when_listed : (n : ℕ) → out (Ok n) ys ≡ listing (rule.listed false (length l / piece-size) rs) (lent l) → Listed rs l n (back l ys)
  unfolding told listing
  when_listed n h = go (ltb (length l / piece-size) (length rs)) refl h
    where
      go : (t : Bool) → ltb (length l / piece-size) (length rs) ≡ t → out (Ok n) ys ≡ listing (rules.settle (cond t 14 0) [] rs) (lent l) → Listed rs l n (back l ys)
      go true p e = let z : ◌≡◌ {A = ℕ} 0 14 = ap (λ (o : RunsOut). o.number) e in absurd (omega arith)
      go false p e = full n e p
