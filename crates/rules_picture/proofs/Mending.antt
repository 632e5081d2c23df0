-- What a write works out again: from a summary that agreed, the summary of the words as they are now. Assumes nothing.
use Rattle.std.proofs.Common.{ℕ, zero, suc, ◌+◌, ◌-◌, ◌≤◌, ◌<◌, min, ◌≡◌, refl, sym, ◌∙◌, ap, Bool, true, false, ◌&&◌, cond, List, [], ◌∷◌, length, get_or, take, drop, arith, add-zero, add-suc, suc-add, zero-add}
use Rattle.std.proofs.Common.{length-take, length-drop, leb, ltb, eqb, leb-true, leb-false, ltb-true, ltb-false}
use Rattle.std.proofs.lemmas.List.{get_or_past, get_or_default}
use Rattle.rules.specs.Lists.{slice}
use Rattle.rules.specs.Answers.{Done}
use borrow.Author.Tests.{not-false}
use Rattle.rules.specs.Spans.{Span, span, covers, good-range, bad-range}
use Rattle.rules.specs.Depth.{join-run, bucket-runs, runs-in, is-unset, write, write-runs, written, write_answer, write-after}
use Rattle.rules.specs.Minima.{past-end, size, top, minima, halvings, summary, mended, mended-runs, minima-after}
use Rattle.rules.proofs.All.{All, nil, cons, and_left, and_right}
use Rattle.rules.proofs.laws.Minima.{left-is, right-is, row-fits}
use Rattle.rules_picture.specs.Minima.{Mended-afresh}
use Rattle.rules_picture.proofs.Cases.{by, covers-yes, covers-no}
use Rattle.rules_picture.proofs.Runs.{hits, range-hit}
use Rattle.rules_picture.proofs.Newest.{written_at, written-length}
use Rattle.rules_picture.proofs.Minima.{take-at, take-past, drop_at}

-- words that are the same at each place have the same minima
minima-same : (k : ℕ) (bs cs : List ℕ) → ((i : ℕ) → get_or bs i past-end ≡ get_or cs i past-end) → minima k bs ≡ minima k cs
unfolding minima
minima-same zero bs cs h = ap (λ (n : ℕ). n ∷ []) (h 0)
minima-same (suc k) bs cs h =
    let l = minima-same k (take (size k) bs) (take (size k) cs) (λ i. by (ltb i (size k))
    (λ y. let q = ltb-true i (size k) y in take-at (size k) i bs q ∙ h i ∙ sym (take-at (size k) i cs q))
    (λ n. let q = ltb-false i (size k) n in take-past (size k) i bs q ∙ sym (take-past (size k) i cs q))) in
    let r = minima-same k (drop (size k) bs) (drop (size k) cs) (λ i. drop_at (size k) i bs ∙ h (size k + i) ∙ sym (drop_at (size k) i cs)) in
    rw (l, r)

-- ds are the words bs, but from place a to place b those of cs
record Between (bs cs ds : List ℕ) (a b : ℕ) : Type 0 where
  before : (i : ℕ) → i < a → get_or bs i past-end ≡ get_or ds i past-end
  within : (i : ℕ) → a ≤ i → i < b → get_or cs i past-end ≡ get_or ds i past-end
  after : (i : ℕ) → b ≤ i → get_or bs i past-end ≡ get_or ds i past-end

cut : (m i : ℕ) (bs ds : List ℕ) → (i < m → get_or bs i past-end ≡ get_or ds i past-end) → get_or (take m bs) i past-end ≡ get_or (take m ds) i past-end
cut m i bs ds f =
    by (ltb i m)
    (λ y. let q = ltb-true i m y in take-at m i bs q ∙ f q ∙ sym (take-at m i ds q))
    (λ n. let q = ltb-false i m n in take-past m i bs q ∙ sym (take-past m i ds q))

left-between : (m : ℕ) (bs cs ds : List ℕ) (a b : ℕ) → Between bs cs ds a b → Between (take m bs) (take m cs) (take m ds) a (min b m)
left-between m bs cs ds a b h =
    record {
      before = λ i p. cut m i bs ds (λ q. h.before i p);
      within = λ i p q. cut m i cs ds (λ r. h.within i p (omega arith));
      after = λ i p. cut m i bs ds (λ q. h.after i (omega arith));
    }

right-between : (m : ℕ) (bs cs ds : List ℕ) (a b : ℕ) → Between bs cs ds a b → Between (drop m bs) (drop m cs) (drop m ds) (a - m) (b - m)
right-between m bs cs ds a b h =
    record {
      before = λ i p. drop_at m i bs ∙ h.before (m + i) (omega arith) ∙ sym (drop_at m i ds);
      within = λ i p q. drop_at m i cs ∙ h.within (m + i) (omega arith) (omega arith) ∙ sym (drop_at m i ds);
      after = λ i p. drop_at m i bs ∙ h.after (m + i) (omega arith) ∙ sym (drop_at m i ds);
    }

-- nothing is between them
untouched : (k : ℕ) (bs cs ds : List ℕ) (a b : ℕ) → Between bs cs ds a b → b ≤ a → minima k bs ≡ minima k ds
untouched k bs cs ds a b h q =
    minima-same k bs ds (λ i. by (ltb i a)
    (λ z. h.before i (ltb-true i a z))
    (λ z. let r = ltb-false i a z in h.after i (omega arith)))

mends : (k : ℕ) (bs cs ds : List ℕ) (a b : ℕ) → b ≤ size k → Between bs cs ds a b → mended k (minima k bs) cs a b ≡ minima k ds
unfolding mended size
mends zero bs cs ds a b f h =
    by (leb b a)
    (λ y. let q = leb-true b a y in rw y (untouched zero bs cs ds a b h q))
    (λ n. let q = leb-false b a n in rw n (unfold minima in ap (λ (w : ℕ). w ∷ []) (h.within 0 (omega arith) (omega arith))))
mends (suc k) bs cs ds a b f h =
    by (leb b a)
    (λ y. let q = leb-true b a y in rw y (untouched (suc k) bs cs ds a b h q))
    (λ n.
    let l = mends k (take (size k) bs) (take (size k) cs) (take (size k) ds) a (min b (size k)) (omega arith) (left-between (size k) bs cs ds a b h) in
    let r = mends k (drop (size k) bs) (drop (size k) cs) (drop (size k) ds) (a - size k) (b - size k) (omega arith) (right-between (size k) bs cs ds a b h) in
    rw (n, left-is k bs, right-is k bs, l, r) (unfold minima in refl))

-- the words bs, those of cs in a run; the buckets stand at i on
put : ℕ → Span → List ℕ → List ℕ → List ℕ
put i r [] cs = []
put i r (b ∷ bs) cs = cond (covers r i) (top cs) b ∷ put (suc i) r bs (drop 1 cs)

put-length : (i : ℕ) (r : Span) (bs cs : List ℕ) → length (put i r bs cs) ≡ length bs
unfolding put
put-length i r [] cs = refl
put-length i r (b ∷ bs) cs = ap suc (put-length (suc i) r bs (drop 1 cs))

put_at : (i : ℕ) (r : Span) (bs cs : List ℕ) (k : ℕ) → k < length bs
    → get_or (put i r bs cs) k past-end ≡ cond (covers r (i + k)) (get_or cs k past-end) (get_or bs k past-end)
unfolding put
put_at i r [] cs k h = absurd (omega arith)
put_at i r (b ∷ bs) cs zero h = rw add-zero refl
put_at i r (b ∷ bs) cs (suc k) h =
    let e : 1 + k ≡ suc k = omega arith in
    let d : get_or (drop 1 cs) k past-end ≡ get_or cs (suc k) past-end = drop_at 1 k cs ∙ ap (λ (j : ℕ). get_or cs j past-end) e in
    put_at (suc i) r bs (drop 1 cs) k (omega arith) ∙ rw (add-suc i k, ← suc-add i k, d) refl

module _ (r : Span) (bs cs : List ℕ) (same : length cs ≡ length bs) where
  past : (ds : List ℕ) → length ds ≡ length bs → (i : ℕ) → length bs ≤ i → get_or ds i past-end ≡ past-end
  past ds e i h = get_or_past ds i past-end (omega arith)

  in-run : (i : ℕ) → covers r i ≡ true → get_or cs i past-end ≡ get_or (put 0 r bs cs) i past-end
  in-run i e =
      by (ltb i (length bs))
      (λ y. let q = ltb-true i (length bs) y in sym (put_at 0 r bs cs i q ∙ rw (zero-add i, e)))
      (λ n. let q = ltb-false i (length bs) n in past cs same i q ∙ sym (past (put 0 r bs cs) (put-length 0 r bs cs) i q))

  off-run : (i : ℕ) → covers r i ≡ false → get_or bs i past-end ≡ get_or (put 0 r bs cs) i past-end
  off-run i e =
      by (ltb i (length bs))
      (λ y. let q = ltb-true i (length bs) y in sym (put_at 0 r bs cs i q ∙ rw (zero-add i, e)))
      (λ n. let q = ltb-false i (length bs) n in past bs refl i q ∙ sym (past (put 0 r bs cs) (put-length 0 r bs cs) i q))

  put-between : Between bs cs (put 0 r bs cs) r.first r.end
  put-between =
      record {
        before = λ i p. off-run i (covers-no r i (λ q s. absurd (omega arith)));
        within = λ i p q. in-run i (covers-yes r i p q);
        after = λ i p. off-run i (covers-no r i (λ q s. absurd (omega arith)));
      }

-- words that differ in the runs alone
abbrev Outside : List Span → List ℕ → List ℕ → Type 0
Outside rs bs cs = (i : ℕ) → hits rs i ≡ 0 → get_or bs i past-end ≡ get_or cs i past-end

mend-all : (k : ℕ) (bs cs : List ℕ) (rs : List Span) → length cs ≡ length bs → All (λ (r : Span). r.end ≤ size k) rs → Outside rs bs cs
    → mended-runs k (minima k bs) cs rs ≡ minima k cs
unfolding mended-runs
mend-all k bs cs [] e a o = minima-same k bs cs (λ i. o i refl)
mend-all k bs cs (r ∷ rs) e (cons f a) o =
    rw (mends k bs cs (put 0 r bs cs) r.first r.end f (put-between r bs cs e))
    (mend-all k (put 0 r bs cs) cs rs (e ∙ sym (put-length 0 r bs cs)) a (λ i h. by (covers r i)
    (λ y. sym (in-run r bs cs e i y))
    (λ n. sym (off-run r bs cs e i n) ∙ o i (rw n h))))

-- every run of a list ends in it
runs-inside : (p : ℕ → Bool) (i n : ℕ) (bs : List ℕ) → i + length bs ≤ n → All (λ (r : Span). r.end ≤ n) (bucket-runs p i bs)
unfolding bucket-runs
runs-inside p i n [] h = nil
runs-inside p i n (b ∷ bs) h = go (p b) (runs-inside p (suc i) n bs (omega arith))
  where
    go : {rs : List Span} (t : Bool) → All (λ (r : Span). r.end ≤ n) rs → All (λ (r : Span). r.end ≤ n) (cond t (join-run i rs) rs)
    go true nil = cons (omega arith) nil
    go true (cons {x = r} {xs = rs} f a) = on (eqb r.first (suc i))
      where
        on : (u : Bool) → All (λ (r : Span). r.end ≤ n) (cond u (span i r.end ∷ rs) (span i (suc i) ∷ r ∷ rs))
        on true = cons f a
        on false = cons (omega arith) (cons f a)
    go false a = a

-- a write changes unset buckets of its range alone, and each lies in a run
apart : (bs : List ℕ) (id : ℕ) (r : Span) → Outside (write-runs bs r) bs (written bs id r)
unfolding write-runs
apart bs id r i h =
    by (ltb i (length bs))
    (λ y.
    let q = ltb-true i (length bs) y in
    let z = range-hit is-unset bs r i q in
    let w = written_at bs id r i q in
    let l : i < length (written bs id r) = rw (written-length bs id r) q in
    let k : get_or (written bs id r) i 0 ≡ get_or bs i 0 = w ∙ kept (covers r i) (get_or bs i 0) (sym z ∙ h) in
    get_or_default bs i past-end 0 q ∙ sym k ∙ sym (get_or_default (written bs id r) i past-end 0 l))
    (λ n.
    let q = ltb-false i (length bs) n in
    get_or_past bs i past-end q ∙ sym (get_or_past (written bs id r) i past-end (rw (written-length bs id r) q)))
  where
    kept : (c : Bool) (b : ℕ) → ◌≡◌ {A = ℕ} (cond (c && is-unset b) 1 0) 0 → cond c (write id b) b ≡ b
    kept false b e = refl
    kept true b e = on (eqb b 0) e
      where
        on : (u : Bool) → ◌≡◌ {A = ℕ} (cond u 1 0) 0 → cond u id b ≡ b
        on true e = absurd (omega arith)
        on false e = refl

drop-none : (n : ℕ) → ◌≡◌ {A = List ℕ} (drop n []) []
drop-none zero = refl
drop-none (suc n) = refl

take-none : (n : ℕ) → ◌≡◌ {A = List ℕ} (take n []) []
take-none zero = refl
take-none (suc n) = refl

summary-is : (bs : List ℕ) → 0 < length bs → summary bs ≡ minima (halvings (length bs)) bs
unfolding summary
summary-is [] h = absurd (omega arith)
summary-is (b ∷ bs) h = refl

module _ (bs : List ℕ) (id : ℕ) (r : Span) where
  inside : r.first ≤ r.end → r.end ≤ length bs → All (λ (q : Span). q.end ≤ size (halvings (length bs))) (write-runs bs r)
  unfolding write-runs runs-in
  inside f e =
      let t = length-take (r.end - r.first) (drop r.first bs) in
      let d = length-drop r.first bs in
      let g = row-fits (length bs) in
      runs-inside is-unset r.first (size (halvings (length bs))) (slice r.first r.end bs) (omega arith)

  of-none : length bs ≡ 0 → mended-runs (halvings (length bs)) (summary bs) (written bs id r) (write-runs bs r) ≡ summary (written bs id r)
  unfolding write-runs runs-in bucket-runs mended-runs summary written
  of-none e = go bs e
    where
      go : (cs : List ℕ) → length cs ≡ 0 → mended-runs (halvings (length cs)) (summary cs) (written cs id r) (write-runs cs r) ≡ summary (written cs id r)
      go [] e = rw (drop-none r.first, take-none (r.end - r.first))
      go (c ∷ cs) e = absurd (omega arith)

  -- a done write of a range within the row
  done : r.first ≤ r.end → r.end ≤ length bs → mended-runs (halvings (length bs)) (summary bs) (written bs id r) (write-runs bs r) ≡ summary (written bs id r)
  done f e =
      by (ltb 0 (length bs))
      (λ y.
      let some = ltb-true 0 (length bs) y in
      let n = written-length bs id r in
      rw (summary-is bs some, summary-is (written bs id r) (omega arith), n)
      (mend-all (halvings (length bs)) bs (written bs id r) (write-runs bs r) n (inside f e) (apart bs id r)))
      (λ x. let q = ltb-false 0 (length bs) x in of-none (omega arith))

  refused : (bad-range (length bs) r) ≡ true → (n : ℕ) → (write_answer bs id r n).number ≡ 12
  unfolding write_answer
  refused e n = rw e

pub mended-afresh : Mended-afresh
unfolding minima-after write-after
mended-afresh bs id r n =
    by (bad-range (length bs) r)
    (λ y. rw (refused bs id r y n))
    (λ x.
    let g = not-false (good-range r.first r.end (length bs)) x in
    let f = leb-true r.first r.end (and_left (leb r.first r.end) (leb r.end (length bs)) g) in
    let e = leb-true r.end (length bs) (and_right (leb r.first r.end) (leb r.end (length bs)) g) in
    either (eqb (write_answer bs id r n).number Done) (done bs id r f e))
  where
    either : (t : Bool) → mended-runs (halvings (length bs)) (summary bs) (written bs id r) (write-runs bs r) ≡ summary (written bs id r)
        → cond t (mended-runs (halvings (length bs)) (summary bs) (written bs id r) (write-runs bs r)) (summary bs) ≡ summary (cond t (written bs id r) bs)
    either true e = e
    either false e = refl
