-- How many pieces a row of at most 64 buckets gives: at most 32 for each of its commands, since two runs have a closed bucket between them, and for its
-- depth fills together at most one for each bucket, since each of their pieces sets an unset bucket for good. Assumes nothing.
use Rattle.std.proofs.Common.{◌≡◌, refl, Bool, true, false, cond, List, [], ◌∷◌, map, Option, ℕ, zero, suc, ◌+◌, ◌-◌, ◌*◌, ◌≤◌, ◌<◌, arith, length, get_or, take, drop, length-append, length-take}
use Rattle.std.proofs.Common.{length-drop, ltb, eqb, eq-eqb, le-leb, ltb-true, ltb-false}
use lib.ListN.{length-map, length-replicate}
use lib.Dec.{eqb-suc-zero}
use borrow.Author.Tests.{lt-leb}
use Rattle.rules.specs.Lists.{slice}
use Rattle.rules.specs.Spans.{Span, span, common}
use Rattle.rules.specs.Commands.{Command, paint-fill, layer-fill, push-buf, pop-buf, DepthFill}
use Rattle.rules.specs.Rows.{Row}
use Rattle.rules.specs.Attributes.{Attrs}
use Rattle.rules.specs.Depth.{join-run, bucket-runs, runs-in, runs, buckets-met, tiles-of, is-unset, visible-runs, write, write-runs, written, written_from}
use Rattle.rules.specs.Painting.{Painter, Painted, begin, paint-depth, paint-fill-runs, paint-command, paint-when, paint-step, paint-steps, paint-row, no-fill, paint-id, layer-id, paint-panel, layer-panel}
use Rattle.rules.proofs.All.{All, all-at}
use Rattle.rules_picture.proofs.Cases.{by}
use Rattle.rules_picture.proofs.Newest.{written-length}

-- one open bucket makes at most one run more, and none where a run begins next to it
join_more : (i : ℕ) (rs : List Span) → length (join-run i rs) ≤ suc (length rs)
join_more i [] = omega arith
join_more i (r ∷ rs) = go (eqb r.first (suc i))
  where
    go : (b : Bool) → length (cond b (span i r.end ∷ rs) (span i (suc i) ∷ r ∷ rs)) ≤ suc (suc (length rs))
    go true = omega arith
    go false = omega arith

join-next : (i : ℕ) (rs : List Span) → length (join-run i (join-run (suc i) rs)) ≡ length (join-run (suc i) rs)
join-next i [] = rw (eq-eqb (suc i) (suc i) refl)
join-next i (r ∷ rs) = go (eqb r.first (suc (suc i)))
  where
    go : (b : Bool)
        → length (join-run i (cond b (span (suc i) r.end ∷ rs) (span (suc i) (suc (suc i)) ∷ r ∷ rs)))
        ≡ length (cond b (span (suc i) r.end ∷ rs) (span (suc i) (suc (suc i)) ∷ r ∷ rs))
    go true = rw (eq-eqb (suc i) (suc i) refl)
    go false = rw (eq-eqb (suc i) (suc i) refl)

module _ (p : ℕ → Bool) where
  bucket-runs-few : (i : ℕ) (bs : List ℕ) → 2 * length (bucket-runs p i bs) ≤ suc (length bs)
  unfolding bucket-runs
  bucket-runs-few i [] = omega arith
  bucket-runs-few i (b ∷ []) = go (p b)
    where
      go : (t : Bool) → 2 * length (cond t (join-run i []) []) ≤ 2
      go true = omega arith
      go false = omega arith
  bucket-runs-few i (b ∷ c ∷ bs) = go (p b) (p c) (bucket-runs-few (suc i) (c ∷ bs)) (bucket-runs-few (suc (suc i)) bs)
    where
      rs : List Span
      rs = bucket-runs p (suc (suc i)) bs

      go : (t u : Bool) → 2 * length (cond u (join-run (suc i) rs) rs) ≤ suc (suc (length bs)) → 2 * length rs ≤ suc (length bs)
          → 2 * length (cond t (join-run i (cond u (join-run (suc i) rs) rs)) (cond u (join-run (suc i) rs) rs)) ≤ suc (suc (suc (length bs)))
      go false u h g = omega (arith, h)
      go true true h g = rw (join-next i rs) (omega (arith, h))
      go true false h g = omega (arith, join_more i rs, g)

  -- of n buckets a search gives at most (n + 1) / 2 runs
  pub runs-in-half : (bs : List ℕ) (r : Span) → 2 * length (runs-in p bs r) ≤ suc (length bs)
  unfolding runs-in
  runs-in-half bs r =
      let n : length (slice r.first r.end bs) ≤ length bs = simp (length-take, length-drop) (omega arith) in
      omega (arith, bucket-runs-few r.first (slice r.first r.end bs))

  pub runs-half : (w : ℕ) (bs : List ℕ) (s : Span) → 2 * length (runs p w bs s) ≤ suc (length bs)
  unfolding runs
  runs-half w bs s = go (ltb s.first s.end)
    where
      go : (t : Bool) → 2 * length (cond t (map (λ (r : Span). common s (tiles-of w r)) (runs-in p bs (buckets-met w s))) []) ≤ suc (length bs)
      go true = rw length-map (runs-in-half bs (buckets-met w s))
      go false = omega arith

  pub runs-few : (w : ℕ) (bs : List ℕ) (s : Span) → length bs ≤ 64 → length (runs p w bs s) ≤ 32
  runs-few w bs s h = omega (arith, runs-half w bs s, h)

-- how many buckets are unset
abbrev one-unset : ℕ → ℕ
one-unset b = cond (is-unset b) 1 0

unfoldable pub unset : List ℕ → ℕ
unset [] = 0
unset (b ∷ bs) = one-unset b + unset bs

one-most : (t : Bool) → cond t 1 0 ≤ 1
one-most true = omega arith
one-most false = omega arith

pub unset-most : (bs : List ℕ) → unset bs ≤ length bs
unfolding unset
unset-most [] = omega arith
unset-most (b ∷ bs) = omega (arith, one-most (is-unset b), unset-most bs)

take_none : (n : ℕ) → unset (take n []) ≤ 0
unfolding unset
take_none zero = omega arith
take_none (suc n) = omega arith

-- each unset run has an unset bucket
unset-runs-few : (i : ℕ) (bs : List ℕ) → length (bucket-runs is-unset i bs) ≤ unset bs
unfolding bucket-runs unset
unset-runs-few i [] = omega arith
unset-runs-few i (b ∷ bs) = go (is-unset b) (bucket-runs is-unset (suc i) bs) (unset-runs-few (suc i) bs)
  where
    go : (t : Bool) (rs : List Span) → length rs ≤ unset bs → length (cond t (join-run i rs) rs) ≤ cond t 1 0 + unset bs
    go true rs h = omega (arith, join_more i rs, h)
    go false rs h = omega (arith, h)

-- a bucket written with an id is set
module _ (id : ℕ) (Some : 1 ≤ id) where
  now-set : (b : ℕ) → one-unset (write id b) ≡ 0
  now-set zero = go id Some
    where
      go : (n : ℕ) → 1 ≤ n → one-unset n ≡ 0
      go zero h = absurd (omega arith)
      go (suc n) h = rw (eqb-suc-zero n)
  now-set (suc b) = rw (eqb-suc-zero b, eqb-suc-zero b)

  -- the unset buckets of the range are set: from inside the range on ..
  sets-inside : (r : Span) (i : ℕ) (bs : List ℕ) → r.first ≤ i → unset (written_from i id r bs) + unset (take (r.end - i) bs) ≤ unset bs
  unfolding unset
  sets-inside r i [] h = omega (arith, take_none (r.end - i))
  sets-inside r i (b ∷ bs) h = by (ltb i r.end)
      (λ e.
      let m = ltb-true i r.end e in
      let n : r.end - i ≡ suc (r.end - suc i) = omega arith in
      rw (n, le-leb r.first i h, e, now-set b) (omega (arith, sets-inside r (suc i) bs (omega arith))))
      (λ e.
      let m = ltb-false i r.end e in
      let n : r.end - i ≡ 0 = omega arith in
      let o : r.end - suc i ≡ 0 = omega arith in
      let g : unset (written_from (suc i) id r bs) + unset (take 0 bs) ≤ unset bs = rw o at (sets-inside r (suc i) bs (omega arith)) in
      rw (n, le-leb r.first i h, e) (omega (arith, g)))

  -- .. and from before it on
  sets-before : (r : Span) (d i : ℕ) (bs : List ℕ) → i + d ≡ r.first → unset (written_from i id r bs) + unset (take (r.end - r.first) (drop d bs)) ≤ unset bs
  unfolding unset
  sets-before r zero i bs h =
      let e : r.end - r.first ≡ r.end - i = omega (arith, h) in
      rw e (sets-inside r i bs (omega (arith, h)))
  sets-before r (suc d) i [] h = omega (arith, take_none (r.end - r.first))
  sets-before r (suc d) i (b ∷ bs) h = rw (lt-leb r.first i (omega (arith, h))) (omega (arith, sets-before r d (suc i) bs (omega (arith, h))))

  -- a write gives at most as many runs as it sets buckets
  pub write-sets : (bs : List ℕ) (r : Span) → length (write-runs bs r) + unset (written bs id r) ≤ unset bs
  unfolding write-runs runs-in written
  write-sets bs r = omega (arith, unset-runs-few r.first (slice r.first r.end bs), sets-before r r.first 0 bs (omega arith))

-- a step of a row of at most 64 buckets, which stay as many
pub record FewStep (p : Painter) (o : Painted) : Type 0 where
  pub pieces : length o.pieces ≤ 32
  pub wide : length o.painter.buckets ≡ length p.buckets

-- the most pieces that a row can give from a painter on: one for each unset bucket, and 32 for each command not yet done
unfoldable pub pieces-left : Row → Painter → ℕ
pieces-left r p = unset p.buckets + 32 * (length r.commands - (p.steps - length r.fills))

module _ (w : ℕ) (a : Attrs) where
  depth-few : (f : DepthFill) (p : Painter) → length p.buckets ≤ 64 → FewStep p (paint-depth w a f p)
  unfolding paint-depth write-runs
  depth-few f p h =
      record {
        pieces = rw length-map (omega (arith, runs-in-half is-unset p.buckets f.buckets, h));
        wide = written-length p.buckets (paint-id a f.attribute) f.buckets;
      }

  fill-few : (l : Bool) (id i q : ℕ) (s : Span) (x : Option ℕ) (p : Painter) → length p.buckets ≤ 64 → FewStep p (paint-fill-runs w a l id i q s x p)
  unfolding paint-fill-runs visible-runs
  fill-few l id i q s x p h = record { pieces = rw length-map (runs-few _ w p.buckets s h); wide = refl }

  command-few : (c : Command) (p : Painter) → length p.buckets ≤ 64 → FewStep p (paint-command w a c p)
  unfolding paint-command
  command-few (paint-fill s x i) p h = fill-few false (paint-id a i) i (paint-panel a i) s x p h
  command-few (layer-fill s x i) p h = fill-few true (layer-id a i) i (layer-panel a i) s x p h
  command-few (push-buf s) p h = record { pieces = omega arith; wide = refl }
  command-few pop-buf p h = record { pieces = omega arith; wide = refl }

  pub step-few : (r : Row) (p : Painter) → length p.buckets ≤ 64 → FewStep p (paint-step w a r p)
  unfolding paint-step paint-when
  step-few r p h = go (ltb p.steps (length r.fills)) (ltb (p.steps - length r.fills) (length r.commands))
    where
      go : (t u : Bool) → FewStep p (paint-when w a t u r p)
      go true u = depth-few (get_or r.fills (length r.fills - (p.steps + 1)) no-fill) p h
      go false true = command-few (get_or r.commands (p.steps - length r.fills) pop-buf) p h
      go false false = record { pieces = omega arith; wide = refl }

  -- a command sets no bucket and is one step
  command-keeps : (c : Command) (p : Painter) → ((paint-command w a c p).painter.buckets ≡ p.buckets) × ((paint-command w a c p).painter.steps ≡ p.steps + 1)
  unfolding paint-command paint-fill-runs
  command-keeps (paint-fill s x i) p = (refl, refl)
  command-keeps (layer-fill s x i) p = (refl, refl)
  command-keeps (push-buf s) p = (refl, refl)
  command-keeps pop-buf p = (refl, refl)

  -- a depth fill's pieces are at most the buckets that it sets
  depth-left : (r : Row) (f : DepthFill) (p : Painter) → 1 ≤ paint-id a f.attribute → p.steps < length r.fills
      → length (paint-depth w a f p).pieces + pieces-left r (paint-depth w a f p).painter ≤ pieces-left r p
  unfolding paint-depth pieces-left
  depth-left r f p Some m =
      let n : p.steps + 1 - length r.fills ≡ 0 = omega arith in
      let o : p.steps - length r.fills ≡ 0 = omega arith in
      rw (length-map, n, o) (omega (arith, write-sets (paint-id a f.attribute) Some p.buckets f.buckets))

  command-left : (r : Row) (c : Command) (p : Painter) → length p.buckets ≤ 64 → length r.fills ≤ p.steps → p.steps - length r.fills < length r.commands
      → length (paint-command w a c p).pieces + pieces-left r (paint-command w a c p).painter ≤ pieces-left r p
  unfolding pieces-left
  command-left r c p h m n =
      let k = command-keeps c p in
      rw (k.0, k.1) (omega (arith, (command-few c p h).pieces))

  -- a step's pieces are no longer left
  step_left : (r : Row) (p : Painter) → length p.buckets ≤ 64 → All (λ (f : DepthFill). 1 ≤ paint-id a f.attribute) r.fills
      → length (paint-step w a r p).pieces + pieces-left r (paint-step w a r p).painter ≤ pieces-left r p
  unfolding paint-step paint-when
  step_left r p h all = go (ltb p.steps (length r.fills)) (ltb (p.steps - length r.fills) (length r.commands)) refl refl
    where
      go : (t u : Bool) → ltb p.steps (length r.fills) ≡ t → ltb (p.steps - length r.fills) (length r.commands) ≡ u
          → length (paint-when w a t u r p).pieces + pieces-left r (paint-when w a t u r p).painter ≤ pieces-left r p
      go true u e f =
          let m = ltb-true _ _ e in
          depth-left r (get_or r.fills (length r.fills - (p.steps + 1)) no-fill) p (all-at all (length r.fills - (p.steps + 1)) no-fill (omega arith)) m
      go false true e f = command-left r (get_or r.commands (p.steps - length r.fills) pop-buf) p h (ltb-false _ _ e) (ltb-true _ _ f)
      go false false e f = omega arith

  steps-left : (k : ℕ) (r : Row) (p : Painter) → length p.buckets ≤ 64 → All (λ (f : DepthFill). 1 ≤ paint-id a f.attribute) r.fills
      → length (paint-steps w a k r p) ≤ pieces-left r p
  unfolding paint-steps
  steps-left zero r p h all = omega arith
  steps-left (suc k) r p h all =
      let n : length (paint-step w a r p).painter.buckets ≤ 64 = rw (step-few r p h).wide h in
      rw length-append (omega (arith, step_left r p h all, steps-left k r (paint-step w a r p).painter n all))

  -- However far it is painted, a row gives at most one piece for each bucket, and 32 for each command.
  pub steps-few : (k : ℕ) (r : Row) (p : Painter) → length p.buckets ≤ 64 → All (λ (f : DepthFill). 1 ≤ paint-id a f.attribute) r.fills
      → length (paint-steps w a k r p) ≤ length p.buckets + 32 * length r.commands
  unfolding pieces-left
  steps-few k r p h all = omega (arith, steps-left k r p h all, unset-most p.buckets)

  pub row-few : (n : ℕ) (r : Row) → n ≤ 64 → All (λ (f : DepthFill). 1 ≤ paint-id a f.attribute) r.fills
      → length (paint-row w a n r) ≤ n + 32 * length r.commands
  unfolding paint-row
  row-few n r h all =
      let e : length (begin n).buckets ≡ n = length-replicate {A = ℕ} n 0 in
      rw e at (steps-few (length r.fills + length r.commands) r (begin n) (rw e h) all)
