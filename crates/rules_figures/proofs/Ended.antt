-- The pieces of a painted row end with its buckets.
use Rattle.std.proofs.Common.{ℕ, zero, suc, ◌+◌, ◌-◌, ◌*◌, ◌≤◌, ◌<◌, arith, ◌≡◌, sym, ◌∙◌, Bool, true, false, Option, List, [], ◌∷◌, length, drop, length-take, length-drop, eqb, ltb, leb, leb-true}
use native.Mathlib.Nat.{mul-le-mul_right}
use lib.ListN.{length-replicate}
use borrow.Author.Tests.{leb-false}
use Rattle.rules.specs.Lists.{slice}
use Rattle.rules.specs.Spans.{Span, span, common}
use Rattle.rules.specs.Commands.{Command, paint-fill, layer-fill, push-buf, pop-buf, DepthFill}
use Rattle.rules.specs.Rows.{Row}
use Rattle.rules.specs.Attributes.{Attrs}
use Rattle.rules.specs.Depth.{join-run, bucket-runs, runs-in, runs, buckets-met, tiles-of, visible-runs, write-runs}
use Rattle.rules.specs.Painting.{Piece, Painter, Painted, begin, paint-id, layer-id, paint-panel, layer-panel, paint-depth, paint-fill-runs, paint-command, paint-when, paint-step, paint-steps, paint-row}
use Rattle.rules.proofs.All.{All, nil, cons, all_append, all-over}
use Rattle.rules_picture.proofs.Cases.{by}
use Rattle.rules_picture.proofs.Newest.{written-length}

abbrev Ends : ℕ → Span → Type 0
Ends m r = r.end ≤ m

join-ends : (m i : ℕ) (rs : List Span) → i < m → All (Ends m) rs → All (Ends m) (join-run i rs)
join-ends m i [] h nil = cons {x = span i (suc i)} (omega arith) nil
join-ends m i (r ∷ rs) h (cons p a) = by (eqb r.first (suc i))
    (λ y. rw y (cons {x = span i r.end} p a))
    (λ n. rw n (cons {x = span i (suc i)} (omega arith) (cons {x = r} p a)))

bucket-ends : (o : ℕ → Bool) (m i : ℕ) (bs : List ℕ) → i + length bs ≤ m → All (Ends m) (bucket-runs o i bs)
unfolding bucket-runs
bucket-ends o m i [] h = nil
bucket-ends o m i (b ∷ bs) h =
    let a = bucket-ends o m (suc i) bs (omega arith) in
    by (o b) (λ y. rw y (join-ends m i (bucket-runs o (suc i) bs) (omega arith) a)) (λ n. rw n a)

no-buckets : (o : ℕ → Bool) (m i : ℕ) (bs : List ℕ) → length bs ≡ 0 → All (Ends m) (bucket-runs o i bs)
unfolding bucket-runs
no-buckets o m i [] h = nil
no-buckets o m i (b ∷ bs) h = absurd (omega arith)

runs-end : (o : ℕ → Bool) (bs : List ℕ) (r : Span) → All (Ends (length bs)) (runs-in o bs r)
unfolding runs-in
runs-end o bs r =
    let t = length-take (r.end - r.first) (drop r.first bs) in
    let d = length-drop r.first bs in
    by (leb r.first (length bs))
    (λ y. let h = leb-true r.first (length bs) y in bucket-ends o (length bs) r.first (slice r.first r.end bs) (omega arith))
    (λ n. let h = leb-false r.first (length bs) n in no-buckets o (length bs) r.first (slice r.first r.end bs) (omega arith))

module _ (w : ℕ) (attrs : Attrs) where
  abbrev PieceEnds : ℕ → Piece → Type 0
  PieceEnds m p = p.tiles.end ≤ m * w

  tile-runs-end : (o : ℕ → Bool) (bs : List ℕ) (s : Span) → All (Ends (length bs * w)) (runs o w bs s)
  unfolding runs
  tile-runs-end o bs s = by (ltb s.first s.end)
      (λ y. rw y (all-over (λ (r : Span). common s (tiles-of w r)) (λ r h. let k = mul-le-mul_right w h in omega arith) (runs-end o bs (buckets-met w s))))
      (λ n. rw n nil)

  -- what a step gives, and its painter's words
  record Kept (n : ℕ) (o : Painted) : Type 0 where
    pieces : All (PieceEnds n) o.pieces
    words : length o.painter.buckets ≡ n

  depth-kept : (f : DepthFill) (p : Painter) (n : ℕ) → length p.buckets ≡ n → Kept n (paint-depth w attrs f p)
  unfolding paint-depth write-runs
  depth-kept f p n e =
      record {
        pieces = rw (sym e) (all-over _ (λ r h. mul-le-mul_right w h) (runs-end _ p.buckets f.buckets));
        words = written-length p.buckets (paint-id attrs f.attribute) f.buckets ∙ e;
      }

  fill-kept : (l : Bool) (id i q : ℕ) (s : Span) (a : Option ℕ) (p : Painter) (n : ℕ) → length p.buckets ≡ n → Kept n (paint-fill-runs w attrs l id i q s a p)
  unfolding paint-fill-runs visible-runs
  fill-kept l id i q s a p n e =
      record { pieces = rw (sym e) (all-over _ (λ r h. h) (tile-runs-end _ p.buckets s)); words = e }

  command-kept : (c : Command) (p : Painter) (n : ℕ) → length p.buckets ≡ n → Kept n (paint-command w attrs c p)
  unfolding paint-command
  command-kept (paint-fill s a i) p n e = fill-kept false (paint-id attrs i) i (paint-panel attrs i) s a p n e
  command-kept (layer-fill s a i) p n e = fill-kept true (layer-id attrs i) i (layer-panel attrs i) s a p n e
  command-kept (push-buf s) p n e = record { pieces = nil; words = e }
  command-kept pop-buf p n e = record { pieces = nil; words = e }

  when-kept : (a b : Bool) (r : Row) (p : Painter) (n : ℕ) → length p.buckets ≡ n → Kept n (paint-when w attrs a b r p)
  unfolding paint-when
  when-kept true b r p n e = depth-kept _ p n e
  when-kept false true r p n e = command-kept _ p n e
  when-kept false false r p n e = record { pieces = nil; words = e }

  steps-end : (k : ℕ) (r : Row) (p : Painter) (n : ℕ) → length p.buckets ≡ n → All (PieceEnds n) (paint-steps w attrs k r p)
  unfolding paint-steps paint-step
  steps-end zero r p n e = nil
  steps-end (suc k) r p n e =
      let a = when-kept (ltb p.steps (length r.fills)) (ltb (p.steps - length r.fills) (length r.commands)) r p n e in
      all_append a.pieces (steps-end k r _ n a.words)

  -- a row painted to its end over n buckets
  pub row_ends : (n : ℕ) (r : Row) → All (λ (p : Piece). p.tiles.end ≤ n * w) (paint-row w attrs n r)
  unfolding paint-row
  row_ends n r = steps-end (length r.fills + length r.commands) r (begin n) n (length-replicate n 0)
