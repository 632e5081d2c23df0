-- Acts keep a row fair. Assumes nothing.
use Rattle.std.proofs.Common.{◌≡◌, refl, sym, ap, ◌∙◌, Bool, true, false, cond, List, [], ◌∷◌, ◌++◌, Option, None, Some, ℕ, zero, suc, ◌+◌, ◌-◌, ◌/◌, ◌≤◌, ◌<◌, arith, leb, ltb, length, get_or, set, leb-false}
use mathlib.Core.List.{foldl}
use Rattle.sizes.specs.declared.width.Width.{Width}
use Rattle.sizes.specs.Widths.{bucket-tiles}
use Rattle.rules.specs.Lists.{keep, change, times}
use Rattle.rules.specs.Spans.{Span, span, hull}
use Rattle.rules.specs.Split.{Part, regular, buckets, split, raised, lowered, around}
use Rattle.rules.specs.Depth.{tiles-of}
use Rattle.rules.specs.Commands.{Command, paint-fill, layer-fill, push-buf, pop-buf}
use Rattle.rules.specs.Attributes.{Attrs}
use Rattle.rules.specs.Rows.{Row, Level, fresh-row, row-ops, include, put-command, put-push-buf, pop-levels, put-pop-buf, put-depth-fill}
use Rattle.rules.specs.Plans.{Act, paint, opaque, touch, close, pop, Put}
use Rattle.rules.specs.Steps.{ensure, put-part, do-act, do-puts}
use Rattle.rules.specs.Painting.{paint-id}
use Rattle.rules.proofs.All.{All, nil, cons, head, tail, all_keep, all_append, all_map}
use Rattle.rules.proofs.laws.Changes.{change-at}
use Rattle.rules.proofs.laws.Maps.{PutOk, follows-act}
use Rattle.rules.proofs.laws.Bounds.{BoundedSpan}
use Rattle.rules.proofs.laws.Widths.{each, raised-least, lowered-most}
use Rattle.cmd.specs.Good.{GoodSpan, GoodPush}
use Rattle.paint.proofs.Skips.{includes-new, includes-still}
use Rattle.paint.specs.Painting.{good-paint}
use Rattle.refine_row.specs.Encode.{placed, Fine}
use Rattle.refine_row.proofs.Refines.{refines}
use Rattle.refine_paint.specs.Fair.{FairCommand, Nested, nesting-after, Fair}

-- commands after commands
nested-append : (n : ℕ) (cs ds : List Command) → Nested n cs → Nested (nesting-after n cs) ds → Nested n (cs ++ ds)
nested-append n [] ds h g = g
nested-append n (paint-fill s a i ∷ cs) ds h g = nested-append n cs ds h g
nested-append n (layer-fill s a i ∷ cs) ds h g = nested-append n cs ds h g
nested-append n (push-buf s ∷ cs) ds h g = (h.0, nested-append (suc n) cs ds h.1 g)
nested-append n (pop-buf ∷ cs) ds h g = (h.0, nested-append (n - 1) cs ds h.1 g)

after-append : (n : ℕ) (cs ds : List Command) → nesting-after n (cs ++ ds) ≡ nesting-after (nesting-after n cs) ds
after-append n [] ds = refl
after-append n (paint-fill s a i ∷ cs) ds = after-append n cs ds
after-append n (layer-fill s a i ∷ cs) ds = after-append n cs ds
after-append n (push-buf s ∷ cs) ds = after-append (suc n) cs ds
after-append n (pop-buf ∷ cs) ds = after-append (n - 1) cs ds

-- a PushBuf given its span
some-push : {P : Type 0} (s : Option Span) → ◌≡◌ {A = Command} pop-buf (push-buf s) → P
some-push s e = let z : ◌≡◌ {A = ℕ} 0 1 = cc in absurd (omega arith)

nested-set : (n : ℕ) (cs : List Command) (x : ℕ) (u : Option Span) → get_or cs x pop-buf ≡ push-buf None
    → (Nested n cs → Nested n (set cs x (push-buf u))) × (nesting-after n (set cs x (push-buf u)) ≡ nesting-after n cs)
nested-set n [] x u e = some-push None e
nested-set n (push-buf s ∷ cs) zero u e = (λ h. h, refl)
nested-set n (paint-fill s a i ∷ cs) zero u e = let z : ◌≡◌ {A = ℕ} 0 1 = cc in absurd (omega arith)
nested-set n (layer-fill s a i ∷ cs) zero u e = let z : ◌≡◌ {A = ℕ} 0 1 = cc in absurd (omega arith)
nested-set n (pop-buf ∷ cs) zero u e = some-push None e
nested-set n (paint-fill s a i ∷ cs) (suc x) u e = nested-set n cs x u e
nested-set n (layer-fill s a i ∷ cs) (suc x) u e = nested-set n cs x u e
nested-set n (push-buf s ∷ cs) (suc x) u e = let q = nested-set (suc n) cs x u e in (λ h. (h.0, q.0 h.1), q.1)
nested-set n (pop-buf ∷ cs) (suc x) u e = let q = nested-set (n - 1) cs x u e in (λ h. (h.0, q.0 h.1), q.1)

all_set : {A : Type 0} {P : A → Type 0} {xs : List A} (i : ℕ) (x : A) → P x → All P xs → All P (set xs i x)
all_set i x p nil = nil
all_set zero x p (cons q a) = cons p a
all_set (suc i) x p (cons q a) = cons q (all_set i x p a)

-- unions
hull-good : (u : Option Span) (s : Span) → GoodPush u → GoodSpan 8192 s → GoodSpan 8192 (hull u s)
hull-good None s h g = g
hull-good (Some t) s h g = record { in_order = omega (arith, h.in_order, g.in_order); in-limit = omega (arith, h.in-limit, g.in-limit) }

include-good : (s : Span) → GoodSpan 8192 s → (ls : List Level) → All (λ (l : Level). GoodPush l.union) ls → All (λ (l : Level). GoodPush l.union) (include (Some s) ls)
include-good s g [] h = nil
include-good s g (l ∷ ls) h = cons {x = record { place = l.place; union = Some (hull l.union s) }} (hull-good l.union s (head h) g) (tail h)

include-length : (s : Span) (ls : List Level) → length (include (Some s) ls) ≡ length ls
include-length s [] = refl
include-length s (l ∷ ls) = refl

module _ (width : Width) (a : Attrs) (n : ℕ) where
  abbrev v : ℕ
  v = bucket-tiles width

  put-paint : (s : Span) (x : Option ℕ) (i : ℕ) → FairCommand a (paint-fill s x i) → (r : Row) → Fair v a n r → Fair v a n (put-command (paint-fill s x i) r)
  unfolding put-command
  put-paint s x i c r h =
      record {
        commands = all_append h.commands (cons c nil);
        fills = h.fills;
        unions = include-good s c.good.0 r.levels h.unions;
        nested = nested-append 0 r.commands (paint-fill s x i ∷ []) h.nested tt;
        levels = after-append 0 r.commands (paint-fill s x i ∷ []) ∙ h.levels ∙ sym (include-length s r.levels);
      }

  put-layer : (s : Span) (x : Option ℕ) (i : ℕ) → FairCommand a (layer-fill s x i) → (r : Row) → Fair v a n r → Fair v a n (put-command (layer-fill s x i) r)
  unfolding put-command
  put-layer s x i c r h =
      record {
        commands = all_append h.commands (cons c nil);
        fills = h.fills;
        unions = include-good s c.good.0 r.levels h.unions;
        nested = nested-append 0 r.commands (layer-fill s x i ∷ []) h.nested tt;
        levels = after-append 0 r.commands (layer-fill s x i ∷ []) ∙ h.levels ∙ sym (include-length s r.levels);
      }

  push-fair : (r : Row) → length r.levels < 16 → Fair v a n r → Fair v a n (put-push-buf r)
  unfolding put-push-buf
  push-fair r l h =
      record {
        commands = all_append h.commands (cons {x = push-buf None} (record { good = tt; attributed = tt }) nil);
        fills = h.fills;
        unions = cons {x = record { place = length r.commands; union = None }} tt h.unions;
        nested = nested-append 0 r.commands (push-buf None ∷ []) h.nested (rw h.levels l, tt);
        levels = after-append 0 r.commands (push-buf None ∷ []) ∙ ap suc h.levels;
      }

  pushes-fair : (k : ℕ) (r : Row) → length r.levels + k ≤ 16 → Fair v a n r → Fair v a n (times k put-push-buf r)
  unfolding put-push-buf
  pushes-fair zero r l h = h
  pushes-fair (suc k) r l h = pushes-fair k (put-push-buf r) (omega arith) (push-fair r (omega arith) h)

  pop-as : (ls : List Level) (r : Row) → r.levels ≡ ls → Fine r → Fair v a n r → Fair v a n (pop-levels ls r)
  pop-as [] r e o h = h
  pop-as (l ∷ ls) r e o h =
      let p : placed r.commands (length r.commands) (l ∷ ls) = rw e at o.places in
      let u : All (λ (l : Level). GoodPush l.union) (l ∷ ls) = rw e at h.unions in
      let q = nested-set 0 r.commands l.place l.union p.1 in
      let cs : List Command = set r.commands l.place (push-buf l.union) in
      let k : nesting-after 0 (set r.commands l.place (push-buf l.union)) ≡ suc (length ls) = q.1 ∙ h.levels ∙ ap length e in
      let m : suc (length ls) - 1 ≡ length ls = omega arith in
      record {
        commands = all_append (all_set l.place (push-buf l.union) (record { good = head u; attributed = tt }) h.commands) (cons {x = pop-buf} (record { good = tt; attributed = tt }) nil);
        fills = h.fills;
        unions = tail u;
        nested = nested-append 0 (set r.commands l.place (push-buf l.union)) (pop-buf ∷ []) (q.0 h.nested) (rw k (omega arith), tt);
        levels = after-append 0 (set r.commands l.place (push-buf l.union)) (pop-buf ∷ []) ∙ rw k m;
      }

  pop-fair : (r : Row) → Fine r → Fair v a n r → Fair v a n (put-pop-buf r)
  unfolding put-pop-buf
  pop-fair r o h = pop-as r.levels r refl o h

  -- a depth fill: the summary includes it and what it included before
  fill-fair : (b : Span) (i id : ℕ) → GoodSpan n b → good-paint a i ≡ true → paint-id a i ≡ id → (r : Row) → Fair v a n r → Fair v a n (put-depth-fill v (record { buckets = b; attribute = i }) id r)
  unfolding put-depth-fill
  fill-fair b i id g p e r h =
      record {
        commands = h.commands;
        fills =
            all_append (all_map (λ f o. record { good = o.good; attributed = o.attributed; included = includes-still v r.depth (tiles-of v b) id f.buckets (paint-id a f.attribute) o.included }) h.fills)
            (cons {x = record { buckets = b; attribute = i }} (record { good = g; attributed = p; included = rw e (includes-new v r.depth (tiles-of v b) id b refl) }) nil);
        unions = h.unions;
        nested = h.nested;
        levels = h.levels;
      }

  -- the parts of a span
  abbrev PartFair : Part → Type 0
  PartFair (regular s) = GoodSpan 8192 s
  PartFair (buckets b) = GoodSpan n b

  split-fair : (s : Span) → GoodSpan 8192 s → s.end / v ≤ n → All PartFair (split v s)
  unfolding split
  split-fair s o m = go (leb (lowered v s.end) (raised v s.first)) refl
    where
      low : lowered v s.end ≤ s.end
      low = lowered-most width s.end

      last : All PartFair (keep (ltb (lowered v s.end) s.end) (regular (span (lowered v s.end) s.end)) [])
      last = all_keep {P = PartFair} (ltb (lowered v s.end) s.end) (regular (span (lowered v s.end) s.end)) (record { in_order = low; in-limit = o.in-limit }) nil

      -- the whole buckets between
      middle : raised v s.first < lowered v s.end → GoodSpan n (span (raised v s.first / v) (lowered v s.end / v))
      middle b =
          record {
            in_order = each (λ v. raised v s.first < lowered v s.end → raised v s.first / v ≤ lowered v s.end / v) (λ b. omega arith) (λ b. omega arith) (λ b. omega arith) width b;
            in-limit = each (λ v. s.end / v ≤ n → lowered v s.end / v ≤ n) (λ m. omega arith) (λ m. omega arith) (λ m. omega arith) width m;
          }

      go : (t : Bool) → leb (lowered v s.end) (raised v s.first) ≡ t
          → All PartFair (cond t (regular s ∷ []) (around v s (raised v s.first) (lowered v s.end)))
      go true e = cons {x = regular s} o nil
      go false e =
          let b : raised v s.first < lowered v s.end = leb-false (lowered v s.end) (raised v s.first) e in
          all_keep {P = PartFair} (ltb s.first (raised v s.first)) (regular (span s.first (raised v s.first)))
          (record { in_order = raised-least width s.first; in-limit = omega (arith, low, o.in-limit) })
          (cons {x = buckets (span (raised v s.first / v) (lowered v s.end / v))} (middle b) last)

  parts-fair : (i id : ℕ) → good-paint a i ≡ true → paint-id a i ≡ id → {ps : List Part} → All PartFair ps → (r : Row) → Fair v a n r → Fair v a n (foldl (put-part Row row-ops v i id) r ps)
  parts-fair i id p e nil r h = h
  parts-fair i id p e (cons {x = regular s} o os) r h = parts-fair i id p e os _ (put-paint s None i (record { good = (o, tt); attributed = p }) r h)
  parts-fair i id p e (cons {x = buckets b} o os) r h = parts-fair i id p e os _ (fill-fair b i id o p e r h)

  -- what an act puts on its row is fair
  abbrev pub FairAct : Act → Type 0
  FairAct (paint s x i) = FairCommand a (paint-fill s x i)
  FairAct (opaque s i id) = GoodSpan 8192 s × (s.end / v ≤ n) × (good-paint a i ≡ true) × (paint-id a i ≡ id)
  FairAct touch = Unit {0}
  FairAct (close s x i) = FairCommand a (layer-fill s x i)
  FairAct pop = Unit {0}

  pub record FairPut (p : Put) : Type 0 where
    pub act : FairAct p.act

  module _ (m : ℕ) (few : m ≤ 16) where
    ensure-fair : (r : Row) → Fine r → Fair v a n r → Fair v a n (ensure Row row-ops m r)
    ensure-fair r o h = pushes-fair (m - length r.levels) r (omega (arith, o.few)) h

    act-fair : (t : Act) → FairAct t → (r : Row) → Fine r → Fair v a n r → Fair v a n (do-act Row row-ops v m t r)
    unfolding do-act
    act-fair (paint s x i) c r o h = put-paint s x i c (ensure Row row-ops m r) (ensure-fair r o h)
    act-fair (opaque s i id) c r o h = parts-fair i id c.2 c.3 (split-fair s c.0 c.1) (ensure Row row-ops m r) (ensure-fair r o h)
    act-fair touch c r o h = ensure-fair r o h
    act-fair (close s x i) c r o h = put-layer s x i c r h
    act-fair pop c r o h = pop-fair r o h

    pub puts-fair : {ps : List Put} → All FairPut ps → All (PutOk BoundedSpan) ps → (rs : List Row) → ((i : ℕ) → Fine (get_or rs i fresh-row)) → ((i : ℕ) → Fair v a n (get_or rs i fresh-row))
        → (i : ℕ) → Fair v a n (get_or (do-puts Row row-ops v m ps rs) i fresh-row)
    unfolding do-puts
    puts-fair nil nil rs o h i = h i
    puts-fair (cons {x = p} f fs) (cons g gs) rs o h i =
        puts-fair fs gs (change (do-act Row row-ops v m p.act) p.row rs)
        (λ j. change-at Fine (do-act Row row-ops v m p.act) p.row j rs fresh-row (o j) (follows-act (refines 0 0) v m few g.act (get_or rs j fresh-row) (o j)).1)
        (λ j. change-at (Fair v a n) (do-act Row row-ops v m p.act) p.row j rs fresh-row (h j) (act-fair p.act f.act (get_or rs j fresh-row) (o j) (h j)))
        i
