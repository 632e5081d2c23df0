-- Acts keep a row's unions and summary in order. Assumes nothing.
use Rattle.std.proofs.Common.{◌≡◌, refl, Bool, true, false, cond, List, [], ◌∷◌, Option, None, Some, ℕ, zero, suc, ◌+◌, ◌-◌, ◌*◌, ◌/◌, ◌≤◌, ◌<◌, mul-div_cancel, arith, leb, ltb, length, get_or, leb-false}
use mathlib.Core.List.{foldl}
use Rattle.sizes.specs.declared.width.Width.{Width}
use Rattle.sizes.specs.Widths.{bucket-tiles}
use Rattle.rules.specs.Lists.{keep, change, times}
use Rattle.rules.specs.Spans.{Span, span, hull}
use Rattle.rules.specs.Split.{Part, regular, buckets, split, raised, lowered, around}
use Rattle.rules.specs.Depth.{tiles-of}
use Rattle.rules.specs.Commands.{Command, paint-fill, layer-fill}
use Rattle.rules.specs.Rows.{Row, Level, fresh-row, row-ops, adds, include, put-command, put-push-buf, pop-levels, put-pop-buf, put-depth-fill}
use Rattle.rules.specs.Plans.{Act, paint, opaque, touch, close, pop, Put}
use Rattle.rules.specs.Steps.{ensure, put-part, do-act, do-puts}
use Rattle.rules.proofs.All.{All, nil, cons, head, tail, all_keep}
use Rattle.rules.proofs.laws.Changes.{change-at}
use Rattle.rules.proofs.laws.Widths.{bucket-some, raised-least, lowered-most}
use Rattle.rules.proofs.laws.Maps.{ActOk, paints, splits, touches, closes, pops}
use Rattle.refine_steps.specs.Sound.{Ordered, OrderedUnion, Sane}

-- the id that an act gives its row
abbrev pub id-of : Act → ℕ
id-of (paint s a i) = 0
id-of (opaque s i id) = id
id-of touch = 0
id-of (close s a i) = 0
id-of pop = 0

-- a put whose spans are in order, and whose id can be taken
pub record PutFine (p : Put) : Type 0 where
  pub act : ActOk Ordered p.act
  pub id : id-of p.act ≤ 1048576

hull-ordered : (u : Option Span) (s : Span) → OrderedUnion u → Ordered s → Ordered (hull u s)
hull-ordered None s a b = b
hull-ordered (Some t) s a b = record { order = omega (arith, a.order, b.order); end = omega (arith, a.end, b.end) }

include-ordered : (s : Span) → Ordered s → (ls : List Level) → All (λ (l : Level). OrderedUnion l.union) ls → All (λ (l : Level). OrderedUnion l.union) (include (Some s) ls)
include-ordered s o [] a = nil
include-ordered s o (l ∷ ls) a = cons {x = record { place = l.place; union = Some (hull l.union s) }} (hull-ordered l.union s (head a) o) (tail a)

put-sane : (c : Command) (s : Span) → adds c ≡ Some s → Ordered s → (r : Row) → Sane r → Sane (put-command c r)
unfolding put-command
put-sane c s e o r h = rw e (record { unions = include-ordered s o r.levels h.unions; depth = h.depth; largest = h.largest })

push-sane : (r : Row) → Sane r → Sane (put-push-buf r)
unfolding put-push-buf
push-sane r h = record { unions = cons {x = record { place = length r.commands; union = None }} tt h.unions; depth = h.depth; largest = h.largest }

pushes-sane : (k : ℕ) (r : Row) → Sane r → Sane (times k put-push-buf r)
pushes-sane zero r h = h
pushes-sane (suc k) r h = pushes-sane k (put-push-buf r) (push-sane r h)

pop-as : (ls : List Level) (r : Row) → r.levels ≡ ls → Sane r → Sane (pop-levels ls r)
pop-as [] r e h = h
pop-as (l ∷ ls) r e h = record { unions = tail (rw e at h.unions); depth = h.depth; largest = h.largest }

pop-sane : (r : Row) → Sane r → Sane (put-pop-buf r)
unfolding put-pop-buf
pop-sane r h = pop-as r.levels r refl h

-- the parts of a span, at w tiles a bucket
abbrev PartFine : ℕ → Part → Type 0
PartFine w (regular s) = Ordered s
PartFine w (buckets b) = Ordered (tiles-of w b)

module _ (w : ℕ) where
  part-sane : (i id : ℕ) → id ≤ 1048576 → (p : Part) → PartFine w p → (r : Row) → Sane r → Sane (put-part Row row-ops w i id r p)
  unfolding put-depth-fill
  part-sane i id g (regular s) o r h = put-sane (paint-fill s None i) s refl o r h
  part-sane i id g (buckets b) o r h = record { unions = h.unions; depth = hull-ordered r.depth.union (tiles-of w b) h.depth o; largest = omega (arith, h.largest) }

  parts-sane : (i id : ℕ) → id ≤ 1048576 → {ps : List Part} → All (PartFine w) ps → (r : Row) → Sane r → Sane (foldl (put-part Row row-ops w i id) r ps)
  parts-sane i id g nil r h = h
  parts-sane i id g (cons {x = p} o os) r h = parts-sane i id g os (put-part Row row-ops w i id r p) (part-sane i id g p o r h)

  -- whole buckets
  multiples : 0 < w → (a b : ℕ) → a * w < b * w → b * w ≤ 8192 → Ordered (tiles-of w (span (a * w / w) (b * w / w)))
  multiples p a b h g = rw (mul-div_cancel a p, mul-div_cancel b p) (record { order = omega (arith, h); end = g })

module _ (width : Width) where
  abbrev tiles : ℕ
  tiles = bucket-tiles width

  split-fine : (s : Span) → Ordered s → All (PartFine tiles) (split tiles s)
  unfolding split
  split-fine s o = go (leb (lowered tiles s.end) (raised tiles s.first)) refl
    where
      low : lowered tiles s.end ≤ s.end
      low = lowered-most width s.end

      last : All (PartFine tiles) (keep (ltb (lowered tiles s.end) s.end) (regular (span (lowered tiles s.end) s.end)) [])
      last = all_keep {P = PartFine tiles} (ltb (lowered tiles s.end) s.end) (regular (span (lowered tiles s.end) s.end)) (record { order = low; end = o.end }) nil

      go : (t : Bool) → leb (lowered tiles s.end) (raised tiles s.first) ≡ t
          → All (PartFine tiles) (cond t (regular s ∷ []) (around tiles s (raised tiles s.first) (lowered tiles s.end)))
      go true e = cons {x = regular s} o nil
      go false e =
          let b : raised tiles s.first < lowered tiles s.end = leb-false (lowered tiles s.end) (raised tiles s.first) e in
          all_keep {P = PartFine tiles} (ltb s.first (raised tiles s.first)) (regular (span s.first (raised tiles s.first)))
          (record { order = raised-least width s.first; end = omega (arith, b, low, o.end) })
          (cons {x = buckets (span (raised tiles s.first / tiles) (lowered tiles s.end / tiles))}
          (multiples tiles (bucket-some width) ((s.first + (tiles - 1)) / tiles) (s.end / tiles) b (omega (arith, low, o.end))) last)

  act-sane : (n : ℕ) (t : Act) → ActOk Ordered t → id-of t ≤ 1048576 → (r : Row) → Sane r → Sane (do-act Row row-ops tiles n t r)
  unfolding do-act
  act-sane n (paint s a i) (paints o) g r h = put-sane (paint-fill s a i) s refl o (ensure Row row-ops n r) (pushes-sane (n - length r.levels) r h)
  act-sane n (opaque s i id) (splits o) g r h = parts-sane tiles i id g (split-fine s o) (ensure Row row-ops n r) (pushes-sane (n - length r.levels) r h)
  act-sane n touch touches g r h = pushes-sane (n - length r.levels) r h
  act-sane n (close s a i) (closes o) g r h = put-sane (layer-fill s a i) s refl o r h
  act-sane n pop pops g r h = pop-sane r h

  pub puts-sane : (n : ℕ) {ps : List Put} → All PutFine ps → (rs : List Row) → ((i : ℕ) → Sane (get_or rs i fresh-row))
      → (i : ℕ) → Sane (get_or (do-puts Row row-ops (bucket-tiles width) n ps rs) i fresh-row)
  unfolding do-puts
  puts-sane n nil rs h i = h i
  puts-sane n (cons {x = p} o os) rs h i =
      puts-sane n os (change (do-act Row row-ops tiles n p.act) p.row rs)
      (λ j. change-at Sane (do-act Row row-ops tiles n p.act) p.row j rs fresh-row (h j) (act-sane n p.act o.act o.id (get_or rs j fresh-row) (h j)))
      i
