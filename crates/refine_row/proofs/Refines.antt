-- Rows of words refine the rules' rows: `encode` follows every operation, so it follows every step. Assumes nothing.
use Rattle.std.proofs.Common.{◌≡◌, refl, ap, ◌∙◌, Bool, true, false, cond, List, [], ◌∷◌, ◌++◌, map, Option, None, Some, ℕ, ◌+◌, ◌-◌, ◌*◌, ◌≤◌, ◌<◌, div-mul-le_self, div-le_self, arith, leb, ltb}
use Rattle.std.proofs.Common.{leb-false, length, set, replicate, length-append, length-set, get_or-set_other}
use lib.ListN.{get_or-append}
use lib.Seq.{get_or-append_seam}
use Rattle.rules.specs.Lists.{keep, is-empty}
use Rattle.rules.specs.Spans.{Span, span, hull}
use Rattle.rules.specs.Split.{regular, split, raised, lowered, around}
use Rattle.rules.specs.Commands.{Command, paint-fill, layer-fill, push-buf, pop-buf, DepthFill}
use Rattle.refine_row.proofs.Pads.{padded-fits}
use Rattle.rules.specs.Rows.{fresh-row, Row, Level, row-ops, adds, include, put-command, put-push-buf, pop-levels, put-pop-buf, put-depth-fill}
use Rattle.rules.specs.Boxes.{rows_of, good_viewport}
use Rattle.rules.specs.Plans.{Put, Step, Frame}
use Rattle.rules.specs.Steps.{Screen, reset, do-puts, touched, call}
use Rattle.rules.proofs.All.{All, nil, cons, head, tail, all_keep, all_replicate}
use Rattle.rules.proofs.laws.Bounds.{BoundedSpan, Framed, plan-ok, call-framed, reset-framed}
use Rattle.rules.proofs.laws.Maps.{Follows, PartOk, of-tiles, of-buckets, PutOk, screen-by, answer-by, follows-puts, follows-call}
use Rattle.row.specs.Words.{Words, words, word-ops}
use Rattle.refine_row.specs.Encode.{padded, stack, end_of, placed, encode, Fine}
use Rattle.refine_row.proofs.Laws.{puts, pushes, pops, fills}

-- places stay where they are
module _ (cs : List Command) (c : Command) where
  more-places : (b m : ℕ) (ls : List Level) → b ≤ m → b ≤ length cs → placed cs b ls → placed (cs ++ (c ∷ [])) m ls
  more-places b m [] h g p = tt
  more-places b m (l ∷ ls) h g p =
      let i : l.place < length cs = omega (arith, p.0) in
      (omega (arith, p.0), get_or-append cs (c ∷ []) pop-buf l.place i ∙ p.1, more-places l.place l.place ls (omega arith) (omega arith) p.2)

  top-place : (b m : ℕ) (s : Span) (ls : List Level) → b ≤ m → b ≤ length cs → placed cs b ls → placed (cs ++ (c ∷ [])) m (include (Some s) ls)
  top-place b m s [] h g p = tt
  top-place b m s (l ∷ ls) h g p = more-places b m (l ∷ ls) h g p

  counted : length (cs ++ (c ∷ [])) ≡ length cs + 1
  counted = length-append cs (c ∷ [])

set-places : (cs : List Command) (x : ℕ) (c : Command) (b : ℕ) (ls : List Level) → b ≤ x → placed cs b ls → placed (set cs x c) b ls
set-places cs x c b [] h p = tt
set-places cs x c b (l ∷ ls) h p =
    (p.0, get_or-set_other cs x l.place c pop-buf (omega (arith, p.0)) ∙ p.1, set-places cs x c l.place ls (omega (arith, p.0)) p.2)

few-include : (s : Span) (ls : List Level) → length (include (Some s) ls) ≡ length ls
few-include s [] = refl
few-include s (l ∷ ls) = refl

hull-end : (u : Option Span) (s : Span) → end_of u < 65536 → s.end < 65536 → (hull u s).end < 65536
hull-end None s h g = g
hull-end (Some u) s h g = omega arith

spans-include : (s : Span) → s.end < 65536 → (ls : List Level) → All (λ (l : Level). end_of l.union < 65536) ls → All (λ (l : Level). end_of l.union < 65536) (include (Some s) ls)
spans-include s g [] a = nil
spans-include s g (l ∷ ls) a = cons (hull-end l.union s (head a) g) (tail a)

fine-put : (c : Command) (s : Span) → adds c ≡ Some s → BoundedSpan s → (r : Row) → Fine r → Fine (put-command c r)
unfolding put-command
fine-put c s e g r o =
    rw e
    (record {
      few = rw few-include o.few;
      spans = spans-include s (omega (arith, g.end)) r.levels o.spans;
      summary = o.summary;
      places = top-place r.commands c (length r.commands) (length (r.commands ++ (c ∷ []))) s r.levels (rw counted (omega arith)) (omega arith) o.places;
    })

fine-push : (r : Row) → Fine r → length r.levels < 16 → Fine (put-push-buf r)
unfolding put-push-buf
fine-push r o h =
    record {
      few = h;
      spans = cons {x = record { place = length r.commands; union = None }} (omega arith) o.spans;
      summary = o.summary;
      places = (
        rw counted (omega arith),
        get_or-append_seam r.commands (push-buf None) [] pop-buf,
        more-places r.commands (push-buf None) (length r.commands) (length r.commands) r.levels (omega arith) (omega arith) o.places,
      );
    }

fine-pop : (ls : List Level) (r : Row) → Fine r → r.levels ≡ ls → Fine (pop-levels ls r)
fine-pop [] r o e = o
fine-pop (l ∷ ls) r o e =
    let p : placed r.commands (length r.commands) (l ∷ ls) = rw e at o.places in
    let a : All (λ (l : Level). end_of l.union < 65536) (l ∷ ls) = rw e at o.spans in
    let b : length (l ∷ ls) ≤ 16 = rw e at o.few in
    let cs : List Command = set r.commands l.place (push-buf l.union) in
    let n : length (set r.commands l.place (push-buf l.union)) ≡ length r.commands = length-set r.commands l.place (push-buf l.union) in
    record {
      few = omega arith;
      spans = tail a;
      summary = o.summary;
      places =
          more-places (set r.commands l.place (push-buf l.union)) pop-buf l.place (length (set r.commands l.place (push-buf l.union) ++ (pop-buf ∷ []))) ls
          (rw (counted, n) (omega (arith, p.0))) (rw n (omega (arith, p.0)))
          (set-places r.commands l.place (push-buf l.union) l.place ls (omega arith) p.2);
    }

some_more : (fs : List DepthFill) (f : DepthFill) → false ≡ is-empty (fs ++ (f ∷ []))
some_more [] f = refl
some_more (x ∷ fs) f = refl

fine-fill : (v : ℕ) (f : DepthFill) (id : ℕ) (r : Row) → Fine r → Fine (put-depth-fill v f id r)
unfolding put-depth-fill
fine-fill v f id r o = record { few = o.few; spans = o.spans; summary = some_more r.fills f; places = o.places }

-- spans of the parts
split-ok : (v : ℕ) (s : Span) → BoundedSpan s → All (PartOk BoundedSpan) (split v s)
unfolding split
split-ok v s g = go (leb (lowered v s.end) (raised v s.first)) refl
  where
    low : lowered v s.end ≤ s.end
    low = div-mul-le_self s.end v

    below : leb (lowered v s.end) (raised v s.first) ≡ false → raised v s.first < lowered v s.end
    below e = leb-false (lowered v s.end) (raised v s.first) e

    last : All (PartOk BoundedSpan) (keep (ltb (lowered v s.end) s.end) (regular (span (lowered v s.end) s.end)) [])
    last = all_keep (ltb (lowered v s.end) s.end) (regular (span (lowered v s.end) s.end)) (of-tiles (record { first = omega (arith, low, g.end); end = g.end })) nil

    go : (t : Bool) → leb (lowered v s.end) (raised v s.first) ≡ t
        → All (PartOk BoundedSpan) (cond t (regular s ∷ []) (around v s (raised v s.first) (lowered v s.end)))
    go true e = cons (of-tiles g) nil
    go false e =
        all_keep (ltb s.first (raised v s.first)) (regular (span s.first (raised v s.first)))
        (of-tiles (record { first = g.first; end = omega (arith, below e, low, g.end) }))
        (cons (of-buckets (record {
          first = omega (arith, div-le_self (raised v s.first) v, below e, low, g.end);
          end = omega (arith, div-le_self (lowered v s.end) v, low, g.end);
        })) last)

-- the refinement, operation by operation: c and d are the room of a row
pub refines : (c d : ℕ) → Follows Row Words row-ops word-ops (encode c d) Fine BoundedSpan
unfolding encode put-push-buf put-pop-buf
refines c d =
    record {
      renders = λ r o. refl;
      depths = λ r o. refl;
      levels = λ r o. refl;
      few = λ r o. o.few;
      deeper = λ r o h. omega arith;
      paints = λ s i a g r o. (puts c d r o (paint-fill s i a), fine-put (paint-fill s i a) s refl g r o);
      closes = λ s i a g r o. (puts c d r o (layer-fill s i a), fine-put (layer-fill s i a) s refl g r o);
      pushes = λ r o h. (pushes c d r (omega arith), fine-push r o h);
      pops = λ r o. (pops c d r o, fine-pop r.levels r o refl);
      fills = λ v s a id g r o. (fills c d v r o (record { buckets = s; attribute = a }) id, fine-fill v (record { buckets = s; attribute = a }) id r o);
      parts = split-ok;
    }

-- the words of the rows that puts make of the rules' rows are what the same puts make of the rows' words
pub refined : (c d v n : ℕ) → n ≤ 16 → (ps : List Put) → All (PutOk BoundedSpan) ps → (rows : List Row) → All Fine rows
    → (map (encode c d) (do-puts Row row-ops v n ps rows) ≡ do-puts Words word-ops v n ps (map (encode c d) rows)) × All Fine (do-puts Row row-ops v n ps rows)
refined c d v n m ps o rows f = follows-puts (refines c d) v n m o rows f

-- a reset's row
pub fresh-fine : Fine fresh-row
fresh-fine = record { few = omega arith; spans = nil; summary = refl; places = tt }

pub fresh-words : (k j : ℕ) → encode k j fresh-row ≡ words (replicate 54 0) (replicate (4 * k) 0) (replicate (2 * j) 0)
unfolding encode stack
fresh-words k j = rw (blank 48, blank (4 * k), blank (2 * j))
  where
    whole : (n : ℕ) → n - 0 ≡ n
    whole n = omega arith

    blank : (n : ℕ) → padded n [] ≡ replicate n 0
    blank n = padded-fits n [] (omega arith) ∙ ap (λ (m : ℕ). replicate m 0) (whole n)

-- what holds of every screen that steps make
pub record Built (s : Screen Row) : Type 0 where
  pub framed : Framed s.state
  pub fine : All Fine s.rows

-- Every step, refused or done: on the words of a screen's rows it has the answer of the rules, and gives the words of the rules' rows.
pub called : (c d : ℕ) (x : Step) (s : Screen Row) → Built s
    → (call Words word-ops x (screen-by (encode c d) s) ≡ answer-by (screen-by (encode c d)) (call Row row-ops x s)) × Built (call Row row-ops x s).value
called c d x s b =
    let r = follows-call (refines c d) x s (plan-ok s.state b.framed x (touched Row row-ops (length s.state.layers) 0 s.rows)) b.fine in
    (r.0, record { framed = call-framed Row row-ops x s b.framed; fine = r.1 })

-- .. and a reset
pub reset-built : (f : Frame) → good_viewport f.viewport ≡ true → Built (reset fresh-row f)
unfolding reset
reset-built f g = record { framed = reset-framed Row row-ops fresh-row f g; fine = all_replicate (rows_of f.viewport) fresh-row fresh-fine }
