-- A step that was done before a row was compacted is done after it: no row has more commands then, and open buffers and depth fills are as many.
use Rattle.std.proofs.Common.{ℕ, zero, suc, ◌+◌, ◌-◌, ◌≤◌, le_refl, arith, ◌≡◌, refl, sym, ◌∙◌, ap, Bool, true, false, Option, None, Some, List, [], ◌∷◌, length, length-append, length-set, set, get_or, ltb, eq-eqb, le-ltb, ltb-false}
use mathlib.Core.List.{foldl}
use Rattle.rules.specs.Lists.{change, times}
use Rattle.rules.specs.Answers.{first_of, Done, Deep, Ids, FullAttrs, FullRow, FullDepth}
use Rattle.rules.specs.Attributes.{attrs-full}
use Rattle.rules.specs.Spans.{Span}
use Rattle.rules.specs.Split.{Part, regular, buckets, split}
use Rattle.rules.specs.Commands.{Command, paint-fill, layer-fill, push-buf, pop-buf, DepthFill}
use Rattle.rules.specs.Rows.{Row, Level, row-ops, fresh-row, include, adds, put-command, put-push-buf, pop-levels, put-pop-buf, put-depth-fill}
use Rattle.rules.specs.Plans.{bucket, buckets-across, Step, Act, paint, opaque, touch, close, pop, Put, Plan, plan}
use Rattle.rules.specs.Steps.{Screen, put-part, ensure, do-act, do-puts, done, row-passes, passes, refusal, perform, touched, call}
use Rattle.rules.specs.Compacted.{compact, compact-screen}
use Rattle.rules.proofs.All.{neither}
use Rattle.rules_picture.specs.Compacted.{Room-kept}
use Rattle.rules_picture.proofs.Stepped.{call-done}
use Rattle.rules.proofs.laws.Answers.{settle-number}
use Rattle.rules_picture.proofs.Compacted.{less-room}

-- the row q has no more commands than r, and as many depth fills and open buffers
record Less (q r : Row) : Type 0 where
  commands : length q.commands ≤ length r.commands
  fills : length q.fills ≡ length r.fills
  levels : length q.levels ≡ length r.levels

include-length : (o : Option Span) (ls : List Level) → length (include o ls) ≡ length ls
include-length None ls = refl
include-length (Some s) [] = refl
include-length (Some s) (l ∷ ls) = refl

put-less : (c : Command) (q r : Row) → Less q r → Less (put-command c q) (put-command c r)
unfolding put-command
put-less c q r h =
    let k = h.commands in
    record {
      commands = rw (length-append q.commands (c ∷ []), length-append r.commands (c ∷ [])) (omega arith);
      fills = h.fills;
      levels = rw (include-length (adds c) q.levels, include-length (adds c) r.levels) h.levels;
    }

push-less : (q r : Row) → Less q r → Less (put-push-buf q) (put-push-buf r)
unfolding put-push-buf
push-less q r h =
    let k = h.commands in
    record {
      commands = rw (length-append q.commands (push-buf None ∷ []), length-append r.commands (push-buf None ∷ [])) (omega arith);
      fills = h.fills;
      levels = ap suc h.levels;
    }

levels-less : (ls ms : List Level) (q r : Row) → length ls ≡ length ms → Less q r → Less (pop-levels ls q) (pop-levels ms r)
levels-less [] [] q r e h = h
levels-less [] (m ∷ ms) q r e h = absurd (omega arith)
levels-less (l ∷ ls) [] q r e h = absurd (omega arith)
levels-less (l ∷ ls) (m ∷ ms) q r e h =
    let k = h.commands in
    record {
      commands =
          rw (
            length-append (set q.commands l.place (push-buf l.union)) (pop-buf ∷ []),
            length-append (set r.commands m.place (push-buf m.union)) (pop-buf ∷ []),
            length-set q.commands l.place (push-buf l.union),
            length-set r.commands m.place (push-buf m.union),
          ) (omega arith);
      fills = h.fills;
      levels = omega arith;
    }

depth-less : (w : ℕ) (f : DepthFill) (id : ℕ) (q r : Row) → Less q r → Less (put-depth-fill w f id q) (put-depth-fill w f id r)
unfolding put-depth-fill
depth-less w f id q r h = record {
  commands = h.commands;
  fills = rw (length-append q.fills (f ∷ []), length-append r.fills (f ∷ [])) (ap (λ (m : ℕ). m + 1) h.fills);
  levels = h.levels;
}

pushes-less : (k : ℕ) (q r : Row) → Less q r → Less (times k put-push-buf q) (times k put-push-buf r)
pushes-less zero q r h = h
pushes-less (suc k) q r h = pushes-less k (put-push-buf q) (put-push-buf r) (push-less q r h)

ensure-less : (n : ℕ) (q r : Row) → Less q r → Less (ensure Row row-ops n q) (ensure Row row-ops n r)
ensure-less n q r h = rw h.levels (pushes-less (n - length r.levels) q r h)

module _ (w n : ℕ) where
  parts-less : (i id : ℕ) (ps : List Part) (q r : Row) → Less q r → Less (foldl (put-part Row row-ops w i id) q ps) (foldl (put-part Row row-ops w i id) r ps)
  parts-less i id [] q r h = h
  parts-less i id (regular s ∷ ps) q r h = parts-less i id ps _ _ (put-less (paint-fill s None i) q r h)
  parts-less i id (buckets b ∷ ps) q r h = parts-less i id ps _ _ (depth-less w (record { buckets = b; attribute = i }) id q r h)

  act-less : (a : Act) (q r : Row) → Less q r → Less (do-act Row row-ops w n a q) (do-act Row row-ops w n a r)
  unfolding do-act put-pop-buf
  act-less (paint s a i) q r h = put-less (paint-fill s a i) (ensure Row row-ops n q) (ensure Row row-ops n r) (ensure-less n q r h)
  act-less (opaque s i id) q r h = parts-less i id (split w s) (ensure Row row-ops n q) (ensure Row row-ops n r) (ensure-less n q r h)
  act-less touch q r h = ensure-less n q r h
  act-less (close s a i) q r h = put-less (layer-fill s a i) q r h
  act-less pop q r h = levels-less q.levels r.levels q r h.levels h

-- row by row
data AllLess : List Row → List Row → Type 0 where
  no-rows : AllLess [] []
  and-row : {q r : Row} {qs rs : List Row} → Less q r → AllLess qs rs → AllLess (q ∷ qs) (r ∷ rs)

change-less : (w n : ℕ) (a : Act) (i : ℕ) {qs rs : List Row} → AllLess qs rs → AllLess (change (do-act Row row-ops w n a) i qs) (change (do-act Row row-ops w n a) i rs)
change-less w n a i no-rows = no-rows
change-less w n a zero (and-row h hs) = and-row (act-less w n a _ _ h) hs
change-less w n a (suc i) (and-row h hs) = and-row h (change-less w n a i hs)

puts-less : (w n : ℕ) (ps : List Put) (qs rs : List Row) → AllLess qs rs → AllLess (do-puts Row row-ops w n ps qs) (do-puts Row row-ops w n ps rs)
unfolding do-puts
puts-less w n [] qs rs h = h
puts-less w n (p ∷ ps) qs rs h = puts-less w n ps _ _ (change-less w n p.act p.row h)

touched-same : (n i : ℕ) {qs rs : List Row} → AllLess qs rs → touched Row row-ops n i qs ≡ touched Row row-ops n i rs
unfolding touched
touched-same n i no-rows = refl
touched-same n i (and-row h hs) = rw (h.levels, touched-same n (suc i) hs)

renders-fit : (c i : ℕ) {qs rs : List Row} → AllLess qs rs → row-passes Row row-ops (λ (r : Row). length r.commands) c i rs ≡ false
    → row-passes Row row-ops (λ (r : Row). length r.commands) c i qs ≡ false
renders-fit c i no-rows e = e
renders-fit c zero (and-row {q = q} {r = r} h hs) e = let k = h.commands in let m = ltb-false c (length r.commands) e in le-ltb c (length q.commands) (omega arith)
renders-fit c (suc i) (and-row h hs) e = renders-fit c i hs e

depths-fit : (d i : ℕ) {qs rs : List Row} → AllLess qs rs → row-passes Row row-ops (λ (r : Row). length r.fills) d i rs ≡ false
    → row-passes Row row-ops (λ (r : Row). length r.fills) d i qs ≡ false
depths-fit d i no-rows e = e
depths-fit d zero (and-row h hs) e = rw h.fills e
depths-fit d (suc i) (and-row h hs) e = depths-fit d i hs e

renders-pass : (c : ℕ) (ps : List Put) {qs rs : List Row} → AllLess qs rs → passes Row row-ops (λ (r : Row). length r.commands) c ps rs ≡ false
    → passes Row row-ops (λ (r : Row). length r.commands) c ps qs ≡ false
unfolding passes
renders-pass c [] h e = refl
renders-pass c (p ∷ ps) h e = let k = neither _ _ e in rw (renders-fit c p.row h k.0, renders-pass c ps h k.1)

depths-pass : (d : ℕ) (ps : List Put) {qs rs : List Row} → AllLess qs rs → passes Row row-ops (λ (r : Row). length r.fills) d ps rs ≡ false
    → passes Row row-ops (λ (r : Row). length r.fills) d ps qs ≡ false
unfolding passes
depths-pass d [] h e = refl
depths-pass d (p ∷ ps) h e = let k = neither _ _ e in rw (depths-fit d p.row h k.0, depths-pass d ps h k.1)

all-pass : (a b c d e : Bool) → first_of ((a, Deep) ∷ (b, Ids) ∷ (c, FullAttrs) ∷ (d, FullRow) ∷ (e, FullDepth) ∷ []) ≡ Done → (d ≡ false) × (e ≡ false)
all-pass true b c d e q = absurd (omega arith)
all-pass false true c d e q = absurd (omega arith)
all-pass false false true d e q = absurd (omega arith)
all-pass false false false true e q = absurd (omega arith)
all-pass false false false false true q = absurd (omega arith)
all-pass false false false false false q = (refl, refl)

refusal-less : (p : Plan) (t u : Screen Row) → t.state ≡ u.state → AllLess t.rows u.rows → p.refused ≡ Done → refusal Row row-ops p u ≡ Done → refusal Row row-ops p t ≡ Done
unfolding refusal
refusal-less p t u s h r e =
    let j = eq-eqb p.refused Done r in
    let k : first_of
    ((ltb 16 (length p.layers), Deep)
    ∷ (ltb 1048577 p.next, Ids)
    ∷ (attrs-full p.attrs, FullAttrs)
    ∷ (passes Row row-ops (λ (r : Row). length r.commands) u.state.frame.c p.puts u.rows, FullRow)
    ∷ (passes Row row-ops (λ (r : Row). length r.fills) u.state.frame.d p.puts u.rows, FullDepth)
    ∷ []) ≡ Done = rw j at e in
    let l = all-pass _ _ _ (passes Row row-ops (λ (r : Row). length r.commands) u.state.frame.c p.puts u.rows)
    (passes Row row-ops (λ (r : Row). length r.fills) u.state.frame.d p.puts u.rows) k in
    let a = renders-pass u.state.frame.c p.puts h l.0 in
    let b = depths-pass u.state.frame.d p.puts h l.1 in
    rw (j, s, a, b) (rw (l.0, l.1) at k)

-- a step done on a screen is done on one with fewer commands
call-less : (x : Step) (t u : Screen Row) → t.state ≡ u.state → AllLess t.rows u.rows → (call Row row-ops x u).number ≡ Done → (call Row row-ops x t).number ≡ Done
unfolding call perform done
call-less x t u s h e =
    let p = plan x (touched Row row-ops (length u.state.layers) 0 u.rows) u.state in
    let q : refusal Row row-ops p (done Row row-ops p u) ≡ Done = sym (settle-number (refusal Row row-ops p (done Row row-ops p u)) u (done Row row-ops p u)) ∙ e in
    let same : plan x (touched Row row-ops (length t.state.layers) 0 t.rows) t.state ≡ p = rw (s, touched-same (length u.state.layers) 0 h) in
    let rows = puts-less (bucket u.state.frame) (length p.layers) p.puts t.rows u.rows h in
    let r : refusal Row row-ops p (done Row row-ops p t) ≡ Done =
    refusal-less p (done Row row-ops p t) (done Row row-ops p u) (rw s) (rw s rows) (call-done x u e).0 q in
    settle-number (refusal Row row-ops (plan x (touched Row row-ops (length t.state.layers) 0 t.rows) t.state) (done Row row-ops (plan x (touched Row row-ops (length t.state.layers) 0 t.rows) t.state) t)) t _
    ∙ ap (λ (y : Plan). refusal Row row-ops y (done Row row-ops y t)) same
    ∙ r

same-less : (rs : List Row) → AllLess rs rs
same-less [] = no-rows
same-less (r ∷ rs) = and-row (record { commands = le_refl _; fills = refl; levels = refl }) (same-less rs)

set-less : (rs : List Row) (i : ℕ) (q : Row) → Less q (get_or rs i fresh-row) → AllLess (set rs i q) rs
set-less [] i q h = no-rows
set-less (r ∷ rs) zero q h = and-row h (same-less rs)
set-less (r ∷ rs) (suc i) q h = and-row (record { commands = le_refl _; fills = refl; levels = refl }) (set-less rs i q h)

pub room-kept : Room-kept
room-kept x i s e =
    let w = bucket s.state.frame in
    let n = buckets-across s.state.frame in
    let r = get_or s.rows i fresh-row in
    call-less x (compact-screen i s) s refl
    (set-less s.rows i (compact w n s.state.attrs r) (record { commands = less-room w n s.state.attrs r; fills = refl; levels = refl })) e
