-- A built row has room for what it holds: at most C commands and D depth fills.
use Rattle.std.proofs.Common.{ℕ, zero, suc, ◌≤◌, ◌<◌, arith, ◌≡◌, refl, sym, ◌∙◌, Bool, true, false, List, [], ◌∷◌, length, get_or, replicate, ltb, eqb, eqb-true, eq-eqb, ltb-false}
use lib.ListN.{get_or-replicate, length-replicate}
use Rattle.sizes.specs.Sizes.{most-layers}
use Rattle.rules.specs.Answers.{first_of, Done, Deep, Ids, FullAttrs, FullRow, FullDepth}
use Rattle.rules.specs.Boxes.{rows_of}
use Rattle.rules.specs.Attributes.{attrs-full}
use Rattle.rules.specs.Rows.{Row, fresh-row, row-ops}
use Rattle.rules.specs.Plans.{Frame, bucket, Step, Put, Plan, plan}
use Rattle.rules.specs.Steps.{Screen, reset, done, row-passes, passes, refusal, perform, touched, call}
use Rattle.rules.proofs.All.{never, neither}
use Rattle.rules.proofs.laws.Answers.{settle-number}
use Rattle.rules.proofs.laws.Changes.{puts-on, puts-length, untouched}
use Rattle.rules_picture.specs.Built.{Built, no_step, then}
use Rattle.rules_picture.proofs.Cases.{by}
use Rattle.rules_picture.proofs.Stepped.{call-done}
use Rattle.rules_figures.proofs.Screens.{frame-is}

record Fits (f : Frame) (r : Row) : Type 0 where
  commands : length r.commands ≤ f.c
  fills : length r.fills ≤ f.d

-- a row that the limit n is asked of, and one that something is put on, hold at most n
module _ (count : Row → ℕ) (n : ℕ) where
  row-least : (i : ℕ) (rs : List Row) → i < length rs → row-passes Row row-ops count n i rs ≡ false → count (get_or rs i fresh-row) ≤ n
  row-least i [] h e = absurd (omega arith)
  row-least zero (r ∷ rs) h e = ltb-false n (count r) e
  row-least (suc i) (r ∷ rs) h e = row-least i rs (omega arith) e

  put-least : (i : ℕ) (ps : List Put) (rs : List Row) → i < length rs → puts-on i ps ≡ true → passes Row row-ops count n ps rs ≡ false → count (get_or rs i fresh-row) ≤ n
  unfolding puts-on passes
  put-least i [] rs h y e = never (sym y)
  put-least i (p ∷ ps) rs h y e =
      let k = neither (row-passes Row row-ops count n p.row rs) (passes Row row-ops count n ps rs) e in
      by (eqb p.row i)
      (λ z. row-least i rs h (rw (eqb-true p.row i z) at k.0))
      (λ z. put-least i ps rs h (rw z at y) k.1)

-- what the limits of a done step say of its rows
rooms_of : (a b c d e : Bool) → first_of ((a, Deep) ∷ (b, Ids) ∷ (c, FullAttrs) ∷ (d, FullRow) ∷ (e, FullDepth) ∷ []) ≡ Done → (d ≡ false) × (e ≡ false)
rooms_of true b c d e q = absurd (omega arith)
rooms_of false true c d e q = absurd (omega arith)
rooms_of false false true d e q = absurd (omega arith)
rooms_of false false false true e q = absurd (omega arith)
rooms_of false false false false true q = absurd (omega arith)
rooms_of false false false false false q = (refl, refl)

abbrev commands-of : Row → ℕ
commands-of r = length r.commands

abbrev fills-in : Row → ℕ
fills-in r = length r.fills

call-rooms : (p : Plan) (t : Screen Row) → p.refused ≡ Done → refusal Row row-ops p t ≡ Done
    → (passes Row row-ops commands-of t.state.frame.c p.puts t.rows ≡ false) × (passes Row row-ops fills-in t.state.frame.d p.puts t.rows ≡ false)
unfolding refusal
call-rooms p t r e =
    let j = eq-eqb p.refused Done r in
    let k : first_of
    ((ltb most-layers (length p.layers), Deep)
    ∷ (ltb 1048577 p.next, Ids)
    ∷ (attrs-full p.attrs, FullAttrs)
    ∷ (passes Row row-ops commands-of t.state.frame.c p.puts t.rows, FullRow)
    ∷ (passes Row row-ops fills-in t.state.frame.d p.puts t.rows, FullDepth)
    ∷ []) ≡ Done = rw j at e in
    rooms_of _ _ _ _ _ k

abbrev AllFit : Screen Row → Type 0
AllFit s = (i : ℕ) → i < length s.rows → Fits s.state.frame (get_or s.rows i fresh-row)

-- a done step leaves each row within its room: it has put something on the row, or left it as it was
step-fits : (x : Step) (s : Screen Row) → (call Row row-ops x s).number ≡ Done → AllFit s → AllFit (call Row row-ops x s).value
unfolding call perform done
step-fits x s e h =
    let p = plan x (touched Row row-ops (length s.state.layers) 0 s.rows) s.state in
    let t = done Row row-ops p s in
    let (j, q) = call-done x s e in
    let z : refusal Row row-ops p t ≡ Done = sym (settle-number (refusal Row row-ops p t) s t) ∙ e in
    let (c, d) = call-rooms p t j z in
    rw q (λ i k. by (puts-on i p.puts)
    (λ y. record { commands = put-least commands-of s.state.frame.c i p.puts t.rows k y c; fills = put-least fills-in s.state.frame.d i p.puts t.rows k y d })
    (λ n.
    let m : i < length s.rows = rw (puts-length Row row-ops (bucket s.state.frame) (length p.layers) p.puts s.rows) at k in
    rw (untouched Row row-ops (bucket s.state.frame) (length p.layers) i fresh-row p.puts s.rows n) (h i m)))

built-fits : {xs : List Step} {s u : Screen Row} → Built xs s u → AllFit s → AllFit u
built-fits no_step h = h
built-fits (then {x = x} {s = s} e b) h = built-fits b (step-fits x s e h)

reset-fits : (f : Frame) → AllFit (reset fresh-row f)
unfolding reset
reset-fits f i h =
    let e : get_or (replicate (rows_of f.viewport) fresh-row) i fresh-row ≡ fresh-row = get_or-replicate (rows_of f.viewport) i fresh-row fresh-row (rw (length-replicate {A = Row} (rows_of f.viewport) fresh-row) at h) in
    rw e (record { commands = omega arith; fills = omega arith })

-- each row of a screen built from the reset of f
pub rows-fit : (f : Frame) (xs : List Step) (u : Screen Row) → Built xs (reset fresh-row f) u → (i : ℕ) → i < length u.rows
    → (length (get_or u.rows i fresh-row).commands ≤ f.c) × (length (get_or u.rows i fresh-row).fills ≤ f.d)
rows-fit f xs u b i h =
    let k = built-fits b (reset-fits f) i h in
    let e = frame-is f b in
    (rw e at k.commands, rw e at k.fills)
