-- Every row can be painted to its end: after as many done steps as it has depth fills and commands it has finished, and there are schedules that do so.
use Rattle.std.proofs.Common.{ℕ, zero, suc, ◌+◌, ◌≤◌, ◌<◌, le_refl, arith, ◌≡◌, refl, ◌∙◌, ap, subst, true, List, [], ◌∷◌, ◌++◌, length, get_or, ltb, eqb, le-ltb, eq-eqb, eqb-true, ltb-true, ltb-false}
use lib.ListN.{length-replicate}
use borrow.Author.Tests.{lt-leb, eqb-false}
use Rattle.rules.specs.Answers.{Done}
use Rattle.rules.specs.Rows.{fresh-row}
use Rattle.rules.specs.Plans.{buckets-across}
use Rattle.rules.specs.Painting.{Painter, Painted, begin}
use Rattle.rules.specs.Calls.{paints-on, Canvas, bucket-on, blank, begin-call, painter-of, paint-call}
use Rattle.rules_picture.specs.Turns.{Turn, turns, steps_of, next-step, has-finished, painted}
use Rattle.rules_picture.proofs.Cases.{by}
use Rattle.rules_picture.proofs.Turns.{ends, call-screen, call-paints, turns-screen, turns-paints, turns-count, by-turns, next-at, stays-finished, begun-is, begun-paints}

-- the depth fills and commands of row r
abbrev pub work : Canvas → ℕ → ℕ
work k r = length (get_or k.screen.rows r fresh-row).fills + length (get_or k.screen.rows r fresh-row).commands

-- enough done steps finish a row, whatever else is called between them
pub enough : (ts : List Turn) (k : Canvas) (r : ℕ) → r < length k.painters → work k r ≤ steps_of r (turns ts k).log → has-finished (turns ts k).canvas r ≡ true
unfolding has-finished
enough ts k r h m =
    let a = by-turns ts k k.screen r (painter-of k r) refl h refl in
    ap (λ (o : Painted). o.finished) (next-at (turns ts k).canvas k.screen r _ (turns-screen ts k) a.painter)
    ∙ ends (bucket-on k) k.screen.state.attrs (steps_of r (turns ts k).log) (get_or k.screen.rows r fresh-row) (painter-of k r) (omega arith)

-- a step with room for what it gives
abbrev next-turn : Canvas → ℕ → Turn
next-turn k r = record { row = r; room = length (next-step k r).pieces }

-- n such steps of row r
unfoldable pub solo : ℕ → ℕ → Canvas → List Turn
solo r zero k = []
solo r (suc n) k = next-turn k r ∷ solo r n (paint-call r (next-turn k r).room k).value.canvas

-- the rows before n, one after the other, each to its end
unfoldable pub in_order : ℕ → Canvas → List Turn
in_order zero k = []
in_order (suc n) k = in_order n k ++ solo n (work k n) (turns (in_order n k) k).canvas

next-done : (k : Canvas) (r : ℕ) → r < length k.screen.rows → paints-on k ≡ true → (paint-call r (length (next-step k r).pieces) k).number ≡ Done
unfolding paint-call
next-done k r h b =
    let m = length (next-step k r).pieces in
    rw (lt-leb (length k.screen.rows) r h, b, le-ltb m m (le_refl m))

solo-steps : (n r : ℕ) (k : Canvas) → r < length k.screen.rows → paints-on k ≡ true → steps_of r (turns (solo r n k) k).log ≡ n
unfolding solo turns steps_of
solo-steps zero r k h b = refl
solo-steps (suc n) r k h b =
    let m = length (next-step k r).pieces in
    let c = (paint-call r m k).value.canvas in
    let there : r < length c.screen.rows = rw (call-screen r m k) h in
    rw (eq-eqb r r refl, eq-eqb (paint-call r m k).number Done (next-done k r h b)) (ap suc (solo-steps n r c there (call-paints r m k ∙ b)))

pub turns-append : (ts us : List Turn) (k : Canvas) → (turns (ts ++ us) k).canvas ≡ (turns us (turns ts k).canvas).canvas
unfolding turns
turns-append [] us k = refl
turns-append (t ∷ ts) us k = turns-append ts us (paint-call t.row t.room k).value.canvas

order-finishes : (n : ℕ) (k : Canvas) → n ≤ length k.screen.rows → length k.painters ≡ length k.screen.rows → paints-on k ≡ true
    → (r : ℕ) → r < n → has-finished (turns (in_order n k) k).canvas r ≡ true
unfolding in_order
order-finishes zero k m e b r h = absurd (omega arith)
order-finishes (suc n) k m e b r h =
    let c = (turns (in_order n k) k).canvas in
    let s : c.screen ≡ k.screen = turns-screen (in_order n k) k in
    let l : length c.painters ≡ length k.painters = turns-count (in_order n k) k in
    rw (turns-append (in_order n k) (solo n (work k n) c) k)
    (by (eqb r n)
    (λ y.
    let q = eqb-true r n y in
    let on : n < length c.screen.rows = rw s (omega arith) in
    let j = solo-steps (work k n) n c on (turns-paints (in_order n k) k ∙ b) in
    let g : work c n ≤ steps_of n (turns (solo n (work k n) c) c).log = rw (j, s) (le_refl (work k n)) in
    rw q (enough (solo n (work k n) c) c n (omega arith) g))
    (λ d.
    let q = eqb-false r n d in
    stays-finished (solo n (work k n) c) c r (omega arith) (order-finishes n k (omega arith) e b r (ltn q))))
  where
    ltn : (r ≡ n → ⊥) → r < n
    ltn q = by (ltb r n) (λ y. ltb-true r n y) (λ z. let g = ltb-false r n z in absurd (q (omega arith)))

-- a schedule after which every row has finished
pub finishes : (k : Canvas) → (begin-call k).number ≡ Done → (r : ℕ) → r < length k.screen.rows
    → has-finished (painted (in_order (length k.screen.rows) (begin-call k).value) k).canvas r ≡ true
finishes k e r h = rw (begun-is k e) (order-finishes (length k.screen.rows) (record { screen = k.screen; begun = true; painters = blank k.screen })
    (le_refl (length k.screen.rows)) (length-replicate {A = Painter} (length k.screen.rows) (begin (buckets-across k.screen.state.frame))) (subst (λ (c : Canvas). paints-on c ≡ true) (begun-is k e) (begun-paints k e)) r h)
