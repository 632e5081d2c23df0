-- Rows painted by turns: a row that has finished comes to what it comes to alone.
use Rattle.std.proofs.Common.{ℕ, zero, suc, ◌+◌, ◌-◌, ◌<◌, arith, ◌≡◌, refl, sym, ◌∙◌, ap, true, false, ◌&&◌, List, [], ◌∷◌, length, get_or, eqb, eqb-true}
use native.Mathlib.Nat.{sub-zero}
use borrow.Author.Tests.{eqb-false}
use Rattle.rules.specs.Answers.{Done}
use Rattle.rules.specs.Attributes.{Attrs}
use Rattle.rules.specs.Rows.{Row, fresh-row}
use Rattle.rules.specs.Plans.{bucket, buckets-across}
use Rattle.rules.specs.Steps.{Screen}
use Rattle.rules.specs.Painting.{Painter, Painted, begin, paint-step, received}
use Rattle.rules.specs.Calls.{Canvas, bucket-on, begin-call, painter-of, paint-call}
use Rattle.rules_picture.specs.Turns.{Turn, turns, steps_of, next-step, has-finished}
use Rattle.rules_picture.specs.Colours.{Colours, drawn, step-drawn, turns-drawn}
use Rattle.rules_picture.proofs.Cases.{by}
use Rattle.rules_picture.proofs.Comes.{steps-drawn, same-nesting}
use Rattle.rules_picture.proofs.Turns.{painter-on, step_counts, step-ended, ended-late, not-ended, call-refused, call-given, call-screen, call-count, call-own, call-other, next-at, painted-screen, begun-is, begun-there, begun-painter, begun-by-turns}

module _ {B : Type 0} (c : Colours B) (tile : ℕ) where
  module _ (w : ℕ) (attrs : Attrs) where
    -- steps after the end draw nothing
    step-idle : (r : Row) (p : Painter) (bs : List B) → (paint-step w attrs r p).finished ≡ true → step-drawn c tile p (paint-step w attrs r p) bs ≡ bs
    unfolding received drawn
    step-idle r p bs e = rw (step-ended w attrs r p e) (same-nesting c w attrs tile p.nesting bs)

    idle-comes : (k : ℕ) (r : Row) (p : Painter) (bs : List B) → (paint-step w attrs r p).finished ≡ true → steps-drawn c w attrs tile k r p bs ≡ bs
    unfolding steps-drawn
    idle-comes zero r p bs e = refl
    idle-comes (suc k) r p bs e =
        let q : (paint-step w attrs r p).painter ≡ p = ap (λ (o : Painted). o.painter) (step-ended w attrs r p e) in
        ap (steps-drawn c w attrs tile k r (paint-step w attrs r p).painter) (step-idle r p bs e)
        ∙ ap (λ (x : Painter). steps-drawn c w attrs tile k r x bs) q
        ∙ idle-comes k r p bs e

    all-come : (k : ℕ) (r : Row) (p : Painter) (bs : List B) → (paint-step w attrs r (painter-on w attrs k r p)).finished ≡ true
        → steps-drawn c w attrs tile k r p bs ≡ steps-drawn c w attrs tile (length r.fills + length r.commands - p.steps) r p bs
    unfolding steps-drawn painter-on
    all-come zero r p bs e =
        let h = ended-late w attrs r p e in
        let z : length r.fills + length r.commands - p.steps ≡ 0 = omega arith in
        rw z
    all-come (suc k) r p bs e = by (paint-step w attrs r p).finished
        (λ y.
        let h = ended-late w attrs r p y in
        let z : length r.fills + length r.commands - p.steps ≡ 0 = omega arith in
        idle-comes (suc k) r p bs y ∙ rw z)
        (λ n.
        let h = not-ended w attrs r p n in
        let q = (paint-step w attrs r p).painter in
        let m = step_counts w attrs r p n in
        let z : length r.fills + length r.commands - p.steps ≡ suc (length r.fills + length r.commands - q.steps) = omega arith in
        rw z (all-come k r q (step-drawn c tile p (paint-step w attrs r p) bs) e))

  -- what the calls of row r draw is what as many steps of it draw alone
  abbrev Comes-alone : Screen Row → ℕ → Painter → List Turn → Canvas → Type 0
  Comes-alone s r p ts k =
      (bs : List B) → turns-drawn c r tile ts k bs ≡ steps-drawn c (bucket s.state.frame) s.state.attrs tile (steps_of r (turns ts k).log) (get_or s.rows r fresh-row) p bs

  other-comes : (s : Screen Row) (r : ℕ) (p : Painter) (t : Turn) (ts : List Turn) (k : Canvas) → (eqb t.row r && eqb (paint-call t.row t.room k).number Done) ≡ false
      → Comes-alone s r p ts (paint-call t.row t.room k).value.canvas → Comes-alone s r p (t ∷ ts) k
  unfolding turns-drawn turns steps_of
  other-comes s r p t ts k e a bs = rw e (a bs)

  own-comes : (s : Screen Row) (r : ℕ) (p : Painter) (t : Turn) (ts : List Turn) (k : Canvas) → k.screen ≡ s → painter-of k r ≡ p → t.row ≡ r → eqb t.row r ≡ true
      → eqb (paint-call t.row t.room k).number Done ≡ true
      → Comes-alone s r (paint-step (bucket s.state.frame) s.state.attrs (get_or s.rows r fresh-row) p).painter ts (paint-call t.row t.room k).value.canvas
      → Comes-alone s r p (t ∷ ts) k
  unfolding turns-drawn turns steps_of steps-drawn
  own-comes s r p t ts k e q i y d a bs =
      let o = paint-step (bucket s.state.frame) s.state.attrs (get_or s.rows r fresh-row) p in
      let v : (paint-call t.row t.room k).value.result ≡ o = (call-given t.row t.room k d).0 ∙ ap (next-step k) i ∙ next-at k s r p e q in
      let same : step-drawn c tile (painter-of k r) (paint-call t.row t.room k).value.result bs ≡ step-drawn c tile p o bs =
      ap (λ (x : Painter). step-drawn c tile x (paint-call t.row t.room k).value.result bs) q ∙ ap (λ (x : Painted). step-drawn c tile p x bs) v in
      rw (y, d) (ap (turns-drawn c r tile ts (paint-call t.row t.room k).value.canvas) same ∙ a (step-drawn c tile p o bs))

  by-turns-comes : (ts : List Turn) (k : Canvas) (s : Screen Row) (r : ℕ) (p : Painter) → k.screen ≡ s → r < length k.painters → painter-of k r ≡ p → Comes-alone s r p ts k
  by-turns-comes [] k s r p e h q = λ bs. unfold turns-drawn turns steps_of steps-drawn in refl
  by-turns-comes (t ∷ ts) k s r p e h q =
      let g = paint-call t.row t.room k in
      let rest : (x : Painter) → painter-of g.value.canvas r ≡ x → Comes-alone s r x ts g.value.canvas =
      λ x m. by-turns-comes ts g.value.canvas s r x (call-screen t.row t.room k ∙ e) (rw (call-count t.row t.room k) h) m in
      by (eqb t.row r)
      (λ y. by (eqb g.number Done)
      (λ d.
      let i = eqb-true t.row r y in
      let there : t.row < length k.painters = rw i h in
      let m : painter-of g.value.canvas r ≡ (paint-step (bucket s.state.frame) s.state.attrs (get_or s.rows r fresh-row) p).painter =
      ap (painter-of g.value.canvas) (sym i) ∙ call-own t.row t.room k there d ∙ ap (λ (j : ℕ). (next-step k j).painter) i ∙ ap (λ (o : Painted). o.painter) (next-at k s r p e q) in
      own-comes s r p t ts k e q i y d (rest _ m))
      (λ d.
      let (z, _, _) = call-refused t.row t.room k d in
      other-comes s r p t ts k (rw (y, d)) (rest p (ap (λ (x : Canvas). painter-of x r) z ∙ q))))
      (λ n. other-comes s r p t ts k (rw n) (rest p (call-other t.row t.room k r (eqb-false t.row r n) ∙ q)))

  -- A row that has finished comes to what it comes to when it is painted alone to its end.
  pub finished-comes : (ts : List Turn) (k : Canvas) (r : ℕ) → (begin-call k).number ≡ Done → r < length k.screen.rows
      → has-finished (turns ts (begin-call k).value).canvas r ≡ true → (bs : List B)
      → turns-drawn c r tile ts (begin-call k).value bs
      ≡ (let row = get_or k.screen.rows r fresh-row in
      steps-drawn c (bucket-on k) k.screen.state.attrs tile (length row.fills + length row.commands) row (begin (buckets-across k.screen.state.frame)) bs)
  unfolding has-finished
  finished-comes ts k r e h f bs =
      let a = begun-by-turns ts k r e h in
      let o = turns ts (begin-call k).value in
      let row = get_or k.screen.rows r fresh-row in
      let fin = sym (ap (λ (x : Painted). x.finished) (next-at o.canvas k.screen r _ (painted-screen ts k e) a.painter)) ∙ f in
      let p = begin (buckets-across k.screen.state.frame) in
      by-turns-comes ts (begin-call k).value k.screen r p (ap (λ (x : Canvas). x.screen) (begun-is k e)) (begun-there k r e h) (begun-painter k r e h) bs
      ∙ all-come (bucket-on k) k.screen.state.attrs (steps_of r o.log) row p bs fin
      ∙ ap (λ (n : ℕ). steps-drawn c (bucket-on k) k.screen.state.attrs tile n row p bs) (sub-zero (length row.fills + length row.commands))
