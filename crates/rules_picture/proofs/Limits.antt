-- What the limits leave of a done step. Assumes nothing.
use Rattle.std.proofs.Common.{ℕ, arith, ◌≡◌, refl, Bool, cond, true, false, [], ◌∷◌, length, ltb, eqb, eqb-true, eq-eqb}
use Rattle.sizes.specs.Sizes.{most-layers}
use Rattle.rules.specs.Answers.{first_of, Done, Deep, Ids, FullAttrs, FullRow, FullDepth}
use Rattle.rules.specs.Attributes.{attrs-full}
use Rattle.rules.specs.Rows.{RowOps}
use Rattle.rules.specs.Plans.{Step, Plan, plan}
use Rattle.rules.specs.Steps.{Screen, done, passes, refusal, perform, touched, call}
use Rattle.rules_picture.proofs.Cases.{by}
use Rattle.rules_picture.proofs.Stepped.{call-carried}

-- what the limits leave of a done step
pub record Limits (p : Plan) : Type 0 where
  pub deep : ltb most-layers (length p.layers) ≡ false
  pub ids : ltb 1048577 p.next ≡ false
  pub attrs : attrs-full p.attrs ≡ false

-- the smallest number that refuses a plan on rows that are never full
abbrev pub limit : Plan → ℕ
limit p =
    cond (eqb p.refused Done)
    (first_of ((ltb most-layers (length p.layers), Deep) ∷ (ltb 1048577 p.next, Ids) ∷ (attrs-full p.attrs, FullAttrs) ∷ []))
    p.refused

limits_of : (a b c d e : Bool) → first_of ((a, Deep) ∷ (b, Ids) ∷ (c, FullAttrs) ∷ (d, FullRow) ∷ (e, FullDepth) ∷ []) ≡ Done → (a ≡ false) × (b ≡ false) × (c ≡ false)
limits_of true b c d e q = absurd (omega arith)
limits_of false true c d e q = absurd (omega arith)
limits_of false false true d e q = absurd (omega arith)
limits_of false false false d e q = (refl, refl, refl)

pub call-limits : {R : Type 0} (ops : RowOps R) (x : Step) (s : Screen R) → (call R ops x s).number ≡ Done → Limits (plan x (touched R ops (length s.state.layers) 0 s.rows) s.state)
unfolding call perform refusal
call-limits {R} ops x s e =
    let p = plan x (touched R ops (length s.state.layers) 0 s.rows) s.state in
    let t = done R ops p s in
    let n = refusal R ops p t in
    let q : n ≡ Done = by (eqb n Done) (λ y. eqb-true n Done y) (λ z. rw z at e) in
    let j = eq-eqb p.refused Done (call-carried ops x s e).0 in
    let k : first_of
    ((ltb most-layers (length p.layers), Deep)
    ∷ (ltb 1048577 p.next, Ids)
    ∷ (attrs-full p.attrs, FullAttrs)
    ∷ (passes R ops ops.renders t.state.frame.c p.puts t.rows, FullRow)
    ∷ (passes R ops ops.depths t.state.frame.d p.puts t.rows, FullDepth)
    ∷ []) ≡ Done = rw j at q in
    let l = limits_of _ _ _
    (passes R ops ops.renders t.state.frame.c p.puts t.rows)
    (passes R ops ops.depths t.state.frame.d p.puts t.rows) k in
    record { deep = l.0; ids = l.1; attrs = l.2 }
