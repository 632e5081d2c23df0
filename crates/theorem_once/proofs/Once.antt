-- Two answers of one call at the same words are the same.
use Rattle.std.proofs.Common.{◌≡◌, refl, ap, sym, ◌∙◌, ℕ, List, Ok, Err, Result}
use Rattle.sizes.specs.declared.answers.Refusal.{Refusal}
use Rattle.sizes.specs.Refusals.{number_of}
use Rattle.sizes.proofs.Refusals.{not_done, result_of, refusal_there}
use Rattle.rules.specs.Answers.{Answer, answer}
use Rattle.row.specs.Words.{Words}
use Rattle.screen.specs.declared.Screen.{Screen}
use Rattle.fill.specs.declared.list.Stopped.{Stopped}
use Rattle.fill.specs.Fills.{FillLent}
use Rattle.fill.specs.Lists.{FillsOut, told}
use Rattle.screen.specs.Depths.{Depths, depths_in}
use Rattle.paint.specs.declared.canvas.stored.Canvas.{Canvas}
use Rattle.paint.specs.declared.rows.Stopped as rows
use Rattle.paint.specs.InOrder.{RowsOut, rows_told}

pub once : {A B : Type 0} {x y : A} → x ≡ y → (call : A → Answer B) {r s : ℕ} {u v : B} → answer r u ≡ call x → answer s v ≡ call y → (r ≡ s) × (u ≡ v)
once {A} {B} same call e f =
    let both = e ∙ ap call same ∙ sym f in
    (ap (λ (a : Answer B). a.number) both, ap (λ (a : Answer B). a.value) both)

-- a number is one refusal's
one-refusal : (r q : Refusal) → number_of r ≡ number_of q → r ≡ q
one-refusal r q e =
    let f : ◌≡◌ {A = Result ℕ Refusal} (Err r) (Err q) = sym (refusal_there 0 r) ∙ ap (λ (n : ℕ). result_of n 0) e ∙ refusal_there 0 q in
    ap (λ (x : Result ℕ Refusal). elim x [ Ok _ ↦ r | Err z ↦ z ]) f

same-stopped : (s t : Stopped) → s.done ≡ t.done → s.refusal ≡ t.refusal → s ≡ t
same-stopped s t e f =
    let made : ℕ → Refusal → Stopped = λ n r. record { done = n; refusal = r } in
    ap (λ (n : ℕ). made n s.refusal) e ∙ ap (made t.done) f

-- what is told of a list of fills has one result
told-same : (n m : ℕ) (r q : Result Unit Stopped) (u v : FillLent) → told n r u ≡ told m q v → (r ≡ q) × (u ≡ v)
told-same n m (Ok _) (Ok _) u v e = (refl, ap (λ (o : FillsOut). o.value) e)
told-same n m (Ok _) (Err t) u v e = absurd (not_done t.refusal (sym (ap (λ (o : FillsOut). o.number) e)))
told-same n m (Err s) (Ok _) u v e = absurd (not_done s.refusal (ap (λ (o : FillsOut). o.number) e))
told-same n m (Err s) (Err t) u v e =
    let a = one-refusal s.refusal t.refusal (ap (λ (o : FillsOut). o.number) e) in
    (ap Err (same-stopped s t (ap (λ (o : FillsOut). o.done) e) a), ap (λ (o : FillsOut). o.value) e)

pub told-once : {A : Type 0} {x y : A} → x ≡ y → (call : A → FillsOut) (n m : ℕ) {r q : Result Unit Stopped} {u v : FillLent}
    → told n r u ≡ call x → told m q v ≡ call y → (r ≡ q) × (u ≡ v)
told-once same call n m {r} {q} {u} {v} e f = told-same n m r q u v (e ∙ ap call same ∙ sym f)

-- what is left of it, beside the same lists
pub left-once : (u v : FillLent) (p q s t : List ℕ) → u ≡ v → p ≡ q → s ≡ t
    → ◌≡◌ {A = Screen × Words × List ℕ × List ℕ × List ℕ} (u.screen, u.words, u.paint-attrs, p, s) (v.screen, v.words, v.paint-attrs, q, t)
left-once u v p q s t e f g = rw (e, f, g)

-- what is told of rows has one result
same-rows : (s t : rows.Stopped) → s.done ≡ t.done → s.pieces ≡ t.pieces → s.refusal ≡ t.refusal → s ≡ t
same-rows s t e f g =
    let made : ℕ → ℕ → Refusal → rows.Stopped = λ n p r. record { done = n; pieces = p; refusal = r } in
    ap (λ (n : ℕ). made n s.pieces s.refusal) e ∙ ap (λ (p : ℕ). made t.done p s.refusal) f ∙ ap (made t.done t.pieces) g

abbrev Left : RowsOut → Depths × List ℕ × List ℕ × List ℕ
Left o = (o.depth, o.painting, o.list, o.ends)

pub rows-once : (n : ℕ) (r q : Result ℕ rows.Stopped) (c b : Canvas) (l m e f : List ℕ) → rows_told n r c l e ≡ rows_told n q b m f
    → (r ≡ q) × (◌≡◌ {A = Depths × List ℕ × List ℕ × List ℕ} (depths_in c.depth, c.painting.now, l, e) (depths_in b.depth, b.painting.now, m, f))
rows-once n (Ok p) (Ok o) c b l m e f h = (ap Ok (ap (λ (o : RowsOut). o.pieces) h), ap Left h)
rows-once n (Ok p) (Err t) c b l m e f h = absurd (not_done t.refusal (sym (ap (λ (o : RowsOut). o.number) h)))
rows-once n (Err s) (Ok o) c b l m e f h = absurd (not_done s.refusal (ap (λ (o : RowsOut). o.number) h))
rows-once n (Err s) (Err t) c b l m e f h =
    let a = one-refusal s.refusal t.refusal (ap (λ (o : RowsOut). o.number) h) in
    (ap Err (same-rows s t (ap (λ (o : RowsOut). o.done) h) (ap (λ (o : RowsOut). o.pieces) h) a), ap Left h)
