-- The sections follow each other, each after its count; the first that does not fit ends the reading, and words after the last are refused.
use Rattle.std.proofs.Common.{arith, sym, ◌∙◌}
use Rattle.std.proofs.lemmas.Result.{err_from_is_err_and}
use Rattle.file.proofs.Laid.{unheaded, begin, more, lacking, longer, exact}
use Rattle.file.proofs.form.read_form.Goals as goal

pub returns-then-not-is_headed : goal.returns-then-not-is_headed
returns-then-not-is_headed c = unheaded _ _ (sym c.is_headed.ensures ∙ c.if-not-is_headed.true)

pub returns-in_err-viewport : goal.returns-in_err-viewport
returns-in_err-viewport c =
    let p = err_from_is_err_and c.from_residual.result c.from_residual.ensures.1 in
    rw (p.1, p.2) (lacking (begin _ _ (sym c.is_headed.ensures ∙ c.if-not-is_headed.false)) (rw c.head.ensures at c.in_err-viewport.ensures))

pub returns-in_err-paints : goal.returns-in_err-paints
returns-in_err-paints c =
    let p = err_from_is_err_and c.from_residual-in_err-paints.result c.from_residual-in_err-paints.ensures.1 in
    rw (p.1, p.2) (lacking (more (begin _ _ (sym c.is_headed.ensures ∙ c.if-not-is_headed.false)) (rw c.head.ensures at c.in_ok-viewport.ensures)) c.in_err-paints.ensures)

pub returns-in_err-segments : goal.returns-in_err-segments
returns-in_err-segments c =
    let p = err_from_is_err_and c.from_residual-in_err-segments.result c.from_residual-in_err-segments.ensures.1 in
    rw (p.1, p.2) (lacking (more (more (begin _ _ (sym c.is_headed.ensures ∙ c.if-not-is_headed.false)) (rw c.head.ensures at c.in_ok-viewport.ensures)) c.in_ok-paints.ensures) c.in_err-segments.ensures)

pub returns-in_err-draws : goal.returns-in_err-draws
returns-in_err-draws c =
    let p = err_from_is_err_and c.from_residual-in_err-draws.result c.from_residual-in_err-draws.ensures.1 in
    rw (p.1, p.2) (lacking (more (more (more (begin _ _ (sym c.is_headed.ensures ∙ c.if-not-is_headed.false)) (rw c.head.ensures at c.in_ok-viewport.ensures)) c.in_ok-paints.ensures) c.in_ok-segments.ensures) (rw c.draw.ensures.same at c.in_err-draws.ensures))

pub returns-in_err-layers : goal.returns-in_err-layers
returns-in_err-layers c =
    let p = err_from_is_err_and c.from_residual-in_err-layers.result c.from_residual-in_err-layers.ensures.1 in
    let draws = more (more (more (more (begin _ _ (sym c.is_headed.ensures ∙ c.if-not-is_headed.false)) (rw c.head.ensures at c.in_ok-viewport.ensures)) c.in_ok-paints.ensures) c.in_ok-segments.ensures) (rw c.draw.ensures.same at c.in_ok-draws.ensures) in
    rw (p.1, p.2) (lacking draws (rw c.layer.ensures.same at c.in_err-layers.ensures))

pub returns-in_err-nodes : goal.returns-in_err-nodes
returns-in_err-nodes c =
    let p = err_from_is_err_and c.from_residual-in_err-nodes.result c.from_residual-in_err-nodes.ensures.1 in
    let draws = more (more (more (more (begin _ _ (sym c.is_headed.ensures ∙ c.if-not-is_headed.false)) (rw c.head.ensures at c.in_ok-viewport.ensures)) c.in_ok-paints.ensures) c.in_ok-segments.ensures) (rw c.draw.ensures.same at c.in_ok-draws.ensures) in
    rw (p.1, p.2) (lacking (more draws (rw c.layer.ensures.same at c.in_ok-layers.ensures)) c.in_err-nodes.ensures)

pub returns-in_err-root : goal.returns-in_err-root
returns-in_err-root c =
    let p = err_from_is_err_and c.from_residual-in_err-root.result c.from_residual-in_err-root.ensures.1 in
    let draws = more (more (more (more (begin _ _ (sym c.is_headed.ensures ∙ c.if-not-is_headed.false)) (rw c.head.ensures at c.in_ok-viewport.ensures)) c.in_ok-paints.ensures) c.in_ok-segments.ensures) (rw c.draw.ensures.same at c.in_ok-draws.ensures) in
    rw (p.1, p.2) (lacking (more (more draws (rw c.layer.ensures.same at c.in_ok-layers.ensures)) c.in_ok-nodes.ensures) c.in_err-root.ensures)

pub returns-then-words-g : goal.returns-then-words-g
returns-then-words-g c =
    let draws = more (more (more (more (begin _ _ (sym c.is_headed.ensures ∙ c.if-not-is_headed.false)) (rw c.head.ensures at c.in_ok-viewport.ensures)) c.in_ok-paints.ensures) c.in_ok-segments.ensures) (rw c.draw.ensures.same at c.in_ok-draws.ensures) in
    longer (more (more (more draws (rw c.layer.ensures.same at c.in_ok-layers.ensures)) c.in_ok-nodes.ensures) c.in_ok-root.ensures) (λ e. omega arith)

pub returns : goal.returns
returns c =
    let draws = more (more (more (more (begin _ _ (sym c.is_headed.ensures ∙ c.if-not-is_headed.false)) (rw c.head.ensures at c.in_ok-viewport.ensures)) c.in_ok-paints.ensures) c.in_ok-segments.ensures) (rw c.draw.ensures.same at c.in_ok-draws.ensures) in
    exact (more (more (more draws (rw c.layer.ensures.same at c.in_ok-layers.ensures)) c.in_ok-nodes.ensures) c.in_ok-root.ensures) c.if-words-g.false
