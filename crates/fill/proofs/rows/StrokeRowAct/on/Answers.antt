-- A row that has its layers gets one command, which is what drawing puts there (`drawn-once`); any other goes by `push_fill`.
use Rattle.std.proofs.Common.{ℕ, ◌≡◌, sym, ap, ◌∙◌, Bool, true}
use Rattle.rules.specs.Commands.{paint-fill}
use Rattle.row.specs.Row.{held}
use Rattle.row.specs.Words.{Words, word, put_command}
use Rattle.row.specs.Acts.{unsplit}
use Rattle.span.specs.Spans.{tiles}
use Rattle.fill.specs.Filling.{draws}
use Rattle.fill.specs.declared.rows.Stroke.{Stroke}
use Rattle.fill.proofs.RowsLaws.{drawn-once, draws-grow}
use Rattle.fill.proofs.rows.StrokeRowAct.on.Goals as goal

once : {way split : ℕ} (a : Stroke way split) (w : Words) → word 5 w ≡ a.job.layers → {b s : Bool} → s ≡ a.job.eligible → b ≡ unsplit s a.stretch.alpha → b ≡ true
    → draws a.job (tiles a.stretch.tiles) a.stretch.alpha w ≡ put_command (paint-fill (tiles a.stretch.tiles) a.stretch.alpha a.job.attr) w
once a w h q e t = drawn-once _ _ _ _ _ w h _ _ (ap (λ (x : Bool). unsplit x a.stretch.alpha) (sym q) ∙ sym e ∙ t)

pub push_paint-requires : goal.push_paint-requires
push_paint-requires g c = (c.requires.0.0, rw (once c.args.self (held c.args.row.now) c.if-row-job.true c.requires.0.2.0 c.is_unsplit.ensures c.if-is_unsplit.true) at c.requires.1)

pub returns-then-row-job-clause-row : goal.returns-then-row-job-clause-row
returns-then-row-job-clause-row g c = c.push_paint.ensures.row ∙ sym (once c.args.self _ c.if-row-job.true c.requires.0.2.0 c.is_unsplit.ensures c.if-is_unsplit.true)

pub returns-then-row-job-clause-grown : goal.returns-then-row-job-clause-grown
returns-then-row-job-clause-grown g c =
    rw (c.push_paint.ensures.row ∙ sym (once c.args.self _ c.if-row-job.true c.requires.0.2.0 c.is_unsplit.ensures c.if-is_unsplit.true)) (draws-grow c.args.self.job _ _ _ c.requires.0.1 c.requires.1)

pub returns-clause-grown : goal.returns-clause-grown
returns-clause-grown g c = rw (rw c.requires.0.2.0 at c.push_fill.ensures.row) (draws-grow c.args.self.job _ _ _ c.requires.0.1 c.requires.1)
