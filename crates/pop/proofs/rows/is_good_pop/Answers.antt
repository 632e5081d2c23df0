use Rattle.std.proofs.Common.{refl, sym, ◌∙◌}
use Rattle.row.specs.Words.{words}
use Rattle.pop.proofs.Judging.{place-within, tag_at, pop-other, pop-bad}
use Rattle.pop.proofs.rows.is_good_pop.Goals as goal

pub returns-then-levels-open : goal.returns-then-levels-open
returns-then-levels-open c = pop-other c.args.c c.args.d c.args.open _ c.if-levels-open.true

pub bounds-render_cmds-state : goal.bounds-render_cmds-state
bounds-render_cmds-state c =
    place-within _ c.args.d _ (words c.args.state.now c.args.render_cmds.now c.args.depth_cmds.now) (sym c.is_good_row.ensures ∙ c.if-is_good_row.true)
    c.if-levels-open.false refl refl c.requires.some c.requires.render_cmds

pub returns-then-is_good_row : goal.returns-then-is_good_row
returns-then-is_good_row c = tag_at _ _ _ _ (sym c.is_good_row.ensures ∙ c.if-is_good_row.true) c.if-levels-open.false refl refl

pub returns-else-is_good_row : goal.returns-else-is_good_row
returns-else-is_good_row c =
    c.if-is_good_row.false ∙ pop-bad c.args.c c.args.d c.args.open _ c.if-levels-open.false (sym c.is_good_row.ensures ∙ c.if-is_good_row.false)
