-- Each refusal is the rules' answer, in the order of the tests; past them the row is one group.
use Rattle.std.proofs.Common.{sym, ◌∙◌}
use Rattle.depth.proofs.Asking.{asked-backward, asked-past, asked-none, asked-group, asked-found}
use Rattle.depth.proofs.minima.is_hidden.Goals.{then-end-first-via-then-end-first, then-end-first-via-else-end-first+then-buckets-end}
use Rattle.depth.proofs.minima.is_hidden.Goals as goal

pub returns-then-end-first : goal.returns-then-end-first
returns-then-end-first c =
    let fit = sym c.has_room.ensures ∙ c.if-not-has_room.false in
    elim c.then-end-first.branch [
      | then-end-first-via-then-end-first w ↦ asked-backward _ _ _ _ fit w.if-end-first.true
      | then-end-first-via-else-end-first+then-buckets-end w ↦ asked-past _ _ _ _ fit w.if-buckets-end.true
    ]

pub returns-then-end-first-2 : goal.returns-then-end-first-2
returns-then-end-first-2 c =
    let fit = sym c.has_room.ensures ∙ c.if-not-has_room.false in
    asked-none _ _ _ _ fit c.if-end-first.false c.if-buckets-end.false c.if-end-first-2.true

pub is_group_hidden-requires : goal.is_group_hidden-requires
is_group_hidden-requires c =
    let fit = sym c.has_room.ensures ∙ c.if-not-has_room.false in
    (_, asked-group _ _ _ c.args.draw_id fit c.if-end-first.false c.if-buckets-end.false c.if-end-first-2.false)

pub returns : goal.returns
returns c =
    let fit = sym c.has_room.ensures ∙ c.if-not-has_room.false in
    asked-found _ _ _ _ fit c.if-end-first.false c.if-buckets-end.false _
    (c.is_group_hidden.ensures _ (asked-group _ _ _ c.args.draw_id fit c.if-end-first.false c.if-buckets-end.false c.if-end-first-2.false))
