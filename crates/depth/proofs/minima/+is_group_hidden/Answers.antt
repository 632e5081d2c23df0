-- By the range, by the group's minimum, by the range again where it has the whole group, and by the halves.
use Rattle.std.proofs.Common.{◌≡◌, ◌∙◌, sym, ◌<◌, ◌/◌, ◌+◌, ◌*◌, arith, length}
use Rattle.rules.specs.Minima.{half}
use Rattle.depth.proofs.Groups.{group-some, halved, is-zero, smallest, hidden-none, hidden-all, shown-one, shown-whole, left-says-yes, left-says-no}
use Rattle.depth.proofs.minima.+is_group_hidden.Goals.{else-first-eq0-via-then-first-eq0+else-middle-end, else-first-eq0-via-else-first-eq0}
use Rattle.depth.proofs.minima.+is_group_hidden.Goals as goal

pub returns-then-end-first : goal.returns-then-end-first
returns-then-end-first t c = λ k e. hidden-none k _ _ _ _ c.if-end-first.true

pub bounds-group-0 : goal.bounds-group-0
bounds-group-0 t c = group-some c.requires.0 _ c.requires.1

pub returns-then-draw_id-group : goal.returns-then-draw_id-group
returns-then-draw_id-group t c = λ k e. hidden-all k _ _ _ _ (group-some k _ e) c.if-draw_id-group.true

pub split_at-requires : goal.split_at-requires
split_at-requires t c = group-some c.requires.0 _ c.requires.1

pub returns-then-is_empty : goal.returns-then-is_empty
returns-then-is_empty t c = λ k e.
    shown-one k _ _ _ _ c.if-end-first.false (group-some k _ e) c.if-draw_id-group.false
    (smallest k _ (c.split_at.ensures.back_len ∙ e) (is-zero _ _ c.is_empty.ensures c.if-is_empty.true))

pub returns-then-middle-end : goal.returns-then-middle-end
returns-then-middle-end t c = λ k e.
    let w = halved k _ _ _ e c.split_at.ensures.back_len c.is_empty.ensures c.if-is_empty.false in
    shown-whole k _ _ _ _ c.if-end-first.false (group-some k _ e) c.if-draw_id-group.false _ w c.if-first-eq0.true c.if-middle-end.true

pub is_group_hidden-requires : goal.is_group_hidden-requires
is_group_hidden-requires t c =
    let below = c.split_at.ensures in
    let w = halved c.requires.0 _ _ _ c.requires.1 below.back_len c.is_empty.ensures c.if-is_empty.false in
    let left = c.split_at-2.ensures in
    let twice = w.twice in
    (omega (arith, left.front_len, left.back_len, below.back_len), (w.next, left.front_len ∙ w.halves))

pub is_group_hidden-requires-then-is_group_hidden : goal.is_group_hidden-requires-then-is_group_hidden
is_group_hidden-requires-then-is_group_hidden t c =
    let below = c.split_at.ensures in
    let w = halved c.requires.0 _ _ _ c.requires.1 below.back_len c.is_empty.ensures c.if-is_empty.false in
    let left = c.split_at-2.ensures in
    let twice = w.twice in
    let halves = w.halves in
    let right : length c.split_at-2.result.1.now ≡ half w.next = omega (arith, left.back_len) in
    (omega (arith, left.back_len, below.back_len), (w.next, right))

pub returns-then-is_group_hidden : goal.returns-then-is_group_hidden
returns-then-is_group_hidden t c = λ k e.
    let below = c.split_at.ensures in
    let w = halved k _ _ _ e below.back_len c.is_empty.ensures c.if-is_empty.false in
    let left = c.split_at-2.ensures in
    let twice = w.twice in
    let halves = w.halves in
    let long-l : length c.split_at-2.result.0.now ≡ half w.next = left.front_len ∙ w.halves in
    let long-r : length c.split_at-2.result.1.now ≡ half w.next = omega (arith, left.back_len) in
    let part : c.args.first ≡ 0 → c.args.end < 2 * (length c.split_at.result.1.now / 2 / 2 + 1) = elim c.else-first-eq0.branch [
      | else-first-eq0-via-then-first-eq0+else-middle-end w ↦ λ z. w.if-middle-end.false
      | else-first-eq0-via-else-first-eq0 w ↦ λ z. absurd (w.if-first-eq0.false z)
    ] in
    left-says-yes k _ _ _ _ c.if-end-first.false (group-some k _ e) c.if-draw_id-group.false _ w part _ _ _ below.back left.front left.back
    (sym c.if-is_group_hidden.true ∙ c.is_group_hidden.ensures w.next long-l ∙ rw c.min.ensures)
    _
    (c.is_group_hidden-then-is_group_hidden.ensures w.next long-r ∙ rw (c.saturating_sub.ensures, c.saturating_sub-then-is_group_hidden.ensures))

pub returns-else-is_group_hidden : goal.returns-else-is_group_hidden
returns-else-is_group_hidden t c = λ k e.
    let below = c.split_at.ensures in
    let w = halved k _ _ _ e below.back_len c.is_empty.ensures c.if-is_empty.false in
    let left = c.split_at-2.ensures in
    let long-l : length c.split_at-2.result.0.now ≡ half w.next = left.front_len ∙ w.halves in
    let part : c.args.first ≡ 0 → c.args.end < 2 * (length c.split_at.result.1.now / 2 / 2 + 1) = elim c.else-first-eq0.branch [
      | else-first-eq0-via-then-first-eq0+else-middle-end w ↦ λ z. w.if-middle-end.false
      | else-first-eq0-via-else-first-eq0 w ↦ λ z. absurd (w.if-first-eq0.false z)
    ] in
    c.if-is_group_hidden.false
    ∙ left-says-no k _ _ _ _ c.if-end-first.false (group-some k _ e) c.if-draw_id-group.false _ w part _ _ _ below.back left.front left.back
    (sym c.if-is_group_hidden.false ∙ c.is_group_hidden.ensures w.next long-l ∙ rw c.min.ensures)
