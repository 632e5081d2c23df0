-- A group is one bucket's, or its halves are made before its top.
use Rattle.std.proofs.Common.{◌≡◌, ◌∙◌, arith, length}
use Rattle.rules.specs.Minima.{half}
use Rattle.depth.proofs.Groups.{group-some, halved, is-zero, made-one, made-two, top-first}
use Rattle.depth.proofs.minima.+make_group.Goals as goal

pub split_at_mut-top-requires : goal.split_at_mut-top-requires
split_at_mut-top-requires t c = group-some c.requires.0 _ c.requires.1

pub returns-then-is_empty : goal.returns-then-is_empty
returns-then-is_empty t c = λ k e.
    let below = c.split_at_mut-top.ensures in
    made-one k _ _ _ _ below.front_len (below.back_len ∙ e) (is-zero _ _ c.is_empty.ensures c.if-is_empty.true)
    (c.unwrap_or.ensures ∙ top-first c.args.words.now _ (c.copied.ensures ∙ c.first.ensures.value))

pub make_group-requires : goal.make_group-requires
make_group-requires t c =
    let below = c.split_at_mut-top.ensures in
    let w = halved c.requires.0 _ _ _ c.requires.1 below.back_len c.is_empty.ensures c.if-is_empty.false in
    let left = c.split_at_mut-left.ensures in
    let twice = w.twice in
    (omega (arith, left.front_len, left.back_len, below.back_len), (w.next, left.front_len ∙ w.halves))

pub make_group-requires-2 : goal.make_group-requires-2
make_group-requires-2 t c =
    let below = c.split_at_mut-top.ensures in
    let w = halved c.requires.0 _ _ _ c.requires.1 below.back_len c.is_empty.ensures c.if-is_empty.false in
    let left = c.split_at_mut-left.ensures in
    let twice = w.twice in
    let halves = w.halves in
    let right : length c.split_at_mut-left.result.1.now ≡ half w.next = omega (arith, left.back_len) in
    (omega (arith, left.back_len, below.back_len), (w.next, right))

pub bounds-left-0 : goal.bounds-left-0
bounds-left-0 t c =
    let below = c.split_at_mut-top.ensures in
    let w = halved c.requires.0 _ _ _ c.requires.1 below.back_len c.is_empty.ensures c.if-is_empty.false in
    let some = group-some w.next (length c.split_at_mut-left.result.0.now) (c.split_at_mut-left.ensures.front_len ∙ w.halves) in
    omega (arith, c.make_group.auto.group)

pub returns : goal.returns
returns t c = λ k e.
    let below = c.split_at_mut-top.ensures in
    let w = halved k _ _ _ e below.back_len c.is_empty.ensures c.if-is_empty.false in
    let left = c.split_at_mut-left.ensures in
    let twice = w.twice in
    let halves = w.halves in
    let long-l : length c.split_at_mut-left.result.0.now ≡ half w.next = left.front_len ∙ w.halves in
    let long-r : length c.split_at_mut-left.result.1.now ≡ half w.next = omega (arith, left.back_len) in
    let some = group-some w.next _ long-l in
    made-two k _ w _ c.make_group.new.group c.make_group-2.new.group c.args.words.now _ _ below.front_len c.min-middle.ensures
    (omega (arith, c.make_group.auto.group))
    (omega (arith, c.make_group-2.auto.group))
    c.min.ensures
    (c.make_group.ensures w.next long-l ∙ rw c.split_at.ensures.front)
    (c.make_group-2.ensures w.next long-r ∙ rw c.split_at.ensures.back)
