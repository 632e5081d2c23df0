-- A fill over the words from the first bucket's own to the last's, and the groups above both worked out.
use Rattle.std.proofs.Common.{refl, ◌∙◌, arith, length}
use Rattle.depth.proofs.Sharing.{xor-within, own-kept, as-all}
use Rattle.depth.proofs.Mending.{Spots, spots, stored, stored-long, stored-at, mends-range, mends-bucket}
use Rattle.depth.proofs.minima.mend.Goals.{After-place_of-to, After-fill, then-first-last, else-first-last}
use Rattle.depth.proofs.minima.mend.Goals as goal

pub place_of-from-requires : goal.place_of-from-requires
place_of-from-requires c =
    let g = c.requires.group in
    let s = spots g.0 _ _ _ _ _ g.1 c.requires.range.0 c.requires.range.1 refl refl in
    record { group = (g.0, g.1, s.first-within) }

pub place_of-to-requires : goal.place_of-to-requires
place_of-to-requires c =
    let g = c.requires.group in
    let s = spots g.0 _ _ _ _ _ g.1 c.requires.range.0 c.requires.range.1 refl refl in
    record { group = (g.0, g.1, s.last-within) }

-- where both words stand
spots-of : (c : After-place_of-to) → Spots c.requires.group.0 (length c.args.minima.now) c.args.first c.args.end c.place_of-from.result c.place_of-to.result
spots-of c =
    let g = c.requires.group in
    spots g.0 _ _ _ _ _ g.1 c.requires.range.0 c.requires.range.1 (c.place_of-from.ensures g.0 g.1) (c.place_of-to.ensures g.0 g.1)

pub overflow_add-to : goal.overflow_add-to
overflow_add-to c = let s = spots-of c in omega (arith, s.within)

pub offset_bounds-minima-from : goal.offset_bounds-minima-from
offset_bounds-minima-from c = let s = spots-of c in omega (arith, s.ordered, s.within)

pub slice_bounds-fill-count : goal.slice_bounds-fill-count
slice_bounds-fill-count c = let s = spots-of c in omega (arith, s.ordered)

pub slice_bounds-fill-start : goal.slice_bounds-fill-start
slice_bounds-fill-start c = let s = spots-of c in omega (arith, s.ordered)

pub slice_bounds-fill-end : goal.slice_bounds-fill-end
slice_bounds-fill-end c = let s = spots-of c in omega (arith, s.within)

pub lift_to-requires-clause-group : goal.lift_to-requires-clause-group
lift_to-requires-clause-group c =
    let g = c.requires.group in
    let s = spots g.0 _ _ _ _ _ g.1 c.requires.range.0 c.requires.range.1 (c.place_of-from.ensures g.0 g.1) (c.place_of-to.ensures g.0 g.1) in (
      g.0,
      stored-long _ _ _ _ _ s.ordered s.within (c.fill.ensures.after (λ y h. h)) ∙ g.1,
      s.last-within,
      s.last-is,
      xor-within g.0 _ _ s.first-within s.last-within,
    )

pub lift_to-requires-clause-holds : goal.lift_to-requires-clause-holds
lift_to-requires-clause-holds c =
    let g = c.requires.group in
    let s = spots g.0 _ _ _ _ _ g.1 c.requires.range.0 c.requires.range.1 (c.place_of-from.ensures g.0 g.1) (c.place_of-to.ensures g.0 g.1) in
    stored-at _ _ _ _ _ s.ordered s.within (c.fill.ensures.after (λ y h. h)) _ s.ordered (omega arith)

pub lift-requires-clause-group : goal.lift-requires-clause-group
lift-requires-clause-group c =
    let g = c.requires.group in
    let s = spots g.0 _ _ _ _ _ g.1 c.requires.range.0 c.requires.range.1 (c.place_of-from.ensures g.0 g.1) (c.place_of-to.ensures g.0 g.1) in
    (g.0, c.if-first-last.auto.minima ∙ stored-long _ _ _ _ _ s.ordered s.within (c.fill.ensures.after (λ y h. h)) ∙ g.1, s.first-within, s.first-is)

pub lift-requires-clause-holds : goal.lift-requires-clause-holds
lift-requires-clause-holds c =
    let g = c.requires.group in
    let s = spots g.0 _ _ _ _ _ g.1 c.requires.range.0 c.requires.range.1 (c.place_of-from.ensures g.0 g.1) (c.place_of-to.ensures g.0 g.1) in
    let after = c.fill.ensures.after (λ y h. h) in
    let long = stored-long _ _ _ _ _ s.ordered s.within after ∙ g.1 in
    let at = stored-at _ _ _ _ _ s.ordered s.within after c.place_of-from.result (omega arith) s.ordered in
    elim c.if-first-last.branch [
      | then-first-last w ↦
          rw w.minima-is (own-kept g.0 _ _ _ _ long s.last-within (w.lift_to.ensures g.0 long) c.args.first _ s.first-within s.first-is ∙ at)
      | else-first-last w ↦ rw w.minima-is at
    ]

pub returns : goal.returns
returns c = λ k ws e m.
    let s = spots k _ _ _ _ _ e c.requires.range.0 c.requires.range.1 (c.place_of-from.ensures k e) (c.place_of-to.ensures k e) in
    let after = c.fill.ensures.after (λ y h. h) in
    let long = stored-long _ _ _ _ _ s.ordered s.within after ∙ e in
    let is = stored _ _ _ _ _ s.ordered s.within after ∙ rw (s.first-is, s.last-is) refl in
    c.lift.ensures k (c.if-first-last.auto.minima ∙ long)
    ∙ elim c.if-first-last.branch [
      | then-first-last w ↦
          rw w.minima-is (as-all k _ _ _ _ long s.last-within (w.lift_to.ensures k long) c.args.first s.first-within refl
          ∙ rw is (mends-range k _ ws _ _ _ e c.requires.range.0 m s.last-within))
      | else-first-last w ↦ rw (w.minima-is, is) (mends-bucket k _ ws _ _ _ e c.requires.range.0 m s.last-within w.if-first-last.false)
    ]
