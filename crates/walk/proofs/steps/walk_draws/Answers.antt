-- The list of fills on its part of what is lent is the run of the recording's draws on the whole.
use Rattle.std.proofs.Common.{rules, arith, length, ◌≤◌}
use Rattle.screen.specs.Lent.{whole}
use Rattle.file.specs.Held.{held, edition-of}
use Rattle.walk.proofs.Lists.{Lent}
use Rattle.file.proofs.Heldness.{paint_count}
use Rattle.walk.proofs.Draws.{known, walked}
use Rattle.walk.proofs.steps.walk_draws.Goals as goal

pub fill_known-done-requires-clause-known : goal.fill_known-done-requires-clause-known
fill_known-done-requires-clause-known c =
    let r = held c.args.file.now in
    let y = c.requires.ready in
    let lists : Lent r c.paints.result.now c.segments.result.now = record { paints = c.paints.ensures.read; paints-long = c.paints.ensures.long; segments = c.segments.ensures.read; segments-long = c.segments.ensures.long } in
    let few : length r.paints ≤ 4096 = rw (paint_count c.args.file.now.layout c.args.file.now.words.now) y.fits.paints.few in
    rw c.edition.ensures
    (λ i p q. known r (edition-of c.args.file.now) c.draws.result.now _ _ lists c.draws.ensures.read few y.good y.order i (omega (arith, q, c.requires.ends)))

pub returns-in-Ok-clause-walked : goal.returns-in-Ok-clause-walked
returns-in-Ok-clause-walked c =
    let r = held c.args.file.now in
    let lists : Lent r c.paints.result.now c.segments.result.now = record { paints = c.paints.ensures.read; paints-long = c.paints.ensures.long; segments = c.segments.ensures.read; segments-long = c.segments.ensures.long } in
    let e =
    walked r (edition-of c.args.file.now) c.draws.result.now _ _ lists c.draws.ensures.read c.args.a c.args.b (whole c.args.screen.now c.args.lent.now) c.requires.order c.requires.ends _
    (rw c.edition.ensures at c.in-Ok.ensures.filled) in
    search (rules, e)

pub returns-in-Err-clause-walked : goal.returns-in-Err-clause-walked
returns-in-Err-clause-walked c =
    let r = held c.args.file.now in
    let lists : Lent r c.paints.result.now c.segments.result.now = record { paints = c.paints.ensures.read; paints-long = c.paints.ensures.long; segments = c.segments.ensures.read; segments-long = c.segments.ensures.long } in
    let e =
    walked r (edition-of c.args.file.now) c.draws.result.now _ _ lists c.draws.ensures.read c.args.a c.args.b (whole c.args.screen.now c.args.lent.now) c.requires.order c.requires.ends _
    (rw c.edition.ensures at c.in-Err.ensures.filled) in
    search (rules, e)
