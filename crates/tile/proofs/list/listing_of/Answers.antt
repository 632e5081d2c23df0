use Rattle.std.proofs.Common.{◌≡◌, ap, arith, refl}
use Rattle.tile.specs.Telling.{Line}
use Rattle.tile.proofs.Listing.{listed-none, with-line}
use Rattle.tile.proofs.list.listing_of.Goals as goal

pub loop-i-init : goal.loop-i-init
loop-i-init c = listed-none _

pub loop-i-preserved : goal.loop-i-preserved
loop-i-preserved c =
    let e = ap (λ (l : Line). l.standing) c.line_at.ensures in
    rw (c.with_line-listing.ensures.from, c.with_line-listing.ensures.count, e)
    (with-line c.args.lines.now c.loop-i.i _ _ c.loop-i.invariant _ _ refl refl)

pub returns-clause-from : goal.returns-clause-from
returns-clause-from c = omega (arith, c.loop-i.invariant.low)

pub returns-clause-listed : goal.returns-clause-listed
returns-clause-listed c =
    let e : c.loop-i.i ≡ c.args.n = omega arith in
    rw (← e) c.loop-i.invariant.listed

pub returns-clause-count : goal.returns-clause-count
returns-clause-count c =
    let e : c.loop-i.i ≡ c.args.n = omega arith in
    rw (← e) c.loop-i.invariant.counted
