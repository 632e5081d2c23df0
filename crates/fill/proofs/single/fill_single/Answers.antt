-- Its number is 0, and it is done as any fill.
use Rattle.std.proofs.Common.{◌≡◌, ℕ, ◌+◌, sym, arith}
use Rattle.screen.proofs.ScreenLaws.{bounds}
use Rattle.fill.proofs.Numbers.{right-lengths, passing}
use Rattle.fill.proofs.Done.{zero-says, room-for-attr, done-is, done-some, rows-asked, splits}
use Rattle.fill.proofs.single.fill_single.Goals as goal

-- a segment is there
some : {a b : ℕ} → a + 1 ≡ b → a ≡ b → ⊥
some h e = omega (arith, h, e)

pub put_paint_attrs-requires : goal.put_paint_attrs-requires
put_paint_attrs-requires c =
    let z = zero-says _ _ _ _ c.in-Some.ensures.1 in
    (room-for-attr _ _ _ _ z (some c.requires.one), (right-lengths _ _ _ z.first).1)

pub fill_alone-requires : goal.fill_alone-requires
fill_alone-requires c =
    let z = zero-says _ _ _ _ c.in-Some.ensures.1 in
    record {
      split = splits c.args.screen.now c.args.paints.now c.args.draw _ c.in-Some.ensures.0;
      ready = rw (← c.requires.one) at (rows-asked _ _ _ _ z (some c.requires.one) c.in-Some.ensures.0);
    }

pub take_fill-requires : goal.take_fill-requires
take_fill-requires c =
    let z = zero-says _ _ _ _ c.in-Some.ensures.1 in
    record { ids = z.ids; attrs = ((bounds c.args.screen.now (passing _ _ _ c.args.draw z.first).screen).paints, omega arith) }

pub returns-clause-done : goal.returns-clause-done
returns-clause-done c =
    let z = zero-says _ _ _ _ c.in-Some.ensures.1 in
    λ e. done-is _ _ _ _ (sym c.in-Some.ensures.1)
    (done-some _ _ _ _ z (some c.requires.one) c.take_fill.ensures c.in-Some.ensures.0 (rw c.requires.one at c.fill_alone.ensures.rows)
    (rw c.attrs_of-attrs.ensures at c.put_paint_attrs.ensures))
