use Rattle.std.proofs.Common.{refl, ap, arith, rules}
use Rattle.text.specs.Texts.{Text}
use Rattle.text.proofs.Leaving.{written-first}
use Rattle.text.proofs.listing.print_first.Goals as goal

pub returns : goal.returns
returns g c =
    let e = written-first (g.T.Print.printed c.args.item.now) c.print.ensures (omega arith) c.args.out.now refl c.requires.within in
    let n = ap (λ (t : Text). t.at) e in
    let bs = ap (λ (t : Text). t.bytes) e in
    record { value = n; out_after = search (rules, bs) }
