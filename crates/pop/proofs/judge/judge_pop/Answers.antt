use Rattle.std.proofs.Common.{sym, ◌∙◌, arith}
use Rattle.std.proofs.lemmas.Bool.Decides.{nat_tests}
use Rattle.std.proofs.lemmas.Result.{err_from_is_err_and}
use Rattle.sizes.proofs.Refusals.{not_done}
use Rattle.pop.specs.Named.{pop_lent_of}
use Rattle.pop.proofs.Numbers.{tests, none-left, lengths-facts}
use Rattle.pop.proofs.judge.judge_pop.Goals as goal

pub returns-in_err-judge_screen-clause-number : goal.returns-in_err-judge_screen-clause-number
returns-in_err-judge_screen-clause-number c =
    let p = err_from_is_err_and c.from_residual.result c.from_residual.ensures.1 in
    let t = tests c.args.screen (pop_lent_of c.args.rows.now c.args.layers.now c.args.layer_attrs.now) c.args.list.now in
    rw (p.1, p.2) (grind (arith, nat_tests, not_done))

pub returns-then-not-is_good_lengths-clause-number : goal.returns-then-not-is_good_lengths-clause-number
returns-then-not-is_good_lengths-clause-number c =
    let t = tests c.args.screen (pop_lent_of c.args.rows.now c.args.layers.now c.args.layer_attrs.now) c.args.list.now in
    grind (arith, nat_tests)

pub returns-then-screen-eq0-clause-number : goal.returns-then-screen-eq0-clause-number
returns-then-screen-eq0-clause-number c =
    let l = pop_lent_of c.args.rows.now c.args.layers.now c.args.layer_attrs.now in
    let t = tests c.args.screen l c.args.list.now in
    let n = none-left c.args.screen l c.args.list.now c.if-screen-eq0.true in
    grind (arith, nat_tests)

pub judge_open-requires : goal.judge_open-requires
judge_open-requires c =
    record {
      known = c.requires.known;
      screen = sym c.in_ok-judge_screen.ensures;
      table = (lengths-facts _ _ _ _ (sym c.is_good_lengths.ensures ∙ c.if-not-is_good_lengths.false)).0;
      some = omega (arith, c.if-screen-eq0.false);
    }

pub returns-clause-number : goal.returns-clause-number
returns-clause-number c =
    let t = tests c.args.screen (pop_lent_of c.args.rows.now c.args.layers.now c.args.layer_attrs.now) c.args.list.now in
    grind (arith, nat_tests)
