use Rattle.std.proofs.Common.{ℕ, arith, refl, ◌∙◌, Bool, rules}
use Rattle.std.proofs.lemmas.Iterator.{YieldsList-from_range}
use Rattle.std.proofs.lemmas.Iterator.Search.{all_from_yields_List}
use Rattle.text.specs.Places.{is_some}
use Rattle.text.specs.Listed.{depth-fill-at}
use Rattle.text.proofs.Runs.{all_below}
use Rattle.text.proofs.rows.are_depths.Goals as goal

pub returns : goal.returns
returns c =
    let test : ℕ → Bool = λ i. is_some (depth-fill-at c.args.buckets c.args.depth_cmds.now i) in
    all_from_yields_List test _ _ _ c.all.ensures.ran (YieldsList-from_range 0 c.args.n c.args.n refl (omega arith)) (λ x b q k. search rules)
    ∙ all_below test c.args.n
