use Rattle.std.proofs.Common.{ℕ, arith, refl, ◌∙◌, Bool, rules}
use Rattle.std.proofs.lemmas.Iterator.{YieldsList-from_range}
use Rattle.std.proofs.lemmas.Iterator.Search.{all_from_yields_List}
use Rattle.row.specs.Arena.{sizes, row_at}
use Rattle.text.specs.Printed.{screen_words}
use Rattle.text.specs.Listed.{good_row}
use Rattle.text.proofs.Runs.{all_below}
use Rattle.text.proofs.listing.ScreenText.are_good_rows.Goals as goal

pub returns : goal.returns
returns c =
    let test : ℕ → Bool = λ i. good_row c.args.self.now.screen.c c.args.self.now.screen.d c.args.buckets (row_at (sizes c.args.self.now.screen.c c.args.self.now.screen.d) i (screen_words c.args.self.now)) in
    all_from_yields_List test _ _ _ c.all.ensures.ran (YieldsList-from_range 0 c.args.m c.args.m refl (omega arith)) (λ x b q k. search rules)
    ∙ all_below test c.args.m
