-- The row's parts have their lengths.
use Rattle.std.proofs.Common.{◌≡◌, sym, subst, ◌*◌, length}
use Rattle.sizes.specs.Sizes.{row-size}
use Rattle.row.specs.Words.{Words}
use Rattle.row.proofs.RowsLaws.{at-state, at-render, at-fills}
use Rattle.text.proofs.listing.ScreenText.is_good_row.Goals as goal

pub is_good-requires : goal.is_good-requires
is_good-requires c =
    let o = c.requires.arenas.long in
    let s = c.args.self.now.screen in
    subst (λ (w : Words). (length w.state ≡ row-size) × (length w.render ≡ 4 * s.c) × (length w.fills ≡ 2 * s.d)) (sym c.row.ensures.words)
    (at-state _ _ _ _ o c.requires.within, at-render _ _ _ _ o c.requires.within, at-fills _ _ _ _ o c.requires.within)
