-- What the one look sees, part by part, is what the exact judge asks.
use mathlib.Core.Path.{◌≡◌, sym, ◌∙◌}
use mathlib.Core.Bool.{Bool, true, ◌&&◌}
use lib.Dec.{leb}
use Rattle.rules.proofs.All.{and_left, and_right}
use Rattle.screen.proofs.ScreenLaws.{room, few_rows}
use Rattle.host.specs.OneLook.{corner-box}
use Rattle.host.proofs.OneLook.{passes, stands}
use Rattle.host.proofs.sure.is_sure.Goals as goal

pub is_long-requires : goal.is_long-requires
is_long-requires c =
    let s = c.args.state.now in
    let v = c.is_view.result in
    let k = c.is_counts.result in
    let last : Bool = leb s.layers 16 && leb s.painting 1 && leb s.width 2 in
    let vk : (v && k) ≡ true = and_left (v && k) last c.if-not-words.false in
    let view = c.is_view.ensures (and_left v k vk) in
    let counted = c.is_counts.ensures (and_right v k vk) in
    record { few = rw view.down (few_rows (corner-box s.viewport) view.good); rooms = ((room _ counted.c).few, (room _ counted.d).few) }

pub returns : goal.returns
returns c all =
    let s = c.args.state.now in
    let v = c.is_view.result in
    let k = c.is_counts.result in
    let l = leb s.layers 16 in
    let p = leb s.painting 1 in
    let m = leb s.width 2 in
    let last : Bool = l && p && m in
    let vk : (v && k) ≡ true = and_left (v && k) last c.if-not-words.false in
    let view = c.is_view.ensures (and_left v k vk) in
    let rest : (l && p && m) ≡ true = and_right (v && k) last c.if-not-words.false in
    let lp : (l && p) ≡ true = and_left (l && p) m rest in
    let clip = rw (view.across, view.down) at (sym c.is_clip.ensures ∙ and_left c.is_clip.result c.is_long.result all) in
    let long = rw view.down at (sym c.is_long.ensures ∙ and_right c.is_clip.result c.is_long.result all) in (
      passes s _ _ _ view.good (c.is_counts.ensures (and_right v k vk)) (and_left l p lp) clip long,
      stands s (and_right l p lp) (and_right (l && p) m rest),
    )
