-- What the one look sees, part by part, is what the exact judge asks.
use mathlib.Core.Path.{◌≡◌, sym, ◌∙◌}
use mathlib.Core.Bool.{Bool, true, ◌&&◌}
use lib.Dec.{eqb, ltb}
use Prim.Native.Nat.{◌/◌}
use native.Mathlib.Omega.{arith}
use Rattle.std.proofs.Common.{length}
use borrow.Author.Tests.{ltb-true, lt-leb, le-leb, eqb-true}
use Rattle.rules.proofs.All.{and_left, and_right}
use Rattle.screen.proofs.ScreenLaws.{room, few_rows, few-buckets}
use Rattle.host.specs.OneLook.{corner-box}
use Rattle.host.specs.State.{width-at}
use Rattle.host.proofs.OneLook.{sure, stands}
use Rattle.host.proofs.sure.sure_buckets.Goals as goal

pub is_long-requires : goal.is_long-requires
is_long-requires c =
    let s = c.args.state.now in
    let v = c.is_view.result in
    let k = c.is_counts.result in
    let b : Bool = eqb s.layers 0 && eqb s.painting 1 in
    let h = c.is_whole.result in
    let vk : (v && k) ≡ true = and_left (v && k) b (and_left (v && k && b) h c.if-not-words.false) in
    let view = c.is_view.ensures (and_left v k vk) in
    let counted = c.is_counts.ensures (and_right v k vk) in
    record { few = rw view.down (few_rows (corner-box s.viewport) view.good); rooms = ((room _ counted.c).few, (room _ counted.d).few) }

pub buckets_of-requires : goal.buckets_of-requires
buckets_of-requires c = omega arith

pub is_canvas_long-requires : goal.is_canvas_long-requires
is_canvas_long-requires c =
    let s = c.args.state.now in
    let v = c.is_view.result in
    let k = c.is_counts.result in
    let b : Bool = eqb s.layers 0 && eqb s.painting 1 in
    let h = c.is_whole.result in
    let vk : (v && k) ≡ true = and_left (v && k) b (and_left (v && k && b) h c.if-not-words.false) in
    let view = c.is_view.ensures (and_left v k vk) in
    let wide = c.in-Some.ensures.1 in (
      rw view.down (few_rows (corner-box s.viewport) view.good),
      rw (wide, view.across) (few-buckets (corner-box s.viewport) view.good (width-at s.width)),
    )

pub returns : goal.returns
returns c below64 =
    let s = c.args.state.now in
    let v = c.is_view.result in
    let k = c.is_counts.result in
    let z = eqb s.layers 0 in
    let p = eqb s.painting 1 in
    let b : Bool = z && p in
    let h = c.is_whole.result in
    let vkb : (v && k && b) ≡ true = and_left (v && k && b) h c.if-not-words.false in
    let vk : (v && k) ≡ true = and_left (v && k) b vkb in
    let zp : (z && p) ≡ true = and_right (v && k) b vkb in
    let view = c.is_view.ensures (and_left v k vk) in
    let whole = rw (view.across, view.down) at (sym c.is_whole.ensures ∙ and_right (v && k && b) h c.if-not-words.false) in
    let wide = c.in-Some.ensures in
    let n = c.side-h.result / 4 in
    let r = ltb c.args.row n in
    let l = c.is_long.result in
    let q = c.is_canvas_long.result in
    let i = eqb (length c.args.stored.now.paint_attrs.now) 9216 in
    let j = eqb (length c.args.stored.now.layer_attrs.now) 7168 in
    let t : Bool = i && j in
    let rlq : (r && l && q) ≡ true = and_left (r && l && q) t c.if-not-long.false in
    let rl : (r && l) ≡ true = and_left (r && l) q rlq in
    let below = rw view.down at (lt-leb n c.args.row (ltb-true _ _ (and_left r l rl))) in
    let long = rw view.down at (sym c.is_long.ensures ∙ and_right r l rl) in
    let canvas = rw (view.down, wide.1, view.across) at (sym c.is_canvas_long.ensures ∙ and_right (r && l) q rlq) in (
      sure s c.args.row _ _ _ _ _ _ _ _ view.good (c.is_counts.ensures (and_right v k vk)) (and_left z p zp) (and_right z p zp) whole below long canvas
          (and_right (r && l && q) t c.if-not-long.false),
      stands s (rw (eqb-true _ _ (and_right z p zp))) (le-leb _ _ wide.0),
      rw (wide.1, view.across),
    )
