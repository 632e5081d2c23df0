use Rattle.std.proofs.Common.{◌≡◌, ap, sym, arith, ◌∙◌, true, List, ℕ, ◌*◌}
use Rattle.sizes.specs.Sizes.{piece-size}
use Rattle.cmd.specs.Attrs.{words-at}
use Rattle.cmd.specs.Pieces.{piece-words}
use Rattle.tile.specs.Telling.{Line}
use Rattle.tile.specs.Listed.{line_at, was-told, entry_of, piece-of}
use Rattle.tile.proofs.Putting.{put-none, put_same, put-fits, put_more}
use Rattle.tile.proofs.list.put_entries.Goals as goal
use Rattle.tile.proofs.list.put_entries.Goals.{then-is_told, else-is_told}

pub loop-i-init : goal.loop-i-init
loop-i-init c = put-none _ _ _ _

pub put-requires : goal.put-requires
put-requires c =
    let told : was-told (line_at c.args.lines.now c.loop-i.i) ≡ true = ap was-told (sym c.line_at-line.ensures) ∙ sym c.is_told.ensures ∙ c.if-is_told.true in
    put-fits c.args.lines.now c.args.tile c.args.from c.args.list.now c.loop-i.i c.loop-i.k _ c.loop-i.invariant told c.args.n c.loop-i-test.true c.requires.room

pub loop-i-preserved : goal.loop-i-preserved
loop-i-preserved c =
    let ws = c.args.lines.now in
    let same : was-told (line_at ws c.loop-i.i) ≡ c.is_told.result = ap was-told (sym c.line_at-line.ensures) ∙ sym c.is_told.ensures in
    elim c.if-is_told.branch [
      | then-is_told w ↦
          let words = w.piece_of.ensures ∙ ap (λ (l : Line). piece-words (piece-of c.args.tile (entry_of l))) c.line_at-line.ensures in
          rw (w.list-is, w.k-is)
          (put_more ws c.args.tile c.args.from c.args.list.now c.loop-i.i c.loop-i.k _ c.loop-i.invariant (same ∙ w.if-is_told.true) _
          (w.put.ensures ∙ ap (λ (x : List ℕ). words-at c.loop-i.list (piece-size * c.loop-i.k) x) words))
      | else-is_told w ↦
          rw (w.list-is, w.k-is)
          (put_same ws c.args.tile c.args.from c.args.list.now c.loop-i.i c.loop-i.k _ c.loop-i.invariant (same ∙ w.if-is_told.false))
    ]

pub returns : goal.returns
returns c =
    let e : c.loop-i.i ≡ c.args.n = omega arith in
    rw (← e) c.loop-i.invariant.entries
