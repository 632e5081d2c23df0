-- A fill, whole or by its runs.
use Rattle.std.proofs.Common.{refl, sym, ◌≡◌, ◌∙◌, ◌+◌, ◌*◌, ◌%◌, ◌≤◌, ℕ, List, arith, length, leb-true}
use Rattle.sizes.specs.Sizes.{piece-size}
use Rattle.sizes.specs.Widths.{bucket-tiles}
use Rattle.rules.specs.Lists.{join}
use Rattle.rules.specs.Spans.{Span}
use Rattle.cmd.specs.Attrs.{words-at}
use Rattle.depth.proofs.Searching.{runs-few}
use Rattle.paint.specs.Reading.{attrs_of}
use Rattle.paint.specs.Kinds.{place, runs-met, run-words}
use Rattle.screen.specs.Depths.{depths}
use Rattle.paint.specs.Rows.{Ran, count_of, reached}
use Rattle.paint.specs.Scales.{tiles_in}
use Rattle.paint.specs.Summaries.{summary-at}
use Rattle.paint.proofs.Looks.{whole_shown, met_shown}
use Rattle.paint.proofs.Saying.{FillStep, fill_step, gives-whole, gives-runs}
use Rattle.paint.proofs.Putting.{length_runs}
use Rattle.paint.proofs.Along.{reach-none, on_written}
use Rattle.paint.proofs.whole.commands.Seen.put.Goals as goal
use Rattle.paint.proofs.whole.commands.Seen.put.Goals.{Else-not-is_fill}

pub put_fill-requires-clause-room : goal.put_fill-requires-clause-room
put_fill-requires-clause-room c =
    let fits = leb-true _ _ (sym c.has_room-else-is_apart.ensures ∙ c.if-not-has_room-2.false) in
    omega (arith, runs-few, c.most_runs.ensures, fits)

-- the fill's step
step : (c : Else-not-is_fill) → let row = c.args.self.row in
    FillStep (bucket-tiles row.width) (attrs_of row.attrs) (summary-at row.state.now) c.args.depth.now c.args.cut.nesting c.args.cut.words c.args.cut.mark
step c =
    let fill = c.is_fill.ensures c.if-not-is_fill.false in
    fill_step _ (attrs_of c.args.self.row.attrs) _ _ _ _ _ fill.0 c.requires.tag.0 c.requires.tag.1 c.requires.mark

-- it lies within the row's buckets
there : (c : Else-not-is_fill) → c.args.cut.words.span.0 % 65536 ≤ length c.args.depth.now * bucket-tiles c.args.self.row.width
there c =
    let fill = c.is_fill.ensures c.if-not-is_fill.false in
    omega (arith, fill.2, c.requires.tiles)

-- before it
still : (c : Else-not-is_fill) → let p = c.args.pieces.now in (ms : List ℕ) → Ran c.args.self.row (depths c.args.depth.now ms) c.args.at c.args.cut.nesting p (reached c.args.at c.args.cut.nesting) p
still c =
    let p = c.args.pieces.now in
    λ ms. reach-none _ _ _ (place c.args.at (count_of p) c.args.cut.nesting p.list.now) c.requires.at.1 (omega (arith, p.few, p.whole))

pub returns-else-not-has_room-clause-settled : goal.returns-else-not-has_room-clause-settled
returns-else-not-has_room-clause-settled c =
    let at = (goal.at.returns-else-not-has_room-clause-settled c).Else-not-is_fill in
    let seen = c.args.self in
    let p = c.args.pieces.now in
    let words = c.requires.words in
    let fill = c.is_fill.ensures c.if-not-is_fill.false in
    let apart = rw (c.first.ensures, c.end.ensures, seen.summary) at (sym c.is_apart.ensures ∙ c.if-is_apart.true) in
    let gives = gives-whole _ _ _ _ _ _ _ (step at) (whole_shown _ _ _ _ _ fill.0 fill.1 (there at) apart) in
    let room : p.at + piece-size * 1 ≤ length p.list.now = leb-true _ _ (sym c.has_room.ensures ∙ c.if-not-has_room.false) in
    let list = (rw c.whole.ensures at c.push.ensures.list) in
    λ ms. on_written _ _ _ _ _ _ ms c.requires.calm _ _ p.at _ _ (still at ms) p.whole c.requires.at.0 1 _ _ (rw words at gives) refl
    c.requires.at.1 room _ c.push.ensures.at _ (rw words at list)

pub returns-else-not-has_room-2-clause-settled : goal.returns-else-not-has_room-2-clause-settled
returns-else-not-has_room-2-clause-settled c =
    let at = (goal.at.returns-else-not-has_room-2-clause-settled c).Else-not-is_fill in
    let seen = c.args.self in
    let cut = c.args.cut in
    let D = c.args.depth.now in
    let p = c.args.pieces.now in
    let words = c.requires.words in
    let fill = c.is_fill.ensures c.if-not-is_fill.false in
    let met = rw (c.first.ensures, c.end.ensures, seen.summary) at (sym c.is_apart.ensures ∙ c.if-is_apart.false) in
    let gives = gives-runs _ _ _ _ _ _ _ (step at) _ (met_shown _ _ _ _ _ fill.0 fill.1 (there at) met) in
    let rs : List Span = runs-met (tiles_in cut.scale) D cut.mark.id cut.words.span.0 in
    let room : p.at + piece-size * length rs ≤ length p.list.now =
    let fits = leb-true _ _ (sym c.has_room-else-is_apart.ensures ∙ c.if-not-has_room-2.false) in
    omega (arith, runs-few, c.most_runs.ensures, fits)
    in
    let list : c.put_fill.new.pieces.list.now ≡ words-at p.list.now p.at (join (run-words (tiles_in cut.scale) cut.words cut.nesting cut.mark.panel) rs) =
    c.put_fill.ensures.list
    in
    let wide : tiles_in cut.scale ≡ bucket-tiles seen.row.width = rw c.requires.scale seen.wide in
    λ ms. on_written _ _ _ _ _ _ ms c.requires.calm _ _ p.at _ _ (still at ms) p.whole c.requires.at.0 _ _ _ (rw words at gives) (length_runs _ _ _ _ _)
    c.requires.at.1 (rw (wide, words) at room) _ (rw (wide, words) at c.put_fill.ensures.at) _ (rw (wide, words) at list)
