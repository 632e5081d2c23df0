-- Where the file has no size or its recording is refused, there are no details; where not, the tables hold the rules' screen, and its details stand after its lines.
use Rattle.std.proofs.Common.{sym, ◌∙◌, arith}
use Rattle.screen.specs.Screens.{setup-of}
use Rattle.text.proofs.FileTexts.{exact_kept}
use Rattle.text_files.proofs.Laws.{is-refused, is-done}
use Rattle.text_dump.proofs.Files.{unsized-whole, call-long, refused-whole, accepted-whole}
use Rattle.text_dump.proofs.lines_text.Goals as goal

pub returns-in-Err : goal.returns-in-Err
returns-in-Err c = unsized-whole c.args.panels c.args.edition (setup-of c.args.setup) c.requires.usual _ _ c.requires.room c.in-Err.ensures.size c.no_screen.ensures c.refuse.ensures

pub returns-then-is_err : goal.returns-then-is_err
returns-then-is_err c =
    refused-whole c.args.panels c.args.edition (setup-of c.args.setup) c.requires.usual _ _ c.requires.room c.in-Ok.ensures.size c.lend-lent.ensures c.in-Ok.ensures.words
    c.recording_text-text.ensures.text (is-refused _ (sym c.is_err.ensures.value ∙ c.if-is_err.true))

pub slice_bounds-screen_text-count : goal.slice_bounds-screen_text-count
slice_bounds-screen_text-count c =
    let long = call-long c.args.panels c.args.edition (setup-of c.args.setup) c.requires.usual _ _ c.requires.room c.in-Ok.ensures.size c.lend-lent.ensures c.in-Ok.ensures.words c.recording_text-text.ensures.text in
    omega (arith, long)

pub slice_bounds-screen_text-start : goal.slice_bounds-screen_text-start
slice_bounds-screen_text-start c =
    let long = call-long c.args.panels c.args.edition (setup-of c.args.setup) c.requires.usual _ _ c.requires.room c.in-Ok.ensures.size c.lend-lent.ensures c.in-Ok.ensures.words c.recording_text-text.ensures.text in
    omega (arith, long)

pub returns : goal.returns
returns c =
    accepted-whole c.args.panels c.args.edition (setup-of c.args.setup) c.requires.usual _ _ c.requires.room c.in-Ok.ensures.size c.lend-lent.ensures c.in-Ok.ensures.words
    c.recording_text-text.ensures.text (λ i. omega (arith, c.type_inv.bytes i)) (exact_kept _ _ c.recording_text-text.ensures.same c.lend-lent.ensures)
    (is-done _ (sym c.is_err.ensures.value ∙ c.if-is_err.false)) _ c.requires.pieces
    c.screen_text-more.ensures.out_after c.screen_text-more.ensures.upper_bound (omega arith)
