-- The calls on a host's structs: what each leaves, and what its definition gives at what the structs held.
use Rattle.std.specs.Prelude.{ℕ, List, Float, ℤ}
use Rattle.rules.specs.Recording.{File}
use Rattle.rules.specs.Answers.{Answer}
use Rattle.row.specs.Words.{Words}
use Rattle.span.specs.declared.TileSpan.{TileSpan}
use Rattle.rules.specs.Spans.{span}
use Rattle.screen.specs.declared.lent.Lent.{Lent}
use Rattle.screen.specs.Lent.{tables_in}
use Rattle.screen.specs.Tables.{Tables}
use Rattle.screen.specs.Depths.{Depths, depths_in}
use Rattle.paint.specs.declared.canvas.stored.Stored.{Stored}
use Rattle.paint.specs.Named.{row_lent, row_attrs}
use Rattle.host.specs.declared.state.StateWords.{StateWords}
use Rattle.host.specs.declared.state.SetupWords.{SetupWords}
use Rattle.paint.specs.declared.canvas.stored.Canvas.{Canvas}
use Rattle.host.specs.declared.build.DrawWords.{DrawWords}
use Rattle.host.specs.declared.layer.PropsWords.{PropsWords}
use Rattle.host.specs.declared.layer.FilterWords.{FilterWords}
use Rattle.host.specs.declared.reasons.QuestionWords.{QuestionWords}
use Rattle.host.specs.declared.reasons.ReasonWords.{ReasonWords}
use Rattle.host.specs.declared.results.PaintedWords.{PaintedWords}
use Rattle.host.specs.Held.{words_in, draw_in, props_of, filter_of, painted_in, one, reason_in}
use Rattle.host.specs.Lent.{rows_in}
use Rattle.host.specs.Asked.{FileWords}
use Rattle.host.specs.Building.{fill_call, push_call, filter_call}
use Rattle.host.specs.Painting.{step_call, row_call, own_row_call, write_call}
use Rattle.host.specs.Reasons.{why_asked, why_call}

-- a fill: the state, the rows and the paint attributes
abbrev pub fill_out : StateWords → Lent → List ℕ × Words × List ℕ
fill_out w t = (words_in w, rows_in t, t.paint_attrs.now)

abbrev pub fill_on : List ℕ → List ℕ → DrawWords → StateWords → Lent → Answer (List ℕ × Words × List ℕ)
fill_on paints segments d w t = fill_call paints segments (draw_in d) (words_in w) (rows_in t) t.paint_attrs.now

-- a push: the state, the rows, the open layers and the opacities
abbrev pub push_out : StateWords → Lent → List ℕ × Words × List ℕ × List Float
push_out w t = (words_in w, rows_in t, t.layers.now, t.opacities.now)

abbrev pub push_on : PropsWords → StateWords → Lent → Answer (List ℕ × Words × List ℕ × List Float)
push_on p w t = push_call p.flag (props_of p) (words_in w) (rows_in t) t.layers.now t.opacities.now

-- a filter fill: the state, the rows, the paint attributes and the filter paints
abbrev pub filter_out : StateWords → Lent → List ℕ × Words × List ℕ × List ℤ
filter_out w t = (words_in w, rows_in t, t.paint_attrs.now, t.filter_paints.now)

abbrev pub filter_on : FilterWords → StateWords → Lent → Answer (List ℕ × Words × List ℕ × List ℤ)
filter_on f w t = filter_call f.has_pixmap (filter_of f) (words_in w) (rows_in t) t.paint_attrs.now t.filter_paints.now

-- a question: the state, the tables and the reason
abbrev pub why_out : StateWords → Lent → ReasonWords → List ℕ × Tables × List ℕ
why_out w t r = (words_in w, tables_in t, reason_in r)

abbrev pub why_of : File → SetupWords → QuestionWords → StateWords → Lent → ReasonWords → Answer (List ℕ × Tables × List ℕ)
why_of file s q w t r = why_asked file s q.row q.tile q.layer q.attribute (words_in w) (tables_in t) (reason_in r)

abbrev pub why_on : FileWords → SetupWords → QuestionWords → StateWords → Lent → ReasonWords → Answer (List ℕ × Tables × List ℕ)
why_on file s q w t r = why_call file s q.row q.tile q.layer q.attribute (words_in w) (tables_in t) (reason_in r)

-- painting: the canvas, the list and the result
abbrev pub canvas_out : Canvas → List ℕ → PaintedWords → Depths × List ℕ × List ℕ × List ℕ
canvas_out c l p = (depths_in c.depth, c.painting.now, l, painted_in p)

abbrev pub step_on : ℕ → StateWords → Stored → Canvas → List ℕ → PaintedWords → Answer (Depths × List ℕ × List ℕ × List ℕ)
step_on row w s c l p = step_call row (row_attrs s) (words_in w) (row_lent s c l) (painted_in p)

abbrev pub row_on : ℕ → StateWords → Stored → Canvas → List ℕ → PaintedWords → Answer (Depths × List ℕ × List ℕ × List ℕ)
row_on row w s c l p = row_call row (row_attrs s) (words_in w) (row_lent s c l) (painted_in p)

abbrev pub own_row_on : StateWords → Stored → Canvas → List ℕ → PaintedWords → Answer (Depths × List ℕ × List ℕ × List ℕ)
own_row_on w s c l p = own_row_call (row_attrs s) (words_in w) (row_lent s c l) (painted_in p)

-- runs that are written: the state, the depth words with their minima, the list and the count
abbrev pub write_out : StateWords → Canvas → List ℕ → ℕ → List ℕ × Depths × List ℕ × List ℕ
write_out w c l n = (words_in w, depths_in c.depth, l, one n)

abbrev pub write_on : ℕ → TileSpan → ℕ → StateWords → Canvas → List ℕ → ℕ → Answer (List ℕ × Depths × List ℕ × List ℕ)
write_on row b id w c l n = write_call row (span b.first b.end) id (words_in w) (depths_in c.depth) l (one n)
