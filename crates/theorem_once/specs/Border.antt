-- What is held of the words that a call of the border is lent, and of those that it writes.
use Rattle.std.specs.Prelude.{ℕ, List}
use Rattle.row.specs.Words.{Words}
use Rattle.span.specs.declared.TileSpan.{TileSpan}
use Rattle.screen.specs.declared.lent.Lent.{Lent}
use Rattle.screen.specs.Tables.{Tables}
use Rattle.screen.specs.Depths.{Depths, depths_in}
use Rattle.screen.specs.Lent.{tables_in}
use Rattle.pop.specs.Pop.{PopLent}
use Rattle.fill.specs.declared.list.Draws.{Draws}
use Rattle.host.specs.declared.state.StateWords.{StateWords}
use Rattle.paint.specs.declared.canvas.stored.Canvas.{Canvas}
use Rattle.host.specs.Asked.{FileWords, told}
use Rattle.host.specs.Held.{words_in, painted_in, reason_in, one}
use Rattle.host.specs.Lent.{rows_in, pop_in}
use Rattle.host.specs.Called.{canvas_out, write_out}
use Rattle.theorem_once.specs.declared.border.building.RecordingHost.{RecordingHost}
use Rattle.theorem_once.specs.declared.border.building.FiguresHost.{FiguresHost}
use Rattle.theorem_once.specs.declared.border.building.WhyHost.{WhyHost}
use Rattle.theorem_once.specs.declared.border.building.TileListHost.{TileListHost}
use Rattle.theorem_once.specs.declared.border.building.FillHost.{FillHost}
use Rattle.theorem_once.specs.declared.border.painting.PaintHost.{PaintHost}
use Rattle.host.specs.PaintRows.{RowsLeft, rows_left_in}
use Rattle.theorem_once.specs.declared.border.painting.RowsHost.{RowsHost}
use Rattle.theorem_once.specs.declared.border.painting.RunsHost.{RunsHost}
use Rattle.theorem_once.specs.declared.border.painting.SpansHost.{SpansHost}
use Rattle.theorem_once.specs.declared.border.painting.HiddenHost.{HiddenHost}
use Rattle.theorem_once.specs.declared.border.painting.SkipHost.{SkipHost}

abbrev pub screen-words : StateWords → Lent → List ℕ × Tables
screen-words w t = (words_in w, tables_in t)

abbrev pub recording-words : RecordingHost → FileWords × List ℕ × Tables
recording-words h = (told h.edition h.file.now, words_in h.state, tables_in h.tables)

-- a list of recordings: their edition and words, where each ends, and the numbers
abbrev pub figures-words : FiguresHost → FileWords × List ℕ × List ℕ × Tables × List ℕ
figures-words h = (told h.edition h.words.now, h.ends.now, words_in h.state, tables_in h.tables, h.table.now)

-- .. and what the call leaves
abbrev pub figures-left : FiguresHost → List ℕ × Tables × List ℕ
figures-left h = (words_in h.state, tables_in h.tables, h.table.now)

-- a conversion: the file, the list, and how many words are written
abbrev pub conversion-words : List ℕ → List ℕ → ℕ → List ℕ × List ℕ × List ℕ
conversion-words file out words = (file, out, one words)

abbrev pub conversion-left : List ℕ → ℕ → List ℕ × List ℕ
conversion-left out words = (out, one words)

abbrev pub pop-words : List ℕ → StateWords → Lent → List ℕ × List ℕ × PopLent
pop-words segments w t = (segments, words_in w, pop_in t)

abbrev pub pop-left : StateWords → Lent → List ℕ × PopLent
pop-left w t = (words_in w, pop_in t)

-- a row is compacted: the rows and both tables of attributes
abbrev pub compact-words : StateWords → Lent → List ℕ × Words × List ℕ × List ℕ
compact-words w t = (words_in w, rows_in t, t.paint_attrs.now, t.layer_attrs.now)

abbrev pub compact-left : StateWords → Lent → List ℕ × Words
compact-left w t = (words_in w, rows_in t)

abbrev pub begin-words : StateWords → Canvas → List ℕ × Depths × List ℕ
begin-words w c = (words_in w, depths_in c.depth, c.painting.now)

abbrev pub why-words : WhyHost → List ℕ × Tables × FileWords × List ℕ
why-words h = (words_in h.state, tables_in h.tables, told h.edition h.file.now, reason_in h.reason)

-- a tile's list: the file, the list, and how many entries stand in it
abbrev pub tile-list-words : TileListHost → FileWords × List ℕ × List ℕ
tile-list-words h = (told h.edition h.file.now, h.list.now, one h.entries)

abbrev pub tile-list-left : TileListHost → List ℕ × List ℕ
tile-list-left h = (h.list.now, one h.entries)

abbrev pub fill-words : FillHost → List ℕ × Words × List ℕ × List ℕ × List ℕ
fill-words h = (words_in h.state, rows_in h.tables, h.tables.paint_attrs.now, h.paints.now, h.segments.now)

-- .. and a list of draws
abbrev pub list-words : FillHost → Draws → (List ℕ × Words × List ℕ × List ℕ × List ℕ) × List ℕ × ℕ × ℕ
list-words h d = (fill-words h, d.words.now, d.start, d.end)

-- the state, what is stored, the canvas, the list and the result
abbrev pub paint-words : PaintHost → List ℕ × List ℕ × List ℕ × List ℕ × List ℕ × List ℕ × Depths × List ℕ × List ℕ × List ℕ
paint-words h =
    let s = h.stored in (
      words_in h.state,
      s.rows.now,
      s.render_cmds.now,
      s.depth_cmds.now,
      s.paint_attrs.now,
      s.layer_attrs.now,
      depths_in h.canvas.depth,
      h.canvas.painting.now,
      h.list.now,
      painted_in h.painted,
    )

-- .. and for rows, with their ends; how far they come is written on every answer
abbrev pub rows-words : RowsHost → List ℕ × List ℕ × List ℕ × List ℕ × List ℕ × List ℕ × Depths × List ℕ × List ℕ × List ℕ
rows-words h =
    let s = h.stored in (
      words_in h.state,
      s.rows.now,
      s.render_cmds.now,
      s.depth_cmds.now,
      s.paint_attrs.now,
      s.layer_attrs.now,
      depths_in h.canvas.depth,
      h.canvas.painting.now,
      h.list.now,
      h.ends.now,
    )

abbrev pub rows-left : RowsHost → RowsLeft
rows-left h = rows_left_in h.canvas h.list.now h.ends.now h.painted

abbrev pub paint-left : PaintHost → Depths × List ℕ × List ℕ × List ℕ
paint-left h = canvas_out h.canvas h.list.now h.painted

-- of the canvas, the depth words
abbrev pub runs-words : RunsHost → List ℕ × List ℕ × List ℕ × List ℕ
runs-words h = (words_in h.state, h.canvas.depth.words.now, h.list.now, one h.count)

abbrev pub runs-left : RunsHost → List ℕ × List ℕ
runs-left h = (h.list.now, one h.count)

-- .. and their minima
abbrev pub write-words : RunsHost → List ℕ × Depths × List ℕ × List ℕ
write-words h = write_out h.state h.canvas h.list.now h.count

abbrev pub spans-words : SpansHost → List ℕ × List ℕ × List TileSpan × List ℕ
spans-words h = (words_in h.state, h.canvas.depth.words.now, h.list.now, one h.count)

abbrev pub spans-left : SpansHost → List TileSpan × List ℕ
spans-left h = (h.list.now, one h.count)

abbrev pub hidden-words : HiddenHost → List ℕ × List ℕ × List ℕ
hidden-words h = (words_in h.state, h.minima.now, one h.yes)

-- of what is stored, the rows' records
abbrev pub skip-words : SkipHost → List ℕ × List ℕ × List ℕ
skip-words h = (words_in h.state, h.stored.rows.now, one h.yes)
