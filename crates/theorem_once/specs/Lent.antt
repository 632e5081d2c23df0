-- What is held of the words that a building call or a recording is lent.
use Rattle.file.specs.Held.{file_of}
use Rattle.rules.specs.Recording.{File}
use Rattle.std.specs.Prelude.{ℕ, ℤ, Float, List}
use Rattle.row.specs.Words.{Words}
use Rattle.row.specs.Rows.{all-held}
use Rattle.screen.specs.declared.Screen.{Screen}
use Rattle.screen.specs.Tables.{ScreenLent}
use Rattle.fill.specs.declared.list.Draws.{Draws}
use Rattle.screen.specs.Lent.{whole}
use Rattle.theorem_once.specs.declared.building.FillLent.{FillLent}
use Rattle.theorem_once.specs.declared.building.PushLent.{PushLent}
use Rattle.theorem_once.specs.declared.building.PopLent.{PopLent}
use Rattle.theorem_once.specs.declared.building.FilterLent.{FilterLent}
use Rattle.theorem_once.specs.declared.building.CompactLent.{CompactLent}
use Rattle.tally.specs.Listed.{Listed, listed_of, Desk, desk}
use Rattle.theorem_once.specs.declared.recordings.RecordingLent.{RecordingLent}
use Rattle.theorem_once.specs.declared.recordings.FiguresLent.{FiguresLent}

abbrev pub fill-words : FillLent → Screen × Words × List ℕ × List ℕ × List ℕ
fill-words l = (l.screen, all-held l.rows, l.paint_attrs.now, l.paints.now, l.segments.now)

-- .. and a list of draws
abbrev pub list-words : FillLent → Draws → (Screen × Words × List ℕ × List ℕ × List ℕ) × List ℕ × ℕ × ℕ
list-words l d = (fill-words l, d.words.now, d.start, d.end)

abbrev pub push-words : PushLent → Screen × Words × List ℕ × List Float
push-words l = (l.screen, all-held l.rows, l.layers.table.now, l.layers.opacities.now)

abbrev pub pop-words : PopLent → Screen × Words × List ℕ × List Float × List ℕ × List ℕ
pop-words l = (l.screen, all-held l.rows, l.layers.table.now, l.layers.opacities.now, l.layer_attrs.now, l.segments.now)

abbrev pub filter-words : FilterLent → Screen × Words × List ℕ × List ℤ
filter-words l = (l.screen, all-held l.rows, l.paint_attrs.now, l.filter_paints.now)

abbrev pub compact-words : CompactLent → Screen × Words × List ℕ × List ℕ
compact-words l = (l.screen, all-held l.rows, l.paint_attrs.now, l.layer_attrs.now)

abbrev pub recording-words : RecordingLent → ScreenLent × File
recording-words l = (whole l.screen l.lent, file_of l.file)

abbrev pub figures-words : FiguresLent → Listed × ScreenLent × List ℕ
figures-words l = (listed_of l.list, whole l.screen l.lent, l.table.now)

-- .. and what the call leaves
abbrev pub figures-left : FiguresLent → Desk
figures-left l = desk (whole l.screen l.lent) l.table.now
