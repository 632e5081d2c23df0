-- What is held of words that a painting call is lent, or a row's text.
use Rattle.std.specs.Prelude.{ℕ, List}
use Rattle.screen.specs.declared.Screen.{Screen}
use Rattle.screen.specs.Depths.{Depths, depths_in}
use Rattle.paint.specs.declared.canvas.stored.Canvas.{Canvas}
use Rattle.theorem_once.specs.Words.{stored-words}
use Rattle.theorem_once.specs.declared.painting.BeginLent.{BeginLent}
use Rattle.theorem_once.specs.declared.painting.PaintLent.{PaintLent}
use Rattle.theorem_once.specs.declared.painting.WriteLent.{WriteLent}
use Rattle.theorem_once.specs.declared.texts.RowTextLent.{RowTextLent}

-- the depth words with their minima, and the painting words
abbrev pub canvas-words : Canvas → Depths × List ℕ
canvas-words c = (depths_in c.depth, c.painting.now)

abbrev pub begin-words : BeginLent → Screen × (Depths × List ℕ)
begin-words l = (l.screen, canvas-words l.canvas)

abbrev pub paint-words : PaintLent → List (List ℕ) × (Depths × List ℕ) × List ℕ
paint-words l = (stored-words l.stored, canvas-words l.canvas, l.list.now)

abbrev pub write-words : WriteLent → Screen × Depths × List ℕ
write-words l = (l.screen, depths_in l.depth, l.list.now)

abbrev pub row-text-words : RowTextLent → List (List ℕ) × (Depths × List ℕ) × List ℕ × List ℕ
row-text-words l = (stored-words l.stored, canvas-words l.canvas, l.list.now, l.bytes.now)
