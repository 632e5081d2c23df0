-- What is held of the words that a call is lent that reads a row, and of those that it writes.
use Rattle.std.specs.Prelude.{ℕ, List}
use Rattle.row.specs.Words.{Words}
use Rattle.paint.specs.StoredCmds.{stored_words}
use Rattle.host.specs.Held.{words_in}
use Rattle.host.specs.Reading.{lengths_in, cmd_in, depth_in, progress_in}
use Rattle.theorem_once.specs.declared.reading.LengthsHost.{LengthsHost}
use Rattle.theorem_once.specs.declared.reading.CmdHost.{CmdHost}
use Rattle.theorem_once.specs.declared.reading.DepthHost.{DepthHost}
use Rattle.theorem_once.specs.declared.reading.ProgressHost.{ProgressHost}

abbrev pub lengths-words : LengthsHost → List ℕ × Words × List ℕ
lengths-words h = (words_in h.state, stored_words h.stored, lengths_in h.lengths)

abbrev pub cmd-words : CmdHost → List ℕ × Words × List ℕ
cmd-words h = (words_in h.state, stored_words h.stored, cmd_in h.cmd)

abbrev pub depth-words : DepthHost → List ℕ × Words × List ℕ
depth-words h = (words_in h.state, stored_words h.stored, depth_in h.fill)

abbrev pub progress-words : ProgressHost → List ℕ × List ℕ × List ℕ
progress-words h = (words_in h.state, h.canvas.painting.now, progress_in h.progress)
