-- So far the header and the lines of the first r rows are written.
use Rattle.row.specs.Arena.{sizes}
use Rattle.text.specs.Texts.{Writes}
use Rattle.text.specs.Printed.{screen_words}
use Rattle.text.specs.Listed.{rows-lines, text_of}
use Rattle.text.proofs.listing.ScreenTextPrint.print.Given as goal

abbrev pub invariant-loop-r : goal.invariant-loop-r
invariant-loop-r l = Writes (text_of (rows-lines (sizes l.self.screen.c l.self.screen.d) l.buckets (screen_words l.self) l.r)) l.initial.out l.out
