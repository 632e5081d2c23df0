use Rattle.std.proofs.Common.{rules}
use Rattle.run_figures.proofs.Reading.{none-left, one-read}
use Rattle.run_figures.proofs.next_recording.Goals as goal

pub returns-then-branch-lt-HEAD-clause-read : goal.returns-then-branch-lt-HEAD-clause-read
returns-then-branch-lt-HEAD-clause-read g c =
    none-left _ _ _ c.read_all.new.buf c.in_ok-read_all.ensures.count (search rules) c.in_ok-read_all.ensures.bytes

pub returns-clause-read : goal.returns-clause-read
returns-clause-read g c =
    one-read _ _ _ _ _ c.read_all.new.buf c.read.new.buf (search rules) c.in_ok-read_all.ensures.count (search rules) (search rules) c.in_ok-n.ensures.count c.in_ok-n.ensures.bytes
    _ _ _ (search rules) c.in_ok-read_all.ensures.bytes c.in_ok-skip_rest.ensures.ok
