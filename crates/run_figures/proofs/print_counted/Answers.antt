use Rattle.std.proofs.Common.{rules}
use Rattle.text_programs.specs.Arguments.{reading_of}
use Rattle.text_programs.specs.Failures.{Begins}
use Rattle.run_figures.proofs.Printing.{of-many, of-few, many-done, few-done}
use Rattle.run_figures.proofs.print_counted.Goals as goal

pub returns-in-Some-clause-ok : goal.returns-in-Some-clause-ok
returns-in-Some-clause-ok g c =
    few-done (reading_of c.args.reading) c.count_stream.new.counted (search rules) _ _ _ _ _ (rw c.in-Some.is at c.in_ok-n.ensures.read) c.write_lines.ensures.ok

pub returns-in-Some-clause-begun : goal.returns-in-Some-clause-begun
returns-in-Some-clause-begun g c =
    of-few (reading_of c.args.reading) c.count_stream.new.counted (search rules) (Begins (g.W.Write.contents c.args.output.now) (g.W.Write.contents c.write_lines.new.output)) _ _
    (rw c.in-Some.is at c.in_ok-n.ensures.read) c.write_lines.ensures.begun

pub returns-in-None-clause-ok : goal.returns-in-None-clause-ok
returns-in-None-clause-ok g c =
    many-done (reading_of c.args.reading) c.count_stream.new.counted (search rules) _ _ _ _ (rw c.in-None.is at c.in_ok-n.ensures.read) c.write_many.ensures.ok

pub returns-in-None-clause-begun : goal.returns-in-None-clause-begun
returns-in-None-clause-begun g c =
    of-many (reading_of c.args.reading) c.count_stream.new.counted (search rules) (Begins (g.W.Write.contents c.args.output.now) (g.W.Write.contents c.write_many.new.output)) _
    (rw c.in-None.is at c.in_ok-n.ensures.read) c.write_many.ensures.begun
