-- The draws' lines, then the layers'; or one reason.
use Rattle.std.proofs.Common.{refl}
use Rattle.text_why.proofs.Lines.{every-line, one_line}
use Rattle.text_why.proofs.AnswerPrint.print.Goals as goal

pub returns-in-Every : goal.returns-in-Every
returns-in-Every c = rw c.in-Every.is (every-line c.args.self.now.lines.now _ _ _ refl c.print_kind_lines.ensures c.print_kind_lines-in-Every.ensures)

pub returns-in-One : goal.returns-in-One
returns-in-One c = rw c.in-One.is (one_line c.args.self.now.lines.now _ _ _ refl _ _ c.reason_of.ensures c.print_reason.ensures)
