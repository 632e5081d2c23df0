use Rattle.std.proofs.Common.{rules, ◌-◌, min, refl, ap, ◌∙◌}
use Rattle.text_programs.proofs.Inputs.{short}
use Rattle.text_programs.proofs.Streaming.{nothing_more, none_begun, front_begun, front_done, if_err}
use Rattle.text_programs.proofs.stream.answer_next.Goals as goal

pub returns-in_err-read_all-clause-begun : goal.returns-in_err-read_all-clause-begun
returns-in_err-read_all-clause-begun g c = none_begun c.from_residual.result _ _ _

pub returns-then-branch-head-clause-ok : goal.returns-then-branch-head-clause-ok
returns-then-branch-head-clause-ok g c =
    nothing_more _ _ (short _ _ _ _ c.read_all.new.buf c.in_ok-read_all.ensures.count (search rules) c.in_ok-read_all.ensures.bytes) refl

pub returns-in_err-n-clause-begun : goal.returns-in_err-n-clause-begun
returns-in_err-n-clause-begun g c = none_begun c.from_residual-in_err-n.result _ _ _

pub returns-in_err-answer-clause-begun : goal.returns-in_err-answer-clause-begun
returns-in_err-answer-clause-begun g c =
    if_err c.from_residual-in_err-answer.result
    (front_begun (g.D.Replies.reply c.args.desk.now) g.D.Replies.room c.in_err-answer.ensures.cut _ _ _ _ _ _ c.read_all.new.buf _ (search rules) c.in_ok-read_all.ensures.count (search rules)
    (ap (min _) c.requires.1 ∙ ap (λ s. min s g.D.Replies.room) c.word-size.ensures) c.in_ok-n.ensures.bytes _ _ _ c.in_ok-read_all.ensures.bytes c.in_err-answer.ensures.begun)

pub returns-in_err-skip_rest-clause-begun : goal.returns-in_err-skip_rest-clause-begun
returns-in_err-skip_rest-clause-begun g c = none_begun c.from_residual-in_err-skip_rest.result _ _ _

pub returns-clause-ok : goal.returns-clause-ok
returns-clause-ok g c =
    front_done (g.D.Replies.reply c.args.desk.now) g.D.Replies.room c.in_ok-answer.ensures.cut _ _ _ _ _ _ c.read_all.new.buf _ (search rules) c.in_ok-read_all.ensures.count (search rules)
    (ap (min _) c.requires.1 ∙ ap (λ s. min s g.D.Replies.room) c.word-size.ensures) c.in_ok-n.ensures.bytes _ _ _ _ _ (ap (λ s. s - g.D.Replies.room) c.word-size.ensures) c.in_ok-read_all.ensures.bytes c.in_ok-answer.ensures.ok (rw c.requires.1 at c.in_ok-skip_rest.ensures.ok)
