use Rattle.std.proofs.Common.{◌≡◌, ℕ, length}
use Rattle.text_programs.specs.Streams.{Item}
use Rattle.text_programs.proofs.Streaming.{Written}
use Rattle.text_programs.proofs.stream.answer_all.Given as goal

abbrev pub invariant-loop-i : goal.invariant-loop-i
invariant-loop-i g l =
    g.D.Replies.ready l.desk
    × (length l.head ≡ length l.initial.head)
    × (length l.buffer ≡ g.D.Replies.room)
    × ((j : ℕ) (x : Item) → g.D.Replies.reply l.desk j x ≡ g.D.Replies.reply l.initial.desk j x)
    × Written (g.D.Replies.reply l.initial.desk) (length l.initial.head) l.i (g.R.Read.remaining l.initial.input) (g.R.Read.remaining l.input)
    (g.W.Write.contents l.initial.output)
    (g.W.Write.contents l.output)
