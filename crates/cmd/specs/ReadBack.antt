-- A good command's words are read back as that command, and words that are read are those that it writes; so are a depth fill's.
use Rattle.std.specs.Prelude.{ℕ, ◌≡◌, ◌<◌, Option, Some, option_map}
use Rattle.rules.specs.Commands.{command_words, depth-words}
use Rattle.cmd.specs.declared.command.RenderCmd.{RenderCmd}
use Rattle.cmd.specs.declared.command.CmdWords.{CmdWords}
use Rattle.cmd.specs.declared.depth_fill.DepthFill.{DepthFill}
use Rattle.cmd.specs.declared.depth_fill.DepthWords.{DepthWords}
use Rattle.cmd.specs.Commands.{command, words_of, read-words}
use Rattle.cmd.specs.DepthFills.{depth-fill, depth-words-of, read-depth-words}
use Rattle.cmd.specs.Good.{GoodCommand, GoodDepthFill}

-- w: the words of the command k, by the contract of `words`; r: what `read` gives of them, by its own
abbrev pub CommandsReadBack : Type 0
CommandsReadBack =
    (k : RenderCmd) (w : CmdWords) (r : Option RenderCmd) → GoodCommand (command k) → words_of w ≡ command_words (command k)
    → option_map command r ≡ read-words w → r ≡ Some k

-- w: words that are read as the command k; v: the words that `words` gives of k
abbrev pub CommandsWrittenBack : Type 0
CommandsWrittenBack =
    (w v : CmdWords) (k : RenderCmd) → option_map command (Some k) ≡ read-words w → words_of v ≡ command_words (command k) → v ≡ w

-- depth fills of a row of n buckets, likewise
abbrev pub DepthFillsReadBack : Type 0
DepthFillsReadBack =
    (n : ℕ) (f : DepthFill) (w : DepthWords) (r : Option DepthFill) → n < 65536 → GoodDepthFill n (depth-fill f)
    → depth-words-of w ≡ depth-words (depth-fill f) → option_map depth-fill r ≡ read-depth-words n w → r ≡ Some f

abbrev pub DepthFillsWrittenBack : Type 0
DepthFillsWrittenBack =
    (n : ℕ) (w v : DepthWords) (f : DepthFill) → option_map depth-fill (Some f) ≡ read-depth-words n w
    → depth-words-of v ≡ depth-words (depth-fill f) → v ≡ w
