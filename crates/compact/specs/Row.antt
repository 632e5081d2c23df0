-- One row's words, and what compacting makes of them.
use Rattle.std.specs.Prelude.{Option, None, Some, ℕ, ◌*◌, Bool, ◌&&◌, cond, List, length, set, leb, option_map, option_and_then}
use Rattle.sizes.specs.Sizes.{renders-at, depths-at}
use Rattle.rules.specs.Answers.{Answer, answer, Done, BadRecord}
use Rattle.rules.specs.Commands.{Command, DepthFill}
use Rattle.rules.specs.Attributes.{Attrs}
use Rattle.rules.specs.Rows.{Row, fresh-row}
use Rattle.rules.specs.Compacted.{compacted}
use Rattle.row.specs.Words.{Words, words, word}
use Rattle.compact.specs.Reading.{fills-from, commands-from}
use Rattle.compact.specs.Passing.{closed-up}

-- the counts have room in the words
abbrev pub has-counts : Words → Bool
has-counts w = leb (4 * word renders-at w) (length w.render) && leb (2 * word depths-at w) (length w.fills)

-- a row of the rules that has these
abbrev pub row-with : List DepthFill → List Command → Row
row-with fs cs = record fresh-row { commands = cs; fills = fs }

-- The row of n buckets that the words stand for, as far as compacting reads it; none where a count, a tag, a place, an attribute or an id is out of bounds
unfoldable pub row-read : Attrs → ℕ → Words → Option Row
row-read a n w =
    cond (has-counts w)
    (option_and_then (λ fs. option_map (row-with fs) (commands-from a w.render 0 (word renders-at w))) (fills-from a n w.fills 0 (word depths-at w)))
    None

-- the row's words with other commands: their count, themselves, and zeros behind them
abbrev pub with-commands : List Command → Words → Words
with-commands cs w = words (set w.state renders-at (length cs)) (closed-up cs w.render) w.fills

abbrev pub or-forged : Words → Option Words → Answer Words
or-forged w None = answer BadRecord w
or-forged w (Some u) = answer Done u

-- at v tiles a bucket: refused, 4, or the commands that the rules leave; nothing else changes
unfoldable pub compact-words : ℕ → ℕ → Attrs → Words → Answer Words
compact-words v n a w = or-forged w (option_map (λ r. with-commands (compacted v n a r) w) (row-read a n w))
