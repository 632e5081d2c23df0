-- The code's commands, depth fills and words as the rules'.
use Rattle.std.specs.Prelude.{option_map, List, [], ◌∷◌, get_or, set, ℕ, ◌+◌, ◌*◌, ◌/◌, ◌%◌, ◌<◌}
use Rattle.std.specs.Prelude.{Option, None, Some}
use Rattle.rules.specs.Spans.{Span}
use Rattle.rules.specs.Commands.{Command, paint-fill, layer-fill, push-buf, pop-buf}
use Rattle.cmd.specs.Reading.{command_of}
use Rattle.span.specs.declared.TileSpan.{TileSpan}
use Rattle.span.specs.Spans.{tiles}
use Rattle.cmd.specs.declared.command.Fill.{Fill}
use Rattle.cmd.specs.declared.command.RenderCmd.{RenderCmd}
use Rattle.cmd.specs.declared.command.RenderCmd.TheVariants.{PaintFill, LayerFill, PushBuf, PopBuf}
use Rattle.cmd.specs.declared.command.CmdWords.{CmdWords}

abbrev pub command : RenderCmd → Command
command (PaintFill f) = paint-fill (tiles f.span) f.alpha f.attrs_idx
command (LayerFill f) = layer-fill (tiles f.span) f.alpha f.attrs_idx
command (PushBuf r) = push-buf (option_map tiles r)
command PopBuf = pop-buf

abbrev pub words_of : CmdWords → List ℕ
words_of w = w.tag ∷ w.span.0 ∷ w.alpha ∷ w.attrs_idx ∷ []

-- what four words stand for
abbrev pub read-words : CmdWords → Option Command
read-words w = command_of w.tag w.span.0 w.alpha w.attrs_idx

-- the words at place k of a row's commands, and four words stored there
abbrev pub cmd_at : List ℕ → ℕ → CmdWords
cmd_at ws k =
    record { tag = get_or ws (4 * k) 0; span = record { 0 = get_or ws (4 * k + 1) 0 }; alpha = get_or ws (4 * k + 2) 0; attrs_idx = get_or ws (4 * k + 3) 0 }

abbrev pub put4 : List ℕ → ℕ → ℕ → ℕ → ℕ → ℕ → List ℕ
put4 ws k t s a i = set (set (set (set ws (4 * k) t) (4 * k + 1) s) (4 * k + 2) a) (4 * k + 3) i

-- a fill of the tiles that the words name
abbrev pub fill-of : CmdWords → Option ℕ → Fill
fill-of w a = record { span = record { first = w.span.0 / 65536; end = w.span.0 % 65536 }; alpha = a; attrs_idx = w.attrs_idx }

-- tile or bucket numbers that fit half a word
abbrev pub Narrow : Span → Type 0
Narrow s = (s.first < 65536) × (s.end < 65536)

abbrev pub NarrowPush : Option TileSpan → Type 0
NarrowPush None = Unit
NarrowPush (Some s) = Narrow (tiles s)

abbrev pub NarrowCmd : RenderCmd → Type 0
NarrowCmd (PaintFill f) = Narrow (tiles f.span)
NarrowCmd (LayerFill f) = Narrow (tiles f.span)
NarrowCmd (PushBuf r) = NarrowPush r
NarrowCmd PopBuf = Unit
