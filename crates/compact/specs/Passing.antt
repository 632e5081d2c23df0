-- The one pass over a row's words. The commands kept so far stand at the front, the newest last.
use Rattle.std.specs.Prelude.{Option, None, Some, ℕ, ◌+◌, ◌-◌, ◌*◌, ◌≡◌, ◌≤◌, Bool, ◌&&◌, ◌||◌, cond, List, [], ◌++◌, length, get_or, replicate, ltb, eqb}
use Rattle.sizes.specs.Sizes.{tile-end}
use Rattle.rules.specs.Lists.{join, is-empty}
use Rattle.rules.specs.Spans.{Span}
use Rattle.rules.specs.Commands.{Command, paint-fill, layer-fill, push-buf, pop-buf, command_words}
use Rattle.rules.specs.Attributes.{Attrs}
use Rattle.rules.specs.Painting.{paint-id, layer-id}
use Rattle.rules.specs.Depth.{visible-runs}
use Rattle.rules.specs.Compacted.{passed, turned-round}
use Rattle.span.specs.Spans.{tiles}
use Rattle.span.specs.declared.TileSpan.{TileSpan}
use Rattle.cmd.specs.Commands.{put4}
use Rattle.cmd.specs.declared.command.CmdWords.{CmdWords}
use Rattle.paint.specs.declared.command.marks.Mark.{Mark}
use Rattle.compact.specs.declared.commands.Kind.{Kind}
use Rattle.compact.specs.declared.commands.Kind.TheVariants.{Fill, Push, Pop}

-- what a command is to the pass
abbrev pub tile-span : Span → TileSpan
tile-span s = record { first = s.first; end = s.end }

abbrev pub kind-of : Attrs → Command → Kind
kind-of a (paint-fill s x i) = Fill (tile-span s) (paint-id a i)
kind-of a (layer-fill s x i) = Fill (tile-span s) (layer-id a i)
kind-of a (push-buf s) = Push
kind-of a pop-buf = Pop

abbrev pub fill-kind : TileSpan → Option Mark → Option Kind
fill-kind s None = None
fill-kind s (Some m) = Some (Fill s m.id)

abbrev pub GoodKind : Kind → Type 0
GoodKind (Fill s id) = (s.first ≤ s.end) × (s.end ≤ tile-end)
GoodKind Push = Unit
GoodKind Pop = Unit

-- a row's commands, and how many of them are kept
pub record Packed : Type 0 where
  pub words : List ℕ
  pub left : ℕ

abbrev pub packed : List ℕ → ℕ → Packed
packed ws n = record { words = ws; left = n }

-- four words put behind
abbrev pub kept-at : CmdWords → Packed → Packed
kept-at w p = packed (put4 p.words p.left w.tag w.span.0 w.alpha w.attrs_idx) (p.left + 1)

-- a PushBuf, without or with a span
abbrev pub is-push : ℕ → Bool
is-push t = eqb t 5 || eqb t 6

abbrev pub popped : CmdWords → Packed → Packed
popped w p = cond (ltb 0 p.left && is-push (get_or p.words (4 * (p.left - 1)) 0)) (packed p.words (p.left - 1)) (kept-at w p)

-- a command of a kind, at v tiles a bucket, bs being the newest ids
abbrev pub taken : ℕ → List ℕ → CmdWords → Kind → Packed → Packed
taken v bs w (Fill s id) p = cond (is-empty (visible-runs v bs id (tiles s))) p (kept-at w p)
taken v bs w Push p = kept-at w p
taken v bs w Pop p = popped w p

-- commands at a row's front, and zeros behind them
abbrev pub closed-up : List Command → List ℕ → List ℕ
closed-up cs ws = join command_words cs ++ replicate (length ws - 4 * length cs) 0

-- what the pass leaves of the commands cs, in their order
abbrev pub left-of : ℕ → Attrs → List ℕ → List Command → List Command
left-of v a bs cs = turned-round (passed v a bs [] cs) []

pub record Closed (v : ℕ) (a : Attrs) (bs : List ℕ) (cs : List Command) (ws ws' : List ℕ) (n : ℕ) : Type 0 where
  pub count : n ≡ length (left-of v a bs cs)
  pub words : ws' ≡ closed-up (left-of v a bs cs) ws
